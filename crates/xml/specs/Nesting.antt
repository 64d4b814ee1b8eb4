-- A listing that is done closes what it opens.
use Rattle.std.specs.Prelude.{◌≡◌, ℕ, zero, suc, ◌+◌, ◌≤◌, Bool, true, false, List, [], ◌∷◌, map, length, None, Option}
use Rattle.std.proofs.Common.{ap, arith}
use Rattle.labels.specs.Spelling.{part}
use Rattle.labels.specs.declared.name.Name.{Name}
use Rattle.sources.specs.declared.event.Event.{Event}
use Rattle.sources.specs.Events.{ClosedFrom}
use Rattle.xml.specs.Reading.{Finds, Reads}
use Rattle.xml.specs.Reading.Finds.{finish}
use Rattle.xml.specs.Reading.Found.{finishes}
use Rattle.xml.specs.Reading.Reads.{done, refused, skipped, opened, opened_empty, closed}
use Rattle.xml.specs.Means.{labelled, pending, tags_meaning, xml_events, xml_ending}
use Rattle.xml.specs.declared.markup.Markup.{Markup}
use Rattle.xml.specs.declared.fault.XmlFault.{XmlFault}
use Rattle.xml.specs.declared.reader.Xml.{Xml}

finish_empty : (xs : List ℕ) (p : ℕ) (names : List (List ℕ)) (rooted : Bool) (k : Markup) → Finds xs p names rooted k finishes → names ≡ []
finish_empty xs p names rooted k (finish a b) = a

none_left : (k : ℕ) → k ≡ 0 → ClosedFrom {L = Name} k []
none_left zero h = tt
none_left (suc k) h = absurd (omega arith)

-- what is done closes all
all_closed : (xs : List ℕ) (p : ℕ) (names : List (List ℕ)) (rooted : Bool) (es : List (Event (List ℕ))) (end : Option XmlFault) →
    Reads xs p names rooted es end → end ≡ None → (k : ℕ) → k ≤ length names → ClosedFrom k (map labelled es)
all_closed xs p names rooted es end (done f) e k h =
    let n = finish_empty xs p names rooted _ f in let z : length names ≡ 0 = ap length n in none_left k (omega arith)
all_closed xs p names rooted es end (refused g f) e k h = let z : ◌≡◌ {A = ℕ} 0 1 = cc in absurd (omega arith)
all_closed xs p names rooted es end (skipped {q = q} f d) e k h = all_closed xs q names rooted es end d e k h
all_closed xs p names rooted es end (opened {n = n} {q = q} {es = ds} f d) e zero h =
    all_closed xs q (part xs (p + 1) n ∷ names) true ds end d e (suc zero) (omega arith)
all_closed xs p names rooted es end (opened {n = n} {q = q} {es = ds} f d) e (suc k) h =
    all_closed xs q (part xs (p + 1) n ∷ names) true ds end d e (suc (suc k)) (omega arith)
all_closed xs p names rooted es end (opened_empty {n = n} {q = q} {es = ds} f d) e zero h = all_closed xs q names true ds end d e zero h
all_closed xs p names rooted es end (opened_empty {n = n} {q = q} {es = ds} f d) e (suc k) h = all_closed xs q names true ds end d e (suc k) h
all_closed xs p names rooted es end (closed {q = q} {names = ns} {es = ds} f d) e zero h = all_closed xs q ns rooted ds end d e zero (omega arith)
all_closed xs p names rooted es end (closed {q = q} {names = ns} {es = ds} f d) e (suc k) h = all_closed xs q ns rooted ds end d e k (omega arith)

pub xml_nested : (s : Xml) → xml_ending s ≡ None → ClosedFrom 0 (xml_events s)
xml_nested s e = go s.closing (all_closed _ _ _ _ _ _ (tags_meaning s.tags).reads e 0 (omega arith))
  where
    go : (b : Bool) → ClosedFrom 0 (map labelled (tags_meaning s.tags).events) → ClosedFrom 0 (map labelled (pending b (tags_meaning s.tags).events))
    go true h = h
    go false h = h
