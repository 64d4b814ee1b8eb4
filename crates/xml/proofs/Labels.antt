-- The labels of a listing have the bytes of its elements' names.
use Rattle.std.proofs.Common.{◌≡◌, ℕ, ◌+◌, ◌-◌, ◌<◌, Bool, true, false, List, ◌∷◌, length, get_or, drop, map, Option, refl, ap, ◌∙◌, arith, length-drop}
use Rattle.std.proofs.lemmas.List.{length-take-le, get_or-take, get_or-drop}
use Rattle.std.proofs.lemmas.List.Elements.{All-from_get_or, recursion_from_All}
use Rattle.sources.specs.declared.event.Event.{Event}
use Rattle.sources.specs.declared.event.Event.TheVariants.{Open, Close}
use Rattle.labels.specs.Spelling.{byte_at, part, continues_name, Spelled}
use Rattle.labels.specs.Names.{bytes_of}
use Rattle.labels.specs.NameOf.{name_of}
use Rattle.labels.proofs.Making.{name_bytes}
use Rattle.xml.specs.Reading.{Finds, Reads}
use Rattle.xml.specs.Reading.Finds.{start}
use Rattle.xml.specs.Reading.Found.{opens}
use Rattle.xml.specs.Reading.Reads.{done, refused, skipped, opened, opened_empty, closed}
use Rattle.xml.specs.Means.{labelled, spelled}
use Rattle.xml.specs.declared.markup.Markup.{Markup}
use Rattle.xml.specs.declared.fault.XmlFault.{XmlFault}

continuing_small : (b : ℕ) → continues_name b ≡ true → b < 256
continuing_small b h = grind arith

-- the label of a name has its bytes
label_back : (xs : List ℕ) (p n : ℕ) → Spelled xs p n → bytes_of (name_of (part xs p n)) ≡ part xs p n
label_back xs p n h =
    let late = h.0.ends.late in
    let within = h.0.ends.within in
    let l : length (part xs p n) ≡ n - p = length-take-le (n - p) (drop p xs) (omega (arith, length-drop p xs)) in
    let all = All-from_get_or (λ b. b < 256) (part xs p n) 0 (λ i g. small i (omega arith)) in
    name_bytes (part xs p n) (omega arith) (recursion_from_All (λ b. b < 256) (part xs p n) all)
  where
    small : (i : ℕ) → i < n - p → get_or (part xs p n) i 0 < 256
    small i g =
        let e : get_or (part xs p n) i 0 ≡ byte_at xs (p + i) = get_or-take (n - p) (drop p xs) i 0 g ∙ get_or-drop p xs i 0 in
        let s = continuing_small (byte_at xs (p + i)) (h.0.ends.all (p + i) (omega arith) (omega arith)) in
        omega arith

module _ (xs : List ℕ) where
  start_label : (p : ℕ) (names : List (List ℕ)) (rooted : Bool) (k : Markup) (n q : ℕ) (e : Bool) →
      Finds xs p names rooted k (opens n q e) → bytes_of (name_of (part xs (p + 1) n)) ≡ part xs (p + 1) n
  start_label p names rooted k n q e (start r i) = label_back xs (p + 1) n i.name

  pub labels_back : (p : ℕ) (names : List (List ℕ)) (rooted : Bool) (es : List (Event (List ℕ))) (end : Option XmlFault) →
      Reads xs p names rooted es end → map spelled (map labelled es) ≡ es
  labels_back p names rooted es end (done f) = refl
  labels_back p names rooted es end (refused g f) = refl
  labels_back p names rooted es end (skipped {q = q} f d) = labels_back q names rooted es end d
  labels_back p names rooted es end (opened {n = n} {q = q} {es = ds} f d) =
      let w = start_label p names rooted _ n q false f in
      let on = labels_back q (part xs (p + 1) n ∷ names) true ds end d in
      λ i. Open (w i) ∷ on i
  labels_back p names rooted es end (opened_empty {n = n} {q = q} {es = ds} f d) =
      let w = start_label p names rooted _ n q true f in
      let on = labels_back q names true ds end d in
      λ i. Open (w i) ∷ Close ∷ on i
  labels_back p names rooted es end (closed {q = q} {names = ns} {es = ds} f d) = ap (λ x. Close ∷ x) (labels_back q ns rooted ds end d)
