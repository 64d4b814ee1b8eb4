-- No listing of a fitting length meets a limit of a run, nor fills a list with room for a number to every four of its bytes.
use Rattle.std.proofs.Common.{Option, Ok, ◌≡◌, ℕ, suc, ◌+◌, ◌-◌, ◌*◌, ◌<◌, ◌≤◌, ◌⊎◌, Bool, true, false, List, [], ◌∷◌, ◌++◌, length, None, refl, sym, ap, subst, inl, inr, arith, length-append}
use Prim.Native.Char.{code}
use Rattle.std.specs.Str.{bytes_eq}
use Rattle.std.proofs.lemmas.Bool.{cases_lt, both_ways, eqb-true}
use Rattle.labels.specs.Spelling.{byte_at, continues_name, part}
use Rattle.rules.specs.declared.node.RuleNode.{RuleNode}
use Rattle.rules.specs.declared.syntax.ParsedNode.{ParsedNode}
use Rattle.rules.specs.RuleNodes.{plain_nodes}
use Rattle.rules.specs.TestNames.{test_names}
use Rattle.runs.specs.Limits.{depth_limit, openings_limit}
use Rattle.sources.specs.declared.event.Event.{Event}
use Rattle.sources.specs.Nodes.{nodes_from, closing_order_from, nodes, closing_order, open_after}
use Rattle.selection.specs.Answers.{Answer, refused}
use Rattle.selection.specs.Selection.{Accepts, Reported, Refuses, Selects}
use Rattle.selection.proofs.PickMore.{picks_short}
use Rattle.selection.proofs.OneAnswer.{open_accepted, close_accepted, order_split}
use Rattle.xml.specs.Markup.{IsStart, IsEnd}
use Rattle.xml.specs.ScanLaws.{standing, name_long}
use Rattle.xml.specs.Reading.{Reads}
use Rattle.xml.specs.declared.fault.XmlFault.{XmlFault}
use Rattle.xml.proofs.Between.{skips_from, Skipped}
use Rattle.xml.proofs.Grammar.{skips_within, opens_from, start_within, closes_from}
use Rattle.reports.specs.declared.report.Report.{Report}
use Rattle.reports.specs.Refusals.{input_limit, numbers_limit}
use Rattle.reports.specs.Reports.{Concludes, SelectedBy}

-- how long tags are at least
start_long : (xs : List ℕ) (p n q : ℕ) (e : Bool) → IsStart xs p n q e → p + 3 ≤ q
start_long xs p n q e i =
    let named = name_long xs (p + 1) n i.name.0 in
    let late = i.tag.rest.late in
    let ends = i.ends in
    omega arith

-- the `/` of an empty element is no part of its name
empty_long : (xs : List ℕ) (p n q : ℕ) → IsStart xs p n q true → p + 4 ≤ q
empty_long xs p n q i = go (cases_lt n i.close)
  where
    go : ((n < i.close) ⊎ (i.close ≤ n)) → p + 4 ≤ q
    go (inl h) = let named = name_long xs (p + 1) n i.name.0 in let ends = i.ends in omega arith
    go (inr h) =
        let named = name_long xs (p + 1) n i.name.0 in
        let late = i.tag.rest.late in
        let stroke : byte_at xs (i.close - 1) ≡ code "/" = eqb-true (byte_at xs (i.close - 1)) (code "/") (sym i.slash) in
        let in_name : continues_name (byte_at xs (i.close - 1)) ≡ true = i.name.0.ends.all (i.close - 1) (omega arith) (omega arith) in
        absurd (both_ways _ (ap continues_name stroke) in_name)

end_long : (xs : List ℕ) (p n q : ℕ) → IsEnd xs p n q → p + 4 ≤ q
end_long xs p n q i =
    let named = name_long xs (p + 2) n i.name.0 in
    let late = i.tag.space.late in
    let ends = i.ends in
    omega arith

skip_late : (xs : List ℕ) (p q : ℕ) (names : List (List ℕ)) → Skipped xs p q names → p ≤ q
skip_late xs p q names (Skipped.by_text b e h) = omega arith
skip_late xs p q names (Skipped.by_comment b d) = let late = d.first.late in let ends = d.ends in omega arith
skip_late xs p q names (Skipped.by_instruction b d) = let late = d.first.late in let ends = d.ends in omega arith

end_within : (xs : List ℕ) (p n q : ℕ) → IsEnd xs p n q → q ≤ length xs
end_within xs p n q i = let ends = i.ends in omega (arith, standing xs i.close (code ">") i.tag.closes (omega arith))

-- Of a listing from place p on, where n nodes were opened before and those of the path are open: a run accepts the events, each closing
-- has four bytes and each opening three.
record Fits (xs : List ℕ) (p n : ℕ) (path : List ℕ) (es : List (Event (List ℕ))) : Type 0 where
  accepted : length xs ≤ input_limit → Accepts n path es
  closings : p + 4 * length (closing_order_from n path es) ≤ length xs
  openings : p + 3 * length (nodes_from n path es) ≤ length xs

fits_from : (xs : List ℕ) (p : ℕ) (names : List (List ℕ)) (rooted : Bool) (es : List (Event (List ℕ))) (end : Option XmlFault)
    → Reads xs p names rooted es end → (n : ℕ) (path : List ℕ) → length path ≡ length names → 3 * n ≤ p → p ≤ length xs → Fits xs p n path es
fits_from xs p names rooted es end (Reads.done f) n path l b w =
    record { accepted = λ _. tt; closings = omega arith; openings = omega arith }
fits_from xs p names rooted es end (Reads.refused g f) n path l b w =
    record { accepted = λ _. tt; closings = omega arith; openings = omega arith }
fits_from xs p names rooted es end (Reads.skipped {q = q} f d) n path l b w =
    let s = skips_from xs p names rooted _ q refl f in
    let late = skip_late xs p q names s in
    let r = fits_from xs q names rooted es end d n path l (omega arith) (skips_within xs p q names s) in
    let closings = r.closings in
    let openings = r.openings in
    record { accepted = r.accepted; closings = omega arith; openings = omega arith }
fits_from xs p names rooted es end (Reads.opened {n = m} {q = q} {es = ds} f d) n path l b w =
    let s = opens_from xs p names rooted _ m q false refl f in
    let long = start_long xs p m q false s.2 in
    let few = s.1.few in
    let within = start_within xs p m q false s.2 in
    let r = fits_from xs q (part xs (p + 1) m ∷ names) true ds end d (suc n) (n ∷ path) (omega arith) (omega arith) within in
    let closings = r.closings in
    let openings = r.openings in
    record { accepted = λ h. (omega arith, omega arith, r.accepted h); closings = omega arith; openings = omega arith }
fits_from xs p names rooted es end (Reads.opened_empty {n = m} {q = q} {es = ds} f d) n path l b w =
    let s = opens_from xs p names rooted _ m q true refl f in
    let long = empty_long xs p m q s.2 in
    let few = s.1.few in
    let r = fits_from xs q names true ds end d (suc n) path l (omega arith) (start_within xs p m q true s.2) in
    let closings = r.closings in
    let openings = r.openings in
    record { accepted = λ h. (omega arith, omega arith, r.accepted h); closings = omega arith; openings = omega arith }
fits_from xs p names rooted es end (Reads.closed {q = q} {w = name} {names = ns} {es = ds} f d) n [] l b w = absurd (omega arith)
fits_from xs p names rooted es end (Reads.closed {q = q} {w = name} {names = ns} {es = ds} f d) n (v ∷ path) l b w =
    let s = closes_from xs p name ns rooted _ q refl f in
    let long = end_long xs p s.1.0 q s.1.2 in
    let r = fits_from xs q ns rooted ds end d n path (omega arith) (omega arith) (end_within xs p s.1.0 q s.1.2) in
    let closings = r.closings in
    let openings = r.openings in
    record { accepted = r.accepted; closings = omega arith; openings = omega arith }

fits_whole : (xs : List ℕ) (es : List (Event (List ℕ))) (end : Option XmlFault) → Reads xs 0 [] false es end → Fits xs 0 0 [] es
fits_whole xs es end d = fits_from xs 0 [] false es end d 0 [] refl (omega arith) (omega arith)

-- a run accepts the events of a listing that is not too long
pub accepted_listing : (xs : List ℕ) (es : List (Event (List ℕ))) (end : Option XmlFault) → Reads xs 0 [] false es end
    → length xs ≤ input_limit → Accepts 0 [] es
accepted_listing xs es end d = (fits_whole xs es end d).accepted

-- each node that is closed has four bytes of the listing
pub few_closings : (xs : List ℕ) (es : List (Event (List ℕ))) (end : Option XmlFault) → Reads xs 0 [] false es end
    → 4 * length (closing_order es) ≤ length xs
few_closings xs es end d = let h = (fits_whole xs es end d).closings in omega arith

-- each node has three
pub few_openings : (xs : List ℕ) (es : List (Event (List ℕ))) (end : Option XmlFault) → Reads xs 0 [] false es end
    → 3 * length (nodes es) ≤ length xs
few_openings xs es end d = let h = (fits_whole xs es end d).openings in omega arith

module _ {L : Type 0} (same : L → L → Bool) (rule : List RuleNode) (labels : List L) (room : ℕ) (es : List (Event L)) where
  -- no accepted event is refused where the list has room for all closings
  none_refused : (before after : List (Event L)) (xs : List ℕ) (e : Event L) (k : ℕ) → Accepts 0 [] (before ++ e ∷ after)
      → length (closing_order (before ++ e ∷ after)) ≤ room → Reported same rule labels room es before xs
      → Refuses same rule labels room es before xs e k → ⊥
  none_refused before after xs e k a few t (Refuses.nothing_open h) = close_accepted 0 [] before after a h
  none_refused before after xs e k a few t (Refuses.too_deep l h) =
      let z : length (open_after before) < depth_limit = (open_accepted 0 [] before after l a).0 in
      omega arith
  none_refused before after xs e k a few t (Refuses.too_many l d h) =
      let z : 0 + length (nodes before) < openings_limit = (open_accepted 0 [] before after l a).1 in
      omega arith
  none_refused before after xs e k a few t (Refuses.list_full v vs h o full) =
      let c = order_split 0 [] before after v vs h in
      omega (arith, picks_short t.picked, ap length c.1, length-append (closing_order before) (v ∷ c.0))

  unrefused : {F : Type 0} (end : Option F) {a : Answer F} {vs : List ℕ} {ds : List (Event L)} → Accepts 0 [] es
      → length (closing_order es) ≤ room → Selects same rule labels room es end a vs ds → (k o c : ℕ) → a ≡ refused k o c → ⊥
  unrefused end b few (Selects.whole xs d t all) k o c e = let z : ⊥ = cc in z
  unrefused end b few (Selects.fault f xs d t) k o c e = let z : ⊥ = cc in z
  unrefused end b few (Selects.refusal before after x j xs q t s) k o c e =
      none_refused before after xs x j (subst (Accepts 0 []) q b) (subst (λ (fs : List (Event L)). length (closing_order fs) ≤ room) q few) t s

  -- so a selection from accepted events is not refused
  pub never_refused : {F : Type 0} (end : Option F) (k o c : ℕ) {vs : List ℕ} {ds : List (Event L)} → Accepts 0 [] es
      → length (closing_order es) ≤ room → Selects same rule labels room es end (refused k o c) vs ds → ⊥
  never_refused end k o c b few s = unrefused end b few s k o c refl

-- A selection from a listing that is not too long is not refused, if the list has room for a number to every four bytes.
pub listing_unrefused : (line : List ℕ) (ns : List ParsedNode) (listing before after : List ℕ) (report : Report)
    (s : SelectedBy line ns listing before report after) → length listing ≤ input_limit → numbers_limit ≤ length before
    → (k o c : ℕ) → s.answer ≡ refused k o c → ⊥
listing_unrefused line ns listing before after report s short wide k o c =
    let few = few_closings listing s.events s.ending s.reads in
    unrefused bytes_eq (plain_nodes ns) (test_names line ns) (length before) s.events s.ending
    (accepted_listing listing s.events s.ending s.reads short) (omega arith) s.selection.selects k o c

whole : {L : Type 0} (same : L → L → Bool) (rule : List RuleNode) (labels : List L) (room : ℕ) (es : List (Event L)) (end : Option XmlFault) (n : ℕ)
    {a : Answer XmlFault} {vs : List ℕ} {ds : List (Event L)} {report : Report}
    → end ≡ None → Selects same rule labels room es end a vs ds → ((k o c : ℕ) → a ≡ refused k o c → ⊥)
    → (b : Answer XmlFault) → b ≡ a → Concludes n b report → report.verdict ≡ Ok tt
whole same rule labels room es end n d s never b e (Concludes.finished count) = refl
whole same rule labels room es end n d s never b e (Concludes.refusal r k o count p) = absurd (never k o count (sym e))
whole same rule labels room es end n d (Selects.whole vs g t all) never b e (Concludes.fault f o count) = let z : ⊥ = cc in absurd z
whole same rule labels room es end n d (Selects.fault x vs g t) never b e (Concludes.fault f o count) = let z : ⊥ = cc in absurd z
whole same rule labels room es end n d (Selects.refusal before after x j vs q t w) never b e (Concludes.fault f o count) = let z : ⊥ = cc in absurd z

-- Then a listing without a fault is selected from to its end.
pub whole_or_fault : (line : List ℕ) (ns : List ParsedNode) (listing before after : List ℕ) (report : Report)
    (s : SelectedBy line ns listing before report after) → length listing ≤ input_limit → numbers_limit ≤ length before
    → s.ending ≡ None → report.verdict ≡ Ok tt
whole_or_fault line ns listing before after report s short wide e =
    whole bytes_eq (plain_nodes ns) (test_names line ns) (length before) s.events s.ending (length listing) e s.selection.selects
    (listing_unrefused line ns listing before after report s short wide) s.answer refl s.concludes
