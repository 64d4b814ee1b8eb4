-- A listing has one meaning.
use Rattle.std.proofs.Common.{◌≡◌, ℕ, ◌+◌, Bool, true, false, cond, eqb, List, [], ◌∷◌, Some, None, Option, sym, refl, ap, ◌∙◌, subst}
use Rattle.std.proofs.lemmas.Bool.{both_ways}
use Rattle.sources.specs.declared.event.Event.{Event}
use Rattle.sources.specs.declared.event.Event.TheVariants.{Open, Close}
use Rattle.labels.specs.Spelling.{part}
use Rattle.xml.specs.Faults.{number, place}
use Rattle.xml.specs.Markup.{TagEnds, EndEnds}
use Rattle.xml.specs.Reading.{Innermost, Found, Wrong, ComesBefore, Finds, FindsAt, Reads}
use Rattle.xml.specs.Reading.Found.{finishes, skips, opens, closes, refuses}
use Rattle.xml.specs.Reading.Wrong.{unfinished, bare_text, bad_comment, bad_instruction, second_root, too_deep, start_name, start_rest, end_name, other_name, end_rest}
use Rattle.xml.specs.Reading.Finds.{finish, text, comment, instruction, start, end_tag, faulty}
use Rattle.xml.specs.Reading.Reads.{done, refused, skipped, opened, opened_empty, closed}
use Rattle.xml.specs.declared.markup.Markup.{Markup}
use Rattle.xml.specs.declared.fault.ScanFault.TheVariants.{Byte, End, LongName}
use Rattle.xml.specs.declared.fault.XmlFault.{XmlFault}
use Rattle.xml.specs.declared.fault.XmlFault.TheVariants.{Scan, WrongName, NotComment, Deep}
use Rattle.xml.specs.ScanLaws.{name_same, name_apart, comment_same, comment_apart, instruction_same, instruction_apart, end_apart, tag_apart, start_same, close_same}
use Rattle.xml.specs.FaultLaws.{no_second, no_deep, before_both}

module _ (xs : List ℕ) (p : ℕ) (names : List (List ℕ)) (rooted : Bool) where
  -- where something is wrong, the first fault is found
  first_found : (k : Markup) (s : Found) (n at : ℕ) → Finds xs p names rooted k s → Wrong xs p names rooted k n at →
      ((j to : ℕ) → Wrong xs p names rooted k j to → ComesBefore n at j to) → s ≡ refuses n at
  first_found k s n at (finish a b) (unfinished c) l = absurd (c a b)
  first_found k s n at (text a) (bare_text c d) l = absurd (both_ways _ d (a c))
  first_found k s n at (comment {q = q} a) (bad_comment c) l = absurd (comment_apart xs p q n at a c)
  first_found k s n at (instruction {q = q} a) (bad_instruction c) l = absurd (instruction_apart xs p q n at a c)
  first_found k s n at (start r a) (second_root e f) l = absurd (no_second names rooted r e f)
  first_found k s n at (start r a) (too_deep d) l = absurd (no_deep names rooted r d)
  first_found k s n at (start {n = m} r a) (start_name d) l = absurd (name_apart xs (p + 1) m n at a.name d)
  first_found k s n at (start {n = m} r a) (start_rest {n = o} b d) l =
      absurd (tag_apart xs o a.close n at (subst (λ x. TagEnds xs x a.close) (name_same xs (p + 1) m o a.name.0 b) a.tag) d)
  first_found k s n at (end_tag {n = m} i a) (end_name d) l = absurd (name_apart xs (p + 2) m n at a.name d)
  first_found k s n at (end_tag {n = m} i a) (other_name {n = o} b ne) l =
      absurd (ne (subst (λ x. Innermost names (part xs (p + 2) x)) (name_same xs (p + 2) m o a.name.0 b) i))
  first_found k s n at (end_tag {n = m} i a) (end_rest {n = o} b d) l =
      absurd (end_apart xs o a.close n at (subst (λ x. EndEnds xs x a.close) (name_same xs (p + 2) m o a.name.0 b) a.tag) d)
  first_found k s n at (faulty v m) w l = before_both _ _ n at (m n at w) (l _ _ v)

  finds_same : (k : Markup) (s t : Found) → Finds xs p names rooted k s → Finds xs p names rooted k t → s ≡ t
  finds_same k s t (faulty w l) d = sym (first_found k t _ _ d w l)
  finds_same k s t d (faulty w l) = first_found k s _ _ d w l
  finds_same k s t (finish a b) (finish c d) = refl
  finds_same k s t (text a) (text c) = refl
  finds_same k s t (comment a) (comment c) = ap skips (comment_same xs p _ _ a c)
  finds_same k s t (instruction a) (instruction c) = ap skips (instruction_same xs p _ _ a c)
  finds_same k s t (start r a) (start v b) = start_same xs p _ _ _ _ _ _ a b
  finds_same k s t (end_tag i a) (end_tag j b) = ap closes (close_same xs p _ _ _ _ a b)

-- a fault by its number and place
fault_of : ℕ → ℕ → XmlFault
fault_of k p =
    cond (eqb k 30) (Scan (Byte p)) (cond (eqb k 31) (Scan (End p)) (cond (eqb k 32) (Scan (LongName p))
    (cond (eqb k 33) (WrongName p) (cond (eqb k 34) (NotComment p) (Deep p)))))

fault_is : (f : XmlFault) → fault_of (number f) (place f) ≡ f
unfolding fault_of
fault_is (Scan (Byte p)) = refl
fault_is (Scan (End p)) = refl
fault_is (Scan (LongName p)) = refl
fault_is (WrongName p) = refl
fault_is (NotComment p) = refl
fault_is (Deep p) = refl

pub fault_same : (f g : XmlFault) → refuses (number f) (place f) ≡ refuses (number g) (place g) → f ≡ g
fault_same f g e =
    let a : number f ≡ number g = cc in
    let b : place f ≡ place g = cc in
    sym (fault_is f) ∙ (λ i. fault_of (a i) (b i)) ∙ fault_is g

-- what comes after what is found
abbrev After : (xs : List ℕ) → ℕ → List (List ℕ) → Bool → List (Event (List ℕ)) → Option XmlFault → Found → Type 0
After xs p names rooted es end finishes = (es ≡ []) × (end ≡ None)
After xs p names rooted es end (skips q) = Reads xs q names rooted es end
After xs p names rooted es end (opens n q false) =
    (ds : List (Event (List ℕ))) × (es ≡ Open (part xs (p + 1) n) ∷ ds) × Reads xs q (part xs (p + 1) n ∷ names) true ds end
After xs p names rooted es end (opens n q true) = (ds : List (Event (List ℕ))) × (es ≡ Open (part xs (p + 1) n) ∷ Close ∷ ds) × Reads xs q names true ds end
After xs p names rooted es end (closes q) =
    (w : List ℕ) × (ns : List (List ℕ)) × (ds : List (Event (List ℕ))) × (names ≡ w ∷ ns) × (es ≡ Close ∷ ds) × Reads xs q ns rooted ds end
After xs p names rooted es end (refuses k at) = (es ≡ []) × ((f : XmlFault) × (end ≡ Some f) × (refuses (number f) (place f) ≡ refuses k at))

inverse : (xs : List ℕ) (p : ℕ) (names : List (List ℕ)) (rooted : Bool) (es : List (Event (List ℕ))) (end : Option XmlFault) →
    Reads xs p names rooted es end → (s : Found) × FindsAt xs p names rooted s × After xs p names rooted es end s
inverse xs p names rooted es end (done f) = (finishes, f, (refl, refl))
inverse xs p names rooted es end (refused g f) = (refuses (number g) (place g), f, (refl, (g, refl, refl)))
inverse xs p names rooted es end (skipped {q = q} f d) = (skips q, f, d)
inverse xs p names rooted es end (opened {n = n} {q = q} {es = ds} f d) = (opens n q false, f, (ds, refl, d))
inverse xs p names rooted es end (opened_empty {n = n} {q = q} {es = ds} f d) = (opens n q true, f, (ds, refl, d))
inverse xs p names rooted es end (closed {q = q} {w = w} {names = ns} {es = ds} f d) = (closes q, f, (w, ns, ds, refl, refl, d))

-- so, of what is found, comes that after it
pub after : (xs : List ℕ) (p : ℕ) (names : List (List ℕ)) (rooted : Bool) (es : List (Event (List ℕ))) (end : Option XmlFault) (s : Found) →
    FindsAt xs p names rooted s → Reads xs p names rooted es end → After xs p names rooted es end s
after xs p names rooted es end s f d =
    let i = inverse xs p names rooted es end d in
    subst (After xs p names rooted es end) (finds_same xs p names rooted _ i.0 s i.1 f) i.2

pub once : (xs : List ℕ) (p : ℕ) (names : List (List ℕ)) (rooted : Bool) (es : List (Event (List ℕ))) (end : Option XmlFault) →
    Reads xs p names rooted es end → (ds : List (Event (List ℕ))) (to : Option XmlFault) → Reads xs p names rooted ds to → (es ≡ ds) × (end ≡ to)
once xs p names rooted es end (done f) ds to d = let a = after xs p names rooted ds to finishes f d in (sym a.0, sym a.1)
once xs p names rooted es end (refused g f) ds to d =
    let a = after xs p names rooted ds to (refuses (number g) (place g)) f d in
    (sym a.0, ap Some (sym (fault_same a.1.0 g a.1.2)) ∙ sym a.1.1)
once xs p names rooted es end (skipped {q = q} f e) ds to d = once xs q names rooted es end e ds to (after xs p names rooted ds to (skips q) f d)
once xs p names rooted es end (opened {n = n} {q = q} {es = es₁} f e) ds to d =
    let a = after xs p names rooted ds to (opens n q false) f d in
    let r = once xs q (part xs (p + 1) n ∷ names) true es₁ end e a.0 to a.2 in
    (ap (λ x. Open (part xs (p + 1) n) ∷ x) r.0 ∙ sym a.1, r.1)
once xs p names rooted es end (opened_empty {n = n} {q = q} {es = es₁} f e) ds to d =
    let a = after xs p names rooted ds to (opens n q true) f d in
    let r = once xs q names true es₁ end e a.0 to a.2 in
    (ap (λ x. Open (part xs (p + 1) n) ∷ Close ∷ x) r.0 ∙ sym a.1, r.1)
once xs p names rooted es end (closed {q = q} {w = w} {names = ns} {es = es₁} f e) ds to d =
    let a = after xs p names rooted ds to (closes q) f d in
    let tail : a.1 ≡ ns = let h = a.3 in cc in
    let r = once xs q ns rooted es₁ end e a.2 to (subst (λ m. Reads xs q m rooted a.2 to) tail a.5) in
    (ap (λ x. Close ∷ x) r.0 ∙ sym a.4, r.1)
