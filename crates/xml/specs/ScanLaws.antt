-- The scans of markup find one end or one fault, and not both.
use Rattle.std.specs.Prelude.{◌≡◌, ℕ, zero, suc, ◌+◌, ◌-◌, ◌<◌, ◌≤◌, Bool, true, false, cond, ◌||◌, ◌⊎◌, List, length, ◌==◌, refl}
use Rattle.std.proofs.Common.{ltb, sym, ap, ◌∙◌, subst, inl, inr, arith}
use Prim.Native.Char.{code}
use Rattle.std.proofs.lemmas.List.{get_or_past}
use Rattle.std.proofs.lemmas.Bool.{cases_lt, cases_order, cases_Bool, ne_eqb, eq-eqb, lt-ltb, le-ltb, or_left, or_parts, or_from, both_ways}
use Rattle.labels.specs.Spelling.{byte_at, is_white, starts_name, continues_name, Longest, Named, Spelled}
use Rattle.xml.specs.Bytes.{plain}
use Rattle.xml.specs.Markup.{TagEnds, EndEnds, IsComment, IsInstruction, IsStart, IsEnd, NameFault, CommentFault, InstructionFault, TagFault, EndFault}
use Rattle.xml.specs.Markup.NameFault.{ended as name_ended, no_start, long}
use Rattle.xml.specs.Markup.CommentFault.{ended as comment_ended, byte_behind as comment_byte}
use Rattle.xml.specs.Markup.InstructionFault.{ended as instruction_ended}
use Rattle.xml.specs.Markup.TagFault.{ended as tag_ended, byte_behind as tag_byte, slash_ended, slash_byte, unclosed, opened as bracket_opened}
use Rattle.xml.specs.Markup.EndFault.{ended as end_ended, byte_behind as end_byte}
use Rattle.xml.specs.Reading.{Found}
use Rattle.xml.specs.Reading.Found.{opens, refuses}

longest_by : (ok : ℕ → Bool) (end n p : ℕ) → p + n ≡ end → (q : ℕ) × Longest ok end p q
longest_by ok end zero p e = (p, record { late = omega arith; within = omega arith; all = λ i a b. absurd (omega arith); stops = λ h. absurd (omega arith) })
longest_by ok end (suc n) p e = go (cases_Bool (ok p)) (longest_by ok end n (p + 1) (omega arith))
  where
    go : ((ok p ≡ true) ⊎ (ok p ≡ false)) → ((q : ℕ) × Longest ok end (p + 1) q) → (q : ℕ) × Longest ok end p q
    go (inr h) r = (p, record { late = omega arith; within = omega arith; all = λ i a b. absurd (omega arith); stops = λ _. h })
    go (inl h) (q, l) =
        let late = l.late in
        (q, record { late = omega arith; within = l.within; all = λ i a b. both i a b (cases_lt i (p + 1)); stops = l.stops })
      where
        both : (i : ℕ) → p ≤ i → i < q → ((i < p + 1) ⊎ (p + 1 ≤ i)) → ok i ≡ true
        both i a b (inl c) = let s : p ≡ i = omega arith in subst (λ j. ok j ≡ true) s h
        both i a b (inr c) = l.all i c b

pub longest : (ok : ℕ → Bool) (end p : ℕ) → p ≤ end → (q : ℕ) × Longest ok end p q
longest ok end p h = longest_by ok end (end - p) p (omega arith)

pub longest_same : (ok : ℕ → Bool) (end p q r : ℕ) → Longest ok end p q → Longest ok end p r → q ≡ r
longest_same ok end p q r l m = go (cases_order q r)
  where
    go : ((q ≡ r) ⊎ ((q < r) ⊎ (r < q))) → q ≡ r
    go (inl e) = e
    go (inr (inl h)) = let w = m.within in absurd (both_ways (ok q) (l.stops (omega arith)) (m.all q l.late h))
    go (inr (inr h)) = let w = l.within in absurd (both_ways (ok r) (m.stops (omega arith)) (l.all r m.late h))

-- a run that reaches the end ends there
pub run_out : (ok : ℕ → Bool) (end p q : ℕ) → Longest ok end p q → end ≤ q → Longest ok end p end
run_out ok end p q l h = let w = l.within in let e : q ≡ end = omega arith in subst (Longest ok end p) e l

-- a byte that is not 0 stands within
pub standing : (xs : List ℕ) (i b : ℕ) → byte_at xs i ≡ b → 0 < b → i < length xs
standing xs i b e h = go (cases_lt i (length xs))
  where
    go : ((i < length xs) ⊎ (length xs ≤ i)) → i < length xs
    go (inl l) = l
    go (inr l) = let z = get_or_past xs i 0 l in absurd (omega arith)

pub test_stands : (xs : List ℕ) (i : ℕ) (t : ℕ → Bool) → t 0 ≡ false → t (byte_at xs i) ≡ true → i < length xs
test_stands xs i t n e = go (cases_lt i (length xs))
  where
    go : ((i < length xs) ⊎ (length xs ≤ i)) → i < length xs
    go (inl l) = l
    go (inr l) = absurd (both_ways (t 0) n (sym (ap t (get_or_past xs i 0 l)) ∙ e))

module _ (xs : List ℕ) where
  pub name_same : (p q r : ℕ) → Named xs p q → Named xs p r → q ≡ r
  name_same p q r a b = longest_same _ _ p q r a.ends b.ends

  -- a name has a byte
  pub name_long : (p q : ℕ) → Named xs p q → p < q
  name_long p q d = go (cases_lt p q)
    where
      go : ((p < q) ⊎ (q ≤ p)) → p < q
      go (inl h) = h
      go (inr h) =
          let late = d.ends.late in
          let e : q ≡ p = omega arith in
          let l = test_stands xs p starts_name refl d.begins in
          let fails = subst (λ i. continues_name (byte_at xs i) ≡ false) e (d.ends.stops (omega arith)) in
          absurd (both_ways _ fails (or_left _ _ d.begins))

  pub name_apart : (p n k at : ℕ) → Spelled xs p n → NameFault xs p k at → ⊥
  name_apart p n k at s (name_ended h) = let l = test_stands xs p starts_name refl s.0.begins in omega arith
  name_apart p n k at s (no_start h e) = both_ways _ e s.0.begins
  name_apart p n k at s (long q d h) = let e = name_same p q n d s.0 in let w = s.1 in omega arith

  pub name_fault_same : (p k at j to : ℕ) → NameFault xs p k at → NameFault xs p j to → refuses k at ≡ refuses j to
  name_fault_same p k at j to (name_ended h) (name_ended g) = refl
  name_fault_same p k at j to (name_ended h) (no_start g e) = absurd (omega arith)
  name_fault_same p k at j to (name_ended h) (long q d g) = let l = test_stands xs p starts_name refl d.begins in absurd (omega arith)
  name_fault_same p k at j to (no_start h e) (name_ended g) = absurd (omega arith)
  name_fault_same p k at j to (no_start h e) (no_start g f) = refl
  name_fault_same p k at j to (no_start h e) (long q d g) = absurd (both_ways _ e d.begins)
  name_fault_same p k at j to (long q d h) (name_ended g) = let l = test_stands xs p starts_name refl d.begins in absurd (omega arith)
  name_fault_same p k at j to (long q d h) (no_start g e) = absurd (both_ways _ e d.begins)
  name_fault_same p k at j to (long q d h) (long r f g) = refl

  pub comment_same : (p q r : ℕ) → IsComment xs p q → IsComment xs p r → q ≡ r
  comment_same p q r a b = let e = longest_same _ _ (p + 4) a.dashes b.dashes a.first b.first in let f = a.ends in let g = b.ends in omega arith

  pub comment_within : (p q : ℕ) → IsComment xs p q → q ≤ length xs
  comment_within p q a = let e = a.ends in omega (arith, standing xs (a.dashes + 1 + 1) (code ">") a.closes.1.1.0 (omega arith))

  pub comment_apart : (p q k at : ℕ) → IsComment xs p q → CommentFault xs (p + 4) k at → ⊥
  comment_apart p q k at a (comment_ended d l h) =
      let e = longest_same _ _ (p + 4) a.dashes d a.first l in
      let f = a.ends in
      omega (arith, comment_within p q a)
  comment_apart p q k at a (comment_byte d l h n) =
      let e = longest_same _ _ (p + 4) a.dashes d a.first l in
      let s : a.dashes + 1 + 1 ≡ d + 2 = omega arith in
      n (sym (ap (byte_at xs) s) ∙ a.closes.1.1.0)

  pub comment_fault_same : (p k at j to : ℕ) → CommentFault xs (p + 4) k at → CommentFault xs (p + 4) j to → refuses k at ≡ refuses j to
  comment_fault_same p k at j to (comment_ended d l h) (comment_ended c m g) = refl
  comment_fault_same p k at j to (comment_ended d l h) (comment_byte c m g n) = let e = longest_same _ _ (p + 4) d c l m in absurd (omega arith)
  comment_fault_same p k at j to (comment_byte d l h n) (comment_ended c m g) = let e = longest_same _ _ (p + 4) d c l m in absurd (omega arith)
  comment_fault_same p k at j to (comment_byte d l h n) (comment_byte c m g o) = ap (λ x. refuses 30 (x + 2)) (longest_same _ _ (p + 4) d c l m)

  pub instruction_same : (p q r : ℕ) → IsInstruction xs p q → IsInstruction xs p r → q ≡ r
  instruction_same p q r a b = let e = longest_same _ _ (p + 2) a.close b.close a.first b.first in let f = a.ends in let g = b.ends in omega arith

  pub instruction_within : (p q : ℕ) → IsInstruction xs p q → q ≤ length xs
  instruction_within p q a = let e = a.ends in omega (arith, standing xs (a.close + 1) (code ">") a.closes.1.0 (omega arith))

  pub instruction_apart : (p q k at : ℕ) → IsInstruction xs p q → InstructionFault xs (p + 2) k at → ⊥
  instruction_apart p q k at a (instruction_ended l) =
      let e = longest_same _ _ (p + 2) a.close (length xs) a.first l in
      let f = a.ends in
      omega (arith, instruction_within p q a)

  pub instruction_fault_same : (p k at j to : ℕ) → InstructionFault xs (p + 2) k at → InstructionFault xs (p + 2) j to → refuses k at ≡ refuses j to
  instruction_fault_same p k at j to (instruction_ended l) (instruction_ended m) = refl

  pub end_same : (n q r : ℕ) → EndEnds xs n q → EndEnds xs n r → q ≡ r
  end_same n q r a b = longest_same _ _ n q r a.space b.space

  pub end_apart : (n q k at : ℕ) → EndEnds xs n q → EndFault xs n k at → ⊥
  end_apart n q k at a (end_ended l) =
      let e = longest_same _ _ n q (length xs) a.space l in
      let s = standing xs q (code ">") a.closes (omega arith) in
      omega arith
  end_apart n q k at a (end_byte c l h ne) = let e = longest_same _ _ n q c a.space l in ne (sym (ap (byte_at xs) e) ∙ a.closes)

  pub end_fault_same : (n k at j to : ℕ) → EndFault xs n k at → EndFault xs n j to → refuses k at ≡ refuses j to
  end_fault_same n k at j to (end_ended l) (end_ended m) = refl
  end_fault_same n k at j to (end_ended l) (end_byte c m h ne) = let e = longest_same _ _ n (length xs) c l m in absurd (omega arith)
  end_fault_same n k at j to (end_byte d l g o) (end_ended m) = let e = longest_same _ _ n d (length xs) l m in absurd (omega arith)
  end_fault_same n k at j to (end_byte d l g o) (end_byte c m h ne) = ap (refuses 30) (longest_same _ _ n d c l m)

  -- the fault is not before n
  pub end_late : (n k at : ℕ) → EndFault xs n k at → n ≤ at
  end_late n k at (end_ended l) = l.late
  end_late n k at (end_byte c l h ne) = l.late

  pub tag_same : (n q r : ℕ) → TagEnds xs n q → TagEnds xs n r → q ≡ r
  tag_same n q r a b = longest_same _ _ n q r a.rest b.rest

  pub tag_apart : (n q k at : ℕ) → TagEnds xs n q → TagFault xs n k at → ⊥
  tag_apart n q k at a (tag_ended h) = let l = test_stands xs n (λ b. is_white b || (b == code "/" || b == code ">")) refl a.after in omega arith
  tag_apart n q k at a (tag_byte h e) = both_ways _ e a.after
  tag_apart n q k at a (slash_ended s h) =
      let e = a.slash s in
      let l = standing xs q (code ">") a.closes (omega arith) in
      omega arith
  tag_apart n q k at a (slash_byte s h ne) = ne (sym (ap (byte_at xs) (a.slash s)) ∙ a.closes)
  tag_apart n q k at a (unclosed b l) =
      let e = longest_same _ _ n q (length xs) a.rest l in
      let s = standing xs q (code ">") a.closes (omega arith) in
      omega arith
  tag_apart n q k at a (bracket_opened c b l f) =
      let e = ap (byte_at xs) (longest_same _ _ n q c a.rest l) in
      let g = a.closes in
      omega arith

  not_slash : (b : ℕ) → (is_white b || b == code ">") ≡ true → (b == code "/") ≡ false
  not_slash b h = ne_eqb b (code "/") (λ e. both_ways _ refl (sym (ap (λ x. is_white x || x == code ">") e) ∙ h))

  -- the fault of a tag, by the first bracket c
  abbrev tag_code : ℕ → ℕ → Found
  tag_code n c =
      cond (ltb n (length xs))
      (cond (byte_at xs n == code "/") (cond (ltb (n + 1) (length xs)) (refuses 30 (n + 1)) (refuses 31 (length xs)))
      (cond (is_white (byte_at xs n) || byte_at xs n == code ">") (cond (ltb c (length xs)) (refuses 30 c) (refuses 31 (length xs))) (refuses 30 n)))
      (refuses 31 (length xs))

  tag_coded : (n c k at : ℕ) → Longest (λ i. plain (byte_at xs i)) (length xs) n c → TagFault xs n k at → refuses k at ≡ tag_code n c
  tag_coded n c k at m (tag_ended h) = rw (le-ltb n (length xs) h)
  tag_coded n c k at m (tag_byte h e) =
      let o = or_parts (is_white (byte_at xs n)) (byte_at xs n == code "/" || byte_at xs n == code ">") e in
      let u = or_parts (byte_at xs n == code "/") (byte_at xs n == code ">") o.1 in
      rw (lt-ltb n (length xs) h, u.0, or_from _ _ o.0 u.1)
  tag_coded n c k at m (slash_ended s h) =
      let l = standing xs n (code "/") s (omega arith) in
      rw (lt-ltb n (length xs) l, eq-eqb (byte_at xs n) (code "/") s, le-ltb (n + 1) (length xs) h)
  tag_coded n c k at m (slash_byte s h ne) =
      let l : n < length xs = omega arith in
      rw (lt-ltb n (length xs) l, eq-eqb (byte_at xs n) (code "/") s, lt-ltb (n + 1) (length xs) h)
  tag_coded n c k at m (unclosed b l) =
      let w = test_stands xs n (λ b. is_white b || b == code ">") refl b in
      let e = longest_same _ _ n c (length xs) m l in
      let f : length xs ≤ c = omega arith in
      rw (lt-ltb n (length xs) w, not_slash (byte_at xs n) b, b, le-ltb c (length xs) f)
  tag_coded n c k at m (bracket_opened d b l f) =
      let w = test_stands xs n (λ b. is_white b || b == code ">") refl b in
      let e = longest_same _ _ n c d m l in
      let g = standing xs d (code "<") f (omega arith) in
      let in_it : c < length xs = omega arith in
      rw (lt-ltb n (length xs) w, not_slash (byte_at xs n) b, b, lt-ltb c (length xs) in_it) (ap (refuses 30) (sym e))

  pub tag_fault_same : (n k at j to : ℕ) → n ≤ length xs → TagFault xs n k at → TagFault xs n j to → refuses k at ≡ refuses j to
  tag_fault_same n k at j to h a b =
      let l = longest (λ i. plain (byte_at xs i)) (length xs) n h in
      tag_coded n l.0 k at l.1 a ∙ sym (tag_coded n l.0 j to l.1 b)

  -- nor is this one
  pub tag_late : (n k at : ℕ) → n ≤ length xs → TagFault xs n k at → n ≤ at
  tag_late n k at h (tag_ended l) = h
  tag_late n k at h (tag_byte l e) = omega arith
  tag_late n k at h (slash_ended s l) = h
  tag_late n k at h (slash_byte s l ne) = omega arith
  tag_late n k at h (unclosed b l) = h
  tag_late n k at h (bracket_opened c b l e) = l.late

  pub start_same : (p n q m r : ℕ) (e f : Bool) → IsStart xs p n q e → IsStart xs p m r f → opens n q e ≡ opens m r f
  start_same p n q m r e f a b =
      let g = name_same (p + 1) n m a.name.0 b.name.0 in
      let c = tag_same m a.close b.close (subst (λ x. TagEnds xs x a.close) g a.tag) b.tag in
      let ends = a.ends in
      let ends₁ = b.ends in
      let same_q : q ≡ r = omega arith in
      let same_e : e ≡ f = a.slash ∙ ap (λ x. byte_at xs (x - 1) == code "/") c ∙ sym b.slash in
      λ i. opens (g i) (same_q i) (same_e i)

  pub close_same : (p n q m r : ℕ) → IsEnd xs p n q → IsEnd xs p m r → q ≡ r
  close_same p n q m r a b =
      let g = name_same (p + 2) n m a.name.0 b.name.0 in
      let c = end_same m a.close b.close (subst (λ x. EndEnds xs x a.close) g a.tag) b.tag in
      let ends = a.ends in
      let ends₁ = b.ends in
      omega arith
