-- Listings that begin alike: what is found before the place where they part.
use Rattle.std.proofs.Common.{◌≡◌, ℕ, ◌+◌, ◌-◌, ◌<◌, ◌≤◌, Bool, true, false, not, cond, ◌&&◌, ◌||◌, ◌==◌, List, [], ◌∷◌, ◌++◌, length, take, drop, sym, refl, ap, ap₂, ◌∙◌, subst, arith, length-drop, codes}
use Prim.Native.Char.{code}
use Rattle.std.proofs.lemmas.List.{take-append-drop, length-take-le, length-append, get_or_append_left, take-append-le, drop-append-le}
use Rattle.labels.specs.Spelling.{byte_at, part, is_white, starts_name, continues_name, Longest, Spelled}
use Rattle.xml.specs.Bytes.{plain, apart, Stands}
use Rattle.xml.specs.Markup.{markup, behind, two_dashes, IsComment, IsInstruction, IsStart, IsEnd}
use Rattle.xml.specs.declared.markup.Markup.{Markup}
use Rattle.xml.specs.declared.markup.Markup.TheVariants.{Nothing, Text, EndTag, Comment, Declaration, Instruction, StartTag, Cut, Stray}

-- how many bytes tell the markup
abbrev pub need : Markup → ℕ
need Nothing = 1
need Text = 1
need EndTag = 2
need Comment = 4
need Declaration = 4
need Instruction = 2
need StartTag = 2
need Cut = 2
need Stray = 2

need_some : (k : Markup) → 0 < need k
need_some Nothing = omega arith
need_some Text = omega arith
need_some EndTag = omega arith
need_some Comment = omega arith
need_some Declaration = omega arith
need_some Instruction = omega arith
need_some StartTag = omega arith
need_some Cut = omega arith
need_some Stray = omega arith

behind_need : (bs : List ℕ) → 2 ≤ need (behind bs)
behind_need [] = omega arith
behind_need (b ∷ bs) = go (b == code "/") (b == code "!") (two_dashes bs) (b == code "?") (starts_name b)
  where
    go : (t₁ t₂ t₃ t₄ t₅ : Bool) → 2 ≤ need (cond t₁ EndTag (cond t₂ (cond t₃ Comment Declaration) (cond t₄ Instruction (cond t₅ StartTag Stray))))
    go true t₂ t₃ t₄ t₅ = omega arith
    go false true true t₄ t₅ = omega arith
    go false true false t₄ t₅ = omega arith
    go false false t₃ true t₅ = omega arith
    go false false t₃ false true = omega arith
    go false false t₃ false false = omega arith

-- two or three bytes tell all but a comment
few_same : (n : ℕ) (t₀ t₁ t₂ d₁ d₂ t₄ t₅ : Bool) → n < 4 →
    need (cond t₀ (cond t₁ EndTag (cond t₂ (cond d₁ Comment Declaration) (cond t₄ Instruction (cond t₅ StartTag Stray)))) Text) ≤ n →
    ◌≡◌ {A = Markup} (cond t₀ (cond t₁ EndTag (cond t₂ (cond d₂ Comment Declaration) (cond t₄ Instruction (cond t₅ StartTag Stray)))) Text)
    (cond t₀ (cond t₁ EndTag (cond t₂ (cond d₁ Comment Declaration) (cond t₄ Instruction (cond t₅ StartTag Stray)))) Text)
few_same n false t₁ t₂ d₁ d₂ t₄ t₅ l h = refl
few_same n true true t₂ d₁ d₂ t₄ t₅ l h = refl
few_same n true false true true d₂ t₄ t₅ l h = absurd (omega arith)
few_same n true false true false d₂ t₄ t₅ l h = absurd (omega arith)
few_same n true false false d₁ d₂ t₄ t₅ l h = refl

markup_front : (fs us vs : List ℕ) → need (markup (fs ++ us)) ≤ length fs → markup (fs ++ vs) ≡ markup (fs ++ us)
markup_front [] us vs h = let z = need_some (markup us) in absurd (omega arith)
markup_front (a ∷ []) us vs h = go (a == code "<") h
  where
    go : (t : Bool) → need (cond t (behind us) Text) ≤ 1 → cond t (behind vs) Text ≡ cond t (behind us) Text
    go true l = let z = behind_need us in absurd (omega arith)
    go false l = refl
markup_front (a ∷ b ∷ []) us vs h =
    few_same 2 (a == code "<") (b == code "/") (b == code "!") (two_dashes us) (two_dashes vs) (b == code "?") (starts_name b) (omega arith) h
markup_front (a ∷ b ∷ c ∷ []) us vs h =
    few_same 3 (a == code "<") (b == code "/") (b == code "!") (two_dashes (c ∷ us)) (two_dashes (c ∷ vs)) (b == code "?") (starts_name b) (omega arith) h
markup_front (a ∷ b ∷ c ∷ d ∷ fs) us vs h = refl

-- up to p the bytes are the same
pub record Alike (xs ys : List ℕ) (p : ℕ) : Type 0 where
  pub here : p ≤ length xs
  pub there : p ≤ length ys
  pub bytes : (i : ℕ) → i < p → byte_at ys i ≡ byte_at xs i
  pub parts : (i j : ℕ) → i ≤ j → j ≤ p → part ys i j ≡ part xs i j
  pub begins : (i : ℕ) → i + need (markup (drop i xs)) ≤ p → markup (drop i ys) ≡ markup (drop i xs)

module _ (fs us vs : List ℕ) where
  front_parts : (i j : ℕ) → i ≤ j → j ≤ length fs → part (fs ++ us) i j ≡ part fs i j
  front_parts i j h l =
      ap (λ zs. take (j - i) zs) (drop-append-le i fs us (omega arith)) ∙ take-append-le (j - i) (drop i fs) us (omega (arith, length-drop i fs))

pub fronts_alike : (fs us vs : List ℕ) → Alike (fs ++ us) (fs ++ vs) (length fs)
fronts_alike fs us vs = record {
  here = omega (arith, length-append fs us);
  there = omega (arith, length-append fs vs);
  bytes = λ i l. get_or_append_left fs vs 0 i l ∙ sym (get_or_append_left fs us 0 i l);
  parts = λ i j h l. front_parts fs vs us i j h l ∙ sym (front_parts fs us vs i j h l);
  begins = λ i h.
      let z = need_some (markup (drop i (fs ++ us))) in
      let e : drop i (fs ++ us) ≡ drop i fs ++ us = drop-append-le i fs us (omega arith) in
      let f : drop i (fs ++ vs) ≡ drop i fs ++ vs = drop-append-le i fs vs (omega arith) in
      let g : need (markup (drop i fs ++ us)) ≤ length (drop i fs) = let k = ap (λ zs. need (markup zs)) e in omega (arith, length-drop i fs) in
      ap markup f ∙ markup_front (drop i fs) us vs g ∙ sym (ap markup e);
}

pub alike : (xs more : List ℕ) (p : ℕ) → p ≤ length xs → Alike xs (take p xs ++ more) p
alike xs more p l =
    let f = fronts_alike (take p xs) (drop p xs) more in
    let P : List ℕ → ℕ → Type 0 = λ zs k. Alike zs (take p xs ++ more) k in
    subst (λ k. P xs k) (length-take-le p xs l) (subst (λ zs. P zs (length (take p xs))) (take-append-drop p xs) f)

-- a run that ends before the listing does
runs_on : (ok to : ℕ → Bool) (end end' b d : ℕ) → d < end → d < end' → ((i : ℕ) → i ≤ d → to i ≡ ok i) → Longest ok end b d → Longest to end' b d
runs_on ok to end end' b d h g same l =
    record { late = l.late; within = omega arith; all = λ i a k. same i (omega arith) ∙ l.all i a k; stops = λ _. same d (omega arith) ∙ l.stops h }

module _ (xs ys : List ℕ) (p : ℕ) (a : Alike xs ys p) where
  -- what holds of a byte
  at_byte : {X : Type 0} (f : ℕ → X) (i : ℕ) → i < p → f (byte_at ys i) ≡ f (byte_at xs i)
  at_byte f i l = ap f (a.bytes i l)

  stands_on : (w : List ℕ) (i : ℕ) → i + length w ≤ p → Stands xs w i → Stands ys w i
  stands_on [] i l h = tt
  stands_on (b ∷ w) i l h = (a.bytes i (omega arith) ∙ h.0, stands_on w (i + 1) (omega arith) h.1)

  apart_on : (b c q d : ℕ) → d + 1 < p → Longest (apart xs b c) (length xs) q d → Longest (apart ys b c) (length ys) q d
  apart_on b c q d l h =
      let k = a.here in
      let m = a.there in
      runs_on (apart xs b c) (apart ys b c) (length xs) (length ys) q d (omega arith) (omega arith)
      (λ i g. ap₂ (λ x y. not (x == b && y == c)) (a.bytes i (omega arith)) (a.bytes (i + 1) (omega arith))) h

  run_on : (ok : ℕ → Bool) (q d : ℕ) → d < p → Longest (λ i. ok (byte_at xs i)) (length xs) q d → Longest (λ i. ok (byte_at ys i)) (length ys) q d
  run_on ok q d l h =
      let k = a.here in
      let m = a.there in
      runs_on (λ i. ok (byte_at xs i)) (λ i. ok (byte_at ys i)) (length xs) (length ys) q d (omega arith) (omega arith) (λ i g. at_byte ok i (omega arith)) h

  pub comment_on : (i q : ℕ) → q ≤ p → IsComment xs i q → IsComment ys i q
  comment_on i q l d = let e = d.ends in record {
    dashes = d.dashes;
    first = apart_on (code "-") (code "-") (i + 4) d.dashes (omega arith) d.first;
    closes = stands_on (codes "-->") d.dashes (omega arith) d.closes;
    ends = e;
  }

  pub instruction_on : (i q : ℕ) → q ≤ p → IsInstruction xs i q → IsInstruction ys i q
  instruction_on i q l d = let e = d.ends in record {
    close = d.close;
    first = apart_on (code "?") (code ">") (i + 2) d.close (omega arith) d.first;
    closes = stands_on (codes "?>") d.close (omega arith) d.closes;
    ends = e;
  }

  name_on : (i n : ℕ) → n < p → Spelled xs i n → Spelled ys i n
  name_on i n l d = let late = d.0.ends.late in (
    record { begins = at_byte starts_name i (omega arith) ∙ d.0.begins; ends = run_on continues_name i n l d.0.ends },
    d.1,
  )

  pub start_on : (i n q : ℕ) (e : Bool) → q ≤ p → IsStart xs i n q e → IsStart ys i n q e
  start_on i n q e l d =
      let g = d.ends in
      let late = d.tag.rest.late in
      let t = d.tag in
      record {
        name = name_on (i + 1) n (omega arith) d.name;
        close = d.close;
        tag = record {
          after = at_byte (λ b. is_white b || (b == code "/" || b == code ">")) n (omega arith) ∙ t.after;
          slash = λ h. t.slash (sym (a.bytes n (omega arith)) ∙ h);
          rest = run_on plain n d.close (omega arith) t.rest;
          closes = a.bytes d.close (omega arith) ∙ t.closes;
        };
        ends = g;
        slash = d.slash ∙ sym (at_byte (λ b. b == code "/") (d.close - 1) (omega arith));
      }

  pub end_on : (i n q : ℕ) → q ≤ p → IsEnd xs i n q → IsEnd ys i n q
  end_on i n q l d =
      let g = d.ends in
      let late = d.tag.space.late in
      record {
        name = name_on (i + 2) n (omega arith) d.name;
        close = d.close;
        tag = record {
          space = run_on is_white n d.close (omega arith) d.tag.space;
          closes = a.bytes d.close (omega arith) ∙ d.tag.closes;
        };
        ends = g;
      }
