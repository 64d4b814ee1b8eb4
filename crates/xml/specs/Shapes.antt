-- What the bytes from a place on are, by the place.
use Rattle.std.specs.Prelude.{◌≡◌, ℕ, suc, ◌+◌, ◌-◌, ◌<◌, ◌≤◌, Bool, true, false, cond, ◌||◌, ◌⊎◌, List, [], ◌∷◌, length, drop, ◌==◌, ◌≢◌, slice_index, refl}
use Rattle.std.proofs.Common.{sym, ◌∙◌, ap, subst, inl, inr, add-zero, arith, length-drop}
use Prim.Native.Char.{code}
use Rattle.std.proofs.lemmas.List.{get_or-drop}
use Rattle.std.proofs.lemmas.Bool.{cases_lt, and_parts, not-false, eqb-true, or_cases, both_ways}
use Rattle.labels.specs.Spelling.{byte_at, is_white, starts_name, Longest}
use Rattle.xml.specs.Bytes.{plain, apart}
use Rattle.xml.specs.Markup.{markup, behind, two_dashes, TagEnds}
use Rattle.xml.specs.declared.markup.Markup.{Markup}
use Rattle.xml.specs.declared.markup.Markup.TheVariants.{Nothing, Text, EndTag, Comment, Declaration, Instruction, StartTag, Cut, Stray}

-- the bytes from a place on, by the place
pub record From (xs : List ℕ) (d : ℕ) (bs : List ℕ) : Type 0 where
  pub long : length bs ≡ length xs - d
  pub first : slice_index bs 0 ≡ byte_at xs d
  pub at : (k : ℕ) → slice_index bs k ≡ byte_at xs (d + k)

pub from_place : (xs bs : List ℕ) (d : ℕ) → bs ≡ drop d xs → From xs d bs
from_place xs bs d e =
    let at : (k : ℕ) → slice_index bs k ≡ byte_at xs (d + k) = λ k. ap (λ l. slice_index l k) e ∙ get_or-drop d xs k 0 in
    record { long = ap length e ∙ length-drop d xs; first = at 0 ∙ ap (byte_at xs) (add-zero d); at = at }

-- how long the markup is at least, by what begins
dashes_long : (bs : List ℕ) → two_dashes bs ≡ true → 2 ≤ length bs
dashes_long [] e = let z : ◌≡◌ {A = ℕ} 0 1 = cc in absurd (omega arith)
dashes_long (a ∷ []) e = let z : ◌≡◌ {A = ℕ} 0 1 = cc in absurd (omega arith)
dashes_long (a ∷ b ∷ bs) e = omega arith

abbrev pub least : Markup → ℕ
least Nothing = 0
least Text = 1
least EndTag = 2
least Comment = 4
least Declaration = 2
least Instruction = 2
least StartTag = 2
least Cut = 1
least Stray = 2

-- it is not the end, and n bytes have room for it
abbrev Fits : Markup → ℕ → Type 0
Fits k n = (0 < least k) × (least k ≤ n)

behind_long : (bs : List ℕ) → Fits (behind bs) (suc (length bs))
behind_long [] = (omega arith, omega arith)
behind_long (b ∷ bs) = go (b == code "/") (b == code "!") (two_dashes bs) refl (b == code "?") (starts_name b)
  where
    go : (t₁ t₂ t₃ : Bool) → two_dashes bs ≡ t₃ → (t₄ t₅ : Bool) →
        Fits (cond t₁ EndTag (cond t₂ (cond t₃ Comment Declaration) (cond t₄ Instruction (cond t₅ StartTag Stray)))) (suc (suc (length bs)))
    go true t₂ t₃ e t₄ t₅ = (omega arith, omega arith)
    go false true true e t₄ t₅ = (omega arith, omega (arith, dashes_long bs e))
    go false true false e t₄ t₅ = (omega arith, omega arith)
    go false false t₃ e true t₅ = (omega arith, omega arith)
    go false false t₃ e false true = (omega arith, omega arith)
    go false false t₃ e false false = (omega arith, omega arith)

some_long : (b : ℕ) (bs : List ℕ) → Fits (markup (b ∷ bs)) (suc (length bs))
some_long b bs = go (b == code "<") (behind_long bs)
  where
    go : (t : Bool) → Fits (behind bs) (suc (length bs)) → Fits (cond t (behind bs) Text) (suc (length bs))
    go true h = h
    go false h = (omega arith, omega arith)

markup_long : (bs : List ℕ) → least (markup bs) ≤ length bs
markup_long [] = omega arith
markup_long (b ∷ bs) = (some_long b bs).1

-- where nothing begins, no byte is left
pub markup_none : (bs : List ℕ) → markup bs ≡ Nothing → length bs ≡ 0
markup_none [] e = refl
markup_none (b ∷ bs) e = let h = (some_long b bs).0 in absurd (omega (arith, ap least e))

-- the bytes from p on are so many at least
pub reaches : (xs : List ℕ) (p : ℕ) (k : Markup) → markup (drop p xs) ≡ k → 0 < least k → p + least k ≤ length xs
reaches xs p k e h =
    let a : least k ≤ length (drop p xs) = subst (λ j. least j ≤ length (drop p xs)) e (markup_long (drop p xs)) in
    omega (arith, length-drop p xs)

pub comment_long : (xs : List ℕ) (p : ℕ) → markup (drop p xs) ≡ Comment → p + 4 ≤ length xs
comment_long xs p e = reaches xs p Comment e (omega arith)

-- where the two bytes stand
pub pair_here : (xs : List ℕ) (a b i : ℕ) → apart xs a b i ≡ false → (byte_at xs i ≡ a) × (byte_at xs (i + 1) ≡ b)
pair_here xs a b i e =
    let h = and_parts (byte_at xs i == a) (byte_at xs (i + 1) == b) (not-false _ e) in
    (eqb-true _ _ h.0, eqb-true _ _ h.1)

-- one more place that passes
pub one_more : (ok : ℕ → Bool) (p q : ℕ) → ((i : ℕ) → p ≤ i → i < q → ok i ≡ true) → ok q ≡ true → (i : ℕ) → p ≤ i → i < q + 1 → ok i ≡ true
one_more ok p q h e i a b = go (cases_lt i q)
  where
    go : ((i < q) ⊎ (q ≤ i)) → ok i ≡ true
    go (inl l) = h i a l
    go (inr l) = let s : q ≡ i = omega arith in subst (λ j. ok j ≡ true) s e

-- the rest of a start tag: `/>` right after the name
pub slash_tag : (xs : List ℕ) (n : ℕ) → byte_at xs n ≡ code "/" → n + 1 < length xs → byte_at xs (n + 1) ≡ code ">" → TagEnds xs n (n + 1)
slash_tag xs n e h f =
    let at_n : plain (byte_at xs n) ≡ true = ap plain e in
    let here : (i : ℕ) → n ≤ i → i < n → plain (byte_at xs i) ≡ true = λ i a b. absurd (omega arith) in
    record {
      after = ap (λ b. is_white b || (b == code "/" || b == code ">")) e;
      slash = λ _. refl;
      rest = record { late = omega arith; within = omega arith; all = one_more (λ i. plain (byte_at xs i)) n n here at_n; stops = λ _. ap plain f };
      closes = f;
    }

-- white space or `>` right after the name
no_slash : (b : ℕ) → (is_white b || b == code ">") ≡ true → ((is_white b || (b == code "/" || b == code ">")) ≡ true) × (b ≢ code "/")
no_slash b h = (go (is_white b) (b == code "/") (b == code ">") h, λ e. both_ways _ refl (sym (ap (λ x. is_white x || x == code ">") e) ∙ h))
  where
    go : (t₁ t₂ t₃ : Bool) → (t₁ || t₃) ≡ true → (t₁ || (t₂ || t₃)) ≡ true
    go true t₂ t₃ h = refl
    go false true t₃ h = refl
    go false false t₃ h = h

not_plain : (b : ℕ) → plain b ≡ false → (b ≢ code "<") → b ≡ code ">"
not_plain b h n = go (or_cases (b == code "<") (b == code ">") (not-false _ h))
  where
    go : (((b == code "<") ≡ true) ⊎ ((b == code ">") ≡ true)) → b ≡ code ">"
    go (inl e) = absurd (n (eqb-true b (code "<") e))
    go (inr e) = eqb-true b (code ">") e

pub no_close : (b : ℕ) → plain b ≡ false → (b ≢ code ">") → b ≡ code "<"
no_close b h n = go (or_cases (b == code "<") (b == code ">") (not-false _ h))
  where
    go : (((b == code "<") ≡ true) ⊎ ((b == code ">") ≡ true)) → b ≡ code "<"
    go (inl e) = eqb-true b (code "<") e
    go (inr e) = absurd (n (eqb-true b (code ">") e))

pub bracket_tag : (xs : List ℕ) (n c : ℕ) → (is_white (byte_at xs n) || byte_at xs n == code ">") ≡ true → Longest (λ i. plain (byte_at xs i)) (length xs) n c →
    c < length xs → (byte_at xs c ≢ code "<") → TagEnds xs n c
bracket_tag xs n c h l w ne =
    let s = no_slash (byte_at xs n) h in
    record { after = s.0; slash = λ e. absurd (s.1 e); rest = l; closes = not_plain (byte_at xs c) (l.stops w) ne }
