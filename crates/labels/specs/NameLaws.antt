-- The bytes of a name, and that comparing names is comparing them.
use Rattle.std.specs.Prelude.{◌≡◌, ℕ, zero, suc, ◌+◌, ◌-◌, ◌/◌, ◌%◌, ◌^◌, ◌<◌, ◌≤◌, min, Bool, true, false, ◌==◌, ◌&&◌, List, ◌++◌, length, take, drop, refl}
use Rattle.std.proofs.Common.{sym, ap, subst, ◌∙◌, arith, pow-suc}
use Rattle.std.specs.Str.{bytes_eq}
use Rattle.std.proofs.lemmas.Slice.Eq.{bytes_eq-Decides}
use Rattle.std.proofs.lemmas.Bool.{false≢true, and_parts, eq-eqb, eqb-true}
use Rattle.std.proofs.lemmas.List.{length-append, length_push, take_at, drop_at, same_from_push}
use Rattle.labels.specs.Spelling.{name_limit}
use Rattle.labels.specs.declared.name.Name.{Name}
use Rattle.labels.specs.Names.{digits, bytes_of}

pub length_digits : (n w : ℕ) → length (digits n w) ≡ n
length_digits zero w = refl
length_digits (suc n) w = length_push (digits n (w / 256)) (w % 256) ∙ let e : length (digits n (w / 256)) + 1 ≡ suc n = omega (arith, length_digits n (w / 256)) in e

digits_inj : (n w w' : ℕ) → w < 256 ^ n → w' < 256 ^ n → digits n w ≡ digits n w' → w ≡ w'
digits_inj zero w w' h h' e = omega arith
digits_inj (suc n) w w' h h' e =
    let s = same_from_push (digits n (w / 256)) (digits n (w' / 256)) (w % 256) (w' % 256) e in
    let i : w / 256 ≡ w' / 256 = digits_inj n (w / 256) (w' / 256) (omega (arith, pow-suc 256 n)) (omega (arith, pow-suc 256 n)) s.0 in
    omega (arith, s.1)

append_inj : (xs ys xs' ys' : List ℕ) → length xs ≡ length xs' → xs ++ ys ≡ xs' ++ ys' → (xs ≡ xs') × (ys ≡ ys')
append_inj xs ys xs' ys' l e = (
  sym (take_at xs ys (length xs) refl) ∙ ap (λ (zs : List ℕ). take (length xs) zs) e ∙ take_at xs' ys' (length xs) (sym l),
  sym (drop_at xs ys (length xs) refl) ∙ ap (λ (zs : List ℕ). drop (length xs) zs) e ∙ drop_at xs' ys' (length xs) (sym l),
)

module _ (len a b c d : ℕ) where
  abbrev A : List ℕ
  A = digits (min 8 len) a

  abbrev B : List ℕ
  B = digits (min 8 (len - 8)) b

  abbrev K : List ℕ
  K = digits (min 8 (len - 16)) c

  abbrev D : List ℕ
  D = digits (min 8 (len - 24)) d

  length_parts : len ≤ name_limit → length (A ++ (B ++ (K ++ D))) ≡ len
  length_parts h =
      omega (
        arith,
        length-append A (B ++ (K ++ D)),
        length-append B (K ++ D),
        length-append K D,
        length_digits (min 8 len) a,
        length_digits (min 8 (len - 8)) b,
        length_digits (min 8 (len - 16)) c,
        length_digits (min 8 (len - 24)) d,
      )

same_length : (n w w' : ℕ) → length (digits n w) ≡ length (digits n w')
same_length n w w' = length_digits n w ∙ sym (length_digits n w')

parts_inj : (n a b c d a' b' c' d' : ℕ) → A n a b c d ++ (B n a b c d ++ (K n a b c d ++ D n a b c d)) ≡ A n a' b' c' d' ++ (B n a' b' c' d' ++ (K n a' b' c' d' ++ D n a' b' c' d'))
    → (A n a b c d ≡ A n a' b' c' d') × (B n a b c d ≡ B n a' b' c' d') × (K n a b c d ≡ K n a' b' c' d') × (D n a b c d ≡ D n a' b' c' d')
parts_inj n a b c d a' b' c' d' e =
    let p = append_inj (A n a b c d) (B n a b c d ++ (K n a b c d ++ D n a b c d)) (A n a' b' c' d') (B n a' b' c' d' ++ (K n a' b' c' d' ++ D n a' b' c' d')) (same_length (min 8 n) a a') e in
    let q = append_inj (B n a b c d) (K n a b c d ++ D n a b c d) (B n a' b' c' d') (K n a' b' c' d' ++ D n a' b' c' d') (same_length (min 8 (n - 8)) b b') p.1 in
    let r = append_inj (K n a b c d) (D n a b c d) (K n a' b' c' d') (D n a' b' c' d') (same_length (min 8 (n - 16)) c c') q.1 in
    (p.0, q.0, r.0, r.1)

pub length_bytes : (n : Name) → length (bytes_of n) ≡ n.len
length_bytes n = length_parts n.len n.first n.second n.third n.fourth n.few

pub record Same (x y : Name) : Type 0 where
  pub len : x.len ≡ y.len
  pub first : x.first ≡ y.first
  pub second : x.second ≡ y.second
  pub third : x.third ≡ y.third
  pub fourth : x.fourth ≡ y.fourth

-- names with the same bytes have the same words
pub same_words : (x y : Name) → bytes_of x ≡ bytes_of y → Same x y
same_words x y e =
    let l : x.len ≡ y.len = sym (length_bytes x) ∙ ap length e ∙ length_bytes y in
    let P1 : ℕ → Type 0 = λ m. y.first < 256 ^ min 8 m in
    let P2 : ℕ → Type 0 = λ m. y.second < 256 ^ min 8 (m - 8) in
    let P3 : ℕ → Type 0 = λ m. y.third < 256 ^ min 8 (m - 16) in
    let P4 : ℕ → Type 0 = λ m. y.fourth < 256 ^ min 8 (m - 24) in
    let Q : ℕ → Type 0 = λ m. bytes_of x ≡ digits (min 8 m) y.first ++ (digits (min 8 (m - 8)) y.second ++ (digits (min 8 (m - 16)) y.third ++ digits (min 8 (m - 24)) y.fourth)) in
    let w = parts_inj x.len x.first x.second x.third x.fourth y.first y.second y.third y.fourth (subst Q (sym l) e) in
    record {
      len = l;
      first = digits_inj (min 8 x.len) x.first y.first x.first_fits (subst P1 (sym l) y.first_fits) w.0;
      second = digits_inj (min 8 (x.len - 8)) x.second y.second x.second_fits (subst P2 (sym l) y.second_fits) w.1;
      third = digits_inj (min 8 (x.len - 16)) x.third y.third x.third_fits (subst P3 (sym l) y.third_fits) w.2;
      fourth = digits_inj (min 8 (x.len - 24)) x.fourth y.fourth x.fourth_fits (subst P4 (sym l) y.fourth_fits) w.3;
    }

same_bytes : (x y : Name) → Same x y → bytes_of x ≡ bytes_of y
same_bytes x y s =
    let e1 = s.len in let e2 = s.first in let e3 = s.second in let e4 = s.third in let e5 = s.fourth in cc

-- what a comparison of the words tells of the bytes
same_told : (x y : Name) → Same x y → true ≡ bytes_eq (bytes_of x) (bytes_of y)
same_told x y s = sym ((bytes_eq-Decides (bytes_of x) (bytes_of y)).1 (same_bytes x y s))

other_told : (x y : Name) → (Same x y → ⊥) → false ≡ bytes_eq (bytes_of x) (bytes_of y)
other_told x y d = go (bytes_eq (bytes_of x) (bytes_of y)) refl
  where
    go : (b : Bool) → b ≡ bytes_eq (bytes_of x) (bytes_of y) → false ≡ bytes_eq (bytes_of x) (bytes_of y)
    go true e = absurd (d (same_words x y ((bytes_eq-Decides (bytes_of x) (bytes_of y)).0 (sym e))))
    go false e = e

-- the derived comparison, word by word
abbrev words_eq : Name → Name → Bool
words_eq x y = (x.len == y.len) && ((x.first == y.first) && ((x.second == y.second) && ((x.third == y.third) && (x.fourth == y.fourth))))

all_equal : (x y : Name) → Same x y → words_eq x y ≡ true
all_equal x y s = rw (eq-eqb _ _ s.len, eq-eqb _ _ s.first, eq-eqb _ _ s.second, eq-eqb _ _ s.third, eq-eqb _ _ s.fourth) refl

each_equal : (x y : Name) → words_eq x y ≡ true → Same x y
each_equal x y e =
    let p = and_parts _ _ e in
    let q = and_parts _ _ p.1 in
    let r = and_parts _ _ q.1 in
    let s = and_parts _ _ r.1 in
    record { len = eqb-true _ _ p.0; first = eqb-true _ _ q.0; second = eqb-true _ _ r.0; third = eqb-true _ _ s.0; fourth = eqb-true _ _ s.1 }

-- comparing the words is comparing the bytes
pub compared : (x y : Name) → words_eq x y ≡ bytes_eq (bytes_of x) (bytes_of y)
compared x y = go (words_eq x y) refl
  where
    go : (r : Bool) → r ≡ words_eq x y → r ≡ bytes_eq (bytes_of x) (bytes_of y)
    go true h = same_told x y (each_equal x y (sym h))
    go false h = other_told x y (λ s. false≢true (h ∙ all_equal x y s))

-- and the comparison answers true exactly of names with the same bytes
pub equal_bytes : (x y : Name) → words_eq x y ≡ true → bytes_of x ≡ bytes_of y
equal_bytes x y e = same_bytes x y (each_equal x y e)

pub bytes_equal : (x y : Name) → bytes_of x ≡ bytes_of y → words_eq x y ≡ true
bytes_equal x y e = all_equal x y (same_words x y e)
