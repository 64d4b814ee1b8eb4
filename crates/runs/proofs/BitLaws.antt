-- Each bit of a word that the bit operations make.
use Rattle.std.proofs.Common.{◌≡◌, ℕ, zero, suc, ◌+◌, ◌-◌, ◌*◌, ◌/◌, ◌%◌, ◌^◌, ◌<◌, ◌≤◌, min, max, ◌≢◌, ◌⊎◌, ◌↔◌, sym, refl, ap, ◌∙◌, subst, inl, inr, ⊎_elim, mod-eq_of_lt, pow-suc, arith, pow_pos, pow_mono, pow-add, eqb, ltb}
use native.Mathlib.Nat.{div-eq_of_lt, zero-div}
use lib.Bits.{bit_and, bit_or, bit_xor, differ, or_step, and_step, xor_step, or_shr, and_shr, xor_shr, xor_add_and, and_mask, or_lt}
use lib.Arith.{digits_mod, digits_div}
use lib.Pow.{shl-shr, ones_split, ones_lt, pow-lt}
use Rattle.std.specs.Bool.{Decides}
use Rattle.std.proofs.lemmas.Nat.{one_shl}
use Rattle.std.proofs.lemmas.Bool.{cases_order, cases_lt, cases_eq, lt-ltb, ltb-true}
use Rattle.std.proofs.lemmas.Bool.Decides.{Decides-eqb}
use Rattle.runs.specs.Bits.{bit, Has}

module _ (A B : ℕ) where
  odd_or : bit_or A B % 2 ≡ max (A % 2) (B % 2)
  odd_or = let h : max (A % 2) (B % 2) < 2 = omega arith in
      ap (λ (n : ℕ). n % 2) (or_step A B) ∙ digits_mod (bit_or (A / 2) (B / 2)) h

  odd_and : bit_and A B % 2 ≡ min (A % 2) (B % 2)
  odd_and = let h : min (A % 2) (B % 2) < 2 = omega arith in
      ap (λ (n : ℕ). n % 2) (and_step A B) ∙ digits_mod (bit_and (A / 2) (B / 2)) h

  odd_xor : differ (A % 2) (B % 2) < 2 → bit_xor A B % 2 ≡ differ (A % 2) (B % 2)
  odd_xor h = ap (λ (n : ℕ). n % 2) (xor_step A B) ∙ digits_mod (bit_xor (A / 2) (B / 2)) h

pub bit_lt : (w x : ℕ) → bit w x < 2
unfolding bit
bit_lt w x = omega arith

pub bit_of_or : (a b x : ℕ) → bit (bit_or a b) x ≡ max (bit a x) (bit b x)
unfolding bit
bit_of_or a b x = ap (λ (n : ℕ). n % 2) (or_shr a b x) ∙ odd_or (a / 2 ^ x) (b / 2 ^ x)

pub bit_of_and : (a b x : ℕ) → bit (bit_and a b) x ≡ min (bit a x) (bit b x)
unfolding bit
bit_of_and a b x = ap (λ (n : ℕ). n % 2) (and_shr a b x) ∙ odd_and (a / 2 ^ x) (b / 2 ^ x)

pub bit_zero : (x : ℕ) → bit 0 x ≡ 0
unfolding bit
bit_zero x = ap (λ (n : ℕ). n % 2) (zero-div (2 ^ x))

pub bit_pow_same : (x : ℕ) → bit (2 ^ x) x ≡ 1
unfolding bit
bit_pow_same x =
    let e : 2 ^ x ≡ 1 * 2 ^ x = omega arith in
    ap (λ (n : ℕ). n / 2 ^ x % 2) e ∙ ap (λ (n : ℕ). n % 2) (shl-shr 1 x)

even : (j : ℕ) → 2 ^ suc j % 2 ≡ 0
even j = omega (arith, pow-suc 2 j)

pub bit_pow_other : (k x : ℕ) → k ≢ x → bit (2 ^ k) x ≡ 0
unfolding bit
bit_pow_other k x h =
    ⊎_elim (λ e. absurd (h e))
    (⊎_elim (λ l. ap (λ (n : ℕ). n % 2) (div-eq_of_lt (pow-lt l)))
    (λ l.
    let e : k ≡ suc (k - x - 1) + x = omega arith in
    ap (λ (n : ℕ). 2 ^ n / 2 ^ x % 2) e
    ∙ ap (λ (n : ℕ). n / 2 ^ x % 2) (pow-add 2 (suc (k - x - 1)) x)
    ∙ ap (λ (n : ℕ). n % 2) (shl-shr (2 ^ suc (k - x - 1)) x)
    ∙ even (k - x - 1)))
    (cases_order k x)

odd : (j : ℕ) → (2 ^ suc j - 1) % 2 ≡ 1
odd j = omega (arith, pow-suc 2 j, pow_pos j)

pub bit_ones : (w x : ℕ) → x < w → bit (2 ^ w - 1) x ≡ 1
unfolding bit
bit_ones w x h =
    let e : w ≡ suc (w - x - 1) + x = omega arith in
    ap (λ (n : ℕ). (2 ^ n - 1) / 2 ^ x % 2) e
    ∙ ap (λ (n : ℕ). n / 2 ^ x % 2) (ones_split (suc (w - x - 1)) x)
    ∙ ap (λ (n : ℕ). n % 2) (digits_div (2 ^ suc (w - x - 1) - 1) (ones_lt x))
    ∙ odd (w - x - 1)

pub bit_past : (w x a : ℕ) → a < 2 ^ w → w ≤ x → bit a x ≡ 0
unfolding bit
bit_past w x a h l =
    let m : 2 ^ w ≤ 2 ^ x = pow_mono l in
    let k : a < 2 ^ x = omega arith in
    ap (λ (n : ℕ). n % 2) (div-eq_of_lt k)

differ_one : (d : ℕ) → d < 2 → differ d 1 ≡ 1 - d
differ_one zero h = refl
differ_one (suc zero) h = refl
differ_one (suc (suc d)) h = let z : ⊥ = omega arith in absurd z

pub bit_not : (w x a : ℕ) → a < 2 ^ w → x < w → bit ((2 ^ w - 1) - a) x ≡ 1 - bit a x
unfolding bit
bit_not w x a h l =
    let m : bit_and a (2 ^ w - 1) ≡ a = and_mask a w ∙ mod-eq_of_lt h in
    let e : (2 ^ w - 1) - a ≡ bit_xor a (2 ^ w - 1) = omega (arith, xor_add_and a (2 ^ w - 1)) in
    let o : (2 ^ w - 1) / 2 ^ x % 2 ≡ 1 = bit_ones w x l in
    let d : differ (a / 2 ^ x % 2) ((2 ^ w - 1) / 2 ^ x % 2) ≡ 1 - a / 2 ^ x % 2 = rw o (differ_one (a / 2 ^ x % 2) (bit_lt a x)) in
    let s : differ (a / 2 ^ x % 2) ((2 ^ w - 1) / 2 ^ x % 2) < 2 = omega arith in
    ap (λ (n : ℕ). n / 2 ^ x % 2) e ∙ ap (λ (n : ℕ). n % 2) (xor_shr a (2 ^ w - 1) x)
    ∙ odd_xor (a / 2 ^ x) ((2 ^ w - 1) / 2 ^ x) s ∙ d

pub low_bit : (w x : ℕ) → bit_and (w / 2 ^ x) 1 ≡ bit w x
unfolding bit
low_bit w x = and_mask (w / 2 ^ x) 1

-- the sets
pub has_or : (a b x : ℕ) → Has (bit_or a b) x ↔ (Has a x ⊎ Has b x)
has_or a b x =
    let e : bit (bit_or a b) x ≡ max (bit a x) (bit b x) = bit_of_or a b x in
    let p : bit a x < 2 = bit_lt a x in
    let q : bit b x < 2 = bit_lt b x in
    (λ h. ⊎_elim (λ z. inr (omega arith)) (λ z. inl (omega arith)) (cases_lt (bit a x) 1), λ h. ⊎_elim (λ k. omega arith) (λ k. omega arith) h)

pub has_and : (a b x : ℕ) → Has (bit_and a b) x ↔ (Has a x × Has b x)
has_and a b x =
    let e : bit (bit_and a b) x ≡ min (bit a x) (bit b x) = bit_of_and a b x in
    let p : bit a x < 2 = bit_lt a x in
    let q : bit b x < 2 = bit_lt b x in
    (λ h. (omega arith, omega arith), λ h. omega arith)

pub has_pow : (k x : ℕ) → Has (2 ^ k) x ↔ x ≡ k
has_pow k x = (
  λ h. ⊎_elim (λ e. e) (λ n. let z : bit (2 ^ k) x ≡ 0 = bit_pow_other k x (λ e. n (sym e)) in let w : ⊥ = omega arith in absurd w) (cases_eq x k),
  λ e. let P : ℕ → Type 0 = λ y. bit (2 ^ k) y ≡ 1 in subst P (sym e) (bit_pow_same k),
)

pub has_not : (w x a : ℕ) → a < 2 ^ w → x < w → Has ((2 ^ w - 1) - a) x ↔ (Has a x → ⊥)
has_not w x a h l =
    let e : bit ((2 ^ w - 1) - a) x ≡ 1 - bit a x = bit_not w x a h l in
    let p : bit a x < 2 = bit_lt a x in
    (λ k m. omega arith, λ k. ⊎_elim (λ z. omega arith) (λ z. absurd (k (omega arith))) (cases_lt (bit a x) 1))

pub has_none : (x : ℕ) → Has 0 x → ⊥
has_none x h = let z : bit 0 x ≡ 0 = bit_zero x in omega arith

pub has_within : (w a x : ℕ) → a < 2 ^ w → Has a x → x < w
has_within w a x h k = ⊎_elim (λ l. l) (λ l. let z : bit a x ≡ 0 = bit_past w x a h l in let y : ⊥ = omega arith in absurd y) (cases_lt x w)

pub has_ones : (w x : ℕ) → Has (2 ^ w - 1) x ↔ x < w
has_ones w x = (has_within w (2 ^ w - 1) x (ones_lt w), bit_ones w x)

pub ones_shr : (w n : ℕ) → n ≤ w → (2 ^ w - 1) / 2 ^ (w - n) ≡ 2 ^ n - 1
ones_shr w n h =
    let e : w ≡ n + (w - n) = omega arith in
    ap (λ (k : ℕ). (2 ^ k - 1) / 2 ^ (w - n)) e ∙ ap (λ (k : ℕ). k / 2 ^ (w - n)) (ones_split n (w - n))
    ∙ digits_div (2 ^ n - 1) (ones_lt (w - n))

-- what the operations of a set tell, where w is the word of the set v
pub contains_told : (w v n : ℕ) → w ≡ v → Decides (eqb (bit_and (w / 2 ^ n) 1) 1) (Has v n)
contains_told w v n e = rw (low_bit w n, e) (Decides-eqb (bit v n) 1)

pub contains_past : (w v n : ℕ) → w ≡ v → w < 2 ^ 64 → 64 ≤ n → Decides (ltb n 64) (Has v n)
contains_past w v n e f l = (
  λ h. let z : ⊥ = omega (arith, ltb-true) in absurd z,
  λ h. let k : Has w n = rw e h in lt-ltb n 64 (has_within 64 w n f k),
)

pub insert_told : (w v n x : ℕ) → w ≡ v → n < 64 → Has (bit_or w (1 * 2 ^ n % 2 ^ 64)) x ↔ (Has v x ⊎ ((x ≡ n) × (n < 64)))
insert_told w v n x e l =
    rw (one_shl n 64 l, e) (
      λ h. ⊎_elim inl (λ k. inr ((has_pow n x).0 k, l)) ((has_or v (2 ^ n) x).0 h),
      λ h. (has_or v (2 ^ n) x).1 (⊎_elim inl (λ e. inr ((has_pow n x).1 e.0)) h),
    )

pub intersection_told : (a b v w x : ℕ) → a ≡ v → b ≡ w → Has (bit_and a b) x ↔ (Has v x × Has w x)
intersection_told a b v w x e f = rw (e, f) (has_and v w x)

pub union_told : (a b v w x : ℕ) → a ≡ v → b ≡ w → Has (bit_or a b) x ↔ (Has v x ⊎ Has w x)
union_told a b v w x e f = rw (e, f) (has_or v w x)

pub missing_none : (v n x : ℕ) → n ≡ 0 → Has 0 x ↔ ((x < n) × (x < 64) × (Has v x → ⊥))
missing_none v n x e = (λ h. absurd (has_none x h), λ h. let l : x < n = h.0 in let z : ⊥ = omega arith in absurd z)

pub missing_told : (w v count n x : ℕ) → w ≡ v → w < 2 ^ 64 → n ≡ min count 64
    → Has (bit_and ((2 ^ 64 - 1) / 2 ^ (64 - n)) ((2 ^ 64 - 1) - w)) x ↔ ((x < count) × (x < 64) × (Has v x → ⊥))
missing_told w v count n x e f m =
    let l : n ≤ 64 = omega arith in
    rw (ones_shr 64 n l, sym e) (
      λ h.
          let k = (has_and (2 ^ n - 1) ((2 ^ 64 - 1) - w) x).0 h in
          let b : x < n = (has_ones n x).0 k.0 in
          let q : x < 64 = omega arith in
          (omega arith, q, (has_not 64 x w f q).0 k.1),
      λ h.
          let a : x < count = h.0 in
          let q : x < 64 = h.1 in
          (has_and (2 ^ n - 1) ((2 ^ 64 - 1) - w) x).1 ((has_ones n x).1 (omega arith), (has_not 64 x w f q).1 h.2),
    )

pub or_fits : (a b : ℕ) → a < 2 ^ 64 → b < 2 ^ 64 → bit_or a b < 2 ^ 64
or_fits a b h k = or_lt 64 a b h k

pub insert_fits : (w n : ℕ) → w < 2 ^ 64 → n < 64 → bit_or w (1 * 2 ^ n % 2 ^ 64) < 2 ^ 64
insert_fits w n h l = or_fits w (1 * 2 ^ n % 2 ^ 64) h (omega arith)
