-- Making names.
use Rattle.std.specs.Prelude.{◌≡◌, ℕ, zero, suc, ◌+◌, ◌-◌, ◌*◌, ◌/◌, ◌%◌, ◌^◌, ◌<◌, ◌≤◌, min, ◌⊎◌, List, [], ◌∷◌, ◌++◌, length, take, drop, slice_range, Result, Ok, Err, refl}
use Rattle.std.proofs.Common.{sym, ap, ap₂, subst, ◌∙◌, append-nil, append_assoc, arith, pow-suc, mod-eq_of_lt, inl, inr}
use mathlib.Core.HLevel.{is_prop→PathP}
use Rattle.std.proofs.Math.Bridge.{le_prop}
use Rattle.std.specs.List.{AllByRecursion}
use Rattle.std.proofs.lemmas.Bool.{cases_lt}
use Rattle.std.proofs.Math.Nat.{pow-zero, pow-le-pow_right}
use Rattle.std.proofs.lemmas.List.{drop-drop, take-append-drop, take_rest, take_all, length-take-le, length-drop}
use Rattle.labels.specs.Spelling.{name_limit}
use Rattle.labels.specs.declared.name.Name.{Name}
use Rattle.labels.specs.declared.name.NameRefusal.{NameRefusal}
use Rattle.labels.specs.Names.{digits, bytes_of, OnlyMade, Naming, Making, MakingInverse}
use Rattle.labels.specs.NameOf.{written, word_of, name_of}
use Rattle.labels.specs.NameLaws.{length_bytes, Same, same_words}

pub digits_more : (n w b : ℕ) → b < 256 → digits (n + 1) (w * 256 + b) ≡ digits n w ++ b ∷ []
digits_more n w b l =
    let e : n + 1 ≡ suc n = omega arith in
    let q : (w * 256 + b) / 256 ≡ w = omega arith in
    let r : (w * 256 + b) % 256 ≡ b = omega arith in
    ap (λ (k : ℕ). digits k (w * 256 + b)) e ∙ ap₂ (λ (x y : ℕ). digits n x ++ y ∷ []) q r

pub bound_more : (n w b : ℕ) → w < 256 ^ n → b < 256 → w * 256 + b < 256 ^ (n + 1)
bound_more n w b h l =
    let e : n + 1 ≡ suc n = omega arith in
    let P : ℕ → Type 0 = λ k. w * 256 + b < 256 ^ k in
    subst P (sym e) (omega (arith, pow-suc 256 n))

pub small : (n w : ℕ) → n ≤ 7 → w < 256 ^ n → w < 256 ^ 7
small n w l h = let z : 0 < 256 = omega arith in let k : 256 ^ n ≤ 256 ^ 7 = pow-le-pow_right z l in omega arith

pub fix_part : (n w : ℕ) (xs : List ℕ) → digits (length xs) w ≡ xs → length xs ≡ n → digits n w ≡ xs
fix_part n w xs e l = ap (λ (k : ℕ). digits k w) (sym l) ∙ e

cut : (bs : List ℕ) (i j : ℕ) → i ≤ j → slice_range bs i j ++ drop j bs ≡ drop i bs
cut bs i j l =
    let e : j ≡ i + (j - i) = omega arith in
    ap (λ (ys : List ℕ). slice_range bs i j ++ ys) (ap (λ (k : ℕ). drop k bs) e ∙ sym (drop-drop (j - i) i bs))
    ∙ take-append-drop (j - i) (drop i bs)

pub join_parts : (bs : List ℕ) (i j k : ℕ) → i ≤ j → j ≤ k
    → take i bs ++ (slice_range bs i j ++ (slice_range bs j k ++ take (length bs - k) (drop k bs))) ≡ bs
join_parts bs i j k l m =
    ap (λ (ys : List ℕ). take i bs ++ (slice_range bs i j ++ (slice_range bs j k ++ ys))) (take_rest bs k)
    ∙ ap (λ (ys : List ℕ). take i bs ++ (slice_range bs i j ++ ys)) (cut bs j k m)
    ∙ ap (λ (ys : List ℕ). take i bs ++ ys) (cut bs i j l)
    ∙ take-append-drop i bs

pub length_cut : (bs : List ℕ) (i n : ℕ) → i + n ≤ length bs → length (take n (drop i bs)) ≡ n
length_cut bs i n h = length-take-le n (drop i bs) (omega (arith, length-drop i bs))

-- names with the same words are one
words_one : (x y : Name) → Same x y → x ≡ y
words_one x y s = λ i. record {
  len = s.len i;
  first = s.first i;
  second = s.second i;
  third = s.third i;
  fourth = s.fourth i;
  few = is_prop→PathP (λ i. s.len i ≤ name_limit) (λ i. le_prop) x.few y.few i;
  first_fits = is_prop→PathP (λ i. s.first i < 256 ^ min 8 (s.len i)) (λ i. le_prop) x.first_fits y.first_fits i;
  second_fits = is_prop→PathP (λ i. s.second i < 256 ^ min 8 (s.len i - 8)) (λ i. le_prop) x.second_fits y.second_fits i;
  third_fits = is_prop→PathP (λ i. s.third i < 256 ^ min 8 (s.len i - 16)) (λ i. le_prop) x.third_fits y.third_fits i;
  fourth_fits = is_prop→PathP (λ i. s.fourth i < 256 ^ min 8 (s.len i - 24)) (λ i. le_prop) x.fourth_fits y.fourth_fits i;
}

bytes_one : (x y : Name) → bytes_of x ≡ bytes_of y → x ≡ y
bytes_one x y e = words_one x y (same_words x y e)

-- the digits of what bytes write are the bytes
written_digits : (v n : ℕ) (bs : List ℕ) → AllByRecursion (λ b. b < 256) bs → digits (n + length bs) (written v bs) ≡ digits n v ++ bs
written_digits v n [] h = let e : n + 0 ≡ n = omega arith in ap (λ (k : ℕ). digits k v) e ∙ sym (append-nil (digits n v))
written_digits v n (b ∷ bs) h =
    let e : n + suc (length bs) ≡ (n + 1) + length bs = omega arith in
    ap (λ (k : ℕ). digits k (written (v * 256 + b) bs)) e
    ∙ written_digits (v * 256 + b) (n + 1) bs h.1
    ∙ ap (λ (ds : List ℕ). ds ++ bs) (digits_more n v b h.0)
    ∙ append_assoc (digits n v) (b ∷ []) bs

written_fits : (v n : ℕ) (bs : List ℕ) → AllByRecursion (λ b. b < 256) bs → v < 256 ^ n → written v bs < 256 ^ (n + length bs)
written_fits v n [] h l = let e : n ≡ n + 0 = omega arith in let P : ℕ → Type 0 = λ k. v < 256 ^ k in subst P e l
written_fits v n (b ∷ bs) h l =
    let e : (n + 1) + length bs ≡ n + suc (length bs) = omega arith in
    let P : ℕ → Type 0 = λ k. written (v * 256 + b) bs < 256 ^ k in
    subst P e (written_fits (v * 256 + b) (n + 1) bs h.1 (bound_more n v b l h.0))

digits_back : (bs : List ℕ) (n : ℕ) → length bs ≡ n → AllByRecursion (λ b. b < 256) bs → digits n (written 0 bs % 256 ^ n) ≡ bs
digits_back bs n l h =
    let e : 0 + length bs ≡ n = omega arith in
    let P : ℕ → Type 0 = λ k. written 0 bs < 256 ^ k in
    let Q : ℕ → Type 0 = λ k. digits k (written 0 bs) ≡ bs in
    let z : 0 < 256 ^ 0 = omega (arith, pow-zero 256) in
    ap (λ (w : ℕ). digits n w) (mod-eq_of_lt (subst P e (written_fits 0 0 bs h z))) ∙ subst Q e (written_digits 0 0 bs h)

take_few : (n : ℕ) (bs : List ℕ) → take (min n (length bs)) bs ≡ take n bs
take_few n bs = go (cases_lt n (length bs))
  where
    go : ((n < length bs) ⊎ (length bs ≤ n)) → take (min n (length bs)) bs ≡ take n bs
    go (inl l) = let e : min n (length bs) ≡ n = omega arith in ap (λ (k : ℕ). take k bs) e
    go (inr l) = take_all (min n (length bs)) bs (omega arith) ∙ sym (take_all n bs l)

every_drop : (P : ℕ → Type 0) (p : ℕ) (bs : List ℕ) → AllByRecursion P bs → AllByRecursion P (drop p bs)
every_drop P zero bs h = h
every_drop P (suc p) [] h = tt
every_drop P (suc p) (b ∷ bs) h = every_drop P p bs h.1

every_take : (P : ℕ → Type 0) (n : ℕ) (bs : List ℕ) → AllByRecursion P bs → AllByRecursion P (take n bs)
every_take P zero bs h = tt
every_take P (suc n) [] h = tt
every_take P (suc n) (b ∷ bs) h = (h.0, every_take P n bs h.1)

every_part : (P : ℕ → Type 0) (n p : ℕ) (bs : List ℕ) → AllByRecursion P bs → AllByRecursion P (take n (drop p bs))
every_part P n p bs h = every_take P n (drop p bs) (every_drop P p bs h)

-- one word of the name gives eight bytes, or as many as are left
word_back : (bs : List ℕ) (p : ℕ) → AllByRecursion (λ b. b < 256) bs → digits (min 8 (length bs - p)) (word_of bs p (min 8 (length bs - p))) ≡ take 8 (drop p bs)
word_back bs p h =
    let n : ℕ = min 8 (length bs - p) in
    let l : length (take n (drop p bs)) ≡ n = length-take-le n (drop p bs) (omega (arith, length-drop p bs)) in
    let few : take n (drop p bs) ≡ take 8 (drop p bs) = let e : n ≡ min 8 (length (drop p bs)) = omega (arith, length-drop p bs) in ap (λ (k : ℕ). take k (drop p bs)) e ∙ take_few 8 (drop p bs) in
    digits_back (take n (drop p bs)) n l (every_part (λ b. b < 256) n p bs h) ∙ few

eight_more : (bs : List ℕ) (p q : ℕ) → q ≡ p + 8 → take 8 (drop p bs) ++ drop q bs ≡ drop p bs
eight_more bs p q e = ap (λ (k : ℕ). take 8 (drop p bs) ++ drop k bs) e ∙ ap (λ (ds : List ℕ). take 8 (drop p bs) ++ ds) (sym (drop-drop 8 p bs)) ∙ take-append-drop 8 (drop p bs)

-- the name of bytes has these bytes, if they are not too many
pub name_bytes : (bs : List ℕ) → length bs ≤ name_limit → AllByRecursion (λ b. b < 256) bs → bytes_of (name_of bs) ≡ bs
unfolding name_of
name_bytes bs few h =
    let len : min name_limit (length bs) ≡ length bs = omega arith in
    let Q : ℕ → Type 0 = λ n.
    digits (min 8 n) (word_of bs 0 (min 8 n)) ++ (digits (min 8 (n - 8)) (word_of bs 8 (min 8 (n - 8))) ++ (digits (min 8 (n - 16)) (word_of bs 16 (min 8 (n - 16))) ++ digits (min 8 (n - 24)) (word_of bs 24 (min 8 (n - 24))))) ≡ bs in
    let zero : length bs - 0 ≡ length bs = omega arith in
    let R : ℕ → Type 0 = λ n. digits (min 8 n) (word_of bs 0 (min 8 n)) ≡ take 8 (drop 0 bs) in
    let a : digits (min 8 (length bs)) (word_of bs 0 (min 8 (length bs))) ≡ take 8 (drop 0 bs) = subst R zero (word_back bs 0 h) in
    let b = word_back bs 8 h in
    let k = word_back bs 16 h in
    let d : digits (min 8 (length bs - 24)) (word_of bs 24 (min 8 (length bs - 24))) ≡ drop 24 bs = word_back bs 24 h ∙ take_all 8 (drop 24 bs) (omega (arith, length-drop 24 bs)) in
    let e2 = eight_more bs 16 24 refl in
    let e1 = eight_more bs 8 16 refl in
    let e0 = eight_more bs 0 8 refl in
    let all : drop 0 bs ≡ bs = refl in
    subst Q (sym len) (cc)

-- the bytes of a name are not too many
pub few_name : (n : Name) → length (bytes_of n) ≤ name_limit
few_name n = let l = length_bytes n in let f = n.few in omega arith

few_bytes : (bs : List ℕ) (n : Name) → bytes_of n ≡ bs → length bs ≤ name_limit
few_bytes bs n e = subst (λ (xs : List ℕ). length xs ≤ name_limit) e (few_name n)

every_append : (P : ℕ → Type 0) (xs ys : List ℕ) → AllByRecursion P xs → AllByRecursion P ys → AllByRecursion P (xs ++ ys)
every_append P [] ys h k = k
every_append P (x ∷ xs) ys h k = (h.0, every_append P xs ys h.1 k)

digits_small : (n w : ℕ) → AllByRecursion (λ b. b < 256) (digits n w)
digits_small zero w = tt
digits_small (suc n) w = every_append (λ b. b < 256) (digits n (w / 256)) (w % 256 ∷ []) (digits_small n (w / 256)) (omega arith, tt)

-- the bytes of a name are bytes
bytes_small : (n : Name) → AllByRecursion (λ b. b < 256) (bytes_of n)
bytes_small n =
    every_append (λ b. b < 256) _ _ (digits_small (min 8 n.len) n.first)
    (every_append (λ b. b < 256) _ _ (digits_small (min 8 (n.len - 8)) n.second)
    (every_append (λ b. b < 256) _ _ (digits_small (min 8 (n.len - 16)) n.third) (digits_small (min 8 (n.len - 24)) n.fourth)))

-- a name with these bytes is the name of them
pub is_name_of : (bs : List ℕ) (n : Name) → bytes_of n ≡ bs → n ≡ name_of bs
is_name_of bs n e = bytes_one n (name_of bs) (e ∙ sym (name_bytes bs (few_bytes bs n e) (subst (AllByRecursion (λ b. b < 256)) e (bytes_small n))))

------------------------------------------------------------------------
-- making names

-- a name with these bytes is the only one
pub made_from : (bs : List ℕ) (n : Name) → bytes_of n ≡ bs → OnlyMade bs n
made_from bs n e = record { holds = e; only = λ m h. bytes_one m n (h ∙ sym e); no_other = λ k r. let few = few_bytes bs n e in let many = r.1 in absurd (omega arith) }

pub making_of : (bs : List ℕ) (answer : Result Name NameRefusal) → Naming bs answer → Making bytes_of bs answer
making_of bs (Ok n) h = (h.holds, few_bytes bs n h.holds)
making_of bs (Err f) h = h.holds

pub making_inverse : MakingInverse
making_inverse = record { bytes_back = λ bs n m. m.holds; name_is = λ bs n m. is_name_of bs n m.holds; name_back = back }
  where
    back : (n : Name) (answer : Result Name NameRefusal) → Naming (bytes_of n) answer → answer ≡ Ok n
    back n (Ok m) h = ap Ok (sym (h.only n refl))
    back n (Err f) h = absurd (h.no_other n refl)
