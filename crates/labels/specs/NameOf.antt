-- The name of bytes, as a function of them.
use Rattle.std.specs.Prelude.{ℕ, zero, suc, ◌+◌, ◌-◌, ◌*◌, ◌%◌, ◌^◌, ◌<◌, ◌≤◌, min, List, [], ◌∷◌, length, take, drop}
use Rattle.std.proofs.Common.{mod-lt, pow-suc, arith}
use Rattle.std.proofs.Math.Nat.{min-le_left, pow-zero}
use Rattle.labels.specs.Spelling.{name_limit}
use Rattle.labels.specs.declared.name.Name.{Name}

-- the number that bytes write in base 256, behind what v writes
abbrev pub written : ℕ → List ℕ → ℕ
written v [] = v
written v (b ∷ bs) = written (v * 256 + b) bs

-- the word of n bytes from the place p on; cut to n digits, so that it fits a word whatever the list holds
abbrev pub word_of : List ℕ → ℕ → ℕ → ℕ
word_of bs p n = written 0 (take n (drop p bs)) % 256 ^ n

pub word_fits : (bs : List ℕ) (p n : ℕ) → word_of bs p n < 256 ^ n
word_fits bs p n = mod-lt (written 0 (take n (drop p bs))) (power n)
  where
    power : (n : ℕ) → 0 < 256 ^ n
    power zero = omega (arith, pow-zero 256)
    power (suc n) = omega (arith, pow-suc 256 n, power n)

-- the name with so many bytes
abbrev pub cut_name : (n : ℕ) → n ≤ name_limit → List ℕ → Name
cut_name n few bs = record {
  len = n;
  first = word_of bs 0 (min 8 n);
  second = word_of bs 8 (min 8 (n - 8));
  third = word_of bs 16 (min 8 (n - 16));
  fourth = word_of bs 24 (min 8 (n - 24));
  few = few;
  first_fits = word_fits bs 0 (min 8 n);
  second_fits = word_fits bs 8 (min 8 (n - 8));
  third_fits = word_fits bs 16 (min 8 (n - 16));
  fourth_fits = word_fits bs 24 (min 8 (n - 24));
}

-- the name of the bytes, of which it takes no more than a name has
unfoldable pub name_of : List ℕ → Name
name_of bs = cut_name (min name_limit (length bs)) (min-le_left name_limit (length bs)) bs
