-- The parts of an input.
use Rattle.std.specs.Prelude.{◌≡◌, ℕ, ◌+◌, ◌<◌, ◌≤◌, List, length, take, drop, ◌≢◌, slice_index}

-- the first byte b of bs is at n, or n is the end
pub record FirstAt (b : ℕ) (bs : List ℕ) (n : ℕ) : Type 0 where
  pub within : n ≤ length bs
  pub first : (i : ℕ) → i < n → slice_index bs i ≢ b
  pub here : n < length bs → slice_index bs n ≡ b

-- The first part of bs, up to its first byte b, and what is behind that byte. Without a byte b all is in the first part.
pub record Splits (b : ℕ) (bs first second : List ℕ) : Type 0 where
  pub at : ℕ
  pub first_at : FirstAt b bs at
  pub first_is : first ≡ take at bs
  pub second_is : second ≡ drop (at + 1) bs
