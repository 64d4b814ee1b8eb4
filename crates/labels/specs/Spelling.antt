-- How names and white space are spelled.
use Rattle.std.specs.Prelude.{◌≡◌, ℕ, ◌+◌, ◌<◌, ◌≤◌, Bool, true, false, ◌||◌, List, length, ◌==◌, slice_index, slice_range}
use Prim.Native.Char.{code}
use Rattle.std.specs.Char.{is_ascii_digit, is_ascii_alphabetic}

-- the byte at a place; past the end it is 0, which is no white space and stands in no name
abbrev pub byte_at : List ℕ → ℕ → ℕ
byte_at bs i = slice_index bs i

-- the bytes from one place up to another
abbrev pub part : List ℕ → ℕ → ℕ → List ℕ
part bs p q = slice_range bs p q

-- white space: space, tab, line feed and carriage return
abbrev pub is_white : ℕ → Bool
is_white b = b == 32 || (b == 9 || (b == 10 || b == 13))

-- a name begins with an ASCII letter or `_`
abbrev pub starts_name : ℕ → Bool
starts_name b = is_ascii_alphabetic b || b == code "_"

-- and goes on with these, digits, `.` and `-`
abbrev pub continues_name : ℕ → Bool
continues_name b = starts_name b || (is_ascii_digit b || (b == code "." || b == code "-"))

-- The longest run of places from p on that pass ends at q; it does not pass the end.
pub record LongestRun (Passes Fails : ℕ → Type 0) (end p q : ℕ) : Type 0 where
  pub late : p ≤ q
  pub within : q ≤ end
  pub all : (i : ℕ) → p ≤ i → i < q → Passes i
  pub stops : q < end → Fails q

-- of places that pass a test
abbrev pub Longest : (ℕ → Bool) → ℕ → ℕ → ℕ → Type 0
Longest ok end p q = LongestRun (λ i. ok i ≡ true) (λ i. ok i ≡ false) end p q

-- of bytes that pass a test in the code, of which only its possible answers are known
abbrev pub LongestBy : (ℕ → Bool → Type 0) → List ℕ → ℕ → ℕ → Type 0
LongestBy answers bs p q = LongestRun (λ i. answers (byte_at bs i) true) (λ i. answers (byte_at bs i) false) (length bs) p q

-- A name begins at p, and ends at q since it is as long as it can be.
pub record Named (bs : List ℕ) (p q : ℕ) : Type 0 where
  pub begins : starts_name (byte_at bs p) ≡ true
  pub ends : Longest (λ i. continues_name (byte_at bs i)) (length bs) p q

-- A name has at most so many bytes.
abbrev pub name_limit : ℕ
name_limit = 32

-- a name that is not too long
abbrev pub Spelled : List ℕ → ℕ → ℕ → Type 0
Spelled bs p q = Named bs p q × (q ≤ p + name_limit)
