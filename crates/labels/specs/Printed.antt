-- How numbers and places are printed.
use Rattle.std.specs.Prelude.{ℕ, List, ◌++◌, codes}
use Rattle.std.specs.Fmt.{decimal}

-- a number at a place, as `11 at 5`
abbrev pub number_at : ℕ → ℕ → List ℕ
number_at k p = decimal k ++ (codes " at " ++ decimal p)

-- a number in a record, as `16, record 2`
abbrev pub number_in_record : ℕ → ℕ → List ℕ
number_in_record k i = decimal k ++ (codes ", record " ++ decimal i)
