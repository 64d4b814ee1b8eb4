-- What a journal that was not replayed to its end tells. It is no refusal, and has no number.
use Rattle.std.specs.Prelude.{ℕ, List, ◌++◌, codes, Some, None, Option}
use Rattle.std.specs.Fmt.{decimal}
use Rattle.runs.specs.declared.journal.Shortage.{Shortage}
use Rattle.runs.specs.declared.journal.Shortage.TheVariants.{Answers, Numbers}

-- the taking that was not made, as a place in the journal, and the count of the numbers handed out before it; or nothing, where
-- no call was made
abbrev pub stopped_at : Shortage → Option (ℕ × ℕ)
stopped_at Answers = None
stopped_at (Numbers call handed) = Some (call, handed)

-- how it is printed
abbrev pub stop_text : Option (ℕ × ℕ) → List ℕ
stop_text None = codes "the answers do not fit"
stop_text (Some (call, handed)) = codes "the numbers of call " ++ (decimal call ++ codes " do not fit")

abbrev pub shortage_text : Shortage → List ℕ
shortage_text shortage = stop_text (stopped_at shortage)
