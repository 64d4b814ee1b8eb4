-- The refusals of a run by their numbers.
use Rattle.std.specs.Prelude.{ℕ}
use Rattle.runs.specs.declared.refusal.Refusal.{Refusal}
use Rattle.runs.specs.declared.refusal.Refusal.TheVariants.{NothingOpen, WaitingFull, TooDeep, TooMany}

abbrev pub number : Refusal → ℕ
number NothingOpen = 20
number WaitingFull = 21
number TooDeep = 22
number TooMany = 23
