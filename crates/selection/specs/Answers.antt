-- What a selection answers, case by case.
use Rattle.std.specs.Prelude.{ℕ, List, Ok, Err, Result}
use Rattle.std.specs.Fmt.{decimal}
use Rattle.runs.specs.Refusals as run
use Rattle.selection.specs.declared.refusal.Refusal.{Refusal}
use Rattle.selection.specs.declared.refusal.Refusal.TheVariants.{Run, ListFull}
use Rattle.selection.specs.declared.refusal.Cause.{Cause}
use Rattle.selection.specs.declared.refusal.Cause.TheVariants.{Fault, Refused}
use Rattle.selection.specs.declared.refusal.SelectFault.{SelectFault}

-- the number of a refusal: the run's, or 24 for a list that has no room
abbrev pub number : Refusal → ℕ
number (Run r) = run.number r
number ListFull = 24

-- how it is printed
abbrev pub refusal_text : Refusal → List ℕ
refusal_text r = decimal (number r)

-- The source is done, with the count of the numbers reported. Or the selection ended before it was: with the source's fault whole, or
-- with the number of a refusal; then with the accepted openings and the count of the numbers reported.
pub data Answer (F : Type 0) : Type 0 where
  done : ℕ → Answer F
  faulted : F → ℕ → ℕ → Answer F
  refused : ℕ → ℕ → ℕ → Answer F

abbrev pub ended_by : {F : Type 0} → Cause F → ℕ → ℕ → Answer F
ended_by (Fault f) openings reported = faulted f openings reported
ended_by (Refused r) openings reported = refused (number r) openings reported

abbrev pub answered : {F : Type 0} → Result ℕ (SelectFault F) → Answer F
answered (Ok n) = done n
answered (Err f) = ended_by f.cause f.openings f.reported
