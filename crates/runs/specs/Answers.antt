-- What the answers of a run tell.
use Rattle.std.specs.Prelude.{ℕ, Bool, Ok, Err, Result}
use Rattle.runs.specs.declared.refusal.Refusal.{Refusal}
use Rattle.runs.specs.declared.call.Answer.{Answer}
use Rattle.runs.specs.declared.call.Answer.TheVariants.{Opened, Closed, Dropped, Taken, Refused}
use Rattle.runs.specs.Refusals.{number}

-- the number of the new node, whether the closed node is selected, that the node is dropped, how many numbers were moved, or
-- the number of the refusal
pub data Told : Type 0 where
  opened : ℕ → Told
  closed : Bool → Told
  dropped : Told
  taken : ℕ → Told
  refused : ℕ → Told

abbrev pub told : Answer → Told
told (Opened n) = opened n
told (Closed b) = closed b
told Dropped = dropped
told (Taken n) = taken n
told (Refused k) = refused (number k)

-- what a call that may be refused tells, by its result
abbrev pub told_by : {T : Type 0} → (T → Told) → Result T Refusal → Told
told_by tells (Ok x) = tells x
told_by tells (Err k) = refused (number k)

-- the call is accepted
abbrev pub Accepted : Told → Type 0
Accepted (refused k) = ⊥
Accepted _ = Unit {0}

-- how many numbers the call moved
abbrev pub count_taken : Told → ℕ
count_taken (taken n) = n
count_taken _ = 0
