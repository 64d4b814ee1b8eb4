-- What a private function of the folder table does.
use Rattle.std.specs.Prelude.{◌≡◌, ℕ, zero, suc, Some, None, Option}
use Rattle.sources.specs.declared.event.Event.{Event}
use Rattle.sources.specs.declared.event.Event.TheVariants.{Close}
use Rattle.sources.specs.declared.record.FolderTable.{FolderTable}

-- The innermost of so many open nodes is closed; where none is open, nothing is.
abbrev pub Shuts : {L : Type 0} → ℕ → Option (Event L) → ℕ → Type 0
Shuts zero e after = (e ≡ None) × (after ≡ 0)
Shuts (suc level) e after = (e ≡ Some Close) × (after ≡ level)

-- the records and the place stay
pub record SamePlace {L : Type 0} (s t : FolderTable L) : Type 0 where
  pub records : t.records ≡ s.records
  pub place : t.place ≡ s.place
