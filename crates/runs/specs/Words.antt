-- The state of a run as lists.
use Rattle.std.specs.Prelude.{ℕ, zero, suc, ◌%◌, List, [], ◌∷◌, slice_index, slice_index_or}
use Rattle.runs.specs.declared.levels.Level.{Level}
use Rattle.runs.specs.declared.levels.Levels.{Levels}
use Rattle.runs.specs.Limits.{waiting_limit}

-- stack: the open nodes, innermost first; opened: the accepted openings; waiting: the waiting numbers, oldest first
pub record Words : Type 0 where
  pub stack : List Level
  pub opened : ℕ
  pub waiting : List ℕ

-- a node that is opened: nothing was found below it yet
abbrev pub new_level : ℕ → ℕ → Level
new_level met number = record { met = met; child = 0; below = 0; number = number }

abbrev pub no_level : Level
no_level = new_level 0 0

-- the first n levels, last first
abbrev pub stacked : List Level → ℕ → List Level
stacked ls zero = []
stacked ls (suc n) = slice_index_or ls n no_level ∷ stacked ls n

-- the n numbers in the ring from place h on
abbrev pub queued : List ℕ → ℕ → ℕ → List ℕ
queued ring h zero = []
queued ring h (suc n) = slice_index ring (h % waiting_limit) ∷ queued ring (suc h) n

abbrev pub words : Levels → Words
words s = record { stack = stacked s.open s.depth; opened = s.opened; waiting = queued s.ring s.head s.waiting }

abbrev pub no_words : Words
no_words = record { stack = []; opened = 0; waiting = [] }
