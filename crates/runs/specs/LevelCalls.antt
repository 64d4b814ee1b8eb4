-- What each call does to the state of a run, for the contracts of the inner functions.
use Rattle.std.specs.Prelude.{◌≡◌, ℕ, ◌+◌, ◌-◌, ◌<◌, min, Bool, true, false, ◌↔◌, List, [], ◌∷◌, ◌++◌, length, take, drop, Ok, Err, Result, bit_or}
use Rattle.rules.specs.declared.node.RuleNode.{RuleNode}
use Rattle.runs.specs.declared.levels.Level.{Level}
use Rattle.runs.specs.declared.levels.Levels.{Levels}
use Rattle.runs.specs.declared.refusal.Refusal.{Refusal}
use Rattle.runs.specs.declared.refusal.Refusal.TheVariants.{NothingOpen, WaitingFull, TooDeep, TooMany}
use Rattle.runs.specs.Limits.{depth_limit, waiting_limit, openings_limit}
use Rattle.runs.specs.Bits.{Has}
use Rattle.runs.specs.Edges.{EdgesMet}
use Rattle.runs.specs.Words.{Words, new_level, stacked, queued}

-- w has the rule nodes that are found at a node that is closed as l: it meets their tests, and their edges are met
abbrev pub Found : List RuleNode → Level → ℕ → Type 0
Found rule l w = (x : ℕ) → Has w x ↔ (Has l.met x × EdgesMet rule l.child l.below x)

-- an open node p once a child of it is closed, where w was found at the child and b below that
abbrev pub joined : ℕ → ℕ → Level → Level
joined w b p = record { met = p.met; child = bit_or p.child w; below = bit_or p.below (bit_or w b); number = p.number }

-- the nodes above one that is closed, where w was found at it and b below it
abbrev pub above : ℕ → ℕ → List Level → List Level
above w b [] = []
above w b (p ∷ ps) = joined w b p ∷ ps

-- a new node that meets the tests w
pub data Opens (w : ℕ) : Words → Result ℕ Refusal → Words → Type 0 where
  deep : {m : Words} → length m.stack ≡ depth_limit → Opens w m (Err TooDeep) m
  many : {m : Words} → length m.stack < depth_limit → m.opened ≡ openings_limit → Opens w m (Err TooMany) m
  fine : {m : Words} → length m.stack < depth_limit → m.opened < openings_limit
      → Opens w m (Ok m.opened) (record
      { stack = new_level w m.opened ∷ m.stack; opened = m.opened + 1; waiting = m.waiting })

pub data Closes (rule : List RuleNode) : Words → Result Bool Refusal → Words → Type 0 where
  none : {m : Words} → m.stack ≡ [] → Closes rule m (Err NothingOpen) m
  full : {m : Words} (l : Level) (ps : List Level) (w : ℕ) → m.stack ≡ l ∷ ps → Found rule l w → Has w 0 → length m.waiting ≡ waiting_limit
      → Closes rule m (Err WaitingFull) m
  selects : {m : Words} (l : Level) (ps : List Level) (w : ℕ) → m.stack ≡ l ∷ ps → Found rule l w → Has w 0 → length m.waiting < waiting_limit
      → Closes rule m (Ok true) (record { stack = above w l.below ps; opened = m.opened; waiting = m.waiting ++ l.number ∷ [] })
  passes : {m : Words} (l : Level) (ps : List Level) (w : ℕ) → m.stack ≡ l ∷ ps → Found rule l w → (Has w 0 → ⊥)
      → Closes rule m (Ok false) (record { stack = above w l.below ps; opened = m.opened; waiting = m.waiting })

pub data Drops : Words → Result (Unit {0}) Refusal → Words → Type 0 where
  none : {m : Words} → m.stack ≡ [] → Drops m (Err NothingOpen) m
  drops : {m : Words} (l : Level) (ps : List Level) → m.stack ≡ l ∷ ps
      → Drops m (Ok tt) (record { stack = ps; opened = m.opened; waiting = m.waiting })

-- xs, ys: the caller's list before and after it
pub record Takes (m : Words) (xs : List ℕ) (n : ℕ) (ys : List ℕ) (m' : Words) : Type 0 where
  pub count : n ≡ min (length m.waiting) (length xs)
  pub list : ys ≡ take n m.waiting ++ drop n xs
  pub after : m' ≡ record { stack = m.stack; opened = m.opened; waiting = drop n m.waiting }

-- The parts of a closing: what is found at the node l, and that l is the innermost one. As records, so that the search for a
-- proof takes each as one fact.
pub record FoundAt (rule : List RuleNode) (l : Level) (w : ℕ) : Type 0 where
  pub each : Found rule l w

pub record Innermost (s : Levels) (l : Level) : Type 0 where
  pub top : stacked s.open s.depth ≡ l ∷ stacked s.open (s.depth - 1)

-- one waiting number more, unless as many wait as can
pub record Waits (n : ℕ) (s s' : Levels) : Type 0 where
  pub few : s.waiting < waiting_limit
  pub stack : stacked s'.open s'.depth ≡ stacked s.open s.depth
  pub opened : s'.opened ≡ s.opened
  pub waiting : queued s'.ring s'.head s'.waiting ≡ queued s.ring s.head s.waiting ++ n ∷ []
  pub depth : s'.depth ≡ s.depth

pub record WaitFails (s : Levels) (f : Refusal) (s' : Levels) : Type 0 where
  pub refused : f ≡ WaitingFull
  pub full : s.waiting ≡ waiting_limit
  pub kept : s' ≡ s

-- the stack with its innermost node closed
abbrev pub merged : ℕ → ℕ → List Level → List Level
merged w b [] = []
merged w b (l ∷ ps) = above w b ps

-- the innermost node is closed, at which w was found, and b below it
pub record Merges (w b : ℕ) (s s' : Levels) : Type 0 where
  pub stack : stacked s'.open s'.depth ≡ merged w b (stacked s.open s.depth)
  pub opened : s'.opened ≡ s.opened
  pub waiting : queued s'.ring s'.head s'.waiting ≡ queued s.ring s.head s.waiting
