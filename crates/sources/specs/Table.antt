-- What a folder table means, and what its nodes are.
use Rattle.std.specs.Prelude.{◌≡◌, ℕ, suc, ◌+◌, ◌-◌, ◌≤◌, cond, List, [], ◌∷◌, ◌++◌, length, drop, replicate, Some, None, Option, nat_lt}
use Rattle.sources.specs.declared.event.Event.{Event}
use Rattle.sources.specs.declared.event.Event.TheVariants.{Open, Close}
use Rattle.sources.specs.declared.record.Record.{Record}
use Rattle.sources.specs.declared.record.FolderTable.{FolderTable}
use Rattle.sources.specs.declared.fault.TableFault.{TableFault}
use Rattle.sources.specs.declared.fault.TableFault.TheVariants.{WrongDepth}

-- so many closings
abbrev pub closings : {L : Type 0} → ℕ → List (Event L)
closings n = replicate n Close

-- The depth that a record may have after the one before it, if any
abbrev pub Allowed : Option ℕ → ℕ → Type 0
Allowed None depth = depth ≡ 0
Allowed (Some before) depth = depth ≤ before + 1

-- of the depths of the open nodes, how many are as deep as d or deeper, and those that are not
abbrev pub as_deep : ℕ → List ℕ → ℕ
as_deep d [] = 0
as_deep d (x ∷ xs) = cond (nat_lt x d) (as_deep d xs) (suc (as_deep d xs))

abbrev pub shallower : ℕ → List ℕ → List ℕ
shallower d [] = []
shallower d (x ∷ xs) = cond (nat_lt x d) (x ∷ shallower d xs) (shallower d xs)

-- The events and the ending of a table from record n on, by the depth of the record before it and those of the open nodes
pub data Listing {L : Type 0} : ℕ → Option ℕ → List ℕ → List (Record L) → List (Event L) → Option TableFault → Type 0 where
  finished : (n : ℕ) (before : Option ℕ) (depths : List ℕ) → Listing n before depths [] (closings (length depths)) None
  refused : (n : ℕ) (before : Option ℕ) (depths : List ℕ) (r : Record L) (rs : List (Record L)) →
      (Allowed before r.depth → ⊥) → Listing n before depths (r ∷ rs) [] (Some (WrongDepth n))
  opened : (n : ℕ) (before : Option ℕ) (depths : List ℕ) (r : Record L) (rs : List (Record L)) (es : List (Event L)) (end : Option TableFault) →
      Allowed before r.depth →
      Listing (n + 1) (Some r.depth) (r.depth ∷ shallower r.depth depths) rs es end →
      Listing n before depths (r ∷ rs) (closings (as_deep r.depth depths) ++ Open r.label ∷ es) end

-- Of the records before, the last one first, each with its number and depth: the first that is less deep than d
abbrev pub above : ℕ → List (ℕ × ℕ) → Option ℕ
above d [] = None
above d ((n, e) ∷ before) = cond (nat_lt e d) (Some n) (above d before)

-- The nodes of a table that is done are its records, and the parent of each is the last record before it that is less deep.
abbrev pub record_nodes : {L : Type 0} → ℕ → List (ℕ × ℕ) → List (Record L) → List (Option ℕ × L)
record_nodes n before [] = []
record_nodes n before (r ∷ rs) = (above r.depth before, r.label) ∷ record_nodes (suc n) ((n, r.depth) ∷ before) rs

-- the events of the records still to come, with so many nodes open
abbrev pub events_from : {L : Type 0} → ℕ → List (Record L) → List (Event L)
events_from level [] = closings level
events_from level (r ∷ rs) =
    cond (nat_lt level r.depth) [] (closings (level - r.depth) ++ Open r.label ∷ events_from (r.depth + 1) rs)

-- their ending, where the first of them is record n
abbrev pub ending_from : {L : Type 0} → ℕ → ℕ → List (Record L) → Option TableFault
ending_from n level [] = None
ending_from n level (r ∷ rs) = cond (nat_lt level r.depth) (Some (WrongDepth n)) (ending_from (n + 1) (r.depth + 1) rs)

-- What a table means at its place, as functions of the table, since the interface asks for such; of a new table it is the meaning above.
abbrev pub table_events : {L : Type 0} → FolderTable L → List (Event L)
table_events s = events_from s.level (drop s.place s.records.now)

abbrev pub table_ending : {L : Type 0} → FolderTable L → Option TableFault
table_ending s = ending_from s.place s.level (drop s.place s.records.now)
