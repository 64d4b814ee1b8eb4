-- The reference model of a run: what calls do to a tree of nodes, and which nodes they select.
use Rattle.std.specs.Prelude.{◌≡◌, ℕ, ◌<◌, min, true, false, List, [], ◌∷◌, ◌++◌, length, take, drop, Some, None, Option}
use Rattle.rules.specs.declared.node.RuleNode.{RuleNode}
use Rattle.rules.specs.Embedding.{Nodes, ChildIn, MeetsIn, Occurs}
use Rattle.runs.specs.declared.call.Call.{Call}
use Rattle.runs.specs.declared.call.Call.TheVariants.{Open, Close, Drop, Take}
use Rattle.runs.specs.Limits.{depth_limit, waiting_limit, openings_limit}
use Rattle.runs.specs.Picks.{In, Once, Picks}
use Rattle.runs.specs.Answers.{Told, opened, closed, dropped, taken, refused}

-- nodes: in order of opening, each with its parent, which a root lacks, and what it carries: its label, or at a run's own calls
-- the set of rule nodes whose tests its label meets; path: the open nodes, innermost first; dropped: the nodes given up, the last
-- one first; closed: the closed nodes in closing order; waiting: the waiting numbers, oldest first; handed: the numbers that
-- takings moved, in the order moved.
pub record Model (A : Type 0) : Type 0 where
  pub nodes : Nodes A
  pub path : List ℕ
  pub dropped : List ℕ
  pub closed : List ℕ
  pub waiting : List ℕ
  pub handed : List ℕ

abbrev pub empty : {A : Type 0} → Model A
empty = record { nodes = []; path = []; dropped = []; closed = []; waiting = []; handed = [] }

-- the innermost open node
abbrev pub innermost : List ℕ → Option ℕ
innermost [] = None
innermost (v ∷ vs) = Some v

-- v is a child of u, and was not dropped
abbrev pub KeptChild : {A : Type 0} → Model A → ℕ → ℕ → Type 0
KeptChild m u v = ChildIn m.nodes u v × (In v m.dropped → ⊥)

-- v is a node, and what it carries meets the test of rule node x
abbrev pub MeetsAt : {A : Type 0} → (A → ℕ → Type 0) → Model A → ℕ → ℕ → Type 0
MeetsAt meets m = MeetsIn meets m.nodes

-- The rule occurs at v, in the tree of v and the nodes below it. What was dropped is no child of a node, so neither it nor what
-- lies below it is in that tree.
abbrev pub OccursKept : {A : Type 0} → List RuleNode → (A → ℕ → Type 0) → Model A → ℕ → Type 0
OccursKept rule meets m v = Occurs rule (KeptChild m) (MeetsAt meets m) v

-- the model after each kind of call that is accepted
module _ {A : Type 0} (m : Model A) where
  abbrev pub opening : A → Model A
  opening a = record
      { nodes = m.nodes ++ (innermost m.path, a) ∷ []; path = length m.nodes ∷ m.path; dropped = m.dropped; closed = m.closed; waiting = m.waiting; handed = m.handed }

  -- v is closed, and vs are open outside it
  abbrev pub closing : ℕ → List ℕ → List ℕ → Model A
  closing v vs selected = record
      { nodes = m.nodes; path = vs; dropped = m.dropped; closed = m.closed ++ v ∷ []; waiting = m.waiting ++ selected; handed = m.handed }

  abbrev pub dropping : ℕ → List ℕ → Model A
  dropping v vs = record
      { nodes = m.nodes; path = vs; dropped = v ∷ m.dropped; closed = m.closed; waiting = m.waiting; handed = m.handed }

  abbrev pub taking : ℕ → Model A
  taking n = record
      { nodes = m.nodes; path = m.path; dropped = m.dropped; closed = m.closed; waiting = drop n m.waiting; handed = m.handed ++ take n m.waiting }

-- One call, what its answer tells, and the model after it. A refused call alters nothing.
pub data Does {A : Type 0} (rule : List RuleNode) (meets : A → ℕ → Type 0) (m : Model A) : Call A → Told → Model A → Type 0 where
  too_deep : (a : A) → length m.path ≡ depth_limit → Does rule meets m (Open a) (refused 22) m
  too_many : (a : A) → length m.path < depth_limit → length m.nodes ≡ openings_limit → Does rule meets m (Open a) (refused 23) m
  opens : (a : A) → length m.path < depth_limit → length m.nodes < openings_limit
      → Does rule meets m (Open a) (opened (length m.nodes)) (opening m a)
  none_to_close : m.path ≡ [] → Does rule meets m Close (refused 20) m
  waiting_full : (v : ℕ) (vs : List ℕ) → m.path ≡ v ∷ vs → OccursKept rule meets m v → length m.waiting ≡ waiting_limit
      → Does rule meets m Close (refused 21) m
  selects : (v : ℕ) (vs : List ℕ) → m.path ≡ v ∷ vs → OccursKept rule meets m v → length m.waiting < waiting_limit
      → Does rule meets m Close (closed true) (closing m v vs (v ∷ []))
  passes : (v : ℕ) (vs : List ℕ) → m.path ≡ v ∷ vs → (OccursKept rule meets m v → ⊥)
      → Does rule meets m Close (closed false) (closing m v vs [])
  none_to_drop : m.path ≡ [] → Does rule meets m Drop (refused 20) m
  drops : (v : ℕ) (vs : List ℕ) → m.path ≡ v ∷ vs → Does rule meets m Drop dropped (dropping m v vs)
  takes : (n : ℕ) → Does rule meets m (Take n) (taken (min (length m.waiting) n)) (taking m n)

module _ {A : Type 0} (rule : List RuleNode) (meets : A → ℕ → Type 0) where
  -- calls one after another, with what their answers tell
  pub data Plays : Model A → List (Call A) → List Told → Model A → Type 0 where
    done : {m : Model A} → Plays m [] [] m
    more : {m m₁ m₂ : Model A} {c : Call A} {cs : List (Call A)} {t : Told} {ts : List Told}
        → Does rule meets m c t m₁ → Plays m₁ cs ts m₂ → Plays m (c ∷ cs) (t ∷ ts) m₂

  -- The numbers handed out, and then those that wait, are the closed nodes at which the rule occurs, in closing order. No
  -- number is closed twice, so each of them is there once.
  pub record Selected (m : Model A) : Type 0 where
    pub picked : Picks (OccursKept rule meets m) m.closed (m.handed ++ m.waiting)
    pub once : Once m.closed
