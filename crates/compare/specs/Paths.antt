-- The paths of nodes.
use Rattle.std.specs.Prelude.{Bool, true, false, ◌≡◌, ℕ, ◌<◌, ◌++◌, List, length, map, Some, None, codes}
use Rattle.std.specs.List.{slice_get}
use Rattle.labels.specs.Names.{bytes_of}
use Rattle.labels.specs.declared.name.Name.{Name}
use Rattle.rules.specs.Embedding.{Nodes}
use Rattle.runs.specs.Picks.{In, Picks}
use Rattle.compare.specs.declared.node.Node.{Node}

-- the nodes by their parents and names
abbrev pub entries : List Node → Nodes Name
entries ns = map (λ n. (n.parent, n.name)) ns

-- Node u of the first list and node v of the second have the same path: their names have the same bytes, and both are roots, or their
-- parents have the same path. Parents are numbered below their children.
pub data SamePath (first second : Nodes Name) : ℕ → ℕ → Type 0 where
  roots : {u v : ℕ} {a b : Name} → slice_get first u ≡ Some (None, a) → slice_get second v ≡ Some (None, b) → bytes_of a ≡ bytes_of b
      → SamePath first second u v
  under : {u v p q : ℕ} {a b : Name} → slice_get first u ≡ Some (Some p, a) → slice_get second v ≡ Some (Some q, b) → bytes_of a ≡ bytes_of b
      → p < u → q < v → SamePath first second p q → SamePath first second u v

-- So many of the numbers vs, of nodes of the second list, have the path of node u of the first.
pub record Counted (first : Nodes Name) (u : ℕ) (second : Nodes Name) (vs : List ℕ) (count : ℕ) : Type 0 where
  pub having : List ℕ
  pub picked : Picks (SamePath first second u) vs having
  pub counted : count ≡ length having

-- The path of node u of the first list is as often among the numbers ones, of nodes of the first, as among twos, of nodes of the second.
pub record SameOften (first : Nodes Name) (ones : List ℕ) (second : Nodes Name) (twos : List ℕ) (u : ℕ) : Type 0 where
  pub count : ℕ
  pub here : Counted first u first ones count
  pub there : Counted first u second twos count

-- so are the paths of all the numbers us, of nodes of the first
pub record AllSameOften (first : Nodes Name) (ones : List ℕ) (second : Nodes Name) (twos us : List ℕ) : Type 0 where
  pub each : (u : ℕ) → In u us → SameOften first ones second twos u

-- The numbers ones, of nodes of the first list, and twos, of nodes of the second, name the same folders: each path is as often among ones
-- as among twos. A number that is no node's has no path.
pub record Agree (first : Nodes Name) (ones : List ℕ) (second : Nodes Name) (twos : List ℕ) : Type 0 where
  pub each_one : AllSameOften first ones second twos ones
  pub each_two : AllSameOften second twos first ones twos

-- The path of a node, written out: `/` and the name of each folder from the root down
pub data PathText (nodes : Nodes Name) : ℕ → List ℕ → Type 0 where
  root : {v : ℕ} {a : Name} → slice_get nodes v ≡ Some (None, a) → PathText nodes v (codes "/" ++ bytes_of a)
  under : {v p : ℕ} {a : Name} {t : List ℕ} → slice_get nodes v ≡ Some (Some p, a) → p < v → PathText nodes p t
      → PathText nodes v (t ++ (codes "/" ++ bytes_of a))

-- The path of v is appended to a text, or it has none and the text stays.
pub data Pushed (nodes : Nodes Name) (v : ℕ) (before : List ℕ) : Bool → List ℕ → Type 0 where
  pushed : {t after : List ℕ} → PathText nodes v t → after ≡ before ++ t → Pushed nodes v before true after
  no_path : {after : List ℕ} → ((t : List ℕ) → PathText nodes v t → ⊥) → after ≡ before → Pushed nodes v before false after

-- v is the number of a node with a path
pub record HasPath (nodes : Nodes Name) (v : ℕ) : Type 0 where
  pub text : List ℕ
  pub path : PathText nodes v text

-- so is each of these numbers
pub record HavePaths (nodes : Nodes Name) (vs : List ℕ) : Type 0 where
  pub each : (v : ℕ) → In v vs → HasPath nodes v
