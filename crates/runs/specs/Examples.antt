-- Examples of rules and trees, as the reference model judges them.
use Rattle.std.specs.Prelude.{◌≡◌, ℕ, ◌||◌, ◌==◌, if◌then◌else◌, List, [], ◌∷◌, ◌++◌, slice_index, bytes_eq, codes}
use Rattle.std.specs.List.{AllByRecursion}
use Rattle.std.specs.Str.{byte}
use Rattle.rules.specs.declared.syntax.ParsedNode.{ParsedNode}
use Rattle.rules.specs.Embedding.{Meets}
use Rattle.rules.specs.TestNames.{test_names}
use Rattle.rules.specs.RuleNodes.{plain_nodes}
use Rattle.rules.specs.Texts.{TextGives}
use Rattle.runs.specs.declared.call.Call.{Call}
use Rattle.runs.specs.declared.call.Call.TheVariants.{Open, Close, Drop}
use Rattle.runs.specs.Answers.{Told, Accepted}
use Rattle.runs.specs.Model.{Model, empty, Plays}

-- A tree as a text: a letter is a node of that name, and behind it stand its children in brackets, if it has any. A space
-- means nothing.

-- the calls of the byte b, behind which the byte next stands, or 0 at the end
abbrev pub calls_of : ℕ → ℕ → List (Call (List ℕ))
calls_of b next =
    if b == byte " " || b == byte "(" then []
    else if b == byte ")" then Close ∷ []
    else if next == byte "(" then Open (b ∷ []) ∷ []
    else Open (b ∷ []) ∷ Close ∷ []

-- the calls of a tree
abbrev pub tree : List ℕ → List (Call (List ℕ))
tree [] = []
tree (b ∷ bs) = calls_of b (slice_index bs 0) ++ tree bs

-- The text gives a rule, and the calls, all accepted, from the empty model on until nothing is open, select the nodes with these
-- numbers, in closing order. Labels are names, as their bytes.
abbrev pub GivesNumbers : List ℕ → List (Call (List ℕ)) → List ℕ → Type 0
GivesNumbers text calls numbers =
    (ns : List ParsedNode) × TextGives text ns
    × (ts : List Told) × (m : Model (List ℕ))
    × Plays (plain_nodes ns) (Meets bytes_eq (plain_nodes ns) (test_names text ns)) empty calls ts m
    × AllByRecursion Accepted ts × (m.path ≡ []) × (m.handed ++ m.waiting ≡ numbers)

-- the trees of some texts; nodes are numbered from 0 on as they are opened
pub record WorkedTrees : Type 0 where
  pub nested : GivesNumbers (codes "//a[a]") (tree (codes "a(a(a))")) (1 ∷ 0 ∷ [])
  -- one child is enough for both predicates
  pub shared : GivesNumbers (codes "//a[b][b]") (tree (codes "a(b)")) (0 ∷ [])
  -- no b has both children
  pub one_branch : GivesNumbers (codes "//a[b[c][d]]") (tree (codes "a(b(c) b(d))")) []
  pub either_branch : GivesNumbers (codes "//a[b/c][b/d]") (tree (codes "a(b(c) b(d))")) (0 ∷ [])
  -- c is no child of a
  pub not_child : GivesNumbers (codes "//a[c]") (tree (codes "a(b(c))")) []
  pub descends : GivesNumbers (codes "//a[.//c]") (tree (codes "a(b(c))")) (0 ∷ [])
  -- a is not below itself
  pub proper : GivesNumbers (codes "//a[.//a]") (tree (codes "a")) []
  pub inner : GivesNumbers (codes "//*[*]") (tree (codes "a(b c(d))")) (2 ∷ 0 ∷ [])
  pub dropped_child : GivesNumbers (codes "//a[b]") (Open (codes "a") ∷ Open (codes "b") ∷ Drop ∷ Close ∷ []) []
