-- What the abbreviations of a rule text stand for in XPath 1.0, and that the rule read from it selects the same nodes.
use Rattle.std.specs.Prelude.{◌≡◌, ℕ, ◌<◌, Bool, true, ◌↔◌, ◌+◌, List, length, Some}
use Rattle.std.specs.List.{slice_get}
use Rattle.labels.specs.Spelling.{part}
use Rattle.rules.specs.declared.syntax.Token.{Token}
use Rattle.rules.specs.declared.node.Edge.{Edge}
use Rattle.rules.specs.declared.syntax.ParsedNode.{ParsedNode}
use Rattle.rules.specs.declared.node.RuleNode.{RuleNode}
use Rattle.rules.specs.Grammar.{Test, name, star, Between, slash, double_slash, Step, step, Predicates, none, predicate, Path, child, descendant, Further, last, further, Text, text}
use Rattle.rules.specs.XPath as xpath
use Rattle.rules.specs.XPath.{LocationPath, LocationStep, only, first, Context}
use Rattle.rules.specs.Embedding.{Below, Nodes, ChildIn, OccursIn, ParentsFirst}
use Rattle.rules.specs.Lexing.{Lexes}

-- the bytes of a token
abbrev pub token_bytes : List ℕ → Token → List ℕ
token_bytes bs t = part bs t.place (t.place + t.len)

-- `//` between two steps is `/descendant-or-self::node()/`
abbrev pub anywhere : LocationStep
anywhere = xpath.step xpath.descendant_or_self xpath.node xpath.none

-- `.` is `self::node()`
abbrev pub here : LocationStep
here = xpath.step xpath.self xpath.node xpath.none

-- `/` stands for itself
abbrev pub apart : {t : Token} {e : Edge} → Between t e → LocationPath → LocationPath
apart (slash h) p = p
apart (double_slash h) p = first anywhere p

module _ (bs : List ℕ) where
  abbrev pub test_of : {t : Token} → Test t → xpath.NodeTest
  test_of (name {t = t} h) = xpath.name (token_bytes bs t)
  test_of (star h) = xpath.star

  abbrev mutual
    -- a step with no axis is `child::`
    pub step_of : {p : ℕ} {e : Edge} {ns ms : List ParsedNode} {ts rest : List Token} → Step p e ns ts ms rest → LocationStep
    step_of (step t ps) = xpath.step xpath.child (test_of t) (predicates_of ps)

    pub predicates_of : {n : ℕ} {ns ms : List ParsedNode} {ts rest : List Token} → Predicates n ns ts ms rest → xpath.Predicates
    predicates_of none = xpath.none
    predicates_of (predicate o p c ps) = xpath.also (path_of p) (predicates_of ps)

    pub path_of : {n : ℕ} {ns ms : List ParsedNode} {ts rest : List Token} → Path n ns ts ms rest → LocationPath
    path_of (child s f) = further_of f (step_of s)
    path_of (descendant d dd s f) = first here (first anywhere (further_of f (step_of s)))

    -- behind the step s
    pub further_of : {n : ℕ} {ns ms : List ParsedNode} {ts rest : List Token} → Further n ns ts ms rest → LocationStep → LocationPath
    further_of last s = only s
    further_of (further b t f) s = first s (apart b (further_of f (step_of t)))

  -- `//` at the front starts from the document
  abbrev pub expression : {ts : List Token} {ns : List ParsedNode} → Text ts ns → LocationPath
  expression (text d s e) = first anywhere (only (step_of s))

-- p is what the rule text bs stands for
pub data TextStandsFor (bs : List ℕ) : LocationPath → Type 0 where
  stands_for : {ts : List Token} {ns : List ParsedNode} → Lexes 0 bs ts → (d : Text ts ns) → TextStandsFor bs (expression bs d)

------------------------------------------------------------------------
-- what a path selects in a listing

-- a listing: the parent of a node, and its name, where alike says which spellings are equal
abbrev pub ParentIn : {L : Type 0} → Nodes L → Context → ℕ → Type 0
ParentIn {L} nodes c v = (l : L) × (slice_get nodes v ≡ Some (c, l))

abbrev pub CalledIn : {L : Type 0} → (L → List ℕ) → (List ℕ → List ℕ → Bool) → Nodes L → List ℕ → ℕ → Type 0
CalledIn {L} spelled alike nodes w v = (c : Context) × (l : L) × (slice_get nodes v ≡ Some (c, l)) × (alike (spelled l) w ≡ true)

module _ {L : Type 0} (spelled : L → List ℕ) (alike : List ℕ → List ℕ → Bool) (nodes : Nodes L) where
  -- the absolute path selects node v
  abbrev pub SelectedIn : LocationPath → ℕ → Type 0
  SelectedIn p v = xpath.Selected (ParentIn nodes) (CalledIn spelled alike nodes) p v

  -- the path leads from node u to node v
  abbrev pub LeadsIn : LocationPath → ℕ → ℕ → Type 0
  LeadsIn p u v = xpath.InPath (ParentIn nodes) (CalledIn spelled alike nodes) p (Some u) (Some v)

  -- node v passes the test, and the predicates hold at it
  abbrev pub FitsIn : xpath.NodeTest → xpath.Predicates → ℕ → Type 0
  FitsIn t ps v =
      xpath.Passes (ParentIn nodes) (CalledIn spelled alike nodes) t (Some v)
      × xpath.Hold (ParentIn nodes) (CalledIn spelled alike nodes) ps (Some v)

-- What the text stands for selects just the nodes at which the rule occurs, in every listing.
abbrev pub SelectsAlike : {L : Type 0} → (L → L → Bool) → (L → List ℕ) → (List ℕ → List ℕ → Bool)
    → List ℕ → List RuleNode → List L → Type 0
SelectsAlike {L} same spelled alike bs rule labels =
    (p : LocationPath) → TextStandsFor bs p
    → (nodes : Nodes L) → ParentsFirst nodes → (v : ℕ) → v < length nodes
    → SelectedIn spelled alike nodes p v ↔ OccursIn same rule labels nodes v

-- What the abbreviations come to: `.//` leads to the proper descendants, and `//` at the front to every node of the listing.
pub record PlainReadings {L : Type 0} (spelled : L → List ℕ) (alike : List ℕ → List ℕ → Bool) : Type 0 where
  pub lower : (nodes : Nodes L) (t : xpath.NodeTest) (ps : xpath.Predicates) (u v : ℕ)
      → LeadsIn spelled alike nodes (first here (first anywhere (only (xpath.step xpath.child t ps)))) u v
      ↔ (Below (ChildIn nodes) u v × FitsIn spelled alike nodes t ps v)
  pub every : (nodes : Nodes L) → ParentsFirst nodes → (t : xpath.NodeTest) (ps : xpath.Predicates) (v : ℕ) → v < length nodes
      → SelectedIn spelled alike nodes (first anywhere (only (xpath.step xpath.child t ps))) v
      ↔ FitsIn spelled alike nodes t ps v
