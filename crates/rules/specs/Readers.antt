-- What the readers of path, step and predicate do, as moves of the machine: the contracts of private functions.
use Rattle.std.specs.Prelude.{◌≡◌, ℕ, ◌+◌, ◌<◌, ◌≤◌, List, [], ◌∷◌, length, ◌≢◌}
use Rattle.rules.specs.declared.syntax.Kind.{Kind}
use Rattle.rules.specs.declared.syntax.Kind.TheVariants.{DoubleSlash, Slash, Open, End}
use Rattle.rules.specs.declared.syntax.Token.{Token}
use Rattle.rules.specs.declared.node.Edge.{Edge}
use Rattle.rules.specs.declared.node.Edge.TheVariants.{Child, Descendant}
use Rattle.rules.specs.declared.syntax.ParsedNode.{ParsedNode}
use Rattle.rules.specs.declared.refusal.TextRefusal.{TextRefusal}
use Rattle.rules.specs.declared.refusal.TextRefusal.TheVariants.{NotAllowed}
use Rattle.rules.specs.declared.reader.Reader.{Reader}
use Rattle.rules.specs.Refusals.{number, place}
use Rattle.rules.specs.Limits.{bracket_limit}
use Rattle.rules.specs.Machine.{State, after, opened, below, more, Answer, refuses, on_test, with_node, move, nodes, run, from, Next}

abbrev pub told : TextRefusal → Answer
told f = refuses (number f) (place f)

abbrev pub bytes : Reader → List ℕ
bytes r = r.text.now

-- the tokens that are left, and the rule nodes so far
abbrev pub left : Reader → List Token
left r = from (bytes r) r.at

abbrev pub made : Reader → List ParsedNode
made r = r.nodes.items

abbrev pub Upcoming : Reader → Token → Type 0
Upcoming r t = Next (bytes r) r.at t

-- the kind of the first token
abbrev pub front : List Token → Kind
front [] = End
front (t ∷ ts) = t.kind

-- what stands behind a step with its predicates is no `[`
abbrev pub Unopened : Kind → Type 0
Unopened Open = ⊥
Unopened _ = Unit {0}

-- nor is what stands behind a path, and no `/` or `//` either
abbrev pub Ended : Kind → Type 0
Ended DoubleSlash = ⊥
Ended Slash = ⊥
Ended Open = ⊥
Ended _ = Unit {0}

-- the reader stands at the front of the text bs, and has noted nothing
pub record Fresh (bs : List ℕ) (r : Reader) : Type 0 where
  pub whole : bytes r ≡ bs
  pub front : r.at ≡ 0
  pub none : made r ≡ []

-- the reader has gone on from e to x
pub record Kept (e x : Reader) : Type 0 where
  pub same : bytes x ≡ bytes e
  pub on : e.at ≤ x.at

-- it has passed a token of the kind k, and noted nothing
pub record Expected (e x : Reader) (k : Kind) : Type 0 where
  pub token : Token
  pub upcoming : Upcoming e token
  pub kind : token.kind ≡ k
  pub same : bytes x ≡ bytes e
  pub behind : x.at ≡ token.place + token.len
  pub made_same : made x ≡ made e

-- another token comes next
pub record Unexpected (e : Reader) (k : Kind) (f : TextRefusal) : Type 0 where
  pub token : Token
  pub upcoming : Upcoming e token
  pub other : token.kind ≢ k
  pub refused : f ≡ NotAllowed token.place

-- in the state s the test that comes next makes a rule node under p, with the predicates of outer open
pub record Enters (e : Reader) (s : State) (p : ℕ) (edge : Edge) (outer : List ℕ) : Type 0 where
  pub nodes_are : nodes s ≡ made e
  pub moves_on : (t : Token) → Upcoming e t → move s t ≡ on_test t.kind (with_node p edge outer (made e) t)

pub record Noted (e x : Reader) (p : ℕ) (edge : Edge) (n : ℕ) : Type 0 where
  pub kept : Kept e x
  pub further : e.at < x.at
  pub leads : (outer : List ℕ) (s : State) → Enters e s p edge outer → run (left e) s ≡ run (left x) (after n outer (made x))

abbrev pub NoteFails : Reader → ℕ → Edge → TextRefusal → Type 0
NoteFails e p edge f = (outer : List ℕ) (s : State) → Enters e s p edge outer → run (left e) s ≡ told f

-- the state before a path's first test
abbrev pub first : Edge → ℕ → List ℕ → List ParsedNode → State
first Child n outer ns = opened n outer ns
first Descendant n outer ns = below n outer ns

pub record Begun (e x : Reader) (edge : Edge) : Type 0 where
  pub kept : Kept e x
  pub enters : (n : ℕ) (outer : List ℕ) → Enters x (first edge n outer (made x)) n edge (n ∷ outer)
  pub leads : (n : ℕ) (outer : List ℕ) → run (left e) (opened n outer (made e)) ≡ run (left x) (first edge n outer (made x))

abbrev pub BeginFails : Reader → TextRefusal → Type 0
BeginFails e f = (n : ℕ) (outer : List ℕ) → run (left e) (opened n outer (made e)) ≡ told f

pub record Joined (e x : Reader) (edge : Edge) : Type 0 where
  pub kept : Kept e x
  pub further : e.at < x.at
  pub leads : (n k : ℕ) (outer : List ℕ) → run (left e) (after n (k ∷ outer) (made e)) ≡ run (left x) (more edge n k outer (made x))

pub record Unjoined (e x : Reader) : Type 0 where
  pub same : x ≡ e
  pub stops : Unopened (front (left x)) → Ended (front (left x))

-- the brackets that may still be opened are `room`
abbrev pub Room : List ℕ → ℕ → Type 0
Room outer room = length outer + room ≡ bracket_limit

pub record StepRead (e x : Reader) (p : ℕ) (edge : Edge) (room n : ℕ) : Type 0 where
  pub kept : Kept e x
  pub further : e.at < x.at
  pub stops : Unopened (front (left x))
  pub leads : (outer : List ℕ) (s : State) → Room outer room → Enters e s p edge outer → run (left e) s ≡ run (left x) (after n outer (made x))

abbrev pub StepFails : Reader → ℕ → Edge → ℕ → TextRefusal → Type 0
StepFails e p edge room f = (outer : List ℕ) (s : State) → Room outer room → Enters e s p edge outer → run (left e) s ≡ told f

pub record PredicateRead (e x : Reader) (n room : ℕ) : Type 0 where
  pub kept : Kept e x
  pub further : e.at < x.at
  pub leads : (outer : List ℕ) → Room outer room → run (left e) (after n outer (made e)) ≡ run (left x) (after n outer (made x))

abbrev pub PredicateFails : Reader → ℕ → ℕ → TextRefusal → Type 0
PredicateFails e n room f = (outer : List ℕ) → Room outer room → run (left e) (after n outer (made e)) ≡ told f

-- room counts from inside the bracket
pub record PathRead (e x : Reader) (n room : ℕ) : Type 0 where
  pub kept : Kept e x
  pub stops : Ended (front (left x))
  pub leads : (outer : List ℕ) → Room (n ∷ outer) room → (m : ℕ) × (run (left e) (opened n outer (made e)) ≡ run (left x) (after m (n ∷ outer) (made x)))

abbrev pub PathFails : Reader → ℕ → ℕ → TextRefusal → Type 0
PathFails e n room f = (outer : List ℕ) → Room (n ∷ outer) room → run (left e) (opened n outer (made e)) ≡ told f
