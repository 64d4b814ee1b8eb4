-- The steps of reading, for the contracts of the private functions: a machine with a stack.
-- That it is the grammar is shown in proofs/Machine.antt and proofs/Judged.antt.
use Rattle.std.specs.Prelude.{◌≡◌, ℕ, zero, suc, ◌+◌, ◌<◌, ◌≤◌, true, false, cond, List, [], ◌∷◌, ◌++◌, length, drop, ◌==◌, ◌≢◌, nat_le, nat_lt}
use Rattle.rules.specs.declared.syntax.Kind.{Kind}
use Rattle.rules.specs.declared.syntax.Kind.TheVariants.{DoubleSlash, Slash, Dot, Open, Close, Star, Name, Stray, End}
use Rattle.rules.specs.declared.syntax.Token.{Token}
use Rattle.rules.specs.declared.node.Edge.{Edge}
use Rattle.rules.specs.declared.node.Edge.TheVariants.{Child, Descendant}
use Rattle.rules.specs.declared.syntax.ParsedNode.{ParsedNode}
use Rattle.rules.specs.Lexing.{a_token}
use Rattle.rules.specs.Grammar.{node}
use Rattle.rules.specs.Limits.{node_limit, bracket_limit}
use Rattle.labels.specs.Spelling.{is_white, starts_name, continues_name, name_limit}

-- What was read last. n is the step to which what follows belongs, outer are the steps with open
-- predicates, ns the rule nodes so far.
pub data State : Type 0 where
  start : State
  root : State
  after : ℕ → List ℕ → List ParsedNode → State
  opened : ℕ → List ℕ → List ParsedNode → State
  dotted : ℕ → List ℕ → List ParsedNode → State
  below : ℕ → List ℕ → List ParsedNode → State
  more : Edge → ℕ → ℕ → List ℕ → List ParsedNode → State
  ended : List ParsedNode → State

pub data Moved : Type 0 where
  to : State → Moved
  stuck : Moved

abbrev pub on_double : Kind → State → Moved
on_double DoubleSlash s = to s
on_double _ s = stuck

abbrev pub on_test : Kind → State → Moved
on_test Name s = to s
on_test Star s = to s
on_test _ s = stuck

abbrev pub on_path : Kind → State → State → Moved
on_path Dot d s = to d
on_path Name d s = to s
on_path Star d s = to s
on_path _ d s = stuck

-- behind a step: inside a predicate and outside
abbrev pub on_after : Kind → ℕ → List ℕ → List ParsedNode → Moved
on_after DoubleSlash n [] ns = stuck
on_after DoubleSlash n (k ∷ outer) ns = to (more Descendant n k outer ns)
on_after Slash n [] ns = stuck
on_after Slash n (k ∷ outer) ns = to (more Child n k outer ns)
on_after Dot n outer ns = stuck
on_after Open n outer ns = to (opened n outer ns)
on_after Close n [] ns = stuck
on_after Close n (k ∷ outer) ns = to (after k outer ns)
on_after Star n outer ns = stuck
on_after Name n outer ns = stuck
on_after Stray n outer ns = stuck
on_after End n [] ns = to (ended ns)
on_after End n (k ∷ outer) ns = stuck

abbrev pub with_node : ℕ → Edge → List ℕ → List ParsedNode → Token → State
with_node p e outer ns t = after (length ns) outer (ns ++ (node p e t ∷ []))

abbrev pub move : State → Token → Moved
move start t = on_double t.kind root
move root t = on_test t.kind (with_node 0 Child [] [] t)
move (after n outer ns) t = on_after t.kind n outer ns
move (opened n outer ns) t = on_path t.kind (dotted n outer ns) (with_node n Child (n ∷ outer) ns t)
move (dotted n outer ns) t = on_double t.kind (below n outer ns)
move (below n outer ns) t = on_test t.kind (with_node n Descendant (n ∷ outer) ns t)
move (more e n k outer ns) t = on_test t.kind (with_node n e (k ∷ outer) ns t)
move (ended ns) t = stuck

abbrev pub moves : List Token → Moved → Moved
moves [] m = m
moves (t ∷ ts) (to s) = moves ts (move s t)
moves (t ∷ ts) stuck = stuck

pub data Answer : Type 0 where
  accepts : List ParsedNode → Answer
  refuses : ℕ → ℕ → Answer
  unfinished : Answer

-- the rule nodes so far, and the brackets that are open
abbrev pub nodes : State → List ParsedNode
nodes start = []
nodes root = []
nodes (after n outer ns) = ns
nodes (opened n outer ns) = ns
nodes (dotted n outer ns) = ns
nodes (below n outer ns) = ns
nodes (more e n k outer ns) = ns
nodes (ended ns) = ns

abbrev pub depth : State → ℕ
depth start = 0
depth root = 0
depth (after n outer ns) = length outer
depth (opened n outer ns) = suc (length outer)
depth (dotted n outer ns) = suc (length outer)
depth (below n outer ns) = suc (length outer)
depth (more e n k outer ns) = suc (length outer)
depth (ended ns) = 0

-- the number of the limit that a token passes, or 0
abbrev pub over : Kind → ℕ → ℕ → ℕ → ℕ
over Open long tests deep = cond (nat_le bracket_limit deep) 14 0
over Star long tests deep = cond (nat_le node_limit tests) 13 0
over Name long tests deep = cond (nat_le node_limit tests) 13 (cond (nat_lt name_limit long) 12 0)
over _ long tests deep = 0

abbrev pub go : Moved → ℕ → ℕ → (State → Answer) → Answer
go stuck k p f = refuses 11 p
go (to s) zero p f = f s
go (to s) (suc k) p f = refuses (suc k) p

abbrev pub excess : State → Token → ℕ
excess s t = over t.kind t.len (length (nodes s)) (depth s)

abbrev pub run : List Token → State → Answer
run [] (ended ns) = accepts ns
run [] start = unfinished
run [] root = unfinished
run [] (after n outer ns) = unfinished
run [] (opened n outer ns) = unfinished
run [] (dotted n outer ns) = unfinished
run [] (below n outer ns) = unfinished
run [] (more e n k outer ns) = unfinished
run (t ∷ ts) s = go (move s t) (excess s t) t.place (λ u. run ts u)

------------------------------------------------------------------------
-- the tokens of bytes, computed

abbrev pub slashes : List ℕ → Kind
slashes [] = Slash
slashes (c ∷ cs) = cond (c == 47) DoubleSlash Slash

abbrev pub second : List ℕ → ℕ
second [] = 0
second (c ∷ cs) = cond (c == 47) 1 0

-- how many bytes at the front may stand inside a name
abbrev pub span : List ℕ → ℕ
span [] = 0
span (c ∷ cs) = elim (continues_name c) [ true ↦ suc (span cs) | false ↦ 0 ]

-- the kind of a byte that is a token by itself
abbrev pub mark : ℕ → Kind
mark b = cond (b == 46) Dot (cond (b == 91) Open (cond (b == 93) Close (cond (b == 42) Star Stray)))

-- the kind of the token at the front of b ∷ bs, and how many bytes it has behind b
abbrev pub kind_of : ℕ → List ℕ → Kind
kind_of b bs = cond (starts_name b) Name (cond (b == 47) (slashes bs) (mark b))

abbrev pub extra : ℕ → List ℕ → ℕ
extra b bs = cond (starts_name b) (span bs) (cond (b == 47) (second bs) 0)

-- the tokens from the place p on, where the first `skip` bytes belong to the token before
abbrev pub lex : ℕ → ℕ → List ℕ → List Token
lex skip p [] = a_token End p 0 ∷ []
lex zero p (b ∷ bs) = elim (is_white b) [ true ↦ lex 0 (p + 1) bs | false ↦ a_token (kind_of b bs) p (extra b bs + 1) ∷ lex (extra b bs) (p + 1) bs ]
lex (suc k) p (b ∷ bs) = lex k (p + 1) bs

abbrev pub from : List ℕ → ℕ → List Token
from bs p = lex 0 p (drop p bs)

-- t is the first token from the place `at` on, which is the end where the place is past the text
pub record Next (bs : List ℕ) (at : ℕ) (t : Token) : Type 0 where
  pub late : at ≤ t.place
  pub within : at ≤ length bs → t.place + t.len ≤ length bs
  pub some : (t.kind ≢ End) → 0 < t.len
  pub on : (t.kind ≢ End) → from bs at ≡ t ∷ from bs (t.place + t.len)
  pub done : t.kind ≡ End → from bs at ≡ t ∷ []
