-- Rules written as records of three bytes: parent, edge, any.
use Rattle.std.specs.Prelude.{◌≡◌, ℕ, ◌+◌, ◌*◌, ◌<◌, ◌≤◌, Bool, true, false, List, length, Some, None, Option, Result, MatchResult}
use Rattle.std.specs.List.{slice_get}
use Rattle.labels.specs.Spelling.{byte_at, part}
use Rattle.rules.specs.declared.node.Edge.{Edge}
use Rattle.rules.specs.declared.node.Edge.TheVariants.{Child, Descendant}
use Rattle.rules.specs.declared.node.RuleNode.{RuleNode}
use Rattle.rules.specs.declared.records.UnknownEdge.{UnknownEdge}
use Rattle.rules.specs.declared.refusal.RecordRefusal.{RecordRefusal}
use Rattle.rules.specs.declared.rule.Rule.{Rule}
use Rattle.rules.specs.Limits.{node_limit}
use Rattle.rules.specs.RuleNodes.{rule_nodes}
use Rattle.rules.specs.Refusals.{number_and_record}
use Rattle.labels.specs.Exact.{Sole}

pub data EdgeByte : ℕ → Edge → Type 0 where
  child : EdgeByte 0 Child
  descendant : EdgeByte 1 Descendant

-- the byte means the edge, or it means none and is told back
abbrev pub EdgeFrom : ℕ → Result Edge UnknownEdge → Type 0
EdgeFrom b r = MatchResult r (EdgeByte b) (λ f. (f.0 ≡ b) × ((edge : Edge) → EdgeByte b edge → ⊥))

pub data AnyByte : ℕ → Bool → Type 0 where
  named : AnyByte 0 false
  any : AnyByte 1 true

-- The parent and the edge of rule node i: node 0 is the root, and every other has a parent with a lower number.
pub data Hangs : ℕ → ℕ → Edge → Type 0 where
  root : Hangs 0 0 Child
  under : {i p : ℕ} {edge : Edge} → p < i → Hangs i p edge

-- the three bytes write the rule node i
pub data Writes (i : ℕ) : ℕ → ℕ → ℕ → RuleNode → Type 0 where
  writes : {p e a : ℕ} {edge : Edge} {any : Bool} → EdgeByte e edge → AnyByte a any → Hangs i p edge
      → Writes i p e a (record { parent = p; edge = edge; any = any })

-- the three bytes of a record write the rule node i
abbrev pub RecordWrites : ℕ → List ℕ → RuleNode → Type 0
RecordWrites i bs n = Writes i (byte_at bs 0) (byte_at bs 1) (byte_at bs 2) n

-- record i of the bytes writes the rule node
abbrev pub RecordAt : List ℕ → ℕ → RuleNode → Type 0
RecordAt bs i n = RecordWrites i (part bs (3 * i) (3 * i + 3)) n

-- it writes none
abbrev pub BadAt : List ℕ → ℕ → Type 0
BadAt bs i = (n : RuleNode) → RecordAt bs i n → ⊥

-- the bytes are k whole records, from 1 up to as many as a rule has rule nodes
pub record Whole (bs : List ℕ) (k : ℕ) : Type 0 where
  pub long : length bs ≡ 3 * k
  pub some : 0 < k
  pub few : k ≤ node_limit

-- the bytes are the records of the rule nodes ns
pub record Recorded (bs : List ℕ) (ns : List RuleNode) : Type 0 where
  pub whole : Whole bs (length ns)
  pub each : (i : ℕ) (n : RuleNode) → slice_get ns i ≡ Some n → RecordAt bs i n

-- The bytes are refused with a number, and 16 with the number of the first bad record.
pub data RecordReason (bs : List ℕ) : ℕ × Option ℕ → Type 0 where
  size : ((k : ℕ) → Whole bs k → ⊥) → RecordReason bs (15, None)
  bad : {k i : ℕ}
      → Whole bs k
      → i < k
      → ((j : ℕ) → j < i → (n : RuleNode) × RecordAt bs j n)
      → BadAt bs i
      → RecordReason bs (16, Some i)

-- The rule has the rule nodes of the records. They have no others, and there is no reason to refuse them.
abbrev pub OnlySet : List ℕ → Rule → Type 0
OnlySet bs rule = Sole (Recorded bs) (RecordReason bs) (rule_nodes rule)

-- There is this reason to refuse the bytes, and no other, and they are the records of no rule.
abbrev pub OnlyUnset : List ℕ → RecordRefusal → Type 0
OnlyUnset bs f = Sole (RecordReason bs) (Recorded bs) (number_and_record f)

-- a refusal alters nothing
pub record Unset (bs : List ℕ) (f : RecordRefusal) (rule rule' : Rule) : Type 0 where
  pub unsettable : OnlyUnset bs f
  pub rule_same : rule' ≡ rule
