-- The bits of a word as a set of numbers.
use Rattle.std.specs.Prelude.{◌≡◌, ℕ, ◌<◌, ◌/◌, ◌%◌, ◌^◌, ◌↔◌, List, length}
use Rattle.rules.specs.declared.node.RuleNode.{RuleNode}

-- bit x of w, 0 or 1
unfoldable pub bit : ℕ → ℕ → ℕ
bit w x = w / 2 ^ x % 2

-- x is in the set that w stands for
abbrev pub Has : ℕ → ℕ → Type 0
Has w x = bit w x ≡ 1

-- w is the set of exactly those rule nodes x of which meets x holds
abbrev pub SetOf : List RuleNode → (ℕ → Type 0) → ℕ → Type 0
SetOf rule meets w = (x : ℕ) → Has w x ↔ ((x < length rule) × meets x)
