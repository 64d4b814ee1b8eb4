-- Two listings of the same folders: their nodes pair off.
use Rattle.std.specs.Prelude.{◌≡◌, ℕ, ◌<◌, Bool, true, ◌↔◌, List, length, take, Some, None, Option}
use Rattle.std.specs.List.{slice_get}
use Rattle.rules.specs.Embedding.{Nodes}
use Rattle.runs.specs.Picks.{In}
use Rattle.sources.specs.declared.event.Event.{Event}
use Rattle.sources.specs.Nodes.{nodes}
use Rattle.selection.specs.Answers.{Answer, done}

-- the partner of a parent; a root has none
abbrev pub partner : (ℕ → ℕ) → Option ℕ → Option ℕ
partner f None = None
partner f (Some u) = Some (f u)

-- f and g pair the nodes of two listings off, one to one: roots with roots, parents with parents, and each label with an equal one.
-- The order of siblings plays no part.
pub record Pairing {L : Type 0} (same : L → L → Bool) (nodes₁ nodes₂ : Nodes L) (f g : ℕ → ℕ) : Type 0 where
  pub there : (v : ℕ) → v < length nodes₁ → f v < length nodes₂
  pub back : (w : ℕ) → w < length nodes₂ → g w < length nodes₁
  pub there_back : (v : ℕ) → v < length nodes₁ → g (f v) ≡ v
  pub back_there : (w : ℕ) → w < length nodes₂ → f (g w) ≡ w
  pub kept : (v : ℕ) (p : Option ℕ) (l : L) → slice_get nodes₁ v ≡ Some (p, l)
      → (m : L) × (slice_get nodes₂ (f v) ≡ Some (partner f p, m)) × (same l m ≡ true)

-- Of the first `count` nodes, each is reported exactly when its partner is, and as many numbers are reported here as there.
pub record SameReport (f : ℕ → ℕ) (count : ℕ) (first second : List ℕ) : Type 0 where
  pub each : (v : ℕ) → v < count → In v first ↔ In (f v) second
  pub as_many : length first ≡ length second

-- Two selections from these sources, with one rule and its labels: however their nodes pair off, if both selections finish, a node is
-- reported exactly when its partner is, and the counts are equal.
abbrev pub PairedAlike : {L F G : Type 0} → (L → L → Bool) → List (Event L) → List (Event L) → Answer F → Answer G → List ℕ → List ℕ → Type 0
PairedAlike same es₁ es₂ a₁ a₂ list₁ list₂ =
    (f g : ℕ → ℕ) → Pairing same (nodes es₁) (nodes es₂) f g
    → (n m : ℕ) → a₁ ≡ done n → a₂ ≡ done m
    → (n ≡ m) × SameReport f (length (nodes es₁)) (take n list₁) (take m list₂)
