-- When an answer is the only one.
use Rattle.std.specs.Prelude.{◌≡◌}

-- P holds of x and of nothing else, and Q holds of nothing
pub record Sole {X Y : Type 0} (P : X → Type 0) (Q : Y → Type 0) (x : X) : Type 0 where
  pub holds : P x
  pub only : (y : X) → P y → y ≡ x
  pub no_other : (y : Y) → Q y → ⊥
