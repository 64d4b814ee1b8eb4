-- Answers of which there is one at most.
use Rattle.std.proofs.Common.{◌≡◌}
use Rattle.labels.specs.Exact.{Sole}

pub sole : {X Y : Type 0} {P : X → Type 0} {Q : Y → Type 0} {x : X}
    → ((y z : X) → P y → P z → y ≡ z) → ((y : X) (z : Y) → P y → Q z → ⊥) → P x → Sole P Q x
sole {x = x} one apart h = record { holds = h; only = λ y g. one y x g h; no_other = λ y g. apart x y h g }
