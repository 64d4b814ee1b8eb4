-- Which numbers of a list are picked, and lists with no number twice. In and Once go by recursion, as the proofs go
-- through a list.
use Rattle.std.specs.Prelude.{◌≡◌, ℕ, ◌⊎◌, List, [], ◌∷◌}

-- v is one of the numbers
abbrev pub In : ℕ → List ℕ → Type 0
In v [] = ⊥
In v (u ∷ us) = (v ≡ u) ⊎ In v us

-- no number stands twice
abbrev pub Once : List ℕ → Type 0
Once [] = Unit {0}
Once (v ∷ vs) = (In v vs → ⊥) × Once vs

-- ws are those of vs that have P, in order
pub data Picks (P : ℕ → Type 0) : List ℕ → List ℕ → Type 0 where
  none : Picks P [] []
  keep : {v : ℕ} {vs ws : List ℕ} → P v → Picks P vs ws → Picks P (v ∷ vs) (v ∷ ws)
  skip : {v : ℕ} {vs ws : List ℕ} → (P v → ⊥) → Picks P vs ws → Picks P (v ∷ vs) ws
