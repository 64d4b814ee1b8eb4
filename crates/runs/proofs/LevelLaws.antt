-- What a level stands for after a call.
use Rattle.std.proofs.Common.{◌≡◌, ℕ, ◌↔◌, List, [], ◌∷◌, Some, Option, sym, ◌∙◌, refl, inl, inr, ⊎_elim}
use Rattle.std.specs.List.{slice_get}
use Rattle.rules.specs.declared.node.RuleNode.{RuleNode}
use Rattle.runs.specs.declared.levels.Level.{Level}
use Rattle.runs.specs.Bits.{Has}
use Rattle.runs.specs.Picks.{In}
use Rattle.runs.specs.Model.{KeptChild, MeetsAt}
use Rattle.runs.specs.Stands.{SetModel, FitsAt, ClosedChild, FitsWithin, LevelStands, LevelsStand}
use Rattle.runs.proofs.FitLaws.{below_moves, fits_moves}

pub level_keep : (rule : List RuleNode) (m m' : SetModel) (u : ℕ) (l : Level)
    → ((p : Option ℕ) (a : ℕ) → slice_get m.nodes u ≡ Some (p, a) → slice_get m'.nodes u ≡ Some (p, a))
    → ((d : ℕ) → ClosedChild m u d ↔ ClosedChild m' u d)
    → ((d y : ℕ) → ClosedChild m u d → FitsAt rule m y d ↔ FitsAt rule m' y d)
    → ((d y : ℕ) → ClosedChild m u d → FitsWithin rule m y d ↔ FitsWithin rule m' y d)
    → LevelStands rule m u l → LevelStands rule m' u l
level_keep rule m m' u l same done fits within k = record {
  number = k.number;
  met = (k.met.0, same k.met.0 l.met k.met.1);
  child = λ y. (
    λ h. let r = (k.child y).0 h in (r.0, (done r.0).0 r.1, (fits r.0 y r.1).0 r.2),
    λ r. let q = (done r.0).1 r.1 in (k.child y).1 (r.0, q, (fits r.0 y q).1 r.2),
  );
  below = λ y. (
    λ h. let r = (k.below y).0 h in (r.0, (done r.0).0 r.1, (within r.0 y r.1).0 r.2),
    λ r. let q = (done r.0).1 r.1 in (k.below y).1 (r.0, q, (within r.0 y q).1 r.2),
  );
}

pub levels_keep : (rule : List RuleNode) (m m' : SetModel) (vs : List ℕ) (ls : List Level)
    → ((u : ℕ) (l : Level) → In u vs → LevelStands rule m u l → LevelStands rule m' u l)
    → LevelsStand rule m vs ls → LevelsStand rule m' vs ls
levels_keep rule m m' [] [] keep s = s
levels_keep rule m m' [] (l ∷ ls) keep s = s
levels_keep rule m m' (v ∷ vs) [] keep s = s
levels_keep rule m m' (v ∷ vs) (l ∷ ls) keep s =
    (keep v l (inl refl) s.0, levels_keep rule m m' vs ls (λ u k i. keep u k (inr i)) s.1)

-- two trees that agree at and below the nodes with Q
module _ (rule : List RuleNode) (m m' : SetModel) (Q : ℕ → Type 0)
    (fw : (u v : ℕ) → Q u → KeptChild m u v → Q v × KeptChild m' u v) (bw : (u v : ℕ) → Q u → KeptChild m' u v → Q v × KeptChild m u v)
    (same : (v : ℕ) → Q v → slice_get m.nodes v ≡ slice_get m'.nodes v) where
  there : (x v : ℕ) → Q v → MeetsAt Has m x v → MeetsAt Has m' x v
  there x v q h = (h.0, h.1, sym (same v q) ∙ h.2, h.3)

  again : (x v : ℕ) → Q v → MeetsAt Has m' x v → MeetsAt Has m x v
  again x v q h = (h.0, h.1, same v q ∙ h.2, h.3)

  pub fits_same : (d y : ℕ) → Q d → FitsAt rule m y d ↔ FitsAt rule m' y d
  fits_same d y q = (
    fits_moves rule (KeptChild m) (KeptChild m') (MeetsAt Has m) (MeetsAt Has m') Q fw there q,
    fits_moves rule (KeptChild m') (KeptChild m) (MeetsAt Has m') (MeetsAt Has m) Q bw again q,
  )

  pub within_same : (d y : ℕ) → Q d → FitsWithin rule m y d ↔ FitsWithin rule m' y d
  within_same d y q = (
    ⊎_elim (λ f. inl ((fits_same d y q).0 f))
        (λ r. let b = below_moves (KeptChild m) (KeptChild m') Q fw q r.1 in inr (r.0, b.1, (fits_same r.0 y b.0).0 r.2)),
    ⊎_elim (λ f. inl ((fits_same d y q).1 f))
        (λ r. let b = below_moves (KeptChild m') (KeptChild m) Q bw q r.1 in inr (r.0, b.1, (fits_same r.0 y b.0).1 r.2)),
  )
