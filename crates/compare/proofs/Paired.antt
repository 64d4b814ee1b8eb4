-- Nodes that pair off have the same paths.
use Rattle.std.proofs.Common.{◌≡◌, ℕ, zero, suc, ◌<◌, ◌≤◌, ◌⊎◌, ⊎_elim, ap, ◌∙◌, Bool, true, List, [], ◌∷◌, length, slice_get, Some, None, Option, refl, sym, subst, arith}
use Rattle.labels.specs.Names.{bytes_of}
use Rattle.labels.specs.declared.name.Name.{Name}
use Rattle.rules.specs.Embedding.{Nodes, ParentsFirst}
use Rattle.runs.specs.Picks.{In, Once, Picks}
use Rattle.selection.specs.Pairing.{Pairing, SameReport}
use Rattle.selection.proofs.Picked.{picked_in, picked_all, picked_once}
use Rattle.selection.proofs.Pairs.{fewer}
use Rattle.compare.specs.Paths.{SamePath, SameOften, Agree}
use Rattle.compare.proofs.PathLaws.{turned, same_along, same_or_not}

pub node_at : {X : Type 0} (xs : List X) (k : ℕ) → k < length xs → (x : X) × (slice_get xs k ≡ Some x)
node_at [] k l = absurd (omega arith)
node_at (x ∷ xs) zero l = (x, refl)
node_at (x ∷ xs) (suc k) l = node_at xs k (omega arith)

-- the numbers that have P
picked_of : (P : ℕ → Type 0) → ((v : ℕ) → P v ⊎ (P v → ⊥)) → (vs : List ℕ) → (ws : List ℕ) × Picks P vs ws
picked_of P decided [] = ([], Picks.none)
picked_of P decided (v ∷ vs) =
    let k = picked_of P decided vs in
    ⊎_elim (λ (p : P v). (v ∷ k.0, Picks.keep p k.1)) (λ (n : P v → ⊥). (k.0, Picks.skip n k.1)) (decided v)

-- Numbers that pair off, each with one of the same path, have the path of a node equally often.
module _ (F S : Nodes Name) (ones twos : List ℕ) (f g : ℕ → ℕ) (once₁ : Once ones) (once₂ : Once twos)
    (there : (v : ℕ) → In v ones → In (f v) twos) (back : (w : ℕ) → In w twos → In (g w) ones)
    (over : (v : ℕ) → In v ones → g (f v) ≡ v) (over_back : (w : ℕ) → In w twos → f (g w) ≡ w)
    (path : (v : ℕ) → In v ones → SamePath F S v (f v)) (path_back : (w : ℕ) → In w twos → SamePath S F w (g w)) (u : ℕ) where
  pub paired_often : SameOften F ones S twos u
  paired_often =
      let P : ℕ → Type 0 = SamePath F F u in
      let Q : ℕ → Type 0 = SamePath F S u in
      let k₁ = picked_of P (same_or_not F F u) ones in
      let k₂ = picked_of Q (same_or_not F S u) twos in
      let from₁ = picked_in P k₁.1 in
      let from₂ = picked_in Q k₂.1 in
      let le : length k₁.0 ≤ length k₂.0 = fewer f k₁.0 k₂.0 (picked_once P k₁.1 once₁)
      (λ a b i j e. sym (over a (from₁ a i).0) ∙ ap g e ∙ over b (from₁ b j).0)
      (λ a i. let m = from₁ a i in picked_all Q k₂.1 (f a) (there a m.0) (same_along m.1 (path a m.0))) in
      let ge : length k₂.0 ≤ length k₁.0 = fewer g k₂.0 k₁.0 (picked_once Q k₂.1 once₂)
      (λ a b i j e. sym (over_back a (from₂ a i).0) ∙ ap f e ∙ over_back b (from₂ b j).0)
      (λ w i. let m = from₂ w i in picked_all P k₁.1 (g w) (back w m.0) (same_along m.1 (path_back w m.0))) in
      record {
        count = length k₁.0;
        here = record { having = k₁.0; picked = k₁.1; counted = refl };
        there = record { having = k₂.0; picked = k₂.1; counted = omega arith };
      }

-- an equality of names is one of their bytes
module _ (same : Name → Name → Bool) (spelled : (a b : Name) → same a b ≡ true → bytes_of a ≡ bytes_of b)
    (first second : Nodes Name) (f g : ℕ → ℕ) (pairs : Pairing same first second f g)
    (ordered₁ : ParentsFirst first) (ordered₂ : ParentsFirst second) where
  -- a node, once those below n are known
  path_on : (n v : ℕ) → v < suc n → v < length first → ((u : ℕ) → u < n → u < length first → SamePath first second u (f u))
      → (x : Option ℕ × Name) → slice_get first v ≡ Some x → SamePath first second v (f v)
  path_on n v b l known (None, a) e =
      let k = pairs.kept v None a e in
      SamePath.roots e k.1 (spelled a k.0 k.2)
  path_on n v b l known (Some p, a) e =
      let k = pairs.kept v (Some p) a e in
      let h : p < v = ordered₁ v p a e in
      SamePath.under e k.1 (spelled a k.0 k.2) h (ordered₂ (f v) (f p) k.0 k.1) (known p (omega arith) (omega arith))

  paths_below : (n v : ℕ) → v < n → v < length first → SamePath first second v (f v)
  paths_below zero v b l = absurd (omega arith)
  paths_below (suc n) v b l = let x = node_at first v l in path_on n v b l (paths_below n) x.0 x.1

  pub paired_paths : (v : ℕ) → v < length first → SamePath first second v (f v)
  paired_paths v l = paths_below (suc v) v (omega arith) l

  pub paired_agree : (ones twos : List ℕ) → SameReport f (length first) ones twos
      → ((u : ℕ) → In u ones → u < length first) → ((w : ℕ) → In w twos → w < length second) → Once ones → Once twos → Agree first ones second twos
  paired_agree ones twos report low₁ low₂ once₁ once₂ =
      let there = λ (v : ℕ) (m : In v ones). (report.each v (low₁ v m)).0 m in
      let back = λ (w : ℕ) (m : In w twos).
      (report.each (g w) (pairs.back w (low₂ w m))).1 (subst (λ k. In k twos) (sym (pairs.back_there w (low₂ w m))) m) in
      let path = λ (v : ℕ) (m : In v ones). paired_paths v (low₁ v m) in
      let path_back = λ (w : ℕ) (m : In w twos).
      subst (λ k. SamePath second first k (g w)) (pairs.back_there w (low₂ w m)) (turned (paired_paths (g w) (pairs.back w (low₂ w m)))) in
      let over = λ (v : ℕ) (m : In v ones). pairs.there_back v (low₁ v m) in
      let over_back = λ (w : ℕ) (m : In w twos). pairs.back_there w (low₂ w m) in
      record {
        each_one = record { each = λ u m. paired_often first second ones twos f g once₁ once₂ there back over over_back path path_back u };
        each_two = record { each = λ w m. paired_often second first twos ones g f once₂ once₁ back there over_back over path_back path w };
      }
