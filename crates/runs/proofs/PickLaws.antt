-- Lists that pick some numbers of another.
use Rattle.std.proofs.Common.{◌≡◌, ℕ, ◌⊎◌, ◌↔◌, List, [], ◌∷◌, ◌++◌, refl, sym, inl, inr, ⊎_elim}
use Rattle.runs.specs.Picks.{In, Once, Picks}

pub in_push : (vs : List ℕ) (v u : ℕ) → In u (vs ++ v ∷ []) → In u vs ⊎ (u ≡ v)
in_push [] v u i = ⊎_elim (λ e. inr e) (λ k. absurd k) i
in_push (w ∷ vs) v u (inl e) = inl (inl e)
in_push (w ∷ vs) v u (inr i) = ⊎_elim (λ k. inl (inr k)) (λ e. inr e) (in_push vs v u i)

pub once_push : (vs : List ℕ) (v : ℕ) → Once vs → (In v vs → ⊥) → Once (vs ++ v ∷ [])
once_push [] v o n = ((λ i. i), tt)
once_push (w ∷ vs) v o n = (
  λ i. ⊎_elim o.0 (λ e. n (inl (sym e))) (in_push vs v w i),
  once_push vs v o.1 (λ i. n (inr i)),
)

-- other words for the same test
pub picks_like : (P Q : ℕ → Type 0) {vs ws : List ℕ} → Picks P vs ws → ((v : ℕ) → In v vs → P v ↔ Q v) → Picks Q vs ws
picks_like P Q Picks.none same = Picks.none
picks_like P Q (Picks.keep {v = v} p k) same = Picks.keep ((same v (inl refl)).0 p) (picks_like P Q k (λ u i. same u (inr i)))
picks_like P Q (Picks.skip {v = v} n k) same = Picks.skip (λ q. n ((same v (inl refl)).1 q)) (picks_like P Q k (λ u i. same u (inr i)))

pub picks_keep : {P : ℕ → Type 0} {vs ws : List ℕ} (v : ℕ) → P v → Picks P vs ws → Picks P (vs ++ v ∷ []) (ws ++ v ∷ [])
picks_keep v p Picks.none = Picks.keep p Picks.none
picks_keep v p (Picks.keep q k) = Picks.keep q (picks_keep v p k)
picks_keep v p (Picks.skip n k) = Picks.skip n (picks_keep v p k)

pub picks_skip : {P : ℕ → Type 0} {vs ws : List ℕ} (v : ℕ) → (P v → ⊥) → Picks P vs ws → Picks P (vs ++ v ∷ []) ws
picks_skip v p Picks.none = Picks.skip p Picks.none
picks_skip v p (Picks.keep q k) = Picks.keep q (picks_skip v p k)
picks_skip v p (Picks.skip n k) = Picks.skip n (picks_skip v p k)
