-- Two picks of one list are the same, and a pick of two lists in a row splits.
use Rattle.std.proofs.Common.{◌≡◌, ℕ, ◌<◌, ◌≤◌, List, [], ◌∷◌, ◌++◌, length, refl, ap, arith}
use Rattle.runs.specs.Picks.{Picks}

pub picks_same : {P : ℕ → Type 0} {vs xs ys : List ℕ} → Picks P vs xs → Picks P vs ys → ys ≡ xs
picks_same Picks.none Picks.none = refl
picks_same (Picks.keep {v = v} p k) (Picks.keep q l) = ap (λ (ws : List ℕ). v ∷ ws) (picks_same k l)
picks_same (Picks.keep p k) (Picks.skip q l) = absurd (q p)
picks_same (Picks.skip p k) (Picks.keep q l) = absurd (p q)
picks_same (Picks.skip p k) (Picks.skip q l) = picks_same k l

-- those picked of two lists in a row
pub record Split (P : ℕ → Type 0) (us vs xs : List ℕ) : Type 0 where
  pub first : List ℕ
  pub second : List ℕ
  pub both : xs ≡ first ++ second
  pub of_first : Picks P us first
  pub of_second : Picks P vs second

pub picks_split : {P : ℕ → Type 0} (us vs : List ℕ) {xs : List ℕ} → Picks P (us ++ vs) xs → Split P us vs xs
picks_split [] vs {xs} k = record { first = []; second = xs; both = refl; of_first = Picks.none; of_second = k }
picks_split (u ∷ us) vs (Picks.keep p k) =
    let r = picks_split us vs k in
    record {
      first = u ∷ r.first;
      second = r.second;
      both = ap (λ (ws : List ℕ). u ∷ ws) r.both;
      of_first = Picks.keep p r.of_first;
      of_second = r.of_second;
    }
picks_split (u ∷ us) vs (Picks.skip n k) =
    let r = picks_split us vs k in
    record { first = r.first; second = r.second; both = r.both; of_first = Picks.skip n r.of_first; of_second = r.of_second }

-- the first is picked if it has P
pub picks_some : {P : ℕ → Type 0} (v : ℕ) (vs : List ℕ) {xs : List ℕ} → P v → Picks P (v ∷ vs) xs → 0 < length xs
picks_some v vs p (Picks.keep q k) = omega arith
picks_some v vs p (Picks.skip n k) = absurd (n p)

-- no more are picked than there are
pub picks_short : {P : ℕ → Type 0} {vs xs : List ℕ} → Picks P vs xs → length xs ≤ length vs
picks_short Picks.none = omega arith
picks_short (Picks.keep p k) = let h = picks_short k in omega arith
picks_short (Picks.skip n k) = let h = picks_short k in omega arith
