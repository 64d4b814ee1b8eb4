-- What stands in a list of the numbers that have P.
use Rattle.std.proofs.Common.{ℕ, List, sym, inl, inr, subst}
use Rattle.runs.specs.Picks.{In, Once, Picks}

module _ (P : ℕ → Type 0) where
  pub picked_in : {vs rs : List ℕ} → Picks P vs rs → (v : ℕ) → In v rs → In v vs × P v
  picked_in Picks.none v h = absurd h
  picked_in (Picks.keep p k) v (inl e) = (inl e, subst P (sym e) p)
  picked_in (Picks.keep p k) v (inr h) = let r = picked_in k v h in (inr r.0, r.1)
  picked_in (Picks.skip n k) v h = let r = picked_in k v h in (inr r.0, r.1)

  pub picked_all : {vs rs : List ℕ} → Picks P vs rs → (v : ℕ) → In v vs → P v → In v rs
  picked_all Picks.none v h q = h
  picked_all (Picks.keep p k) v (inl e) q = inl e
  picked_all (Picks.keep p k) v (inr h) q = inr (picked_all k v h q)
  picked_all (Picks.skip n k) v (inl e) q = absurd (n (subst P e q))
  picked_all (Picks.skip n k) v (inr h) q = picked_all k v h q

  pub picked_once : {vs rs : List ℕ} → Picks P vs rs → Once vs → Once rs
  picked_once Picks.none o = o
  picked_once (Picks.keep {v = u} p k) o = (λ m. o.0 (picked_in k u m).0, picked_once k o.1)
  picked_once (Picks.skip n k) o = picked_once k o.1
