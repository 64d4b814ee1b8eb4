-- The places of a run.
use Rattle.std.proofs.Common.{◌≡◌, ℕ, ◌+◌, ◌-◌, ◌<◌, ◌≤◌, Bool, true, false, List, length, drop, get_or, Option, None, Some, MatchOption, ap, subst, ◌∙◌, arith}
use Rattle.std.specs.Option.{unwrap_or}
use Rattle.std.specs.List.{AllWithin, HoldsAt}
use Rattle.std.proofs.lemmas.List.{length-drop, get_or-drop}
use Rattle.labels.specs.Spelling.{byte_at, LongestBy}

module _ (R : ℕ → Bool → Type 0) (bs : List ℕ) (p : ℕ) (few : p ≤ length bs) where
  -- what is answered of a byte of the rest is answered at its place
  back : (b : Bool) (i : ℕ) → p ≤ i → R (get_or (drop p bs) (i - p) 0) b → R (byte_at bs i) b
  back b i l h = let e : p + (i - p) ≡ i = omega arith in subst (λ (x : ℕ). R x b) (get_or-drop p bs (i - p) 0 ∙ ap (λ (k : ℕ). get_or bs k 0) e) h

  -- the first byte of the rest that does not pass ends the run
  pub run_from_first : (r : Option ℕ)
      → MatchOption r (AllWithin (λ x. R x true) (drop p bs) 0 (length (drop p bs))) (λ n. (n < length (drop p bs)) × HoldsAt (λ x. R x false) (drop p bs) n × AllWithin (λ x. R x true) (drop p bs) 0 n)
      → LongestBy R bs p (p + unwrap_or r (length (drop p bs)))
  run_from_first None h = record {
    late = omega arith;
    within = omega (arith, length-drop p bs);
    all = λ i l m. back true i l (h (i - p) 0 (omega arith) (omega (arith, length-drop p bs)));
    stops = λ l. absurd (omega (arith, length-drop p bs));
  }
  run_from_first (Some n) h = record {
    late = omega arith;
    within = omega (arith, h.0, length-drop p bs);
    all = λ i l m. back true i l (h.2 (i - p) 0 (omega arith) (omega arith));
    stops = λ l. back false (p + n) (omega arith) (let e : n ≡ p + n - p = omega arith in subst (λ (k : ℕ). R (get_or (drop p bs) k 0) false) e (h.1 0));
  }
