-- Two neighbours that are looked for among the windows of what is left.
use Rattle.std.proofs.Common.{◌≡◌, ℕ, ◌+◌, ◌-◌, ◌<◌, ◌≤◌, Bool, true, false, not, ◌==◌, ◌&&◌, List, length, drop, Some, None, Option, MatchOption, IsSomeAnd, IfSome, IsTrue, Bor, option_map, sym, subst, ap, ap₂, ◌∙◌, refl, inl, inr, ◌⊎◌, arith}
use Rattle.std.proofs.lemmas.Bool.{cases_lt, not-true, not-false}
use Rattle.std.proofs.lemmas.List.{take_all, length-drop}
use Rattle.std.specs.Iterator.Runs.{Run, IsWindowsRun, AllItemsGive, IsFirstToGive, CallKeepsClosure}
use Rattle.std.specs.Fn.{Called}
use Rattle.std.specs.List.{IsSubsliceAt, slice_range}
use denote.Param.Members.{Mut}
use Rattle.labels.specs.Spelling.{byte_at, Longest}
use Rattle.xml.specs.Bytes.{apart}
use Rattle.xml.specs.Shapes.{From, from_place, pair_here}
use Rattle.xml.specs.ScanLaws.{standing}
use Rattle.xml.proofs.Ends.{first_runs}

-- at the last place no pair begins
last_apart : (xs : List ℕ) (a b i : ℕ) → 0 < b → length xs ≤ i + 1 → apart xs a b i ≡ true
last_apart xs a b i some l = go (apart xs a b i) refl
  where
    go : (t : Bool) → apart xs a b i ≡ t → t ≡ true
    go true e = refl
    go false e = absurd (omega (arith, standing xs (i + 1) b (pair_here xs a b i e).1 some))

-- what stands from a place on
pub rest_part : (xs : List ℕ) (p : ℕ) → slice_range xs p (length xs) ≡ drop p xs
rest_part xs p = take_all (length xs - p) (drop p xs) (omega (arith, length-drop p xs))

module _ {S : Type 0} {steps : S → Option (Bor (List ℕ)) → S → Type 0} (u : Run steps) (xs : List ℕ) (p : ℕ) (w : IsWindowsRun u 2 (drop p xs)) (a b : ℕ) where
  left : From xs p (drop p xs)
  left = from_place xs (drop p xs) p refl

  -- a window shows whether the pair stands there in the input
  shown : (k : ℕ) (x : Bor (List ℕ)) → u.at k ≡ Some x → (apart x.now a b 0 ≡ apart xs a b (p + k)) × (p + k + 2 ≤ length xs) × (length x.now ≡ 2)
  shown k x e =
      let s : (length x.now ≡ 2) × (k + 2 ≤ length (drop p xs)) × IsSubsliceAt 2 (drop p xs) k x.now =
      subst (λ o. IfSome o (λ y. (length y.now ≡ 2) × (k + 2 ≤ length (drop p xs)) × IsSubsliceAt 2 (drop p xs) k y.now)) e (w.2 k) in
      let at = s.2.2 in
      let first : byte_at x.now 0 ≡ byte_at xs (p + k) = at 0 0 (omega arith) ∙ left.at (k + 0) ∙ ap (byte_at xs) {x = p + (k + 0)} {y = p + k} (omega arith) in
      let second : byte_at x.now 1 ≡ byte_at xs (p + k + 1) = at 1 0 (omega arith) ∙ left.at (k + 1) ∙ ap (byte_at xs) {x = p + (k + 1)} {y = p + k + 1} (omega arith) in
      (ap₂ (λ c d. not (c == a && d == b)) first second, omega (arith, s.1, left.long), s.0)

  -- at each place of the run there is a window
  item : (k : ℕ) → k < u.len → (x : Bor (List ℕ)) × (u.at k ≡ Some x)
  item k l = go (u.at k) refl
    where
      none : (r : Option ℕ) → r ≡ None → (c : ℕ) → r ≡ Some c → ⊥
      none None e c f = cc
      none (Some d) e c f = cc

      go : (o : Option (Bor (List ℕ))) → u.at k ≡ o → (x : Bor (List ℕ)) × (u.at k ≡ Some x)
      go (Some x) e = (x, e)
      go None e = absurd (none _ (ap (option_map (λ x. byte_at x.now 0)) e) _ (w.3 k 0 l))

  seen : (k : ℕ) → k < u.len → (P : Bor (List ℕ) → Type 0) → IfSome (u.at k) P → IsSomeAnd (u.at k) P
  seen k l P h =
      let i = item k l in
      subst (λ o. IsSomeAnd o P) (sym i.1) (subst (λ o. IfSome o P) i.1 h)

  module _ {F : Type 0} (g : Mut F (Bor (List ℕ) × Unit {0}) Bool) (f : F) (keeps : CallKeepsClosure g f)
      (tells : (x : Bor (List ℕ)) (t : Bool) → length x.now ≡ 2 → Called g f (x, tt) t f → t ≡ not (apart x.now a b 0)) where
    -- what the test told at a place of the run
    told : (k : ℕ) (t : Bool) → IsSomeAnd (u.at k) (λ x. Called g f (x, tt) t f) → (t ≡ not (apart xs a b (p + k))) × (p + k + 2 ≤ length xs)
    told k t h = go (u.at k) refl h
      where
        go : (o : Option (Bor (List ℕ))) → u.at k ≡ o → IsSomeAnd o (λ x. Called g f (x, tt) t f) → (t ≡ not (apart xs a b (p + k))) × (p + k + 2 ≤ length xs)
        go (Some x) e m = let s = shown k x e in (tells x t s.2 m ∙ ap not s.0, s.1)
        go None e m = absurd m

    missed : (i : ℕ) → false ≡ not (apart xs a b (p + (i - p))) → p ≤ i → apart xs a b i ≡ true
    missed i e m =
        let at : p + (i - p) ≡ i = omega arith in
        subst (λ k. apart xs a b k ≡ true) at (not-false _ (sym e))

    -- where the search ends
    pub first_pair : (r : Option ℕ) → 0 < b → p ≤ length xs →
        MatchOption r (IsTrue u.whole × AllItemsGive u g f false) (λ i. (u.len ≡ i + 1) × IsFirstToGive u g f true false i) →
        (q : ℕ) → MatchOption r (q ≡ length xs) (λ i. q ≡ p + i) → Longest (apart xs a b) (length xs) p q
    first_pair None some l h q e = subst (Longest (apart xs a b) (length xs) p) (sym e) (first_runs (apart xs a b) (length xs) p None all l)
      where
        all : (i : ℕ) → p ≤ i → i < length xs → apart xs a b i ≡ true
        all i m n = go (cases_lt (i + 1) (length xs))
          where
            go : ((i + 1 < length xs) ⊎ (length xs ≤ i + 1)) → apart xs a b i ≡ true
            go (inr o) = last_apart xs a b i some o
            go (inl o) =
                let before : i - p < u.len = omega (arith, w.1 h.0, left.long) in
                missed i (told (i - p) false (seen (i - p) before _ (h.1 keeps (i - p)))).0 m
    first_pair (Some i) some l h q e =
        let f = h.1 keeps in
        let t = told i true f.0 in
        let all : (j : ℕ) → p ≤ j → j < p + i → apart xs a b j ≡ true = λ j m n. missed j (told (j - p) false (f.1 (j - p) (omega arith))).0 m in
        subst (Longest (apart xs a b) (length xs) p) (sym e)
        (first_runs (apart xs a b) (length xs) p (Some (p + i)) (omega arith, omega (arith, t.1), not-true _ (sym t.0), all) l)
