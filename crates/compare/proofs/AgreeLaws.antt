-- Comparing lists of nodes by their paths.
use Rattle.std.proofs.Common.{◌≡◌, ℕ, suc, ◌+◌, ◌<◌, ◌≤◌, Bool, true, false, List, [], ◌∷◌, ◌++◌, length, get_or, take, drop, Decides, nat_eq, ◌↔◌, refl, sym, ap, ◌∙◌, subst, inl, inr, ⊎_elim, arith}
use Rattle.std.proofs.lemmas.Bool.{both_ways}
use Rattle.std.proofs.lemmas.Bool.Decides.{Decides-eqb}
use Rattle.std.proofs.lemmas.List.{drop_all, take_all, length_push, length-take}
use Rattle.std.proofs.Math.Seq.{drop-cons, take-suc}
use Rattle.labels.specs.declared.name.Name.{Name}
use Rattle.rules.specs.Embedding.{Nodes}
use Rattle.runs.specs.Picks.{Picks}
use Rattle.runs.proofs.PickLaws.{picks_keep, picks_skip}
use Rattle.selection.proofs.PickMore.{picks_same, picks_short}
use Rattle.compare.specs.Paths.{SamePath, Counted, SameOften, AllSameOften, Agree}

-- what is left from place i on
left : (xs : List ℕ) (i : ℕ) → i < length xs → drop i xs ≡ get_or xs i 0 ∷ drop (i + 1) xs
left xs i l = drop-cons xs i 0 l ∙ (let e : suc i ≡ i + 1 = omega arith in ap (λ j. get_or xs i 0 ∷ drop j xs) e)

-- what has come up to place i
pub come : (xs : List ℕ) (i : ℕ) → i < length xs → take (i + 1) xs ≡ take i xs ++ get_or xs i 0 ∷ []
come xs i l = (let e : i + 1 ≡ suc i = omega arith in ap (λ j. take j xs) e) ∙ take-suc xs i 0 l

module _ (F S : Nodes Name) where
  pub none_counted : (u : ℕ) → Counted F u S [] 0
  none_counted u = record { having = []; picked = Picks.none; counted = refl }

  counted_short : (u : ℕ) (ws : List ℕ) (count : ℕ) → Counted F u S ws count → count ≤ length ws
  counted_short u ws count c = let h = picks_short c.picked in omega (arith, c.counted)

  pub room_for_one : (u : ℕ) (ws : List ℕ) (i count : ℕ) → Counted F u S (take i ws) count → i < length ws → count + 1 ≤ length ws
  room_for_one u ws i count c l = let h = counted_short u (take i ws) count c in omega (arith, length-take i ws)

  -- counts are unique
  counted_same : (u : ℕ) (ws : List ℕ) (n m : ℕ) → Counted F u S ws n → Counted F u S ws m → n ≡ m
  counted_same u ws n m a b = a.counted ∙ ap length (picks_same b.picked a.picked) ∙ sym b.counted

  module _ (ws : List ℕ) (u i count : ℕ) (so_far : Counted F u S (take i ws) count) where
    pub all_counted : length ws ≤ i → Counted F u S ws count
    all_counted l = subst (λ vs. Counted F u S vs count) (take_all i ws l) so_far

    module _ (l : i < length ws) (b : Bool) (tried : Decides b (SamePath F S u (get_or ws i 0))) where
      pub one_more : b ≡ true → Counted F u S (take (i + 1) ws) (count + 1)
      one_more t = subst (λ vs. Counted F u S vs (count + 1)) (sym (come ws i l)) (record {
        having = so_far.having ++ get_or ws i 0 ∷ [];
        picked = picks_keep (get_or ws i 0) (tried.0 t) so_far.picked;
        counted = omega (arith, so_far.counted, length_push so_far.having (get_or ws i 0));
      })

      pub no_more : b ≡ false → Counted F u S (take (i + 1) ws) count
      no_more t = subst (λ vs. Counted F u S vs count) (sym (come ws i l)) (record {
        having = so_far.having;
        picked = picks_skip (get_or ws i 0) (λ h. both_ways b t (tried.1 h)) so_far.picked;
        counted = so_far.counted;
      })

  module _ (ones twos : List ℕ) where
    module _ (vs : List ℕ) (i : ℕ) (known : AllSameOften F ones S twos vs ↔ AllSameOften F ones S twos (drop i vs)) where
      pub all_left : length vs ≤ i → Decides true (AllSameOften F ones S twos vs)
      all_left l = (
        λ _. known.1 (subst (λ us. AllSameOften F ones S twos us) (sym (drop_all i vs l)) (record { each = λ u m. absurd m })),
        λ _. refl,
      )

      module _ (l : i < length vs) (b : Bool) (tried : Decides b (SameOften F ones S twos (get_or vs i 0))) where
        pub not_here : b ≡ false → Decides false (AllSameOften F ones S twos vs)
        not_here t = (
          λ z. absurd (both_ways false refl z),
          λ h. absurd (both_ways b t (tried.1 ((subst (λ us. AllSameOften F ones S twos us) (left vs i l) (known.0 h)).each (get_or vs i 0) (inl refl)))),
        )

        pub all_on : b ≡ true → AllSameOften F ones S twos vs ↔ AllSameOften F ones S twos (drop (i + 1) vs)
        all_on t = (
          λ h. record { each = λ u m. (subst (λ us. AllSameOften F ones S twos us) (left vs i l) (known.0 h)).each u (inr m) },
          λ h. known.1 (subst (λ us. AllSameOften F ones S twos us) (sym (left vs i l))
              (record { each = λ u m. ⊎_elim (λ q. subst (λ z. SameOften F ones S twos z) (sym q) (tried.0 t)) (λ n. h.each u n) m })),
        )

    -- the two lists of nodes
    pub other_ones : (b : Bool) → Decides b (AllSameOften F ones S twos ones) → b ≡ false → Decides false (Agree F ones S twos)
    other_ones b d e = (λ z. absurd (both_ways false refl z), λ a. absurd (both_ways b e (d.1 a.each_one)))

    pub all_agree : (b c : Bool) → Decides b (AllSameOften F ones S twos ones) → b ≡ true → Decides c (AllSameOften S twos F ones twos)
        → Decides c (Agree F ones S twos)
    all_agree b c d e k = (λ t. record { each_one = d.0 e; each_two = k.0 t }, λ a. k.1 a.each_two)

-- equal counts
pub often_when : (F S : Nodes Name) (ones twos : List ℕ) (u n m : ℕ) → Counted F u F ones n → Counted F u S twos m
    → Decides (nat_eq n m) (SameOften F ones S twos u)
often_when F S ones twos u n m here there =
    let d : Decides (nat_eq n m) (n ≡ m) = Decides-eqb n m in (
      λ t. record { count = m; here = subst (λ k. Counted F u F ones k) (d.0 t) here; there = there },
      λ s. d.1 (counted_same F F u ones n s.count here s.here ∙ sym (counted_same F S u twos m s.count there s.there)),
    )

pub ruleset count_laws = (none_counted, all_counted, one_more, no_more)

pub ruleset all_often_laws = (all_left, not_here, all_on)

pub ruleset agree_laws = (other_ones, all_agree)
