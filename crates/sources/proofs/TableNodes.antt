-- The nodes of a table that is done are its records.
use Rattle.std.proofs.Common.{◌≡◌, ℕ, zero, suc, ◌+◌, ◌-◌, ◌<◌, ◌≤◌, Bool, true, false, ltb, ◌⊎◌, List, [], ◌∷◌, ◌++◌, drop, drop-drop, Some, None, refl, ap, ◌∙◌, inl, inr, arith, add-one, ltb-false, lt-ltb, le-ltb}
use Rattle.std.proofs.lemmas.Bool.{cases_lt}
use Rattle.std.proofs.lemmas.List.{drop_all}
use Rattle.sources.specs.declared.event.Event.{Event}
use Rattle.sources.specs.declared.event.Event.TheVariants.{Open}
use Rattle.sources.specs.declared.record.Record.{Record}
use Rattle.sources.specs.declared.fault.TableFault.TheVariants.{WrongDepth}
use Rattle.sources.specs.Nodes.{innermost, outer, nodes_from, nodes}
use Rattle.sources.specs.Table.{closings, events_from, ending_from, above, record_nodes}

-- closings end the last nodes of the path
shut_some : {L : Type 0} (n k : ℕ) (p : List ℕ) (es : List (Event L)) → nodes_from n p (closings k ++ es) ≡ nodes_from n (drop k p) es
shut_some n zero p es = refl
shut_some n (suc k) [] es = shut_some n k [] es ∙ ap (λ q. nodes_from n q es) (drop_all k [] (omega arith))
shut_some n (suc k) (v ∷ p) es = shut_some n k p es

shut_all : {L : Type 0} (n k : ℕ) (p : List ℕ) → nodes_from {L = L} n p (closings k) ≡ []
shut_all n zero p = refl
shut_all n (suc k) p = shut_all n k (outer p)

-- the path of so many open nodes, by the records before
abbrev Fits : ℕ → List ℕ → List (ℕ × ℕ) → Type 0
Fits level p before = (d : ℕ) → d ≤ level → innermost (drop (level - d) p) ≡ above d before

none_before : Fits 0 [] []
none_before d h = let e : 0 - d ≡ 0 = omega arith in rw e refl

one_more : (level d n : ℕ) (p : List ℕ) (before : List (ℕ × ℕ)) → d ≤ level → Fits level p before →
    Fits (d + 1) (n ∷ drop (level - d) p) ((n, d) ∷ before)
one_more level d n p before h f e g = go (cases_lt d e)
  where
    go : ((d < e) ⊎ (e ≤ d)) → innermost (drop (d + 1 - e) (n ∷ drop (level - d) p)) ≡ above e ((n, d) ∷ before)
    go (inl l) = let z : d + 1 - e ≡ 0 = omega arith in rw (z, lt-ltb d e l) refl
    go (inr l) =
        let z : d + 1 - e ≡ suc (d - e) = omega arith in
        let k : level - d + (d - e) ≡ level - e = omega arith in
        rw (z, le-ltb d e l) (ap innermost (drop-drop (d - e) (level - d) p ∙ ap (λ i. drop i p) k) ∙ f e (omega arith))

listed : {L : Type 0} (rs : List (Record L)) (n level : ℕ) (p : List ℕ) (before : List (ℕ × ℕ)) → Fits level p before → ending_from n level rs ≡ None →
    nodes_from n p (events_from level rs) ≡ record_nodes n before rs
listed [] n level p before f e = shut_all n level p
listed {L} (r ∷ rs) n level p before f e = by_test (ltb level r.depth) refl (λ q b g h. listed rs (suc n) (r.depth + 1) q b g h)
  where
    by_test : (b : Bool) → ltb level r.depth ≡ b →
        ((q : List ℕ) (b : List (ℕ × ℕ)) → Fits (r.depth + 1) q b → ending_from (suc n) (r.depth + 1) rs ≡ None →
        nodes_from (suc n) q (events_from (r.depth + 1) rs) ≡ record_nodes (suc n) b rs) →
        nodes_from n p (events_from level (r ∷ rs)) ≡ record_nodes n before (r ∷ rs)
    by_test true t go = let g : Some (WrongDepth n) ≡ None = rw t at e in let z : ◌≡◌ {A = ℕ} 0 1 = cc in absurd (omega arith)
    by_test false t go =
        let h = ltb-false level r.depth t in
        let g : ending_from (n + 1) (r.depth + 1) rs ≡ None = rw t at e in
        let k : ending_from (suc n) (r.depth + 1) rs ≡ None = rw add-one at g in
        let q = drop (level - r.depth) p in
        let on = go (n ∷ q) ((n, r.depth) ∷ before) (one_more level r.depth n p before h f) k in
        let front = f r.depth h in
        rw t (shut_some n (level - r.depth) p (Open r.label ∷ events_from (r.depth + 1) rs) ∙ (λ i. (front i, r.label) ∷ on i))

pub nodes_listed : {L : Type 0} (rs : List (Record L)) → ending_from 0 0 rs ≡ None → nodes (events_from 0 rs) ≡ record_nodes 0 [] rs
nodes_listed rs e = listed rs 0 0 [] [] none_before e
