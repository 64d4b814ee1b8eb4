-- A test of whether a rule occurs at a node of a model, and what accepted calls do by it. Assumes nothing.
use Rattle.std.proofs.Common.{◌≡◌, ℕ, zero, suc, ◌+◌, ◌-◌, ◌<◌, ◌≤◌, Bool, true, false, cond, not, ◌&&◌, ◌||◌, ◌==◌, ltb, leb, ◌⊎◌, List, [], ◌∷◌, length, Some, None, Option, Decides, sym, refl, ap, ◌∙◌, subst, subst₂, ⊎_elim, arith, leb-true, le-leb}
use Rattle.std.specs.List.{slice_get, AllByRecursion}
use Rattle.std.proofs.lemmas.Bool.{false≢true, and_parts, cases_lt, ltb-true}
use Rattle.std.proofs.lemmas.Bool.Decides.{Decides-like, Decides-not, Decides-and, Decides-or, Decides-eqb, Decides-below_and, Decides-below_or, not_from_Decides}
use Rattle.std.proofs.lemmas.Option.{slice_get_within}
use Rattle.rules.specs.declared.node.Edge.{Edge}
use Rattle.rules.specs.declared.node.Edge.TheVariants as edge
use Rattle.rules.specs.declared.node.RuleNode.{RuleNode}
use Rattle.rules.specs.Rule.{parent_of, edge_of, Ordered}
use Rattle.rules.specs.Embedding.{Nodes, Below, Across, Occurs, ParentsFirst}
use Rattle.rules.proofs.Selects.{below_from, below_last, put, put_here, put_else}
use Rattle.runs.specs.declared.call.Call.{Call}
use Rattle.runs.specs.declared.call.Call.TheVariants.{Open, Close, Drop, Take}
use Rattle.runs.specs.Limits.{depth_limit, waiting_limit, openings_limit}
use Rattle.runs.specs.Picks.{In}
use Rattle.runs.specs.Answers.{Told, Accepted}
use Rattle.runs.specs.Model.{Model, KeptChild, MeetsAt, OccursKept, opening, closing, dropping, taking, Does, opens, selects, passes, drops, takes, Plays, done, more}

-- a condition that is decided where the one before it holds
and_then : {P Q : Type 0} (x y : Bool) → Decides x P → (P → Decides y Q) → Decides (x && y) (P × Q)
and_then true y d k = let p = d.0 refl in (λ e. (p, (k p).0 e), λ h. (k p).1 h.1)
and_then false y d k = (λ e. absurd (false≢true e), λ h. d.1 h.0)

-- tests of all and of some numbers below n; what a `let` binds is computed only where it is read
abbrev every_below : ℕ → (ℕ → Bool) → Bool
every_below zero f = true
every_below (suc n) f = let r = every_below n f in f n && r

abbrev some_below : ℕ → (ℕ → Bool) → Bool
some_below zero f = false
some_below (suc n) f = let r = some_below n f in f n || r

module _ (f : ℕ → Bool) (P : ℕ → Type 0) (each : (i : ℕ) → Decides (f i) (P i)) (n : ℕ) where
  every_decides : Decides (every_below n f) ((i : ℕ) → i < n → P i)
  every_decides = Decides-below_and f P (λ i. every_below i f) each refl (λ i. refl) n

  some_decides : Decides (some_below n f) ((i : ℕ) × (i < n) × P i)
  some_decides = Decides-below_or f P (λ i. some_below i f) each refl (λ i. refl) n

-- whether there is a value, and it passes
abbrev pub holds : {X : Type 0} → Option X → (X → Bool) → Bool
holds None f = false
holds (Some x) f = f x

pub holds_decides : {X : Type 0} (o : Option X) (f : X → Bool) (P : X → Type 0) → ((x : X) → Decides (f x) (P x))
    → Decides (holds o f) ((x : X) × (o ≡ Some x) × P x)
holds_decides {X} o f P each = (gives o, λ h. subst (λ z. holds z f ≡ true) (sym h.1) ((each h.0).1 h.2))
  where
    gives : (o : Option X) → holds o f ≡ true → (x : X) × (o ≡ Some x) × P x
    gives None e = absurd (false≢true e)
    gives (Some x) e = (x, refl, (each x).0 e)

abbrev in_test : ℕ → List ℕ → Bool
in_test v [] = false
in_test v (u ∷ us) = v == u || in_test v us

in_decides : (v : ℕ) (us : List ℕ) → Decides (in_test v us) (In v us)
in_decides v [] = (λ e. absurd (false≢true e), λ i. absurd i)
in_decides v (u ∷ us) = Decides-or _ _ (Decides-eqb v u) (in_decides v us)

------------------------------------------------------------------------
-- a rule, and n nodes

module _ (rule : List RuleNode) (n : ℕ) (child_test meets_test : ℕ → ℕ → Bool) where
  -- going up from v, at most k steps
  abbrev below_test : ℕ → ℕ → ℕ → Bool
  below_test zero u v = false
  below_test (suc k) u v = some_below v (λ p. let r = below_test k u p in child_test p v && (u == p || r))

  abbrev across_test : Edge → ℕ → ℕ → Bool
  across_test edge.Child u v = child_test u v
  across_test edge.Descendant u v = below_test v u v

  -- rule node k at c, where its parent is at φ
  abbrev node_test : ℕ → (ℕ → ℕ) → ℕ → Bool
  node_test k φ c = let r = across_test (edge_of rule k) (φ (parent_of rule k)) c in meets_test k c && r

  -- the rule nodes below k are at φ, and the j others are tried at each node
  abbrev places_test : ℕ → ℕ → (ℕ → ℕ) → Bool
  places_test zero k φ = true
  places_test (suc j) k φ = some_below n (λ c. let r = places_test j (suc k) (put φ k c) in node_test k φ c && r)

  abbrev pub occurs_test : ℕ → Bool
  occurs_test v = let r = places_test (length rule - 1) 1 (λ x. v) in meets_test 0 v && r

  module _ (Child Meets : ℕ → ℕ → Type 0) (ordered : Ordered rule) (some : 0 < length rule)
      (child : (u v : ℕ) → Decides (child_test u v) (Child u v)) (later : (u v : ℕ) → Child u v → u < v)
      (meets : (x v : ℕ) → Decides (meets_test x v) (Meets x v)) (within : (x v : ℕ) → Meets x v → v < n) where
    below_decides : (k u v : ℕ) → v ≤ k → Decides (below_test k u v) (Below Child u v)
    below_decides zero u v l = (
      λ e. absurd (false≢true e),
      λ b. let r = below_last b in let h : r.0 < v = later r.0 v r.2 in absurd (omega arith),
    )
    below_decides (suc k) u v l =
        let P : ℕ → Type 0 = λ p. Child p v × ((u ≡ p) ⊎ Below Child u p) in
        let each : (p : ℕ) → Decides (child_test p v && (u == p || below_test k u p)) (P p) = λ p.
        and_then _ _ (child p v) (λ c. let h : p < v = later p v c in
        Decides-or _ _ (Decides-eqb u p) (below_decides k u p (omega arith))) in
        Decides-like _
        (λ h. below_from h.2.1 h.2.0)
        (λ b. let r = below_last b in (r.0, later r.0 v r.2, (r.2, r.1)))
        (some_decides _ P each v)

    across_decides : (e : Edge) (u v : ℕ) → Decides (across_test e u v) (Across Child e u v)
    across_decides edge.Child u v = child u v
    across_decides edge.Descendant u v = below_decides v u v (omega arith)

    -- rule node x may be at w, where its parent is at u
    abbrev May : ℕ → ℕ → ℕ → Type 0
    May x u w = Meets x w × Across Child (edge_of rule x) u w

    -- ψ is φ below k, and an embedding from there on
    record Placed (k : ℕ) (φ : ℕ → ℕ) : Type 0 where
      pub ψ : ℕ → ℕ
      pub same : (x : ℕ) → x < k → ψ x ≡ φ x
      pub rest : (x : ℕ) → k ≤ x → x < length rule → May x (ψ (parent_of rule x)) (ψ x)

    -- with rule node k at c
    abbrev Next : ℕ → (ℕ → ℕ) → ℕ → Type 0
    Next k φ c = May k (φ (parent_of rule k)) c × Placed (suc k) (put φ k c)

    gather : (k : ℕ) (φ : ℕ → ℕ) → parent_of rule k < k → (c : ℕ) → Next k φ c → Placed k φ
    gather k φ lower c h =
        let p = h.1 in
        let here : p.ψ k ≡ c = p.same k (omega arith) ∙ put_here φ k c in
        let same : (x : ℕ) → x < k → p.ψ x ≡ φ x = λ x a. p.same x (omega arith) ∙ put_else φ k c x a in
        let P : ℕ → Type 0 = λ x. May x (p.ψ (parent_of rule x)) (p.ψ x) in
        let first : P k = subst₂ (May k) (sym (same (parent_of rule k) lower)) (sym here) h.0 in
        record {
          ψ = p.ψ;
          same = same;
          rest = λ x a b. ⊎_elim (λ s. p.rest x s b) (λ s. let q : k ≡ x = omega arith in subst P q first) (cases_lt k x);
        }

    spread : (k : ℕ) (φ : ℕ → ℕ) → parent_of rule k < k → k < length rule → (p : Placed k φ) → Next k φ (p.ψ k)
    spread k φ lower l p = (
      subst (λ u. May k u (p.ψ k)) (p.same (parent_of rule k) lower) (p.rest k (omega arith) l),
      record {
        ψ = p.ψ;
        same = λ x a. ⊎_elim
            (λ s. p.same x s ∙ sym (put_else φ k (p.ψ k) x s))
            (λ s. let q : k ≡ x = omega arith in subst (λ z. p.ψ z ≡ put φ k (p.ψ k) z) q (sym (put_here φ k (p.ψ k))))
            (cases_lt x k);
        rest = λ x a b. p.rest x (omega arith) b;
      },
    )

    places_decides : (j k : ℕ) (φ : ℕ → ℕ) → 0 < k → k + j ≡ length rule → Decides (places_test j k φ) (Placed k φ)
    places_decides zero k φ pos q =
        (λ e. record { ψ = φ; same = λ x l. refl; rest = λ x a b. absurd (omega arith) }, λ p. refl)
    places_decides (suc j) k φ pos q =
        let l : k < length rule = omega arith in
        let lower : parent_of rule k < k = ordered k pos l in
        let each : (c : ℕ) → Decides (node_test k φ c && places_test j (suc k) (put φ k c)) (Next k φ c) = λ c.
        Decides-and _ _
        (Decides-and _ _ (meets k c) (across_decides (edge_of rule k) (φ (parent_of rule k)) c))
        (places_decides j (suc k) (put φ k c) (omega arith) (omega arith)) in
        Decides-like _
        (λ h. gather k φ lower h.0 h.2)
        (λ p. let s = spread k φ lower l p in (p.ψ k, within k (p.ψ k) s.0.0, s))
        (some_decides _ (Next k φ) each n)

    pub occurs_decides : (v : ℕ) → Decides (occurs_test v) (Occurs rule Child Meets v)
    occurs_decides v = Decides-like _ embeds places
        (Decides-and _ _ (meets 0 v) (places_decides (length rule - 1) 1 (λ x. v) (omega arith) (omega arith)))
      where
        embeds : Meets 0 v × Placed 1 (λ x. v) → Occurs rule Child Meets v
        embeds h =
            let p = h.1 in
            let P : ℕ → Type 0 = λ x. Meets x (p.ψ x) in
            let root : p.ψ 0 ≡ v = p.same 0 (omega arith) in
            let first : P 0 = subst (Meets 0) (sym root) h.0 in (
              p.ψ,
              record {
                root = root;
                tests = λ x l. ⊎_elim (λ a. (p.rest x a l).0) (λ a. let q : 0 ≡ x = omega arith in subst P q first) (cases_lt 0 x);
                edges = λ x a l. (p.rest x a l).1;
              },
            )

        places : Occurs rule Child Meets v → Meets 0 v × Placed 1 (λ x. v)
        places o = (
          subst (Meets 0) o.1.root (o.1.tests 0 some),
          record {
            ψ = o.0;
            same = λ x l. let q : x ≡ 0 = omega arith in ap o.0 q ∙ o.1.root;
            rest = λ x a l. (o.1.tests x l, o.1.edges x a l);
          },
        )

------------------------------------------------------------------------
-- a model

module _ {A : Type 0} where
  abbrev child_at : Model A → ℕ → ℕ → Bool
  child_at m u v = holds (slice_get m.nodes v) (λ e. holds e.0 (λ p. p == u)) && not (in_test v m.dropped)

  child_decides : (m : Model A) (u v : ℕ) → Decides (child_at m u v) (KeptChild m u v)
  child_decides m u v = Decides-and _ _
      (Decides-like _
      (λ h. let q : h.0.0 ≡ Some u = h.2.1 ∙ ap (λ z. Some z) h.2.2 in (h.0.1, h.1 ∙ ap (λ z. Some (z, h.0.1)) q))
      (λ h. ((Some u, h.0), h.1, (u, refl, refl)))
      (holds_decides (slice_get m.nodes v) _ _ (λ x. holds_decides x.0 _ _ (λ p. Decides-eqb p u))))
      (Decides-not _ (in_decides v m.dropped))

  -- v has a parent that is not numbered below it
  abbrev late_test : Nodes A → ℕ → Bool
  late_test nodes v = holds (slice_get nodes v) (λ e. holds e.0 (λ p. leb v p))

  abbrev parents_test : Nodes A → Bool
  parents_test nodes = every_below (length nodes) (λ v. not (late_test nodes v))

  parents_first : (nodes : Nodes A) → parents_test nodes ≡ true → ParentsFirst nodes
  parents_first nodes e v u a q =
      let Late : ℕ → Type 0 = λ v. (x : Option ℕ × A) × (slice_get nodes v ≡ Some x) × ((p : ℕ) × (x.0 ≡ Some p) × (v ≤ p)) in
      let late : (v : ℕ) → Decides (late_test nodes v) (Late v) = λ v.
      holds_decides _ _ _ (λ x. holds_decides x.0 _ _ (λ p. (leb-true v p, le-leb v p))) in
      let none = (every_decides _ (λ v. Late v → ⊥) (λ v. Decides-not _ (late v)) (length nodes)).0 e in
      ⊎_elim (λ l. l) (λ l. absurd (none v (slice_get_within nodes v _ q) ((Some u, a), q, (u, refl, l)))) (cases_lt u v)

  module _ (rule : List RuleNode) (meets_test : A → ℕ → Bool) where
    abbrev meets_at : Model A → ℕ → ℕ → Bool
    meets_at m x v = holds (slice_get m.nodes v) (λ e. meets_test e.1 x)

    abbrev pub occurs_at : Model A → ℕ → Bool
    occurs_at m v = occurs_test rule (length m.nodes) (child_at m) (meets_at m) v

    -- the model after a call that is accepted
    abbrev close_path : Model A → List ℕ → Model A
    close_path m [] = m
    close_path m (v ∷ vs) = closing m v vs (cond (occurs_at m v) (v ∷ []) [])

    abbrev drop_path : Model A → List ℕ → Model A
    drop_path m [] = m
    drop_path m (v ∷ vs) = dropping m v vs

    abbrev after : Model A → Call A → Model A
    after m (Open a) = opening m a
    after m Close = close_path m m.path
    after m Drop = drop_path m m.path
    after m (Take n) = taking m n

    abbrev accepted : Model A → Call A → Bool
    accepted m (Open a) = ltb (length m.path) depth_limit && ltb (length m.nodes) openings_limit
    accepted m Close = parents_test m.nodes && (ltb 0 (length m.path) && ltb (length m.waiting) waiting_limit)
    accepted m Drop = ltb 0 (length m.path)
    accepted m (Take n) = true

    abbrev pub after_all : Model A → List (Call A) → Model A
    after_all m [] = m
    after_all m (c ∷ cs) = after_all (after m c) cs

    abbrev pub all_accepted : Model A → List (Call A) → Bool
    all_accepted m [] = true
    all_accepted m (c ∷ cs) = let r = all_accepted (after m c) cs in accepted m c && r

    module _ (meets : A → ℕ → Type 0) (ordered : Ordered rule) (some : 0 < length rule)
        (decides : (a : A) (x : ℕ) → Decides (meets_test a x) (meets a x)) where
      meets_decides : (m : Model A) (x v : ℕ) → Decides (meets_at m x v) (MeetsAt meets m x v)
      meets_decides m x v = Decides-like _
          (λ h. (h.0.0, h.0.1, h.1, h.2))
          (λ h. ((h.0, h.1), h.2, h.3))
          (holds_decides (slice_get m.nodes v) _ _ (λ e. decides e.1 x))

      pub occurs_at_decides : (m : Model A) → ParentsFirst m.nodes → (v : ℕ) → Decides (occurs_at m v) (OccursKept rule meets m v)
      occurs_at_decides m first = occurs_decides rule (length m.nodes) (child_at m) (meets_at m) (KeptChild m) (MeetsAt meets m) ordered some
          (child_decides m) (λ u v k. first v u k.0.0 k.0.1)
          (meets_decides m) (λ x v h. slice_get_within m.nodes v _ h.2)

      closes : (m : Model A) (p : List ℕ) → m.path ≡ p → ParentsFirst m.nodes → 0 < length p → length m.waiting < waiting_limit
          → (t : Told) × Does rule meets m Close t (close_path m p) × Accepted t
      closes m [] q e pos l = absurd (omega arith)
      closes m (v ∷ vs) q e pos l = go (occurs_at m v) refl
        where
          go : (b : Bool) → occurs_at m v ≡ b → (t : Told) × Does rule meets m Close t (closing m v vs (cond b (v ∷ []) [])) × Accepted t
          go true h = (_, selects v vs q ((occurs_at_decides m e v).0 h) l, tt)
          go false h = (_, passes v vs q (not_from_Decides _ (occurs_at_decides m e v) h), tt)

      falls : (m : Model A) (p : List ℕ) → m.path ≡ p → 0 < length p → (t : Told) × Does rule meets m Drop t (drop_path m p) × Accepted t
      falls m [] q pos = absurd (omega arith)
      falls m (v ∷ vs) q pos = (_, drops v vs q, tt)

      does : (m : Model A) (c : Call A) → accepted m c ≡ true → (t : Told) × Does rule meets m c t (after m c) × Accepted t
      does m (Open a) e = let r = and_parts _ _ e in (_, opens a (ltb-true _ _ r.0) (ltb-true _ _ r.1), tt)
      does m Close e =
          let r = and_parts _ _ e in
          let s = and_parts _ _ r.1 in
          closes m m.path refl (parents_first m.nodes r.0) (ltb-true _ _ s.0) (ltb-true _ _ s.1)
      does m Drop e = falls m m.path refl (ltb-true _ _ e)
      does m (Take n) e = (_, takes n, tt)

      pub plays : (m : Model A) (cs : List (Call A)) → all_accepted m cs ≡ true
          → (ts : List Told) × Plays rule meets m cs ts (after_all m cs) × AllByRecursion Accepted ts
      plays m [] e = ([], done, tt)
      plays m (c ∷ cs) e =
          let r = and_parts _ _ e in
          let d = does m c r.0 in
          let p = plays (after m c) cs r.1 in
          (d.0 ∷ p.0, more d.1 p.1, (d.2, p.2))
