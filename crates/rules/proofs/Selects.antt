-- What a rule text selects as an expression is where its rule occurs. Assumes nothing.
use Rattle.std.proofs.Common.{◌≡◌, ℕ, zero, suc, ◌<◌, ◌≤◌, cond, eqb, ◌⊎◌, List, [], ◌∷◌, ◌++◌, length, Some, None, sym, refl, ap, ◌∙◌, subst, subst₂, inl, inr, ⊎_elim, append_assoc, append-nil, arith, length-append}
use Rattle.std.proofs.lemmas.Bool.{cond-true, cond-false, eq-eqb, ne_eqb}
use Rattle.std.specs.List.{slice_get}
use Rattle.std.proofs.lemmas.Option.{slice_get_within}
use Rattle.rules.specs.declared.syntax.Kind.TheVariants.{Star, Name}
use Rattle.rules.specs.declared.syntax.Token.{Token}
use Rattle.rules.specs.declared.node.Edge.{Edge}
use Rattle.rules.specs.declared.node.Edge.TheVariants as edge
use Rattle.rules.specs.declared.syntax.ParsedNode.{ParsedNode}
use Rattle.rules.specs.Grammar.{Test, name, star, Between, slash, double_slash, node, Step, step, Predicates, none, predicate, Path, child, descendant, Further, last, further, Text, text}
use Rattle.rules.specs.Embedding.{Below, direct, deeper, Across}
use Rattle.rules.specs.XPath.{Context, LocationPath, LocationStep, ChildOf, Passes, InPath, InStep, Hold, Selected}
use Rattle.rules.specs.Expression.{token_bytes, apart, test_of, step_of, predicates_of, path_of, further_of, expression}

------------------------------------------------------------------------
-- lists

pub nth_last : {X : Type 0} (xs : List X) (y : X) → slice_get (xs ++ (y ∷ [])) (length xs) ≡ Some y
nth_last [] y = refl
nth_last (x ∷ xs) y = nth_last xs y

pub slice_get_longer : {X : Type 0} (xs ys : List X) (k : ℕ) (y : X) → slice_get xs k ≡ Some y → slice_get (xs ++ ys) k ≡ Some y
slice_get_longer [] ys k y h = let z : ◌≡◌ {A = ℕ} 0 1 = cc in absurd (omega arith)
slice_get_longer (x ∷ xs) ys zero y h = h
slice_get_longer (x ∷ xs) ys (suc k) y h = slice_get_longer xs ys k y h

-- in a list with y at its end
slice_get_cases : {X : Type 0} (xs : List X) (y z : X) (k : ℕ) → slice_get (xs ++ (y ∷ [])) k ≡ Some z
    → ((k < length xs) × (slice_get xs k ≡ Some z)) ⊎ ((k ≡ length xs) × (y ≡ z))
slice_get_cases [] y z zero h = inr (refl, cc)
slice_get_cases [] y z (suc k) h = let q : ◌≡◌ {A = ℕ} 0 1 = cc in absurd (omega arith)
slice_get_cases (x ∷ xs) y z zero h = inl (omega arith, h)
slice_get_cases (x ∷ xs) y z (suc k) h = ⊎_elim
    (λ r. inl (let l : k < length xs = r.0 in omega arith, r.1))
    (λ r. inr (let e : k ≡ length xs = r.0 in omega arith, r.1)) (slice_get_cases xs y z k h)

-- ms goes on from ns
pub record More (ns ms : List ParsedNode) : Type 0 where
  pub extra : List ParsedNode
  pub is : ms ≡ ns ++ extra

more_none : (ns : List ParsedNode) → More ns ns
more_none ns = record { extra = []; is = sym (append-nil ns) }

more_more : {xs ys zs : List ParsedNode} → More xs ys → More ys zs → More xs zs
more_more {xs} {ys} {zs} a b = record {
  extra = a.extra ++ b.extra;
  is = b.is ∙ ap (λ (z : List ParsedNode). z ++ b.extra) a.is ∙ append_assoc xs a.extra b.extra;
}

more_slice_get : {xs ys : List ParsedNode} (k : ℕ) (n : ParsedNode) → More xs ys → slice_get xs k ≡ Some n → slice_get ys k ≡ Some n
more_slice_get {xs} {ys} k n a h = subst (λ (z : List ParsedNode). slice_get z k ≡ Some n) (sym a.is) (slice_get_longer xs a.extra k n h)

more_length : {xs ys : List ParsedNode} → More xs ys → length xs ≤ length ys
more_length {xs} {ys} a = omega (arith, ap length a.is, length-append xs a.extra)

mutual
  step_more : {p : ℕ} {e : Edge} {ns ms : List ParsedNode} {ts rest : List Token} → Step p e ns ts ms rest → More ns ms
  step_more (step {p = p} {e = e} {t = t} {ns = ns} test ps) = more_more (record { extra = node p e t ∷ []; is = refl }) (predicates_more ps)

  predicates_more : {n : ℕ} {ns ms : List ParsedNode} {ts rest : List Token} → Predicates n ns ts ms rest → More ns ms
  predicates_more (none {ns = ns}) = more_none ns
  predicates_more (predicate o p c ps) = more_more (path_more p) (predicates_more ps)

  path_more : {n : ℕ} {ns ms : List ParsedNode} {ts rest : List Token} → Path n ns ts ms rest → More ns ms
  path_more (child s f) = more_more (step_more s) (further_more f)
  path_more (descendant d dd s f) = more_more (step_more s) (further_more f)

  further_more : {n : ℕ} {ns ms : List ParsedNode} {ts rest : List Token} → Further n ns ts ms rest → More ns ms
  further_more (last {ns = ns}) = more_none ns
  further_more (further b s f) = more_more (step_more s) (further_more f)

pub step_node : (p : ℕ) (e : Edge) (t : Token) (ns : List ParsedNode) {ms : List ParsedNode} {ts rest : List Token}
    → Predicates (length ns) (ns ++ (node p e t ∷ [])) ts ms rest → slice_get ms (length ns) ≡ Some (node p e t)
step_node p e t ns ps = more_slice_get (length ns) (node p e t) (predicates_more ps) (nth_last ns (node p e t))

------------------------------------------------------------------------
-- descendant-or-self, then child: a proper descendant

pub below_then : {A : Type 0} {C : A → A → Type 0} {u m v : A} → Below C u m → C m v → Below C u v
below_then (direct h) c = deeper h (direct c)
below_then (deeper h t) c = deeper h (below_then t c)

pub below_from : {A : Type 0} {C : A → A → Type 0} {u m v : A} → (u ≡ m) ⊎ Below C u m → C m v → Below C u v
below_from {C = C} {v = v} s c = ⊎_elim (λ e. direct (subst (λ z. C z v) (sym e) c)) (λ b. below_then b c) s

pub below_last : {A : Type 0} {C : A → A → Type 0} {u v : A} → Below C u v → (m : A) × ((u ≡ m) ⊎ Below C u m) × C m v
below_last (direct {u = u} h) = (u, inl refl, h)
below_last {C = C} (deeper {u = u} {w = w} h t) =
    let r = below_last t in
    (r.0, inr (⊎_elim (λ e. subst (Below C u) e (direct h)) (λ b. deeper h b) r.1), r.2)

------------------------------------------------------------------------
-- φ with n moved to c
abbrev pub put : (ℕ → ℕ) → ℕ → ℕ → ℕ → ℕ
put φ n c k = cond (eqb k n) c (φ k)

pub put_here : (φ : ℕ → ℕ) (n c : ℕ) → put φ n c n ≡ c
put_here φ n c = cond-true (eqb n n) c (φ n) (eq-eqb n n refl)

pub put_else : (φ : ℕ → ℕ) (n c k : ℕ) → k < n → put φ n c k ≡ φ k
put_else φ n c k h = cond-false (eqb k n) c (φ k) (ne_eqb k n (λ e. omega arith))

------------------------------------------------------------------------
module _ (bs : List ℕ) (HasParent : Context → ℕ → Type 0) (Called : List ℕ → ℕ → Type 0) where
  abbrev pub Inner : ℕ → ℕ → Type 0
  Inner u v = HasParent (Some u) v

  pub inner_below : {c d : Context} → Below (ChildOf HasParent Called) c d → (u v : ℕ) → c ≡ Some u → d ≡ Some v → Below Inner u v
  inner_below (direct h) u v p q = direct (subst₂ (ChildOf HasParent Called) p q h)
  inner_below (deeper {w = None} h t) u v p q = absurd h
  inner_below (deeper {w = Some w} h t) u v p q = deeper (subst (λ c. HasParent c w) p h) (inner_below t w v refl q)

  pub outer_below : {u v : ℕ} → Below Inner u v → Below (ChildOf HasParent Called) (Some u) (Some v)
  outer_below (direct h) = direct h
  outer_below (deeper {w = w} h t) = deeper {w = Some w} h (outer_below t)

  -- the test of a rule node, by the text
  abbrev pub MeetsNode : ParsedNode → ℕ → Type 0
  MeetsNode n v = (n.test.kind ≡ Star) ⊎ ((n.test.kind ≡ Name) × Called (token_bytes bs n.test) v)

  passes_meets : {t : Token} (d : Test t) (p : ℕ) (e : Edge) (v : ℕ) → Passes HasParent Called (test_of bs d) (Some v) → MeetsNode (node p e t) v
  passes_meets (name h) p e v q = inr (h, q)
  passes_meets (star h) p e v q = inl h

  meets_passes : {t : Token} (d : Test t) (p : ℕ) (e : Edge) (v : ℕ) → MeetsNode (node p e t) v → Passes HasParent Called (test_of bs d) (Some v)
  meets_passes (name h) p e v m = ⊎_elim (λ q. let z : ◌≡◌ {A = ℕ} 0 1 = cc in absurd (omega arith)) (λ q. q.1) m
  meets_passes (star h) p e v m = tt

  ----------------------------------------------------------------------
  -- from the expression to a mapping

  pub record Mapping (ns : List ParsedNode) (φ : ℕ → ℕ) : Type 0 where
    pub meets : (k : ℕ) (n : ParsedNode) → slice_get ns k ≡ Some n → MeetsNode n (φ k)
    pub edges : (k : ℕ) (n : ParsedNode) → slice_get ns k ≡ Some n → 0 < k → Across Inner n.edge (φ n.parent) (φ k)
    pub parents : (k : ℕ) (n : ParsedNode) → slice_get ns k ≡ Some n → n.parent < length ns

  -- φ goes on to all of ms
  record Grown (ns ms : List ParsedNode) (φ : ℕ → ℕ) : Type 0 where
    ψ : ℕ → ℕ
    maps : Mapping ms ψ
    same : (k : ℕ) → k < length ns → ψ k ≡ φ k
    longer : length ns ≤ length ms

  grown_none : (ns : List ParsedNode) (φ : ℕ → ℕ) → Mapping ns φ → Grown ns ns φ
  grown_none ns φ l = record { ψ = φ; maps = l; same = λ k h. refl; longer = omega arith }

  abbrev grown_more : (xs ys zs : List ParsedNode) (φ : ℕ → ℕ) (g : Grown xs ys φ) → Grown ys zs g.ψ → Grown xs zs φ
  grown_more xs ys zs φ g h =
      let a : length xs ≤ length ys = g.longer in
      let b : length ys ≤ length zs = h.longer in
      record { ψ = h.ψ; maps = h.maps; same = λ k l. h.same k (omega arith) ∙ g.same k l; longer = omega arith }

  mapping_more : (ns : List ParsedNode) (φ : ℕ → ℕ) (n : ParsedNode) (c : ℕ) → Mapping ns φ → MeetsNode n c → n.parent < suc (length ns)
      → (0 < length ns → (n.parent < length ns) × Across Inner n.edge (φ n.parent) c)
      → Mapping (ns ++ (n ∷ [])) (put φ (length ns) c)
  mapping_more ns φ n c l m low e =
      let long : length (ns ++ (n ∷ [])) ≡ suc (length ns) = omega (arith, length-append ns (n ∷ [])) in
      record {
        meets = λ k b h. ⊎_elim
            (λ r. subst (MeetsNode b) (sym (put_else φ (length ns) c k r.0)) (l.meets k b r.1))
            (λ r. subst₂ MeetsNode r.1 (sym (put_here φ (length ns) c) ∙ ap (put φ (length ns) c) (sym r.0)) m)
            (slice_get_cases ns n b k h);
        edges = λ k b h pos. ⊎_elim
            (λ r.
            let q : b.parent < length ns = l.parents k b r.1 in
            subst₂ (Across Inner b.edge) (sym (put_else φ (length ns) c b.parent q)) (sym (put_else φ (length ns) c k r.0)) (l.edges k b r.1 pos))
            (λ r.
            let here : k ≡ length ns = r.0 in
            let w = e (omega arith) in
            subst (λ (z : ParsedNode). Across Inner z.edge (put φ (length ns) c z.parent) (put φ (length ns) c k)) r.1
            (subst₂ (Across Inner n.edge) (sym (put_else φ (length ns) c n.parent w.0)) (sym (put_here φ (length ns) c) ∙ ap (put φ (length ns) c) (sym here)) w.1))
            (slice_get_cases ns n b k h);
        parents = λ k b h. ⊎_elim
            (λ r. let q : b.parent < length ns = l.parents k b r.1 in omega arith)
            (λ r. let q : b.parent < suc (length ns) = subst (λ (z : ParsedNode). z.parent < suc (length ns)) r.1 low in omega arith)
            (slice_get_cases ns n b k h);
      }

  -- what is left of a path behind a step that reached m
  abbrev Onward : {n : ℕ} {ns ms : List ParsedNode} {ts rest : List Token} → Further n ns ts ms rest → Context → Type 0
  Onward last m = Unit
  Onward (further b t f) m = (w : Context) × InPath HasParent Called (apart b (further_of bs f (step_of bs t))) m w

  -- where the first step of a path went
  record Entered (e : Edge) (u : ℕ) (s : LocationStep) (P : Context → Type 0) : Type 0 where
    to : ℕ
    across : Across Inner e u to
    from : Context
    enters : InStep HasParent Called s from (Some to)
    onward : P (Some to)

  splits : {n : ℕ} {ns ms : List ParsedNode} {ts rest : List Token} (f : Further n ns ts ms rest) (s : LocationStep) (c w : Context)
      → InPath HasParent Called (further_of bs f s) c w → (m : Context) × InStep HasParent Called s c m × Onward f m
  splits last s c w h = (w, h, tt)
  splits (further b t f) s c w h = (h.0, h.1, (w, h.2))

  -- a step goes to a child
  to_child : {p : ℕ} {e : Edge} {ns ms : List ParsedNode} {ts rest : List Token} (d : Step p e ns ts ms rest) (c m : Context)
      → InStep HasParent Called (step_of bs d) c m → ChildOf HasParent Called c m
  to_child (step t ps) c m h = h.0

  entered_child : {p : ℕ} {e : Edge} {ns ms : List ParsedNode} {ts rest : List Token} (d : Step p e ns ts ms rest) (P : Context → Type 0)
      (u : ℕ) (m : Context) → InStep HasParent Called (step_of bs d) (Some u) m → P m → Entered edge.Child u (step_of bs d) P
  entered_child d P u None h o = absurd (to_child d (Some u) None h)
  entered_child d P u (Some v) h o = record { to = v; across = to_child d (Some u) (Some v) h; from = Some u; enters = h; onward = o }

  entered_below : {p : ℕ} {e : Edge} {ns ms : List ParsedNode} {ts rest : List Token} (d : Step p e ns ts ms rest) (P : Context → Type 0)
      (u : ℕ) (c m : Context) → (Some u ≡ c) ⊎ Below (ChildOf HasParent Called) (Some u) c
      → InStep HasParent Called (step_of bs d) c m → P m → Entered edge.Descendant u (step_of bs d) P
  entered_below d P u c None s h o = absurd (to_child d c None h)
  entered_below d P u c (Some v) s h o = record {
    to = v;
    across = inner_below (below_from s (to_child d c (Some v) h)) u v refl refl;
    from = c;
    enters = h;
    onward = o;
  }

  entered_between : {b : Token} {e g : Edge} {n p : ℕ} {ns ks ms : List ParsedNode} {ts us rest : List Token} (q : Between b e) (d : Step p g ns ts ks us) (f : Further n ks us ms rest)
      (u : ℕ) (w : Context) → InPath HasParent Called (apart q (further_of bs f (step_of bs d))) (Some u) w → Entered e u (step_of bs d) (Onward f)
  entered_between (slash h) d f u w i = let r = splits f (step_of bs d) (Some u) w i in entered_child d (Onward f) u r.0 r.1 r.2
  entered_between (double_slash h) d f u w i =
      let r = splits f (step_of bs d) i.0 w i.2 in
      entered_below d (Onward f) u i.0 r.0 i.1.0 r.1 r.2

  mutual
    step_forth : {p : ℕ} {e : Edge} {ns ms : List ParsedNode} {ts rest : List Token} (d : Step p e ns ts ms rest) (φ : ℕ → ℕ) (from : Context) (c : ℕ)
        → Mapping ns φ → p < suc (length ns) → (0 < length ns → (p < length ns) × Across Inner e (φ p) c)
        → InStep HasParent Called (step_of bs d) from (Some c)
        → (g : Grown ns ms φ) × (g.ψ (length ns) ≡ c) × (length ns < length ms)
    step_forth (step {p = p} {e = e} {t = t} {ns = ns} {ms = ms} test ps) φ from c l low a h =
        let k : ℕ = length ns in
        let ns₁ : List ParsedNode = ns ++ (node p e t ∷ []) in
        let long : length ns₁ ≡ suc k = omega (arith, length-append ns (node p e t ∷ [])) in
        let l₁ : Mapping ns₁ (put φ k c) = mapping_more ns φ (node p e t) c l (passes_meets test p e c h.1) low a in
        let hold : Hold HasParent Called (predicates_of bs ps) (Some (put φ k c k)) = subst (λ z. Hold HasParent Called (predicates_of bs ps) (Some z)) (sym (put_here φ k c)) h.2 in
        let g = predicates_forth ps (put φ k c) l₁ (omega arith) hold in
        let g₀ : Grown ns ns₁ φ = record { ψ = put φ k c; maps = l₁; same = λ j q. put_else φ k c j q; longer = omega arith } in
        let more : length ns₁ ≤ length ms = g.longer in
        (grown_more ns ns₁ ms φ g₀ g, g.same k (omega arith) ∙ put_here φ k c, omega arith)

    predicates_forth : {n : ℕ} {ns ms : List ParsedNode} {ts rest : List Token} (d : Predicates n ns ts ms rest) (φ : ℕ → ℕ)
        → Mapping ns φ → n < length ns → Hold HasParent Called (predicates_of bs d) (Some (φ n)) → Grown ns ms φ
    predicates_forth (none {ns = ns}) φ l b h = grown_none ns φ l
    predicates_forth (predicate {n = n} {ns = ns} {ks = ks} {ms = ms} o p c ps) φ l b h =
        let g = path_forth p φ h.0.0 l b h.0.1 in
        let longer : length ns ≤ length ks = g.longer in
        let hold : Hold HasParent Called (predicates_of bs ps) (Some (g.ψ n)) = subst (λ z. Hold HasParent Called (predicates_of bs ps) (Some z)) (sym (g.same n b)) h.1 in
        grown_more ns ks ms φ g (predicates_forth ps g.ψ g.maps (omega arith) hold)

    path_forth : {n : ℕ} {ns ms : List ParsedNode} {ts rest : List Token} (d : Path n ns ts ms rest) (φ : ℕ → ℕ) (w : Context)
        → Mapping ns φ → n < length ns → InPath HasParent Called (path_of bs d) (Some (φ n)) w → Grown ns ms φ
    path_forth (child {n = n} {ns = ns} {ks = ks} {ms = ms} s f) φ w l b h =
        let r = splits f (step_of bs s) (Some (φ n)) w h in
        let i = entered_child s (Onward f) (φ n) r.0 r.1 r.2 in
        let q = step_forth s φ i.from i.to l (omega arith) (λ z. (b, i.across)) i.enters in
        let o : Onward f (Some (q.0.ψ (length ns))) = subst (λ z. Onward f (Some z)) (sym q.1) i.onward in
        grown_more ns ks ms φ q.0 (further_forth f q.0.ψ q.0.maps q.2 o)
    path_forth (descendant {n = n} {ns = ns} {ks = ks} {ms = ms} d dd s f) φ w l b h =
        let r = splits f (step_of bs s) h.2.0 w h.2.2 in
        let z : (Some (φ n) ≡ h.2.0) ⊎ Below (ChildOf HasParent Called) (Some (φ n)) h.2.0 =
        subst (λ (a : Context). (a ≡ h.2.0) ⊎ Below (ChildOf HasParent Called) a h.2.0) (sym h.1.0) h.2.1.0 in
        let i = entered_below s (Onward f) (φ n) h.2.0 r.0 z r.1 r.2 in
        let q = step_forth s φ i.from i.to l (omega arith) (λ z. (b, i.across)) i.enters in
        let o : Onward f (Some (q.0.ψ (length ns))) = subst (λ z. Onward f (Some z)) (sym q.1) i.onward in
        grown_more ns ks ms φ q.0 (further_forth f q.0.ψ q.0.maps q.2 o)

    further_forth : {n : ℕ} {ns ms : List ParsedNode} {ts rest : List Token} (d : Further n ns ts ms rest) (φ : ℕ → ℕ)
        → Mapping ns φ → n < length ns → Onward d (Some (φ n)) → Grown ns ms φ
    further_forth (last {ns = ns}) φ l b o = grown_none ns φ l
    further_forth (further {n = n} {ns = ns} {ks = ks} {ms = ms} bt s f) φ l b o =
        let i = entered_between bt s f (φ n) o.0 o.1 in
        let q = step_forth s φ i.from i.to l (omega arith) (λ z. (b, i.across)) i.enters in
        let o : Onward f (Some (q.0.ψ (length ns))) = subst (λ z. Onward f (Some z)) (sym q.1) i.onward in
        grown_more ns ks ms φ q.0 (further_forth f q.0.ψ q.0.maps q.2 o)

  mapping_nothing : (φ : ℕ → ℕ) → Mapping [] φ
  mapping_nothing φ = record {
    meets = λ k n h. let l = slice_get_within [] k n h in absurd (omega arith);
    edges = λ k n h p. let l = slice_get_within [] k n h in absurd (omega arith);
    parents = λ k n h. let l = slice_get_within [] k n h in absurd (omega arith);
  }

  pub selected_maps : {ts : List Token} {ns : List ParsedNode} (d : Text ts ns) (v : ℕ) → Selected HasParent Called (expression bs d) v
      → (φ : ℕ → ℕ) × (φ 0 ≡ v) × Mapping ns φ
  selected_maps (text a s b) v h =
      let q = step_forth s (λ k. v) h.0 v (mapping_nothing (λ k. v)) (omega arith) (λ z. absurd (omega arith)) h.2 in
      (q.0.ψ, q.1, q.0.maps)

  ----------------------------------------------------------------------
  -- from a mapping to the expression

  module _ (fs : List ParsedNode) (φ : ℕ → ℕ)
      (meets : (k : ℕ) (n : ParsedNode) → slice_get fs k ≡ Some n → Test n.test → MeetsNode n (φ k))
      (edges : (k : ℕ) (n : ParsedNode) → slice_get fs k ≡ Some n → 0 < k → Across Inner n.edge (φ n.parent) (φ k)) where
    -- the edge of a step of the text
    step_edge : {p : ℕ} {e : Edge} {ns ms : List ParsedNode} {ts rest : List Token} → Step p e ns ts ms rest → More ms fs → 0 < length ns → Across Inner e (φ p) (φ (length ns))
    step_edge (step {p = p} {e = e} {t = t} {ns = ns} test ps) m pos = edges (length ns) (node p e t) (more_slice_get (length ns) (node p e t) m (step_node p e t ns ps)) pos

    -- what stands between two steps
    joins : {t : Token} {e : Edge} (b : Between t e) (p : LocationPath) (u v : ℕ) → Across Inner e u v
        → ((c : Context) → HasParent c v → (w : Context) × InPath HasParent Called p c w)
        → (w : Context) × InPath HasParent Called (apart b p) (Some u) w
    joins (slash h) p u v a go = go (Some u) a
    joins (double_slash h) p u v a go =
        let r = below_last (outer_below a) in
        let w = go r.0 r.2 in
        (w.0, (r.0, (r.1, tt, tt), w.1))

    mutual
      step_back : {p : ℕ} {e : Edge} {ns ms : List ParsedNode} {ts rest : List Token} (d : Step p e ns ts ms rest) → More ms fs
          → (c : Context) → HasParent c (φ (length ns)) → InStep HasParent Called (step_of bs d) c (Some (φ (length ns)))
      step_back (step {p = p} {e = e} {t = t} {ns = ns} test ps) m c h =
          let long : length (ns ++ (node p e t ∷ [])) ≡ suc (length ns) = omega (arith, length-append ns (node p e t ∷ [])) in
          (h, meets_passes test p e (φ (length ns)) (meets (length ns) (node p e t) (more_slice_get (length ns) (node p e t) m (step_node p e t ns ps)) test), predicates_back ps m (omega arith))

      predicates_back : {n : ℕ} {ns ms : List ParsedNode} {ts rest : List Token} (d : Predicates n ns ts ms rest) → More ms fs
          → 0 < length ns → Hold HasParent Called (predicates_of bs d) (Some (φ n))
      predicates_back none m pos = tt
      predicates_back (predicate {n = n} {ns = ns} {ks = ks} o p c ps) m pos =
          let l : length ns ≤ length ks = more_length (path_more p) in
          (path_back p (more_more (predicates_more ps) m) pos, predicates_back ps m (omega arith))

      path_back : {n : ℕ} {ns ms : List ParsedNode} {ts rest : List Token} (d : Path n ns ts ms rest) → More ms fs
          → 0 < length ns → (w : Context) × InPath HasParent Called (path_of bs d) (Some (φ n)) w
      path_back (child {n = n} {ns = ns} {ks = ks} s f) m pos =
          let l : length ns ≤ length ks = more_length (step_more s) in
          let m₁ = more_more (further_more f) m in
          further_back f m (omega arith) (step_of bs s) (Some (φ n)) (step_back s m₁ (Some (φ n)) (step_edge s m₁ pos))
      path_back (descendant {n = n} {ns = ns} {ks = ks} d dd s f) m pos =
          let l : length ns ≤ length ks = more_length (step_more s) in
          let m₁ = more_more (further_more f) m in
          let r = below_last (outer_below (step_edge s m₁ pos)) in
          let w = further_back f m (omega arith) (step_of bs s) r.0 (step_back s m₁ r.0 r.2) in
          (w.0, (Some (φ n), (refl, tt, tt), (r.0, (r.1, tt, tt), w.1)))

      further_back : {n : ℕ} {ns ms : List ParsedNode} {ts rest : List Token} (d : Further n ns ts ms rest) → More ms fs
          → 0 < length ns → (s : LocationStep) (c : Context) → InStep HasParent Called s c (Some (φ n))
          → (w : Context) × InPath HasParent Called (further_of bs d s) c w
      further_back (last {n = n}) m pos s c h = (Some (φ n), h)
      further_back (further {n = n} {ns = ns} {ks = ks} b t f) m pos s c h =
          let l : length ns ≤ length ks = more_length (step_more t) in
          let m₁ = more_more (further_more f) m in
          let w = joins b (further_of bs f (step_of bs t)) (φ n) (φ (length ns)) (step_edge t m₁ pos)
          (λ d q. further_back f m (omega arith) (step_of bs t) d (step_back t m₁ d q)) in
          (w.0, (Some (φ n), h, w.1))

    pub mapping_selected : {ts : List Token} (d : Text ts fs) → Below (ChildOf HasParent Called) None (Some (φ 0)) → Selected HasParent Called (expression bs d) (φ 0)
    mapping_selected (text a s b) anchored =
        let r = below_last anchored in
        (r.0, (r.1, tt, tt), step_back s (more_none fs) r.0 r.2)
