-- A state that carries sets of rule nodes does what the same state with labels does.
use Rattle.std.proofs.Common.{◌≡◌, ℕ, suc, zero, ◌<◌, ◌↔◌, List, [], ◌∷◌, ◌++◌, length, take, drop, Some, Option, sym, refl, ap, ap₂, ◌∙◌, subst, arith}
use Rattle.std.specs.List.{slice_get}
use Rattle.rules.specs.declared.node.RuleNode.{RuleNode}
use Rattle.rules.specs.Rule.{parent_of, edge_of}
use Rattle.rules.specs.Embedding.{Nodes, Occurs}
use Rattle.runs.proofs.FitLaws.{across_moves}
use Rattle.runs.specs.declared.call.Call.{Call}
use Rattle.runs.specs.declared.call.Call.TheVariants.{Open, Close, Drop}
use Rattle.runs.specs.Bits.{Has, SetOf}
use Rattle.runs.specs.Answers.{Told}
use Rattle.runs.specs.Picks.{In}
use Rattle.runs.specs.Model.{Model, empty, innermost, KeptChild, MeetsAt, OccursKept, opening, closing, dropping, taking, Does}
use Rattle.runs.specs.Stands.{SetModel}
use Rattle.runs.specs.Journal.{SetsOf, Carried}

-- the same mapping, where children stay children and tests stay met
module _ (rule : List RuleNode) (C C' M M' : ℕ → ℕ → Type 0)
    (children : (u v : ℕ) → C u v → C' u v) (tests : (x v : ℕ) → x < length rule → M x v → M' x v) where
  pub occurs_like : (v : ℕ) → Occurs rule C M v → Occurs rule C' M' v
  occurs_like v o = (
    o.0,
    record {
      root = o.1.root;
      tests = λ x l. tests x (o.0 x) l (o.1.tests x l);
      edges = λ x a l. (across_moves C C' (λ _. Unit {0}) (λ u v _ k. (tt, children u v k)) (edge_of rule x) (o.0 (parent_of rule x)) (o.0 x) tt (o.1.edges x a l)).1;
    },
  )

module _ {L : Type 0} (rule : List RuleNode) (meets : L → ℕ → Type 0) where
  -- node v of the labels' list, and of the sets'
  abbrev Same : L → ℕ → Type 0
  Same l s = SetOf rule (meets l) s

  set_of : (ns : Nodes L) (ss : Nodes ℕ) → SetsOf rule meets ns ss → (v : ℕ) (p : Option ℕ) (l : L)
      → slice_get ns v ≡ Some (p, l) → (s : ℕ) × (slice_get ss v ≡ Some (p, s)) × Same l s
  set_of [] ss a v p l e = let z : ◌≡◌ {A = ℕ} 0 1 = cc in absurd (omega arith)
  set_of (n ∷ ns) [] a v p l e = absurd a
  set_of (n ∷ ns) (s ∷ ss) a zero p l e =
      let q : n ≡ (p, l) = cc in
      let P : L → Type 0 = λ k. Same k s.1 in
      (s.1, ap (λ (o : Option ℕ). Some (o, s.1)) (a.0 ∙ ap (λ (k : Option ℕ × L). k.0) q), subst P (ap (λ (k : Option ℕ × L). k.1) q) a.1)
  set_of (n ∷ ns) (s ∷ ss) a (suc v) p l e = set_of ns ss a.2 v p l e

  label_of : (ns : Nodes L) (ss : Nodes ℕ) → SetsOf rule meets ns ss → (v : ℕ) (p : Option ℕ) (s : ℕ)
      → slice_get ss v ≡ Some (p, s) → (l : L) × (slice_get ns v ≡ Some (p, l)) × Same l s
  label_of [] [] a v p s e = let z : ◌≡◌ {A = ℕ} 0 1 = cc in absurd (omega arith)
  label_of [] (t ∷ ss) a v p s e = absurd a
  label_of (n ∷ ns) [] a v p s e = absurd a
  label_of (n ∷ ns) (t ∷ ss) a zero p s e =
      let q : t ≡ (p, s) = cc in
      let P : ℕ → Type 0 = λ k. Same n.1 k in
      (n.1, ap (λ (o : Option ℕ). Some (o, n.1)) (sym a.0 ∙ ap (λ (k : Option ℕ × ℕ). k.0) q), subst P (ap (λ (k : Option ℕ × ℕ). k.1) q) a.1)
  label_of (n ∷ ns) (t ∷ ss) a (suc v) p s e = label_of ns ss a.2 v p s e

  sets_push : (ns : Nodes L) (ss : Nodes ℕ) → SetsOf rule meets ns ss → (p : Option ℕ) (l : L) (s : ℕ) → Same l s
      → SetsOf rule meets (ns ++ (p, l) ∷ []) (ss ++ (p, s) ∷ [])
  sets_push [] [] a p l s h = (refl, h, tt)
  sets_push [] (t ∷ ss) a p l s h = absurd a
  sets_push (n ∷ ns) [] a p l s h = absurd a
  sets_push (n ∷ ns) (t ∷ ss) a p l s h = (a.0, a.1, sets_push ns ss a.2 p l s h)

  pub same_count : (ns : Nodes L) (ss : Nodes ℕ) → SetsOf rule meets ns ss → length ss ≡ length ns
  same_count [] [] a = refl
  same_count [] (t ∷ ss) a = absurd a
  same_count (n ∷ ns) [] a = absurd a
  same_count (n ∷ ns) (t ∷ ss) a = ap suc (same_count ns ss a.2)

  pub empty_carried : Carried rule meets empty empty
  empty_carried = record { nodes = tt; path = refl; dropped = refl; closed = refl; waiting = refl; handed = refl }

  module _ (m : Model L) (t : SetModel) (c : Carried rule meets m t) where
    kept_there : (u v : ℕ) → KeptChild t u v → KeptChild m u v
    kept_there u v k =
        let r = label_of m.nodes t.nodes c.nodes v (Some u) k.0.0 k.0.1 in
        let P : List ℕ → Type 0 = λ ds. In v ds → ⊥ in
        ((r.0, r.1), subst P c.dropped k.1)

    kept_back : (u v : ℕ) → KeptChild m u v → KeptChild t u v
    kept_back u v k =
        let r = set_of m.nodes t.nodes c.nodes v (Some u) k.0.0 k.0.1 in
        let P : List ℕ → Type 0 = λ ds. In v ds → ⊥ in
        ((r.0, r.1), subst P (sym c.dropped) k.1)

    met_there : (x v : ℕ) → x < length rule → MeetsAt Has t x v → MeetsAt meets m x v
    met_there x v l h =
        let r = label_of m.nodes t.nodes c.nodes v h.0 h.1 h.2 in
        (h.0, r.0, r.1, ((r.2 x).0 h.3).1)

    met_back : (x v : ℕ) → x < length rule → MeetsAt meets m x v → MeetsAt Has t x v
    met_back x v l h =
        let r = set_of m.nodes t.nodes c.nodes v h.0 h.1 h.2 in
        (h.0, r.0, r.1, (r.2 x).1 (l, h.3))

    pub occurs_same : (v : ℕ) → OccursKept rule Has t v ↔ OccursKept rule meets m v
    occurs_same v = (
      occurs_like rule (KeptChild t) (KeptChild m) (MeetsAt Has t) (MeetsAt meets m) kept_there met_there v,
      occurs_like rule (KeptChild m) (KeptChild t) (MeetsAt meets m) (MeetsAt Has t) kept_back met_back v,
    )

    depth : length t.path ≡ length m.path
    depth = ap length c.path

    count : length t.nodes ≡ length m.nodes
    count = same_count m.nodes t.nodes c.nodes

    waits : length t.waiting ≡ length m.waiting
    waits = ap length c.waiting

    -- what the model with labels does at a call
    abbrev pub Lifts : Call L → Told → SetModel → Type 0
    Lifts k r t' = (m' : Model L) × Does rule meets m k r m' × Carried rule meets m' t'

    pub lift_open : (l : L) (s : ℕ) → Same l s → {r : Told} {t' : SetModel} → Does rule Has t (Open s) r t' → Lifts (Open l) r t'
    lift_open l s h (Does.too_deep w e) = (m, Does.too_deep l (sym depth ∙ e), c)
    lift_open l s h (Does.too_many w e f) = let d = depth in (m, Does.too_many l (omega arith) (sym count ∙ f), c)
    lift_open l s h (Does.opens w e f) =
        let d = depth in
        let k = count in
        let P : Option ℕ → Type 0 = λ p. SetsOf rule meets (m.nodes ++ (innermost m.path, l) ∷ []) (t.nodes ++ (p, s) ∷ []) in
        let D : ℕ → Type 0 = λ n. Does rule meets m (Open l) (Told.opened n) (opening m l) in (
          opening m l,
          subst D (sym count) (Does.opens l (omega arith) (omega arith)),
          record {
            nodes = subst P (ap innermost (sym c.path)) (sets_push m.nodes t.nodes c.nodes (innermost m.path) l s h);
            path = ap₂ (λ (v : ℕ) (vs : List ℕ). v ∷ vs) count c.path;
            dropped = c.dropped;
            closed = c.closed;
            waiting = c.waiting;
            handed = c.handed;
          },
        )

    closed_carried : (v : ℕ) (vs ws : List ℕ) → Carried rule meets (closing m v vs ws) (closing t v vs ws)
    closed_carried v vs ws = record {
      nodes = c.nodes;
      path = refl;
      dropped = c.dropped;
      closed = ap (λ (us : List ℕ). us ++ v ∷ []) c.closed;
      waiting = ap (λ (us : List ℕ). us ++ ws) c.waiting;
      handed = c.handed;
    }

    pub lift_close : {r : Told} {t' : SetModel} → Does rule Has t Close r t' → Lifts Close r t'
    lift_close (Does.none_to_close e) = (m, Does.none_to_close (sym c.path ∙ e), c)
    lift_close (Does.waiting_full v vs e o f) = (m, Does.waiting_full v vs (sym c.path ∙ e) ((occurs_same v).0 o) (sym waits ∙ f), c)
    lift_close (Does.selects v vs e o f) =
        let w = waits in
        (closing m v vs (v ∷ []), Does.selects v vs (sym c.path ∙ e) ((occurs_same v).0 o) (omega arith), closed_carried v vs (v ∷ []))
    lift_close (Does.passes v vs e n) =
        (closing m v vs [], Does.passes v vs (sym c.path ∙ e) (λ o. n ((occurs_same v).1 o)), closed_carried v vs [])

    pub lift_drop : {r : Told} {t' : SetModel} → Does rule Has t Drop r t' → Lifts Drop r t'
    lift_drop (Does.none_to_drop e) = (m, Does.none_to_drop (sym c.path ∙ e), c)
    lift_drop (Does.drops v vs e) = (
      dropping m v vs,
      Does.drops v vs (sym c.path ∙ e),
      record {
        nodes = c.nodes;
        path = refl;
        dropped = ap (λ (us : List ℕ). v ∷ us) c.dropped;
        closed = c.closed;
        waiting = c.waiting;
        handed = c.handed;
      },
    )

    pub taking_carried : (n : ℕ) → Carried rule meets (taking m n) (taking t n)
    taking_carried n = record {
      nodes = c.nodes;
      path = c.path;
      dropped = c.dropped;
      closed = c.closed;
      waiting = ap (λ (ws : List ℕ). drop n ws) c.waiting;
      handed = ap₂ (λ (hs ws : List ℕ). hs ++ take n ws) c.handed c.waiting;
    }
