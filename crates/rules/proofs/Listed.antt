-- The same in a listing, with the names of the rule nodes in a list. Assumes nothing.
use Rattle.std.proofs.Common.{◌≡◌, ℕ, zero, suc, ◌<◌, Bool, true, false, ◌⊎◌, ◌↔◌, List, [], ◌∷◌, length, get_or, Some, None, Option, sym, refl, ap, ◌∙◌, subst, inl, inr, ⊎_elim, arith}
use Rattle.std.proofs.lemmas.List.{length-map}
use Rattle.std.specs.List.{slice_get}
use Rattle.std.proofs.lemmas.Option.{slice_get_within}
use Rattle.rules.specs.declared.syntax.Kind.TheVariants.{Star, Name}
use Rattle.rules.specs.declared.syntax.Token.{Token}
use Rattle.rules.specs.declared.node.Edge.{Edge}
use Rattle.rules.specs.declared.node.Edge.TheVariants as edge
use Rattle.rules.specs.declared.syntax.ParsedNode.{ParsedNode}
use Rattle.rules.specs.declared.node.RuleNode.{RuleNode}
use Rattle.rules.specs.Grammar.{Test, name, star, Text}
use Rattle.rules.specs.Rule.{blank, parent_of, edge_of}
use Rattle.rules.specs.Embedding.{Below, direct, Across, Embedding, Nodes, ChildIn, Meets, MeetsIn, OccursIn, ParentsFirst}
use Rattle.rules.specs.XPath.{LocationPath, Context, ChildOf, Selected}
use Rattle.rules.specs.Expression.{token_bytes, ParentIn, CalledIn, expression, TextStandsFor, stands_for, SelectsAlike, PlainReadings}
use Rattle.rules.specs.RuleNodes.{is_star, plain, plain_nodes}
use Rattle.rules.specs.Lexing.{Lexes}
use Rattle.rules.specs.Machine.{to, ended, start, moves}
use Rattle.rules.specs.Texts.{TextGives, gives}
use Rattle.rules.proofs.Machine.{complete}
use Rattle.rules.proofs.Words.{unique}
use Rattle.rules.specs.ReadText.{NamesIn, behind, named, unnamed}
use Rattle.rules.proofs.Selects.{below_then, below_from, below_last, inner_below, outer_below, MeetsNode, Mapping, selected_maps, mapping_selected}

pub some_at : {X : Type 0} (xs : List X) (k : ℕ) → k < length xs → (y : X) × (slice_get xs k ≡ Some y)
some_at [] k h = absurd (omega arith)
some_at (x ∷ xs) zero h = (x, refl)
some_at (x ∷ xs) (suc k) h = some_at xs k (omega arith)

pub rule_at : (ns : List ParsedNode) (k : ℕ) (n : ParsedNode) → slice_get ns k ≡ Some n → get_or (plain_nodes ns) k blank ≡ plain n
rule_at [] k n h = let z : ◌≡◌ {A = ℕ} 0 1 = cc in absurd (omega arith)
rule_at (m ∷ ns) zero n h = let e : m ≡ n = cc in ap plain e
rule_at (m ∷ ns) (suc k) n h = rule_at ns k n h

label_of : {L : Type 0} {spelled : L → List ℕ} {bs : List ℕ} {ns : List ParsedNode} {before labels : List L} → NamesIn spelled bs ns before labels
    → (k : ℕ) (n : ParsedNode) → slice_get ns k ≡ Some n → n.test.kind ≡ Name → (y : L) × (slice_get labels k ≡ Some y) × (spelled y ≡ token_bytes bs n.test)
label_of behind k n h t = let z : ◌≡◌ {A = ℕ} 0 1 = cc in absurd (omega arith)
label_of {bs = bs} (named {n = m} {y = y} q e d) zero n h t = let s : m ≡ n = cc in (y, refl, e ∙ ap (λ (z : ParsedNode). token_bytes bs z.test) s)
label_of (named q e d) (suc k) n h t = label_of d k n h t
label_of (unnamed {n = m} q d) zero n h t = let s : m ≡ n = cc in absurd (q (ap (λ (z : ParsedNode). z.test.kind) s ∙ t))
label_of (unnamed q d) (suc k) n h t = label_of d k n h t

star_true : (t : Token) → Test t → is_star t.kind ≡ true → t.kind ≡ Star
star_true t (name h) e = let f : false ≡ true = ap is_star (sym h) ∙ e in let z : ◌≡◌ {A = ℕ} 0 1 = cc in absurd (omega arith)
star_true t (star h) e = h

-- every node is below the document
module _ {L : Type 0} (Called : List ℕ → ℕ → Type 0) (nodes : Nodes L) (first : ParentsFirst nodes) where
  anchored_at : (v : ℕ) (p : Context) (l : L) → slice_get nodes v ≡ Some (p, l)
      → ((u : ℕ) → u < v → Below (ChildOf (ParentIn nodes) Called) None (Some u)) → Below (ChildOf (ParentIn nodes) Called) None (Some v)
  anchored_at v None l h lower = direct (l, h)
  anchored_at v (Some u) l h lower = below_then (lower u (first v u l h)) (l, h)

  anchored : (k v : ℕ) → v < k → v < length nodes → Below (ChildOf (ParentIn nodes) Called) None (Some v)
  anchored zero v h b = absurd (omega arith)
  anchored (suc k) v h b =
      let r = some_at nodes v b in
      anchored_at v r.0.0 r.0.1 r.1 (λ u l. anchored k u (omega arith) (omega arith))

-- a place across an edge is a node
node_across : {L : Type 0} (nodes : Nodes L) (e : Edge) (u v : ℕ) → Across (ChildIn nodes) e u v → (p : Option ℕ) × (l : L) × (slice_get nodes v ≡ Some (p, l))
node_across nodes edge.Child u v c = (Some u, c.0, c.1)
node_across nodes edge.Descendant u v b = let r = below_last b in (Some r.0, r.2.0, r.2.1)

module _ {L : Type 0} (same : L → L → Bool) (spelled : L → List ℕ) (alike : List ℕ → List ℕ → Bool) (tied : (a b : L) → same a b ≡ alike (spelled a) (spelled b))
    (bs : List ℕ) (ns : List ParsedNode) (before labels : List L) (names : NamesIn spelled bs ns before labels) (nodes : Nodes L) (φ : ℕ → ℕ) (v : ℕ) where
  module _ (m : Embedding (plain_nodes ns) (ChildIn nodes) (MeetsIn (Meets same (plain_nodes ns) labels) nodes) v φ) where
    within : (k : ℕ) (n : ParsedNode) → slice_get ns k ≡ Some n → k < length (plain_nodes ns)
    within k n h = let l = slice_get_within ns k n h in omega (arith, length-map ns plain)

    meets : (k : ℕ) (n : ParsedNode) → slice_get ns k ≡ Some n → Test n.test → MeetsNode bs (ParentIn nodes) (CalledIn spelled alike nodes) n (φ k)
    meets k n h t = by_test t (m.tests k (within k n h))
      where
        by_label : n.test.kind ≡ Name → MeetsIn (Meets same (plain_nodes ns) labels) nodes k (φ k) → MeetsNode bs (ParentIn nodes) (CalledIn spelled alike nodes) n (φ k)
        by_label e (p, l, here, inl any) =
            let r : is_star n.test.kind ≡ true = sym (ap (λ (z : RuleNode). z.any) (rule_at ns k n h)) ∙ any in
            inl (star_true n.test t r)
        by_label e (p, l, here, inr (w, listed, equal)) =
            let y = label_of names k n h e in
            let s : Some y.0 ≡ Some w = sym y.1 ∙ listed in
            let z : y.0 ≡ w = cc in
            inr (e, (p, l, here, ap (alike (spelled l)) (sym y.2 ∙ ap spelled z) ∙ sym (tied l w) ∙ equal))

        by_test : Test n.test → MeetsIn (Meets same (plain_nodes ns) labels) nodes k (φ k) → MeetsNode bs (ParentIn nodes) (CalledIn spelled alike nodes) n (φ k)
        by_test (star e) r = inl e
        by_test (name e) r = by_label e r

    edges : (k : ℕ) (n : ParsedNode) → slice_get ns k ≡ Some n → 0 < k → Across (ChildIn nodes) n.edge (φ n.parent) (φ k)
    edges k n h pos =
        subst (λ (z : RuleNode). Across (ChildIn nodes) z.edge (φ z.parent) (φ k)) (rule_at ns k n h)
        (m.edges k pos (within k n h))

  embeds : v < length nodes → Mapping bs (ParentIn nodes) (CalledIn spelled alike nodes) ns φ → φ 0 ≡ v → Embedding (plain_nodes ns) (ChildIn nodes) (MeetsIn (Meets same (plain_nodes ns) labels) nodes) v φ
  embeds inside l r = record { root = r; tests = tests; edges = edge_at }
    where
      node_at : (k : ℕ) → k < length (plain_nodes ns) → (n : ParsedNode) × (slice_get ns k ≡ Some n)
      node_at k h = some_at ns k (omega (arith, length-map ns plain))

      edge_at : (k : ℕ) → 0 < k → k < length (plain_nodes ns) → Across (ChildIn nodes) (edge_of (plain_nodes ns) k) (φ (parent_of (plain_nodes ns) k)) (φ k)
      edge_at k pos h =
          let n = node_at k h in
          subst (λ (z : RuleNode). Across (ChildIn nodes) z.edge (φ z.parent) (φ k)) (sym (rule_at ns k n.0 n.1)) (l.edges k n.0 n.1 pos)

      image : (k : ℕ) → k < length (plain_nodes ns) → (p : Option ℕ) × (a : L) × (slice_get nodes (φ k) ≡ Some (p, a))
      image zero h = let s = some_at nodes v inside in (s.0.0, s.0.1, ap (slice_get nodes) r ∙ s.1)
      image (suc k) h = node_across nodes _ _ _ (edge_at (suc k) (omega arith) h)

      tests : (k : ℕ) → k < length (plain_nodes ns) → MeetsIn (Meets same (plain_nodes ns) labels) nodes k (φ k)
      tests k h =
          let n = node_at k h in
          let i = image k h in
          ⊎_elim
          (λ (e : n.0.test.kind ≡ Star). (i.0, i.1, i.2, inl (ap (λ (z : RuleNode). z.any) (rule_at ns k n.0 n.1) ∙ ap is_star e)))
          (λ w. let y = label_of names k n.0 n.1 w.0 in
          (w.1.0, w.1.1, w.1.2, inr (y.0, y.1, tied w.1.1 y.0 ∙ ap (alike (spelled w.1.1)) y.2 ∙ w.1.3)))
          (l.meets k n.0 n.1)

text_selects : {L : Type 0} (same : L → L → Bool) (spelled : L → List ℕ) (alike : List ℕ → List ℕ → Bool) (tied : (a b : L) → same a b ≡ alike (spelled a) (spelled b))
    (bs : List ℕ) (ts : List Token) (ns : List ParsedNode) (d : Text ts ns) (before labels : List L) → NamesIn spelled bs ns before labels
    → (nodes : Nodes L) → ParentsFirst nodes → (v : ℕ) → v < length nodes
    → Selected (ParentIn nodes) (CalledIn spelled alike nodes) (expression bs d) v ↔ OccursIn same (plain_nodes ns) labels nodes v
text_selects same spelled alike tied bs ts ns d before labels names nodes parents v within = (
  (λ s.
      let r = selected_maps bs (ParentIn nodes) (CalledIn spelled alike nodes) d v s in
      (r.0, embeds same spelled alike tied bs ns before labels names nodes r.0 v within r.2 r.1)),
  λ o.
      let φ : ℕ → ℕ = o.0 in
      let root : φ 0 ≡ v = o.1.root in
      let deep : Below (ChildOf (ParentIn nodes) (CalledIn spelled alike nodes)) None (Some v) = anchored (CalledIn spelled alike nodes) nodes parents (suc v) v (omega arith) within in
      subst (Selected (ParentIn nodes) (CalledIn spelled alike nodes) (expression bs d)) root
      (mapping_selected bs (ParentIn nodes) (CalledIn spelled alike nodes) ns φ
      (meets same spelled alike tied bs ns before labels names nodes φ v o.1)
      (edges same spelled alike tied bs ns before labels names nodes φ v o.1)
      d (subst (λ z. Below (ChildOf (ParentIn nodes) (CalledIn spelled alike nodes)) None (Some z)) (sym root) deep)),
)

-- whichever way the text is derived
selects_alike : {L : Type 0} (same : L → L → Bool) (spelled : L → List ℕ) (alike : List ℕ → List ℕ → Bool) → ((a b : L) → same a b ≡ alike (spelled a) (spelled b)) → (bs : List ℕ) (ts : List Token) (ns : List ParsedNode)
    → Lexes 0 bs ts → Text ts ns → (before labels : List L) → NamesIn spelled bs ns before labels → SelectsAlike same spelled alike bs (plain_nodes ns) labels
selects_alike {L} same spelled alike tied bs ts ns l d before labels names p (stands_for {ts = us} {ns = ms} k e) nodes parents v within =
    let q : us ≡ ts = unique k ∙ sym (unique l) in
    let r : to (ended ms) ≡ to (ended ns) = sym (complete e) ∙ ap (λ (x : List Token). moves x (to start)) q ∙ complete d in
    let s : ms ≡ ns = cc in
    subst (λ (x : List ParsedNode). Selected (ParentIn nodes) (CalledIn spelled alike nodes) (expression bs e) v ↔ OccursIn same (plain_nodes x) labels nodes v) s
    (text_selects same spelled alike tied bs us ms e before labels (subst (λ (x : List ParsedNode). NamesIn spelled bs x before labels) (sym s) names) nodes parents v within)

-- a rule text with the rule nodes that it gives, and their names in a list of labels
pub text_selects_alike : (L : Type 0) (same : L → L → Bool) (spelled : L → List ℕ) (alike : List ℕ → List ℕ → Bool) → ((a b : L) → same a b ≡ alike (spelled a) (spelled b))
    → (bs : List ℕ) (ns : List ParsedNode) (before labels : List L) → TextGives bs ns → NamesIn spelled bs ns before labels
    → ((p : LocationPath) × TextStandsFor bs p) × SelectsAlike same spelled alike bs (plain_nodes ns) labels
text_selects_alike L same spelled alike tied bs ns before labels (gives {ts = ts} f l a) names =
    ((expression bs a.formed, stands_for l a.formed), selects_alike same spelled alike tied bs ts ns l a.formed before labels names)

pub plain_readings : {L : Type 0} (spelled : L → List ℕ) (alike : List ℕ → List ℕ → Bool) → PlainReadings spelled alike
plain_readings spelled alike = record {
  lower = λ nodes t ps u v. (
    (λ h.
        let C : Context → Context → Type 0 = ChildOf (ParentIn nodes) (CalledIn spelled alike nodes) in
        let s : (Some u ≡ h.2.0) ⊎ Below C (Some u) h.2.0 = subst (λ (a : Context). (a ≡ h.2.0) ⊎ Below C a h.2.0) (sym h.1.0) h.2.1.0 in
        (inner_below [] (ParentIn nodes) (CalledIn spelled alike nodes) (below_from s h.2.2.0) u v refl refl, (h.2.2.1, h.2.2.2))),
    λ k.
        let r = below_last (outer_below [] (ParentIn nodes) (CalledIn spelled alike nodes) k.0) in
        (Some u, (refl, tt, tt), (r.0, (r.1, tt, tt), (r.2, k.1.0, k.1.1))),
  );
  every = λ nodes parents t ps v l. (
    (λ h. (h.2.1, h.2.2)),
    λ k.
        let r = below_last (anchored (CalledIn spelled alike nodes) nodes parents (suc v) v (omega arith) l) in
        (r.0, (r.1, tt, tt), (r.2, k.0, k.1)),
  );
}
