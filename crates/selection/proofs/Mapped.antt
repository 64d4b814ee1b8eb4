-- The same selection with other labels: where the new labels meet the tests of the rule that the old ones met, nothing else changes.
use Rattle.std.proofs.Common.{◌≡◌, ℕ, suc, ◌<◌, Bool, ◌↔◌, List, [], ◌∷◌, length, map, Some, None, Option, sym, refl, ap, ◌∙◌, subst, arith}
use Rattle.std.specs.List.{slice_get}
use Rattle.std.specs.Option.{option_map}
use Rattle.std.proofs.lemmas.List.{map-append, length-map}
use Rattle.std.proofs.lemmas.Option.{slice_get-map}
use Rattle.rules.specs.declared.node.RuleNode.{RuleNode}
use Rattle.rules.specs.Embedding.{Nodes, ChildIn, Meets, MeetsIn, OccursIn}
use Rattle.runs.specs.Limits.{depth_limit}
use Rattle.runs.specs.Picks.{In, Picks}
use Rattle.runs.proofs.PickLaws.{picks_like}
use Rattle.runs.proofs.CarriedLaws.{occurs_like}
use Rattle.sources.specs.declared.event.Event.{Event}
use Rattle.sources.specs.declared.event.Event.TheVariants.{Open, Close}
use Rattle.sources.specs.Nodes.{innermost, outer, nodes_from, closing_order_from, path_from, nodes}
use Rattle.selection.specs.Answers.{Answer, faulted, refused}
use Rattle.selection.specs.Selection.{Accepts, OccursAt, Reported, Refuses, Selects, Selection}
use Rattle.selection.proofs.OneAnswer.{one_answer}

-- a node with its label changed
abbrev pub relabelled : {L M : Type 0} → (L → M) → Option ℕ × L → Option ℕ × M
relabelled h n = (n.0, h n.1)

-- an entry of the changed nodes is a changed entry
entry_from : {L M : Type 0} (h : L → M) (o : Option (Option ℕ × L)) (p : Option ℕ) (m : M) → option_map (relabelled h) o ≡ Some (p, m)
    → (l : L) × (o ≡ Some (p, l)) × (h l ≡ m)
entry_from h None p m e = let z : ◌≡◌ {A = ℕ} 0 1 = cc in absurd (omega arith)
entry_from {L} {M} h (Some n) p m e =
    let q : ◌≡◌ {A = Option ℕ × M} (relabelled h n) (p, m) = cc in
    (n.1, ap (λ (k : Option ℕ). Some (k, n.1)) (ap (λ (k : Option ℕ × M). k.0) q), ap (λ (k : Option ℕ × M). k.1) q)

module _ {L M : Type 0} (h : L → M) (ns : Nodes L) where
  pub there : (v : ℕ) (p : Option ℕ) (l : L) → slice_get ns v ≡ Some (p, l) → slice_get (map (relabelled h) ns) v ≡ Some (p, h l)
  there v p l e = slice_get-map (relabelled h) ns v ∙ ap (option_map (relabelled h)) e

  pub back : (v : ℕ) (p : Option ℕ) (m : M) → slice_get (map (relabelled h) ns) v ≡ Some (p, m)
      → (l : L) × (slice_get ns v ≡ Some (p, l)) × (h l ≡ m)
  back v p m e = entry_from h (slice_get ns v) p m (sym (slice_get-map (relabelled h) ns v) ∙ e)

  module _ (same : L → L → Bool) (alike : M → M → Bool) (rule : List RuleNode) (labels : List L) (texts : List M)
      (tests : (l : L) (x : ℕ) → x < length rule → Meets same rule labels l x ↔ Meets alike rule texts (h l) x) where
    occurs_there : (v : ℕ) → OccursIn same rule labels ns v → OccursIn alike rule texts (map (relabelled h) ns) v
    occurs_there = occurs_like rule (ChildIn ns) (ChildIn (map (relabelled h) ns))
        (MeetsIn (Meets same rule labels) ns) (MeetsIn (Meets alike rule texts) (map (relabelled h) ns))
        (λ u v c. (h c.0, there v (Some u) c.0 c.1))
        (λ x v less k. (k.0, h k.1, there v k.0 k.1 k.2, (tests k.1 x less).0 k.3))

    occurs_back : (v : ℕ) → OccursIn alike rule texts (map (relabelled h) ns) v → OccursIn same rule labels ns v
    occurs_back = occurs_like rule (ChildIn (map (relabelled h) ns)) (ChildIn ns)
        (MeetsIn (Meets alike rule texts) (map (relabelled h) ns)) (MeetsIn (Meets same rule labels) ns)
        (λ u v c. let r = back v (Some u) c.0 c.1 in (r.0, r.1))
        (λ x v less k.
        let r = back v k.0 k.1 k.2 in
        let P : M → Type 0 = λ m. Meets alike rule texts m x in
        (k.0, r.0, r.1, (tests r.0 x less).1 (subst P (sym r.2) k.3)))

module _ {L M : Type 0} (h : L → M) (ev : Event L → Event M) (opens : (l : L) → ev (Open l) ≡ Open (h l)) (closes : ev Close ≡ Close) where
  pub nodes_from_map : (n : ℕ) (p : List ℕ) (es : List (Event L)) → nodes_from n p (map ev es) ≡ map (relabelled h) (nodes_from n p es)
  nodes_from_map n p [] = refl
  nodes_from_map n p (Open l ∷ es) =
      ap (λ (e : Event M). nodes_from n p (e ∷ map ev es)) (opens l)
      ∙ ap (λ (ns : Nodes M). (innermost p, h l) ∷ ns) (nodes_from_map (suc n) (n ∷ p) es)
  nodes_from_map n p (Close ∷ es) = ap (λ (e : Event M). nodes_from n p (e ∷ map ev es)) closes ∙ nodes_from_map n (outer p) es

  order_from_map : (n : ℕ) (p : List ℕ) (es : List (Event L)) → closing_order_from n p (map ev es) ≡ closing_order_from n p es
  order_from_map n p [] = refl
  order_from_map n p (Open l ∷ es) = ap (λ (e : Event M). closing_order_from n p (e ∷ map ev es)) (opens l) ∙ order_from_map (suc n) (n ∷ p) es
  order_from_map n [] (Close ∷ es) = ap (λ (e : Event M). closing_order_from n [] (e ∷ map ev es)) closes ∙ order_from_map n [] es
  order_from_map n (v ∷ p) (Close ∷ es) =
      ap (λ (e : Event M). closing_order_from n (v ∷ p) (e ∷ map ev es)) closes ∙ ap (λ (vs : List ℕ). v ∷ vs) (order_from_map n p es)

  path_from_map : (n : ℕ) (p : List ℕ) (es : List (Event L)) → path_from n p (map ev es) ≡ path_from n p es
  path_from_map n p [] = refl
  path_from_map n p (Open l ∷ es) = ap (λ (e : Event M). path_from n p (e ∷ map ev es)) (opens l) ∙ path_from_map (suc n) (n ∷ p) es
  path_from_map n p (Close ∷ es) = ap (λ (e : Event M). path_from n p (e ∷ map ev es)) closes ∙ path_from_map n (outer p) es

  accepts_map : (n : ℕ) (p : List ℕ) (es : List (Event L)) → Accepts n p es → Accepts n p (map ev es)
  accepts_map n p [] a = a
  accepts_map n p (Open l ∷ es) a =
      let P : Event M → Type 0 = λ e. Accepts n p (e ∷ map ev es) in
      subst P (sym (opens l)) (a.0, a.1, accepts_map (suc n) (n ∷ p) es a.2)
  accepts_map n [] (Close ∷ es) a = absurd a
  accepts_map n (v ∷ p) (Close ∷ es) a =
      let P : Event M → Type 0 = λ e. Accepts n (v ∷ p) (e ∷ map ev es) in subst P (sym closes) (accepts_map n p es a)

  count_map : (es : List (Event L)) → length (nodes (map ev es)) ≡ length (nodes es)
  count_map es = ap length (nodes_from_map 0 [] es) ∙ length-map (nodes es) (relabelled h)

  module _ (same : L → L → Bool) (alike : M → M → Bool) (rule : List RuleNode) (labels : List L) (texts : List M)
      (tests : (l : L) (x : ℕ) → x < length rule → Meets same rule labels l x ↔ Meets alike rule texts (h l) x)
      (room : ℕ) (es : List (Event L)) where
    occurs_map : (v : ℕ) → OccursAt same rule labels room es v ↔ OccursAt alike rule texts room (map ev es) v
    occurs_map v =
        let P : Nodes M → Type 0 = λ ns. OccursIn same rule labels (nodes es) v ↔ OccursIn alike rule texts ns v in
        subst P (sym (nodes_from_map 0 [] es)) (
          occurs_there h (nodes es) same alike rule labels texts tests v,
          occurs_back h (nodes es) same alike rule labels texts tests v,
        )

    reported_map : (before : List (Event L)) (numbers : List ℕ) → Reported same rule labels room es before numbers
        → Reported alike rule texts room (map ev es) (map ev before) numbers
    reported_map before numbers r =
        let P : ℕ → Type 0 = OccursAt same rule labels room es in
        let Q : ℕ → Type 0 = OccursAt alike rule texts room (map ev es) in
        let S : List ℕ → Type 0 = λ vs. Picks Q vs numbers in
        record {
          accepted = accepts_map 0 [] before r.accepted;
          picked = subst S (sym (order_from_map 0 [] before)) (picks_like P Q r.picked (λ v i. occurs_map v));
          once = r.once;
          fits = r.fits;
        }

    refuses_map : (before : List (Event L)) (numbers : List ℕ) (e : Event L) (k : ℕ) → Refuses same rule labels room es before numbers e k
        → Refuses alike rule texts room (map ev es) (map ev before) numbers (ev e) k
    refuses_map before numbers e k (Refuses.nothing_open q) =
        let P : Event M → Type 0 = λ c. Refuses alike rule texts room (map ev es) (map ev before) numbers c 20 in
        subst P (sym closes) (Refuses.nothing_open (path_from_map 0 [] before ∙ q))
    refuses_map before numbers e k (Refuses.too_deep l q) =
        let P : Event M → Type 0 = λ c. Refuses alike rule texts room (map ev es) (map ev before) numbers c 22 in
        subst P (sym (opens l)) (Refuses.too_deep (h l) (ap length (path_from_map 0 [] before) ∙ q))
    refuses_map before numbers e k (Refuses.too_many l d q) =
        let P : Event M → Type 0 = λ c. Refuses alike rule texts room (map ev es) (map ev before) numbers c 23 in
        let D : List ℕ → Type 0 = λ p. length p < depth_limit in
        subst P (sym (opens l)) (Refuses.too_many (h l) (subst D (sym (path_from_map 0 [] before)) d) (count_map before ∙ q))
    refuses_map before numbers e k (Refuses.list_full v vs q o f) =
        let P : Event M → Type 0 = λ c. Refuses alike rule texts room (map ev es) (map ev before) numbers c 24 in
        subst P (sym closes) (Refuses.list_full v vs (path_from_map 0 [] before ∙ q) ((occurs_map v).0 o) f)

    selects_map : {F : Type 0} (end : Option F) {a : Answer F} {numbers : List ℕ} {left : List (Event L)}
        → Selects same rule labels room es end a numbers left → Selects alike rule texts room (map ev es) end a numbers (map ev left)
    selects_map end (Selects.whole numbers q r all) =
        Selects.whole numbers q (reported_map es numbers r) (λ v.
        let P : ℕ → Type 0 = λ n. In v numbers ↔ ((v < n) × OccursAt alike rule texts room (map ev es) v) in
        subst P (sym (count_map es)) (
          λ i. let k = (all v).0 i in (k.0, (occurs_map v).0 k.1),
          λ k. (all v).1 (k.0, (occurs_map v).1 k.1),
        ))
    selects_map end (Selects.fault f numbers q r) =
        let P : ℕ → Type 0 = λ n. Selects alike rule texts room (map ev es) end (faulted f n (length numbers)) numbers [] in
        subst P (count_map es) (Selects.fault f numbers q (reported_map es numbers r))
    selects_map end (Selects.refusal before after e k numbers q r s) =
        let P : ℕ → Type 0 = λ n. Selects alike rule texts room (map ev es) end (refused k n (length numbers)) numbers (map ev after) in
        subst P (count_map before)
        (Selects.refusal (map ev before) (map ev after) (ev e) k numbers (ap (map ev) q ∙ map-append ev before (e ∷ after))
        (reported_map before numbers r) (refuses_map before numbers e k s))

-- the same answer, the same numbers reported, and the same events left, with their labels changed
pub selection_mapped : {L M : Type 0} (same : L → L → Bool) (alike : M → M → Bool) (rule : List RuleNode) (labels : List L) (texts : List M)
    (h : L → M) (ev : Event L → Event M) → ((l : L) → ev (Open l) ≡ Open (h l)) → ev Close ≡ Close
    → ((l : L) (x : ℕ) → x < length rule → Meets same rule labels l x ↔ Meets alike rule texts (h l) x)
    → {F : Type 0} (es : List (Event L)) (end : Option F) (before : List ℕ) (a : Answer F) (after : List ℕ) (left : List (Event L))
    → Selection same rule labels es end before a after left
    → Selection alike rule texts (map ev es) end before a after (map ev left)
selection_mapped same alike rule labels texts h ev opens closes tests es end before a after left s =
    let t = selects_map h ev opens closes same alike rule labels texts tests (length before) es end s.selects in
    record {
      reported = s.reported;
      selects = t;
      only = λ b vs ds u. one_answer alike rule texts (length before) (map ev es) end t u;
      filled = s.filled;
    }
