-- Listings whose nodes pair off have the same reports.
use Rattle.std.proofs.Common.{◌≡◌, ℕ, zero, suc, ◌<◌, ◌≤◌, Bool, true, ◌↔◌, List, [], ◌∷◌, length, take, drop, Some, None, Option, sym, refl, ap, ◌∙◌, subst, inl, inr, ⊎_elim, arith}
use Rattle.std.specs.List.{slice_get}
use Rattle.std.specs.Cmp.{IsEquivalence}
use Rattle.std.proofs.Math.Seq.{take-append_seam}
use Rattle.std.proofs.lemmas.Option.{slice_get_within}
use Rattle.rules.specs.declared.node.Edge.{Edge}
use Rattle.rules.specs.declared.node.Edge.TheVariants as edge
use Rattle.rules.specs.declared.node.RuleNode.{RuleNode}
use Rattle.rules.specs.Rule.{parent_of, edge_of}
use Rattle.rules.specs.Embedding.{Below, Across, Occurs, Nodes, ChildIn, Meets, MeetsIn, OccursIn, ParentsFirst}
use Rattle.runs.specs.Picks.{In, Once}
use Rattle.runs.specs.Journal.{Filled}
use Rattle.sources.specs.declared.event.Event.{Event}
use Rattle.sources.specs.Nodes.{nodes}
use Rattle.selection.specs.Answers.{Answer, done}
use Rattle.selection.specs.Selection.{Selects, Selection}
use Rattle.selection.specs.Pairing.{partner, Pairing, SameReport, PairedAlike}
use Rattle.selection.proofs.ClosingOrder.{parents_first}

node_at : {X : Type 0} (xs : List X) (k : ℕ) → k < length xs → (x : X) × (slice_get xs k ≡ Some x)
node_at [] k l = absurd (omega arith)
node_at (x ∷ xs) zero l = (x, refl)
node_at (x ∷ xs) (suc k) l = node_at xs k (omega arith)

-- a rule that occurs at v occurs at f v, where f keeps children and met tests
module _ (rule : List RuleNode) (C C' M M' : ℕ → ℕ → Type 0) (f : ℕ → ℕ)
    (children : (u v : ℕ) → C u v → C' (f u) (f v)) (tests : (x v : ℕ) → M x v → M' x (f v)) where
  below_along : {u v : ℕ} → Below C u v → Below C' (f u) (f v)
  below_along (Below.direct {u = u} {v = v} c) = Below.direct (children u v c)
  below_along (Below.deeper {u = u} {w = w} c b) = Below.deeper (children u w c) (below_along b)

  across_along : (e : Edge) (u v : ℕ) → Across C e u v → Across C' e (f u) (f v)
  across_along edge.Child u v a = children u v a
  across_along edge.Descendant u v a = below_along a

  occurs_along : (v : ℕ) → Occurs rule C M v → Occurs rule C' M' (f v)
  occurs_along v o = (
    λ x. f (o.0 x),
    record {
      root = ap f o.1.root;
      tests = λ x l. tests x (o.0 x) (o.1.tests x l);
      edges = λ x a l. across_along (edge_of rule x) (o.0 (parent_of rule x)) (o.0 x) (o.1.edges x a l);
    },
  )

module _ {L : Type 0} (same : L → L → Bool) (equality : IsEquivalence same) where
  -- equal labels meet the same tests
  meets_same : (rule : List RuleNode) (labels : List L) (l m : L) (x : ℕ) → same l m ≡ true
      → Meets same rule labels l x → Meets same rule labels m x
  meets_same rule labels l m x e h = ⊎_elim
      inl
      (λ (k : (w : L) × (slice_get labels x ≡ Some w) × (same l w ≡ true)). inr (k.0, k.1, sym (equality.congr l m k.0 e) ∙ k.2))
      h

  module _ (nodes₁ nodes₂ : Nodes L) (f g : ℕ → ℕ) (pairs : Pairing same nodes₁ nodes₂ f g) where
    occurs_there : (rule : List RuleNode) (labels : List L) (v : ℕ)
        → OccursIn same rule labels nodes₁ v → OccursIn same rule labels nodes₂ (f v)
    occurs_there rule labels = occurs_along rule (ChildIn nodes₁) (ChildIn nodes₂)
        (MeetsIn (Meets same rule labels) nodes₁) (MeetsIn (Meets same rule labels) nodes₂) f
        (λ u v c. let k = pairs.kept v (Some u) c.0 c.1 in (k.0, k.1))
        (λ x v m. let k = pairs.kept v m.0 m.1 m.2 in (partner f m.0, k.0, k.1, meets_same rule labels m.1 k.0 x k.2 m.3))

    -- the parent of a partner
    turned_parent : (p q : Option ℕ) → ((u : ℕ) → p ≡ Some u → g (f u) ≡ u) → partner f p ≡ q → p ≡ partner g q
    turned_parent None q h e = subst (λ (z : Option ℕ). None ≡ partner g z) e refl
    turned_parent (Some u) q h e =
        subst (λ (z : Option ℕ). Some u ≡ partner g z) e (ap (λ (k : ℕ). Some k) (sym (h u refl)))

    turned_kept : ParentsFirst nodes₁ → (w : ℕ) (p : Option ℕ) (l : L) → slice_get nodes₂ w ≡ Some (p, l)
        → (m : L) × (slice_get nodes₁ (g w) ≡ Some (partner g p, m)) × (same l m ≡ true)
    turned_kept first w p l e =
        let lt : w < length nodes₂ = slice_get_within nodes₂ w (p, l) e in
        let b : g w < length nodes₁ = pairs.back w lt in
        let s = node_at nodes₁ (g w) b in
        let q : Option ℕ = s.0.0 in
        let m : L = s.0.1 in
        let t = pairs.kept (g w) q m s.1 in
        let one : ◌≡◌ {A = Option (Option ℕ × L)} (Some (partner f q, t.0)) (Some (p, l)) =
        sym t.1 ∙ ap (slice_get nodes₂) (pairs.back_there w lt) ∙ e in
        let pair : ◌≡◌ {A = Option ℕ × L} (partner f q, t.0) (p, l) = cc in
        let known : (u : ℕ) → q ≡ Some u → g (f u) ≡ u = λ u r.
        let k : u < g w = first (g w) u m (s.1 ∙ ap (λ (z : Option ℕ). Some (z, m)) r) in pairs.there_back u (omega arith) in
        let parent : q ≡ partner g p = turned_parent q p known (ap (λ (z : Option ℕ × L). z.0) pair) in (
          m,
          s.1 ∙ ap (λ (z : Option ℕ). Some (z, m)) parent,
          equality.symm l m ∙ subst (λ (z : L). same m z ≡ true) (ap (λ (z : Option ℕ × L). z.1) pair) t.2,
        )

    -- the pairing the other way round
    turned : ParentsFirst nodes₁ → Pairing same nodes₂ nodes₁ g f
    turned first = record {
      there = pairs.back;
      back = pairs.there;
      there_back = pairs.back_there;
      back_there = pairs.there_back;
      kept = turned_kept first;
    }

-- the list without one of its numbers
taken_out : (y : ℕ) (ys : List ℕ) → In y ys
    → (zs : List ℕ) × (length ys ≡ suc (length zs)) × ((z : ℕ) → In z ys → (z ≡ y → ⊥) → In z zs)
taken_out y [] i = absurd i
taken_out y (x ∷ xs) (inl e) = (xs, refl, λ z m n. ⊎_elim (λ (q : z ≡ x). absurd (n (q ∙ sym e))) (λ (t : In z xs). t) m)
taken_out y (x ∷ xs) (inr m) =
    let r = taken_out y xs m in
    (x ∷ r.0, ap suc r.1, λ z h n. ⊎_elim (λ (q : z ≡ x). inl q) (λ (t : In z xs). inr (r.2 z t n)) h)

-- numbers that go one to one into a list are no more than it has
pub fewer : (f : ℕ → ℕ) (xs ys : List ℕ) → Once xs → ((a b : ℕ) → In a xs → In b xs → f a ≡ f b → a ≡ b)
    → ((a : ℕ) → In a xs → In (f a) ys) → length xs ≤ length ys
fewer f [] ys o inj into = omega arith
fewer f (x ∷ xs) ys o inj into =
    let r = taken_out (f x) ys (into x (inl refl)) in
    let apart : (a : ℕ) → In a xs → f a ≡ f x → ⊥ = λ a m e. o.0 (subst (λ (z : ℕ). In z xs) (inj a x (inr m) (inl refl) e) m) in
    let h : length xs ≤ length r.0 = fewer f xs r.0 o.1 (λ a b m n. inj a b (inr m) (inr n))
    (λ a m. r.2 (f a) (into a (inr m)) (apart a m)) in
    omega arith

-- the list has the numbers below count that have P, each once
record Exact (count : ℕ) (P : ℕ → Type 0) (reported : List ℕ) : Type 0 where
  pub single : Once reported
  pub exactly : (v : ℕ) → In v reported ↔ ((v < count) × P v)

module _ (n m : ℕ) (P Q : ℕ → Type 0) (f g : ℕ → ℕ) (into : (v : ℕ) → v < n → f v < m)
    (inverse : (v : ℕ) → v < n → g (f v) ≡ v) (both : (v : ℕ) → P v → Q (f v)) (vs ws : List ℕ) (first : Exact n P vs) (second : Exact m Q ws) where
  reported_there : (v : ℕ) → In v vs → In (f v) ws
  reported_there v i = let r = (first.exactly v).0 i in (second.exactly (f v)).1 (into v r.0, both v r.1)

  reported_fewer : length vs ≤ length ws
  reported_fewer = fewer f vs ws first.single
      (λ a b i j e. sym (inverse a ((first.exactly a).0 i).0) ∙ ap g e ∙ inverse b ((first.exactly b).0 j).0)
      reported_there

module _ {L : Type 0} (same : L → L → Bool) (equality : IsEquivalence same) (rule : List RuleNode) (labels : List L) where
  same_report : (nodes₁ nodes₂ : Nodes L) (f g : ℕ → ℕ) → ParentsFirst nodes₁ → Pairing same nodes₁ nodes₂ f g
      → (vs ws : List ℕ) → Exact (length nodes₁) (OccursIn same rule labels nodes₁) vs
      → Exact (length nodes₂) (OccursIn same rule labels nodes₂) ws
      → SameReport f (length nodes₁) vs ws
  same_report nodes₁ nodes₂ f g parents pairs vs ws e₁ e₂ =
      let P : ℕ → Type 0 = OccursIn same rule labels nodes₁ in
      let Q : ℕ → Type 0 = OccursIn same rule labels nodes₂ in
      let t = turned same equality nodes₁ nodes₂ f g pairs parents in
      let go : (v : ℕ) → P v → Q (f v) = occurs_there same equality nodes₁ nodes₂ f g pairs rule labels in
      let come : (w : ℕ) → Q w → P (g w) = occurs_there same equality nodes₂ nodes₁ g f t rule labels in
      let n : ℕ = length nodes₁ in
      let m : ℕ = length nodes₂ in
      let le : length vs ≤ length ws = reported_fewer n m P Q f g pairs.there pairs.there_back go vs ws e₁ e₂ in
      let ge : length ws ≤ length vs = reported_fewer m n Q P g f pairs.back pairs.back_there come ws vs e₂ e₁ in
      record {
        each = λ v h. (
          reported_there n m P Q f g pairs.there pairs.there_back go vs ws e₁ e₂ v,
          λ i. subst (λ (z : ℕ). In z vs) (pairs.there_back v h)
              (reported_there m n Q P g f pairs.back pairs.back_there come ws vs e₂ e₁ (f v) i),
        );
        as_many = omega arith;
      }

  -- what a selection whose source is done reports
  record Completed (es : List (Event L)) (n : ℕ) (numbers : List ℕ) : Type 0 where
    pub counted : n ≡ length numbers
    pub exact : Exact (length (nodes es)) (OccursIn same rule labels (nodes es)) numbers

  completed : {F : Type 0} (room : ℕ) (es : List (Event L)) (end : Option F) {a : Answer F} {numbers : List ℕ} {left : List (Event L)}
      → Selects same rule labels room es end a numbers left → (n : ℕ) → a ≡ done n → Completed es n numbers
  completed room es end (Selects.whole numbers e r all) n h =
      record { counted = let z : n ≡ length numbers = cc in z; exact = record { single = r.once; exactly = all } }
  completed room es end (Selects.fault f numbers e r) n h = let z : ◌≡◌ {A = ℕ} 0 1 = cc in absurd (omega arith)
  completed room es end (Selects.refusal before after e k numbers s r b) n h = let z : ◌≡◌ {A = ℕ} 0 1 = cc in absurd (omega arith)

  front : (was numbers is : List ℕ) (n : ℕ) → Filled was numbers is → n ≡ length numbers → take n is ≡ numbers
  front was numbers is n e h =
      let P : ℕ → Type 0 = λ k. take k is ≡ numbers in
      subst P (sym h) (ap (take (length numbers)) e.list ∙ take-append_seam numbers (drop (length numbers) was))

  -- two selections from sources whose nodes pair off
  pub paired_alike : {F G : Type 0} (es₁ es₂ : List (Event L)) (end₁ : Option F) (end₂ : Option G) (was₁ is₁ was₂ is₂ : List ℕ)
      (left₁ left₂ : List (Event L)) (a₁ : Answer F) (a₂ : Answer G)
      → Selection same rule labels es₁ end₁ was₁ a₁ is₁ left₁
      → Selection same rule labels es₂ end₂ was₂ a₂ is₂ left₂
      → PairedAlike same es₁ es₂ a₁ a₂ is₁ is₂
  paired_alike es₁ es₂ end₁ end₂ was₁ is₁ was₂ is₂ left₁ left₂ a₁ a₂ s₁ s₂ f g pairs n m e₁ e₂ =
      let c₁ = completed (length was₁) es₁ end₁ s₁.selects n e₁ in
      let c₂ = completed (length was₂) es₂ end₂ s₂.selects m e₂ in
      let P : List ℕ → Type 0 = λ vs. SameReport f (length (nodes es₁)) vs (take m is₂) in
      let Q : List ℕ → Type 0 = λ ws. SameReport f (length (nodes es₁)) s₁.reported ws in
      let r = same_report (nodes es₁) (nodes es₂) f g (parents_first es₁) pairs s₁.reported s₂.reported c₁.exact c₂.exact in (
        omega (arith, c₁.counted, c₂.counted, r.as_many),
        subst P (sym (front was₁ s₁.reported is₁ n s₁.filled c₁.counted)) (subst Q (sym (front was₂ s₂.reported is₂ m s₂.filled c₂.counted)) r),
      )

  -- the numbers of a selection that finished are those of nodes
  pub reported_within : {F : Type 0} (es : List (Event L)) (end : Option F) (was is : List ℕ) (left : List (Event L)) (a : Answer F)
      → Selection same rule labels es end was a is left → (n : ℕ) → a ≡ done n → (v : ℕ) → In v (take n is) → v < length (nodes es)
  reported_within es end was is left a s n e v i =
      let c = completed (length was) es end s.selects n e in
      ((c.exact.exactly v).0 (subst (λ vs. In v vs) (front was s.reported is n s.filled c.counted) i)).0

  -- and each stands once
  pub reported_once : {F : Type 0} (es : List (Event L)) (end : Option F) (was is : List ℕ) (left : List (Event L)) (a : Answer F)
      → Selection same rule labels es end was a is left → (n : ℕ) → a ≡ done n → Once (take n is)
  reported_once es end was is left a s n e =
      let c = completed (length was) es end s.selects n e in
      subst (λ vs. Once vs) (sym (front was s.reported is n s.filled c.counted)) c.exact.single
