-- A closed node stays as it is: the rule occurs at it in a state of the model, which was fed the first events of a source, just where it
-- occurs at it among all nodes of the source.
use Rattle.std.proofs.Common.{◌≡◌, ℕ, zero, suc, ◌-◌, ◌<◌, ◌≤◌, Bool, ◌↔◌, List, [], ◌∷◌, ◌++◌, length, Some, sym, ap, ◌∙◌, subst, ⊎_elim, arith}
use Rattle.std.specs.List.{slice_get}
use Rattle.std.proofs.lemmas.Bool.{cases_lt}
use Rattle.std.proofs.lemmas.Option.{slice_get_within}
use Rattle.rules.specs.declared.node.RuleNode.{RuleNode}
use Rattle.rules.specs.Rule.{Ordered}
use Rattle.rules.specs.Embedding.{Nodes, ChildIn, MeetsIn, Meets, OccursIn}
use Rattle.runs.specs.Picks.{In}
use Rattle.runs.specs.Model.{Model, KeptChild, MeetsAt, OccursKept}
use Rattle.runs.specs.Stands.{Chain}
use Rattle.runs.proofs.TreeLaws.{slice_get_before, path_up}
use Rattle.runs.proofs.FitLaws.{fits_moves}
use Rattle.runs.proofs.EmbedLaws.{fits_embeds, embeds_fits}
use Rattle.sources.specs.declared.event.Event.{Event}
use Rattle.sources.specs.Nodes.{nodes, nodes_from, open_after}
use Rattle.sources.proofs.NodeLaws.{nodes_after}
use Rattle.selection.proofs.ClosingOrder.{before_child}

slice_get_behind : {X : Type 0} (xs ys : List X) (i : ℕ) → length xs ≤ i → slice_get (xs ++ ys) i ≡ slice_get ys (i - length xs)
slice_get_behind [] ys i h = ap (λ (k : ℕ). slice_get ys k) (omega arith)
slice_get_behind (x ∷ xs) ys zero h = absurd (omega arith)
slice_get_behind (x ∷ xs) ys (suc i) h = slice_get_behind xs ys i (omega arith) ∙ ap (λ (k : ℕ). slice_get ys k) (omega arith)

module _ {L : Type 0} (same : L → L → Bool) (rule : List RuleNode) (labels : List L) (ordered : Ordered rule) (some : 0 < length rule)
    (m : Model L) (kept : m.dropped ≡ []) (before after : List (Event L)) (nodes_are : m.nodes ≡ nodes before)
    (path_is : m.path ≡ open_after before) (chain : Chain m m.path) where
  abbrev tests : L → ℕ → Type 0
  tests = Meets same rule labels

  abbrev all : Nodes L
  all = nodes (before ++ after)

  abbrev later : Nodes L
  later = nodes_from (length (nodes before)) (open_after before) after

  -- a node that is no longer open
  abbrev Settled : ℕ → Type 0
  Settled v = (v < length m.nodes) × (In v m.path → ⊥)

  all_is : all ≡ m.nodes ++ later
  all_is = nodes_after before after ∙ ap (λ (ns : Nodes L). ns ++ later) (sym nodes_are)

  same_node : (v : ℕ) → v < length m.nodes → slice_get all v ≡ slice_get m.nodes v
  same_node v h = ap (λ (ns : Nodes L). slice_get ns v) all_is ∙ slice_get_before m.nodes later v h

  down : (u v : ℕ) → Settled u → KeptChild m u v → Settled v × ChildIn all u v
  down u v s c =
      let h : v < length m.nodes = slice_get_within m.nodes v _ c.0.1 in
      ((h, λ i. s.1 (path_up m m.path chain v u c.0.0 i c.0.1)), (c.0.0, same_node v h ∙ c.0.1))

  up : (u v : ℕ) → Settled u → ChildIn all u v → Settled v × KeptChild m u v
  up u v s c = ⊎_elim
      (λ h.
      let n : In v m.dropped → ⊥ = let P : List ℕ → Type 0 = λ ds. In v ds → ⊥ in subst P (sym kept) (λ i. i) in
      let k : KeptChild m u v = ((c.0, sym (same_node v h) ∙ c.1), n) in ((down u v s k).0, k))
      (λ h.
      let e : slice_get later (v - length m.nodes) ≡ Some (Some u, c.0) =
      sym (ap (λ (ns : Nodes L). slice_get ns v) all_is ∙ slice_get_behind m.nodes later v h) ∙ c.1 in
      let few : length m.nodes ≡ length (nodes before) = ap length nodes_are in
      let P : List ℕ → Type 0 = λ vs. In u vs → ⊥ in
      ⊎_elim
      (λ i. absurd (subst P path_is s.1 i))
      (λ i. let a = i.0 in let z = s.0 in absurd (omega arith))
      (before_child (length (nodes before)) (open_after before) after (v - length m.nodes) u c.0 e))
      (cases_lt v (length m.nodes))

  tests_down : (x v : ℕ) → Settled v → MeetsAt tests m x v → MeetsIn tests all x v
  tests_down x v s h = (h.0, h.1, same_node v s.0 ∙ h.2, h.3)

  tests_up : (x v : ℕ) → Settled v → MeetsIn tests all x v → MeetsAt tests m x v
  tests_up x v s h = (h.0, h.1, sym (same_node v s.0) ∙ h.2, h.3)

  pub occurs_whole : (v : ℕ) → v < length m.nodes → (In v m.path → ⊥) → OccursKept rule tests m v ↔ OccursIn same rule labels (nodes (before ++ after)) v
  occurs_whole v h n = (
    λ o. fits_embeds rule ordered some (ChildIn all) (MeetsIn tests all) v
        (fits_moves rule (KeptChild m) (ChildIn all) (MeetsAt tests m) (MeetsIn tests all) Settled down tests_down (h, n)
        (embeds_fits rule ordered some (KeptChild m) (MeetsAt tests m) v o.0 o.1)),
    λ o. fits_embeds rule ordered some (KeptChild m) (MeetsAt tests m) v
        (fits_moves rule (ChildIn all) (KeptChild m) (MeetsIn tests all) (MeetsAt tests m) Settled up tests_up (h, n)
        (embeds_fits rule ordered some (ChildIn all) (MeetsIn tests all) v o.0 o.1)),
  )
