-- The numbers that are reported are those of nodes, each with a path, and with room for them no selection is refused.
use Rattle.std.proofs.Common.{Err, None, Option, ◌≡◌, ℕ, zero, suc, ◌<◌, ◌≤◌, Bool, List, [], ◌∷◌, ◌++◌, length, take, drop, Some, refl, ap, ◌∙◌, subst, arith, ◌+◌, length-drop}
use Rattle.std.specs.List.{slice_get}
use Rattle.std.specs.Str.{bytes_eq}
use Rattle.std.proofs.lemmas.List.{length-take}
use Rattle.std.proofs.Math.Seq.{take-append_seam}
use Rattle.labels.specs.declared.name.Name.{Name}
use Rattle.rules.specs.Embedding.{Nodes, OccursIn, ParentsFirst}
use Rattle.rules.specs.RuleNodes.{plain_nodes}
use Rattle.rules.specs.TestNames.{test_names}
use Rattle.rules.specs.declared.node.RuleNode.{RuleNode}
use Rattle.rules.specs.declared.syntax.ParsedNode.{ParsedNode}
use Rattle.runs.specs.Picks.{In}
use Rattle.sources.specs.declared.event.Event.{Event}
use Rattle.sources.specs.declared.event.Event.TheVariants.{Open, Close}
use Rattle.sources.specs.Nodes.{outer, nodes_from, nodes}
use Rattle.selection.specs.Answers.{Answer, done, faulted, refused}
use Rattle.selection.specs.Selection.{Reported, Selects}
use Rattle.selection.specs.declared.refusal.Refusal.{Refusal as SelectRefusal}
use Rattle.selection.proofs.ClosingOrder.{closed_is_node}
use Rattle.selection.proofs.Picked.{picked_in}
use Rattle.xml.specs.declared.fault.XmlFault.{XmlFault}
use Rattle.reports.specs.declared.refusal.Refusal.TheVariants as refusal
use Rattle.reports.specs.declared.report.Report.{Report}
use Rattle.reports.specs.Refusals.{input_limit, numbers_limit}
use Rattle.reports.specs.Reports.{Concludes, SelectedBy}
use Rattle.reports.proofs.Fitting.{listing_unrefused}
use Rattle.compare.specs.declared.side.Side.{Side}
use Rattle.compare.specs.declared.comparison.Comparison.{Comparison}
use Rattle.compare.specs.Paths.{entries, PathText, HasPath}
use Rattle.compare.specs.Compared.{spelled_entries, Compared, ReportsPaths, Unrefused}
use Rattle.compare.proofs.ComparedLaws.{ordered, count}
use Rattle.compare.proofs.Paired.{node_at}

-- more events have no fewer nodes
more_nodes : {L : Type 0} (n : ℕ) (p : List ℕ) (es fs : List (Event L)) → length (nodes_from n p es) ≤ length (nodes_from n p (es ++ fs))
more_nodes n p [] fs = omega arith
more_nodes n p (Open l ∷ es) fs = let h = more_nodes (suc n) (n ∷ p) es fs in omega arith
more_nodes n p (Close ∷ es) fs = more_nodes n (outer p) es fs

-- how many numbers an answer counts
abbrev count_of : {F : Type 0} → Answer F → ℕ
count_of (done n) = n
count_of (faulted f openings n) = n
count_of (refused k openings n) = n

-- as many as the report
counted : (n : ℕ) {a : Answer XmlFault} {report : Report} → Concludes n a report → report.reported ≡ count_of a
counted n (Concludes.finished c) = refl
counted n (Concludes.fault f o c) = refl
counted n (Concludes.refusal r k o c e) = refl

module _ {L : Type 0} (same : L → L → Bool) (rule : List RuleNode) (labels : List L) (room : ℕ) (es : List (Event L)) where
  -- what is reported of accepted events are their nodes
  nodes_of_accepted : (before : List (Event L)) (vs : List ℕ) → Reported same rule labels room es before vs → (v : ℕ) → In v vs → v < length (nodes before)
  nodes_of_accepted before vs r v i =
      closed_is_node before r.accepted v (picked_in (OccursIn same rule labels (nodes es)) r.picked v i).0

  as_counted : {F : Type 0} (end : Option F) {a : Answer F} {vs : List ℕ} {left : List (Event L)} → Selects same rule labels room es end a vs left → count_of a ≡ length vs
  as_counted end (Selects.whole vs d r all) = refl
  as_counted end (Selects.fault f vs d r) = refl
  as_counted end (Selects.refusal before after e k vs s r w) = refl

  nodes_reported : {F : Type 0} (end : Option F) {a : Answer F} {vs : List ℕ} {left : List (Event L)} → Selects same rule labels room es end a vs left
      → (v : ℕ) → In v vs → v < length (nodes es)
  nodes_reported end (Selects.whole vs d r all) v i = nodes_of_accepted es vs r v i
  nodes_reported end (Selects.fault f vs d r) v i = nodes_of_accepted es vs r v i
  nodes_reported end (Selects.refusal before after e k vs s r w) v i =
      let l = nodes_of_accepted before vs r v i in
      let m : length (nodes before) ≤ length (nodes (before ++ e ∷ after)) = more_nodes 0 [] before (e ∷ after) in
      omega (arith, ap (λ (xs : List (Event L)). length (nodes xs)) s)

-- parents are numbered below their children, so each node has a path
module _ (ns : Nodes Name) (first : ParentsFirst ns) where
  path_on : (n v : ℕ) → v < suc n → v < length ns → ((u : ℕ) → u < n → u < length ns → HasPath ns u)
      → (x : Option ℕ × Name) → slice_get ns v ≡ Some x → HasPath ns v
  path_on n v b l known (None, a) e = record { text = _; path = PathText.root e }
  path_on n v b l known (Some p, a) e =
      let h : p < v = first v p a e in
      let k = known p (omega arith) (omega arith) in
      record { text = _; path = PathText.under e h k.path }

  paths_below : (n v : ℕ) → v < n → v < length ns → HasPath ns v
  paths_below zero v b l = absurd (omega arith)
  paths_below (suc n) v b l = let x = node_at ns v l in path_on n v b l (paths_below n) x.0 x.1

-- one side
module _ (line : List ℕ) (tests : List ParsedNode) (listing before after : List ℕ) (side : Side) (by : SelectedBy line tests listing before side.report after) where
  front : take side.report.reported after ≡ by.selection.reported
  front =
      let f = by.selection.filled in
      let n : side.report.reported ≡ length by.selection.reported =
      counted (length listing) by.concludes ∙ as_counted bytes_eq (plain_nodes tests) (test_names line tests) (length before) by.events by.ending by.selection.selects in
      ap (λ (k : ℕ). take k after) n ∙ ap (take (length by.selection.reported)) f.list
      ∙ take-append_seam by.selection.reported (drop (length by.selection.reported) before)

  side_paths : spelled_entries side.nodes.items ≡ nodes by.events → ReportsPaths side after
  side_paths e = record {
    each = λ v i.
        let low : v < length (nodes by.events) =
        nodes_reported bytes_eq (plain_nodes tests) (test_names line tests) (length before) by.events by.ending by.selection.selects v (subst (In v) front i) in
        paths_below (entries side.nodes.items) (ordered (entries side.nodes.items) by.events e) (suc v) v (omega arith)
        (let c = count (entries side.nodes.items) by.events e in omega arith);
  }

  not_refused : (n : ℕ) {a : Answer XmlFault} {report : Report} → Concludes n a report → ((k o c : ℕ) → a ≡ refused k o c → ⊥)
      → (r : SelectRefusal) (m : ℕ) → report.verdict ≡ Err (refusal.Selection r m) → ⊥
  not_refused n (Concludes.finished c) never r m e = let z : ⊥ = cc in z
  not_refused n (Concludes.fault f o c) never r m e = let z : ⊥ = cc in z
  not_refused n (Concludes.refusal s k o c q) never r m e = never k o c refl

  side_unrefused : length listing ≤ input_limit → numbers_limit ≤ length before
      → (r : SelectRefusal) (n : ℕ) → side.report.verdict ≡ Err (refusal.Selection r n) → ⊥
  side_unrefused short wide r n e =
      not_refused (length listing) by.concludes (listing_unrefused line tests listing before after side.report by short wide) r n e

-- both sides
module _ (bs before₁ before₂ : List ℕ) (c : Comparison) (after₁ after₂ : List ℕ) (known : Compared bs before₁ before₂ c after₁ after₂) where
  pub compared_paths : ReportsPaths c.first after₁ × ReportsPaths c.second after₂
  compared_paths = (
    side_paths known.line known.tests known.one before₁ after₁ c.first known.first known.first_nodes,
    side_paths known.line known.tests known.two before₂ after₂ c.second known.second known.second_nodes,
  )

  short_parts : (length known.one ≤ input_limit) × (length known.two ≤ input_limit)
  short_parts =
      let a = known.asks in
      let fits : length bs ≤ input_limit = a.fits in
      let behind : length known.rest ≤ length bs = omega (arith, ap length a.split.second_is, length-drop (a.split.at + 1) bs) in
      let s = known.split in (
        omega (arith, ap length s.first_is, length-take s.at known.rest),
        omega (arith, ap length s.second_is, length-drop (s.at + 1) known.rest),
      )

  pub compared_unrefused : numbers_limit ≤ length before₁ → numbers_limit ≤ length before₂ → Unrefused c
  compared_unrefused wide₁ wide₂ = record {
    first = side_unrefused known.line known.tests known.one before₁ after₁ c.first known.first short_parts.0 wide₁;
    second = side_unrefused known.line known.tests known.two before₂ after₂ c.second known.second short_parts.1 wide₂;
  }

pub ruleset compared_laws = (compared_paths, compared_unrefused)
