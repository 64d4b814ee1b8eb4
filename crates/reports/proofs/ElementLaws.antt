-- What is reported, in the words of XPath 1.0 and XML 1.0.
use Rattle.std.proofs.Common.{◌≡◌, ℕ, suc, ◌+◌, ◌<◌, ◌↔◌, Bool, List, length, take, drop, Some, None, Ok, Option, sym, refl, ap, ◌∙◌, subst, inl, inr, arith}
use Rattle.std.specs.Str.{bytes_eq}
use Rattle.std.proofs.lemmas.List.{length-append}
use Rattle.std.proofs.Math.Seq.{take-append_seam}
use Rattle.rules.specs.declared.node.RuleNode.{RuleNode}
use Rattle.rules.specs.declared.syntax.ParsedNode.{ParsedNode}
use Rattle.rules.specs.RuleNodes.{plain_nodes}
use Rattle.rules.specs.TestNames.{test_names}
use Rattle.rules.specs.Embedding.{Nodes, OccursIn}
use Rattle.rules.specs.XPath.{LocationPath}
use Rattle.rules.specs.Expression.{TextStandsFor, SelectedIn}
use Rattle.rules.proofs.TestNames.{selects_by_bytes}
use Rattle.runs.specs.Picks.{In, Once, Picks}
use Rattle.sources.specs.declared.event.Event.{Event}
use Rattle.sources.specs.Forest.{Forest, events_of, size, nodes_of}
use Rattle.sources.specs.Forest.Forest.{none, tree}
use Rattle.sources.specs.Nodes.{nodes, closing_order}
use Rattle.sources.proofs.ForestNodes.{forest_nodes}
use Rattle.selection.specs.Answers.{Answer, done}
use Rattle.selection.specs.Selection.{Reported, Selects}
use Rattle.selection.proofs.ClosingOrder.{closed_is_node, parents_first}
use Rattle.xml.specs.Documents.{Document}
use Rattle.xml.proofs.Grammar.{done_document}
use Rattle.reports.specs.declared.report.Report.{Report}
use Rattle.reports.specs.Reports.{Asks, SelectedBy, Reports}
use Rattle.reports.specs.Elements.{Elements, SelectsElements}
use Rattle.reports.proofs.ReportLaws.{concludes_ok}

-- as many nodes as the trees have
forest_size : {L : Type 0} (trees : Forest L) (above : Option ℕ) (n : ℕ) → length (nodes_of above n trees) ≡ size trees
forest_size none above n = refl
forest_size (tree l inside behind) above n =
    let i = forest_size inside (Some n) (suc n) in
    let b = forest_size behind above (suc n + size inside) in
    omega (arith, length-append (nodes_of (Some n) (suc n) inside) (nodes_of above (suc n + size inside) behind))

-- picks are picks by membership in them
picks_by_members : {P : ℕ → Type 0} {vs ws : List ℕ} → Picks P vs ws → (numbers : List ℕ)
    → ((v : ℕ) → In v vs → P v ↔ In v numbers) → Picks (λ v. In v numbers) vs ws
picks_by_members Picks.none numbers same = Picks.none
picks_by_members (Picks.keep {v = v} p k) numbers same = Picks.keep ((same v (inl refl)).0 p) (picks_by_members k numbers (λ u i. same u (inr i)))
picks_by_members (Picks.skip {v = v} n k) numbers same = Picks.skip (λ q. n ((same v (inl refl)).1 q)) (picks_by_members k numbers (λ u i. same u (inr i)))

-- what a selection that finished reports
record Finished {L F : Type 0} (same : L → L → Bool) (rule : List RuleNode) (labels : List L) (room : ℕ) (es : List (Event L)) (end : Option F) (n : ℕ) (vs : List ℕ) : Type 0 where
  pub done_then : end ≡ None
  pub count : n ≡ length vs
  pub told : Reported same rule labels room es es vs
  pub exact : (v : ℕ) → In v vs ↔ ((v < length (nodes es)) × OccursIn same rule labels (nodes es) v)

finished : {L F : Type 0} (same : L → L → Bool) (rule : List RuleNode) (labels : List L) (room : ℕ) (es : List (Event L)) (end : Option F)
    {a : Answer F} {vs : List ℕ} {ds : List (Event L)} → Selects same rule labels room es end a vs ds → (n : ℕ) → a ≡ done n
    → Finished same rule labels room es end n vs
finished same rule labels room es end (Selects.whole vs d r all) n e =
    record { done_then = d; count = let z : n ≡ length vs = cc in z; told = r; exact = all }
finished same rule labels room es end (Selects.fault f vs d r) n e = let z : ◌≡◌ {A = ℕ} 0 1 = cc in absurd (omega arith)
finished same rule labels room es end (Selects.refusal before after x k vs d r w) n e = let z : ◌≡◌ {A = ℕ} 0 1 = cc in absurd (omega arith)

module _ (bs line listing before after : List ℕ) (ns : List ParsedNode) (report : Report) (asks : Asks bs line ns listing)
    (s : SelectedBy line ns listing before report after) (fine : report.verdict ≡ Ok tt) where
  abbrev es : List (Event (List ℕ))
  es = s.events

  end : Finished bytes_eq (plain_nodes ns) (test_names line ns) (length before) es s.ending report.reported s.selection.reported
  end = finished bytes_eq (plain_nodes ns) (test_names line ns) (length before) es s.ending s.selection.selects report.reported (concludes_ok (length listing) s.concludes fine)

  front : take report.reported after ≡ s.selection.reported
  front =
      let f = s.selection.filled in
      ap (λ (k : ℕ). take k after) end.count ∙ ap (take (length s.selection.reported)) f.list
      ∙ take-append_seam s.selection.reported (drop (length s.selection.reported) before)

  pub elements : (p : LocationPath) → TextStandsFor line p → (trees : Forest (List ℕ)) → Document listing trees → Elements p trees (take report.reported after)
  elements p stands trees document =
      let all = (done_document listing es s.ending s.reads).all_documents trees document in
      let text = selects_by_bytes bytes_eq line ns asks.gives in
      let nodes_are : nodes es ≡ nodes_of None 0 trees = ap nodes all.1 ∙ forest_nodes trees in
      let O : ℕ → Type 0 = OccursIn bytes_eq (plain_nodes ns) (test_names line ns) (nodes es) in
      let count : length (nodes es) ≡ size trees = ap length nodes_are ∙ forest_size trees None 0 in
      let X : Nodes (List ℕ) → ℕ → Type 0 = λ ks v. SelectedIn (λ w. w) bytes_eq ks p v in
      let both : (v : ℕ) → v < length (nodes es) → X (nodes es) v ↔ O v = λ v h. text.1 p stands (nodes es) (parents_first es) v h in
      let here : (v : ℕ) → In v s.selection.reported ↔ ((v < size trees) × X (nodes_of None 0 trees) v) = λ v. (
        λ i. let o = (end.exact v).0 i in (let h = o.0 in omega arith, subst (λ ks. X ks v) nodes_are ((both v o.0).1 o.1)),
        λ o. let h : v < length (nodes es) = (let b = o.0 in omega arith) in (end.exact v).1 (h, (both v h).0 (subst (λ ks. X ks v) (sym nodes_are) o.1)),
      ) in
      let k : Picks (λ v. In v s.selection.reported) (closing_order es) s.selection.reported =
      picks_by_members end.told.picked s.selection.reported (λ v i. (
        λ o. (end.exact v).1 (closed_is_node es end.told.accepted v i, o),
        λ j. ((end.exact v).0 j).1,
      )) in
      let P : List ℕ → Type 0 = λ vs. (v : ℕ) → In v vs ↔ ((v < size trees) × X (nodes_of None 0 trees) v) in
      let K : List (Event (List ℕ)) → List ℕ → Type 0 = λ xs vs. Picks (λ v. In v vs) (closing_order xs) vs in
      record {
        exactly = subst P (sym front) here;
        once = subst Once (sym front) end.told.once;
        order = subst (λ vs. K (events_of trees) vs) (sym front) (subst (λ xs. K xs s.selection.reported) all.1 k);
      }

  pub selects_elements : SelectsElements bs (take report.reported after)
  selects_elements =
      let doc = (done_document listing es s.ending s.reads).only_documents end.done_then in
      record {
        line = line;
        listing = listing;
        split = asks.split;
        some_expression = (selects_by_bytes bytes_eq line ns asks.gives).0;
        some_document = (doc.0, doc.1);
        selected = elements;
      }

pub reports_elements : (bs before after : List ℕ) (report : Report) → Reports bs before report after → report.verdict ≡ Ok tt → SelectsElements bs (take report.reported after)
reports_elements bs before after report (Reports.bad r b) e = let z : ⊥ = cc in absurd z
reports_elements bs before after report (Reports.selected {line = line} {listing = listing} {ns = ns} asks s) e =
    selects_elements bs line listing before after ns report asks s e
