-- Of an input one text is printed.
use Rattle.std.proofs.Common.{Option, ◌≡◌, ℕ, Bool, false, List, [], length, take, drop, refl, sym, ap, ap₂, ◌∙◌, subst}
use Rattle.std.specs.Str.{bytes_eq}
use Rattle.std.proofs.Math.Seq.{take-append_seam}
use Rattle.rules.specs.declared.node.RuleNode.{RuleNode}
use Rattle.rules.specs.declared.syntax.ParsedNode.{ParsedNode}
use Rattle.rules.specs.RuleNodes.{plain_nodes}
use Rattle.rules.specs.TestNames.{test_names}
use Rattle.rules.specs.Texts.{TextGives}
use Rattle.rules.proofs.Answering.{gives_same}
use Rattle.sources.specs.declared.event.Event.{Event}
use Rattle.selection.specs.Answers.{Answer, done, faulted, refused}
use Rattle.selection.specs.Selection.{Selects}
use Rattle.xml.specs.declared.fault.XmlFault.{XmlFault}
use Rattle.xml.proofs.Once.{once}
use Rattle.reports.specs.declared.report.Report.{Report}
use Rattle.reports.specs.Reports.{Concludes, SelectedBy, Reports, OnlyReports}
use Rattle.reports.proofs.OneReport.{one_split, bad_same, bad_or_asks, concludes_same}
use Rattle.birdelectrum.specs.Printed.{printed, Prints}

-- how many numbers an answer counts
abbrev count_of : {F : Type 0} → Answer F → ℕ
count_of (done n) = n
count_of (faulted f openings n) = n
count_of (refused k openings n) = n

-- as many as the report,
counted : (n : ℕ) {a : Answer XmlFault} {report : Report} → Concludes n a report → report.reported ≡ count_of a
counted n (Concludes.finished c) = refl
counted n (Concludes.fault f o c) = refl
counted n (Concludes.refusal r k o c e) = refl

-- and as many as are reported
as_counted : {L F : Type 0} (same : L → L → Bool) (rule : List RuleNode) (labels : List L) (room : ℕ) (es : List (Event L)) (end : Option F)
    {a : Answer F} {vs : List ℕ} {left : List (Event L)} → Selects same rule labels room es end a vs left → count_of a ≡ length vs
as_counted same rule labels room es end (Selects.whole vs d r all) = refl
as_counted same rule labels room es end (Selects.fault f vs d r) = refl
as_counted same rule labels room es end (Selects.refusal before after e k vs s r w) = refl

-- So the numbers that are reported stand at the front of the list.
front : (line listing before after : List ℕ) (ns : List ParsedNode) (report : Report) (s : SelectedBy line ns listing before report after)
    → take report.reported after ≡ s.selection.reported
front line listing before after ns report s =
    let f = s.selection.filled in
    let n : report.reported ≡ length s.selection.reported =
    counted (length listing) s.concludes ∙ as_counted bytes_eq (plain_nodes ns) (test_names line ns) (length before) s.events s.ending s.selection.selects in
    ap (λ (k : ℕ). take k after) n ∙ ap (take (length s.selection.reported)) f.list
    ∙ take-append_seam s.selection.reported (drop (length s.selection.reported) before)

module _ (b₁ b₂ : List ℕ) (long : length b₂ ≡ length b₁) where
  -- Into two lists of one length a rule is selected from a listing in one way,
  selected_alike : (line listing : List ℕ) (ns : List ParsedNode) {r₁ r₂ : Report} {a₁ a₂ : List ℕ}
      → SelectedBy line ns listing b₁ r₁ a₁ → SelectedBy line ns listing b₂ r₂ a₂
      → (r₂ ≡ r₁) × (take r₂.reported a₂ ≡ take r₁.reported a₁)
  selected_alike line listing ns {r₁} {r₂} {a₁} {a₂} s t =
      let S : ℕ → List (Event (List ℕ)) → Option XmlFault → Type 0 = λ room es end.
      Selects bytes_eq (plain_nodes ns) (test_names line ns) room es end t.answer t.selection.reported t.left in
      let e = once listing 0 [] false t.events t.ending t.reads s.events s.ending s.reads in
      let moved : S (length b₁) s.events s.ending =
      subst (λ es. S (length b₁) es s.ending) e.0 (subst (S (length b₁) t.events) e.1 (subst (λ n. S n t.events t.ending) long t.selection.selects)) in
      let o = s.selection.only t.answer t.selection.reported t.left moved in (
        concludes_same (length listing) s.answer t.answer o.0 s.concludes t.concludes,
        front line listing b₂ a₂ ns r₂ t ∙ o.1 ∙ sym (front line listing b₁ a₁ ns r₁ s),
      )

  -- and an input is reported in one way, with one list of numbers.
  reported_alike : (bs : List ℕ) {r₁ r₂ : Report} {a₁ a₂ : List ℕ} → Reports bs b₁ r₁ a₁ → Reports bs b₂ r₂ a₂
      → (r₂ ≡ r₁) × (take r₂.reported a₂ ≡ take r₁.reported a₁)
  reported_alike bs (Reports.bad r b) (Reports.bad q c) = let e = bad_same bs b c in (cc, refl)
  reported_alike bs (Reports.bad r b) (Reports.selected {line = line} {listing = listing} {ns = ns} a s) =
      absurd (bad_or_asks bs line listing ns b a)
  reported_alike bs (Reports.selected {line = line} {listing = listing} {ns = ns} a s) (Reports.bad r b) =
      absurd (bad_or_asks bs line listing ns b a)
  reported_alike bs (Reports.selected {line = l₁} {listing = x₁} {ns = n₁} a s)
      (Reports.selected {line = l₂} {listing = x₂} {after = f₂} {ns = n₂} {report = q₂} b t) =
      let e = one_split a.split b.split in
      let n : n₂ ≡ n₁ = gives_same (subst (λ (xs : List ℕ). TextGives xs n₂) e.0 b.gives) a.gives in
      let moved : SelectedBy l₁ n₁ x₁ b₂ q₂ f₂ =
      subst (λ xs. SelectedBy xs n₁ x₁ b₂ q₂ f₂) e.0 (subst (λ ns. SelectedBy l₂ ns x₁ b₂ q₂ f₂) n
      (subst (λ xs. SelectedBy l₂ n₂ xs b₂ q₂ f₂) e.1 t)) in
      selected_alike l₁ x₁ n₁ s moved

-- a report that is the only one is one
reports_so : {bs before after : List ℕ} {report : Report} → OnlyReports bs before report after → Reports bs before report after
reports_so (OnlyReports.only h _) = h

-- what is printed of an input is one text
pub one_text : (input text₁ text₂ : List ℕ) → Prints input text₁ → Prints input text₂ → text₁ ≡ text₂
one_text input text₁ text₂ p q =
    let e = reported_alike q.before p.before (p.many ∙ sym q.many) input (reports_so q.reports) (reports_so p.reports) in
    p.text_is ∙ ap₂ printed e.1 e.0 ∙ sym q.text_is
