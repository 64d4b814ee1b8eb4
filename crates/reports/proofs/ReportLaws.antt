-- What is reported of an input.
use Rattle.std.proofs.Common.{Option, Result, Ok, ◌≡◌, ℕ, ◌≤◌, Bool, false, List, [], length, take, map, Err, refl, subst, arith}
use Rattle.std.specs.Str.{bytes_eq}
use Rattle.labels.specs.Names.{bytes_of}
use Rattle.labels.specs.declared.name.Name.{Name}
use Rattle.rules.specs.declared.refusal.TextRefusal.{TextRefusal}
use Rattle.rules.specs.declared.node.RuleNode.{RuleNode}
use Rattle.rules.specs.declared.rule.Rule.{Rule}
use Rattle.rules.specs.Limits.{node_limit}
use Rattle.rules.specs.RuleNodes.{rule_nodes, plain_nodes}
use Rattle.rules.specs.Texts.{TextRefused}
use Rattle.rules.specs.TestNames.{test_names}
use Rattle.rules.specs.ReadText.{Unread, ReadingRefused, short_list, by_text}
use Rattle.rules.proofs.TestNames.{same_tests}
use Rattle.sources.specs.declared.event.Event.{Event}
use Rattle.sources.specs.Events.{MeansOnly}
use Rattle.selection.specs.Answers.{Answer, done, number, ended_by, answered}
use Rattle.selection.specs.declared.refusal.SelectFault.{SelectFault}
use Rattle.selection.specs.declared.refusal.Cause.{Cause}
use Rattle.selection.specs.declared.refusal.Cause.TheVariants.{Fault, Refused}
use Rattle.selection.specs.Selection.{Selects, Selection}
use Rattle.selection.proofs.Mapped.{selection_mapped}
use Rattle.xml.specs.Reading.{Reads}
use Rattle.xml.specs.Means.{xml_events, xml_ending, xml_spelled, spelled}
use Rattle.xml.specs.declared.fault.XmlFault.{XmlFault}
use Rattle.xml.specs.declared.reader.Xml.{Xml}
use Rattle.reports.specs.declared.question.Question.{Question}
use Rattle.reports.specs.declared.refusal.Refusal.{Refusal}
use Rattle.reports.specs.declared.refusal.Refusal.TheVariants as refusal
use Rattle.reports.specs.declared.report.Report.{Report}
use Rattle.reports.specs.Parts.{Splits}
use Rattle.reports.specs.Refusals.{input_limit, Ends}
use Rattle.reports.specs.Reports.{Bad, QuestionOf, Concludes, SelectedBy, Reports}

-- with a long enough list the text is at fault
text_refused : {bs : List ℕ} {entries : ℕ} {x : ℕ × ℕ} → node_limit ≤ entries → ReadingRefused bs entries x → TextRefused bs x
text_refused few (short_list h) = absurd (omega arith)
text_refused few (by_text h r) = r

pub rule_refused : {N : Type 0} {f : TextRefusal} {rule rule' : Rule} {before after : List N} (bs line rest : List ℕ)
    → Unread line f rule rule' before after → node_limit ≤ length before → length bs ≤ input_limit → Splits 10 bs line rest → Bad bs (refusal.Rule f)
rule_refused {f = f} bs line rest u few short splits = Bad.bad_rule f short splits (text_refused few u.refused.holds)

-- a selection by labels is one by the bytes of names
module _ (same : Name → Name → Bool) (tied : (a b : Name) → same a b ≡ bytes_eq (bytes_of a) (bytes_of b)) (bs : List ℕ) (q : Question) (asked : QuestionOf bs q) where
  pub selected_by : (listing : List ℕ) (s : Xml) (labels : List Name) (before after : List ℕ) (a : Answer XmlFault) (left : List (Event Name)) (report : Report)
      → MeansOnly (Reads listing 0 [] false) (xml_spelled s) (xml_ending s) → map spelled (xml_events s) ≡ xml_spelled s
      → labels ≡ take (length (rule_nodes q.rule)) q.names
      → Selection same (rule_nodes q.rule) labels (xml_events s) (xml_ending s) before a after left
      → Concludes (length listing) a report → SelectedBy asked.line asked.nodes listing before report after
  selected_by listing s labels before after a left report meaning back tests selection ends =
      let P : List RuleNode → Type 0 = λ ns. Selection same ns (take (length ns) q.names) (xml_events s) (xml_ending s) before a after left in
      let Q : List Name → Type 0 = λ ls. Selection same (rule_nodes q.rule) ls (xml_events s) (xml_ending s) before a after left in
      let R : List (Event (List ℕ)) → Type 0 = λ es. Selection bytes_eq (plain_nodes asked.nodes) (test_names asked.line asked.nodes) es (xml_ending s) before a after (map spelled left) in
      record {
        events = xml_spelled s;
        ending = xml_ending s;
        reads = meaning.means;
        answer = a;
        left = map spelled left;
        selection = subst R back
            (selection_mapped same bytes_eq (plain_nodes asked.nodes) (take (length (plain_nodes asked.nodes)) q.names) (test_names asked.line asked.nodes)
            bytes_of spelled (λ l. refl) refl
            (same_tests same bytes_of bytes_eq tied asked.line asked.nodes asked.before q.names asked.asks.gives asked.names)
            (xml_events s) (xml_ending s) before a after left (subst P asked.rule_is (subst Q tests selection)));
        concludes = ends;
      }

-- how a selection ends is how it is reported
pub concludes_done : (n count : ℕ) (answer : Result ℕ (SelectFault XmlFault)) (report : Report) → answer ≡ Ok count
    → report ≡ record { reported = count; verdict = Ok tt } → Concludes n (answered answer) report
concludes_done n count answer report a e = rw (a, e) (Concludes.finished count)

by_cause : (n : ℕ) (cause : Cause XmlFault) (r : Refusal) (openings count : ℕ) → Ends cause n r
    → Concludes n (ended_by cause openings count) (record { reported = count; verdict = Err r })
by_cause n (Fault f) r openings count e = rw e (Concludes.fault f openings count)
by_cause n (Refused k) r openings count e = rw e (Concludes.refusal k (number k) openings count refl)

pub concludes_by : (n : ℕ) (answer : Result ℕ (SelectFault XmlFault)) (f : SelectFault XmlFault) (r : Refusal) (report : Report) → answer ≡ Err f
    → Ends f.cause n r → report ≡ record { reported = f.reported; verdict = Err r } → Concludes n (answered answer) report
concludes_by n answer f r report a e is = rw (a, is) (by_cause n f.cause r f.openings f.reported e)

pub ruleset concludes = (concludes_done, concludes_by)

-- what is reported fits the list
counted : {L : Type 0} (same : L → L → Bool) (rule : List RuleNode) (labels : List L) (room : ℕ) (es : List (Event L)) (end : Option XmlFault) (n : ℕ)
    {a : Answer XmlFault} {vs : List ℕ} {ds : List (Event L)} {report : Report}
    → Selects same rule labels room es end a vs ds → (b : Answer XmlFault) → b ≡ a → Concludes n b report → report.reported ≡ length vs
counted same rule labels room es end n (Selects.whole vs d r all) b e (Concludes.finished count) = cc
counted same rule labels room es end n (Selects.whole vs d r all) b e (Concludes.fault f o count) = let z : ◌≡◌ {A = ℕ} 0 1 = cc in absurd (omega arith)
counted same rule labels room es end n (Selects.whole vs d r all) b e (Concludes.refusal q k o count p) = let z : ◌≡◌ {A = ℕ} 0 1 = cc in absurd (omega arith)
counted same rule labels room es end n (Selects.fault x vs d r) b e (Concludes.finished count) = let z : ◌≡◌ {A = ℕ} 0 1 = cc in absurd (omega arith)
counted same rule labels room es end n (Selects.fault x vs d r) b e (Concludes.fault f o count) = cc
counted same rule labels room es end n (Selects.fault x vs d r) b e (Concludes.refusal q k o count p) = let z : ◌≡◌ {A = ℕ} 0 1 = cc in absurd (omega arith)
counted same rule labels room es end n (Selects.refusal before after x j vs s r w) b e (Concludes.finished count) = let z : ◌≡◌ {A = ℕ} 0 1 = cc in absurd (omega arith)
counted same rule labels room es end n (Selects.refusal before after x j vs s r w) b e (Concludes.fault f o count) = let z : ◌≡◌ {A = ℕ} 0 1 = cc in absurd (omega arith)
counted same rule labels room es end n (Selects.refusal before after x j vs s r w) b e (Concludes.refusal q k o count p) = cc

pub reports_fit : (bs before after : List ℕ) (report : Report) → Reports bs before report after → report.reported ≤ length before
reports_fit bs before after report (Reports.bad r b) = omega arith
reports_fit bs before after report (Reports.selected {line = line} {listing = listing} {ns = ns} asks s) =
    let w = s.selection in
    let c = counted bytes_eq (plain_nodes ns) (test_names line ns) (length before) s.events s.ending (length listing) w.selects s.answer refl s.concludes in
    let f = w.filled.fits in
    omega arith

-- a report without a refusal is that of a selection that finished
pub concludes_ok : (n : ℕ) {a : Answer XmlFault} {report : Report} → Concludes n a report → report.verdict ≡ Ok tt → a ≡ done report.reported
concludes_ok n (Concludes.finished count) e = refl
concludes_ok n (Concludes.fault f o count) e = let z : ⊥ = cc in absurd z
concludes_ok n (Concludes.refusal r k o count p) e = let z : ⊥ = cc in absurd z
