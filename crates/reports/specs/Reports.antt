-- What is reported of an input.
use Rattle.std.specs.Prelude.{◌≡◌, ℕ, ◌<◌, ◌≤◌, false, List, [], length, Ok, Err, Option}
use Rattle.std.specs.Str.{bytes_eq}
use Rattle.labels.specs.Names.{bytes_of}
use Rattle.labels.specs.declared.name.Name.{Name}
use Rattle.rules.specs.declared.refusal.TextRefusal.{TextRefusal}
use Rattle.rules.specs.declared.syntax.ParsedNode.{ParsedNode}
use Rattle.rules.specs.Refusals as text
use Rattle.rules.specs.RuleNodes.{rule_nodes, plain_nodes}
use Rattle.rules.specs.ReadText.{NamesIn}
use Rattle.rules.specs.TestNames.{test_names}
use Rattle.rules.specs.Texts.{TextGives, TextRefused}
use Rattle.sources.specs.declared.event.Event.{Event}
use Rattle.selection.specs.Answers.{Answer, done, faulted, refused, number}
use Rattle.selection.specs.Selection.{Selection}
use Rattle.selection.specs.declared.refusal.Refusal.{Refusal as SelectRefusal}
use Rattle.xml.specs.Reading.{Reads}
use Rattle.xml.specs.declared.fault.XmlFault.{XmlFault}
use Rattle.reports.specs.declared.question.Question.{Question}
use Rattle.reports.specs.declared.refusal.Refusal.{Refusal}
use Rattle.reports.specs.declared.refusal.Refusal.TheVariants.{Input, Rule, Listing, Selection as selecting}
use Rattle.reports.specs.declared.report.Report.{Report}
use Rattle.reports.specs.Parts.{Splits}
use Rattle.reports.specs.Refusals.{input_limit}

-- An input that is too long, or whose rule text, up to the first byte 10, is refused
pub data Bad (bs : List ℕ) : Refusal → Type 0 where
  too_long : input_limit < length bs → Bad bs Input
  bad_rule : {line rest : List ℕ} (f : TextRefusal) → length bs ≤ input_limit → Splits 10 bs line rest
      → TextRefused line (text.number_and_place f) → Bad bs (Rule f)

-- An input of a fitting length, whose first line is a rule text that gives these rule nodes; behind it is `rest`.
pub record Asks (bs : List ℕ) (line : List ℕ) (ns : List ParsedNode) (rest : List ℕ) : Type 0 where
  pub fits : length bs ≤ input_limit
  pub split : Splits 10 bs line rest
  pub gives : TextGives line ns

-- The question of an input: its rule, the names of the named rule nodes at their numbers, and what is behind the first line. The other
-- entries of the list of names may be any, as no test is compared with them.
pub record QuestionOf (bs : List ℕ) (q : Question) : Type 0 where
  pub line : List ℕ
  pub nodes : List ParsedNode
  pub asks : Asks bs line nodes q.rest.now
  pub rule_is : rule_nodes q.rule ≡ plain_nodes nodes
  pub before : List Name
  pub names : NamesIn bytes_of line nodes before q.names

-- How a selection from a listing of n bytes is reported
pub data Concludes (n : ℕ) : Answer XmlFault → Report → Type 0 where
  finished : (count : ℕ) → Concludes n (done count) (record { reported = count; verdict = Ok tt })
  fault : (f : XmlFault) (openings count : ℕ) → Concludes n (faulted f openings count) (record { reported = count; verdict = Err (Listing f) })
  refusal : (r : SelectRefusal) (k openings count : ℕ) → number r ≡ k
      → Concludes n (refused k openings count) (record { reported = count; verdict = Err (selecting r n) })

-- A listing of these bytes is selected from, with the rule nodes and the names of a rule text's tests, into a list that was `before` and
-- is `after`. Labels are the names as bytes.
pub record SelectedBy (line : List ℕ) (ns : List ParsedNode) (listing before : List ℕ) (report : Report) (after : List ℕ) : Type 0 where
  pub events : List (Event (List ℕ))
  pub ending : Option XmlFault
  pub reads : Reads listing 0 [] false events ending
  pub answer : Answer XmlFault
  pub left : List (Event (List ℕ))
  pub selection : Selection bytes_eq (plain_nodes ns) (test_names line ns) events ending before answer after left
  pub concludes : Concludes (length listing) answer report

-- What is reported of the input bs: a bad input is refused alone, and the list stays as it was. Otherwise what is behind the first
-- line is a listing, and the rule is selected from it.
pub data Reports (bs before : List ℕ) : Report → List ℕ → Type 0 where
  bad : (r : Refusal) → Bad bs r → Reports bs before (record { reported = 0; verdict = Err r }) before
  selected : {line listing after : List ℕ} {ns : List ParsedNode} {report : Report} → Asks bs line ns listing
      → SelectedBy line ns listing before report after → Reports bs before report after

-- An input is reported so, and in no other way.
pub data OnlyReports (bs before : List ℕ) (report : Report) (after : List ℕ) : Type 0 where
  only : Reports bs before report after → ((r : Report) (a : List ℕ) → Reports bs before r a → (r ≡ report) × (a ≡ after))
      → OnlyReports bs before report after
