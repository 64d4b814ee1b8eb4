-- What is reported, in the words of XPath 1.0 and XML 1.0.
use Rattle.std.specs.Prelude.{◌≡◌, ℕ, ◌<◌, ◌↔◌, List, None, Ok, Err}
use Rattle.std.specs.Str.{bytes_eq}
use Rattle.rules.specs.XPath.{LocationPath}
use Rattle.rules.specs.Expression.{TextStandsFor, SelectedIn}
use Rattle.runs.specs.Picks.{In, Once, Picks}
use Rattle.sources.specs.Forest.{Forest, events_of, size, nodes_of}
use Rattle.sources.specs.Nodes.{closing_order}
use Rattle.xml.specs.Documents.{Document}
use Rattle.rules.specs.declared.syntax.ParsedNode.{ParsedNode}
use Rattle.selection.specs.declared.refusal.Refusal.{Refusal as SelectRefusal}
use Rattle.reports.specs.declared.refusal.Refusal.TheVariants.{Selection}
use Rattle.reports.specs.declared.report.Report.{Report}
use Rattle.reports.specs.Parts.{Splits}
use Rattle.reports.specs.Reports.{Asks}

-- The numbers are those of exactly the elements of the trees that the expression selects, each once, in the order in which the elements
-- end.
pub record Elements (expression : LocationPath) (trees : Forest (List ℕ)) (numbers : List ℕ) : Type 0 where
  pub exactly : (v : ℕ) → In v numbers ↔ ((v < size trees) × SelectedIn (λ w. w) bytes_eq (nodes_of None 0 trees) expression v)
  pub once : Once numbers
  pub order : Picks (λ v. In v numbers) (closing_order (events_of trees)) numbers

-- The first line of bs stands for an expression, and what is behind it is a document. Whichever expression and trees these are, the
-- numbers are those of the elements that it selects in them.
pub record SelectsElements (bs numbers : List ℕ) : Type 0 where
  pub line : List ℕ
  pub listing : List ℕ
  pub split : Splits 10 bs line listing
  pub some_expression : (p : LocationPath) × TextStandsFor line p
  pub some_document : (trees : Forest (List ℕ)) × Document listing trees
  pub selected : (p : LocationPath) → TextStandsFor line p → (trees : Forest (List ℕ)) → Document listing trees → Elements p trees numbers

-- With room for as many numbers as an input can have to report, no selection is refused, and where the first line is a rule text and what
-- is behind it a document, nothing is.
pub data WithRoom (bs : List ℕ) (report : Report) : Type 0 where
  with_room : ((r : SelectRefusal) (n : ℕ) → report.verdict ≡ Err (Selection r n) → ⊥)
      → ((line listing : List ℕ) (ns : List ParsedNode) (trees : Forest (List ℕ)) → Asks bs line ns listing → Document listing trees → report.verdict ≡ Ok tt)
      → WithRoom bs report
