-- Two listings, compared by what a rule selects from them.
use Rattle.std.specs.Prelude.{◌≡◌, ℕ, Bool, false, List, [], length, map, take, Some, None, Ok, Err, Option, Decides, ◌≢◌}
use Rattle.std.specs.Str.{bytes_eq}
use Rattle.labels.specs.Names.{bytes_of}
use Rattle.rules.specs.Embedding.{Nodes}
use Rattle.rules.specs.declared.syntax.ParsedNode.{ParsedNode}
use Rattle.sources.specs.declared.event.Event.{Event}
use Rattle.sources.specs.Nodes.{nodes}
use Rattle.selection.specs.Answers.{Answer}
use Rattle.selection.specs.Pairing.{Pairing}
use Rattle.selection.specs.declared.refusal.Refusal.{Refusal as SelectRefusal}
use Rattle.xml.specs.Reading.{Reads}
use Rattle.xml.specs.declared.fault.XmlFault.{XmlFault}
use Rattle.reports.specs.declared.refusal.Refusal.TheVariants.{Selection}
use Rattle.reports.specs.Parts.{Splits}
use Rattle.reports.specs.Reports.{Asks, Concludes, SelectedBy}
use Rattle.compare.specs.declared.node.Node.{Node}
use Rattle.compare.specs.declared.side.Side.{Side}
use Rattle.compare.specs.declared.comparison.Comparison.{Comparison}
use Rattle.compare.specs.Paths.{entries, Agree, HavePaths}

-- the nodes with the bytes of their names
abbrev pub spelled_entries : List Node → Nodes (List ℕ)
spelled_entries ns = map (λ n. (n.0, bytes_of n.1)) (entries ns)

-- The nodes of the listing, whatever fault ends it, and the report on a selection that answered so
pub record SideOf (listing : List ℕ) (answer : Answer XmlFault) (side : Side) : Type 0 where
  pub table : (es : List (Event (List ℕ))) (end : Option XmlFault) → Reads listing 0 [] false es end → spelled_entries side.nodes.items ≡ nodes es
  pub concludes : Concludes (length listing) answer side.report

-- Where both selections finished, whether the folders reported are the same by their paths; else nothing.
pub data Agreement (first : Side) (ones : List ℕ) (second : Side) (twos : List ℕ) : Option Bool → Type 0 where
  judged : (b : Bool) → first.report.verdict ≡ Ok tt → second.report.verdict ≡ Ok tt
      → Decides b (Agree (entries first.nodes.items) (take first.report.reported ones) (entries second.nodes.items) (take second.report.reported twos))
      → Agreement first ones second twos (Some b)
  unjudged : (first.report.verdict ≡ Ok tt → second.report.verdict ≡ Ok tt → ⊥) → Agreement first ones second twos None

-- What is said of an input: the rule text of its first line; behind that line a listing, up to the first byte 0; and behind that byte
-- another one. From each the rule is selected, into lists that were `before` and are `after`.
pub record Compared (bs before₁ before₂ : List ℕ) (c : Comparison) (after₁ after₂ : List ℕ) : Type 0 where
  pub line : List ℕ
  pub tests : List ParsedNode
  pub rest : List ℕ
  pub asks : Asks bs line tests rest
  pub one : List ℕ
  pub two : List ℕ
  pub split : Splits 0 rest one two
  pub first : SelectedBy line tests one before₁ c.first.report after₁
  pub first_nodes : spelled_entries c.first.nodes.items ≡ nodes first.events
  pub second : SelectedBy line tests two before₂ c.second.report after₂
  pub second_nodes : spelled_entries c.second.nodes.items ≡ nodes second.events
  pub agreement : Agreement c.first after₁ c.second after₂ c.agreement
  -- Where the nodes of the listings pair off, in whatever order siblings stand, the selections agree if both finish.
  pub paired : (f g : ℕ → ℕ) → Pairing bytes_eq (nodes first.events) (nodes second.events) f g → c.agreement ≢ Some false

-- The numbers reported of a side are those of nodes, each with a path.
abbrev pub ReportsPaths : Side → List ℕ → Type 0
ReportsPaths side numbers = HavePaths (entries side.nodes.items) (take side.report.reported numbers)

-- No selection is refused: none but a fault of its listing ends it early.
pub record Unrefused (c : Comparison) : Type 0 where
  pub first : (r : SelectRefusal) (n : ℕ) → c.first.report.verdict ≡ Err (Selection r n) → ⊥
  pub second : (r : SelectRefusal) (n : ℕ) → c.second.report.verdict ≡ Err (Selection r n) → ⊥
