-- What the reader of rule texts leaves: the contract of a private function.
use Rattle.std.specs.Prelude.{◌≡◌, ℕ, ◌+◌, ◌≤◌, List, length}
use Rattle.std.specs.List.{AllByRecursion}
use Rattle.rules.specs.declared.syntax.Kind.TheVariants.{Name}
use Rattle.rules.specs.declared.syntax.ParsedNode.{ParsedNode}
use Rattle.rules.specs.declared.refusal.TextRefusal.{TextRefusal}
use Rattle.labels.specs.Spelling.{name_limit}
use Rattle.rules.specs.Refusals.{number_and_place}
use Rattle.rules.specs.Texts.{TextGives, TextRefused}

-- the test of a rule node stands in the bytes, and a name is not too long
abbrev pub InText : List ℕ → ParsedNode → Type 0
InText bs n = (n.test.place + n.test.len ≤ length bs) × (n.test.kind ≡ Name → n.test.len ≤ name_limit)

pub record Parses (bs : List ℕ) (ns : List ParsedNode) : Type 0 where
  pub reads : TextGives bs ns
  pub in_text : AllByRecursion (InText bs) ns

abbrev pub ParseFails : List ℕ → TextRefusal → Type 0
ParseFails bs f = TextRefused bs (number_and_place f)
