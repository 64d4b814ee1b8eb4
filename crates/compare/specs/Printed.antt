-- What is printed of an input.
use Rattle.std.specs.Prelude.{◌≡◌, ℕ, List, [], ◌∷◌, ◌++◌, length, take, Bool, true, false, Some, None, Option, codes}
use Rattle.std.specs.Io.KnownBytes.{Appends}
use Rattle.labels.specs.declared.name.Name.{Name}
use Rattle.rules.specs.Embedding.{Nodes}
use Rattle.reports.specs.declared.refusal.Refusal.{Refusal}
use Rattle.reports.specs.Refusals.{numbers_limit, refusal_text}
use Rattle.reports.specs.Reports.{Bad}
use Rattle.reports.specs.Printed.{report_text}
use Rattle.compare.specs.declared.side.Side.{Side}
use Rattle.compare.specs.declared.comparison.Comparison.{Comparison}
use Rattle.compare.specs.Paths.{entries, PathText}
use Rattle.compare.specs.Compared.{Compared, Unrefused}

-- the path of each of these nodes, in order, and a line feed behind it
pub data PathLines (nodes : Nodes Name) : List ℕ → List ℕ → Type 0 where
  none : PathLines nodes [] []
  line : {v : ℕ} {vs path text : List ℕ} → PathText nodes v path → PathLines nodes vs text → PathLines nodes (v ∷ vs) (path ++ codes "\n" ++ text)

-- one side: the paths of the folders that are reported, and how the selection ended
pub data SideText (side : Side) (numbers : List ℕ) : List ℕ → Type 0 where
  side_text : {paths : List ℕ} → PathLines (entries side.nodes.items) (take side.report.reported numbers) paths
      → SideText side numbers (paths ++ report_text side.report ++ codes "\n")

abbrev pub verdict_line : Option Bool → List ℕ
verdict_line (Some true) = codes "alike\n"
verdict_line (Some false) = codes "not alike\n"
verdict_line None = codes "not compared\n"

-- both sides, and whether they are alike
pub data ComparisonText (c : Comparison) (ones twos : List ℕ) : List ℕ → Type 0 where
  both : {first second : List ℕ} → SideText c.first ones first → SideText c.second twos second
      → ComparisonText c ones twos (first ++ second ++ verdict_line c.agreement)

abbrev pub refused_line : Refusal → List ℕ
refused_line refusal = codes "refused " ++ refusal_text refusal ++ codes "\n"

-- What is printed of an input: why it is refused, or the comparison, with lists for the most numbers that an input can have to report.
pub data Prints (input : List ℕ) : List ℕ → Type 0 where
  refused : {refusal : Refusal} → Bad input refusal → Prints input (refused_line refusal)
  compared : {before₁ before₂ after₁ after₂ text : List ℕ} {c : Comparison} → length before₁ ≡ numbers_limit → length before₂ ≡ numbers_limit
      → Compared input before₁ before₂ c after₁ after₂ → Unrefused c → ComparisonText c after₁ after₂ text → Prints input text

-- What is printed of the input that a reader has, where that is known, is written behind what was written before.
pub data Answers : Option (List ℕ) → Option (List ℕ) → Option (List ℕ) → Type 0 where
  unknown : {old new : Option (List ℕ)} → Answers None old new
  known : {input text : List ℕ} {old new : Option (List ℕ)} → Prints input text → Appends old new text → Answers (Some input) old new
