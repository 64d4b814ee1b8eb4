-- Texts that grow.
use Rattle.std.specs.Prelude.{◌≡◌, ℕ, List, ◌++◌, codes}
use Rattle.labels.specs.declared.name.Name.{Name}
use Rattle.rules.specs.Embedding.{Nodes}
use Rattle.compare.specs.declared.side.Side.{Side}
use Rattle.compare.specs.Paths.{PathText}
use Rattle.compare.specs.Printed.{PathLines, SideText}

-- the line of a node is appended to a text
pub data LineAdded (nodes : Nodes Name) (v : ℕ) (before : List ℕ) : List ℕ → Type 0 where
  line_added : {path after : List ℕ} → PathText nodes v path → after ≡ before ++ path ++ codes "\n" → LineAdded nodes v before after

-- these lines are appended to a text
pub data LinesAdded (nodes : Nodes Name) (vs before : List ℕ) : List ℕ → Type 0 where
  lines_added : {lines after : List ℕ} → PathLines nodes vs lines → after ≡ before ++ lines → LinesAdded nodes vs before after

-- a side is appended to a text
pub data SideAdded (side : Side) (numbers before : List ℕ) : List ℕ → Type 0 where
  side_added : {text after : List ℕ} → SideText side numbers text → after ≡ before ++ text → SideAdded side numbers before after
