-- What is printed of an input.
use Rattle.std.specs.Prelude.{◌≡◌, ℕ, ◌≤◌, List, ◌++◌, length, take, codes, Ok, Option}
use Rattle.std.specs.Fmt.{decimal}
use Rattle.std.specs.Io.KnownBytes.{Appends}
use Rattle.std.specs.List.{flat_map}
use Rattle.reports.specs.declared.report.Report.{Report}
use Rattle.reports.specs.Elements.{WithRoom, SelectsElements}
use Rattle.reports.specs.Printed.{report_text}
use Rattle.reports.specs.Refusals.{numbers_limit}
use Rattle.reports.specs.Reports.{OnlyReports}

-- a number in base ten on a line of its own
abbrev pub number_line : ℕ → List ℕ
number_line n = decimal n ++ codes "\n"

-- numbers, each on a line of its own, and a report on the last line
abbrev pub printed : List ℕ → Report → List ℕ
printed numbers report = flat_map number_line numbers ++ (report_text report ++ codes "\n")

-- The text is what is printed of an input, however long the input is: the numbers that are reported of it into a list of numbers_limit
-- numbers, and the report. Where nothing is refused, they are the numbers of the elements that the input's first line selects.
pub record Prints (input text : List ℕ) : Type 0 where
  pub before : List ℕ
  pub report : Report
  pub after : List ℕ
  pub many : length before ≡ numbers_limit
  pub reports : OnlyReports input before report after
  pub fits : report.reported ≤ numbers_limit
  pub room : WithRoom input report
  pub elements : report.verdict ≡ Ok tt → SelectsElements input (take report.reported after)
  pub text_is : text ≡ printed (take report.reported after) report

-- The one text that is printed of the input is written behind what was written before.
pub record Answers (input : List ℕ) (old new : Option (List ℕ)) : Type 0 where
  pub text : List ℕ
  pub prints : Prints input text
  pub only : (t : List ℕ) → Prints input t → t ≡ text
  pub written : Appends old new text
