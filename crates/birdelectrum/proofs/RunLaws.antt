-- What is read and printed.
use Rattle.std.proofs.Common.{Option, Some, None, Ok, ◌∙◌, ◌≡◌, ℕ, ◌+◌, ◌≤◌, List, length, take, subst, arith}
use Rattle.std.specs.Prelude.{IfSome}
use Rattle.std.specs.Io.KnownBytes.{Appends}
use Rattle.reports.specs.declared.report.Report.{Report}
use Rattle.reports.specs.Refusals.{input_limit, numbers_limit}
use Rattle.reports.specs.Elements.{WithRoom, SelectsElements}
use Rattle.reports.specs.Reports.{OnlyReports}
use Rattle.reports.proofs.Cut.{cut_reports, cut_room, cut_elements}
use Rattle.birdelectrum.specs.Printed.{printed, Prints, Answers}
use Rattle.birdelectrum.proofs.OneText.{one_text}

-- a report on an input is printed
pub prints : (input before after text : List ℕ) (report : Report) → length before ≡ numbers_limit
    → OnlyReports input before report after → report.reported ≤ length before → (numbers_limit ≤ length before → WithRoom input report)
    → (report.verdict ≡ Ok tt → SelectsElements input (take report.reported after))
    → text ≡ printed (take report.reported after) report → Prints input text
prints input before after text report many reports fits room elements is = record {
  before = before;
  report = report;
  after = after;
  many = many;
  reports = reports;
  fits = omega arith;
  room = room (omega arith);
  elements = elements;
  text_is = is;
}

-- what is printed of the part that is read is printed of the whole
prints_whole : (input text : List ℕ) → Prints (take (input_limit + 1) input) text → Prints input text
prints_whole input text p =
    let many = p.many in
    record {
      before = p.before;
      report = p.report;
      after = p.after;
      many = many;
      reports = cut_reports input p.before p.after p.report p.reports;
      fits = p.fits;
      room = cut_room input p.before p.after p.report p.reports (omega arith);
      elements = cut_elements input p.before p.after p.report p.reports;
      text_is = p.text_is;
    }

-- where the input is known
pub printed_whole : (known : Option (List ℕ)) (read part text : List ℕ) → IfSome known (λ input. read ≡ take (input_limit + 1) input)
    → part ≡ read → Prints part text → IfSome known (λ input. Prints input text)
printed_whole None read part text k e p = tt
printed_whole (Some input) read part text k e p = prints_whole input text (subst (λ xs. Prints xs text) (e ∙ k) p)

-- and written behind what was there
pub answered : (input text bytes : List ℕ) (old new : Option (List ℕ)) → Prints input text → bytes ≡ text → Appends old new bytes
    → Answers input old new
answered input text bytes old new p e a = record {
  text = text;
  prints = p;
  only = λ t q. one_text input t text q p;
  written = subst (λ xs. Appends old new xs) e a;
}
