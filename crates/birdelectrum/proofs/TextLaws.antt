-- Numbers and a report, printed.
use Rattle.std.proofs.Common.{◌≡◌, ℕ, ◌+◌, ◌<◌, ◌≤◌, List, [], ◌∷◌, ◌++◌, length, get_or, take, codes, sym, ap, ◌∙◌}
use Rattle.std.specs.Fmt.{decimal}
use Rattle.std.specs.List.{flat_map}
use Rattle.std.proofs.lemmas.List.{take_all, take_more, flat_map_more}
use Rattle.reports.specs.declared.report.Report.{Report}
use Rattle.reports.specs.Printed.{report_text}
use Rattle.birdelectrum.specs.Printed.{number_line, printed}

module _ (numbers : List ℕ) (i : ℕ) (before after : List ℕ) (so_far : before ≡ flat_map number_line (take i numbers)) where
  -- one more number
  pub line_pushed : (n : ℕ) → i < length numbers → n ≡ get_or numbers i n → after ≡ before ++ (decimal n ++ codes "\n")
      → after ≡ flat_map number_line (take (i + 1) numbers)
  line_pushed n l at e =
      e ∙ ap (λ bs. bs ++ number_line n) so_far ∙ flat_map_more number_line [] (take i numbers) n
      ∙ ap (λ k. flat_map number_line (take i numbers ++ k ∷ [])) at ∙ ap (flat_map number_line) (sym (take_more numbers i n l))

  -- the last line
  pub report_pushed : (report : Report) → length numbers ≤ i → after ≡ before ++ (report_text report ++ codes "\n") → after ≡ printed numbers report
  report_pushed report l e =
      e ∙ ap (λ bs. bs ++ (report_text report ++ codes "\n")) (so_far ∙ ap (flat_map number_line) (take_all i numbers l))

pub ruleset text_laws = (line_pushed, report_pushed)
