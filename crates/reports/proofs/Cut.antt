-- An input that was read no further than one byte behind the limit is reported as the whole.
use Rattle.std.proofs.Common.{Ok, ◌≡◌, ℕ, ◌+◌, ◌<◌, ◌≤◌, ◌⊎◌, List, length, take, subst, inl, inr, arith}
use Rattle.std.proofs.lemmas.Bool.{cases_lt}
use Rattle.std.proofs.lemmas.List.{take_all, length-take-le}
use Rattle.rules.specs.declared.syntax.ParsedNode.{ParsedNode}
use Rattle.reports.specs.declared.refusal.Refusal.{Refusal}
use Rattle.reports.specs.declared.refusal.Refusal.TheVariants.{Rule}
use Rattle.reports.specs.declared.report.Report.{Report}
use Rattle.reports.specs.Refusals.{input_limit, numbers_limit}
use Rattle.reports.specs.Elements.{WithRoom, SelectsElements}
use Rattle.reports.specs.Reports.{Bad, Asks, Reports, OnlyReports}
use Rattle.reports.proofs.ElementLaws.{reports_elements}
use Rattle.reports.proofs.OneReport.{only_report, with_room}

-- a list of n elements at most is read to its end
pub cut_all : (n : ℕ) (bs : List ℕ) → length bs ≤ n → take (n + 1) bs ≡ bs
cut_all n bs h = take_all (n + 1) bs (omega arith)

-- of a longer one more than n are read
pub cut_long : (n : ℕ) (bs : List ℕ) → n < length bs → length (take (n + 1) bs) ≡ n + 1
cut_long n bs h = length-take-le (n + 1) bs (omega arith)

-- so where no more than n are read, these are all
pub cut_short : (n : ℕ) (bs : List ℕ) → length (take (n + 1) bs) ≤ n → (length bs ≤ n) × (take (n + 1) bs ≡ bs)
cut_short n bs h = go (cases_lt n (length bs))
  where
    go : ((n < length bs) ⊎ (length bs ≤ n)) → (length bs ≤ n) × (take (n + 1) bs ≡ bs)
    go (inl l) = absurd (omega (arith, cut_long n bs l))
    go (inr l) = (l, cut_all n bs l)

-- and where more are read, there are more
pub cut_over : (n : ℕ) (bs : List ℕ) → n < length (take (n + 1) bs) → n < length bs
cut_over n bs h = go (cases_lt n (length bs))
  where
    go : ((n < length bs) ⊎ (length bs ≤ n)) → n < length bs
    go (inl l) = l
    go (inr l) = absurd (let e = cut_all n bs l in omega (arith, subst (λ (xs : List ℕ). n < length xs) e h))

-- The part of an input that is read is refused as the whole,
pub cut_bad : (bs : List ℕ) {r : Refusal} → Bad (take (input_limit + 1) bs) r → Bad bs r
cut_bad bs (Bad.too_long h) = Bad.too_long (cut_over input_limit bs h)
cut_bad bs (Bad.bad_rule f h s t) =
    subst (λ xs. Bad xs (Rule f)) (cut_short input_limit bs h).1 (Bad.bad_rule f h s t)

-- and asks what the whole asks
pub cut_asks : (bs line rest : List ℕ) (ns : List ParsedNode) → Asks (take (input_limit + 1) bs) line ns rest → Asks bs line ns rest
cut_asks bs line rest ns a = subst (λ xs. Asks xs line ns rest) (cut_short input_limit bs a.fits).1 a

reports_whole : (bs before after : List ℕ) (report : Report) → Reports (take (input_limit + 1) bs) before report after → Reports bs before report after
reports_whole bs before after report (Reports.bad r b) = Reports.bad r (cut_bad bs b)
reports_whole bs before after report (Reports.selected {line = line} {listing = listing} {ns = ns} a s) =
    Reports.selected (cut_asks bs line listing ns a) s

-- So the one report on that part is the one on the whole.
pub cut_reports : (bs before after : List ℕ) (report : Report) → OnlyReports (take (input_limit + 1) bs) before report after
    → OnlyReports bs before report after
cut_reports bs before after report (OnlyReports.only h _) = only_report bs before after report (reports_whole bs before after report h)

pub cut_room : (bs before after : List ℕ) (report : Report) → OnlyReports (take (input_limit + 1) bs) before report after
    → numbers_limit ≤ length before → WithRoom bs report
cut_room bs before after report (OnlyReports.only h _) wide = with_room bs before after report (reports_whole bs before after report h) wide

pub cut_elements : (bs before after : List ℕ) (report : Report) → OnlyReports (take (input_limit + 1) bs) before report after
    → report.verdict ≡ Ok tt → SelectsElements bs (take report.reported after)
cut_elements bs before after report (OnlyReports.only h _) fine =
    reports_elements bs before after report (reports_whole bs before after report h) fine
