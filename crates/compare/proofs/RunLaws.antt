-- What is read and printed.
use Rattle.std.proofs.Common.{Option, Some, None, ◌≡◌, ℕ, ◌+◌, List, length, take, subst, sym, arith}
use Rattle.std.specs.Prelude.{IfSome}
use Rattle.std.specs.Io.KnownBytes.{Appends}
use Rattle.reports.specs.declared.refusal.Refusal.{Refusal}
use Rattle.reports.specs.Refusals.{input_limit, numbers_limit}
use Rattle.reports.specs.Reports.{Bad}
use Rattle.reports.proofs.Cut.{cut_bad, cut_asks}
use Rattle.compare.specs.declared.comparison.Comparison.{Comparison}
use Rattle.compare.specs.Compared.{Compared}
use Rattle.compare.specs.Printed.{ComparisonText, refused_line, Prints, Answers}
use Rattle.compare.proofs.Reported.{compared_unrefused}

-- a comparison is printed
pub prints_compared : (input before₁ before₂ after₁ after₂ text : List ℕ) (c : Comparison) → ComparisonText c after₁ after₂ text
    → Compared input before₁ before₂ c after₁ after₂ → length before₁ ≡ numbers_limit → length before₂ ≡ numbers_limit → Prints input text
prints_compared input before₁ before₂ after₁ after₂ text c is known many₁ many₂ =
    Prints.compared many₁ many₂ known (compared_unrefused input before₁ before₂ c after₁ after₂ known (omega arith) (omega arith)) is

-- or a refusal
pub prints_refused : (input text : List ℕ) (r : Refusal) → Bad input r → text ≡ refused_line r → Prints input text
prints_refused input text r bad is = subst (Prints input) (sym is) (Prints.refused bad)

pub ruleset print_laws = (prints_compared, prints_refused)

-- what is said of the part that is read is said of the whole
compared_whole : (input before₁ before₂ after₁ after₂ : List ℕ) (c : Comparison) → Compared (take (input_limit + 1) input) before₁ before₂ c after₁ after₂
    → Compared input before₁ before₂ c after₁ after₂
compared_whole input before₁ before₂ after₁ after₂ c k = record {
  line = k.line;
  tests = k.tests;
  rest = k.rest;
  asks = cut_asks input k.line k.rest k.tests k.asks;
  one = k.one;
  two = k.two;
  split = k.split;
  first = k.first;
  first_nodes = k.first_nodes;
  second = k.second;
  second_nodes = k.second_nodes;
  agreement = k.agreement;
  paired = k.paired;
}

prints_whole : (input text : List ℕ) → Prints (take (input_limit + 1) input) text → Prints input text
prints_whole input text (Prints.refused bad) = Prints.refused (cut_bad input bad)
prints_whole input text (Prints.compared many₁ many₂ known unrefused is) =
    Prints.compared many₁ many₂ (compared_whole input _ _ _ _ _ known) unrefused is

pub written : (input text bytes : List ℕ) (old new : Option (List ℕ)) → Prints input text → bytes ≡ text → Appends old new bytes
    → Answers (Some input) old new
written input text bytes old new p e a = Answers.known p (subst (λ bs. Appends old new bs) e a)

pub answered : (known old new : Option (List ℕ)) (read : List ℕ) → Answers (Some read) old new
    → IfSome known (λ input. read ≡ take (input_limit + 1) input) → Answers known old new
answered None old new read w k = Answers.unknown
answered (Some input) old new read (Answers.known {text = text} p a) k = Answers.known (prints_whole input text (subst (λ bs. Prints bs text) k p)) a
