-- The refusals of an input by their numbers and places.
use Rattle.std.specs.Prelude.{◌≡◌, ℕ, List}
use Rattle.labels.specs.Printed.{number_at}
use Rattle.rules.specs.Refusals as text
use Rattle.selection.specs.Answers as selecting
use Rattle.selection.specs.declared.refusal.Cause.{Cause}
use Rattle.selection.specs.declared.refusal.Cause.TheVariants.{Fault, Refused}
use Rattle.xml.specs.Faults as listing
use Rattle.xml.specs.declared.fault.XmlFault.{XmlFault}
use Rattle.reports.specs.declared.refusal.Refusal.{Refusal}
use Rattle.reports.specs.declared.refusal.Refusal.TheVariants.{Input, Rule, Listing, Selection}

-- how many bytes an input has at most
abbrev pub input_limit : ℕ
input_limit = 65536

-- how many numbers an input has to report at most
abbrev pub numbers_limit : ℕ
numbers_limit = 16384

-- A refused selection has its place at the end of the listing.
abbrev pub number_and_place : Refusal → ℕ × ℕ
number_and_place Input = (50, input_limit)
number_and_place (Rule r) = text.number_and_place r
number_and_place (Listing f) = listing.number_and_place f
number_and_place (Selection r length) = (selecting.number r, length)

abbrev pub number : Refusal → ℕ
number r = (number_and_place r).0

abbrev pub place : Refusal → ℕ
place r = (number_and_place r).1

-- how a refusal is printed
abbrev pub refusal_text : Refusal → List ℕ
refusal_text r = number_at (number r) (place r)

-- The selection from a listing of n bytes ended so.
abbrev pub Ends : Cause XmlFault → ℕ → Refusal → Type 0
Ends (Fault f) n r = r ≡ Listing f
Ends (Refused k) n r = r ≡ Selection k n
