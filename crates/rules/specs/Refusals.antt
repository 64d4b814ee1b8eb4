-- The refusals of rule texts and of records, by their numbers and values.
use Rattle.std.specs.Prelude.{ℕ, List, Some, None, Option}
use Rattle.std.specs.Fmt.{decimal}
use Rattle.labels.specs.Printed.{number_at, number_in_record}
use Rattle.rules.specs.declared.refusal.RecordRefusal.{RecordRefusal}
use Rattle.rules.specs.declared.refusal.RecordRefusal.TheVariants.{Size, Bad}
use Rattle.rules.specs.declared.refusal.TextRefusal.{TextRefusal}
use Rattle.rules.specs.declared.refusal.TextRefusal.TheVariants.{ShortList, Length, NotAllowed, LongName, ManyTests, DeepBracket}

-- the number of each refusal of a text, and its place
abbrev pub number_and_place : TextRefusal → ℕ × ℕ
number_and_place ShortList = (17, 0)
number_and_place Length = (10, 0)
number_and_place (NotAllowed p) = (11, p)
number_and_place (LongName p) = (12, p)
number_and_place (ManyTests p) = (13, p)
number_and_place (DeepBracket p) = (14, p)

abbrev pub number : TextRefusal → ℕ
number f = (number_and_place f).0

abbrev pub place : TextRefusal → ℕ
place f = (number_and_place f).1

-- the number of each refusal of records, and the record that it names
abbrev pub number_and_record : RecordRefusal → ℕ × Option ℕ
number_and_record Size = (15, None)
number_and_record (Bad i) = (16, Some i)

abbrev pub record_number : RecordRefusal → ℕ
record_number f = (number_and_record f).0

abbrev pub bad_record : RecordRefusal → Option ℕ
bad_record f = (number_and_record f).1

------------------------------------------------------------------------
-- how they are printed

abbrev pub printed_text : TextRefusal → List ℕ
printed_text f = number_at (number f) (place f)

-- the number, at the record if it names one
abbrev pub printed_number : ℕ × Option ℕ → List ℕ
printed_number (k, None) = decimal k
printed_number (k, Some i) = number_in_record k i

abbrev pub printed_record : RecordRefusal → List ℕ
printed_record f = printed_number (number_and_record f)
