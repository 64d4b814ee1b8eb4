-- The faults of a folder table by their numbers and records.
use Rattle.std.specs.Prelude.{ℕ, List}
use Rattle.labels.specs.Printed.{number_in_record}
use Rattle.sources.specs.declared.fault.TableFault.{TableFault}
use Rattle.sources.specs.declared.fault.TableFault.TheVariants.{WrongDepth}

-- the number of each fault, and its record
abbrev pub number_and_record : TableFault → ℕ × ℕ
number_and_record (WrongDepth n) = (40, n)

abbrev pub number : TableFault → ℕ
number f = (number_and_record f).0

abbrev pub record_number : TableFault → ℕ
record_number f = (number_and_record f).1

-- how a fault is printed
abbrev pub fault_text : TableFault → List ℕ
fault_text f = number_in_record (number f) (record_number f)
