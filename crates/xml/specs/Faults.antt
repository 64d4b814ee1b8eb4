-- The faults of a listing, and of a look ahead, by their numbers and places.
use Rattle.std.specs.Prelude.{ℕ, List, Some, None, Option}
use Rattle.std.specs.Fmt.{decimal}
use Rattle.labels.specs.Printed.{number_at}
use Rattle.xml.specs.declared.fault.ScanFault.{ScanFault}
use Rattle.xml.specs.declared.fault.ScanFault.TheVariants.{Byte, End, LongName}
use Rattle.xml.specs.declared.fault.LookFault.{LookFault}
use Rattle.xml.specs.declared.fault.LookFault.TheVariants.{Listing, Begun}
use Rattle.xml.specs.declared.fault.XmlFault.{XmlFault}
use Rattle.xml.specs.declared.fault.XmlFault.TheVariants.{Scan, WrongName, NotComment, Deep}

-- the number of each fault that a scan finds, and its place
abbrev pub scan_number_and_place : ScanFault → ℕ × ℕ
scan_number_and_place (Byte p) = (30, p)
scan_number_and_place (End p) = (31, p)
scan_number_and_place (LongName p) = (32, p)

abbrev pub scan_number : ScanFault → ℕ
scan_number f = (scan_number_and_place f).0

abbrev pub scan_place : ScanFault → ℕ
scan_place f = (scan_number_and_place f).1

-- of each fault of a listing
abbrev pub number_and_place : XmlFault → ℕ × ℕ
number_and_place (Scan f) = scan_number_and_place f
number_and_place (WrongName p) = (33, p)
number_and_place (NotComment p) = (34, p)
number_and_place (Deep p) = (35, p)

abbrev pub number : XmlFault → ℕ
number f = (number_and_place f).0

abbrev pub place : XmlFault → ℕ
place f = (number_and_place f).1

-- A look ahead has the listing's fault, or 25, which has no place.
abbrev pub look_number_and_place : LookFault → ℕ × Option ℕ
look_number_and_place (Listing f) = (number f, Some (place f))
look_number_and_place Begun = (25, None)

abbrev pub look_number : LookFault → ℕ
look_number f = (look_number_and_place f).0

abbrev pub look_place : LookFault → Option ℕ
look_place f = (look_number_and_place f).1

------------------------------------------------------------------------
-- how they are printed

abbrev pub fault_text : XmlFault → List ℕ
fault_text f = number_at (number f) (place f)

-- the number, at the place if it has one
abbrev pub printed : ℕ × Option ℕ → List ℕ
printed (k, None) = decimal k
printed (k, Some p) = number_at k p

abbrev pub look_text : LookFault → List ℕ
look_text f = printed (look_number_and_place f)
