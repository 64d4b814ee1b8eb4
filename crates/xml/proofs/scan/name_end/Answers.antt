use Rattle.xml.specs.Markup.NameFault.{ended, no_start, long}
use Rattle.xml.proofs.scan.name_end.Goals as goal

pub returns-in-Err-TooLong : goal.returns-in-Err-TooLong
returns-in-Err-TooLong c = let u = rw c.in-Err-TooLong.field-0-is at c.in-Err-TooLong.ensures in long c.in-Err-TooLong.field-0-0 u.0 u.1

pub returns-in-Err-Missing : goal.returns-in-Err-Missing
returns-in-Err-Missing c = no_start c.if-at-input.true (rw c.in-Err-Missing.field-0-is at c.in-Err-Missing.ensures)

pub returns-in-Err-Missing-2 : goal.returns-in-Err-Missing-2
returns-in-Err-Missing-2 c = ended c.if-at-input.false
