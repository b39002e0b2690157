use Rattle.std.proofs.Common.{rules, append_assoc}
use Rattle.ep_drive.proofs.report.line_of.Goals as goal

pub returns-in_ok-format-in-TooLong : goal.returns-in_ok-format-in-TooLong
returns-in_ok-format-in-TooLong c = rw c.in-TooLong.is (first_of (search (rules, append_assoc), grind (rules, append_assoc)))
