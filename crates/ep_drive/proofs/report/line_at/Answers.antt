use Rattle.std.proofs.Common.{rules, append_assoc}
use Rattle.ep_drive.proofs.report.line_at.Goals as goal

pub returns : goal.returns
returns c = search (rules, append_assoc)
