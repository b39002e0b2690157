use Rattle.std.proofs.Common.{rules, codes, decimal}
use Rattle.ep_drive.proofs.Lines.{pieces}
use Rattle.ep_drive.proofs.report.large_line.Goals as goal

pub returns : goal.returns
returns c =
    pieces c.args.file.now (codes ": unit ") c.args.unit.now (codes " too large ") (decimal c.args.nodes) (codes "\n") c.into_bytes-text.result.items c.extend_from_slice.new.self.items c.extend_from_slice-2.new.self.items c.as_bytes.result.now c.bytes.result.now c.in_ok-extend_from_slice-2.ensures.items c.in_ok-extend_from_slice.ensures.items c.bytes.ensures.bytes (search rules) (search rules)
