use Rattle.std.proofs.Common.{◌≡◌, take}
use Rattle.ep_rows.specs.Records.{pushed}
use Rattle.ep_rows.proofs.records.put_back.Given as goal

abbrev pub invariant-loop-w : goal.invariant-loop-w
invariant-loop-w l = l.stack ≡ pushed (take l.w-index l.words) l.fn.stack
