use Rattle.std.proofs.Common.{◌≡◌, ◌+◌, drop}
use Rattle.std.specs.List.{prefix_len}
use Rattle.ep_token.specs.Numbers.{continues_number}
use Rattle.ep_token.proofs.number.number_end.Given as goal

abbrev pub invariant-loop-i : goal.invariant-loop-i
invariant-loop-i l = l.i + prefix_len continues_number (drop l.i l.bytes) ≡ prefix_len continues_number l.bytes
