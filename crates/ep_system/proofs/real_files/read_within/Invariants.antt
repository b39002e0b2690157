use Rattle.std.proofs.Common.{◌+◌, ◌≤◌, vec_len}
use Rattle.ep_system.proofs.real_files.read_within.Given as goal

abbrev pub invariant-loop : goal.invariant-loop
invariant-loop g l = vec_len l.bytes ≤ l.limit + 1
