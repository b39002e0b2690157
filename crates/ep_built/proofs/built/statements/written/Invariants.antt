use Rattle.std.proofs.Common.{◌≡◌, drop, map}
use Rattle.ep_built.specs.Built.{first_in, written_unbuilt}
use Rattle.ep_built.proofs.built.statements.written.Given as goal

abbrev pub invariant-loop-a : goal.invariant-loop-a
invariant-loop-a l = first_in (map written_unbuilt (drop l.a-index l.all)) ≡ first_in (map written_unbuilt l.all)
