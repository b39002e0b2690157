use Rattle.std.proofs.Common.{◌≡◌, drop}
use Rattle.ep_check_unit.specs.Units.{first_missing}
use Rattle.ep_check_unit.proofs.component.all_there.Given as goal

abbrev pub invariant-loop-forward : goal.invariant-loop-forward
invariant-loop-forward l = first_missing (drop l.forward-index l.forwards) l.bodies ≡ first_missing l.forwards l.bodies
