use Rattle.std.proofs.Common.{◌≡◌, ◌+◌, ◌≤◌, min, drop}
use Rattle.ep_gen_unit.specs.TagCode.{selections_length}
use Rattle.ep_gen_unit.proofs.tags.selections_length.Given as goal

abbrev pub invariant-loop-ranges : goal.invariant-loop-ranges
invariant-loop-ranges l = (l.total ≤ 18446744073709551615) × (min (l.total + selections_length (drop l.ranges-index l.all)) 18446744073709551615 ≡ min (selections_length l.all) 18446744073709551615)
