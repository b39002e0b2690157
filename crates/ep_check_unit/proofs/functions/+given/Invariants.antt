use Rattle.std.proofs.Common.{◌≡◌, drop, map}
use Rattle.ep_check_unit.specs.Routines.{given_among, part_judged}
use Rattle.ep_check_unit.proofs.functions.+given.Given as goal

abbrev pub invariant-parts_give-loop-part : goal.invariant-parts_give-loop-part
invariant-parts_give-loop-part l = given_among l.named l.name (map part_judged (drop l.part-index l.parts)) ≡ given_among l.named l.name (map part_judged l.parts)
