use Rattle.std.proofs.Common.{◌≡◌, take}
use Rattle.ep_gen_code.specs.Growth.{Grows}
use Rattle.ep_gen_unit.specs.TagCode.{clears_code}
use Rattle.ep_gen_unit.proofs.tags.clears_code.Given as goal

abbrev pub invariant-loop-ranges : goal.invariant-loop-ranges
invariant-loop-ranges l = (l.index ≡ l.ranges-index) × Grows l.fn.code l.code (clears_code l.fn.code.line l.first (take l.ranges-index l.all))
