use Rattle.std.proofs.Common.{◌≡◌, length, take}
use Rattle.ep_gen_code.specs.Growth.{Grows}
use Rattle.ep_gen_unit.specs.TagCode.{selections_code}
use Rattle.ep_gen_unit.proofs.tags.selections_code.Given as goal

abbrev pub invariant-loop-ranges : goal.invariant-loop-ranges
invariant-loop-ranges l = (l.index ≡ l.ranges-index) × Grows l.fn.code l.code (selections_code l.fn.code.line l.leave 0 (length l.fn.code.instructions) (take l.ranges-index l.all))
