use Rattle.std.proofs.Common.{false, map, take}
use Rattle.ep_typed.specs.Viewed.{item_of}
use Rattle.ep_gen_unit.specs.StmtGrowth.{AppendsItems}
use Rattle.ep_gen_unit.proofs.items.each_code.Given as goal

abbrev pub invariant-loop-item : goal.invariant-loop-item
invariant-loop-item l = AppendsItems l.fn.code l.code (map item_of (take l.item-index l.items)) false
