use Rattle.std.proofs.Common.{◌≡◌, ◌-◌, ◌^◌, min, take}
use Rattle.std.specs.List.{sum_by}
use Rattle.ep_linkable.specs.declared.unit.LinkUnit.{LinkUnit}
use Rattle.ep_linkable.proofs.linkable.total_size.Given as goal

abbrev pub invariant-loop-unit : goal.invariant-loop-unit
invariant-loop-unit l = l.total ≡ min (sum_by (λ (u : LinkUnit). u.size) (take l.unit-index l.units)) (2 ^ 64 - 1)
