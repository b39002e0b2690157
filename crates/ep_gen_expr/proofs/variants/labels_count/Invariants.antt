use Rattle.std.proofs.Common.{◌≡◌, ◌+◌, ◌≤◌, min, drop}
use Rattle.ep_gen_expr.specs.ExprCode.{labels_count}
use Rattle.ep_gen_expr.proofs.variants.labels_count.Given as goal

abbrev pub invariant-loop-ranges : goal.invariant-loop-ranges
invariant-loop-ranges l = (l.total ≤ 18446744073709551615) × (min (l.total + labels_count (drop l.ranges-index l.all)) 18446744073709551615 ≡ min (labels_count l.all) 18446744073709551615)
