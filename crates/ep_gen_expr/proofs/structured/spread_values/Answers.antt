use Rattle.ep_gen_expr.proofs.RangeIndexes.{grows_spreads}
use Rattle.ep_gen_expr.proofs.structured.spread_values.Goals as goal

pub loop-range-preserved : goal.loop-range-preserved
loop-range-preserved c = grows_spreads c.loop-range._range c.loop-range.invariant c.in_ok-spread_value.ensures
