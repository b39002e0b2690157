use Rattle.std.proofs.Common.{get_or, w64, arith}
use Rattle.std.proofs.lemmas.Int.{to_z_pos}
use Rattle.ep_gen_expr.proofs.StructuredForms.{grows_step}
use Rattle.ep_gen_expr.proofs.structured.follow_steps.Goals as goal

pub loop-number-preserved : goal.loop-number-preserved
loop-number-preserved c =
    let number = to_z_pos w64 (get_or c.args.steps.now c.loop-number.number-index 0) (omega (arith, c.type_inv.steps c.loop-number.number-index)) in
    grows_step c.args.steps.now c.loop-number.number-index c.loop-number-test.true c.loop-number.invariant (rw number at c.in_ok-emit.ensures)
