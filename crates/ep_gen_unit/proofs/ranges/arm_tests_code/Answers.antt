use Rattle.std.proofs.Common.{◌≡◌, ◌+◌, ◌*◌, arith, length, subst}
use Rattle.ep_gen_code.proofs.public.Growing.{on_ok}
use Rattle.ep_gen_expr.specs.ExprCode.{tests_code}
use Rattle.ep_gen_code.specs.Growth.{Grows}
use Rattle.ep_gen_unit.proofs.ranges.arm_tests_code.Goals as goal

pub returns : goal.returns
returns c =
    let body : c.in_ok-body.body ≡ length c.args.code.now.instructions + 6 * length c.args.ranges.now + 1 = omega (arith, c.in_ok-body.ensures.0, c.in_ok-start.ensures.is_length, c.in_ok-count.ensures.0) in
    on_ok c.tests_code.result (λ g. subst (λ k. Grows c.args.code.now c.tests_code.new.code (tests_code c.args.code.now.line k (length c.args.code.now.instructions) c.args.ranges.now)) body g) c.tests_code.ensures
