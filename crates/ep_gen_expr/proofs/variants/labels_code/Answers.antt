use Rattle.std.proofs.Common.{◌∙◌, ap, length, refl, rules, arith}
use Rattle.std.specs.Prelude.{if◌then◌else◌}
use Rattle.ep_meaning.specs.Steps.{is_number}
use Rattle.ep_gen_expr.proofs.RangeForms.{labels_more}
use Rattle.ep_gen_expr.proofs.variants.labels_code.Goals as goal

pub loop-ranges-preserved : goal.loop-ranges-preserved
loop-ranges-preserved c = (
  omega (arith, c.loop-ranges.invariant.0),
  labels_more c.args.code.now c.args.good c.args.bad c.args.number c.one_of-body.result (length c.args.code.now.instructions) c.args.all.now c.loop-ranges.ranges-index _ refl c.loop-ranges-test.true (search rules)
      (c.one_of-body.ensures ∙ ap (λ b. if b then c.args.good else c.args.bad) (c.is_number.ensures ∙ ap (λ k. is_number k c.args.number) c.loop-ranges.invariant.0)) c.loop-ranges.invariant.1 c.in_ok-tests_code.ensures,
)
