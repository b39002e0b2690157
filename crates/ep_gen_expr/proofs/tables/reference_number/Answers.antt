use Rattle.std.proofs.Common.{◌∙◌}
use Rattle.ep_gen_code.specs.Instructions.{reference}
use Rattle.ep_gen_expr.proofs.Forms.{new_reference}
use Rattle.ep_gen_expr.proofs.tables.reference_number.Goals as goal

pub returns-in_ok-push-in-None : goal.returns-in_ok-push-in-None
returns-in_ok-push-in-None c =
    new_reference c.args.code.now c.push.new.self (reference c.args.unit.now c.args.number) c.in_ok-place-in-None.place
    c.in-None.ensures (c.in_ok-place-in-None.ensures.0 ∙ c.count.ensures) c.in_ok-place-in-None.ensures.1 c.in_ok-push-in-None.ensures.ok
