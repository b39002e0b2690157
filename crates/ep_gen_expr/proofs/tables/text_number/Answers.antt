use Rattle.std.proofs.Common.{◌∙◌}
use Rattle.ep_gen_expr.proofs.Forms.{new_text}
use Rattle.ep_gen_expr.proofs.tables.text_number.Goals as goal

pub returns-in_ok-push-in-None : goal.returns-in_ok-push-in-None
returns-in_ok-push-in-None c =
    new_text c.args.code.now c.push.new.self c.args.bytes.now c.in_ok-number-in-None.number
    c.in-None.ensures (c.in_ok-number-in-None.ensures.0 ∙ c.count.ensures) c.in_ok-number-in-None.ensures.1 c.in_ok-push-in-None.ensures.ok
