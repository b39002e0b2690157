use Rattle.std.proofs.Common.{OnOk, subst, sym}
use Rattle.ep_gen_expr.specs.ExprCode.{one_code}
use Rattle.ep_gen_code.specs.Growth.{Grows}
use Rattle.ep_gen_code.proofs.public.Growing.{on_ok}
use Rattle.ep_gen_expr.proofs.Forms.{grows_character}
use Rattle.ep_gen_expr.proofs.operations.apply_unary.Goals as goal

pub returns-in_ok-push_pair-in-Character : goal.returns-in_ok-push_pair-in-Character
returns-in_ok-push_pair-in-Character c =
    subst (λ o. OnOk c.emit-in-Character.result (Grows c.args.code.now c.emit-in-Character.new.code (one_code c.args.code.now.line o))) (sym c.in-Character.is)
    (on_ok c.emit-in-Character.result (grows_character c.in_ok-push_pair-in-Character.ensures) c.emit-in-Character.ensures)
