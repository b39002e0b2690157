use Rattle.std.proofs.Common.{subst, sym}
use Rattle.ep_gen_expr.specs.ExprCode.{keep_code}
use Rattle.ep_gen_code.specs.Growth.{Grows}
use Rattle.ep_gen_code.proofs.public.Growing.{on_ok}
use Rattle.ep_gen_expr.proofs.Forms.{grows_twice}
use Rattle.ep_gen_expr.proofs.operations.twice.Goals as goal

pub returns-in-OrElse : goal.returns-in-OrElse
returns-in-OrElse c =
    on_ok c.emit-in-OrElse.result (λ negated. subst (λ operation. Grows c.args.code.now c.emit-in-OrElse.new.code (keep_code c.args.code.now.line operation)) (sym c.in-OrElse.is) (grows_twice c.in_ok-emit.ensures negated)) c.emit-in-OrElse.ensures
