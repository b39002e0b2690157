use Rattle.ep_typed.specs.Viewed.{member_control_of}
use Rattle.ep_gen_code.proofs.public.Growing.{on_ok}
use Rattle.ep_gen_expr.proofs.MemberForms.{appends_others}
use Rattle.ep_gen_expr.proofs.controls.others_code.Goals as goal

pub returns : goal.returns
returns c =
    on_ok c.apply_on_sets.result (appends_others (member_control_of c.args.control.now) c.in_ok-entire_value_code.ensures c.in_ok-emit.ensures c.in_ok-entire_value_code-2.ensures c.in_ok-apply_unary.ensures c.in_ok-emit-2.ensures) c.apply_on_sets.ensures
