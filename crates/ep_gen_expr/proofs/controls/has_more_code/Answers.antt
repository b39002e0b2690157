use Rattle.ep_typed.specs.Viewed.{member_control_of}
use Rattle.ep_gen_code.proofs.public.Growing.{on_ok}
use Rattle.ep_gen_expr.proofs.MemberForms.{appends_has_more}
use Rattle.ep_gen_expr.proofs.controls.has_more_code.Goals as goal

pub returns : goal.returns
returns c = on_ok c.apply_on_sets.result (appends_has_more (member_control_of c.args.control.now) c.in_ok-entire_value_code.ensures c.in_ok-emit.ensures) c.apply_on_sets.ensures
