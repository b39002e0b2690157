use Rattle.ep_typed.specs.Viewed.{member_control_of}
use Rattle.ep_gen_code.proofs.public.Growing.{on_ok}
use Rattle.ep_gen_unit.proofs.MemberForms.{appends_least}
use Rattle.ep_gen_unit.proofs.loops.least_code.Goals as goal

pub returns : goal.returns
returns c =
    on_ok c.emit-3.result (appends_least c.args.code.now c.args.line (member_control_of c.args.control.now) c.in_ok-entire_code.ensures c.in_ok-emit.ensures c.in_ok-entire_value_code.ensures c.in_ok-emit-2.ensures) c.emit-3.ensures
