use Rattle.ep_typed.specs.Viewed.{member_control_of}
use Rattle.ep_gen_code.proofs.public.Growing.{on_ok}
use Rattle.ep_gen_unit.proofs.MemberForms.{appends_kept}
use Rattle.ep_gen_unit.proofs.loops.kept_code.Goals as goal

pub returns : goal.returns
returns c = on_ok c.others_code.result (appends_kept c.args.code.now c.args.line (member_control_of c.args.control.now) c.in_ok-entire_code.ensures) c.others_code.ensures
