use Rattle.ep_typed.specs.Viewed.{member_control_of}
use Rattle.ep_gen_code.proofs.public.Growing.{on_ok}
use Rattle.ep_gen_unit.proofs.MemberForms.{appends_more}
use Rattle.ep_gen_unit.proofs.loops.more_code.Goals as goal

pub returns : goal.returns
returns c = on_ok c.has_more_code.result (appends_more c.args.code.now c.args.line (member_control_of c.args.control.now)) c.has_more_code.ensures
