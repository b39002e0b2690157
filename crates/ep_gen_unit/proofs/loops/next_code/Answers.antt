use Rattle.ep_meaning.specs.Controls.{next_value}
use Rattle.ep_typed.specs.Trees.{entire}
use Rattle.ep_typed.specs.Viewed.{control_of}
use Rattle.ep_gen_code.proofs.public.Growing.{on_ok}
use Rattle.ep_gen_unit.proofs.StmtForms.{appends_assign}
use Rattle.ep_gen_unit.proofs.loops.next_code.Goals as goal

pub returns : goal.returns
returns c = on_ok c.emit.result (appends_assign c.args.code.now c.args.line (entire (control_of c.args.control.now).variable) (next_value (control_of c.args.control.now)) c.in_ok-entire_code.ensures c.in_ok-next_value_code.ensures) c.emit.ensures
