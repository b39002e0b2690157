use Rattle.ep_typed.specs.Viewed.{entire_of}
use Rattle.ep_gen_code.proofs.public.Growing.{on_ok}
use Rattle.ep_gen_unit.proofs.ForForms.{appends_undefine}
use Rattle.ep_gen_unit.proofs.loops.undefine_code.Goals as goal

pub returns : goal.returns
returns c = on_ok c.emit.result (appends_undefine c.args.code.now c.args.line (entire_of c.args.variable.now) c.in_ok-entire_code.ensures) c.emit.ensures
