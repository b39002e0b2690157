use Rattle.ep_typed.specs.Trees.{entire, Read}
use Rattle.ep_typed.specs.Viewed.{entire_of}
use Rattle.ep_gen_code.proofs.public.Growing.{on_ok}
use Rattle.ep_gen_unit.proofs.StmtForms.{appends_assign}
use Rattle.ep_gen_unit.proofs.loops.assign_read.Goals as goal

pub returns : goal.returns
returns c = on_ok c.emit.result (appends_assign c.args.code.now c.args.line (entire (entire_of c.args.variable.now)) (Read (entire (entire_of c.args.from.now))) c.in_ok-entire_code.ensures c.in_ok-entire_value_code.ensures) c.emit.ensures
