use Rattle.ep_typed.specs.Trees.{entire}
use Rattle.ep_typed.specs.Viewed.{entire_of, expr_of}
use Rattle.ep_gen_code.proofs.public.Growing.{on_ok}
use Rattle.ep_gen_unit.proofs.StmtForms.{appends_assign}
use Rattle.ep_gen_unit.proofs.loops.assign_entire.Goals as goal

pub returns : goal.returns
returns c = on_ok c.emit.result (appends_assign c.args.code.now c.args.line (entire (entire_of c.args.variable.now)) (expr_of c.args.value.now) c.in_ok-entire_code.ensures c.in_ok-expression_code.ensures) c.emit.ensures
