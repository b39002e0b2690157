use Rattle.std.proofs.Common.{map}
use Rattle.ep_typed.specs.Trees.{actuals}
use Rattle.ep_typed.specs.Viewed.{actual_of, callee_of}
use Rattle.ep_gen_code.proofs.public.Growing.{on_ok}
use Rattle.ep_gen_unit.proofs.StmtForms.{appends_procedure}
use Rattle.ep_gen_unit.proofs.statements.procedure_code.Goals as goal

pub returns : goal.returns
returns c = on_ok c.call_code.result (appends_procedure c.args.code.now c.args.line (callee_of c.args.callee.now) (actuals (map actual_of c.args.given.now))) c.call_code.ensures
