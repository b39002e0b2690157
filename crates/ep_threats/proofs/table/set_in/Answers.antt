use Rattle.std.proofs.Common.{map, refl}
use Rattle.std.proofs.lemmas.Option.{slice_get_read}
use Rattle.ep_typed.specs.Trees as tree
use Rattle.ep_typed.specs.Trees.{stmts}
use Rattle.ep_typed.specs.Viewed.{stmt_of}
use Rattle.ep_threats.specs.RoutineForms.{with_its_block}
use Rattle.ep_threats.proofs.Inner.{form_set, there}
use Rattle.ep_threats.proofs.table.set_in.Goals as goal

pub returns-in-Some : goal.returns-in-Some
returns-in-Some c =
    form_set (with_its_block c.args.line c.args.variables (tree.Compound (stmts (map stmt_of c.args.statements)))) c.args.all.now.items c.args.number c.in-Some.routine.now c.take_block.new.routine
    (there c.args.all.now.items c.args.number c.in-Some.routine.now c.in-Some.ensures.item.3.0 c.in-Some.ensures.item.3.1) c.take_block.ensures
