use Rattle.std.proofs.Common.{map}
use Rattle.ep_typed.specs.Trees as tree
use Rattle.ep_typed.specs.Trees.{stmts}
use Rattle.ep_typed.specs.Viewed.{stmt_of}
use Rattle.ep_threats.proofs.Inner.{places-set}
use Rattle.ep_threats.proofs.table.RoutineTable.set_block.Goals as goal

pub invariant_of-self : goal.invariant_of-self
invariant_of-self c =
    places-set c.self.inside.places.entries c.self.inside.all.items c.set_in.new.all.items c.args.number c.args.line c.args.variables (tree.Compound (stmts (map stmt_of c.args.statements)))
    c.self.invariant c.set_in.ensures
