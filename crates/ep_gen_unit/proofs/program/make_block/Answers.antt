use Rattle.ep_typed.specs.Viewed.{stmt_of}
use Rattle.ep_gen_unit.proofs.ProgramForms.{block_made}
use Rattle.ep_gen_unit.proofs.program.make_block.Goals as goal

pub returns : goal.returns
returns c =
    block_made c.args.code.now c.args.first c.in_ok-middle.middle c.in_ok-behind.behind c.args.variables.now c.in_ok-auxiliaries.auxiliaries c.items.result.now c.items-2.result.now (stmt_of c.args.block.now) c.in_ok-middle.ensures c.in_ok-auxiliaries.ensures c.items.ensures c.items-2.ensures c.in_ok-behind.ensures c.in_ok-make_all.ensures c.in_ok-make_all-2.ensures
