use Rattle.ep_gen_code.proofs.public.Growing.{on_ok}
use Rattle.ep_gen_unit.proofs.ProgramForms.{appends_block}
use Rattle.ep_typed.specs.Viewed.{stmt_of}
use Rattle.ep_gen_unit.proofs.program.block_code.Goals as goal

pub returns : goal.returns
returns c = on_ok c.emit.result (appends_block (stmt_of c.args.block.now) c.in_ok-statement_code.ensures) c.emit.ensures
