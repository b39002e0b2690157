use Rattle.std.proofs.Common.{sym}
use Rattle.ep_check_stmt.proofs.Called.{written_arguments}
use Rattle.ep_check_stmt.proofs.statements.Context.call.Goals as goal

pub call_required-requires : goal.call_required-requires
call_required-requires c = written_arguments c.args.access.now c.in-Some.arguments.now c.requires.arguments (sym c.in-Some.ensures)

pub call_declared-requires : goal.call_declared-requires
call_declared-requires c = written_arguments c.args.access.now c.in-Some.arguments.now c.requires.arguments (sym c.in-Some.ensures)
