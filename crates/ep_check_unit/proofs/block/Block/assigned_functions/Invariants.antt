use Rattle.std.proofs.Common.{◌≡◌, ◌++◌, drop, map}
use Rattle.ep_stmt_rules.specs.Answers.{result_of}
use Rattle.ep_check_unit.specs.Functions.{assigned_functions}
use Rattle.ep_check_unit.proofs.block.Block.assigned_functions.Given as goal

abbrev pub invariant-loop-place : goal.invariant-loop-place
invariant-loop-place l = map result_of l.all ++ assigned_functions (drop l.place l.enclosing) ≡ assigned_functions l.enclosing
