use Rattle.std.proofs.Common.{◌≡◌, drop, map}
use Rattle.ep_stmt_rules.specs.Answers.{result_of}
use Rattle.ep_stmt_rules.specs.Statements.{function_target}
use Rattle.ep_stmt_rules.proofs.targets.function_target.Given as goal

abbrev pub invariant-loop-function : goal.invariant-loop-function
invariant-loop-function l = function_target l.depth l.unit l.declared (map result_of (drop l.function-index l.results)) ≡ function_target l.depth l.unit l.declared (map result_of l.results)
