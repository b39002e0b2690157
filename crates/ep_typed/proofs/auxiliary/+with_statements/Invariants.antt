use Rattle.std.proofs.Common.{◌≡◌, ◌+◌, ◌≤◌, min, drop, length, map}
use Rattle.ep_typed.specs.Auxiliaries.{with_variables_of, with_variables_in}
use Rattle.ep_typed.specs.Trees.{stmts, arms}
use Rattle.ep_typed.specs.Viewed.{stmt_of, arm_of}
use Rattle.ep_typed.proofs.auxiliary.+with_statements.Given as goal

abbrev pub invariant-with_count_of-loop-s : goal.invariant-with_count_of-loop-s
invariant-with_count_of-loop-s l = (l.total ≤ 18446744073709551615) × (min (l.total + length (with_variables_of (stmts (map stmt_of (drop l.s-index l.all))))) 18446744073709551615 ≡ min (length (with_variables_of (stmts (map stmt_of l.all)))) 18446744073709551615)

abbrev pub invariant-with_count_in-loop-arm : goal.invariant-with_count_in-loop-arm
invariant-with_count_in-loop-arm l = (l.total ≤ 18446744073709551615) × (min (l.total + length (with_variables_in (arms (map arm_of (drop l.arm-index l.all))))) 18446744073709551615 ≡ min (length (with_variables_in (arms (map arm_of l.all)))) 18446744073709551615)
