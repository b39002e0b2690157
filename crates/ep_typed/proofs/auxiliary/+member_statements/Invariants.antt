use Rattle.std.proofs.Common.{◌≡◌, drop, map}
use Rattle.ep_typed.specs.Auxiliaries.{first_for_in_of, first_for_in_arms}
use Rattle.ep_typed.specs.Trees.{stmts, arms}
use Rattle.ep_typed.specs.Viewed.{stmt_of, arm_of}
use Rattle.ep_typed.proofs.auxiliary.+member_statements.Given as goal

abbrev pub invariant-first_for_in_of-loop-s : goal.invariant-first_for_in_of-loop-s
invariant-first_for_in_of-loop-s l = first_for_in_of (stmts (map stmt_of (drop l.s-index l.all))) ≡ first_for_in_of (stmts (map stmt_of l.all))

abbrev pub invariant-first_for_in_arms-loop-arm : goal.invariant-first_for_in_arms-loop-arm
invariant-first_for_in_arms-loop-arm l = first_for_in_arms (arms (map arm_of (drop l.arm-index l.all))) ≡ first_for_in_arms (arms (map arm_of l.all))
