use Rattle.std.proofs.Common.{◌≡◌, ◌+◌, ◌≤◌, min, drop, map}
use Rattle.ep_typed.specs.Nodes.{stmts_nodes, arms_nodes}
use Rattle.ep_typed.specs.Trees.{stmts, arms}
use Rattle.ep_typed.specs.Viewed.{stmt_of, arm_of}
use Rattle.ep_typed.proofs.nodes.+statements.Given as goal

abbrev pub invariant-statements-loop-s : goal.invariant-statements-loop-s
invariant-statements-loop-s l = (l.total ≤ 18446744073709551615) × (min (l.total + stmts_nodes (stmts (map stmt_of (drop l.s-index l.all)))) 18446744073709551615 ≡ min (stmts_nodes (stmts (map stmt_of l.all))) 18446744073709551615)

abbrev pub invariant-arms-loop-a : goal.invariant-arms-loop-a
invariant-arms-loop-a l = (l.total ≤ 18446744073709551615) × (min (l.total + arms_nodes (arms (map arm_of (drop l.a-index l.all)))) 18446744073709551615 ≡ min (arms_nodes (arms (map arm_of l.all))) 18446744073709551615)
