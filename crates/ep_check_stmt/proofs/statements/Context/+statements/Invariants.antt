use Rattle.std.proofs.Common.{◌≡◌, None, map, drop}
use Rattle.ep_built.specs.Built.{arm_unbuilt, first_in, statement_unbuilt}
use Rattle.ep_typed.specs.Viewed.{arm_of, stmt_of}
use Rattle.ep_check_stmt.specs.Contexts.{context_of}
use Rattle.ep_stmt_rules.specs.Answers.{numbered}
use Rattle.ep_threats.specs.Variables.{entire_of}
use Rattle.ep_stmt_rules.specs.Statements.{arm_judged, arms_in_order, in_order, statement_judged}
use Rattle.ep_check_stmt.proofs.CaseParts.{arms_together}
use Rattle.ep_check_stmt.proofs.Rows.{together}
use Rattle.ep_check_stmt.proofs.statements.Context.+statements.Given as goal

abbrev pub invariant-statements-loop-s : goal.invariant-statements-loop-s
invariant-statements-loop-s l = record {
  built : first_in (map statement_unbuilt (drop l.s-index l.all)) ≡ None;
  same : together (map stmt_of l.found) l.waits (in_order (map statement_judged (drop l.s-index l.all)) (numbered (context_of l.self) l.withs) (map entire_of l.controls)) ≡ in_order (map statement_judged l.all) (context_of l.self) (map entire_of l.controls);
}

abbrev pub invariant-arms-loop-a : goal.invariant-arms-loop-a
invariant-arms-loop-a l = record {
  built : first_in (map arm_unbuilt (drop l.a-index l.all)) ≡ None;
  same : arms_together (map arm_of l.found) l.waits (arms_in_order l.line l.host (map arm_judged (drop l.a-index l.all)) (numbered (context_of l.self) l.withs) (map entire_of l.controls)) ≡ arms_in_order l.line l.host (map arm_judged l.all) (context_of l.self) (map entire_of l.controls);
}
