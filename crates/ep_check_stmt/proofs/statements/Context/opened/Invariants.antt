use Rattle.std.proofs.Common.{◌≡◌, None, map, drop}
use Rattle.ep_built.specs.Built.{access_unbuilt, first_in}
use Rattle.ep_check_stmt.specs.Contexts.{context_of}
use Rattle.ep_stmt_rules.specs.Answers.{opened_of}
use Rattle.ep_stmt_rules.specs.Statements.{none_opened, records_opened}
use Rattle.ep_check_stmt.proofs.statements.Context.opened.Given as goal

abbrev pub invariant-loop-access : goal.invariant-loop-access
invariant-loop-access l = record {
  built : first_in (map access_unbuilt (drop l.access-index l.accesses)) ≡ None;
  same : records_opened (context_of l.self) (drop l.access-index l.accesses) (opened_of l.opened) ≡ records_opened (context_of l.self) l.accesses (none_opened (context_of l.self));
}
