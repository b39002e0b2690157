use Rattle.std.proofs.Common.{◌≡◌, None, map, drop}
use Rattle.std.specs.Option.{option_map}
use Rattle.ep_built.specs.Built.{first_in, written_unbuilt}
use Rattle.ep_check_expr.specs.Expressions.{given}
use Rattle.ep_stmt_rules.specs.Answers.{items_of}
use Rattle.ep_stmt_rules.specs.Statements.{items_judged}
use Rattle.ep_stmt_rules.proofs.Gathered.{gathered}
use Rattle.ep_stmt_rules.proofs.writing.items.Given as goal

abbrev pub invariant-loop-argument : goal.invariant-loop-argument
invariant-loop-argument l = record {
  built : first_in (map written_unbuilt (drop l.argument-index l.arguments)) ≡ None;
  same : gathered (option_map items_of l.items) (items_judged (map (given l.scopes) (drop l.argument-index l.arguments))) ≡ items_judged (map (given l.scopes) l.arguments);
}
