use Rattle.std.proofs.Common.{◌≡◌, None, map, drop}
use Rattle.ep_built.specs.Built.{arm_unbuilt, first_in}
use Rattle.ep_stmt_rules.specs.Answers.{labels_of}
use Rattle.ep_stmt_rules.specs.Cases.{arms_taken}
use Rattle.ep_stmt_rules.proofs.cases.all_labels.Given as goal

abbrev pub invariant-loop-arm : goal.invariant-loop-arm
invariant-loop-arm l = record {
  built : first_in (map arm_unbuilt (drop l.arm-index l.arms)) ≡ None;
  same : arms_taken l.scopes l.host (map labels_of (drop l.arm-index l.arms)) l.found ≡ arms_taken l.scopes l.host (map labels_of l.arms) l.fn.found;
}
