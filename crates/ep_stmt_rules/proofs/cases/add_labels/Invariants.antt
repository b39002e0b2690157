use Rattle.std.proofs.Common.{◌≡◌, None, map, drop}
use Rattle.ep_built.specs.Built.{first_in, label_unbuilt}
use Rattle.ep_stmt_rules.specs.Cases.{labels_taken}
use Rattle.ep_stmt_rules.proofs.cases.add_labels.Given as goal

abbrev pub invariant-loop-label : goal.invariant-loop-label
invariant-loop-label l = record {
  built : first_in (map label_unbuilt (drop l.label-index l.labels)) ≡ None;
  same : labels_taken l.scopes l.host (drop l.label-index l.labels) l.found ≡ labels_taken l.scopes l.host l.labels l.fn.found;
}
