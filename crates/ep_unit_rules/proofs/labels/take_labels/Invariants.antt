use Rattle.std.proofs.Common.{◌≡◌, None, drop, map}
use Rattle.ep_built.specs.Built.{first_in, label_unbuilt}
use Rattle.ep_unit_rules.specs.Labels.{labels_taken}
use Rattle.ep_unit_rules.proofs.labels.take_labels.Given as goal

abbrev pub invariant-loop-label : goal.invariant-loop-label
invariant-loop-label l = record {
  built : first_in (map label_unbuilt (drop l.label-index l.labels)) ≡ None;
  same : labels_taken l.scopes l.values (drop l.label-index l.labels) l.found ≡ labels_taken l.scopes l.values l.labels l.initial.found;
}
