use Rattle.std.proofs.Common.{◌≡◌, drop}
use Rattle.ep_unit_rules.specs.Formals.{parameters_added}
use Rattle.ep_unit_rules.proofs.formals.with_names.Given as goal

abbrev pub invariant-loop-name : goal.invariant-loop-name
invariant-loop-name l = parameters_added l.mode l.section l.of l.kind (drop l.name-index l.names) l.all ≡ parameters_added l.mode l.section l.of l.kind l.names l.fn.before
