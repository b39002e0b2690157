use Rattle.ep_linkable.specs.Faults.{IsFaultyUnit}
use Rattle.ep_linkable.specs.Least.{IsLeastAt}
use Rattle.ep_linkable.specs.Units.{name_at}
use Rattle.ep_linkable.proofs.imports.faulty_unit.Given as goal

abbrev pub invariant-loop-place : goal.invariant-loop-place
invariant-loop-place l = IsLeastAt (IsFaultyUnit l.units l.fault) (name_at l.units) l.place l.least
