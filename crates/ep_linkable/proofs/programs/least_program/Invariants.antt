use Rattle.ep_linkable.specs.Faults.{IsOtherProgram}
use Rattle.ep_linkable.specs.Least.{IsLeastAt}
use Rattle.ep_linkable.specs.Units.{name_at}
use Rattle.ep_linkable.proofs.programs.least_program.Given as goal

abbrev pub invariant-loop-place : goal.invariant-loop-place
invariant-loop-place l = IsLeastAt (IsOtherProgram l.units l.but) (name_at l.units) l.place l.least
