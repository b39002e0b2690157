use Rattle.ep_linkable.specs.Faults.{IsFaulty, interface_at}
use Rattle.ep_linkable.specs.Least.{IsLeastAt}
use Rattle.ep_linkable.proofs.imports.faulty_import.Given as goal

abbrev pub invariant-loop-number : goal.invariant-loop-number
invariant-loop-number l = IsLeastAt (IsFaulty l.units l.fault l.imports) (interface_at l.imports) l.number l.least
