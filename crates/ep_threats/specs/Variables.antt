-- Entire variables (ISO 10206, 6.5.2) whose names are borrowed.
use Rattle.ep_typed.specs.Trees.{OfUnit, OfRoutine}
use Rattle.ep_typed.specs.Trees as tree
use Rattle.ep_threats.specs.declared.threats.Entire.{Entire}
use Rattle.ep_threats.specs.declared.threats.Entire.TheVariants as entire

-- an entire variable, of which threats are asked
abbrev pub entire_of : Entire → tree.Entire
entire_of (entire.Variable unit number) = OfUnit unit.now number
entire_of (entire.Own up number) = OfRoutine up number
