use Rattle.ep_linkable.proofs.Faults.{no_fault_is, none_fault}
use Rattle.ep_linkable.proofs.imports.no_fault.Goals as goal

pub returns-in-None-clause-none : goal.returns-in-None-clause-none
returns-in-None-clause-none c = no_fault_is c.args.units.now c.args.fault c.in-None.ensures

pub returns-in-None-clause-next : goal.returns-in-None-clause-next
returns-in-None-clause-next c =
    none_fault c.args.units.now c.args.fault (no_fault_is c.args.units.now c.args.fault c.in-None.ensures)
    c.requires.none
