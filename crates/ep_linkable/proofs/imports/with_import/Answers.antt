use Rattle.std.proofs.Common.{◌≡◌, false, true, refl}
use Rattle.ep_linkable.specs.Faults.{IsFaulty, interface_at}
use Rattle.ep_linkable.proofs.Faults.{import_read, not_faulty}
use Rattle.ep_linkable.proofs.Leasts.{least_chosen, least_kept, least_within}
use Rattle.ep_linkable.proofs.imports.with_import.Goals as goal

pub lesser_import-requires-clause-least : goal.lesser_import-requires-clause-least
lesser_import-requires-clause-least c =
    least_within (IsFaulty c.args.units.now c.args.fault c.args.imports.now) (interface_at c.args.imports.now)
    c.args.number _ c.args.least c.requires.within c.requires.least

pub returns-then-has_fault : goal.returns-then-has_fault
returns-then-has_fault c =
    least_chosen (IsFaulty c.args.units.now c.args.fault c.args.imports.now) (interface_at c.args.imports.now)
    c.args.number c.args.least c.lesser_import.result c.requires.least (
      c.index-imports-number.result,
      import_read c.args.imports.now c.args.number c.index-imports-number.result c.requires.within
          c.index-imports-number.is,
      c.if-has_fault.ensures.0 refl,
    )
    c.lesser_import.ensures

pub returns-else-has_fault : goal.returns-else-has_fault
returns-else-has_fault c =
    least_kept (IsFaulty c.args.units.now c.args.fault c.args.imports.now) (interface_at c.args.imports.now)
    c.args.number c.args.least c.requires.least
    (not_faulty c.args.units.now c.args.fault c.args.imports.now c.args.number c.index-imports-number.result
    (import_read c.args.imports.now c.args.number c.index-imports-number.result c.requires.within
    c.index-imports-number.is)
    (λ h. let no : false ≡ true = c.if-has_fault.ensures.1 h in cc))
