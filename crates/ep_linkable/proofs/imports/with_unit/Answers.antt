use Rattle.std.proofs.Common.{ap, sym, ◌∙◌}
use Rattle.ep_linkable.specs.declared.unit.LinkUnit.{LinkUnit}
use Rattle.ep_linkable.specs.Faults.{IsFaultyUnit}
use Rattle.ep_linkable.specs.Units.{name_at}
use Rattle.ep_linkable.proofs.Faults.{unit_faulty, unit_not_faulty}
use Rattle.ep_linkable.proofs.Leasts.{least_chosen, least_kept, least_within}
use Rattle.ep_linkable.proofs.OneProgram.{stands_read}
use Rattle.ep_linkable.proofs.imports.with_unit.Goals as goal

pub lesser_unit-requires-clause-least : goal.lesser_unit-requires-clause-least
lesser_unit-requires-clause-least c =
    least_within (IsFaultyUnit c.args.units.now c.args.fault) (name_at c.args.units.now) c.args.place _ c.args.least
    c.requires.within c.requires.least

pub returns-in-None : goal.returns-in-None
returns-in-None c =
    least_kept (IsFaultyUnit c.args.units.now c.args.fault) (name_at c.args.units.now) c.args.place c.args.least
    c.requires.least
    (unit_not_faulty c.args.units.now c.args.fault c.args.place c.index-units-place.result c.items-imports.result.now
    (stands_read c.args.units.now c.args.place c.index-units-place.result c.requires.within c.index-units-place.is)
    (c.items-imports.ensures ∙ ap (λ (u : LinkUnit). u.imports) (sym c.index-units-place.is)) c.in-None.ensures)

pub returns-in-Some : goal.returns-in-Some
returns-in-Some c =
    least_chosen (IsFaultyUnit c.args.units.now c.args.fault) (name_at c.args.units.now) c.args.place c.args.least
    c.lesser_unit.result c.requires.least
    (unit_faulty c.args.units.now c.args.fault c.args.place c.index-units-place.result c.items-imports.result.now _
    (stands_read c.args.units.now c.args.place c.index-units-place.result c.requires.within c.index-units-place.is)
    (c.items-imports.ensures ∙ ap (λ (u : LinkUnit). u.imports) (sym c.index-units-place.is)) c.in-Some.ensures)
    c.lesser_unit.ensures
