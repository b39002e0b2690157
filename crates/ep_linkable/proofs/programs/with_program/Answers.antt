use Rattle.std.proofs.Common.{◌≡◌, false, true, refl}
use Rattle.ep_linkable.specs.Faults.{IsOtherProgram}
use Rattle.ep_linkable.specs.Units.{name_at}
use Rattle.ep_linkable.proofs.Leasts.{least_chosen, least_kept, least_within}
use Rattle.ep_linkable.proofs.programs.with_program.Goals as goal

pub lesser_unit-requires-clause-least : goal.lesser_unit-requires-clause-least
lesser_unit-requires-clause-least c =
    least_within (IsOtherProgram c.args.units.now c.args.but) (name_at c.args.units.now) c.args.place _ c.args.least
    c.requires.within c.requires.least

pub returns-then-is_other_program : goal.returns-then-is_other_program
returns-then-is_other_program c =
    least_chosen (IsOtherProgram c.args.units.now c.args.but) (name_at c.args.units.now) c.args.place c.args.least
    c.lesser_unit.result c.requires.least (c.if-is_other_program.ensures.0 refl) c.lesser_unit.ensures

pub returns-else-is_other_program : goal.returns-else-is_other_program
returns-else-is_other_program c =
    least_kept (IsOtherProgram c.args.units.now c.args.but) (name_at c.args.units.now) c.args.place c.args.least
    c.requires.least (λ h. let no : false ≡ true = c.if-is_other_program.ensures.1 h in cc)
