use Rattle.std.proofs.Common.{◌≡◌, None, length, ap, sym, ◌∙◌, arith}
use Rattle.ep_drive.specs.ProgramTexts.{components_unbuilt}
use Rattle.ep_drive.proofs.Sources.{one_component, only_built}
use Rattle.ep_drive.proofs.source.program_of.Goals as goal

pub unreachable-requires : goal.unreachable-requires
unreachable-requires c =
    let none : components_unbuilt c.args.all.now ≡ None = sym c.first_unbuilt.ensures ∙ c.in_default.is in
    let only = one_component _ c.requires none in
    let one : length c.args.all.now ≡ 1 = ap length only.is in
    grind arith

pub returns : goal.returns
returns c = λ text has.
    let unit = c.in_ok-unit.ensures in (
      only_built text c.args.all.now c.only-item.result c.requires (sym c.first_unbuilt.ensures ∙ c.in_default.is) c.only-item.is has _ (record { typed = unit.0; small = c.in_default-excess.ensures }),
      unit.1,
    )

pub returns-in-Some-excess : goal.returns-in-Some-excess
returns-in-Some-excess c = λ text has.
    let unit = c.in_ok-unit.ensures in
    let large = c.in-Some-excess.ensures in
    only_built text c.args.all.now c.only-item.result c.requires (sym c.first_unbuilt.ensures ∙ c.in_default.is) c.only-item.is has _
    (record { unit = c.in_ok-unit.unit; typed = unit.0; named = c.in_ok-name.ensures; large = large.0; told = large.1 })
