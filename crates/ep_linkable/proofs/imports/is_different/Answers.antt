use Rattle.std.proofs.Common.{◌≡◌, ◌↔◌, IsTrue, false, true, subst, sym}
use Rattle.ep_linkable.specs.declared.unit.LinkUnit.{LinkUnit}
use Rattle.ep_linkable.proofs.Faults.{not_different, differs_not, place_stands}
use Rattle.ep_linkable.proofs.OneProgram.{stands_read}
use Rattle.ep_linkable.proofs.imports.is_different.Goals as goal

pub bounds-units-place : goal.bounds-units-place
bounds-units-place c =
    place_stands c.args.units.now c.args.exporters.now c.requires.exporters c.args.import.now c.in-Some.place
    (sym c.in-Some.ensures)

pub returns-in-None : goal.returns-in-None
returns-in-None c = (
  λ e. let clash : false ≡ true = e in cc,
  λ h.
      let fails = not_different c.args.units.now c.args.exporters.now c.requires.exporters c.args.import.now
      (sym c.in-None.ensures) in
      absurd (fails h),
)

pub returns-in-Some : goal.returns-in-Some
returns-in-Some c =
    let within = place_stands c.args.units.now c.args.exporters.now c.requires.exporters c.args.import.now
    c.in-Some.place
    (sym c.in-Some.ensures) in
    differs_not c.args.units.now c.args.exporters.now c.requires.exporters c.args.import.now c.in-Some.place
    c.index-units-place.result (sym c.in-Some.ensures)
    (stands_read c.args.units.now c.in-Some.place c.index-units-place.result within c.index-units-place.is)
    c.are_same.result
    (subst (λ (u : LinkUnit). IsTrue c.are_same.result ↔ (u.interface.now ≡ c.args.import.now.file.now))
    (sym c.index-units-place.is) c.are_same.ensures)
