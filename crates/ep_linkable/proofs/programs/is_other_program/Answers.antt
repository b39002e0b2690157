use Rattle.std.proofs.Common.{◌≡◌, false, true, subst, sym}
use Rattle.ep_linkable.specs.declared.unit.LinkUnit.{LinkUnit}
use Rattle.ep_linkable.proofs.OneProgram.{stands_read, program_is, other_is}
use Rattle.ep_linkable.proofs.programs.is_other_program.Goals as goal

pub returns-then-place-but : goal.returns-then-place-but
returns-then-place-but c = (
  λ e. let clash : false ≡ true = e in cc,
  λ h. absurd (h.1 c.if-place-but.true),
)

pub returns : goal.returns
returns c =
    let unit = c.index-units-place.result in
    let stands = stands_read c.args.units.now c.args.place unit c.requires c.index-units-place.is in (
      λ is. other_is c.args.units.now c.args.but c.args.place unit stands
          (subst (λ (u : LinkUnit). u.is_program ≡ true) (sym c.index-units-place.is) is) c.if-place-but.false,
      λ h. subst (λ (u : LinkUnit). u.is_program ≡ true) c.index-units-place.is
          (program_is c.args.units.now c.args.place unit stands h.0),
    )
