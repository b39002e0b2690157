use Rattle.std.proofs.Common.{◌<◌, length, inl, inr, refl, subst, sym}
use Rattle.std.specs.Option.{IfSome}
use Rattle.ep_linkable.specs.Units.{name_at}
use Rattle.ep_linkable.specs.Least.{IsChosen}
use Rattle.ep_linkable.proofs.Faults.{name_there, up_at}
use Rattle.ep_linkable.proofs.programs.lesser_unit.Goals as goal

pub returns-then-is_up_to : goal.returns-then-is_up_to
returns-then-is_up_to c =
    let list = c.args.units.now in
    let within = subst (λ o. IfSome o (λ other. other < length c.args.units.now)) c.in-Some.is c.requires.least in
    subst (λ o. IsChosen (name_at list) c.args.place o c.in-Some.other) (sym c.in-Some.is)
    (inl (
      refl,
      up_at _ _ _ _ (name_there list c.in-Some.other c.index-units-other.result within)
          (name_there list c.args.place c.index-units-place.result c.requires.within) c.if-is_up_to.ensures,
    ))

pub returns-else-is_up_to : goal.returns-else-is_up_to
returns-else-is_up_to c =
    let list = c.args.units.now in
    let within = subst (λ o. IfSome o (λ other. other < length c.args.units.now)) c.in-Some.is c.requires.least in
    subst (λ o. IsChosen (name_at list) c.args.place o c.args.place) (sym c.in-Some.is)
    (inr (
      refl,
      up_at _ _ _ _ (name_there list c.args.place c.index-units-place.result c.requires.within)
          (name_there list c.in-Some.other c.index-units-other.result within) c.if-is_up_to.ensures,
    ))
