use Rattle.std.proofs.Common.{◌<◌, length, inl, inr, refl, subst, sym}
use Rattle.std.specs.Option.{IfSome}
use Rattle.ep_linkable.specs.Faults.{interface_at}
use Rattle.ep_linkable.specs.Least.{IsChosen}
use Rattle.ep_linkable.proofs.Faults.{interface_there, up_at}
use Rattle.ep_linkable.proofs.imports.lesser_import.Goals as goal

pub returns-then-is_up_to : goal.returns-then-is_up_to
returns-then-is_up_to c =
    let list = c.args.imports.now in
    let within = subst (λ o. IfSome o (λ other. other < length c.args.imports.now)) c.in-Some.is c.requires.least in
    subst (λ o. IsChosen (interface_at list) c.args.number o c.in-Some.other) (sym c.in-Some.is)
    (inl (
      refl,
      up_at _ _ _ _ (interface_there list c.in-Some.other c.index-imports-other.result within)
          (interface_there list c.args.number c.index-imports-number.result c.requires.within) c.if-is_up_to.ensures,
    ))

pub returns-else-is_up_to : goal.returns-else-is_up_to
returns-else-is_up_to c =
    let list = c.args.imports.now in
    let within = subst (λ o. IfSome o (λ other. other < length c.args.imports.now)) c.in-Some.is c.requires.least in
    subst (λ o. IsChosen (interface_at list) c.args.number o c.args.number) (sym c.in-Some.is)
    (inr (
      refl,
      up_at _ _ _ _ (interface_there list c.args.number c.index-imports-number.result c.requires.within)
          (interface_there list c.in-Some.other c.index-imports-other.result within) c.if-is_up_to.ensures,
    ))
