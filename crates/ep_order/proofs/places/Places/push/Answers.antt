use Rattle.std.proofs.Common.{◌<◌, length, sym, ap, subst, ◌∙◌, arith}
use Rattle.std.specs.List.{Contains}
use Rattle.ep_order.specs.Places.{PlaceList, AreFlagsOf}
use Rattle.ep_order.proofs.Flags.{flags_after, left_after}
use Rattle.ep_order.proofs.places.Places.push.Goals as goal

pub invariant_of-self-2 : goal.invariant_of-self-2
invariant_of-self-2 c =
    let within : c.args.place < length c.self.inside.flags.items = omega (arith, ap (λ (p : PlaceList). p.limit) c.self.view_is) in
    let h = flags_after c.self.inside.flags.items c.self.inside.items c.args.place c.self.invariant within in
    subst (AreFlagsOf _) (sym c.in_ok-push.ensures.ok) h

pub returns-clause-left : goal.returns-clause-left
returns-clause-left c =
    let within : c.args.place < length c.self.inside.flags.items = omega (arith, ap (λ (p : PlaceList). p.limit) c.self.view_is) in
    let new = subst (λ (p : PlaceList). Contains p.items c.args.place → ⊥) (sym c.self.view_is) c.requires.new in
    left_after c.self.inside.flags.items c.self.inside.items c.args.place c.self.invariant within new ∙ ap (λ (p : PlaceList). p.left) c.self.view_is
