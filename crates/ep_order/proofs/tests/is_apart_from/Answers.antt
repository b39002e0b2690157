use Rattle.std.proofs.Common.{inl, inr, refl, sym, ap, ◌∙◌, arith}
use Rattle.ep_order.specs.declared.dependent.Dependent.{Dependent}
use Rattle.ep_order.proofs.Lists.{same_or_not}
use Rattle.ep_order.proofs.Naming.{read_is}
use Rattle.ep_order.proofs.tests.is_apart_from.Goals as goal

pub loop-number-preserved : goal.loop-number-preserved
loop-number-preserved c = λ k a b l sa sb. elim (same_or_not k c.loop-number.number) [
  | inl e ↦
      let first = read_is c.args.units.now k c.loop-number.number a c.index-units-number.result sa e c.index-units-number.is in
      let second = read_is c.args.units.now c.args.place c.args.place b c.index-units-place.result sb refl c.index-units-place.is in (
        λ same. c.if-not-may_stand_beside.ensures.names refl (sym (ap (λ (u : Dependent). u.name.now) first) ∙ same ∙ ap (λ (u : Dependent). u.name.now) second),
        λ p q. c.if-not-may_stand_beside.ensures.programs refl (sym (ap (λ (u : Dependent). u.is_program) first) ∙ p) (sym (ap (λ (u : Dependent). u.is_program) second) ∙ q),
      )
  | inr ne ↦ c.loop-number.invariant k a b (omega (arith, l, ne)) sa sb
]
