use Rattle.std.proofs.Common.{sym, subst}
use Rattle.std.specs.List.{Contains}
use Rattle.ep_order.specs.Dependents.{system_of}
use Rattle.ep_order.proofs.public.Laws.{circle_unordered}
use Rattle.ep_order.proofs.order.activation_order.Goals as goal

pub with_program-requires-clause-whole : goal.with_program-requires-clause-whole
with_program-requires-clause-whole c = λ place m. subst (λ l. Contains l place) (sym c.into_items.ensures) (c.in-None.ensures place m)

pub returns-in_ok-circle-in-Some : goal.returns-in_ok-circle-in-Some
returns-in_ok-circle-in-Some c = (
  c.in_ok-circle-in-Some.ensures.within,
  c.in_ok-circle-in-Some.ensures.circle,
  λ order. circle_unordered (system_of c.args.units.now) _ order c.in_ok-circle-in-Some.ensures.circle,
)
