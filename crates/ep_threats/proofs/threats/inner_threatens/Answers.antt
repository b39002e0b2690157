use Rattle.std.proofs.Common.{◌≡◌, ◌∙◌, ap, map}
use Rattle.ep_threats.specs.Callees.{Callees, callees_in}
use Rattle.ep_threats.specs.RoutineForms.{routine_form}
use Rattle.ep_threats.specs.Threats.{some_threaten}
use Rattle.ep_threats.proofs.Inner.{inner-behind}
use Rattle.ep_threats.proofs.threats.inner_threatens.Goals as goal

pub returns : goal.returns
returns c =
    c.in_ok-threatened.ensures
    ∙ ap (λ (k : Callees). some_threaten c.args.routine k c.args.number (map routine_form c.inner-inner.result.now)) (c.of-callees.ensures ∙ ap (λ l. callees_in l c.args.given.now) c.items.ensures)
    ∙ inner-behind c.args.routine c.args.routines.now c.inner-inner.result.now c.args.given.now c.args.number c.inner-inner.ensures
