use Rattle.std.proofs.Common.{◌≡◌, ◌∙◌, ◌||◌, ap, map}
use Rattle.ep_threats.specs.Callees.{Callees, callees_in}
use Rattle.ep_threats.specs.RoutineForms.{routine_form}
use Rattle.ep_threats.specs.Threatened.{has}
use Rattle.ep_threats.specs.Threats.{some_threaten}
use Rattle.ep_threats.proofs.Inner.{inner-behind}
use Rattle.ep_threats.proofs.routines.inner_gathered.Goals as goal

pub returns : goal.returns
returns c n =
    c.in_ok-some_gathered.ensures n
    ∙ ap (λ b. has c.args.found.now n || b)
    (ap (λ (k : Callees). some_threaten c.args.routine k n (map routine_form c.inner-inner.result.now)) (c.of-callees.ensures ∙ ap (λ l. callees_in l c.args.given.now) c.items.ensures)
    ∙ inner-behind c.args.routine c.args.routines.now c.inner-inner.result.now c.args.given.now n c.inner-inner.ensures)
