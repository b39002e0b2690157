use Rattle.std.proofs.Common.{◌∙◌, ap}
use Rattle.ep_scope.specs.Layers.{layers_in}
use Rattle.ep_scope.specs.Scopes.{meant_in, unless_field}
use Rattle.ep_scope.proofs.Layers.{layers_find}
use Rattle.ep_scope.proofs.Opened.{meant_in_within_all}
use Rattle.ep_scope.proofs.view.meaning_in.Goals as goal

pub returns-in-Some : goal.returns-in-Some
returns-in-Some c =
    rw (← c.view.view_is, meant_in_within_all, ← layers_find (layers_in c.view.inside.open c.view.inside.around.now) c.view.invariant c.args.interface.now)
    (ap (λ f. unless_field f (meant_in c.view.inside.scopes.now c.args.interface.now c.args.name.now)) c.in-Some.ensures)

pub returns-in-None : goal.returns-in-None
returns-in-None c =
    rw (← c.view.view_is, meant_in_within_all, ← layers_find (layers_in c.view.inside.open c.view.inside.around.now) c.view.invariant c.args.interface.now)
    (c.meaning_after.ensures ∙ ap (λ f. unless_field f (meant_in c.view.inside.scopes.now c.args.interface.now c.args.name.now)) c.in-None.ensures)
