use Rattle.std.proofs.Common.{◌∙◌, ap}
use Rattle.ep_scope.specs.Layers.{layers_in}
use Rattle.ep_scope.specs.Scopes.{meant, or_field}
use Rattle.ep_scope.proofs.Layers.{layers_find}
use Rattle.ep_scope.proofs.Opened.{meant_within_all}
use Rattle.ep_scope.proofs.view.meaning_of.Goals as goal

pub returns-in-Some : goal.returns-in-Some
returns-in-Some c =
    rw (← c.view.view_is, meant_within_all, ← layers_find (layers_in c.view.inside.open c.view.inside.around.now) c.view.invariant c.args.name.now)
    (ap (λ f. or_field f (meant c.view.inside.scopes.now c.args.name.now)) c.in-Some.ensures)

pub returns-in-None : goal.returns-in-None
returns-in-None c =
    rw (← c.view.view_is, meant_within_all, ← layers_find (layers_in c.view.inside.open c.view.inside.around.now) c.view.invariant c.args.name.now)
    (c.meaning_among.ensures ∙ ap (λ f. or_field f (meant c.view.inside.scopes.now c.args.name.now)) c.in-None.ensures)
