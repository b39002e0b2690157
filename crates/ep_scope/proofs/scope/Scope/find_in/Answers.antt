use Rattle.std.proofs.Common.{◌∙◌, ap}
use Rattle.ep_scope.proofs.Found.{lookup-by_bytes}
use Rattle.ep_scope.specs.Scopes.{look_up_if}
use Rattle.ep_scope.proofs.scope.Scope.find_in.Goals as goal

pub returns-in-None : goal.returns-in-None
returns-in-None c =
    rw (← c.self.view_is, ← c.bytes.ensures.bytes)
    (ap (λ o. look_up_if o c.args.name.now) (c.in-None.ensures.value ∙ lookup-by_bytes c.bytes.result.now c.self.inside.qualified.entries))

pub returns-in-Some : goal.returns-in-Some
returns-in-Some c =
    c.find.ensures
    ∙ rw (← c.self.view_is, ← c.bytes.ensures.bytes)
    (ap (λ o. look_up_if o c.args.name.now) (c.in-Some.ensures.value ∙ lookup-by_bytes c.bytes.result.now c.self.inside.qualified.entries))
