use Rattle.std.proofs.Common.{◌∙◌, ap, drop}
use Rattle.ep_threats.proofs.Inner.{some-behind}
use Rattle.ep_threats.proofs.table.RoutineTable.inner.Goals as goal

pub returns : goal.returns
returns c =
    rw (← c.self.view_is)
    (some-behind c.self.inside.places.entries c.args.routine c.first_place-first.result c.self.inside.all.items c.split_at.result.1.now
    c.self.invariant c.first_place-first.ensures.first (c.split_at.ensures.back ∙ ap (drop c.first_place-first.result) c.as_slice.ensures.value))
