use Rattle.std.proofs.Common.{◌∙◌, sym}
use Rattle.ep_scope.proofs.Layers.{found_at, none_at}
use Rattle.ep_scope.proofs.layer.large_place.Goals as goal

pub returns-then-is_some : goal.returns-then-is_some
returns-then-is_some c =
    found_at c.args.records.now c.args.large.now c.loop-at.at _ c.args.name.now c.place_in-found.result
    c.loop-at-test.true c.loop-at.auto.at c.loop-at.invariant c.place_in-found.ensures (sym c.is_some.ensures ∙ c.if-is_some.true)

pub loop-at-preserved : goal.loop-at-preserved
loop-at-preserved c =
    none_at c.args.records.now c.args.large.now c.loop-at.at _ c.args.name.now c.place_in-found.result
    c.loop-at-test.true c.loop-at.auto.at c.loop-at.invariant c.place_in-found.ensures (sym c.is_some.ensures ∙ c.if-is_some.false)
