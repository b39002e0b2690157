use Rattle.std.proofs.Common.{rules, sym, subst, ◌∙◌}
use Rattle.std.specs.List.{Contains}
use Rattle.ep_order.specs.Placings.{IsWalk}
use Rattle.ep_order.proofs.Walks.{walk_more}
use Rattle.ep_order.proofs.circle.circle_from.Goals as goal

pub loop-path-preserved : goal.loop-path-preserved
loop-path-preserved c =
    let new : ¬ Contains c.loop-path.path.items c.loop-path.place = search rules in
    record {
      limit = c.in_ok-push.ensures.limit ∙ c.loop-path.invariant.limit;
      walk = subst (λ l. IsWalk c.args.units.now l c.open_supplier-place.result) (sym c.in_ok-push.ensures.items)
          (walk_more c.args.units.now c.loop-path.path.items c.loop-path.place c.open_supplier-place.result c.loop-path.invariant.walk new c.open_supplier-place.ensures.supplies c.open_supplier-place.ensures.module);
      module' = c.open_supplier-place.ensures.module;
      left = c.open_supplier-place.ensures.left;
    }
