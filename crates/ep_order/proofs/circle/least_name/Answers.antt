use Rattle.std.proofs.Common.{◌≡◌, get_or, inl, inr, subst, arith}
use Rattle.ep_order.specs.Systems.{IsUpTo}
use Rattle.ep_order.specs.Dependents.{name_at}
use Rattle.ep_order.proofs.Lists.{default_same}
use Rattle.ep_order.proofs.Naming.{name_read}
use Rattle.ep_order.proofs.Walks.{least_more}
use Rattle.ep_order.proofs.circle.least_name.Goals as goal
use Rattle.ep_order.proofs.circle.least_name.Goals.{then-is_lt, else-is_lt}

pub loop-number-preserved : goal.loop-number-preserved
loop-number-preserved c =
    let here = c.requires.within c.loop-number.number 0 c.loop-number-test.true in
    let there = c.requires.within c.loop-number.least 0 c.loop-number.invariant.within in
    let name = name_read c.args.units.now (get_or c.args.places.now c.loop-number.number 0) c.index-units-place.result here c.index-units-place.is in
    let least = name_read c.args.units.now (get_or c.args.places.now c.loop-number.least 0) c.index-units-places.result there c.index-units-places.is in
    let x : c.bytes.result.now ≡ name_at c.args.units.now (get_or c.args.places.now c.loop-number.number 0) = cc in
    let y : c.bytes-so_far.result.now ≡ name_at c.args.units.now (get_or c.args.places.now c.loop-number.least 0) = cc in
    elim c.if-is_lt.branch [
      | then-is_lt w ↦ record {
        within = omega arith;
        least = least_more c.args.units.now c.args.places.now c.loop-number.least c.loop-number.number c.if-is_lt.least c.bytes.result.now c.bytes-so_far.result.now c.cmp.result c.is_lt.result x y c.cmp.ensures c.is_lt.ensures c.loop-number.invariant.least (inl (w.if-is_lt.true, w.least-is));
      }
      | else-is_lt w ↦ record {
        within = omega arith;
        least = least_more c.args.units.now c.args.places.now c.loop-number.least c.loop-number.number c.if-is_lt.least c.bytes.result.now c.bytes-so_far.result.now c.cmp.result c.is_lt.result x y c.cmp.ensures c.is_lt.ensures c.loop-number.invariant.least (inr (w.if-is_lt.false, w.least-is));
      }
    ]

pub returns-clause-least : goal.returns-clause-least
returns-clause-least c = λ k d within.
    subst (λ p. IsUpTo (name_at c.args.units.now (get_or c.args.places.now c.loop-number.least 0)) (name_at c.args.units.now p)) (default_same c.args.places.now k 0 d within)
    (c.loop-number.invariant.least k (omega arith))
