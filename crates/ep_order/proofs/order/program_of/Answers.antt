use Rattle.std.proofs.Common.{◌≡◌, true, false, sym, ◌∙◌, below_more, arith}
use Rattle.std.proofs.lemmas.Option.{slice_get_within}
use Rattle.ep_order.proofs.Naming.{program_read}
use Rattle.ep_order.proofs.order.program_of.Goals as goal

pub loop-place-preserved : goal.loop-place-preserved
loop-place-preserved c = below_more _ _ c.loop-place.invariant (λ p.
    let yes = program_read c.args.units.now c.loop-place.place c.index-units-place.result p c.index-units-place.is in
    let no : true ≡ false = sym yes ∙ c.if-unit.false in
    cc)

pub returns : goal.returns
returns c = λ place p. c.loop-place.invariant place (omega (arith, slice_get_within c.args.units.now place p.0 p.1)) p
