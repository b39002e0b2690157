use Rattle.std.proofs.Common.{◌++◌, sym, ap, ◌∙◌}
use Rattle.ep_rows.proofs.ArrayTypes.{repeated_more}
use Rattle.ep_rows.proofs.types.repeat.Goals as goal

pub loop-preserved : goal.loop-preserved
loop-preserved c =
    let words = c.args.words.now in
    c.in_ok-extend_from_slice.ensures.items ∙ (ap (λ all. all ++ words) c.loop.invariant ∙ sym (repeated_more c.loop.counter words))
