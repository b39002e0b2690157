use Rattle.std.proofs.Common.{w64, arith}
use Rattle.std.proofs.lemmas.Int.{to_z_pos}
use Rattle.ep_gen_code.proofs.public.Growing.{on_ok}
use Rattle.ep_gen_expr.proofs.RangeForms.{grows_tag_part}
use Rattle.ep_gen_expr.proofs.variants.tag_part_code.Goals as goal

pub returns : goal.returns
returns c =
    let tag = to_z_pos w64 c.args.tag (omega (arith, c.ranges.tag.fits)) in
    let bad = to_z_pos w64 c.args.bad (omega (arith, c.ranges.bad.fits)) in
    on_ok c.emit-6.result (grows_tag_part c.args.bad c.args.tag c.in_ok-emit.ensures (rw tag at c.in_ok-emit-2.ensures) c.in_ok-emit-3.ensures c.in_ok-emit-4.ensures (rw bad at c.in_ok-emit-5.ensures)) c.emit-6.ensures
