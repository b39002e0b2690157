use Rattle.std.proofs.Common.{w64, arith}
use Rattle.std.proofs.lemmas.Int.{to_z_pos}
use Rattle.ep_gen_code.proofs.public.Growing.{on_ok}
use Rattle.ep_gen_unit.proofs.TagForms.{grows_tag_place}
use Rattle.ep_gen_unit.proofs.tags.tag_place_code.Goals as goal

pub returns : goal.returns
returns c =
    let tag = to_z_pos w64 c.args.tag (omega (arith, c.ranges.tag.fits)) in
    on_ok c.emit-2.result (grows_tag_place c.args.tag (rw tag at c.in_ok-emit.ensures)) c.emit-2.ensures
