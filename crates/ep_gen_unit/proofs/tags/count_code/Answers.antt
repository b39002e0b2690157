use Rattle.std.proofs.Common.{w64, arith}
use Rattle.std.proofs.lemmas.Int.{to_z_pos}
use Rattle.ep_gen_unit.proofs.tags.count_code.Goals as goal

pub returns : goal.returns
returns c =
    let count = to_z_pos w64 c.args.count (omega (arith, c.ranges.count.fits)) in
    rw count at c.emit.ensures
