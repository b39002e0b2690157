use Rattle.std.proofs.Common.{w64}
use Rattle.std.proofs.lemmas.Int.{to_z-of_z}
use Rattle.ep_gen_unit.proofs.tags.push_code.Goals as goal

pub returns : goal.returns
returns c =
    let number = to_z-of_z w64 c.args.number c.ranges.number in
    rw number at c.emit.ensures
