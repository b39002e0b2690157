use Rattle.std.proofs.Common.{w64, to_z, of_z}
use Rattle.std.proofs.lemmas.Int.{to_z-of_z}
use Rattle.ep_rules.proofs.Ends.{value_told}
use Rattle.ep_rules.proofs.apart.ApartRanges.has.Goals as goal

pub returns : goal.returns
returns c =
    let same = to_z-of_z w64 c.args.value c.ranges.value in
    value_told c.is_apart.result (to_z w64 (of_z w64 c.args.value)) (to_z w64 (of_z w64 c.args.value)) c.args.value c.args.self.now c.is_apart.ensures same same
