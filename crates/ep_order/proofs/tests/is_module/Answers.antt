use Rattle.std.proofs.Common.{◌≡◌, ◌<◌, false, length, arith}
use Rattle.ep_order.proofs.Naming.{stands_read}
use Rattle.ep_order.proofs.tests.is_module.Goals as goal

pub returns : goal.returns
returns c = λ yes.
    let no : c.index-units-place.result.is_program ≡ false = first_of (cc, grind arith) in
    let within : c.args.place < length c.args.units.now = omega arith in
    (c.index-units-place.result, stands_read c.args.units.now c.args.place c.index-units-place.result within c.index-units-place.is, no)
