use Rattle.std.proofs.Common.{◌≡◌, ◌+◌, length, w64, arith}
use Rattle.std.proofs.lemmas.Int.{to_z-of_z}
use Rattle.ep_gen_code.proofs.public.Growing.{on_ok}
use Rattle.ep_gen_unit.specs.TagCode.{number_length}
use Rattle.ep_gen_unit.proofs.TagForms.{grows_number}
use Rattle.ep_gen_unit.proofs.tags.number_code.Goals as goal

pub returns : goal.returns
returns c =
    let is : c.in_ok-leave.leave ≡ length c.args.code.now.instructions + number_length c.args.selection.now = omega (arith, c.in_ok-leave.ensures.0, c.in_ok-start.ensures.is_length, c.in_ok-count.ensures) in
    let none = to_z-of_z w64 c.args.none c.ranges.none in
    on_ok c.rest_code.result (grows_number c.in_ok-leave.leave c.args.selection.now c.args.none is (rw c.items.ensures at c.in_ok-selections_code.ensures) c.in_ok-emit.ensures) (rw none at c.rest_code.ensures)
