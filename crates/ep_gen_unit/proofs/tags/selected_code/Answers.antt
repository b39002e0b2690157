use Rattle.std.proofs.Common.{◌≡◌, ◌+◌, length, w64, arith}
use Rattle.std.proofs.lemmas.Int.{to_z_pos}
use Rattle.ep_gen_code.proofs.public.Growing.{on_ok}
use Rattle.ep_gen_unit.specs.TagCode.{number_length}
use Rattle.ep_gen_unit.proofs.TagForms.{grows_selected}
use Rattle.ep_gen_unit.proofs.tags.selected_code.Goals as goal

pub returns : goal.returns
returns c =
    let is : c.in_ok-start.start + 4 + c.in_ok-count.count + 1 ≡ length c.args.code.now.instructions + 4 + number_length c.args.selection.now + 1 = omega (arith, c.in_ok-start.ensures.is_length, c.in_ok-count.ensures) in
    let undefined = to_z_pos w64 (c.in_ok-start.start + 4 + c.in_ok-count.count + 1) (omega (arith, c.in_ok-start.ensures.small)) in
    let end = to_z_pos w64 (c.in_ok-start.start + 4 + c.in_ok-count.count + 1 + 2) (omega (arith, c.in_ok-start.ensures.small)) in
    on_ok c.push_code.result (grows_selected (c.in_ok-start.start + 4 + c.in_ok-count.count + 1) c.args.selection.now is c.in_ok-emit.ensures c.in_ok-emit-2.ensures (rw undefined at c.in_ok-emit-3.ensures) c.in_ok-emit-4.ensures c.in_ok-number_code.ensures (rw end at c.in_ok-emit-5.ensures) c.in_ok-emit-6.ensures) c.push_code.ensures
