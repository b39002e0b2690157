use Rattle.std.proofs.Common.{get_or, w64, arith}
use Rattle.std.proofs.lemmas.Int.{to_z_pos}
use Rattle.ep_gen_type.proofs.TypeForms.{start_more}
use Rattle.ep_gen_type.proofs.types.set_start_code.Goals as goal

pub loop-member-preserved : goal.loop-member-preserved
loop-member-preserved c =
    let member = to_z_pos w64 (get_or c.args.members.now c.loop-member.member-index 0) (omega (arith, c.type_inv.members c.loop-member.member-index)) in
    start_more c.args.members.now c.loop-member.member-index c.loop-member-test.true c.loop-member.invariant (rw member at c.in_ok-emit-2.ensures) c.in_ok-emit-3.ensures
