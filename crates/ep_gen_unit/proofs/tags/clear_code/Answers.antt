use Rattle.std.proofs.Common.{w64, arith}
use Rattle.std.proofs.lemmas.Int.{to_z_pos}
use Rattle.ep_gen_code.proofs.public.Growing.{on_ok}
use Rattle.ep_gen_unit.proofs.TagForms.{grows_clear}
use Rattle.ep_gen_unit.proofs.tags.clear_code.Goals as goal

pub returns : goal.returns
returns c =
    let number = to_z_pos w64 c.args.number (omega (arith, c.requires)) in
    on_ok c.emit-3.result (grows_clear c.args.number c.in_ok-emit.ensures (rw number at c.in_ok-emit-2.ensures)) c.emit-3.ensures
