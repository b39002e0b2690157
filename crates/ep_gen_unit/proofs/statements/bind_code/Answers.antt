use Rattle.std.proofs.Common.{w64, arith}
use Rattle.std.proofs.lemmas.Int.{to_z_pos}
use Rattle.ep_typed.specs.Viewed.{entire_of, place_of}
use Rattle.ep_gen_code.proofs.public.Growing.{on_ok}
use Rattle.ep_gen_unit.proofs.StmtForms.{appends_bind}
use Rattle.ep_gen_unit.proofs.statements.bind_code.Goals as goal

pub returns : goal.returns
returns c =
    let slot = to_z_pos w64 c.slot_of-slot.result (omega (arith, c.slot_of-slot.type_inv)) in
    on_ok c.emit.result (appends_bind c.args.code.now c.args.line (entire_of c.args.variable.now) c.slot_of-slot.result (place_of c.args.place.now) c.slot_of-slot.ensures c.in_ok-place_code.ensures) (rw slot at c.emit.ensures)
