use Rattle.std.proofs.Common.{w64, arith}
use Rattle.std.proofs.lemmas.Int.{to_z_pos}
use Rattle.ep_gen_code.proofs.public.Growing.{on_ok}
use Rattle.ep_gen_code.specs.Referring.{type_reference}
use Rattle.ep_gen_type.proofs.TypeForms.{by_name}
use Rattle.ep_gen_type.proofs.types.name_code.Goals as goal

pub returns : goal.returns
returns c =
    let number = to_z_pos w64 (type_reference c.args.number) (omega arith) in
    on_ok c.emit.result (by_name c.args.code.now c.args.number c.args.tuple.now c.if-not-is_empty.ensures) (rw (c.type_reference.ensures, number) at c.emit.ensures)
