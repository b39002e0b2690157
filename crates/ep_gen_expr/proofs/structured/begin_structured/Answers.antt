use Rattle.std.proofs.Common.{w64, arith}
use Rattle.std.proofs.lemmas.Int.{to_z_pos}
use Rattle.ep_gen_code.proofs.public.Growing.{on_ok}
use Rattle.ep_gen_code.specs.Referring.{type_reference}
use Rattle.ep_gen_expr.proofs.StructuredForms.{grows_begun}
use Rattle.ep_gen_expr.proofs.structured.begin_structured.Goals as goal

pub returns : goal.returns
returns c =
    let number = to_z_pos w64 (type_reference c.args.number) (omega arith) in
    on_ok c.emit-4.result (grows_begun c.args.number (rw (c.type_reference.ensures, number) at c.in_ok-emit.ensures) c.in_ok-emit-2.ensures c.in_ok-emit-3.ensures) c.emit-4.ensures
