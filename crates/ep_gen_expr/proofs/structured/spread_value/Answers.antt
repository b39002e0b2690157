use Rattle.std.proofs.Common.{◌+◌, w64, arith}
use Rattle.std.proofs.lemmas.Int.{to_z_pos}
use Rattle.ep_gen_code.proofs.public.Growing.{on_ok}
use Rattle.ep_gen_expr.proofs.RangeIndexes.{grows_spread}
use Rattle.ep_gen_expr.proofs.structured.spread_value.Goals as goal

pub returns : goal.returns
returns c =
    let over = to_z_pos w64 (c.in_ok-place.field-0 + 8) (omega (arith, c.in_ok-place.ensures.small)) in
    let behind = to_z_pos w64 (c.in_ok-place.field-0 + 15) (omega (arith, c.in_ok-place.ensures.small)) in
    on_ok c.drop_operands.result (grows_spread c.in_ok-place.field-0 c.in_ok-place.ensures.is_length c.in_ok-emit.ensures c.in_ok-emit-2.ensures (rw over at c.in_ok-emit-3.ensures) c.in_ok-give_first.ensures (rw behind at c.in_ok-emit-4.ensures)) c.drop_operands.ensures
