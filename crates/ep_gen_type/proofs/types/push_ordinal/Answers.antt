use Rattle.std.proofs.Common.{w64}
use Rattle.std.proofs.lemmas.Int.{to_z-of_z}
use Rattle.ep_gen_code.proofs.public.Growing.{on_ok}
use Rattle.ep_gen_type.proofs.TypeForms.{grows_ordinal}
use Rattle.ep_gen_type.proofs.types.push_ordinal.Goals as goal

pub returns : goal.returns
returns c =
    let low = to_z-of_z w64 c.args.low c.ranges.low in
    let high = to_z-of_z w64 c.args.high c.ranges.high in
    on_ok c.emit-3.result (grows_ordinal c.args.low c.args.high (rw low at c.in_ok-emit.ensures) (rw high at c.in_ok-emit-2.ensures)) c.emit-3.ensures
