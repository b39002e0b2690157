use Rattle.std.proofs.Common.{SFits, rules, w64}
use Rattle.std.proofs.lemmas.Int.{to_z-of_z}
use Rattle.ep_gen_code.proofs.public.Growing.{on_ok}
use Rattle.ep_gen_expr.proofs.StructuredForms.{grows_first}
use Rattle.ep_gen_expr.proofs.structured.reach_first.Goals as goal

pub returns : goal.returns
returns c =
    let fits : SFits w64 c.first_index.result = search rules in
    let index = to_z-of_z w64 c.first_index.result fits in
    on_ok c.emit-3.result (grows_first c.args.ranges.now c.in_ok-emit.ensures (rw (index, c.first_index.ensures) at c.in_ok-emit-2.ensures)) c.emit-3.ensures
