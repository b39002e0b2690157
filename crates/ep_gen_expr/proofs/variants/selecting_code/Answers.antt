use Rattle.std.proofs.Common.{◌≡◌, ◌+◌, ◌∙◌, ap, w64, length, arith}
use Rattle.std.specs.Prelude.{if◌then◌else◌}
use Rattle.std.proofs.lemmas.Int.{to_z_pos}
use Rattle.ep_typed.specs.Selections.{variant_number}
use Rattle.ep_gen_expr.specs.ExprCode.{bad_place}
use Rattle.ep_gen_code.proofs.public.Growing.{on_ok}
use Rattle.ep_gen_expr.proofs.RangeForms.{grows_selecting}
use Rattle.ep_gen_expr.proofs.variants.selecting_code.Goals as goal

pub returns : goal.returns
returns c =
    let here : length c.args.code.now.instructions + 0 ≡ length c.args.code.now.instructions = omega arith in
    let is : c.in_ok-bad.bad ≡ bad_place (length c.args.code.now.instructions) c.args.selection.now = c.in_ok-bad.ensures.0 ∙ ap (λ k. bad_place k c.args.selection.now) here in
    let rest = to_z_pos w64 c.one_of-rest.result (omega (arith, c.one_of-rest.auto)) in
    let which = c.one_of-rest.ensures ∙ ap (λ b. if b then c.in_ok-bad.bad + 1 else c.in_ok-bad.bad) c.completes.ensures in
    let same : c.args.selection.now.tag + c.args.number + 1 ≡ variant_number c.args.selection.now c.args.number = omega arith in
    let field = to_z_pos w64 (c.args.selection.now.tag + c.args.number + 1) (omega (arith, c.ranges.number.fits)) in
    on_ok c.emit-4.result (grows_selecting c.args.selection.now c.args.number c.in_ok-bad.bad is (rw c.items.ensures at c.in_ok-labels_code.ensures) (rw (rest, which) at c.in_ok-emit.ensures) c.in_ok-emit-2.ensures c.in_ok-emit-3.ensures) (rw (field, same) at c.emit-4.ensures)
