use Rattle.std.proofs.Common.{◌≡◌, [], ◌∷◌, ◌++◌, subst, sym, arith, map, w64}
use Rattle.ep_gen_code.specs.Growth.{Grows}
use Rattle.ep_gen_type.specs.TypeCode.{each_code}
use Rattle.std.proofs.lemmas.Int.{to_z_pos}
use Rattle.ep_gen_code.proofs.public.Growing.{on_ok}
use Rattle.ep_typed.specs.Viewed.{denoter_of, field_of, selector_of, constant_expr, variant_of, variants_of, components_of}
use Rattle.ep_gen_type.proofs.TypeForms.{by_base, by_components, by_one, by_parts, by_start, components_both, components_first, components_more, components_one, how_many-of, part_some, variants_some}
use Rattle.ep_typed.specs.Trees.{denoters, Denoter, Record}
use Rattle.ep_typed.specs.declared.denoter.FieldPart.{FieldPart, out-FieldPart}
use Rattle.ep_typed.specs.declared.denoter.VariantPart.{VariantPart, out-VariantPart}
use Rattle.ep_gen_type.proofs.types.+denoters.Goals as goal

pub array_code-returns : goal.array_code-returns
array_code-returns t c = on_ok c.emit.result (by_parts c.args.code.now (denoter_of c.args.index.now) (denoter_of c.args.component.now) c.in_ok-elaborate.ensures c.in_ok-elaborate-2.ensures) c.emit.ensures

pub fields_code-loop-field-preserved : goal.fields_code-loop-field-preserved
fields_code-loop-field-preserved t c =
    components_more c.args.code.now field_of c.args.fields.now c.loop-field.field-index c.field-item.result c.loop-field-test.true c.field-item.is c.loop-field.invariant c.in_ok-field_code.ensures

pub variants_code-loop-variant-preserved : goal.variants_code-loop-variant-preserved
variants_code-loop-variant-preserved t c =
    components_more c.args.code.now variant_of c.args.variants.now c.loop-variant.variant-index c.variant-item.result c.loop-variant-test.true c.variant-item.is c.loop-variant.invariant c.in_ok-variant_code.ensures

pub record_code-returns : goal.record_code-returns
record_code-returns t c =
    let many = to_z_pos w64 c.in_ok-count.count (omega arith) in
    on_ok c.emit.result (by_components c.args.code.now (denoters (components_of c.args.part.now)) c.in_ok-part_code.ensures) (rw (many, c.in_ok-count.ensures, ← how_many-of (components_of c.args.part.now)) at c.emit.ensures)

pub tag_code-returns : goal.tag_code-returns
tag_code-returns t c = on_ok c.emit.result (by_one c.args.code.now (denoter_of c.args.of.now) c.in_ok-elaborate.ensures) c.emit.ensures

pub part_code-returns-in-Some : goal.part_code-returns-in-Some
part_code-returns-in-Some t c =
    let part : FieldPart = c.args.part.now in
    let fields = map field_of (out-FieldPart part).fields in
    let all : components_of part ≡ fields ++ variants_of c.in-Some.variants = part_some part c.in-Some.variants c.in-Some.is in
    on_ok c.variant_part_code.result (λ g. subst (λ l. Grows c.args.code.now c.variant_part_code.new.code (each_code c.args.code.now.line (denoters l))) (sym all)
    (components_both c.args.code.now fields (variants_of c.in-Some.variants) (rw c.items.ensures at c.in_ok-fields_code.ensures) g)) (rw c.get.ensures at c.variant_part_code.ensures)

pub variant_part_code-returns-in-Some : goal.variant_part_code-returns-in-Some
variant_part_code-returns-in-Some t c =
    let part : VariantPart = c.args.part.now in
    let variants = map variant_of (out-VariantPart part).variants in
    let last : Denoter = Record (denoters (components_of c.in-Some.part)) in
    let all : variants_of part ≡ selector_of (out-VariantPart part).selector ∷ (variants ++ last ∷ []) = variants_some part c.in-Some.part c.in-Some.is in
    on_ok c.record_code.result (λ g. subst (λ l. Grows c.args.code.now c.record_code.new.code (each_code c.args.code.now.line (denoters l))) (sym all)
    (components_first c.args.code.now (selector_of (out-VariantPart part).selector) (variants ++ last ∷ []) c.in_ok-selector_code.ensures
    (components_one c.selector_code.new.code variants last (rw c.items.ensures at c.in_ok-variants_code.ensures) g))) (rw c.get.ensures at c.record_code.ensures)

pub initial_code-returns : goal.initial_code-returns
initial_code-returns t c = on_ok c.emit.result (by_start c.args.code.now (denoter_of c.args.of.now) (constant_expr c.args.value.now) c.in_ok-elaborate.ensures c.in_ok-initial_state_code.ensures) c.emit.ensures

pub set_code-returns : goal.set_code-returns
set_code-returns t c = on_ok c.emit.result (by_base c.args.code.now (denoter_of c.args.base.now) c.in_ok-elaborate.ensures) c.emit.ensures
