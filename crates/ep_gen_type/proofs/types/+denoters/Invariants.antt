use Rattle.std.proofs.Common.{◌+◌, ◌*◌, map, max, take}
use Rattle.ep_typed.specs.declared.denoter.Denoter.{size-Denoter}
use Rattle.ep_typed.specs.declared.denoter.FieldPart.{size-FieldPart}
use Rattle.ep_typed.specs.declared.denoter.RecordField.{size-RecordField}
use Rattle.ep_typed.specs.declared.denoter.Selector.{size-Selector}
use Rattle.ep_typed.specs.declared.denoter.Variant.{size-Variant}
use Rattle.ep_typed.specs.declared.denoter.VariantPart.{size-VariantPart}
use Rattle.ep_gen_code.specs.Growth.{Grows}
use Rattle.ep_gen_type.specs.TypeCode.{each_code}
use Rattle.ep_typed.specs.Trees.{denoters}
use Rattle.ep_typed.specs.Viewed.{field_of, variant_of}
use Rattle.ep_gen_type.proofs.types.+denoters.Given as goal

abbrev pub decreases-elaborate : goal.decreases-elaborate
decreases-elaborate l = 2 * size-Denoter l.denoter.now + 1

abbrev pub decreases-array_code : goal.decreases-array_code
decreases-array_code l = 2 * max (size-Denoter l.index.now) (size-Denoter l.component.now) + 2

abbrev pub decreases-record_code : goal.decreases-record_code
decreases-record_code l = 2 * size-FieldPart l.part.now + 1

abbrev pub decreases-part_code : goal.decreases-part_code
decreases-part_code l = 2 * size-FieldPart l.part.now

abbrev pub decreases-fields_code : goal.decreases-fields_code
decreases-fields_code l = 2 * goal.size-fields_code l + 1

abbrev pub decreases-field_code : goal.decreases-field_code
decreases-field_code l = 2 * size-RecordField l.field.now

abbrev pub decreases-variant_part_code : goal.decreases-variant_part_code
decreases-variant_part_code l = 2 * size-VariantPart l.part.now + 1

abbrev pub decreases-tag_code : goal.decreases-tag_code
decreases-tag_code l = 2 * size-Denoter l.of.now + 2

abbrev pub decreases-selector_code : goal.decreases-selector_code
decreases-selector_code l = 2 * size-Selector l.selector.now + 1

abbrev pub decreases-variants_code : goal.decreases-variants_code
decreases-variants_code l = 2 * goal.size-variants_code l + 1

abbrev pub decreases-variant_code : goal.decreases-variant_code
decreases-variant_code l = 2 * size-Variant l.variant.now

abbrev pub decreases-set_code : goal.decreases-set_code
decreases-set_code l = 2 * size-Denoter l.base.now + 2

abbrev pub decreases-initial_code : goal.decreases-initial_code
decreases-initial_code l = 2 * size-Denoter l.of.now + 2

abbrev pub invariant-fields_code-loop-field : goal.invariant-fields_code-loop-field
invariant-fields_code-loop-field l = Grows l.fn.code l.code (each_code l.fn.code.line (denoters (map field_of (take l.field-index l.fields))))

abbrev pub invariant-variants_code-loop-variant : goal.invariant-variants_code-loop-variant
invariant-variants_code-loop-variant l = Grows l.fn.code l.code (each_code l.fn.code.line (denoters (map variant_of (take l.variant-index l.variants))))
