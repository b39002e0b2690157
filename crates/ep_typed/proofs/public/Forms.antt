-- What the denoters of the code are seen as.
use Rattle.std.proofs.Common.{◌≡◌, ◌∙◌, ℕ, List, None, append-nil, map, sym, ap}
use Rattle.ep_typed.specs.Trees.{Denoter, Required, Named, Subrange, Enumeration, Array, Record, Set, Initial, denoters}
use Rattle.ep_typed.specs.Viewed.{bound_of, components_of, constant_expr, denoter_of, denoter_step, field_step, part_step, selector_step, variant_part_step, variant_step}
use Rattle.ep_typed.specs.declared.denoter.Bound.{Bound}
use Rattle.ep_typed.specs.declared.denoter.Denoter.{Denoter as Written}
use Rattle.ep_typed.specs.declared.denoter.Denoter.TheVariants as written
use Rattle.ep_typed.specs.declared.denoter.Denoter.TheOpen as layer
use Rattle.ep_typed.specs.declared.denoter.Denoter.TheFolds.{fold-roll-Denoter, fold-roll-FieldPart, fold-roll-RecordField}
use Rattle.ep_typed.specs.declared.denoter.FieldPart.{FieldPart, roll-FieldPart}
use Rattle.ep_typed.specs.declared.denoter.RecordField.{RecordField, fold-RecordField, out-RecordField, roll-out-RecordField}
use Rattle.ep_typed.specs.declared.denoter.RequiredType.{RequiredType}
use Rattle.ep_typed.specs.declared.value.Value.{Value}

pub required_is : (r : RequiredType) → denoter_of (written.Required r) ≡ Required r
required_is r = ap denoter_of (sym (written.rolls-Required r)) ∙ fold-roll-Denoter Denoter Denoter (List Denoter) Denoter Denoter (List Denoter) denoter_step selector_step part_step field_step variant_step variant_part_step (layer.Required r)

pub named_is : (index : ℕ) (tuple : List Bound) → denoter_of (written.Named index tuple) ≡ Named index (map bound_of tuple)
named_is index tuple = ap denoter_of (sym (written.rolls-Named index tuple)) ∙ fold-roll-Denoter Denoter Denoter (List Denoter) Denoter Denoter (List Denoter) denoter_step selector_step part_step field_step variant_step variant_part_step (layer.Named index tuple)

pub subrange_is : (host : Written) (low high : Bound) → denoter_of (written.Subrange host low high) ≡ Subrange (denoter_of host) (bound_of low) (bound_of high)
subrange_is host low high = ap denoter_of (sym (written.rolls-Subrange host low high)) ∙ fold-roll-Denoter Denoter Denoter (List Denoter) Denoter Denoter (List Denoter) denoter_step selector_step part_step field_step variant_step variant_part_step (layer.Subrange host low high)

pub enumeration_is : (names : List (List ℕ)) → denoter_of (written.Enumeration names) ≡ Enumeration names
enumeration_is names = ap denoter_of (sym (written.rolls-Enumeration names)) ∙ fold-roll-Denoter Denoter Denoter (List Denoter) Denoter Denoter (List Denoter) denoter_step selector_step part_step field_step variant_step variant_part_step (layer.Enumeration names)

pub array_is : (index component : Written) → denoter_of (written.Array index component) ≡ Array (denoter_of index) (denoter_of component)
array_is index component = ap denoter_of (sym (written.rolls-Array index component)) ∙ fold-roll-Denoter Denoter Denoter (List Denoter) Denoter Denoter (List Denoter) denoter_step selector_step part_step field_step variant_step variant_part_step (layer.Array index component)

pub record_is : (part : FieldPart) → denoter_of (written.Record part) ≡ Record (denoters (components_of part))
record_is part = ap denoter_of (sym (written.rolls-Record part)) ∙ fold-roll-Denoter Denoter Denoter (List Denoter) Denoter Denoter (List Denoter) denoter_step selector_step part_step field_step variant_step variant_part_step (layer.Record part)

pub set_is : (base : Written) → denoter_of (written.Set base) ≡ Set (denoter_of base)
set_is base = ap denoter_of (sym (written.rolls-Set base)) ∙ fold-roll-Denoter Denoter Denoter (List Denoter) Denoter Denoter (List Denoter) denoter_step selector_step part_step field_step variant_step variant_part_step (layer.Set base)

pub initial_is : (of : Written) (value : Value) → denoter_of (written.Initial of value) ≡ Initial (denoter_of of) (constant_expr value)
initial_is of value = ap denoter_of (sym (written.rolls-Initial of value)) ∙ fold-roll-Denoter Denoter Denoter (List Denoter) Denoter Denoter (List Denoter) denoter_step selector_step part_step field_step variant_step variant_part_step (layer.Initial of value)

-- a field, by its denoter
field_is : (f : RecordField) → fold-RecordField Denoter Denoter (List Denoter) Denoter Denoter (List Denoter) denoter_step selector_step part_step field_step variant_step variant_part_step f ≡ denoter_of (out-RecordField f).denoter
field_is f =
    ap (fold-RecordField Denoter Denoter (List Denoter) Denoter Denoter (List Denoter) denoter_step selector_step part_step field_step variant_step variant_part_step) (sym (roll-out-RecordField f))
    ∙ fold-roll-RecordField Denoter Denoter (List Denoter) Denoter Denoter (List Denoter) denoter_step selector_step part_step field_step variant_step variant_part_step (out-RecordField f)

-- fields without a variant part
pub fields_are : (fields : List RecordField) → components_of (roll-FieldPart (record { fields = fields; variant_part = None })) ≡ map (λ f. denoter_of (out-RecordField f).denoter) fields
fields_are fields =
    fold-roll-FieldPart Denoter Denoter (List Denoter) Denoter Denoter (List Denoter) denoter_step selector_step part_step field_step variant_step variant_part_step (record { fields = fields; variant_part = None })
    ∙ (append-nil _ ∙ (λ k. map (λ f. field_is f k) fields))
