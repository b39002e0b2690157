-- The nesting of the nodes of type denoters by that of their parts: an equation for each node.
use Rattle.std.proofs.Common.{◌≡◌, ℕ, suc, max, Bool, List, Option, Some, None, sym, ap, ◌∙◌}
use Rattle.ep_tree.specs.declared.types.Core.TheFolds.{fold-roll-Core, fold-roll-Structure, fold-roll-FieldSection, fold-roll-Fields, fold-roll-Plain, fold-roll-TypeDenoter, fold-roll-Variant, fold-roll-VariantPart}
use Rattle.ep_tree.specs.declared.operator.QualifiedName.{QualifiedName}
use Rattle.ep_tree.specs.declared.expression.Expression.{Expression}
use Rattle.ep_tree.specs.declared.expression.Label.{Label}
use Rattle.ep_tree.specs.declared.expression.ComponentValue.{ComponentValue}
use Rattle.ep_tree.specs.declared.types.TypeDenoter.{TypeDenoter}
use Rattle.ep_tree.specs.declared.types.Plain.{Plain}
use Rattle.ep_tree.specs.declared.types.Core.{Core}
use Rattle.ep_tree.specs.declared.types.Core.TheVariants as core_is
use Rattle.ep_tree.specs.declared.types.Structure.{Structure}
use Rattle.ep_tree.specs.declared.types.Structure.TheVariants as structure_is
use Rattle.ep_tree.specs.declared.types.Fields.{Fields}
use Rattle.ep_tree.specs.declared.types.FieldSection.{FieldSection}
use Rattle.ep_tree.specs.declared.types.VariantPart.{VariantPart}
use Rattle.ep_tree.specs.declared.types.VariantSelector.{VariantSelector}
use Rattle.ep_tree.specs.declared.types.Variant.{Variant}
use Rattle.ep_tree.specs.Nodes.{type_denoter_node, plain_node, fields_node, field_section_node, variant_part_node, variant_node}
use Rattle.ep_tree.specs.Nesting.{component_value_nesting, expression_nesting, label_nesting, core_nesting, structure_nesting, field_section_nesting, fields_nesting, plain_nesting, type_denoter_nesting, variant_nesting, variant_part_nesting}
use Rattle.ep_levels.proofs.Measures.{there, most}
use Rattle.ep_levels.proofs.ExpressionNodes.{inside_is}

pub type_denoter_is : (at : ℕ) (p : Plain) (v : Option ComponentValue) → type_denoter_nesting (type_denoter_node at p v) ≡ max (plain_nesting p) (there component_value_nesting v)
type_denoter_is at p None = simp fold-roll-TypeDenoter
type_denoter_is at p (Some v) = simp fold-roll-TypeDenoter

pub plain_is : (at : ℕ) (b : Bool) (c : Core) → plain_nesting (plain_node at b c) ≡ suc (core_nesting c)
plain_is at b c = simp fold-roll-Plain

pub fields_are : (at : ℕ) (ss : List FieldSection) (v : Option VariantPart) → fields_nesting (fields_node at ss v) ≡ suc (max (most field_section_nesting ss) (there variant_part_nesting v))
fields_are at ss None = simp fold-roll-Fields
fields_are at ss (Some v) = simp fold-roll-Fields

pub section_is : (at : ℕ) (ns : List (List ℕ)) (t : TypeDenoter) → field_section_nesting (field_section_node at ns t) ≡ type_denoter_nesting t
section_is at ns t = simp fold-roll-FieldSection

pub variant_part_is : (at : ℕ) (s : VariantSelector) (vs : List Variant) (o : Option Fields) → variant_part_nesting (variant_part_node at s vs o) ≡ max (most variant_nesting vs) (there fields_nesting o)
variant_part_is at s vs None = simp fold-roll-VariantPart
variant_part_is at s vs (Some f) = simp fold-roll-VariantPart

pub variant_is : (at : ℕ) (ls : List Label) (f : Fields) → variant_nesting (variant_node at ls f) ≡ max (most label_nesting ls) (fields_nesting f)
variant_is at ls f = simp fold-roll-Variant

pub named_is : (at : ℕ) (n : QualifiedName) (es : List Expression) → core_nesting (core_is.Named at n es) ≡ most (λ e. suc (expression_nesting e)) es
named_is at n es = ap core_nesting (sym (core_is.rolls-Named at n es)) ∙ simp fold-roll-Core (inside_is expression_nesting es)

pub range_is : (at : ℕ) (l h : Expression) → core_nesting (core_is.Range at l h) ≡ max (expression_nesting l) (expression_nesting h)
range_is at l h = ap core_nesting (sym (core_is.rolls-Range at l h)) ∙ simp fold-roll-Core

pub enumeration_is : (at : ℕ) (ns : List (List ℕ)) → core_nesting (core_is.Enumeration at ns) ≡ 0
enumeration_is at ns = ap core_nesting (sym (core_is.rolls-Enumeration at ns)) ∙ simp fold-roll-Core

pub pointer_is : (at : ℕ) (n : QualifiedName) → core_nesting (core_is.Pointer at n) ≡ 0
pointer_is at n = ap core_nesting (sym (core_is.rolls-Pointer at n)) ∙ simp fold-roll-Core

pub structured_core_is : (at : ℕ) (p : Bool) (s : Structure) → core_nesting (core_is.Structured at p s) ≡ structure_nesting s
structured_core_is at p s = ap core_nesting (sym (core_is.rolls-Structured at p s)) ∙ simp fold-roll-Core

pub restricted_is : (at : ℕ) (n : QualifiedName) → core_nesting (core_is.Restricted at n) ≡ 0
restricted_is at n = ap core_nesting (sym (core_is.rolls-Restricted at n)) ∙ simp fold-roll-Core

pub type_of_is : (at : ℕ) (n : QualifiedName) → core_nesting (core_is.TypeOf at n) ≡ 0
type_of_is at n = ap core_nesting (sym (core_is.rolls-TypeOf at n)) ∙ simp fold-roll-Core

pub array_is : (at : ℕ) (ps : List Plain) (p : Plain) → structure_nesting (structure_is.Array at ps p) ≡ max (most plain_nesting ps) (plain_nesting p)
array_is at ps p = ap structure_nesting (sym (structure_is.rolls-Array at ps p)) ∙ simp fold-roll-Structure

pub record_is : (at : ℕ) (f : Fields) → structure_nesting (structure_is.Record at f) ≡ fields_nesting f
record_is at f = ap structure_nesting (sym (structure_is.rolls-Record at f)) ∙ simp fold-roll-Structure

pub set_type_is : (at : ℕ) (p : Plain) → structure_nesting (structure_is.Set at p) ≡ plain_nesting p
set_type_is at p = ap structure_nesting (sym (structure_is.rolls-Set at p)) ∙ simp fold-roll-Structure
