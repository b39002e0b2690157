-- The steps from a record to its fields, those in variants among them, and the variants that values of tags select.
use Rattle.std.specs.Prelude.{ℕ, ℤ, List, [], ◌∷◌, ◌++◌, length, map, Option, Some, None}
use Rattle.std.specs.List.{position}
use Rattle.ep_typed.specs.Selections.{variant_number}
use Rattle.ep_typed.specs.declared.tree.CaseRange.{CaseRange}
use Rattle.ep_typed.specs.declared.tree.Selection.{Selection}
use Rattle.ep_scope.specs.declared.structure.FieldType.{FieldType}
use Rattle.ep_scope.specs.declared.structure.TagType.{TagType}
use Rattle.ep_scope.specs.declared.structure.VariantStep.{VariantStep}
use Rattle.ep_rules.specs.ConstantAccesses.{has_index}

-- the steps from the record, or from the innermost variant, to a component; a tag is the one component of a record
-- that has its number
abbrev pub part_steps : Option TagType → ℕ → List ℕ
part_steps None number = number ∷ []
part_steps (Some tag) number = number ∷ 0 ∷ []

-- the step to a variant
abbrev pub variant_step : VariantStep → ℕ
variant_step s = variant_number s.selection s.variant

-- the steps to a field
abbrev pub field_steps : FieldType → List ℕ
field_steps f = map variant_step f.path ++ part_steps f.tag f.number

-- the first variant that has a value among its labels
abbrev pub labelled_variant : List (List CaseRange) → ℤ → Option ℕ
labelled_variant labels z = position (λ ranges. has_index ranges z) labels

-- the variant that a value of a tag selects: that one, or else the one that completes them
abbrev pub variant_if : Selection → Option ℕ → ℕ
variant_if s None = length s.labels
variant_if s (Some k) = k

abbrev pub selected_variant : Selection → ℤ → ℕ
selected_variant s z = variant_if s (labelled_variant s.labels z)
