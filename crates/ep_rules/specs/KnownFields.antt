-- What fields of constants are, which are records (ISO 10206, 6.8.8.3).
use Rattle.std.specs.Prelude.{ℕ, ℤ, nat_eq, Bool, true, false, ◌&&◌, List, [], ◌∷◌, ◌++◌, Option, Some, None}
use Rattle.std.specs.Prelude.{if◌then◌else◌, option_and_then}
use Rattle.ep_typed.specs.Trees.{Constant, Elements, Expr}
use Rattle.ep_scope.specs.declared.structure.FieldType.{FieldType}
use Rattle.ep_scope.specs.declared.structure.VariantStep.{VariantStep}
use Rattle.ep_rules.specs.ConstantAccesses.{constant_as, value_for}
use Rattle.ep_rules.specs.VariantSteps.{field_steps, selected_variant, variant_step}

-- the number that a constant of an ordinal type is
abbrev pub constant_number : Expr → Option ℤ
constant_number (Constant z) = Some z
constant_number _ = None

-- the number that the tag behind these steps is given
abbrev pub tag_given : Elements → List ℕ → ℕ → Option ℤ
tag_given es before tag = option_and_then constant_number (value_for es es (before ++ tag ∷ 0 ∷ []))

-- whether a value of a tag selects the variant
abbrev pub selects : VariantStep → Option ℤ → Bool
selects s None = false
selects s (Some z) = nat_eq (selected_variant s.selection z) s.variant

-- what the tags on the way are given selects each variant of a path, behind these steps
abbrev pub are_selected : Elements → List ℕ → List VariantStep → Bool
are_selected es before [] = true
are_selected es before (s ∷ path) =
    selects s (tag_given es before s.selection.tag) && are_selected es (before ++ variant_step s ∷ []) path

-- a field of what is given these, where its variant is the one that is selected
abbrev pub field_known : FieldType → Elements → Option Expr
field_known f es =
    if are_selected es [] f.path then option_and_then (constant_as f.kind) (value_for es es (field_steps f)) else None
