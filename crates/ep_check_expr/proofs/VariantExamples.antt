-- What the rules say of small expressions with tags and fields of variants.
use Rattle.std.proofs.Common.{◌≡◌, pos, true, List, [], ◌∷◌, Some, None, refl, codes}
use Rattle.ep_typed.specs.Trees.{Field, FieldValue, VariantValue, Function, Place, Read, Variable, Variant, no_actual}
use Rattle.ep_typed.specs.declared.denoter.RequiredType.TheVariants as simple
use Rattle.ep_typed.specs.declared.interface.FormalMode.TheVariants as mode
use Rattle.ep_typed.specs.declared.tree.Selection.{Selection}
use Rattle.ep_scope.specs.Scopes.{Region}
use Rattle.ep_scope.specs.declared.kind.Kind.TheVariants as kind
use Rattle.ep_scope.specs.declared.parameter.Protection.TheVariants as protection
use Rattle.ep_scope.specs.declared.parameter.TypeName.TheVariants as type_name
use Rattle.ep_scope.specs.declared.rule.TheConstants as rule
use Rattle.ep_scope.specs.declared.structure.Composition.TheVariants as composition
use Rattle.ep_scope.specs.declared.structure.StructuredType.{StructuredType}
use Rattle.ep_scope.specs.declared.structure.TagType.{TagType}
use Rattle.ep_scope.specs.declared.thing.Declaration.TheVariants as declaration
use Rattle.ep_rules.specs.declared.access.Access.TheVariants as access
use Rattle.ep_check_expr.specs.Expressions.{judged}
use Rattle.ep_rules.specs.Judgements.{Accepts, Breaks}
use Rattle.ep_rules.specs.Operators.{integer}
use Rattle.ep_check_expr.proofs.Examples.{bare, call, color, declares, field, function_of, of_program, plain, plain_field, written}
use Rattle.ep_check_expr.proofs.public.Nodes.{argument-judged, arguments-judged, expression-judged, field-judged, name-judged, simple-judged, term-judged}

-- a tag of a color, behind one component, which selects a variant for red and one for all others
abbrev by_color : Selection
by_color = record { tag = 1; labels = (record { low = pos 0; high = pos 0 } ∷ []) ∷ []; completed = true }

abbrev color_tag : TagType
color_tag = record { selection = by_color; host = color; low = pos 0; high = pos 1 }

-- a record of an integer x and the tag k, of which one variant has an integer y and the other one a color z
abbrev shape : StructuredType
shape = record {
  number = 5;
  composition = composition.Record (
      plain_field (codes "x") (type_name.Required simple.Integer) integer 0 ∷ record { name = codes "k"; of = type_name.Entry 0; kind = kind.Ordinal color; path = []; number = 1; tag = Some color_tag }
      ∷ record { name = codes "y"; of = type_name.Required simple.Integer; kind = integer; path = record { selection = by_color; variant = 0 } ∷ []; number = 0; tag = None }
      ∷ record { name = codes "z"; of = type_name.Entry 0; kind = kind.Ordinal color; path = record { selection = by_color; variant = 1 } ∷ []; number = 0; tag = None } ∷ []
      );
}

-- a variable v of this type, a function w that gives such a record, and g with a variable parameter
abbrev with_variants : List Region
with_variants = record {
  entries = (codes "v", declares 8 (declaration.Variable (type_name.Entry 5) (kind.Structured 5) protection.Unprotected)) ∷ (codes "w", declares 2 (declaration.Function [] (written (type_name.Entry 5)) (kind.Structured 5)))
      ∷ (codes "g", declares 1 (function_of mode.Variable)) ∷ [];
  qualified = [];
  structures = shape ∷ [];
  records = [];
} ∷ []

abbrev of_v : Place
of_v = Variable (codes "p") 8

-- v.x, in front of the variants
common_field : judged with_variants (bare (field (codes "v") (codes "x")))
    ≡ Accepts (record { form = Some (Read (Field of_v 0)); kind = integer; depth = 3; access = access.Variable (type_name.Required simple.Integer) protection.Unprotected })
common_field = simp (expression-judged, simple-judged, term-judged, name-judged, field-judged) refl

-- v.k, the tag
tag_read : judged with_variants (bare (field (codes "v") (codes "k")))
    ≡ Accepts (record { form = Some (Read (Field (Field of_v 1) 0)); kind = kind.Ordinal color; depth = 4; access = access.Tag (type_name.Entry 0) protection.Unprotected color_tag })
tag_read = simp (expression-judged, simple-judged, term-judged, name-judged, field-judged) refl

-- v.y and v.z, in the first and in the second variant
field_of_first : judged with_variants (bare (field (codes "v") (codes "y")))
    ≡ Accepts (record { form = Some (Read (Field (Variant of_v by_color 0) 0)); kind = integer; depth = 4; access = access.Variable (type_name.Required simple.Integer) protection.Unprotected })
field_of_first = simp (expression-judged, simple-judged, term-judged, name-judged, field-judged) refl

field_of_second : judged with_variants (bare (field (codes "v") (codes "z")))
    ≡ Accepts (record { form = Some (Read (Field (Variant of_v by_color 1) 0)); kind = kind.Ordinal color; depth = 4; access = access.Variable (type_name.Entry 0) protection.Unprotected })
field_of_second = simp (expression-judged, simple-judged, term-judged, name-judged, field-judged) refl

-- w.k, of a value
tag_of_value : judged with_variants (bare (field (codes "w") (codes "k")))
    ≡ Accepts (record { form = Some (FieldValue (FieldValue (Function (of_program 2) no_actual) 1) 0); kind = kind.Ordinal color; depth = 3; access = access.Value })
tag_of_value = simp (expression-judged, simple-judged, term-judged, name-judged, field-judged) refl

-- w.y, of a value
variant_of_value : judged with_variants (bare (field (codes "w") (codes "y")))
    ≡ Accepts (record { form = Some (FieldValue (VariantValue (Function (of_program 2) no_actual) by_color 0) 0); kind = integer; depth = 3; access = access.Value })
variant_of_value = simp (expression-judged, simple-judged, term-judged, name-judged, field-judged) refl

-- g(v.k): a tag is not given for a variable parameter, and this one has another type
tag_for_variable : judged with_variants (bare (call (codes "g") (plain (field (codes "v") (codes "k")) ∷ []))) ≡ Breaks (rule.ARGUMENT_COMPONENT ∷ rule.VARIABLE_ARGUMENT ∷ [])
tag_for_variable = simp (expression-judged, simple-judged, term-judged, name-judged, field-judged, arguments-judged, argument-judged) refl
