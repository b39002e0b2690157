-- What an index gives of an array (ISO 10206, 6.5.3.2).
use Rattle.std.specs.Prelude.{ℕ, suc, ◌-◌, max, nat_le, List, [], ◌∷◌, Option, Some, None, if◌then◌else◌, unwrap_or}
use Rattle.ep_typed.specs.Trees.{Expr, Indexed, IndexedValue, Read, Structured}
use Rattle.ep_scope.specs.Scopes.{Region, structure_in}
use Rattle.ep_scope.specs.declared.kind.Kind.{Kind}
use Rattle.ep_scope.specs.declared.kind.Kind.TheVariants as kind
use Rattle.ep_scope.specs.declared.parameter.TypeName.{TypeName}
use Rattle.ep_scope.specs.declared.rule.TheConstants as rule
use Rattle.ep_scope.specs.declared.structure.ArrayType.{ArrayType}
use Rattle.ep_scope.specs.declared.structure.Composition.{Composition}
use Rattle.ep_scope.specs.declared.structure.Composition.TheVariants as composition
use Rattle.ep_rules.specs.ConstantAccesses.{element_known}
use Rattle.ep_rules.specs.Folding.{folded}
use Rattle.ep_rules.specs.Judgements.{Judged, Accepts, Breaks, Typed, both}
use Rattle.ep_rules.specs.Operators.{are_compatible, character, is_integer, map_both, unbuilt_typed}
use Rattle.ep_rules.specs.declared.access.Access.{Access}
use Rattle.ep_rules.specs.declared.access.Access.TheVariants as access
use Rattle.ep_rules.specs.declared.forms.TheConstants as limit

-- A component of this kind is read of its place where the array is (ISO 10206, 6.5.3.2), and else taken of its value
-- (6.8.6.2).
-- An array that is written out is a constant, whose component is known where the index is (6.8.8.2).
abbrev pub element_form : Kind → Expr → Expr → Expr
element_form k (Read place) index = Read (Indexed place index)
element_form k (Structured of es) index =
    unwrap_or (element_known k es (folded index)) (IndexedValue (Structured of es) index)
element_form k array index = IndexedValue array index

-- a component, where the array and the index are built
abbrev pub component_form : Kind → Option Expr → Option Expr → Option Expr
component_form k = map_both (element_form k)

-- a component is a variable where the array is one, and protected where that is (ISO 10206, 6.5.1)
abbrev pub component_access : TypeName → Access → Access
component_access component (access.Variable of guarded) = access.Variable component guarded
component_access component (access.Tag of guarded tag) = access.Variable component guarded
component_access component access.File = access.File
component_access component access.Constant = access.Constant
component_access component access.Value = access.Value

-- What a component stands above: where it is read of a variable its place, which is above the place of the array and
-- the index, and else the value of the array and the index.
abbrev pub below_component : Access → ℕ → ℕ → ℕ
below_component (access.Variable of guarded) array index = suc (max (array - 1) index)
below_component (access.Tag of guarded tag) array index = suc (max (array - 1) index)
below_component access.File array index = max array index
below_component access.Constant array index = max array index
below_component access.Value array index = max array index

abbrev pub component_depth : Access → ℕ → ℕ → ℕ
component_depth whole array index = suc (below_component whole array index)

-- a component of an array of this type
abbrev pub component_typed : ArrayType → Typed → Typed → Judged Typed
component_typed a x i =
    if nat_le (component_depth x.access x.depth i.depth) limit.DEPTH
    then Accepts
    (record {
      form = component_form a.kind x.form i.form;
      kind = a.kind;
      depth = component_depth x.access x.depth i.depth;
      access = component_access a.component x.access;
    })
    else Breaks (rule.TOO_DEEP ∷ [])

-- what is indexed has no index, or the index another host
abbrev pub no_index : Judged Typed
no_index = Breaks (rule.INDEX ∷ [])

-- an index of an array has the host of the index type
abbrev pub indexed_array : ArrayType → Typed → Typed → Judged Typed
indexed_array a x i = if are_compatible (kind.Ordinal a.index) i.kind then component_typed a x i else no_index

-- a structured type is one that is in view; a record has no index
abbrev pub indexed_if : Option Composition → Typed → Typed → Judged Typed
indexed_if None x i = no_index
indexed_if (Some (composition.Array a)) x i = indexed_array a x i
indexed_if (Some (composition.Record fs)) x i = no_index

-- an index of a string is an integer, which gives a character that has no code yet
abbrev pub indexed_text : Typed → Typed → Judged Typed
indexed_text x i = if is_integer i.kind then unbuilt_typed character x i else no_index

module _ (scopes : List Region) where
  -- what has an index is an array or a string
  abbrev pub indexed_by : Kind → Typed → Typed → Judged Typed
  indexed_by (kind.Ordinal h) x i = no_index
  indexed_by (kind.Structured n) x i = indexed_if (structure_in scopes n) x i
  indexed_by (kind.Set h) x i = no_index
  indexed_by kind.EmptySet x i = no_index
  indexed_by kind.Text x i = indexed_text x i
  indexed_by kind.File x i = no_index

  abbrev pub indexed : Typed → Typed → Judged Typed
  indexed x i = indexed_by x.kind x i

  -- indexes, from left to right
  abbrev pub indexed_all : Judged Typed → List (Judged Typed) → Judged Typed
  indexed_all x [] = x
  indexed_all x (i ∷ is) = indexed_all (both indexed x i) is
