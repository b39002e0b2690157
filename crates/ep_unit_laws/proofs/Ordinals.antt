-- Ordinal types that are written in a block: the values that the rules take of a type's own denoter are those of its type value in the unit that has the block's types.
use Rattle.std.proofs.Common.{◌≡◌, ℕ, ℤ, pos, zero, suc, List, [], ◌∷◌, length, Option, Some, None, slice_get, refl, sym, ap, ◌∙◌}
use Rattle.std.proofs.lemmas.Option.{same_Some}
use Rattle.ep_outside.specs.Known.{IsPrefix}
use Rattle.ep_typed.specs.Denoters.{definition_of, found_of, required_type, type_within}
use Rattle.ep_typed.specs.Trees as tree
use Rattle.ep_values.specs.TypeValues as type
use Rattle.ep_values.specs.TypeValues.{TypeValue, bare_of}
use Rattle.ep_typed.specs.declared.denoter.RequiredType.{RequiredType}
use Rattle.ep_typed.specs.declared.denoter.RequiredType.TheVariants as simple
use Rattle.ep_typed.specs.declared.unit.UnitType.{UnitType}
use Rattle.ep_scope.specs.declared.kind.Host.{Host}
use Rattle.ep_scope.specs.declared.kind.Kind.{Kind}
use Rattle.ep_scope.specs.declared.kind.Kind.TheVariants as kind
use Rattle.ep_scope.specs.declared.parameter.TypeName.{TypeName}
use Rattle.ep_scope.specs.declared.parameter.TypeName.TheVariants as type_name
use Rattle.ep_rules.specs.Judgements.{Accepts, when_accepted}
use Rattle.ep_stmt_rules.proofs.public.judged.Fits.{Fits}
use Rattle.ep_unit_rules.specs.OrdinalTypes.{ordinal_value, value_of}
use Rattle.ep_unit_rules.specs.Types.{index_host}
use Rattle.ep_check_unit.specs.Declarations.{Written, index_values}
use Rattle.ep_unit_rules.specs.Labels.{tag_values}
use Rattle.ep_unit_laws.proofs.Holds.{named_tree}
use Rattle.ep_unit_laws.proofs.Prefixes.{prefix_get}

-- ---- hosts

-- an index type, or a base type, is ordinal
pub index_ordinal : (k : Kind) (h : Host) → index_host k ≡ Accepts h → k ≡ kind.Ordinal h
index_ordinal (kind.Ordinal g) h e = let is : g ≡ h = cc in ap kind.Ordinal is
index_ordinal (kind.Structured n) h e = cc
index_ordinal (kind.Set base) h e = cc
index_ordinal kind.EmptySet h e = cc
index_ordinal kind.Text h e = cc
index_ordinal kind.File h e = cc

-- ---- values

-- an ordinal type has this host, and these bounds by its own denoter
pub record IsValued (k : Kind) (o : Option TypeValue) (h : Host) (low high : ℤ) : Type 0 where
  pub ordinal : k ≡ kind.Ordinal h
  pub has_value : o ≡ Some (type.Ordinal low high)

value_valued : (h : Host) (o : Option TypeValue) → Fits (λ v. IsValued (kind.Ordinal h) o v.host v.low v.high) (tag_values h o)
value_valued h None = tt
value_valued h (Some (type.Ordinal low high)) = record { ordinal = refl; has_value = refl }
value_valued h (Some type.Text) = tt
value_valued h (Some (type.Array low high of)) = tt
value_valued h (Some (type.Record ts)) = tt
value_valued h (Some (type.Set low high)) = tt
value_valued h (Some (type.Initial of start)) = tt

host_valued : (k : Kind) (o : Option TypeValue) → Fits (λ v. IsValued k o v.host v.low v.high) (when_accepted (λ h. tag_values h o) (index_host k))
host_valued (kind.Ordinal h) o = value_valued h o
host_valued (kind.Structured n) o = tt
host_valued (kind.Set base) o = tt
host_valued kind.EmptySet o = tt
host_valued kind.Text o = tt
host_valued kind.File o = tt

-- so has an index type, and the type of a tag
pub index_valued : (w : Written) → Fits (λ v. IsValued w.kind (value_of w.block.types w.of) v.host v.low v.high) (index_values w)
index_valued w = host_valued w.kind (value_of w.block.types w.of)

-- ---- type values

module _ (types : List UnitType) where
  -- by its own denoter
  pub definition_is : (n : ℕ) (d : tree.Denoter) (v x : TypeValue) → type_within types n d ≡ Some v → ordinal_value d ≡ Some x → bare_of v ≡ x
  definition_is zero d v x e f = cc
  definition_is (suc n) (tree.Subrange of (tree.Fixed low) (tree.Fixed high)) v x e f = ap bare_of (same_Some v (type.Ordinal low high) (sym e)) ∙ same_Some (type.Ordinal low high) x f
  definition_is (suc n) (tree.Enumeration []) v x e f = cc
  definition_is (suc n) (tree.Enumeration (first ∷ others)) v x e f =
      ap bare_of (same_Some v (type.Ordinal (pos 0) (pos (length others))) (sym e)) ∙ same_Some (type.Ordinal (pos 0) (pos (length others))) x f
  definition_is (suc n) (tree.Required r) v x e f = cc
  definition_is (suc n) (tree.Named index tuple) v x e f = cc
  definition_is (suc n) (tree.Array index component) v x e f = cc
  definition_is (suc n) (tree.Record ds) v x e f = cc
  definition_is (suc n) (tree.Set base) v x e f = cc
  definition_is (suc n) (tree.Initial of value) v x e f =
      definition_is (suc n) of v x e f

  entry_is : (n number : ℕ) (v x : TypeValue) (o : Option UnitType) → ((t : UnitType) → o ≡ Some t → slice_get types number ≡ Some t) → found_of (type_within types n) (slice_get types number) ≡ Some v
      → found_of ordinal_value o ≡ Some x → bare_of v ≡ x
  entry_is n number v x None there e f = cc
  entry_is n number v x (Some t) there e f = definition_is n (definition_of t) v x (sym (ap (found_of (type_within types n)) (there t refl)) ∙ e) f

  pub required_is : (r : RequiredType) (v x : TypeValue) → Some (required_type r) ≡ Some v → Some (required_type r) ≡ Some x → bare_of v ≡ x
  required_is simple.Integer v x e f = ap bare_of (same_Some v (required_type simple.Integer) (sym e)) ∙ same_Some (required_type simple.Integer) x f
  required_is simple.Char v x e f = ap bare_of (same_Some v (required_type simple.Char) (sym e)) ∙ same_Some (required_type simple.Char) x f
  required_is simple.Boolean v x e f = ap bare_of (same_Some v (required_type simple.Boolean) (sym e)) ∙ same_Some (required_type simple.Boolean) x f

  -- the type value by the own denoter of a type is the bare form of that of its name
  pub value_is : (n : ℕ) (few : List UnitType) (of : TypeName) (v x : TypeValue) → IsPrefix few types → type_within types (suc n) (named_tree of) ≡ Some v → value_of few of ≡ Some x → bare_of v ≡ x
  value_is n few (type_name.Required r) v x p e f = required_is r v x e f
  value_is n few (type_name.Entry number) v x p e f =
      entry_is n number v x (slice_get few number) (λ t at. prefix_get few types number t p at) e f
