-- Set types that are written in a block: the unit that has the block's lists has them as valid types.
use Rattle.std.proofs.Common.{◌≡◌, ℕ, ℤ, zero, suc, ◌<◌, Bool, true, false, List, [], ◌∷◌, length, Option, Some, None, option_map, slice_get, refl, sym, ap, ◌∙◌, subst, arith}
use Rattle.std.proofs.lemmas.Bool.{and_parts}
use Rattle.std.proofs.lemmas.Option.{slice_get_within}
use Rattle.std.specs.Prelude.{if◌then◌else◌}
use Rattle.ep_typed.specs.Denoters.{definition_of, found_of, required_type, type_within}
use Rattle.ep_values.specs.Sets.{is_ordinal}
use Rattle.ep_typed.specs.Trees as tree
use Rattle.ep_values.specs.TypeValues as type
use Rattle.ep_values.specs.TypeValues.{TypeValue, bare_of}
use Rattle.ep_typed.specs.Viewed.{denoter_of}
use Rattle.ep_typed.specs.declared.denoter.RequiredType.{RequiredType}
use Rattle.ep_typed.specs.declared.denoter.RequiredType.TheVariants as simple
use Rattle.ep_typed.specs.declared.unit.Unit.{Unit as TypedUnit}
use Rattle.ep_typed.specs.declared.unit.UnitType.{UnitType}
use Rattle.ep_typed.proofs.public.Forms.{set_is}
use Rattle.ep_outside.specs.Known.{IsPrefix}
use Rattle.ep_scope.specs.declared.kind.Host.{Host}
use Rattle.ep_scope.specs.declared.kind.Kind.TheVariants as kind
use Rattle.ep_scope.specs.declared.parameter.TypeName.{TypeName}
use Rattle.ep_scope.specs.declared.parameter.TypeName.TheVariants as type_name
use Rattle.ep_scope.specs.declared.rule.TheConstants as rule
use Rattle.ep_rules.specs.Hosts.{typed_host}
use Rattle.ep_rules.specs.Judgements.{Accepts, Breaks, when_accepted}
use Rattle.ep_stmt_rules.proofs.public.judged.Fits.{Fits, fits_is, fits_then}
use Rattle.ep_check_unit.specs.Blocks.{Block}
use Rattle.ep_unit_rules.specs.OrdinalTypes.{ordinal_value, value_of}
use Rattle.ep_unit_rules.specs.Sets.{are_members}
use Rattle.ep_unit_rules.specs.Types.{index_host}
use Rattle.ep_check_unit.specs.Declarations.{DenoterPart, Written, set_on, set_over, set_written, settled_part, unless_wide}
use Rattle.ep_unit_laws.proofs.Denoting.{Denotes, DenotesSet, denotes_bounds, denotes_set}
use Rattle.ep_unit_laws.proofs.Holds.{HasTypeHere, Holds, ListsKind, holds_more, lists_kind_more, named_tree}
use Rattle.ep_unit_laws.proofs.Leading.{Extends}
use Rattle.ep_unit_laws.proofs.Prefixes.{prefix_get}
use Rattle.ep_unit_laws.proofs.Open.{IsOpen}
use Rattle.ep_unit_laws.proofs.Ordinals.{index_ordinal}
use Rattle.ep_unit_laws.proofs.Structures.{IsKnown, part_settles}
use Rattle.ep_unit_laws.proofs.Types.{IsNext, Settles, Stood, Wrote, Writes, next_denotes}

-- ---- the values of a type that may be members

module _ (types : List UnitType) where
  -- by the own denoter of the type
  definition_members : (n : ℕ) (d : tree.Denoter) (v : TypeValue) → type_within types n d ≡ Some v → are_members (ordinal_value d) ≡ true → are_members (Some (bare_of v)) ≡ true
  definition_members zero d v e m = cc
  definition_members (suc n) (tree.Subrange of (tree.Fixed low) (tree.Fixed high)) v e m = subst (λ o. are_members (option_map bare_of o) ≡ true) e m
  definition_members (suc n) (tree.Enumeration []) v e m = cc
  definition_members (suc n) (tree.Enumeration (first ∷ others)) v e m = subst (λ o. are_members (option_map bare_of o) ≡ true) e m
  definition_members (suc n) (tree.Required r) v e m = cc
  definition_members (suc n) (tree.Named index tuple) v e m = cc
  definition_members (suc n) (tree.Array index component) v e m = cc
  definition_members (suc n) (tree.Record ds) v e m = cc
  definition_members (suc n) (tree.Set base) v e m = cc
  definition_members (suc n) (tree.Initial of value) v e m =
      definition_members (suc n) of v e m

  -- by its entry in fewer types
  entry_members : (n number : ℕ) (v : TypeValue) (o : Option UnitType) → ((t : UnitType) → o ≡ Some t → slice_get types number ≡ Some t) → found_of (type_within types n) (slice_get types number) ≡ Some v
      → are_members (found_of ordinal_value o) ≡ true → are_members (Some (bare_of v)) ≡ true
  entry_members n number v None there e m = cc
  entry_members n number v (Some t) there e m = definition_members n (definition_of t) v (sym (ap (found_of (type_within types n)) (there t refl)) ∙ e) m

  required_members : (r : RequiredType) (v : TypeValue) → Some (required_type r) ≡ Some v → are_members (Some (required_type r)) ≡ true → are_members (Some (bare_of v)) ≡ true
  required_members simple.Integer v e m = subst (λ o. are_members (option_map bare_of o) ≡ true) e m
  required_members simple.Char v e m = subst (λ o. are_members (option_map bare_of o) ≡ true) e m
  required_members simple.Boolean v e m = subst (λ o. are_members (option_map bare_of o) ≡ true) e m

  pub value_members : (n : ℕ) (few : List UnitType) (of : TypeName) (v : TypeValue) → IsPrefix few types → type_within types (suc n) (named_tree of) ≡ Some v → are_members (value_of few of) ≡ true → are_members (Some (bare_of v)) ≡ true
  value_members n few (type_name.Required r) v p e m = required_members r v e m
  value_members n few (type_name.Entry number) v p e m =
      entry_members n number v (slice_get few number) (λ t at. prefix_get few types number t p at) e m

module _ (u : TypedUnit) where
  -- ---- a set of a base type that stands

  module _ (b : Block) (base : Written) (h : Host) (stands : Settles u b base) (ordinal : base.kind ≡ kind.Ordinal h) (members : are_members (value_of base.block.types base.of) ≡ true) where
    abbrev Number : ℕ
    Number = length base.block.types

    abbrev Over : Written
    Over = set_over h base

    module _ (under : IsOpen b) (ext : Extends u Over.block) (free : base.block.waits ≡ None) (next : IsNext u Number (denoter_of Over.denoter)) (x : Holds u (length b.types) b) where
      stood : Stood u base
      stood = stands.holds under ext free x

      typed_here : HasTypeHere u Number (denoter_of base.denoter) base.of (kind.Ordinal h)
      typed_here = subst (HasTypeHere u Number (denoter_of base.denoter) base.of) ordinal stood.denotes

      within : Number < length u.types
      within = slice_get_within u.types Number next.entry next.at

      -- its bounds
      bounds : (low high : ℤ) × (typed_here.0 ≡ type.Ordinal low high)
      bounds = denotes_bounds u.types Number (denoter_of base.denoter) (typed_host h) typed_here.0 (omega (arith, within)) typed_here.1

      may_be : (is_ordinal bounds.0 ≡ true) × (is_ordinal bounds.1 ≡ true)
      may_be =
          let of = typed_here.2.has_bare in
          and_parts (is_ordinal bounds.0) (is_ordinal bounds.1)
          (subst (λ v. are_members (Some v) ≡ true) (of.bare ∙ bounds.2)
          (value_members u.types Number base.block.types base.of of.type_value ext.types (of.has_type (suc Number) (omega arith)) members))

      abbrev Value : TypeValue
      Value = type.Set bounds.0 bounds.1

      over_denotes : DenotesSet u.types Number (denoter_of Over.denoter) (typed_host h) Value
      over_denotes =
          subst (λ d. DenotesSet u.types Number d (typed_host h) Value) (sym (set_is base.denoter))
          (denotes_set u.types Number (denoter_of base.denoter) (typed_host h) bounds.0 bounds.1 (omega (arith, within))
          (subst (Denotes u.types Number (denoter_of base.denoter) (typed_host h)) bounds.2 typed_here.1) may_be.0 may_be.1)

      over_wrote : Wrote u Number Over
      over_wrote = record {
        block = holds_more u Number (suc Number) base.block (omega arith) stood.block;
        denotes = (Value, over_denotes);
        of = next_denotes u Number (denoter_of Over.denoter) (kind.Set h) Value next over_denotes;
        lists = lists_kind_more u Number (suc Number) (kind.Ordinal h) (omega arith) (subst (ListsKind u Number) ordinal stood.lists);
      }

    over_writes : Writes u b Over
    over_writes = record { grows = stands.grows; holds = λ under ext free next x. over_wrote under ext free next x }

  is_narrow : (c : Bool) (done : Unit {0}) → (if c then Accepts tt else Breaks (rule.SET_BASE ∷ [])) ≡ Accepts done → c ≡ true
  is_narrow true done e = refl
  is_narrow false done e = cc

  pub set_writes : (base : DenoterPart) → IsKnown u base → (line : ℕ) (b : Block) → Fits (Writes u b) (set_written base line b)
  set_writes base known line b =
      fits_then (Settles u b) (Writes u b) set_on (settled_part base line b) (part_settles u base known line b)
      (λ w stands. fits_then (λ h. index_host w.kind ≡ Accepts h) (Writes u b) (λ h. when_accepted (λ _. Accepts (set_over h w)) (unless_wide w)) (index_host w.kind) (fits_is (index_host w.kind))
      (λ h e. fits_then (λ done. unless_wide w ≡ Accepts done) (Writes u b) (λ _. Accepts (set_over h w)) (unless_wide w) (fits_is (unless_wide w))
      (λ done f. over_writes b w h stands (index_ordinal w.kind h e) (is_narrow (are_members (value_of w.block.types w.of)) done f))))
