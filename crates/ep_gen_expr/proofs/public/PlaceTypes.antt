-- The type values of valid places.
use Rattle.std.proofs.Common.{◌≡◌, ◌∙◌, ℕ, ℤ, None, Option, Some, List, option_map, refl, sym, ap, subst}
use Rattle.std.proofs.lemmas.Option.{same_Some}
use Rattle.std.specs.Bool.{⊤}
use Rattle.ep_gen_expr.specs.Following.{HasPlaceType, IsValidPlace}
use Rattle.ep_simulation.specs.Matching.{HasTypeUnder}
use Rattle.ep_simulation.specs.Scene.{HaveValidTypes, HaveValidOwnTypes}
use Rattle.ep_meaning.proofs.public.Bares.{bare_among}
use Rattle.ep_typed.proofs.public.Denoters.{types_are_instances, instances_are_one}
use Rattle.ep_meaning.proofs.public.Typed.{HasComponents, HasParts, typed_among, typed_components, typed_instance, typed_of_host, typed_parts}
use Rattle.ep_meaning.proofs.public.ValueKinds.{typed_of_kind}
use Rattle.ep_typed.specs.Denoters.{ArrayParts, array_of, bare_type_of, denoter_at, host_of, record_of, type_of}
use Rattle.ep_typed.specs.Hosts.{Host}
use Rattle.ep_typed.specs.Trees.{Denoter, Denoters, Place, Variable, Own, Standard, Indexed, Field, Variant, Record, no_denoter, next_denoter, Expr}
use Rattle.ep_values.specs.TypeValues.{ComponentTypes, TypeValue, bare_each, bare_of, type_among}
use Rattle.ep_values.specs.TypeValues as type
use Rattle.ep_typed.specs.Selections.{variant_number}
use Rattle.ep_meaning.specs.Valid.{Declarations, AreTyped, none_typed, next_typed, IsOfKind, IsSelection, ValueKind, Ordinal, IsTyped, IsTypeOf, IsTypeOfKind, IsExpr, IsPlaceWhere, IsVariableOf}
use Rattle.ep_typed.specs.Viewed.{denoter_of}
use Rattle.ep_typed.specs.declared.tree.Selection.{Selection}
use Rattle.ep_typed.specs.declared.unit.UnitType.{UnitType}
use Rattle.ep_typed.specs.declared.unit.UnitVariable.{UnitVariable}

-- the denoter is that of an array, of whose components this holds and of whose index type the index is
abbrev pub IsArrayWhere : Declarations → (List UnitType → Denoter → Type 0) → Expr → List UnitType → Denoter → Type 0
IsArrayWhere declared Holds x types d =
    (a : ArrayParts) × (array_of types d ≡ Some a) × Holds types a.component × ((h : Host) × (host_of types a.index ≡ Some h) × IsExpr declared (Ordinal h) x)

-- the denoter is that of a record, of whose component with this number this holds
abbrev pub IsRecordWhere : (List UnitType → Denoter → Type 0) → ℕ → List UnitType → Denoter → Type 0
IsRecordWhere Holds number types d = (ds : Denoters) × (record_of types d ≡ Some ds) × (c : Denoter) × (denoter_at ds number ≡ Some c) × Holds types c

-- the denoter is that of a record with variants that are selected so, of whose variant with this number this holds
abbrev pub IsVariantWhere : Declarations → (List UnitType → Denoter → Type 0) → Selection → ℕ → List UnitType → Denoter → Type 0
IsVariantWhere declared Holds s number types d =
    (ds : Denoters) × (record_of types d ≡ Some ds) × IsSelection declared types ds s × (c : Denoter) × (denoter_at ds (variant_number s number) ≡ Some c) × Holds types c

-- what holds of the denoter of a place may be less
place_less : (declared : Declarations) (Holds Less : List UnitType → Denoter → Type 0) → ((types : List UnitType) (d : Denoter) → Holds types d → Less types d) → (q : Place) → IsPlaceWhere declared Holds q → IsPlaceWhere declared Less q
place_less declared Holds Less less (Variable unit k) (v, is_declared, holds) = (v, is_declared, less declared.types (denoter_of v.denoter) holds)
place_less declared Holds Less less (Own up k) (v, is_declared, holds) = (v, is_declared, less declared.types (denoter_of v.denoter) holds)
place_less declared Holds Less less (Standard file) is = absurd is
place_less declared Holds Less less (Indexed q x) is =
    place_less declared (IsArrayWhere declared Holds x) (IsArrayWhere declared Less x) (λ types d holds. (holds.0, holds.1, less types (holds.0).component holds.2, holds.3)) q is
place_less declared Holds Less less (Field q number) is =
    place_less declared (IsRecordWhere Holds number) (IsRecordWhere Less number) (λ types d holds. (holds.0, holds.1, holds.2, holds.3, less types holds.2 holds.4)) q is
place_less declared Holds Less less (Variant q s number) is =
    place_less declared (IsVariantWhere declared Holds s number) (IsVariantWhere declared Less s number) (λ types d holds. (holds.0, holds.1, holds.2, holds.3, holds.4, less types holds.3 holds.5)) q is

-- a place of whose denoter something holds is valid
pub valid_place : (declared : Declarations) (Holds : List UnitType → Denoter → Type 0) (q : Place) → IsPlaceWhere declared Holds q → IsValidPlace declared q
valid_place declared Holds q is = place_less declared Holds (λ types d. ⊤) (λ types d holds. tt) q is

-- the type value of a place, but for initial states, and the denoter that has it, of which this holds
pub record IsTypedPlace (declared : Declarations) (Holds : List UnitType → Denoter → Type 0) (q : Place) : Type 0 where
  pub valid : IsValidPlace declared q
  pub type_value : TypeValue
  pub has_type : HasPlaceType declared q (bare_of type_value)
  pub types : List UnitType
  pub denoter : Denoter
  pub holds : Holds types denoter
  pub typed : IsTyped types denoter type_value

-- the type value of a place, whose values are of the kind
pub record IsKindPlace (declared : Declarations) (q : Place) (k : ValueKind) : Type 0 where
  pub valid : IsValidPlace declared q
  pub type_value : TypeValue
  pub has_type : HasPlaceType declared q type_value
  pub of_kind : IsTypeOfKind k type_value

-- the type values of denoters, by whether there is one alone
abbrev AreAlone : List UnitType → Denoters → ComponentTypes → Type 0
AreAlone types no_denoter ts = type.no_component ≡ ts
AreAlone types (next_denoter d no_denoter) ts = (t : TypeValue) × (type.next_component t type.no_component ≡ ts) × IsTyped types d t
AreAlone types (next_denoter d (next_denoter e es)) ts = ⊤

are_alone : (types : List UnitType) (ds : Denoters) (ts : ComponentTypes) → AreTyped types ds ts → AreAlone types ds ts
are_alone types ds ts none_typed = refl
are_alone types ds ts (next_typed d no_denoter u us x xs) = (u, ap (type.next_component u) (are_alone types no_denoter us xs), x)
are_alone types ds ts (next_typed d (next_denoter e es) u us x xs) = tt

-- the type value of the record of a tag, but for initial states, and that of the tag
pub tag_alone : (types : List UnitType) (tag : Denoter) (v : TypeValue) → IsTyped types (Record (next_denoter tag no_denoter)) v
    → (t : TypeValue) × (bare_of v ≡ type.Record (type.next_component (bare_of t) type.no_component)) × IsTyped types tag t
tag_alone types tag v typed =
    let all : HasComponents types (next_denoter tag no_denoter) v = typed_components types (Record (next_denoter tag no_denoter)) v (next_denoter tag no_denoter) typed refl in
    let one : (t : TypeValue) × (type.next_component t type.no_component ≡ all.types_of) × IsTyped types tag t = are_alone types (next_denoter tag no_denoter) all.types_of all.all in
    (one.0, all.is ∙ ap (λ ts. type.Record (bare_each ts)) (sym one.1), one.2)

-- so it is where the tag has this host
tag_type : (types : List UnitType) (tag : Denoter) (h : Host) (v : TypeValue) → host_of types tag ≡ Some h → IsTyped types (Record (next_denoter tag no_denoter)) v
    → (low high : ℤ) × (bare_of v ≡ type.Record (type.next_component (type.Ordinal low high) type.no_component))
tag_type types tag h v has_host typed =
    let one = tag_alone types tag v typed in
    let of = ordinal_of (bare_of one.0) (typed_of_host types tag one.0 h one.2 has_host) in
    (of.0, of.1, one.1 ∙ ap (λ t. type.Record (type.next_component t type.no_component)) of.2)
  where
    ordinal_of : (t : TypeValue) → IsTypeOf h t → (low high : ℤ) × (t ≡ type.Ordinal low high)
    ordinal_of (type.Ordinal low high) k = (low, high, refl)
    ordinal_of type.Text k = absurd k
    ordinal_of (type.Array low high of) k = absurd k
    ordinal_of (type.Record ts) k = absurd k
    ordinal_of (type.Set low high) k = absurd k
    ordinal_of (type.Initial of start) k = absurd k

-- a component of a type value is one of its bare form, but for initial states
pub among_bare : (ts : ComponentTypes) (k : ℕ) (t : TypeValue) → type_among ts k ≡ Some t → type_among (bare_each ts) k ≡ Some (bare_of t)
among_bare ts k t is = bare_among ts k ∙ ap (option_map bare_of) is

-- so is the record of a tag
tag_among : (ts : ComponentTypes) (k : ℕ) (t : TypeValue) (low high : ℤ) → type_among ts k ≡ Some t → bare_of t ≡ type.Record (type.next_component (type.Ordinal low high) type.no_component)
    → type_among (bare_each ts) k ≡ Some (type.Record (type.next_component (type.Ordinal low high) type.no_component))
tag_among ts k t low high is same = among_bare ts k t is ∙ ap Some same

-- a variable is of the bare form that its denoter has
pub has_bare_type : (types : List UnitType) (v : UnitVariable) (t : TypeValue) → bare_type_of types (denoter_of v.denoter) ≡ Some t → HasTypeUnder types v t
has_bare_type types v t is = go (type_of types (denoter_of v.denoter)) refl is
  where
    go : (o : Option TypeValue) → type_of types (denoter_of v.denoter) ≡ o → option_map bare_of o ≡ Some t → HasTypeUnder types v t
    go None e f = cc
    go (Some u) e f = (u, types_are_instances types (denoter_of v.denoter) u e, same_Some (bare_of u) t f)

-- the bare form of a denoter is that of its type value
pub bare_instance : (types : List UnitType) (d : Denoter) (u t : TypeValue) → IsTyped types d u → bare_type_of types d ≡ Some t → bare_of u ≡ t
bare_instance types d u t typed is = go (type_of types d) refl is
  where
    go : (o : Option TypeValue) → type_of types d ≡ o → option_map bare_of o ≡ Some t → bare_of u ≡ t
    go None e f = cc
    go (Some v) e f =
        ap bare_of (instances_are_one types d u v (typed_instance types d u typed) (types_are_instances types d v e)) ∙ same_Some (bare_of v) t f

module _ (declared : Declarations) (types_valid : HaveValidTypes declared) (own_valid : HaveValidOwnTypes declared) where
  -- a valid place has a type value
  pub typed_place : (Holds : List UnitType → Denoter → Type 0) (q : Place) → IsPlaceWhere declared Holds q → IsTypedPlace declared Holds q
  typed_place Holds (Variable unit k) (v, is_declared, holds) =
      let valid = types_valid unit k v is_declared in
      record {
        valid = (v, is_declared, tt);
        type_value = valid.type_value;
        has_type = (v, is_declared, (valid.type_value, typed_instance declared.types (denoter_of v.denoter) valid.type_value valid.typed, refl));
        types = declared.types;
        denoter = denoter_of v.denoter;
        holds = holds;
        typed = valid.typed;
      }
  typed_place Holds (Own up k) (v, is_declared, holds) =
      let valid = own_valid up k v is_declared in
      record {
        valid = (v, is_declared, tt);
        type_value = valid.type_value;
        has_type = (v, is_declared, (valid.type_value, typed_instance declared.types (denoter_of v.denoter) valid.type_value valid.typed, refl));
        types = declared.types;
        denoter = denoter_of v.denoter;
        holds = holds;
        typed = valid.typed;
      }
  typed_place Holds (Standard file) is = absurd is
  typed_place Holds (Indexed q x) is =
      let v = typed_place (IsArrayWhere declared Holds x) q is in
      let holds : IsArrayWhere declared Holds x v.types v.denoter = v.holds in
      let parts : HasParts v.types holds.0 v.type_value = typed_parts v.types v.denoter v.type_value holds.0 v.typed holds.1 in
      record {
        valid = valid_place declared Holds (Indexed q x) is;
        type_value = parts.of;
        has_type = (parts.low, parts.high, subst (λ t. HasPlaceType declared q t) parts.is v.has_type);
        types = v.types;
        denoter = (holds.0).component;
        holds = holds.2;
        typed = parts.component;
      }
  typed_place Holds (Field q number) is =
      let v = typed_place (IsRecordWhere Holds number) q is in
      let holds : IsRecordWhere Holds number v.types v.denoter = v.holds in
      let all : HasComponents v.types holds.0 v.type_value = typed_components v.types v.denoter v.type_value holds.0 v.typed holds.1 in
      let one : (t : TypeValue) × (type_among all.types_of number ≡ Some t) × IsTyped v.types holds.2 t = typed_among v.types holds.0 all.types_of number holds.2 all.all holds.3 in
      record {
        valid = valid_place declared Holds (Field q number) is;
        type_value = one.0;
        has_type = (bare_each all.types_of, subst (λ t. HasPlaceType declared q t) all.is v.has_type, among_bare all.types_of number one.0 one.1);
        types = v.types;
        denoter = holds.2;
        holds = holds.4;
        typed = one.2;
      }
  typed_place Holds (Variant q s number) is =
      let v = typed_place (IsVariantWhere declared Holds s number) q is in
      let holds : IsVariantWhere declared Holds s number v.types v.denoter = v.holds in
      let selection : IsSelection declared v.types holds.0 s = holds.2 in
      let all : HasComponents v.types holds.0 v.type_value = typed_components v.types v.denoter v.type_value holds.0 v.typed holds.1 in
      let tag : (t : TypeValue) × (type_among all.types_of s.tag ≡ Some t) × IsTyped v.types (Record (next_denoter selection.tag no_denoter)) t = typed_among v.types holds.0 all.types_of s.tag (Record (next_denoter selection.tag no_denoter)) all.all selection.has_tag in
      let ordinal = tag_type v.types selection.tag selection.host tag.0 selection.has_host tag.2 in
      let one : (t : TypeValue) × (type_among all.types_of (variant_number s number) ≡ Some t) × IsTyped v.types holds.3 t = typed_among v.types holds.0 all.types_of (variant_number s number) holds.3 all.all holds.4 in
      record {
        valid = valid_place declared Holds (Variant q s number) is;
        type_value = one.0;
        has_type = (bare_each all.types_of, ordinal.0, ordinal.1, subst (λ t. HasPlaceType declared q t) all.is v.has_type, tag_among all.types_of s.tag tag.0 ordinal.0 ordinal.1 tag.1 ordinal.2, among_bare all.types_of (variant_number s number) one.0 one.1);
        types = v.types;
        denoter = holds.3;
        holds = holds.5;
        typed = one.2;
      }

  -- a place whose values are of a kind has a type value of the kind
  pub kind_place : (k : ValueKind) (q : Place) → IsPlaceWhere declared (IsOfKind k) q → IsKindPlace declared q k
  kind_place k q is =
      let v = typed_place (IsOfKind k) q is in
      record { valid = v.valid; type_value = bare_of v.type_value; has_type = v.has_type; of_kind = typed_of_kind v.types v.denoter v.type_value k v.typed v.holds }

  -- a variable of a type value has that
  pub variable_type : (t : TypeValue) (q : Place) → IsVariableOf declared t q → HasPlaceType declared q t
  variable_type t q is =
      let v = typed_place (λ types d. bare_type_of types d ≡ Some t) q is in
      subst (λ u. HasPlaceType declared q u) (bare_instance v.types v.denoter v.type_value t v.typed v.holds) v.has_type
