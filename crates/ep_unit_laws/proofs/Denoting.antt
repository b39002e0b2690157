-- Denoters that name only types before them: their host, or what a structured type is made of, and their type value are found, however many names may be followed. What is said of type values is said of their bare forms, since a type may have an initial state.
use Rattle.std.proofs.Common.{◌≡◌, ℕ, ℤ, pos, suc, zero, ◌<◌, ◌≤◌, List, [], ◌∷◌, length, Some, option_map, slice_get, IsTrue, refl, sym, ap, ◌∙◌, subst, arith}
use Rattle.std.proofs.lemmas.Bool.Decides.{nat_tests}
use Rattle.std.specs.Prelude.{⊤, int_le}
use Rattle.ep_typed.specs.Denoters.{ArrayParts, array_of, array_over, array_type, array_within, bare_type_of, base_within, definition_of, found_of, host_of, host_within, next_type, record_of, record_type, record_within, required_type, set_over, set_type, type_within, types_step}
use Rattle.ep_typed.specs.Hosts as host
use Rattle.ep_typed.specs.Hosts.{Host, least, greatest, is_of_host}
use Rattle.ep_values.specs.Operations.{is_integer, maxint}
use Rattle.ep_typed.specs.Trees.{Array, Denoter, Denoters, Fixed, Required, Named, Subrange, Enumeration, Record, Set, next_denoter, no_denoter}
use Rattle.ep_meaning.specs.Valid as valid
use Rattle.ep_meaning.specs.Valid.{AreTyped, HasKind as HasValues, IsDenoter, IsOfKind, IsSetOf, IsStructured, IsTypeOf, IsTyped, IsValue, array, components, enumeration, named, next_typed, none_typed, required, set, subrange}
use Rattle.ep_meaning.proofs.public.Typed.{typed_bare, typed_of_host, typed_set}
use Rattle.ep_meaning.specs.Results.{has_base}
use Rattle.ep_values.specs.Sets.{is_ordinal}
use Rattle.ep_typed.specs.declared.denoter.RequiredType.{RequiredType}
use Rattle.ep_typed.specs.declared.denoter.RequiredType.TheVariants as simple
use Rattle.ep_typed.specs.declared.unit.UnitType.{UnitType}
use Rattle.ep_values.specs.TypeValues.{ComponentTypes, Ordinal, TypeValue, bare_each, bare_of, next_component, no_component}
use Rattle.ep_values.specs.TypeValues as type
use Rattle.ep_typed.specs.declared.value.Value.{Value}
use Rattle.ep_scope.specs.declared.kind.Kind.{Kind}
use Rattle.ep_scope.specs.declared.kind.Kind.TheVariants as kind
use Rattle.ep_scope.specs.declared.parameter.TypeName.TheVariants as type_name
use Rattle.ep_expr_laws.specs.Agreement.{Arrays, HasKind, HasStructure, IsKind, IsValueOfKind, Records, Structure, TypeValues}
use Rattle.ep_rules.specs.Hosts.{typed_host}

-- the numbers of the host are integers
abbrev pub IsSmall : Host → Type 0
IsSmall h = IsTrue (int_le (greatest h) (pos maxint))

-- the type that has all values of a host
abbrev pub full_type : Host → TypeValue
full_type h = Ordinal (least h) (greatest h)

-- the host of a required type
abbrev pub host_of_required : RequiredType → Host
host_of_required simple.Integer = host.Integer
host_of_required simple.Char = host.Char
host_of_required simple.Boolean = host.Boolean

-- Under the list the denoter has a type value of this bare form, which is found behind so many names, and breaks no rule.
pub record HasBare (types : List UnitType) (k : ℕ) (d : Denoter) (v : TypeValue) : Type 0 where
  pub type_value : TypeValue
  pub bare : bare_of type_value ≡ v
  pub has_type : (n : ℕ) → k < n → type_within types n d ≡ Some type_value
  pub typed : IsTyped types d type_value

-- Alike the denoter has this host, and a type value of this bare form.
pub record Denotes (types : List UnitType) (k : ℕ) (d : Denoter) (h : Host) (v : TypeValue) : Type 0 where
  pub has_host : (n : ℕ) → k < n → host_within types n d ≡ Some h
  pub has_bare : HasBare types k d v

-- the denoter is made so, behind as many names as this
abbrev pub IsMadeWithin : List UnitType → ℕ → Denoter → Structure → Type 0
IsMadeWithin types n d (Arrays p) = array_within types n d ≡ Some p
IsMadeWithin types n d (Records ds) = record_within types n d ≡ Some ds

-- Alike the denoter is that of the structured type of this number, with what it is made of and a type value of this bare form, as the number has.
pub record DenotesStructured (types : List UnitType) (k : ℕ) (d : Denoter) (number : ℕ) (v : TypeValue) : Type 0 where
  pub structure : Structure
  pub has_structure : (n : ℕ) → k < n → IsMadeWithin types n d structure
  pub is_structured : HasStructure types (Named number []) structure
  pub of_number : bare_type_of types (Named number []) ≡ Some v
  pub of_structure : IsStructured v
  pub has_bare : HasBare types k d v

-- Alike the denoter is that of a set over this host, with its base type and a type value of this bare form.
pub record DenotesSet (types : List UnitType) (k : ℕ) (d : Denoter) (h : Host) (v : TypeValue) : Type 0 where
  pub base : Denoter
  pub has_base : (n : ℕ) → k < n → base_within types n d ≡ Some base
  pub of_host : host_of types base ≡ Some h
  pub has_bare : HasBare types k d v

-- one of them by the kind
abbrev pub DenotesKind : List UnitType → ℕ → Denoter → Kind → TypeValue → Type 0
DenotesKind types k d (kind.Ordinal h) v = Denotes types k d (typed_host h) v
DenotesKind types k d (kind.Structured number) v = DenotesStructured types k d number v
DenotesKind types k d (kind.Set h) v = DenotesSet types k d (typed_host h) v
DenotesKind types k d kind.EmptySet v = ⊥
DenotesKind types k d kind.Text v = ⊥
DenotesKind types k d kind.File v = ⊥

module _ (types : List UnitType) where
  -- ---- type values by their bare forms

  -- the bare form is found behind so many names
  bare_found : (k : ℕ) (d : Denoter) (v : TypeValue) → HasBare types k d v → (n : ℕ) → k < n → option_map bare_of (type_within types n d) ≡ Some v
  bare_found k d v x n lt = ap (option_map bare_of) (x.has_type n lt) ∙ ap Some x.bare

  -- what is a value of the bare form is one of the type value, which is that form
  pub bare_takes : (k : ℕ) (d : Denoter) (v : TypeValue) (x : HasBare types k d v) (c : Value) → IsValue types v c → IsValue types x.type_value c
  bare_takes k d v x c s = subst (λ t. IsValue types t c) (sym x.bare ∙ typed_bare types d x.type_value x.typed) s

  -- behind more names
  pub bare_more : (k j : ℕ) (d : Denoter) (v : TypeValue) → k ≤ j → HasBare types k d v → HasBare types j d v
  bare_more k j d v le x = record { type_value = x.type_value; bare = x.bare; has_type = λ n lt. x.has_type n (omega (arith, le, lt)); typed = x.typed }

  named_type : (index k : ℕ) (t : UnitType) (v : TypeValue) → slice_get types index ≡ Some t → ((n : ℕ) → k < n → type_within types n (definition_of t) ≡ Some v) → (n : ℕ) → suc k < n → type_within types n (Named index []) ≡ Some v
  named_type index k t v at found zero lt = absurd (omega (arith, lt))
  named_type index k t v at found (suc n) lt = ap (found_of (type_within types n)) at ∙ found n (omega (arith, lt))

  -- by its name
  bare_named : (index k : ℕ) (t : UnitType) (v : TypeValue) → slice_get types index ≡ Some t → HasBare types k (definition_of t) v → HasBare types (suc k) (Named index []) v
  bare_named index k t v at x = record { type_value = x.type_value; bare = x.bare; has_type = named_type index k t x.type_value at x.has_type; typed = named index t at x.typed }

  -- the type of this number has the type value of its definition
  number_bare : (number k : ℕ) (t : UnitType) (d : Denoter) (v : TypeValue) → slice_get types number ≡ Some t → definition_of t ≡ d → k < length types → HasBare types k d v → bare_type_of types (Named number []) ≡ Some v
  number_bare number k t d v at is lt x =
      ap (option_map bare_of) (ap (found_of (type_within types (length types))) at ∙ ap (type_within types (length types)) is) ∙ bare_found k d v x (length types) lt

  -- ---- hosts

  -- behind more names
  pub denotes_more : (k j : ℕ) (d : Denoter) (h : Host) (v : TypeValue) → k ≤ j → Denotes types k d h v → Denotes types j d h v
  denotes_more k j d h v le x = record { has_host = λ n lt. x.has_host n (omega (arith, le, lt)); has_bare = bare_more k j d v le x.has_bare }

  required_host : (r : RequiredType) (n : ℕ) → 0 < n → host_within types n (Required r) ≡ Some (host_of_required r)
  required_host r zero lt = absurd (omega (arith, lt))
  required_host simple.Integer (suc n) lt = refl
  required_host simple.Char (suc n) lt = refl
  required_host simple.Boolean (suc n) lt = refl

  required_full : (r : RequiredType) → bare_of (required_type r) ≡ full_type (host_of_required r)
  required_full simple.Integer = refl
  required_full simple.Char = refl
  required_full simple.Boolean = refl

  required_found : (r : RequiredType) (n : ℕ) → 0 < n → type_within types n (Required r) ≡ Some (required_type r)
  required_found r zero lt = absurd (omega (arith, lt))
  required_found r (suc n) lt = refl

  -- a required type
  pub denotes_required : (r : RequiredType) → Denotes types 0 (Required r) (host_of_required r) (full_type (host_of_required r))
  denotes_required r = record {
    has_host = required_host r;
    has_bare = record { type_value = required_type r; bare = required_full r; has_type = required_found r; typed = required r };
  }

  named_host : (index k : ℕ) (t : UnitType) (h : Host) → slice_get types index ≡ Some t → ((n : ℕ) → k < n → host_within types n (definition_of t) ≡ Some h) → (n : ℕ) → suc k < n → host_within types n (Named index []) ≡ Some h
  named_host index k t h at found zero lt = absurd (omega (arith, lt))
  named_host index k t h at found (suc n) lt = ap (found_of (host_within types n)) at ∙ found n (omega (arith, lt))

  -- a name, by the definition that the list has there
  pub denotes_named : (index k : ℕ) (t : UnitType) (h : Host) (v : TypeValue) → slice_get types index ≡ Some t → Denotes types k (definition_of t) h v → Denotes types (suc k) (Named index []) h v
  denotes_named index k t h v at x = record { has_host = named_host index k t h at x.has_host; has_bare = bare_named index k t v at x.has_bare }

  enumeration_found : (first : List ℕ) (others : List (List ℕ)) (n : ℕ) → 0 < n → host_within types n (Enumeration (first ∷ others)) ≡ Some (host.Enumeration (length others))
  enumeration_found first others zero lt = absurd (omega (arith, lt))
  enumeration_found first others (suc n) lt = refl

  enumeration_typed : (first : List ℕ) (others : List (List ℕ)) (n : ℕ) → 0 < n → type_within types n (Enumeration (first ∷ others)) ≡ Some (full_type (host.Enumeration (length others)))
  enumeration_typed first others zero lt = absurd (omega (arith, lt))
  enumeration_typed first others (suc n) lt = refl

  last_integer : (last : ℕ) → IsSmall (host.Enumeration last) → IsTrue (is_integer (pos last))
  last_integer last s = grind (arith, nat_tests)

  -- an enumeration of not too many constants
  pub denotes_enumeration : (first : List ℕ) (others : List (List ℕ)) → IsSmall (host.Enumeration (length others)) → Denotes types 0 (Enumeration (first ∷ others)) (host.Enumeration (length others)) (full_type (host.Enumeration (length others)))
  denotes_enumeration first others s = record {
    has_host = enumeration_found first others;
    has_bare = record {
      type_value = full_type (host.Enumeration (length others));
      bare = refl;
      has_type = enumeration_typed first others;
      typed = enumeration first others (last_integer (length others) s);
    };
  }

  subrange_host : (of : Denoter) (low high : ℤ) (h : Host) (n : ℕ) → host_within types n of ≡ Some h → host_within types n (Subrange of (Fixed low) (Fixed high)) ≡ Some h
  subrange_host of low high h zero e = e
  subrange_host of low high h (suc n) e = e

  subrange_found : (of : Denoter) (low high : ℤ) (k n : ℕ) → k < n → type_within types n (Subrange of (Fixed low) (Fixed high)) ≡ Some (Ordinal low high)
  subrange_found of low high k zero lt = absurd (omega (arith, lt))
  subrange_found of low high k (suc n) lt = refl

  -- a value of a host is an integer
  pub host_integer : (h : Host) (z : ℤ) → IsSmall h → IsTrue (is_of_host h z) → IsTrue (is_integer z)
  host_integer host.Integer z s i = i
  host_integer host.Char z s i = grind (arith, nat_tests)
  host_integer host.Boolean z s i = grind (arith, nat_tests)
  host_integer (host.Enumeration last) z s i = grind (arith, nat_tests)

  -- a subrange of a denoter's host
  pub denotes_subrange : (k : ℕ) (of : Denoter) (h : Host) (v : TypeValue) (low high : ℤ) → k ≤ length types → Denotes types k of h v → IsSmall h → IsTrue (int_le low high) → IsTrue (is_of_host h low) → IsTrue (is_of_host h high)
      → Denotes types k (Subrange of (Fixed low) (Fixed high)) h (Ordinal low high)
  denotes_subrange k of h v low high le x s ordered l g = record {
    has_host = λ n lt. subrange_host of low high h n (x.has_host n lt);
    has_bare = record {
      type_value = Ordinal low high;
      bare = refl;
      has_type = λ n lt. subrange_found of low high k n lt;
      typed = subrange of low high h (x.has_host (suc (length types)) (omega (arith, le))) (ordered, l, g, host_integer h low s l, host_integer h high s g);
    };
  }

  -- the bare form of a denoter with a host is a type of the host
  pub denotes_hosted : (k : ℕ) (d : Denoter) (h : Host) (v : TypeValue) → k ≤ length types → Denotes types k d h v → IsTypeOf h v
  denotes_hosted k d h v le x =
      subst (IsTypeOf h) x.has_bare.bare (typed_of_host types d x.has_bare.type_value h x.has_bare.typed (x.has_host (suc (length types)) (omega (arith, le))))

  hosted_bounds : (h : Host) (v : TypeValue) → IsTypeOf h v → (low high : ℤ) × (v ≡ Ordinal low high)
  hosted_bounds h (Ordinal low high) x = (low, high, refl)
  hosted_bounds h type.Text x = absurd x
  hosted_bounds h (type.Array low high of) x = absurd x
  hosted_bounds h (type.Record ts) x = absurd x
  hosted_bounds h (type.Set low high) x = absurd x
  hosted_bounds h (type.Initial of start) x = absurd x

  -- and has bounds
  pub denotes_bounds : (k : ℕ) (d : Denoter) (h : Host) (v : TypeValue) → k ≤ length types → Denotes types k d h v → (low high : ℤ) × (v ≡ Ordinal low high)
  denotes_bounds k d h v le x = hosted_bounds h v (denotes_hosted k d h v le x)

  -- ---- structures

  pub parts_found : (index component : Denoter) (n : ℕ) → 0 < n → array_within types n (Array index component) ≡ Some (record { index = index; component = component })
  parts_found index component zero lt = absurd (omega (arith, lt))
  parts_found index component (suc n) lt = refl

  array_found : (index component : Denoter) (over : TypeValue) (low high : ℤ) (of : TypeValue) (k n : ℕ) → k < n → type_within types n index ≡ Some over → bare_of over ≡ Ordinal low high → type_within types n component ≡ Some of
      → type_within types n (Array index component) ≡ Some (type.Array low high of)
  array_found index component over low high of k zero lt e is f = absurd (omega (arith, lt))
  array_found index component over low high of k (suc n) lt e is f =
      ap (λ o. array_type o (type_within types (suc n) component)) e ∙ (ap (λ b. array_over (Some b) (type_within types (suc n) component)) is ∙ ap (array_over (Some (Ordinal low high))) f)

  -- an array of an index type and components
  bare_array : (k : ℕ) (index component : Denoter) (h : Host) (low high : ℤ) (of : TypeValue) → Denotes types k index h (Ordinal low high) → HasBare types k component of → HasBare types k (Array index component) (type.Array low high of)
  bare_array k index component h low high of x c =
      let i = x.has_bare in
      record {
        type_value = type.Array low high c.type_value;
        bare = ap (type.Array low high) c.bare;
        has_type = λ n lt. array_found index component i.type_value low high c.type_value k n lt (i.has_type n lt) i.bare (c.has_type n lt);
        typed = array index component i.type_value low high c.type_value i.typed i.bare c.typed;
      }

  -- the type of this number is an array by its definition
  pub array_there : (number : ℕ) (t : UnitType) (index component : Denoter) → slice_get types number ≡ Some t → definition_of t ≡ Array index component → 0 < length types → array_of types (Named number []) ≡ Some (record { index = index; component = component })
  array_there number t index component at is lt = ap (found_of (array_within types (length types))) at ∙ (ap (array_within types (length types)) is ∙ parts_found index component (length types) lt)

  -- which is the type of this number
  pub denotes_array : (k number : ℕ) (t : UnitType) (index component : Denoter) (h : Host) (low high : ℤ) (of : TypeValue) → Denotes types k index h (Ordinal low high) → HasBare types k component of
      → slice_get types number ≡ Some t → definition_of t ≡ Array index component → k < length types → DenotesStructured types k (Array index component) number (type.Array low high of)
  denotes_array k number t index component h low high of i c at is few = record {
    structure = Arrays (record { index = index; component = component });
    has_structure = λ n lt. parts_found index component n (omega (arith, lt));
    is_structured = array_there number t index component at is (omega (arith, few));
    of_number = number_bare number k t (Array index component) (type.Array low high of) at is few (bare_array k index component h low high of i c);
    of_structure = tt;
    has_bare = bare_array k index component h low high of i c;
  }

  named_parts : (index k : ℕ) (t : UnitType) (p : ArrayParts) → slice_get types index ≡ Some t → ((n : ℕ) → k < n → array_within types n (definition_of t) ≡ Some p) → (n : ℕ) → suc k < n → array_within types n (Named index []) ≡ Some p
  named_parts index k t p at found zero lt = absurd (omega (arith, lt))
  named_parts index k t p at found (suc n) lt = ap (found_of (array_within types n)) at ∙ found n (omega (arith, lt))

  named_components : (index k : ℕ) (t : UnitType) (ds : Denoters) → slice_get types index ≡ Some t → ((n : ℕ) → k < n → record_within types n (definition_of t) ≡ Some ds) → (n : ℕ) → suc k < n → record_within types n (Named index []) ≡ Some ds
  named_components index k t ds at found zero lt = absurd (omega (arith, lt))
  named_components index k t ds at found (suc n) lt = ap (found_of (record_within types n)) at ∙ found n (omega (arith, lt))

  named_made : (index k : ℕ) (t : UnitType) (s : Structure) → slice_get types index ≡ Some t → ((n : ℕ) → k < n → IsMadeWithin types n (definition_of t) s) → (n : ℕ) → suc k < n → IsMadeWithin types n (Named index []) s
  named_made index k t (Arrays p) at found n lt = named_parts index k t p at found n lt
  named_made index k t (Records ds) at found n lt = named_components index k t ds at found n lt

  -- behind as many names as there are types and one
  made_here : (d : Denoter) (s : Structure) → IsMadeWithin types (suc (length types)) d s → HasStructure types d s
  made_here d (Arrays p) h = h
  made_here d (Records ds) h = h

  -- ---- records

  components_found : (ds : Denoters) (n : ℕ) → 0 < n → record_within types n (Record ds) ≡ Some ds
  components_found ds zero lt = absurd (omega (arith, lt))
  components_found ds (suc n) lt = refl

  -- the type of this number is a record by its definition
  pub record_there : (number : ℕ) (t : UnitType) (ds : Denoters) → slice_get types number ≡ Some t → definition_of t ≡ Record ds → 0 < length types → record_of types (Named number []) ≡ Some ds
  record_there number t ds at is lt = ap (found_of (record_within types (length types))) at ∙ (ap (record_within types (length types)) is ∙ components_found ds (length types) lt)

  -- the denoters have type values of these bare forms, one for one
  abbrev pub AreDenoted : ℕ → Denoters → ComponentTypes → Type 0
  AreDenoted k no_denoter no_component = ⊤
  AreDenoted k (next_denoter d ds) (next_component t ts) = HasBare types k d t × AreDenoted k ds ts
  AreDenoted k ds ts = ⊥

  -- so the type values of all of them have these bare forms
  record HaveBares (k : ℕ) (ds : Denoters) (ts : ComponentTypes) : Type 0 where
    type_values : ComponentTypes
    bare : bare_each type_values ≡ ts
    have_types : (m : ℕ) → k < suc m → types_step types (type_within types m) ds ≡ Some type_values
    typed : AreTyped types ds type_values

  all_bare : (k : ℕ) (ds : Denoters) (ts : ComponentTypes) → AreDenoted k ds ts → HaveBares k ds ts
  all_bare k no_denoter no_component x = record { type_values = no_component; bare = refl; have_types = λ m lt. refl; typed = none_typed }
  all_bare k no_denoter (next_component t ts) x = absurd x
  all_bare k (next_denoter d ds) no_component x = absurd x
  all_bare k (next_denoter d ds) (next_component t ts) x =
      let first = x.0 in
      let rest = all_bare k ds ts x.1 in
      record {
        type_values = next_component first.type_value rest.type_values;
        bare = λ i. next_component (first.bare i) (rest.bare i);
        have_types = λ m lt. ap (λ o. next_type o (types_step types (type_within types m) ds)) (first.has_type (suc m) lt) ∙ ap (next_type (Some first.type_value)) (rest.have_types m lt);
        typed = next_typed d ds first.type_value rest.type_values first.typed rest.typed;
      }

  record_found : (ds : Denoters) (ts : ComponentTypes) (k n : ℕ) → k < n → ((m : ℕ) → k < suc m → types_step types (type_within types m) ds ≡ Some ts) → type_within types n (Record ds) ≡ Some (type.Record ts)
  record_found ds ts k zero lt have = absurd (omega (arith, lt))
  record_found ds ts k (suc m) lt have = ap record_type (have m lt)

  -- a record of these components
  pub bare_record : (k : ℕ) (ds : Denoters) (ts : ComponentTypes) → AreDenoted k ds ts → HasBare types k (Record ds) (type.Record ts)
  bare_record k ds ts x =
      let all = all_bare k ds ts x in
      record {
        type_value = type.Record all.type_values;
        bare = ap type.Record all.bare;
        has_type = λ n lt. record_found ds all.type_values k n lt all.have_types;
        typed = components ds all.type_values all.typed;
      }

  -- which is the type of this number
  pub denotes_record : (k number : ℕ) (t : UnitType) (ds : Denoters) (ts : ComponentTypes) → AreDenoted k ds ts → slice_get types number ≡ Some t → definition_of t ≡ Record ds → k < length types → DenotesStructured types k (Record ds) number (type.Record ts)
  denotes_record k number t ds ts x at is few = record {
    structure = Records ds;
    has_structure = λ n lt. components_found ds n (omega (arith, lt));
    is_structured = record_there number t ds at is (omega (arith, few));
    of_number = number_bare number k t (Record ds) (type.Record ts) at is few (bare_record k ds ts x);
    of_structure = tt;
    has_bare = bare_record k ds ts x;
  }

  -- ---- sets

  own_base : (base : Denoter) (n : ℕ) → 0 < n → base_within types n (Set base) ≡ Some base
  own_base base zero lt = absurd (omega (arith, lt))
  own_base base (suc n) lt = refl

  set_found : (base : Denoter) (over : TypeValue) (low high : ℤ) (k n : ℕ) → k < n → type_within types n base ≡ Some over → bare_of over ≡ Ordinal low high → type_within types n (Set base) ≡ Some (type.Set low high)
  set_found base over low high k zero lt e is = absurd (omega (arith, lt))
  set_found base over low high k (suc n) lt e is = ap set_type e ∙ ap (λ b. set_over (Some b)) is

  -- a set of a base type whose values may be members
  pub denotes_set : (k : ℕ) (base : Denoter) (h : Host) (low high : ℤ) → k ≤ length types → Denotes types k base h (Ordinal low high) → IsTrue (is_ordinal low) → IsTrue (is_ordinal high) → DenotesSet types k (Set base) h (type.Set low high)
  denotes_set k base h low high le x from to =
      let b = x.has_bare in
      record {
        base = base;
        has_base = λ n lt. own_base base n (omega (arith, lt));
        of_host = x.has_host (suc (length types)) (omega (arith, le));
        has_bare = record {
          type_value = type.Set low high;
          bare = refl;
          has_type = λ n lt. set_found base b.type_value low high k n lt (b.has_type n lt) b.bare;
          typed = set base b.type_value low high b.typed b.bare from to;
        };
      }

  named_base : (index k : ℕ) (t : UnitType) (base : Denoter) → slice_get types index ≡ Some t → ((n : ℕ) → k < n → base_within types n (definition_of t) ≡ Some base) → (n : ℕ) → suc k < n → base_within types n (Named index []) ≡ Some base
  named_base index k t base at found zero lt = absurd (omega (arith, lt))
  named_base index k t base at found (suc n) lt = ap (found_of (base_within types n)) at ∙ found n (omega (arith, lt))

  -- values of it are sets over the host
  pub set_of_kind : (k : ℕ) (d : Denoter) (h : Host) (v : TypeValue) → k ≤ length types → DenotesSet types k d h v → IsOfKind (valid.Set h) types d
  set_of_kind k d h v le x = (x.base, x.has_base (suc (length types)) (omega (arith, le)), x.of_host)

  -- ---- denoters of a kind

  pub kind_more : (k j : ℕ) (d : Denoter) (of : Kind) (v : TypeValue) → k ≤ j → DenotesKind types k d of v → DenotesKind types j d of v
  kind_more k j d (kind.Ordinal h) v le x = denotes_more k j d (typed_host h) v le x
  kind_more k j d (kind.Structured number) v le x = record { structure = x.structure; has_structure = λ n lt. x.has_structure n (omega (arith, le, lt)); is_structured = x.is_structured; of_number = x.of_number; of_structure = x.of_structure; has_bare = bare_more k j d v le x.has_bare }
  kind_more k j d (kind.Set h) v le x = record { base = x.base; has_base = λ n lt. x.has_base n (omega (arith, le, lt)); of_host = x.of_host; has_bare = bare_more k j d v le x.has_bare }
  kind_more k j d kind.EmptySet v le x = absurd x
  kind_more k j d kind.Text v le x = absurd x
  kind_more k j d kind.File v le x = absurd x

  pub kind_named : (index k : ℕ) (t : UnitType) (of : Kind) (v : TypeValue) → slice_get types index ≡ Some t → DenotesKind types k (definition_of t) of v → DenotesKind types (suc k) (Named index []) of v
  kind_named index k t (kind.Ordinal h) v at x = denotes_named index k t (typed_host h) v at x
  kind_named index k t (kind.Structured number) v at x = record { structure = x.structure; has_structure = named_made index k t x.structure at x.has_structure; is_structured = x.is_structured; of_number = x.of_number; of_structure = x.of_structure; has_bare = bare_named index k t v at x.has_bare }
  kind_named index k t (kind.Set h) v at x = record { base = x.base; has_base = named_base index k t x.base at x.has_base; of_host = x.of_host; has_bare = bare_named index k t v at x.has_bare }
  kind_named index k t kind.EmptySet v at x = absurd x
  kind_named index k t kind.Text v at x = absurd x
  kind_named index k t kind.File v at x = absurd x

  pub kind_bare : (k : ℕ) (d : Denoter) (of : Kind) (v : TypeValue) → DenotesKind types k d of v → HasBare types k d v
  kind_bare k d (kind.Ordinal h) v x = x.has_bare
  kind_bare k d (kind.Structured number) v x = x.has_bare
  kind_bare k d (kind.Set h) v x = x.has_bare
  kind_bare k d kind.EmptySet v x = absurd x
  kind_bare k d kind.Text v x = absurd x
  kind_bare k d kind.File v x = absurd x

  -- the bare form of its type value is found
  pub kind_type : (k : ℕ) (d : Denoter) (of : Kind) (v : TypeValue) → k ≤ length types → DenotesKind types k d of v → bare_type_of types d ≡ Some v
  kind_type k d of v le x = bare_found k d v (kind_bare k d of v x) (suc (length types)) (omega (arith, le))

  abbrev pub kind_valid : (k : ℕ) (d : Denoter) (of : Kind) (v : TypeValue) → k ≤ length types → DenotesKind types k d of v → IsDenoter types d
  kind_valid k d of v le x = let b = kind_bare k d of v x in record { type_value = b.type_value; has_type = b.has_type (suc (length types)) (omega (arith, le)); typed = b.typed }

  -- so it has the kind, where types by their numbers have their bare type values
  pub kind_had : (values : TypeValues) → ((number : ℕ) → values (type_name.Entry number) ≡ bare_type_of types (Named number [])) → (k : ℕ) (d : Denoter) (of : Kind) (v : TypeValue) → k ≤ length types → IsKind of → DenotesKind types k d of v → HasKind values types d of
  kind_had values numbered k d (kind.Ordinal h) v le s x = (s, x.has_host (suc (length types)) (omega (arith, le)))
  kind_had values numbered k d (kind.Structured number) v le s x = (
    (x.structure, made_here d x.structure (x.has_structure (suc (length types)) (omega (arith, le))), x.is_structured),
    (v, (numbered number ∙ x.of_number, x.of_structure), kind_type k d (kind.Structured number) v le x),
  )
  kind_had values numbered k d (kind.Set h) v le s x = (s, set_of_kind k d (typed_host h) v le x)
  kind_had values numbered k d kind.EmptySet v le s x = absurd x
  kind_had values numbered k d kind.Text v le s x = absurd x
  kind_had values numbered k d kind.File v le s x = absurd x

  -- and the bare form of its type value is one of the kind
  pub kind_valued : (values : TypeValues) → ((number : ℕ) → values (type_name.Entry number) ≡ bare_type_of types (Named number [])) → (k : ℕ) (d : Denoter) (of : Kind) (v : TypeValue) → k ≤ length types → IsKind of → DenotesKind types k d of v → IsValueOfKind values of v
  kind_valued values numbered k d (kind.Ordinal h) v le s x = (s, denotes_hosted k d (typed_host h) v le x)
  kind_valued values numbered k d (kind.Structured number) v le s x = (numbered number ∙ x.of_number, x.of_structure)
  kind_valued values numbered k d (kind.Set h) v le s x = (
    s,
    subst (IsSetOf (typed_host h)) x.has_bare.bare (typed_set types d x.has_bare.type_value x.base (typed_host h) x.has_bare.typed (x.has_base (suc (length types)) (omega (arith, le))) x.of_host),
  )
  kind_valued values numbered k d kind.EmptySet v le s x = absurd x
  kind_valued values numbered k d kind.Text v le s x = absurd x
  kind_valued values numbered k d kind.File v le s x = absurd x

  -- what has a kind has values
  abbrev pub kind_has_values : (k : ℕ) (d : Denoter) (of : Kind) (v : TypeValue) → k ≤ length types → DenotesKind types k d of v → HasValues types d
  kind_has_values k d (kind.Ordinal h) v le x = record { kind = valid.Ordinal (typed_host h); of_kind = x.has_host (suc (length types)) (omega (arith, le)); denoter = kind_valid k d (kind.Ordinal h) v le x }
  kind_has_values k d (kind.Structured number) v le x = record { kind = valid.Structured v; of_kind = (kind_type k d (kind.Structured number) v le x, x.of_structure); denoter = kind_valid k d (kind.Structured number) v le x }
  kind_has_values k d (kind.Set h) v le x = record { kind = valid.Set (typed_host h); of_kind = set_of_kind k d (typed_host h) v le x; denoter = kind_valid k d (kind.Set h) v le x }
  kind_has_values k d kind.EmptySet v le x = absurd x
  kind_has_values k d kind.Text v le x = absurd x
  kind_has_values k d kind.File v le x = absurd x
