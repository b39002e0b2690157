-- What is found to fit lies in its type: a constant array or record whose components lie in the types that the scopes give them is a value of its type.
use Rattle.std.proofs.Common.{◌≡◌, ◌∙◌, ℕ, ℤ, zero, suc, Bool, true, false, List, [], ◌∷◌, ◌++◌, length, map, Option, Some, None, slice_get, option_map, inl, inr, refl, sym, ap, subst}
use Rattle.std.proofs.lemmas.Bool.{and_parts}
use Rattle.std.proofs.lemmas.List.Elements.{All-head, All-tail, All-weaker}
use Rattle.std.proofs.lemmas.Option.{same_Some}
use Rattle.std.proofs.lemmas.Slice.Eq.{bytes_eq-Decides}
use Rattle.std.specs.Prelude.{All, ⊤, if◌then◌else◌}
use Rattle.std.specs.Str.{bytes_eq}
use Rattle.ep_outside.specs.Known.{IsPrefix}
use Rattle.ep_typed.specs.Denoters.{bare_type_of, definition_of, found_of, set_over, set_type, type_of, type_within}
use Rattle.ep_typed.specs.Selections.{variant_number}
use Rattle.ep_typed.specs.Trees as tree
use Rattle.ep_typed.specs.Trees.{AtField, AtIndex, AtIndexes, AtRanges, Constant, Denoter, Denoters, Elements, Expr, Named, SameField, SetConstant, elements, next_denoter, next_element, no_denoter, no_element}
use Rattle.ep_values.specs.TypeValues as type
use Rattle.ep_values.specs.TypeValues.{ComponentTypes, TypeValue, bare_each, bare_of}
use Rattle.ep_meaning.specs.Valid.{AllLieIn, AreStartsFor, AreTyped, Declarations, Gives, IsPlainIn, IsStartFor, IsTyped, LeadTo, LiesIn, field_given, none_given, ranges_given, same_given, set_start, structured_start, word_start}
use Rattle.ep_typed.specs.Viewed.{constant_expr, element_of}
use Rattle.ep_typed.specs.declared.tree.Element.{Element as Given}
use Rattle.ep_typed.specs.declared.unit.UnitType.{UnitType}
use Rattle.ep_typed.specs.declared.value.Value.TheVariants as value
use Rattle.ep_typed.proofs.public.Denoters.{instances_are_one, types_are_instances}
use Rattle.ep_meaning.proofs.public.Typed.{typed_bare, typed_components, typed_instance, typed_parts}
use Rattle.ep_scope.specs.Scopes.{Region, structure_in}
use Rattle.ep_scope.specs.declared.parameter.TypeName.{TypeName}
use Rattle.ep_scope.specs.declared.parameter.TypeName.TheVariants as type_name
use Rattle.ep_scope.specs.declared.structure.Composition.{Composition}
use Rattle.ep_scope.specs.declared.structure.Composition.TheVariants as composition
use Rattle.ep_scope.specs.declared.structure.FieldType.{FieldType}
use Rattle.ep_scope.specs.declared.structure.StructuredType.{StructuredType}
use Rattle.ep_scope.specs.declared.structure.TagType.{TagType}
use Rattle.ep_scope.specs.declared.structure.VariantStep.{VariantStep}
use Rattle.ep_scope.specs.declared.kind.Kind.{Kind}
use Rattle.ep_expr_laws.specs.Agreement.{AgreesBy, AreFields, Arrays, HasStructure, IsAlong, IsFieldOf, IsMadeOf, IsPartOf, Records, Structure, TypeValues}
use Rattle.ep_rules.specs.ConstantAccesses.{value_of_field}
use Rattle.ep_rules.specs.VariantSteps.{field_steps, part_steps}
use Rattle.ep_expr_laws.proofs.public.Betweens.{between_all}
use Rattle.ep_expr_laws.proofs.public.Leading.{among_bare, leads_once, record_among, step_leads}
use Rattle.ep_expr_laws.proofs.public.Listed.{structure_in-listed}
use Rattle.ep_unit_rules.specs.FittingConstants.{are_in, are_members_in, base_value, element_type, field_type, is_in, is_number_in, is_plain_in, members_of, type_among as field_among}
use Rattle.ep_unit_rules.specs.Definitions.{followed, followed_step, followed_within, without_states}
use Rattle.ep_unit_rules.specs.OrdinalTypes.{bare_ordinal, ordinal_of, value_of}
use Rattle.ep_unit_laws.proofs.Holds.{named_tree}
use Rattle.ep_unit_laws.proofs.Prefixes.{prefix_get}
use Rattle.ep_unit_laws.proofs.Ordinals.{definition_is, required_is, value_is}

-- ---- the values of set types by their own denoters

module _ (types : List UnitType) where
  set_made : (o : Option TypeValue) (v : TypeValue) (low high : ℤ) → set_over o ≡ Some v → o ≡ Some (type.Ordinal low high) → bare_of v ≡ type.Set low high
  set_made o v low high e f = ap bare_of (same_Some v (type.Set low high) (sym e ∙ ap set_over f))

  -- a set over a type with these bounds
  over_is : (o : Option TypeValue) (v : TypeValue) (low high : ℤ) → ((w : TypeValue) → o ≡ Some w → bare_of w ≡ type.Ordinal low high) → set_type o ≡ Some v → bare_of v ≡ type.Set low high
  over_is None v low high base e = cc
  over_is (Some w) v low high base e = set_made (Some (bare_of w)) v low high e (ap Some (base w refl))

  -- initial states matter nothing to the type value
  without_states_is : (n : ℕ) (d : Denoter) → type_within types (suc n) d ≡ type_within types (suc n) (without_states d)
  without_states_is n (tree.Initial of value) = without_states_is n of
  without_states_is n (tree.Required r) = refl
  without_states_is n (tree.Named index tuple) = refl
  without_states_is n (tree.Subrange of from to) = refl
  without_states_is n (tree.Enumeration names) = refl
  without_states_is n (tree.Array index component) = refl
  without_states_is n (tree.Record ds) = refl
  without_states_is n (tree.Set base) = refl

  -- a denoter has this type value, however many names are followed
  abbrev Has : Denoter → TypeValue → Type 0
  Has d v = (n : ℕ) × (type_within types n d ≡ Some v)

  itself_has : (n : ℕ) (d e : Denoter) (v : TypeValue) → type_within types n d ≡ Some v → Some d ≡ Some e → Has e v
  itself_has n d e v is same = (n, subst (λ x. type_within types n x ≡ Some v) (same_Some d e same) is)

  -- what stands for an entry of fewer types has its type value
  entry_has : (n number : ℕ) (find : Denoter → Option Denoter) (e : Denoter) (v : TypeValue) (o : Option UnitType) → ((t : UnitType) → o ≡ Some t → slice_get types number ≡ Some t)
      → ((d : Denoter) → type_within types n d ≡ Some v → find d ≡ Some e → Has e v)
      → found_of (type_within types n) (slice_get types number) ≡ Some v → found_of find o ≡ Some e → Has e v
  entry_has n number find e v None there has is found = cc
  entry_has n number find e v (Some t) there has is found = has (definition_of t) (sym (ap (found_of (type_within types n)) (there t refl)) ∙ is) found

  step_has : (n : ℕ) (few : List UnitType) (find : Denoter → Option Denoter) (d e : Denoter) (v : TypeValue) → IsPrefix few types → ((x : Denoter) → type_within types n x ≡ Some v → find x ≡ Some e → Has e v)
      → type_within types (suc n) d ≡ Some v → followed_step few find d ≡ Some e → Has e v
  step_has n few find (tree.Named number []) e v p has is found =
      entry_has n number find e v (slice_get few number) (λ t at. prefix_get few types number t p at) has is found
  step_has n few find (tree.Named number (b ∷ bs)) e v p has is found = cc
  step_has n few find (tree.Required r) e v p has is found = itself_has (suc n) (tree.Required r) e v is found
  step_has n few find (tree.Subrange of from to) e v p has is found = itself_has (suc n) (tree.Subrange of from to) e v is found
  step_has n few find (tree.Enumeration names) e v p has is found = itself_has (suc n) (tree.Enumeration names) e v is found
  step_has n few find (tree.Array index component) e v p has is found = itself_has (suc n) (tree.Array index component) e v is found
  step_has n few find (tree.Record ds) e v p has is found = itself_has (suc n) (tree.Record ds) e v is found
  step_has n few find (tree.Set base) e v p has is found = itself_has (suc n) (tree.Set base) e v is found
  step_has n few find (tree.Initial of value) e v p has is found = itself_has (suc n) (tree.Initial of value) e v is found

  -- what a denoter stands for has its type value
  followed_has : (n m : ℕ) (few : List UnitType) (d e : Denoter) (v : TypeValue) → IsPrefix few types → type_within types n d ≡ Some v → followed_within few m d ≡ Some e → Has e v
  followed_has zero m few d e v p is found = cc
  followed_has (suc n) zero few d e v p is found = cc
  followed_has (suc n) (suc m) few d e v p is found =
      step_has n few (followed_within few m) (without_states d) e v p (λ x. followed_has n m few x e v p) (sym (without_states_is n d) ∙ is) found

  -- the bounds of an ordinal denoter are those of its type value
  bare_is : (n : ℕ) (d : Denoter) (v x : TypeValue) → type_within types n d ≡ Some v → bare_ordinal (Some d) ≡ Some x → bare_of v ≡ x
  bare_is zero d v x is e = cc
  bare_is (suc n) (tree.Required r) v x is e = required_is types r v x is e
  bare_is (suc n) (tree.Named index tuple) v x is e = definition_is types (suc n) (tree.Named index tuple) v x is e
  bare_is (suc n) (tree.Subrange of from to) v x is e = definition_is types (suc n) (tree.Subrange of from to) v x is e
  bare_is (suc n) (tree.Enumeration names) v x is e = definition_is types (suc n) (tree.Enumeration names) v x is e
  bare_is (suc n) (tree.Array index component) v x is e = definition_is types (suc n) (tree.Array index component) v x is e
  bare_is (suc n) (tree.Record ds) v x is e = definition_is types (suc n) (tree.Record ds) v x is e
  bare_is (suc n) (tree.Set base) v x is e = definition_is types (suc n) (tree.Set base) v x is e
  bare_is (suc n) (tree.Initial of value) v x is e = definition_is types (suc n) (tree.Initial of value) v x is e

  ordinal_is : (n : ℕ) (few : List UnitType) (d : Denoter) (v x : TypeValue) → IsPrefix few types → type_within types n d ≡ Some v → ordinal_of few d ≡ Some x → bare_of v ≡ x
  ordinal_is n few d v x p is e = go (followed few d) refl e
    where
      go : (o : Option Denoter) → followed few d ≡ o → bare_ordinal o ≡ Some x → bare_of v ≡ x
      go None same f = cc
      go (Some g) same f =
          let has : Has g v = followed_has n (suc (length few)) few d g v p is same in
          bare_is has.0 g v x has.1 f

  -- the values of members by the denoter of a set
  base_is : (n : ℕ) (few : List UnitType) (d : Denoter) (v : TypeValue) (low high : ℤ) → IsPrefix few types → type_within types n d ≡ Some v → base_value few (Some d) ≡ Some (type.Ordinal low high) → bare_of v ≡ type.Set low high
  base_is zero few d v low high p is e = cc
  base_is (suc n) few (tree.Set base) v low high p is e =
      over_is (type_within types (suc n) base) v low high (λ w at. ordinal_is (suc n) few base w (type.Ordinal low high) p at e) is
  base_is (suc n) few (tree.Required r) v low high p is e = cc
  base_is (suc n) few (tree.Named index tuple) v low high p is e = cc
  base_is (suc n) few (tree.Subrange of from to) v low high p is e = cc
  base_is (suc n) few (tree.Enumeration names) v low high p is e = cc
  base_is (suc n) few (tree.Array index component) v low high p is e = cc
  base_is (suc n) few (tree.Record ds) v low high p is e = cc
  base_is (suc n) few (tree.Initial of value) v low high p is e = cc

  entry_based : (n number : ℕ) (few : List UnitType) (v : TypeValue) (low high : ℤ) (o : Option UnitType) → IsPrefix few types → ((t : UnitType) → o ≡ Some t → slice_get types number ≡ Some t)
      → found_of (type_within types n) (slice_get types number) ≡ Some v → base_value few (found_of (followed few) o) ≡ Some (type.Ordinal low high) → bare_of v ≡ type.Set low high
  entry_based n number few v low high None p there e f = cc
  entry_based n number few v low high (Some t) p there e f = go (followed few (definition_of t)) refl f
    where
      is : type_within types n (definition_of t) ≡ Some v
      is = sym (ap (found_of (type_within types n)) (there t refl)) ∙ e

      go : (o : Option Denoter) → followed few (definition_of t) ≡ o → base_value few o ≡ Some (type.Ordinal low high) → bare_of v ≡ type.Set low high
      go None same g = cc
      go (Some d) same g =
          let has : Has d v = followed_has n (suc (length few)) few (definition_of t) d v p is same in
          base_is has.0 few d v low high p has.1 g

  -- by the name of the type
  members_are : (n : ℕ) (few : List UnitType) (of : TypeName) (v : TypeValue) (low high : ℤ) → IsPrefix few types → type_within types (suc n) (named_tree of) ≡ Some v → members_of few of ≡ Some (type.Ordinal low high) → bare_of v ≡ type.Set low high
  members_are n few (type_name.Required r) v low high p e f = cc
  members_are n few (type_name.Entry number) v low high p e f =
      entry_based n number few v low high (slice_get few number) p (λ t at. prefix_get few types number t p at) e f

  -- ---- numbers and sets

  number_lies : (o : Option TypeValue) (t : TypeValue) (z : ℤ) → ((low high : ℤ) → o ≡ Some (type.Ordinal low high) → t ≡ type.Ordinal low high) → is_number_in o z ≡ true → IsPlainIn t (Constant z)
  number_lies None t z is e = cc
  number_lies (Some (type.Ordinal low high)) t z is e = subst (λ u. IsPlainIn u (Constant z)) (sym (is low high refl)) e
  number_lies (Some type.Text) t z is e = cc
  number_lies (Some (type.Array low high of)) t z is e = cc
  number_lies (Some (type.Record ts)) t z is e = cc
  number_lies (Some (type.Set low high)) t z is e = cc
  number_lies (Some (type.Initial of start)) t z is e = cc

  members_lie : (o : Option TypeValue) (t : TypeValue) (ms : List ℕ) → ((low high : ℤ) → o ≡ Some (type.Ordinal low high) → t ≡ type.Set low high) → are_members_in o ms ≡ true → IsPlainIn t (SetConstant ms)
  members_lie None t ms is e = cc
  members_lie (Some (type.Ordinal low high)) t ms is e = subst (λ u. IsPlainIn u (SetConstant ms)) (sym (is low high refl)) (between_all low high ms ∙ e)
  members_lie (Some type.Text) t ms is e = cc
  members_lie (Some (type.Array low high of)) t ms is e = cc
  members_lie (Some (type.Record ts)) t ms is e = cc
  members_lie (Some (type.Set low high)) t ms is e = cc
  members_lie (Some (type.Initial of start)) t ms is e = cc

  -- a type by its name has this bare form
  named_form : (d : Denoter) (t : TypeValue) → bare_type_of types d ≡ Some t → (v : TypeValue) × (type_of types d ≡ Some v) × (bare_of v ≡ t)
  named_form d t e = go (type_of types d) refl e
    where
      go : (o : Option TypeValue) → type_of types d ≡ o → option_map bare_of o ≡ Some t → (v : TypeValue) × (type_of types d ≡ Some v) × (bare_of v ≡ t)
      go None is f = cc
      go (Some v) is f = (v, is, same_Some (bare_of v) t f)

  -- what is found to lie in a type by its name does
  plain_lies : (few : List UnitType) (of : TypeName) (t : TypeValue) (x : Expr) → IsPrefix few types → bare_type_of types (named_tree of) ≡ Some t → is_plain_in few (Some of) (Some x) ≡ true → IsPlainIn t x
  plain_lies few of t (Constant z) p has e =
      let v = named_form (named_tree of) t has in
      number_lies (value_of few of) t z (λ low high is. sym v.2 ∙ value_is types (length types) few of v.0 (type.Ordinal low high) p v.1 is) e
  plain_lies few of t (SetConstant ms) p has e =
      let v = named_form (named_tree of) t has in
      members_lie (members_of few of) t ms (λ low high is. sym v.2 ∙ members_are (length types) few of v.0 low high p v.1 is) e
  plain_lies few of t (tree.Text bytes) p has e = tt
  plain_lies few of t (tree.Read place) p has e = tt
  plain_lies few of t (tree.One operation x) p has e = tt
  plain_lies few of t (tree.Two operation x y) p has e = tt
  plain_lies few of t (tree.Short operation x y) p has e = tt
  plain_lies few of t (tree.Step down low high x y) p has e = tt
  plain_lies few of t (tree.Function callee given) p has e = tt
  plain_lies few of t (tree.IndexedValue array index) p has e = tt
  plain_lies few of t (tree.FieldValue whole number) p has e = tt
  plain_lies few of t (tree.VariantValue whole selection number) p has e = tt
  plain_lies few of t (tree.Structured number es) p has e = tt
  plain_lies few of t (tree.SetOf members) p has e = tt
  plain_lies few of t (tree.OnSets operation x y) p has e = tt
  plain_lies few of t (tree.Card x) p has e = tt

  -- ---- the types of components

  -- a valid denoter has one type value
  one_form : (d : Denoter) (t v : TypeValue) → IsTyped types d t → bare_type_of types d ≡ Some v → v ≡ bare_of t
  one_form d t v typed e =
      let w = named_form d v e in
      sym w.2 ∙ ap bare_of (instances_are_one types d w.0 t (types_are_instances types d w.0 w.1) (typed_instance types d t typed))

-- the type value of each type
abbrev Forms : List UnitType → TypeValues
Forms types t = bare_type_of types (named_tree t)

module _ (types : List UnitType) where
  -- the component of a record at the end of these steps is of the type of this name
  abbrev LeadsTo : ComponentTypes → TypeName → List ℕ → Type 0
  LeadsTo ts of steps = (t : TypeValue) × LeadTo ts steps t × (Forms types of ≡ Some t)

  part_leads : (tag : Option TagType) (number : ℕ) (of : TypeName) (k : Kind) (ds : Denoters) (ts : ComponentTypes) → AreTyped types ds ts → IsPartOf (Forms types) types tag number of k ds → LeadsTo (bare_each ts) of (part_steps tag number)
  part_leads None number of k ds ts all h =
      let m = among_bare (Forms types) types ds ts number h.0 all h.1 in
      (bare_of m.0, m.1, h.2.1.1 ∙ ap Some (one_form types h.0 m.0 h.2.1.0 m.2 h.2.1.2))
  part_leads (Some tag) number of k ds ts all h =
      let r = record_among (Forms types) types ds ts number (next_denoter h.0 no_denoter) all h.1 in
      let m = among_bare (Forms types) types (next_denoter h.0 no_denoter) r.0 0 h.0 r.2 refl in
      (bare_of m.0, (bare_each r.0, r.1, m.1), h.2.1.1 ∙ ap Some (one_form types h.0 m.0 h.2.1.0 m.2 h.2.1.2))

  along_leads : (path : List VariantStep) (tag : Option TagType) (number : ℕ) (of : TypeName) (k : Kind) (ds : Denoters) (ts : ComponentTypes) → AreTyped types ds ts → IsAlong (Forms types) types (IsPartOf (Forms types) types tag number of k) path ds
      → LeadsTo (bare_each ts) of (map (λ s. variant_number s.selection s.variant) path ++ part_steps tag number)
  along_leads [] tag number of k ds ts all h = part_leads tag number of k ds ts all h
  along_leads (s ∷ path) tag number of k ds ts all h =
      let r = record_among (Forms types) types ds ts (variant_number s.selection s.variant) h.1 all h.2 in
      let l = along_leads path tag number of k h.1 r.0 r.2 h.3 in
      (l.0, step_leads (bare_each ts) (bare_each r.0) (variant_number s.selection s.variant) (map (λ s. variant_number s.selection s.variant) path ++ part_steps tag number) l.0 r.1 l.1, l.2)

  -- the scopes say of a structured type what its components are
  abbrev Suits : Option Composition → TypeValue → Type 0
  Suits None t = ⊤
  Suits (Some (composition.Array a)) t = (low high : ℤ) (of : TypeValue) → t ≡ type.Array low high of → Forms types a.component ≡ Some of
  Suits (Some (composition.Record fs)) t = (ts : ComponentTypes) → t ≡ type.Record ts → All (λ f. LeadsTo ts f.of (field_steps f)) fs

  record_suits : (fs : List FieldType) (ds : Denoters) (ts us : ComponentTypes) → AreTyped types ds us → AreFields (Forms types) types fs ds → bare_each us ≡ ts → All (λ f. LeadsTo ts f.of (field_steps f)) fs
  record_suits fs ds ts us all h same =
      subst (λ vs. All (λ f. LeadsTo vs f.of (field_steps f)) fs) same
      (All-weaker (IsFieldOf (Forms types) types ds) (λ f. LeadsTo (bare_each us) f.of (field_steps f)) (λ f p. along_leads f.path f.tag f.number f.of f.kind ds us all p) fs h)

  same_component : (l h m n : ℤ) (a b : TypeValue) → type.Array l h a ≡ type.Array m n b → a ≡ b
  same_component l h m n a b e = cc

  same_components : (us vs : ComponentTypes) → type.Record us ≡ type.Record vs → us ≡ vs
  same_components us vs e = cc

  made_suits : (n : ℕ) (c : Composition) (m : Structure) (t : TypeValue) → IsTyped types (Named n []) t → HasStructure types (Named n []) m → IsMadeOf (Forms types) types c m → Suits (Some c) (bare_of t)
  made_suits n (composition.Array a) (Arrays parts) t typed has made =
      λ low high of is.
      let p = typed_parts types (Named n []) t parts typed has in
      let same : bare_of p.of ≡ of = same_component p.low p.high low high (bare_of p.of) of (sym p.is ∙ is) in
      made.2.1.1 ∙ ap Some (one_form types parts.component p.of made.2.1.0 p.component made.2.1.2 ∙ same)
  made_suits n (composition.Array a) (Records ds) t typed has made = absurd made
  made_suits n (composition.Record fs) (Arrays parts) t typed has made = absurd made
  made_suits n (composition.Record fs) (Records ds) t typed has made =
      λ ts is.
      let c = typed_components types (Named n []) t ds typed has in
      record_suits fs ds ts c.types_of c.all made (same_components (bare_each c.types_of) ts (sym c.is ∙ is))

-- ---- elements

-- what is found of a component is what it is given
gives_found : (es : Elements) (steps : List ℕ) (x : Expr) → value_of_field es steps ≡ Some x → Gives es steps x
gives_found no_element steps x e = cc
gives_found (next_element (AtIndex i y) more) steps x e = gives_found more steps x e
gives_found (next_element (AtRanges ranges y) more) steps x e = gives_found more steps x e
gives_found (next_element (SameField from to) more) steps x e = gives_found more steps x e
gives_found (next_element (AtIndexes ds y) more) steps x e = gives_found more steps x e
gives_found (next_element (AtField own y) more) steps x e = chosen (bytes_eq own steps) refl (gives_found more steps x) e
  where
    chosen : (b : Bool) → bytes_eq own steps ≡ b → (value_of_field more steps ≡ Some x → Gives more steps x) → (if b then Some y else value_of_field more steps) ≡ Some x → Gives (next_element (AtField own y) more) steps x
    chosen true same rest f = inl ((bytes_eq-Decides own steps).0 same, same_Some y x f)
    chosen false same rest f = inr (rest f)

module _ (types : List UnitType) where
  -- a name for a type that is known has its type value
  abbrev IsNameOf : TypeValue → Option TypeName → Type 0
  IsNameOf t None = ⊤
  IsNameOf t (Some of) = Forms types of ≡ Some t

  -- the field to which steps lead, by the first one with these
  field_leads : (fs : List FieldType) (ts : ComponentTypes) (steps : List ℕ) (t : TypeValue) → All (λ f. LeadsTo types ts f.of (field_steps f)) fs → LeadTo ts steps t → IsNameOf t (field_among fs steps)
  field_leads [] ts steps t all lead = tt
  field_leads (f ∷ fs) ts steps t all lead = chosen (bytes_eq (field_steps f) steps) refl (field_leads fs ts steps t (All-tail (λ g. LeadsTo types ts g.of (field_steps g)) f fs all) lead)
    where
      chosen : (b : Bool) → bytes_eq (field_steps f) steps ≡ b → IsNameOf t (field_among fs steps) → IsNameOf t (if b then Some f.of else field_among fs steps)
      chosen true same rest =
          let own = All-head (λ g. LeadsTo types ts g.of (field_steps g)) f fs all in
          own.2 ∙ ap Some (leads_once ts steps own.0 t (subst (λ s. LeadTo ts s own.0) ((bytes_eq-Decides (field_steps f) steps).0 same) own.1) lead)
      chosen false same rest = rest

  element_named : (c : Option Composition) (low high : ℤ) (of : TypeValue) → Suits types c (type.Array low high of) → IsNameOf of (element_type c)
  element_named None low high of s = tt
  element_named (Some (composition.Array a)) low high of s = s low high of refl
  element_named (Some (composition.Record fs)) low high of s = tt

  field_named : (c : Option Composition) (ts : ComponentTypes) (steps : List ℕ) (of : TypeValue) → Suits types c (type.Record ts) → LeadTo ts steps of → IsNameOf of (field_type c steps)
  field_named None ts steps of s lead = tt
  field_named (Some (composition.Array a)) ts steps of s lead = tt
  field_named (Some (composition.Record fs)) ts steps of s lead = field_leads fs ts steps of (s ts refl) lead

  module _ (few : List UnitType) (scopes : List Region) (front : IsPrefix few types) (suits : (n : ℕ) (t : TypeValue) → type_of types (Named n []) ≡ Some t → IsTyped types (Named n []) t → Suits types (structure_in scopes n) t) where
    plainly : (of : Option TypeName) (t : TypeValue) (x : Expr) → IsNameOf t of → is_plain_in few of (Some x) ≡ true → IsPlainIn t x
    plainly None t x named e = cc
    plainly (Some of) t x named e = plain_lies types few of t x front named e

    -- a second field, by what the first one is given
    second_lies : (c : Option Composition) (ts : ComponentTypes) (all : Elements) (from to : List ℕ) (of : TypeValue) (o : Option Expr) → Suits types c (type.Record ts) → LeadTo ts to of → value_of_field all from ≡ o → is_plain_in few (field_type c to) o ≡ true
        → (x : Expr) × Gives all from x × IsPlainIn of x
    second_lies c ts all from to of None s lead is e = unknown (field_type c to) e
      where
        unknown : (name : Option TypeName) → is_plain_in few name None ≡ true → (x : Expr) × Gives all from x × IsPlainIn of x
        unknown None f = cc
        unknown (Some n) f = cc
    second_lies c ts all from to of (Some x) s lead is e = (x, gives_found all from x is, plainly (field_type c to) of x (field_named c ts to of s lead) e)

    mutual
      -- a constant that is found to lie in a type does
      pub constant_lies : (of : Option TypeName) (t : TypeValue) (x : Expr) → IsNameOf t of → IsStartFor types t x → is_in few scopes of x ≡ true → LiesIn t x
      constant_lies of t x named (word_start low high h w is_type is_of) e = plainly of t x named e
      constant_lies of t x named (set_start low high h ms is_type is_set between) e = plainly of t x named e
      constant_lies of t x named (structured_start number u es has typed structured given) e = all_lie (structure_in scopes number) t es es (suits number t has typed) given e

      -- and so does what components are given
      all_lie : (c : Option Composition) (t : TypeValue) (all es : Elements) → Suits types c t → AreStartsFor types t es → are_in few scopes c all es ≡ true → AllLieIn t all es
      all_lie c t all es s (none_given u) e = tt
      all_lie c t all es s (ranges_given low high h of ranges x more is_type has_range within start rest) e =
          let both = and_parts (is_in few scopes (element_type c) x) (are_in few scopes c all more) e in
          (constant_lies (element_type c) of x (element_named c low high of s) start both.0, all_lie c t all more s rest both.1)
      all_lie c t all es s (field_given ts steps of x more lead start rest) e =
          let both = and_parts (is_in few scopes (field_type c steps) x) (are_in few scopes c all more) e in
          ((of, lead, constant_lies (field_type c steps) of x (field_named c ts steps of s lead) start both.0), all_lie c t all more s rest both.1)
      all_lie c t all es s (same_given ts from to k more lead-from lead-to rest) e =
          let both = and_parts (is_plain_in few (field_type c to) (value_of_field all from)) (are_in few scopes c all more) e in
          ((lead-to.0, lead-to.1, second_lies c ts all from to lead-to.0 (value_of_field all from) s lead-to.1 refl both.0), all_lie c t all more s rest both.1)

-- The scopes of code of a unit whose list of types has these in front: what they say of a structured type suits its type value.
module _ (declared : Declarations) (structures : List StructuredType) (depth : ℕ) (scopes : List Region) (agrees : AgreesBy declared (Forms declared.types) structures depth scopes) where
  found_suits : (n : ℕ) (t : TypeValue) (o : Option Composition) → structure_in scopes n ≡ o → type_of declared.types (Named n []) ≡ Some t → IsTyped declared.types (Named n []) t → Suits declared.types o t
  found_suits n t None is has typed = tt
  found_suits n t (Some c) is has typed =
      let listed = structure_in-listed declared (Forms declared.types) structures depth n scopes c agrees is in
      subst (Suits declared.types (Some c)) (typed_bare declared.types (Named n []) t typed) (made_suits declared.types n c listed.2.structure t typed listed.2.has_structure listed.2.made_of)

  -- so a constant of the type lies in it
  pub value_lies : (few : List UnitType) (n : ℕ) (es : List Given) (t : TypeValue) → IsPrefix few declared.types → IsStartFor declared.types t (constant_expr (value.Structured n es))
      → are_in few scopes (structure_in scopes n) (elements (map element_of es)) (elements (map element_of es)) ≡ true → LiesIn t (constant_expr (value.Structured n es))
  value_lies few n es t front start e =
      constant_lies declared.types few scopes front (λ m u has typed. found_suits m u (structure_in scopes m) refl has typed) None t (tree.Structured n (elements (map element_of es))) tt start e
