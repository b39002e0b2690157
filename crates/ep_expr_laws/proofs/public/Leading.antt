-- The steps to a field of a record lead to a component with a type value of its kind, in variants and for tags too.
use Rattle.std.proofs.Common.{◌≡◌, ◌∙◌, ℕ, List, [], ◌∷◌, ◌++◌, map, Option, Some, None, ap, refl, subst, sym}
use Rattle.std.proofs.lemmas.Option.{same_Some}
use Rattle.std.proofs.lemmas.List.Elements.{All-weaker}
use Rattle.std.specs.Prelude.{All}
use Rattle.std.specs.Option.{option_map}
use Rattle.ep_meaning.proofs.public.Bares.{bare_among}
use Rattle.ep_meaning.proofs.public.Typed.{typed_among, typed_components, typed_of_host, typed_set}
use Rattle.ep_meaning.proofs.public.ValueKinds.{typed_of_kind}
use Rattle.ep_typed.specs.Denoters.{denoter_at}
use Rattle.ep_typed.specs.Selections.{variant_number}
use Rattle.ep_typed.specs.Trees.{Denoter, Denoters, Named, Record, next_denoter, no_denoter}
use Rattle.ep_values.specs.TypeValues.{ComponentTypes, TypeValue, bare_each, bare_of, type_among}
use Rattle.ep_values.specs.TypeValues as type
use Rattle.ep_meaning.specs.Valid.{AreTyped, Declarations, IsTyped, LeadTo}
use Rattle.ep_meaning.specs.Valid as valid
use Rattle.ep_typed.specs.declared.unit.UnitType.{UnitType}
use Rattle.ep_scope.specs.declared.kind.Kind.{Kind}
use Rattle.ep_scope.specs.declared.kind.Kind.TheVariants as kind
use Rattle.ep_scope.specs.declared.parameter.TypeName.{TypeName}
use Rattle.ep_scope.specs.declared.structure.Composition.TheVariants as composition
use Rattle.ep_scope.specs.declared.structure.FieldType.{FieldType}
use Rattle.ep_scope.specs.declared.structure.TagType.{TagType}
use Rattle.ep_scope.specs.declared.structure.VariantStep.{VariantStep}
use Rattle.ep_expr_laws.specs.Agreement.{AreFields, Arrays, HasKind, HasStructure, IsAlong, IsFieldOf, IsListed, IsMadeOf, IsPartOf, IsValueOf, IsValueOfKind, Records, Structure, TypeValues}
use Rattle.ep_rules.specs.Hosts.{typed_host}
use Rattle.ep_rules.specs.VariantSteps.{field_steps, part_steps}
use Rattle.ep_expr_laws.proofs.public.Places.{made_so}

-- from records with these components steps lead to a component with a type value of the kind
abbrev pub Leads : TypeValues → ComponentTypes → Kind → List ℕ → Type 0
Leads types ts k steps = (t : TypeValue) × LeadTo ts steps t × IsValueOfKind types k t

-- one step before others
pub step_leads : (ts us : ComponentTypes) (k : ℕ) (steps : List ℕ) (of : TypeValue) → type_among ts k ≡ Some (type.Record us) → LeadTo us steps of → LeadTo ts (k ∷ steps) of
step_leads ts us k [] of e h = absurd h
step_leads ts us k (j ∷ more) of e h = (us, e, h)

-- steps lead to one type
pub leads_once : (ts : ComponentTypes) (steps : List ℕ) (a b : TypeValue) → LeadTo ts steps a → LeadTo ts steps b → a ≡ b
leads_once ts [] a b p q = absurd p
leads_once ts (k ∷ []) a b p q = same_Some a b (sym p ∙ q)
leads_once ts (k ∷ j ∷ more) a b p q =
    let same : type.Record p.0 ≡ type.Record q.0 = same_Some (type.Record p.0) (type.Record q.0) (sym p.1 ∙ q.1) in
    leads_once q.0 (j ∷ more) a b (subst (λ us. LeadTo us (j ∷ more) a) (same_components p.0 q.0 same) p.2) q.2
  where
    same_components : (us vs : ComponentTypes) → type.Record us ≡ type.Record vs → us ≡ vs
    same_components us vs e = cc

module _ (types : TypeValues) (list : List UnitType) where
  -- a valid denoter of a kind has a type value of the kind
  kind_value : (k : Kind) (d : Denoter) (t : TypeValue) → IsTyped list d t → HasKind types list d k → IsValueOfKind types k (bare_of t)
  kind_value (kind.Ordinal h) d t typed has = (has.0, typed_of_host list d t (typed_host h) typed has.1)
  kind_value (kind.Structured n) d t typed has =
      let v = has.1 in
      let same = typed_of_kind list d t (valid.Structured v.0) typed (v.2, v.1.1) in
      subst (IsValueOf types n) same.0 v.1
  kind_value (kind.Set h) d t typed has = (has.0, typed_set list d t has.1.0 (typed_host h) typed has.1.1 has.1.2)
  kind_value kind.EmptySet d t typed has = absurd has
  kind_value kind.Text d t typed has = absurd has
  kind_value kind.File d t typed has = absurd has

  -- the component of a number, without initial states
  pub among_bare : (ds : Denoters) (ts : ComponentTypes) (k : ℕ) (d : Denoter) → AreTyped list ds ts → denoter_at ds k ≡ Some d → (t : TypeValue) × (type_among (bare_each ts) k ≡ Some (bare_of t)) × IsTyped list d t
  among_bare ds ts k d all there = let m = typed_among list ds ts k d all there in (m.0, bare_among ts k ∙ ap (option_map bare_of) m.1, m.2)

  -- one that is a record
  pub record_among : (ds : Denoters) (ts : ComponentTypes) (k : ℕ) (inner : Denoters) → AreTyped list ds ts → denoter_at ds k ≡ Some (Record inner) → (us : ComponentTypes) × (type_among (bare_each ts) k ≡ Some (type.Record (bare_each us))) × AreTyped list inner us
  record_among ds ts k inner all there =
      let m = among_bare ds ts k (Record inner) all there in
      let c = typed_components list (Record inner) m.0 inner m.2 refl in
      (c.types_of, m.1 ∙ ap Some c.is, c.all)

  part_leads : (tag : Option TagType) (number : ℕ) (of : TypeName) (k : Kind) (ds : Denoters) (ts : ComponentTypes) → AreTyped list ds ts → IsPartOf types list tag number of k ds → Leads types (bare_each ts) k (part_steps tag number)
  part_leads None number of k ds ts all h = let m = among_bare ds ts number h.0 all h.1 in (bare_of m.0, m.1, kind_value k h.0 m.0 m.2 h.2.0)
  part_leads (Some tag) number of k ds ts all h =
      let r = record_among ds ts number (next_denoter h.0 no_denoter) all h.1 in
      let m = among_bare (next_denoter h.0 no_denoter) r.0 0 h.0 r.2 refl in
      (bare_of m.0, (bare_each r.0, r.1, m.1), kind_value k h.0 m.0 m.2 h.2.0)

  along_leads : (path : List VariantStep) (tag : Option TagType) (number : ℕ) (of : TypeName) (k : Kind) (ds : Denoters) (ts : ComponentTypes) → AreTyped list ds ts → IsAlong types list (IsPartOf types list tag number of k) path ds
      → Leads types (bare_each ts) k (map (λ s. variant_number s.selection s.variant) path ++ part_steps tag number)
  along_leads [] tag number of k ds ts all h = part_leads tag number of k ds ts all h
  along_leads (s ∷ path) tag number of k ds ts all h =
      let r = record_among ds ts (variant_number s.selection s.variant) h.1 all h.2 in
      let l = along_leads path tag number of k h.1 r.0 r.2 h.3 in
      (l.0, step_leads (bare_each ts) (bare_each r.0) (variant_number s.selection s.variant) (map (λ s. variant_number s.selection s.variant) path ++ part_steps tag number) l.0 r.1 l.1, l.2)

  -- and so do those to all fields
  abbrev pub AllLead : ComponentTypes → List FieldType → Type 0
  AllLead ts fs = All (λ f. Leads types ts f.kind (field_steps f)) fs

  all_lead : (fs : List FieldType) (ds : Denoters) (ts : ComponentTypes) → AreTyped list ds ts → AreFields types list fs ds → AllLead (bare_each ts) fs
  all_lead fs ds ts all h =
      All-weaker (IsFieldOf types list ds) (λ f. Leads types (bare_each ts) f.kind (field_steps f)) (λ f p. along_leads f.path f.tag f.number f.of f.kind ds ts all p) fs h

-- the fields of a record type in view
pub listed-lead : (declared : Declarations) (types : TypeValues) (n : ℕ) (fs : List FieldType) (listed : IsListed declared types (made_so n (composition.Record fs)))
    → (ts : ComponentTypes) × (bare_of listed.0.type_value ≡ type.Record ts) × All (λ f. Leads types ts f.kind (field_steps f)) fs
listed-lead declared types n fs listed = within listed.2.structure listed.2.has_structure listed.2.made_of
  where
    within : (m : Structure) → HasStructure declared.types (Named n []) m → IsMadeOf types declared.types (composition.Record fs) m
        → (ts : ComponentTypes) × (bare_of listed.0.type_value ≡ type.Record ts) × All (λ f. Leads types ts f.kind (field_steps f)) fs
    within (Arrays p) has made = absurd made
    within (Records ds) has made =
        let c = typed_components declared.types (Named n []) listed.0.type_value ds listed.0.typed has in
        (bare_each c.types_of, c.is, all_lead types declared.types fs ds c.types_of c.all made)
