-- What is known of the places of structures and of their components, and of places within records.
use Rattle.std.proofs.Common.{◌≡◌, ◌==◌, ℕ, zero, suc, Bool, true, false, List, [], ◌∷◌, ◌++◌, length, slice_get, Option, Some, None, refl, sym, ◌∙◌, subst, arith}
use Rattle.std.specs.Prelude.{All, if◌then◌else◌}
use Rattle.std.proofs.lemmas.Bool.Decides.{nat_tests}
use Rattle.std.proofs.lemmas.List.Elements.{All-head, All-tail}
use Rattle.ep_typed.specs.Denoters.{ArrayParts, array_of, array_within, definition_of, denoter_at, found_of, host_of, record_of, record_within}
use Rattle.ep_typed.specs.Hosts as hosts
use Rattle.ep_typed.specs.Selections.{variant_number}
use Rattle.ep_typed.specs.Trees.{Array, Denoter, Denoters, Enumeration, Expr, Field, Indexed, Initial, Named, Own, Place, Record, Required, Set, Standard, Subrange, Variable, Variant}
use Rattle.ep_meaning.specs.Valid as valid
use Rattle.ep_values.specs.TypeValues.{TypeValue}
use Rattle.ep_meaning.specs.Valid.{Declarations, IsExpr, IsOfKind, IsPlaceWhere, IsSelection}
use Rattle.ep_typed.specs.Viewed.{denoter_of}
use Rattle.ep_typed.specs.declared.tree.Selection.{Selection}
use Rattle.ep_typed.specs.declared.unit.UnitType.{UnitType}
use Rattle.ep_scope.specs.Scopes.{Region, structure_among, structure_in, structure_or}
use Rattle.ep_scope.specs.declared.kind.Kind.{Kind}
use Rattle.ep_scope.specs.declared.kind.Kind.TheVariants as kind
use Rattle.ep_scope.specs.declared.parameter.TypeName.{TypeName}
use Rattle.ep_scope.specs.declared.structure.ArrayType.{ArrayType}
use Rattle.ep_scope.specs.declared.structure.Composition.{Composition}
use Rattle.ep_scope.specs.declared.structure.Composition.TheVariants as composition
use Rattle.ep_scope.specs.declared.structure.FieldType.{FieldType}
use Rattle.ep_scope.specs.declared.structure.StructuredType.{StructuredType}
use Rattle.ep_expr_laws.specs.Agreement.{AreFields, Arrays, HasKind, HasStructure, HoldsStructure, IsArrayOf, IsDenoterOf, IsMadeOf, IsStructuredAt, IsStructuredDenoter, IsValueOf, Records, Structure, TypeValues, structures_of}
use Rattle.ep_rules.specs.Hosts.{typed_host}

-- ---- places

module _ (declared : Declarations) where
  -- the parts of the denoter of an array, of which this holds, with an index
  abbrev pub IsComponentWhere : (List UnitType → Denoter → Type 0) → Expr → List UnitType → Denoter → Type 0
  IsComponentWhere P x list d = (a : ArrayParts) × (array_of list d ≡ Some a) × P list a.component × ((h : hosts.Host) × (host_of list a.index ≡ Some h) × IsExpr declared (valid.Ordinal h) x)

  -- the component of this number of the denoter of a record, of which this holds
  abbrev pub IsFieldWhere : (List UnitType → Denoter → Type 0) → ℕ → List UnitType → Denoter → Type 0
  IsFieldWhere P number list d = (ds : Denoters) × (record_of list d ≡ Some ds) × (c : Denoter) × (denoter_at ds number ≡ Some c) × P list c

  -- the variant of this number of the denoter of a record, of which this holds
  abbrev pub IsVariantWhere : (List UnitType → Denoter → Type 0) → Selection → ℕ → List UnitType → Denoter → Type 0
  IsVariantWhere P s number list d = (ds : Denoters) × (record_of list d ≡ Some ds) × IsSelection declared list ds s × (c : Denoter) × (denoter_at ds (variant_number s number) ≡ Some c) × P list c

  -- what says less of a denoter says less of a place
  pub place_wider : (P Q : List UnitType → Denoter → Type 0) (p : Place) → ((list : List UnitType) (d : Denoter) → P list d → Q list d) → IsPlaceWhere declared P p → IsPlaceWhere declared Q p
  place_wider P Q (Variable unit number) f h = (h.0, h.1, f declared.types (denoter_of h.0.denoter) h.2)
  place_wider P Q (Own up number) f h = (h.0, h.1, f declared.types (denoter_of h.0.denoter) h.2)
  place_wider P Q (Standard file) f h = absurd h
  place_wider P Q (Indexed p x) f h = place_wider (IsComponentWhere P x) (IsComponentWhere Q x) p (λ list d c. (c.0, c.1, f list c.0.component c.2, c.3)) h
  place_wider P Q (Field p number) f h = place_wider (IsFieldWhere P number) (IsFieldWhere Q number) p (λ list d c. (c.0, c.1, c.2, c.3, f list c.2 c.4)) h
  place_wider P Q (Variant p s number) f h = place_wider (IsVariantWhere P s number) (IsVariantWhere Q s number) p (λ list d c. (c.0, c.1, c.2, c.3, c.4, f list c.3 c.5)) h

  -- some denoter is that of the place
  pub place_at : (P : List UnitType → Denoter → Type 0) (p : Place) → IsPlaceWhere declared P p → (list : List UnitType) × (d : Denoter) × P list d
  place_at P (Variable unit number) h = (declared.types, denoter_of h.0.denoter, h.2)
  place_at P (Own up number) h = (declared.types, denoter_of h.0.denoter, h.2)
  place_at P (Standard file) h = absurd h
  place_at P (Indexed p x) h = let c = place_at (IsComponentWhere P x) p h in (c.0, c.2.0.component, c.2.2)
  place_at P (Field p number) h = let c = place_at (IsFieldWhere P number) p h in (c.0, c.2.2, c.2.4)
  place_at P (Variant p s number) h = let c = place_at (IsVariantWhere P s number) p h in (c.0, c.2.3, c.2.5)

-- ---- structured types in view

-- numbers that the test finds the same are one
pub same_number : (m n : ℕ) → (m == n) ≡ true → m ≡ n
same_number m n e = grind (arith, nat_tests)

-- the structured type of a number that is made so
abbrev pub made_so : ℕ → Composition → StructuredType
made_so n c = record { number = n; composition = c }

module _ (P : StructuredType → Type 0) where
  chosen_made : (s : StructuredType) (n : ℕ) (c : Composition) → P s → (s.number == n) ≡ true → s.composition ≡ c → P (made_so n c)
  chosen_made s n c h number is = subst (λ m. P (made_so m c)) (same_number s.number n number) (subst (λ k. P (made_so s.number k)) is h)

  -- what all structured types of a list are is the one that is found among the first ones
  among-holds : (n : ℕ) (structures rest : List StructuredType) (c : Composition) → All P (structures ++ rest) → structure_among n structures ≡ Some c → P (made_so n c)
  among-holds n [] rest c all e = cc
  among-holds n (s ∷ more) rest c all e = chosen (s.number == n) refl (among-holds n more rest c (All-tail P s (more ++ rest) all)) e
    where
      chosen : (b : Bool) → (s.number == n) ≡ b → (structure_among n more ≡ Some c → P (made_so n c)) → (if b then Some s.composition else structure_among n more) ≡ Some c → P (made_so n c)
      chosen true number later e = let is : s.composition ≡ c = cc in chosen_made s n c (All-head P s (more ++ rest) all) number is
      chosen false number later e = later e

  -- and the ones after those
  rest-holds : (structures rest : List StructuredType) → All P (structures ++ rest) → All P rest
  rest-holds [] rest all = all
  rest-holds (s ∷ more) rest all = rest-holds more rest (All-tail P s (more ++ rest) all)

  -- what all structured types in view are is the one that is found
  pub structure_in-holds : (n : ℕ) (scopes : List Region) (c : Composition) → All P (structures_of scopes) → structure_in scopes n ≡ Some c → P (made_so n c)
  structure_in-holds n [] c all e = cc
  structure_in-holds n (r ∷ rs) c all e = found (structure_among n r.structures) refl (structure_in-holds n rs c (rest-holds r.structures (structures_of rs) all)) e
    where
      found : (o : Option Composition) → structure_among n r.structures ≡ o → (structure_in rs n ≡ Some c → P (made_so n c)) → structure_or o (structure_in rs n) ≡ Some c → P (made_so n c)
      found None h later e = later e
      found (Some d) h later e = among-holds n r.structures (structures_of rs) c all (h ∙ e)

-- ---- one structure of a denoter

module _ (list : List UnitType) where
  -- no denoter is that of an array and of a record
  apart_if : (n : ℕ) (o : Option UnitType) (p : ArrayParts) (ds : Denoters) → ((t : UnitType) → array_within list n (definition_of t) ≡ Some p → record_within list n (definition_of t) ≡ Some ds → ⊥)
      → found_of (array_within list n) o ≡ Some p → found_of (record_within list n) o ≡ Some ds → ⊥
  apart_if n None p ds below e f = cc
  apart_if n (Some t) p ds below e f = below t e f

  apart : (n : ℕ) (d : Denoter) (p : ArrayParts) (ds : Denoters) → array_within list n d ≡ Some p → record_within list n d ≡ Some ds → ⊥
  apart zero d p ds e f = cc
  apart (suc n) (Required r) p ds e f = cc
  apart (suc n) (Named index []) p ds e f = apart_if n (slice_get list index) p ds (λ t. apart n (definition_of t) p ds) e f
  apart (suc n) (Named index (b ∷ bs)) p ds e f = cc
  apart (suc n) (Subrange of low high) p ds e f = cc
  apart (suc n) (Enumeration names) p ds e f = cc
  apart (suc n) (Array index component) p ds e f = cc
  apart (suc n) (Record more) p ds e f = cc
  apart (suc n) (Set base) p ds e f = cc
  apart (suc n) (Initial of value) p ds e f = apart (suc n) of p ds e f

  -- a denoter of a number is made like the definition of that number
  alike : (d : Denoter) (n : ℕ) (s m : Structure) → HasStructure list d s → HasStructure list (Named n []) s → HasStructure list (Named n []) m → HasStructure list d m
  alike d n (Arrays p) (Arrays q) h same made = h ∙ (sym same ∙ made)
  alike d n (Arrays p) (Records ds) h same made = absurd (apart (suc (length list)) (Named n []) p ds same made)
  alike d n (Records ds) (Arrays p) h same made = absurd (apart (suc (length list)) (Named n []) p ds made same)
  alike d n (Records ds) (Records es) h same made = h ∙ (sym same ∙ made)

  module _ (types : TypeValues) (d : Denoter) (n : ℕ) (of : IsStructuredDenoter list d n) where
    -- the parts of an array
    array_parts : (a : ArrayType) → HoldsStructure types list (made_so n (composition.Array a)) → (p : ArrayParts) × (array_of list d ≡ Some p) × IsArrayOf types list a p
    array_parts a h = within h.structure h.has_structure h.made_of
      where
        within : (m : Structure) → HasStructure list (Named n []) m → IsMadeOf types list (composition.Array a) m → (p : ArrayParts) × (array_of list d ≡ Some p) × IsArrayOf types list a p
        within (Arrays p) there made = (p, alike d n of.0 (Arrays p) of.1 of.2 there, made)
        within (Records ds) there made = absurd made

    -- the components of a record
    pub record_parts : (fs : List FieldType) → HoldsStructure types list (made_so n (composition.Record fs)) → (ds : Denoters) × (record_of list d ≡ Some ds) × AreFields types list fs ds
    record_parts fs h = within h.structure h.has_structure h.made_of
      where
        within : (m : Structure) → HasStructure list (Named n []) m → IsMadeOf types list (composition.Record fs) m → (ds : Denoters) × (record_of list d ≡ Some ds) × AreFields types list fs ds
        within (Arrays p) there made = absurd made
        within (Records ds) there made = (ds, alike d n of.0 (Records ds) of.1 of.2 there, made)

-- ---- components

module _ (declared : Declarations) (types : TypeValues) (structures : List StructuredType) where
  -- what is known of the denoter of a component of this type and kind
  abbrev pub IsComponent : TypeName → Kind → List UnitType → Denoter → Type 0
  IsComponent of k list d = IsDenoterOf types list of k d × All (HoldsStructure types list) structures

  -- so the place is that of a component of this type and kind
  abbrev pub IsComponentAt : TypeName → Kind → Place → Type 0
  IsComponentAt of k place = IsPlaceWhere declared (IsComponent of k) place

  -- and of the denoter of a structured variable, by its number
  abbrev pub IsStructured : ℕ → List UnitType → Denoter → Type 0
  IsStructured n list d = HasKind types list d (kind.Structured n) × All (HoldsStructure types list) structures

  -- some list of types holds the structured types
  pub some-list : (n : ℕ) (place : Place) → IsStructuredAt declared types structures n place → (list : List UnitType) × All (HoldsStructure types list) structures
  some-list n place at = let p = place_at declared (IsStructured n) place at in (p.0, p.2.1)

  -- its values are those of that type
  pub structured-place : (n : ℕ) (place : Place) → IsStructuredAt declared types structures n place → (t : TypeValue) × IsValueOf types n t × IsPlaceWhere declared (IsOfKind (valid.Structured t)) place
  structured-place n place at =
      let p = place_at declared (IsStructured n) place at in
      let v = p.2.0.1 in
      (v.0, v.1, place_wider declared (IsStructured n) (IsOfKind (valid.Structured v.0)) place (λ list d k. (k.0.1.2 ∙ (sym k.0.1.1.0 ∙ v.1.0), v.1.1)) at)

  module _ (n : ℕ) (c : Composition) (in_view : (list : List UnitType) → All (HoldsStructure types list) structures → HoldsStructure types list (made_so n c)) where
    -- a component of an array
    pub component-place : (a : ArrayType) → c ≡ composition.Array a → (place : Place) (x : Expr) → IsStructuredAt declared types structures n place → IsExpr declared (valid.Ordinal (typed_host a.index)) x → IsComponentAt a.component a.kind (Indexed place x)
    component-place a is place x at index = place_wider declared (IsStructured n) (IsComponentWhere declared (IsComponent a.component a.kind) x) place within at
      where
        within : (list : List UnitType) (d : Denoter) → IsStructured n list d → IsComponentWhere declared (IsComponent a.component a.kind) x list d
        within list d k =
            let p = array_parts list types d n k.0.0 a (subst (λ z. HoldsStructure types list (made_so n z)) is (in_view list k.1)) in
            (p.0, p.1, (p.2.2, k.1), (typed_host a.index, p.2.1, index))

    -- some denoter is that of a component
    pub some-component : (a : ArrayType) → c ≡ composition.Array a → (list : List UnitType) → All (HoldsStructure types list) structures → (d : Denoter) × HasKind types list d a.kind
    some-component a is list all = within h.structure h.made_of
      where
        h : HoldsStructure types list (made_so n (composition.Array a))
        h = subst (λ z. HoldsStructure types list (made_so n z)) is (in_view list all)

        within : (m : Structure) → IsMadeOf types list (composition.Array a) m → (d : Denoter) × HasKind types list d a.kind
        within (Arrays p) made = (p.component, made.2.0)
        within (Records ds) made = absurd made
