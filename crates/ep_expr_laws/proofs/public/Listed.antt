-- The structured types in view are valid types of the unit in whose code they are named.
use Rattle.std.proofs.Common.{◌≡◌, ◌∙◌, ℕ, List, [], ◌∷◌, Some, sym, subst}
use Rattle.std.proofs.lemmas.List.Elements.{All-append, All-contains_itself, All-nil, All-weaker}
use Rattle.std.proofs.lemmas.Option.{same_Some}
use Rattle.std.specs.Prelude.{All, Contains}
use Rattle.ep_values.specs.TypeValues.{TypeValue, bare_of}
use Rattle.ep_meaning.specs.Valid.{Declarations, IsStructured}
use Rattle.ep_scope.specs.Scopes.{Region, structure_in}
use Rattle.ep_scope.specs.declared.structure.Composition.{Composition}
use Rattle.ep_scope.specs.declared.structure.Composition.TheVariants as composition
use Rattle.ep_scope.specs.declared.structure.StructuredType.{StructuredType}
use Rattle.ep_expr_laws.specs.Agreement.{AgreesBy, AreHeld, HoldsStructure, IsListed, IsValueMadeOf, IsValueOf, TypeValues, structures_of}
use Rattle.ep_expr_laws.proofs.public.Places.{made_so, structure_in-holds}

-- the structured type of a number is one of those in view, where it is found
pub structure_in-there : (n : ℕ) (scopes : List Region) (c : Composition) → structure_in scopes n ≡ Some c → Contains (structures_of scopes) (made_so n c)
structure_in-there n scopes c e = structure_in-holds (Contains (structures_of scopes)) n scopes c (All-contains_itself (structures_of scopes)) e

-- what is made of components is structured
structured_made : (types : TypeValues) (c : Composition) (t : TypeValue) → IsValueMadeOf types c t → IsStructured t
structured_made types (composition.Array a) t made = subst IsStructured (sym made.1) tt
structured_made types (composition.Record fs) t made = subst IsStructured (sym made.1) tt

module _ (declared : Declarations) (types : TypeValues) where
  -- ---- one that is listed

  module _ (s : StructuredType) (listed : IsListed declared types s) where
    -- its type value without initial states is the one type value of its number
    one_value : listed.2.type_value ≡ bare_of listed.0.type_value
    one_value = same_Some listed.2.type_value (bare_of listed.0.type_value) (sym listed.2.has_value ∙ listed.1)

    -- it is made of those of its components
    pub listed-made : IsValueMadeOf types s.composition (bare_of listed.0.type_value)
    listed-made = subst (IsValueMadeOf types s.composition) one_value listed.2.value_made

    pub listed-value : IsValueOf types s.number (bare_of listed.0.type_value)
    listed-value = (listed.1, structured_made types s.composition (bare_of listed.0.type_value) listed-made)

  -- ---- those in view

  module _ (structures : List StructuredType) (depth : ℕ) where
    -- all of them are listed
    pub all-listed : (scopes : List Region) → AgreesBy declared types structures depth scopes → All (IsListed declared types) (structures_of scopes)
    all-listed [] agrees = All-nil (IsListed declared types)
    all-listed (r ∷ rs) agrees = All-append (IsListed declared types) r.structures (structures_of rs) agrees.4 (all-listed rs agrees.2)

    -- so the list of types of the unit holds them
    pub all-held : (scopes : List Region) → AgreesBy declared types structures depth scopes → AreHeld types (structures_of scopes)
    all-held scopes agrees =
        (declared.types, All-weaker (IsListed declared types) (HoldsStructure types declared.types) (λ s listed. listed.2) (structures_of scopes) (all-listed scopes agrees))

    -- the one that is found by its number is listed
    pub structure_in-listed : (n : ℕ) (scopes : List Region) (c : Composition) → AgreesBy declared types structures depth scopes → structure_in scopes n ≡ Some c → IsListed declared types (made_so n c)
    structure_in-listed n scopes c agrees e = structure_in-holds (IsListed declared types) n scopes c (all-listed scopes agrees) e
