-- Declarations that hold what scopes declare, under which typed forms are valid.
use Rattle.std.specs.Prelude.{◌≡◌, ℕ, pos, Bool, true, All, List, [], ◌∷◌, ◌++◌, Option, Some, None, IsTrue, int_le, ⊤}
use Rattle.std.specs.Prelude.{ℤ}
use Rattle.ep_typed.specs.Denoters.{ArrayParts, array_of, base_of, denoter_at, host_of, record_of, bare_type_of}
use Rattle.ep_typed.specs.Hosts.{greatest, is_of_host, least}
use Rattle.ep_typed.specs.Hosts as typed
use Rattle.ep_values.specs.Operations.{maxint}
use Rattle.ep_values.specs.Sets.{IsSet, are_between}
use Rattle.ep_typed.specs.Selections.{variant_number}
use Rattle.ep_typed.specs.Trees as tree
use Rattle.ep_typed.specs.Trees.{Denoter, Denoters, Named, Record, no_denoter, next_denoter, Callee, Place, Variable}
use Rattle.ep_typed.specs.Trees.{Field, entire, Expr, Constant, Text, Read, One, Two, Short, Step, Function}
use Rattle.ep_typed.specs.Trees.{IndexedValue, FieldValue, VariantValue, SetConstant, SetOf, OnSets, Card, Actual}
use Rattle.ep_typed.specs.Trees.{actuals}
use Rattle.ep_meaning.specs.Valid.{Declarations, AreGiven, IsCallee, IsDenoter, IsFunction, IsOfKind, IsPlace}
use Rattle.ep_meaning.specs.Valid.{IsPlaceWhere, IsExpr, IsProcedure, IsSelection, IsSetOf, IsStartFor, IsStructured}
use Rattle.ep_meaning.specs.Valid.{IsTagged, IsTypeOf, IsVariableOf, tag_type}
use Rattle.ep_meaning.specs.Valid as valid
use Rattle.ep_typed.specs.Viewed.{constant_expr, denoter_of}
use Rattle.ep_typed.specs.declared.interface.Formal.{Formal}
use Rattle.ep_typed.specs.declared.interface.RoutineEntry.{RoutineEntry}
use Rattle.ep_typed.specs.declared.interface.RoutineResult.{RoutineResult}
use Rattle.ep_typed.specs.declared.tree.Selection.{Selection}
use Rattle.ep_typed.specs.declared.unit.UnitType.{UnitType}
use Rattle.ep_values.specs.TypeValues.{ComponentTypes, TypeValue, bare_of, type_among}
use Rattle.ep_values.specs.TypeValues as type
use Rattle.ep_typed.specs.declared.value.Value.{Value}
use Rattle.ep_typed.specs.declared.value.Value.TheVariants as value
use Rattle.ep_scope.specs.Scopes.{Entries, OpenRecord, Region, depth_in}
use Rattle.ep_scope.specs.declared.kind.Host.{Host}
use Rattle.ep_scope.specs.declared.kind.Kind.{Kind}
use Rattle.ep_scope.specs.declared.kind.Kind.TheVariants as kind
use Rattle.ep_scope.specs.declared.parameter.FormalParameter.{FormalParameter}
use Rattle.ep_scope.specs.declared.parameter.TypeName.{TypeName}
use Rattle.ep_scope.specs.declared.parameter.TypeName.TheVariants as type_name
use Rattle.ep_scope.specs.declared.structure.ArrayType.{ArrayType}
use Rattle.ep_scope.specs.declared.structure.Composition.{Composition}
use Rattle.ep_scope.specs.declared.structure.Composition.TheVariants as composition
use Rattle.ep_scope.specs.declared.structure.FieldType.{FieldType}
use Rattle.ep_scope.specs.declared.structure.StructuredType.{StructuredType}
use Rattle.ep_scope.specs.declared.structure.TagType.{TagType}
use Rattle.ep_scope.specs.declared.structure.VariantStep.{VariantStep}
use Rattle.ep_scope.specs.declared.thing.Declaration.{Declaration}
use Rattle.ep_scope.specs.declared.thing.Declaration.TheVariants as declaration
use Rattle.ep_scope.specs.declared.thing.Declared.{Declared}
use Rattle.ep_scope.specs.declared.thing.Thing.{Thing}
use Rattle.ep_scope.specs.declared.thing.Thing.TheVariants as thing
use Rattle.ep_rules.specs.declared.access.Access.{Access}
use Rattle.ep_rules.specs.declared.access.Access.TheVariants as access
use Rattle.ep_rules.specs.Arguments.{Taken, callee_at, own_place}
use Rattle.ep_rules.specs.FieldDesignators.{along, reached}
use Rattle.ep_rules.specs.Hosts.{typed_host}
use Rattle.ep_rules.specs.Judgements.{Typed}
use Rattle.ep_check_expr.specs.declared.constants.ConstantForm.{ConstantForm}

-- the ordinal numbers of the host are integers
abbrev pub IsHost : Host → Type 0
IsHost h = IsTrue (int_le (greatest (typed_host h)) (pos maxint))

-- those of the host of the kind are, where it has one
abbrev pub IsKind : Kind → Type 0
IsKind (kind.Ordinal h) = IsHost h
IsKind (kind.Structured n) = ⊤
IsKind (kind.Set h) = IsHost h
IsKind kind.EmptySet = ⊤
IsKind kind.Text = ⊤
IsKind kind.File = ⊤

-- these are the members of a set over the host
abbrev pub IsSetOver : typed.Host → List ℕ → Type 0
IsSetOver h ms = IsSet ms × IsTrue (are_between (least h) (greatest h) ms)

-- a read file is its place, and of no ordinal type
abbrev pub IsFile : Expr → Type 0
IsFile (Constant z) = ⊥
IsFile (Text bytes) = ⊥
IsFile (Read place) = ⊤
IsFile (One operation x) = ⊥
IsFile (Two operation x y) = ⊥
IsFile (Short operation x y) = ⊥
IsFile (Step down low high x y) = ⊥
IsFile (Function callee given) = ⊥
IsFile (IndexedValue array index) = ⊥
IsFile (FieldValue whole number) = ⊥
IsFile (VariantValue whole selection number) = ⊥
IsFile (tree.Structured number es) = ⊥
IsFile (SetConstant members) = ⊥
IsFile (SetOf members) = ⊥
IsFile (OnSets operation x y) = ⊥
IsFile (Card x) = ⊥

-- the type value of each type, where it has one
abbrev pub TypeValues : Type 0
TypeValues = TypeName → Option TypeValue

-- ---- kinds of denoters, under the list of types in which they name
-- what the denoter of a structured type is made of
pub data Structure : Type 0 where
  Arrays : (parts : ArrayParts) → Structure
  Records : (components : Denoters) → Structure

-- the denoter is made of this
abbrev pub HasStructure : List UnitType → Denoter → Structure → Type 0
HasStructure list d (Arrays p) = array_of list d ≡ Some p
HasStructure list d (Records ds) = record_of list d ≡ Some ds

-- the denoter is that of the structured type of this number
abbrev pub IsStructuredDenoter : List UnitType → Denoter → ℕ → Type 0
IsStructuredDenoter list d n = (s : Structure) × HasStructure list d s × HasStructure list (Named n []) s

-- each type by its number has one type value: that of the structured type of this number
abbrev pub IsValueOf : TypeValues → ℕ → TypeValue → Type 0
IsValueOf types n t = (types (type_name.Entry n) ≡ Some t) × IsStructured t

-- Under a list of types the constant is of its kind: that of the empty set is one over each host, and what an array or
-- a record
-- is given may begin the one type value of its type.
abbrev pub IsConstantOf : TypeValues → List UnitType → Kind → Value → Type 0
IsConstantOf types list (kind.Ordinal h) (value.Word z) = IsHost h × IsTrue (is_of_host (typed_host h) z)
IsConstantOf types list (kind.Structured n) (value.Structured of es) =
    (t : TypeValue) × IsValueOf types n t × IsStartFor list t (constant_expr (value.Structured of es))
IsConstantOf types list (kind.Set h) (value.Set ms) = IsHost h × IsSetOver (typed_host h) ms
IsConstantOf types list kind.EmptySet (value.Set ms) = (h : typed.Host) → IsSetOver h ms
IsConstantOf types list kind.Text (value.Text bytes) = ⊤
IsConstantOf types list _ _ = ⊥

-- so is one that is built, and what stands for one that is not, but for arrays and records
abbrev pub IsConstantIf : Bool → TypeValues → List UnitType → Kind → Value → Type 0
IsConstantIf built types list (kind.Structured n) v = built ≡ true → IsConstantOf types list (kind.Structured n) v
IsConstantIf built types list k v = IsConstantOf types list k v

-- the denoter is one of the kind; none is of a string type or of a file type so far
abbrev pub HasKind : TypeValues → List UnitType → Denoter → Kind → Type 0
HasKind types list d (kind.Ordinal h) = IsHost h × (host_of list d ≡ Some (typed_host h))
HasKind types list d (kind.Structured n) =
    IsStructuredDenoter list d n × ((t : TypeValue) × IsValueOf types n t × (bare_type_of list d ≡ Some t))
HasKind types list d (kind.Set h) =
    IsHost h × ((base : Denoter) × (base_of list d ≡ Some base) × (host_of list base ≡ Some (typed_host h)))
HasKind types list d kind.EmptySet = ⊥
HasKind types list d kind.Text = ⊥
HasKind types list d kind.File = ⊥

-- ---- type values of structured types
-- the components are those of a record whose variants a tag of an ordinal type selects so
abbrev pub HasTagValue : Selection → ComponentTypes → Type 0
HasTagValue s ts =
    (h : typed.Host) × (low high : ℤ) × IsTypeOf h (type.Ordinal low high)
    × (type_among ts s.tag ≡ Some (tag_type low high))

-- this holds of the components of the variant to which these steps lead from a record with these components
abbrev pub IsValueAlong : (ComponentTypes → Type 0) → List VariantStep → ComponentTypes → Type 0
IsValueAlong Holds [] ts = Holds ts
IsValueAlong Holds (s ∷ path) ts =
    HasTagValue s.selection ts × (inner : ComponentTypes)
    × (type_among ts (variant_number s.selection s.variant) ≡ Some (type.Record inner)) × IsValueAlong Holds path inner

module _ (types : TypeValues) where
  -- the type value is one of the kind; none is of a string type or of a file type so far
  abbrev pub IsValueOfKind : Kind → TypeValue → Type 0
  IsValueOfKind (kind.Ordinal h) t = IsHost h × IsTypeOf (typed_host h) t
  IsValueOfKind (kind.Structured n) t = IsValueOf types n t
  IsValueOfKind (kind.Set h) t = IsHost h × IsSetOf (typed_host h) t
  IsValueOfKind kind.EmptySet t = ⊥
  IsValueOfKind kind.Text t = ⊥
  IsValueOfKind kind.File t = ⊥

  -- it is that of an array with an index type of this host and these bounds, and components of their kind
  abbrev pub IsArrayValue : ArrayType → TypeValue → Type 0
  IsArrayValue a t =
      (of : TypeValue) × (t ≡ type.Array a.low a.high of) × IsTypeOf (typed_host a.index) (type.Ordinal a.low a.high)
      × IsValueOfKind a.kind of

  -- the component of this number is of the kind; a tag is the one component of a record that has the number
  abbrev pub IsPartValue : Option TagType → ℕ → Kind → ComponentTypes → Type 0
  IsPartValue None number k ts = (t : TypeValue) × (type_among ts number ≡ Some t) × IsValueOfKind k t
  IsPartValue (Some tag) number k ts =
      (t : TypeValue) × (type_among ts number ≡ Some (type.Record (type.next_component t type.no_component)))
      × IsValueOfKind k t

  -- so is that of a field, in the variant to which its steps lead
  abbrev pub IsFieldValue : FieldType → ComponentTypes → Type 0
  IsFieldValue f ts = IsValueAlong (IsPartValue f.tag f.number f.kind) f.path ts

  -- the components are those of a record with these fields
  abbrev pub AreFieldValues : List FieldType → ComponentTypes → Type 0
  AreFieldValues fs ts = All (λ f. IsFieldValue f ts) fs

  -- the type value is made of those of the components
  abbrev pub IsValueMadeOf : Composition → TypeValue → Type 0
  IsValueMadeOf (composition.Array a) t = IsArrayValue a t
  IsValueMadeOf (composition.Record fs) t = (ts : ComponentTypes) × (t ≡ type.Record ts) × AreFieldValues fs ts

module _ (types : TypeValues) (list : List UnitType) where
  -- the denoter is one of this type and kind
  abbrev pub IsDenoterOf : TypeName → Kind → Denoter → Type 0
  IsDenoterOf of k d =
      HasKind types list d k × ((v : TypeValue) × (types of ≡ Some v) × (bare_type_of list d ≡ Some v))

  -- an array has an index type of its host, and components of their type and kind
  abbrev pub IsArrayOf : ArrayType → ArrayParts → Type 0
  IsArrayOf a p =
      IsHost a.index × (host_of list p.index ≡ Some (typed_host a.index)) × IsDenoterOf a.component a.kind p.component

  -- The components are those of a record, or of a variant, whose variants a tag with this denoter selects: its type is
  -- of the
  -- host, and has these bounds (ISO 10206, 6.4.3.4).
  abbrev pub Selects : TagType → Denoter → Denoters → Type 0
  Selects tag d ds =
      (declared : Declarations)
      → (s : IsSelection declared list ds tag.selection) × (s.tag ≡ d) × (s.host
      ≡ typed_host tag.host) × (bare_type_of list d ≡ Some (type.Ordinal tag.low tag.high))

  -- The component of this number is of the type and kind. A tag is the one component of a record that has the number,
  -- and
  -- selects the variants behind it.
  abbrev pub IsPartOf : Option TagType → ℕ → TypeName → Kind → Denoters → Type 0
  IsPartOf None number of k ds = (d : Denoter) × (denoter_at ds number ≡ Some d) × IsDenoterOf of k d
  IsPartOf (Some tag) number of k ds =
      (d : Denoter) × (denoter_at ds number ≡ Some (Record (next_denoter d no_denoter))) × IsDenoterOf of k d
      × (tag.selection.tag ≡ number) × Selects tag d ds

  -- this holds of the components of the variant to which these steps lead from a record with these components
  abbrev pub IsAlong : (Denoters → Type 0) → List VariantStep → Denoters → Type 0
  IsAlong Holds [] ds = Holds ds
  IsAlong Holds (s ∷ path) ds =
      ((declared : Declarations) → IsSelection declared list ds s.selection) × (inner : Denoters)
      × (denoter_at ds (variant_number s.selection s.variant) ≡ Some (Record inner)) × IsAlong Holds path inner

  -- a record with these components has the field
  abbrev pub IsFieldOf : Denoters → FieldType → Type 0
  IsFieldOf ds f = IsAlong (IsPartOf f.tag f.number f.of f.kind) f.path ds

  -- and all of these
  abbrev pub AreFields : List FieldType → Denoters → Type 0
  AreFields fs ds = All (IsFieldOf ds) fs

  abbrev pub IsMadeOf : Composition → Structure → Type 0
  IsMadeOf (composition.Array a) (Arrays p) = IsArrayOf a p
  IsMadeOf (composition.Record fs) (Records ds) = AreFields fs ds
  IsMadeOf _ _ = ⊥

  -- the list has the structured type under its number, and its type value is that of its components
  pub record HoldsStructure (s : StructuredType) : Type 0 where
    pub structure : Structure
    pub has_structure : HasStructure list (Named s.number []) structure
    pub made_of : IsMadeOf s.composition structure
    pub type_value : TypeValue
    pub has_value : types (type_name.Entry s.number) ≡ Some type_value
    pub value_made : IsValueMadeOf types s.composition type_value

-- some list of types holds these structured types
abbrev pub AreHeld : TypeValues → List StructuredType → Type 0
AreHeld types structures = (list : List UnitType) × All (HoldsStructure types list) structures

-- In the list of types of the unit in whose code it is named, the structured type is valid under its number, with the
-- one type
-- value that it has without initial states, and the list holds it.
abbrev pub IsListed : Declarations → TypeValues → StructuredType → Type 0
IsListed declared types s =
    (d : IsDenoter declared.types (Named s.number []))
    × (types (type_name.Entry s.number) ≡ Some (bare_of d.type_value))
    × HoldsStructure types declared.types s

-- the structured types of the scopes in view
abbrev pub structures_of : List Region → List StructuredType
structures_of [] = []
structures_of (r ∷ rs) = r.structures ++ structures_of rs

-- ---- formal parameters
-- a formal parameter of a routine, of a unit with this list of types, as its scope says it
pub record IsParameter (types : TypeValues) (list : List UnitType) (p : FormalParameter) (f : Formal) : Type 0 where
  pub mode : f.mode ≡ p.mode
  pub has_kind : HasKind types list (denoter_of f.denoter) p.kind
  pub has_type : bare_type_of list (denoter_of f.denoter) ≡ types p.of.is

-- one for each, in order
abbrev pub AreParameters : TypeValues → List UnitType → List FormalParameter → List Formal → Type 0
AreParameters types list [] [] = ⊤
AreParameters types list (p ∷ ps) (f ∷ fs) = IsParameter types list p f × AreParameters types list ps fs
AreParameters types list ps fs = ⊥

module _ (declared : Declarations) where
  -- what is given is valid for these formal parameters of a unit with this list of types, where it is built
  abbrev pub AreActuals : List UnitType → List Formal → Option (List Actual) → Type 0
  AreActuals list fs None = ⊤
  AreActuals list fs (Some given) = AreGiven declared list fs (actuals given)

-- where each type has one type value wherever it is named, and these structured types are in view
module _ (declared : Declarations) (types : TypeValues) (structures : List StructuredType) where
  -- the place is that of a variable of the structured type of this number, under a list of types that holds the
  -- structured types
  abbrev pub IsStructuredAt : ℕ → Place → Type 0
  IsStructuredAt n place =
      IsPlaceWhere declared
      (λ list d. HasKind types list d (kind.Structured n) × All (HoldsStructure types list) structures) place

  -- the place is that of a variable that is declared, with a type of this kind; there are no variables of string types
  -- so far
  abbrev pub IsStoredIn : Place → Kind → Type 0
  IsStoredIn place (kind.Ordinal h) = IsHost h × IsPlace declared (typed_host h) place
  IsStoredIn place (kind.Structured n) = IsStructuredAt n place
  IsStoredIn place (kind.Set h) = IsHost h × IsPlaceWhere declared (IsOfKind (valid.Set (typed_host h))) place
  IsStoredIn place kind.EmptySet = ⊥
  IsStoredIn place kind.Text = ⊥
  IsStoredIn place kind.File = ⊤

  -- The expression is one of the type value of this number, with the structured types in view.
  abbrev pub IsStructuredValue : ℕ → Expr → Type 0
  IsStructuredValue n x =
      ((t : TypeValue) × IsValueOf types n t × IsExpr declared (valid.Structured t) x) × AreHeld types structures

  -- The expression has a value of the structured type of this number: it is read of a variable of that type, or a
  -- function is called whose result is of that type, or it is a component of that type of such a value.
  abbrev pub IsStructuredForm : ℕ → Expr → Type 0
  IsStructuredForm n (Constant z) = ⊥
  IsStructuredForm n (Text bytes) = ⊥
  IsStructuredForm n (Read place) = IsStructuredAt n place
  IsStructuredForm n (One operation x) = ⊥
  IsStructuredForm n (Two operation x y) = ⊥
  IsStructuredForm n (Short operation x y) = ⊥
  IsStructuredForm n (Step down low high x y) = ⊥
  IsStructuredForm n (Function callee given) = IsStructuredValue n (Function callee given)
  IsStructuredForm n (IndexedValue array index) = IsStructuredValue n (IndexedValue array index)
  IsStructuredForm n (FieldValue whole number) = IsStructuredValue n (FieldValue whole number)
  IsStructuredForm n (VariantValue whole selection number) = IsStructuredValue n (VariantValue whole selection number)
  IsStructuredForm n (tree.Structured number es) = IsStructuredValue n (tree.Structured number es)
  IsStructuredForm n (SetConstant members) = ⊥
  IsStructuredForm n (SetOf members) = ⊥
  IsStructuredForm n (OnSets operation x y) = ⊥
  IsStructuredForm n (Card x) = ⊥

  -- the form is a valid expression of the kind; the empty set is one over each host
  abbrev pub IsFormOf : Kind → Option Expr → Type 0
  IsFormOf (kind.Ordinal h) None = IsHost h
  IsFormOf (kind.Ordinal h) (Some x) = IsHost h × IsExpr declared (valid.Ordinal (typed_host h)) x
  IsFormOf (kind.Structured n) None = AreHeld types structures
  IsFormOf (kind.Structured n) (Some x) = IsStructuredForm n x
  IsFormOf (kind.Set h) None = IsHost h
  IsFormOf (kind.Set h) (Some x) = IsHost h × IsExpr declared (valid.Set (typed_host h)) x
  IsFormOf kind.EmptySet None = ⊤
  IsFormOf kind.EmptySet (Some x) = (h : typed.Host) → IsExpr declared (valid.Set h) x
  IsFormOf kind.Text None = ⊤
  IsFormOf kind.Text (Some x) = IsExpr declared valid.Bytes x
  IsFormOf kind.File None = ⊥
  IsFormOf kind.File (Some x) = IsFile x

module _ (declared : Declarations) (types : TypeValues) where
  -- the variable at the place has this type
  abbrev pub IsOfType : Place → TypeName → Type 0
  IsOfType place t = (v : TypeValue) × (types t ≡ Some v) × IsVariableOf declared v place

  -- the place is that of a record whose variants the tag selects
  abbrev pub IsTaggedBy : TagType → Place → Type 0
  IsTaggedBy tag place =
      IsPlaceWhere declared (IsTagged declared (typed_host tag.host) tag.low tag.high tag.selection) place

  -- where there is one
  abbrev pub IsTaggedIf : Option TagType → Place → Type 0
  IsTaggedIf None place = ⊤
  IsTaggedIf (Some tag) place = IsTaggedBy tag place

  -- what is a variable of this type is read of its place, where it is built, and a tag of that of its record
  abbrev pub IsAccessOf : Access → Option Expr → Type 0
  IsAccessOf (access.Variable of guarded) None = ⊤
  IsAccessOf (access.Variable of guarded) (Some x) = (place : Place) × (x ≡ Read place) × IsOfType place of
  IsAccessOf (access.Tag of guarded tag) None = ⊤
  IsAccessOf (access.Tag of guarded tag) (Some x) =
      (whole : Place) × (number : ℕ) × (x ≡ Read (Field (Field whole number) 0))
      × IsOfType (Field (Field whole number) 0) of × IsTaggedBy tag whole
  IsAccessOf access.File form = ⊤
  IsAccessOf access.Constant form = ⊤
  IsAccessOf access.Value form = ⊤

  -- a procedure with these formal parameters is called so
  abbrev pub IsProcedureOf : Callee → List FormalParameter → Type 0
  IsProcedureOf callee ps =
      (r : RoutineEntry) × IsCallee declared callee r × IsProcedure r
      × AreParameters types declared.types ps r.formals

module _ (declared : Declarations) (types : TypeValues) (structures : List StructuredType) where
  -- The heading of a function whose result is of this kind, in a unit with this list of types, which holds the
  -- structured types where it is structured. None is of a string type or of a file type so far.
  abbrev pub IsFunctionWith : List UnitType → Kind → RoutineEntry → Type 0
  IsFunctionWith list (kind.Ordinal h) r = IsFunction list (valid.Ordinal (typed_host h)) r × IsHost h
  IsFunctionWith list (kind.Structured n) r =
      (result : RoutineResult) × (r.result ≡ Some result)
      × HasKind types list (denoter_of result.denoter) (kind.Structured n) × All (HoldsStructure types list) structures
  IsFunctionWith list (kind.Set h) r = IsFunction list (valid.Set (typed_host h)) r × IsHost h
  IsFunctionWith list kind.EmptySet r = ⊥
  IsFunctionWith list kind.Text r = ⊥
  IsFunctionWith list kind.File r = ⊥

  -- a function with these formal parameters and a result of this kind is called so
  abbrev pub IsFunctionOf : Callee → List FormalParameter → Kind → Type 0
  IsFunctionOf callee ps k =
      (r : RoutineEntry) × IsCallee declared callee r × IsFunctionWith declared.types k r
      × AreParameters types declared.types ps r.formals

  -- a constant is of its kind, and where that is structured, some list of types holds the structured types in view
  abbrev pub IsConstantIn : Kind → Value → Type 0
  IsConstantIn (kind.Structured n) v =
      IsConstantOf types declared.types (kind.Structured n) v × AreHeld types structures
  IsConstantIn k v = IsConstantOf types declared.types k v

-- for code that so many routines are around
module _ (declared : Declarations) (types : TypeValues) (structures : List StructuredType) (depth : ℕ) where
  abbrev pub IsDeclaration : Declared → Declaration → Type 0
  IsDeclaration d (declaration.Constant kind value deep) = IsConstantIn declared types structures kind value
  IsDeclaration d (declaration.«Type» of kind nodes) = IsKind kind
  IsDeclaration d (declaration.Variable of kind guarded) =
      IsStoredIn declared types structures (Variable d.unit d.number) kind
      × IsOfType declared types (Variable d.unit d.number) of
  IsDeclaration d (declaration.Own of kind guarded) =
      IsStoredIn declared types structures (own_place depth d) kind × IsOfType declared types (own_place depth d) of
  IsDeclaration d (declaration.Procedure parameters) = IsProcedureOf declared types (callee_at depth d) parameters
  IsDeclaration d (declaration.Function parameters of kind) =
      IsFunctionOf declared types structures (callee_at depth d) parameters kind

  -- a record at this place has a field of its type and kind, and where that is a tag, it selects the variants
  abbrev pub IsFieldAt : FieldType → Place → Type 0
  IsFieldAt f whole =
      IsStoredIn declared types structures (reached f whole) f.kind × IsOfType declared types (reached f whole) f.of
      × IsTaggedIf declared types f.tag (along f.path whole)

  abbrev pub IsThing : Thing → Type 0
  IsThing (thing.Declared d) = IsDeclaration d d.what
  IsThing (thing.Standard file) = ⊤

  abbrev pub AreThings : Entries → Type 0
  AreThings [] = ⊤
  AreThings (e ∷ es) = IsThing e.1 × AreThings es

  abbrev pub AreInterfaces : List (List ℕ × Entries) → Type 0
  AreInterfaces [] = ⊤
  AreInterfaces (e ∷ es) = AreThings e.1 × AreInterfaces es

  -- the variable that stands for an open record has its fields
  abbrev pub IsOpen : OpenRecord → Type 0
  IsOpen r = All (λ f. IsFieldAt f (entire r.variable)) r.fields

  abbrev pub AreOpen : List OpenRecord → Type 0
  AreOpen [] = ⊤
  AreOpen (r ∷ rs) = IsOpen r × AreOpen rs

  -- the declarations hold all that the scopes declare, and list their structured types
  abbrev pub AgreesBy : List Region → Type 0
  AgreesBy [] = ⊤
  AgreesBy (r ∷ rs) =
      AreThings r.entries × AreInterfaces r.qualified × AgreesBy rs × AreOpen r.records
      × All (IsListed declared types) r.structures

-- alike, where each type has one type value wherever it is named
abbrev pub Agrees : Declarations → List Region → Type 0
Agrees declared scopes = (types : TypeValues) × AgreesBy declared types (structures_of scopes) (depth_in scopes) scopes

-- under all declarations that hold what the scopes declare, the typed form is valid
abbrev pub IsSound : List Region → Typed → Type 0
IsSound scopes t =
    (declared : Declarations) (types : TypeValues)
    → AgreesBy declared types (structures_of scopes) (depth_in scopes) scopes
    → IsFormOf declared types (structures_of scopes) t.kind t.form

-- alike, what is a variable is read of the place of a variable of its type
abbrev pub IsSoundAccess : List Region → Typed → Type 0
IsSoundAccess scopes t =
    (declared : Declarations) (types : TypeValues)
    → AgreesBy declared types (structures_of scopes) (depth_in scopes) scopes
    → IsAccessOf declared types t.access t.form

-- alike, what is given is valid for the formal parameters of each routine that has these
abbrev pub IsSoundTaken : List Region → List FormalParameter → Taken → Type 0
IsSoundTaken scopes ps t =
    (declared : Declarations) (types : TypeValues)
    → AgreesBy declared types (structures_of scopes) (depth_in scopes) scopes
    → (list : List UnitType) (fs : List Formal) → AreParameters types list ps fs
    → AreActuals declared list fs t.actuals

-- under all declarations that hold what the scopes declare, where each type has one type value, the constant is of its
-- kind
abbrev pub IsSoundConstant : List Region → ConstantForm → Type 0
IsSoundConstant scopes c =
    (declared : Declarations) (types : TypeValues)
    → AgreesBy declared types (structures_of scopes) (depth_in scopes) scopes
    → IsConstantIf c.built types declared.types c.kind c.value
