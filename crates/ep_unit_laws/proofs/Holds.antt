-- What a unit holds of the declarations of a block: each name stands for what the unit has under its number, and what stands in the block's lists is valid in the unit.
use Rattle.std.proofs.Common.{◌≡◌, ℕ, ℤ, zero, suc, ◌<◌, ◌≤◌, ◌-◌, List, [], ◌∷◌, ◌++◌, map, length, Option, Some, None, slice_get, IsTrue, inl, inr, refl, sym, ap, ◌∙◌, subst, arith}
use Rattle.std.proofs.lemmas.List.Elements.{All-cons, All-head, All-nil, All-tail}
use Rattle.std.specs.Prelude.{All, ⊤, drop}
use Rattle.ep_typed.specs.Denoters.{ArrayParts, bare_type_of}
use Rattle.ep_typed.specs.Hosts as typed
use Rattle.ep_typed.specs.Hosts.{is_of_host}
use Rattle.ep_typed.specs.Trees as tree
use Rattle.ep_meaning.specs.Units.{IsAround, IsFormal, IsFormalBy, IsResult, first_with_in, levels_of, own, variables_in}
use Rattle.ep_meaning.specs.Valid.{IsConstant, IsDenoter, IsProcedure, IsStmt, IsType, IsVariable, Level, in_routine, variables_at}
use Rattle.ep_typed.specs.Routines.{heading_of}
use Rattle.ep_typed.specs.Viewed.{denoter_of}
use Rattle.ep_typed.specs.declared.denoter.Denoter.TheVariants as denoter
use Rattle.ep_typed.proofs.public.Forms.{required_is, named_is}
use Rattle.ep_typed.specs.declared.denoter.RequiredType.{RequiredType}
use Rattle.ep_typed.specs.declared.denoter.RequiredType.TheVariants as simple
use Rattle.ep_typed.specs.declared.interface.FormalMode.{FormalMode}
use Rattle.ep_typed.specs.declared.interface.FormalMode.TheVariants as mode
use Rattle.ep_typed.specs.declared.interface.ConstantEntry.{ConstantEntry}
use Rattle.ep_typed.specs.declared.interface.RoutineEntry.{RoutineEntry}
use Rattle.ep_typed.specs.declared.unit.Unit.{Unit as TypedUnit}
use Rattle.ep_typed.specs.declared.unit.UnitRoutine.{UnitRoutine}
use Rattle.ep_typed.specs.declared.unit.UnitType.{UnitType}
use Rattle.ep_typed.specs.declared.unit.UnitVariable.{UnitVariable}
use Rattle.ep_values.specs.TypeValues.{TypeValue}
use Rattle.ep_typed.specs.declared.value.Value.TheVariants as value
use Rattle.ep_scope.specs.Scopes.{Entries, Region, Row}
use Rattle.ep_scope.specs.declared.structure.ArrayType.{ArrayType}
use Rattle.ep_scope.specs.declared.structure.Composition.{Composition}
use Rattle.ep_scope.specs.declared.structure.Composition.TheVariants as composition
use Rattle.ep_scope.specs.declared.structure.FieldType.{FieldType}
use Rattle.ep_scope.specs.declared.structure.StructuredType.{StructuredType}
use Rattle.ep_scope.specs.declared.kind.Enumeration.{Enumeration}
use Rattle.ep_scope.specs.declared.kind.Host.{Host}
use Rattle.ep_scope.specs.declared.kind.Host.TheVariants as host
use Rattle.ep_scope.specs.declared.kind.Kind.{Kind}
use Rattle.ep_scope.specs.declared.kind.Kind.TheVariants as kind
use Rattle.ep_scope.specs.declared.parameter.FormalParameter.{FormalParameter}
use Rattle.ep_scope.specs.declared.parameter.TypeName.{TypeName}
use Rattle.ep_scope.specs.declared.parameter.TypeName.TheVariants as type_name
use Rattle.ep_scope.specs.declared.parameter.WrittenType.{WrittenType}
use Rattle.ep_scope.specs.declared.thing.Declaration.{Declaration}
use Rattle.ep_scope.specs.declared.thing.Declaration.TheVariants as declaration
use Rattle.ep_scope.specs.declared.thing.Declared.{Declared}
use Rattle.ep_scope.specs.declared.thing.Thing.{Thing}
use Rattle.ep_scope.specs.declared.thing.Thing.TheVariants as thing
use Rattle.ep_expr_laws.specs.Agreement.{AreFields, Arrays, HasStructure, IsConstantOf, IsHost, IsKind, IsValueMadeOf, Records, Structure, TypeValues}
use Rattle.ep_rules.specs.Hosts.{typed_host}
use Rattle.ep_expr_laws.specs.Origins.{IsKnownHost, IsKnownKind, IsRequiredHost, HasHost, DeclaresHost, ThingHasHost, CompositionHasHost, FieldsHaveHost, StructuresHaveHost, EntriesHaveHost, InterfacesHaveHost, RecordsHaveHost, ScopesHaveHost}
use Rattle.ep_unit_rules.specs.Types.{host_denoter, type_denoter}
use Rattle.ep_check_unit.specs.Declarations.{scopes_of}
use Rattle.ep_unit_rules.specs.Formals.{formal_of}
use Rattle.ep_unit_rules.specs.Own.{around_of}
use Rattle.ep_check_unit.specs.Blocks.{Block, RoutineForm}
use Rattle.ep_unit_rules.specs.declared.own.Enclosing.{Enclosing}
use Rattle.ep_unit_rules.specs.declared.own.OwnResult.{OwnResult}
use Rattle.ep_unit_rules.specs.declared.own.OwnVariables.{OwnVariables}
use Rattle.ep_unit_laws.proofs.Open.{AreUnderWay}
use Rattle.ep_unit_laws.proofs.Denoting.{Denotes, DenotesKind, IsSmall, bare_takes, full_type, denotes_more, denotes_required, kind_bare, kind_has_values, kind_more, kind_valid}

-- ---- denoters as plain data

-- a type by its name, as plain data
abbrev pub named_tree : TypeName → tree.Denoter
named_tree (type_name.Required r) = tree.Required r
named_tree (type_name.Entry number) = tree.Named number []

pub name_denotes : (t : TypeName) → denoter_of (type_denoter t) ≡ named_tree t
name_denotes (type_name.Required r) = required_is r
name_denotes (type_name.Entry number) = named_is number []

-- ---- routines by their headings

-- the heading of a routine, and the routines around it
abbrev pub Head : Type 0
Head = RoutineEntry × List ℕ

abbrev pub head_of : UnitRoutine → Head
head_of r = (heading_of r, r.around)

-- the routine itself
pub routine_there : (rs : List UnitRoutine) (n : ℕ) (e : RoutineEntry) (around : List ℕ) → slice_get (map head_of rs) n ≡ Some (e, around) → (r : UnitRoutine) × (slice_get rs n ≡ Some r) × (r.around ≡ around)
routine_there [] n e around at = cc
routine_there (r ∷ rs) zero e around at = let same : head_of r ≡ (e, around) = cc in (r, refl, ap (λ (h : Head). h.1) same)
routine_there (r ∷ rs) (suc n) e around at = routine_there rs n e around at

-- a block has no interface, and no record is open where things are declared
abbrev pub IsPlain : Region → Type 0
IsPlain r = (r.qualified ≡ []) × (r.records ≡ [])

-- ---- levels

-- the variables of the innermost routine
abbrev pub innermost : List Level → List UnitVariable
innermost levels = variables_at (slice_get levels 0)

minus_self : (n : ℕ) → n - n ≡ 0
minus_self n = omega arith

-- what stands at a level stays where one more routine is around code
deeper : {A : Type 0} (x : A) (xs : List A) (n level : ℕ) → level ≤ n → slice_get (x ∷ xs) (suc n - level) ≡ slice_get xs (n - level)
deeper x xs n level le = ap (slice_get (x ∷ xs)) {x = suc n - level} {y = suc (n - level)} (omega (arith, le))

deeper_around : {A : Type 0} (x : A) (xs : List A) (level : ℕ) → level ≤ length xs → drop (suc (length xs) - level) (x ∷ xs) ≡ drop (length xs - level) xs
deeper_around x xs level le = ap (λ n. drop n (x ∷ xs)) {x = suc (length xs) - level} {y = suc (length xs - level)} (omega (arith, le))

-- the levels of the routines whose blocks code is in
abbrev pub levels_at : List UnitRoutine → List Enclosing → List Level
levels_at rs es = levels_of rs (around_of es)

module _ (u : TypedUnit) where
  -- ---- hosts

  -- the enumeration is the type of its number among the first types of the unit
  pub record ListsEnumeration (i : ℕ) (e : Enumeration) : Type 0 where
    pub denotes : Denotes u.types i (tree.Named e.number []) (typed.Enumeration e.last) (full_type (typed.Enumeration e.last))
    pub small : IsSmall (typed.Enumeration e.last)

  -- the host is required, or such an enumeration
  abbrev pub Lists : ℕ → Host → Type 0
  Lists i host.Integer = ⊤
  Lists i host.Char = ⊤
  Lists i host.Boolean = ⊤
  Lists i (host.Enumeration e) = ListsEnumeration i e

  -- among more types
  pub lists_more : (i j : ℕ) (h : Host) → i ≤ j → Lists i h → Lists j h
  lists_more i j host.Integer le l = tt
  lists_more i j host.Char le l = tt
  lists_more i j host.Boolean le l = tt
  lists_more i j (host.Enumeration e) le l =
      record { denotes = denotes_more u.types i j (tree.Named e.number []) (typed.Enumeration e.last) (full_type (typed.Enumeration e.last)) le l.denotes; small = l.small }

  -- its numbers are integers
  pub lists_small : (i : ℕ) (h : Host) → Lists i h → IsHost h
  lists_small i host.Integer l = refl
  lists_small i host.Char l = refl
  lists_small i host.Boolean l = refl
  lists_small i (host.Enumeration e) l = l.small

  -- a kind whose host is listed
  abbrev pub ListsKind : ℕ → Kind → Type 0
  ListsKind i (kind.Ordinal h) = Lists i h
  ListsKind i (kind.Structured n) = ⊤
  ListsKind i (kind.Set h) = Lists i h
  ListsKind i kind.EmptySet = ⊤
  ListsKind i kind.Text = ⊤
  ListsKind i kind.File = ⊤

  pub lists_kind_more : (i j : ℕ) (k : Kind) → i ≤ j → ListsKind i k → ListsKind j k
  lists_kind_more i j (kind.Ordinal h) le l = lists_more i j h le l
  lists_kind_more i j (kind.Structured n) le l = tt
  lists_kind_more i j (kind.Set h) le l = lists_more i j h le l
  lists_kind_more i j kind.EmptySet le l = tt
  lists_kind_more i j kind.Text le l = tt
  lists_kind_more i j kind.File le l = tt

  pub lists_kind_small : (i : ℕ) (k : Kind) → ListsKind i k → IsKind k
  lists_kind_small i (kind.Ordinal h) l = lists_small i h l
  lists_kind_small i (kind.Structured n) l = tt
  lists_kind_small i (kind.Set h) l = lists_small i h l
  lists_kind_small i kind.EmptySet l = tt
  lists_kind_small i kind.Text l = tt
  lists_kind_small i kind.File l = tt

  -- the denoter has the kind
  abbrev pub HasKindHere : ℕ → tree.Denoter → Kind → Type 0
  HasKindHere i d k = (v : TypeValue) × DenotesKind u.types i d k v

  -- so has the type of this name, and its type value has the bare form that that of the denoter has
  abbrev pub HasTypeHere : ℕ → tree.Denoter → TypeName → Kind → Type 0
  HasTypeHere i d of k = (v : TypeValue) × DenotesKind u.types i d k v × DenotesKind u.types i (named_tree of) k v

  pub required_lists : (i : ℕ) (r : RequiredType) (h : typed.Host) → Denotes u.types 0 (tree.Required r) h (full_type h) → Denotes u.types i (denoter_of (denoter.Required r)) h (full_type h)
  required_lists i r h d = subst (λ x. Denotes u.types i x h (full_type h)) (sym (required_is r)) (denotes_more u.types 0 i (tree.Required r) h (full_type h) (omega arith) d)

  -- the denoter of a host has all its values
  pub host_denotes : (i : ℕ) (h : Host) → Lists i h → Denotes u.types i (denoter_of (host_denoter h)) (typed_host h) (full_type (typed_host h))
  host_denotes i host.Integer l = required_lists i simple.Integer typed.Integer (denotes_required u.types simple.Integer)
  host_denotes i host.Char l = required_lists i simple.Char typed.Char (denotes_required u.types simple.Char)
  host_denotes i host.Boolean l = required_lists i simple.Boolean typed.Boolean (denotes_required u.types simple.Boolean)
  host_denotes i (host.Enumeration e) l =
      subst (λ d. Denotes u.types i d (typed.Enumeration e.last) (full_type (typed.Enumeration e.last))) (sym (named_is e.number [])) l.denotes

  -- a constant of a host is valid
  pub constant_valid : (i : ℕ) (name : List ℕ) (h : Host) (z : ℤ) → i ≤ length u.types → Lists i h → IsTrue (is_of_host (typed_host h) z)
      → IsConstant u.types (record { name = name; denoter = host_denoter h; value = value.Word z })
  constant_valid i name h z le l s = record {
    kind = kind_has_values u.types i (denoter_of (host_denoter h)) (kind.Ordinal h) (full_type (typed_host h)) le (host_denotes i h l);
    value = bare_takes u.types i (denoter_of (host_denoter h)) (full_type (typed_host h)) (kind_bare u.types i (denoter_of (host_denoter h)) (kind.Ordinal h) (full_type (typed_host h)) (host_denotes i h l)) (value.Word z) s;
  }

  -- ---- things

  -- the type of this number has the kind, and is this type
  pub record HoldsType (i number : ℕ) (of : TypeName) (k : Kind) : Type 0 where
    pub lists : ListsKind i k
    pub before : number < i
    pub denotes : HasTypeHere i (tree.Named number []) of k

  -- the variable of this number has this type
  pub record HoldsVariable (i number : ℕ) (of : TypeName) (k : Kind) : Type 0 where
    pub lists : ListsKind i k
    pub variable : UnitVariable
    pub at : slice_get u.variables number ≡ Some variable
    pub denotes : HasTypeHere i (denoter_of variable.denoter) of k

  -- so has that of the routine of this level, in code of these blocks
  pub record HoldsOwn (es : List Enclosing) (i level number : ℕ) (of : TypeName) (k : Kind) : Type 0 where
    pub lists : ListsKind i k
    pub inside : level ≤ length es
    pub variable : UnitVariable
    pub at : slice_get (variables_at (slice_get (levels_at u.routines es) (length es - level))) number ≡ Some variable
    pub denotes : HasTypeHere i (denoter_of variable.denoter) of k

  -- a formal parameter has a type
  pub record HoldsParameter (i : ℕ) (p : FormalParameter) : Type 0 where
    pub lists : ListsKind i p.kind
    pub denotes : HasTypeHere i (named_tree p.of.name) p.of.is p.kind

  -- An array has an index type of its host, and components of their kind and type.
  pub record HoldsElements (i : ℕ) (a : ArrayType) (parts : ArrayParts) : Type 0 where
    pub index_lists : Lists i a.index
    pub index : HasKindHere i parts.index (kind.Ordinal a.index)
    pub lists : ListsKind i a.kind
    pub denotes : HasTypeHere i parts.component a.component a.kind

  -- the type value of each type, without initial states
  abbrev pub type_values : TypeValues
  type_values t = bare_type_of u.types (named_tree t)

  -- a record has components of the kinds and types of its fields, whose hosts are listed
  abbrev pub HoldsFields : ℕ → List FieldType → tree.Denoters → Type 0
  HoldsFields i fs ds = All (λ f. ListsKind i f.kind) fs × AreFields type_values u.types fs ds

  abbrev pub HoldsComposition : ℕ → Composition → Structure → Type 0
  HoldsComposition i (composition.Array a) (Arrays p) = HoldsElements i a p
  HoldsComposition i (composition.Record fs) (Records ds) = HoldsFields i fs ds
  HoldsComposition i c s = ⊥

  -- the structured type is made so under its number, where the list has a valid type, and so is its type value
  pub record HoldsStructuredType (i : ℕ) (s : StructuredType) : Type 0 where
    pub structure : Structure
    pub has_structure : HasStructure u.types (tree.Named s.number []) structure
    pub denoter : IsDenoter u.types (tree.Named s.number [])
    pub components : HoldsComposition i s.composition structure
    pub type_value : TypeValue
    pub has_value : bare_type_of u.types (tree.Named s.number []) ≡ Some type_value
    pub value_made : IsValueMadeOf type_values s.composition type_value

  -- In code of these blocks, the routine of this number and level is a procedure with these formal parameters.
  pub record HoldsProcedure (es : List Enclosing) (i level number : ℕ) (ps : List FormalParameter) : Type 0 where
    pub inside : level ≤ length es
    pub heading : RoutineEntry
    pub at : slice_get (map head_of u.routines) number ≡ Some (heading, around_of (drop (length es - level) es))
    pub is_procedure : IsProcedure heading
    pub formals : heading.formals ≡ map formal_of ps
    pub parameters : All (HoldsParameter i) ps

  -- Alike a function, whose result has this type.
  pub record HoldsFunction (es : List Enclosing) (i level number : ℕ) (ps : List FormalParameter) (of : WrittenType) (k : Kind) : Type 0 where
    pub inside : level ≤ length es
    pub heading : RoutineEntry
    pub at : slice_get (map head_of u.routines) number ≡ Some (heading, around_of (drop (length es - level) es))
    pub name : Option (List ℕ)
    pub result : heading.result ≡ Some (record { name = name; denoter = type_denoter of.name })
    pub formals : heading.formals ≡ map formal_of ps
    pub parameters : All (HoldsParameter i) ps
    pub lists : ListsKind i k
    pub denotes : HasTypeHere i (named_tree of.name) of.is k

  -- The formal parameters, the result and the variables of the routine of this number are valid, the routines around it are those it is declared in, and what it does is valid with the variables that the unit gives to all of them.
  pub record HoldsRoutine (number : ℕ) (r : RoutineForm) : Type 0 where
    pub result : IsResult u.types r.result
    pub around : IsAround u.routines number r.around
    pub formals : All (IsFormal u.types) r.formals
    pub variables : All (IsVariable u.types) r.variables
    pub block : IsStmt (in_routine (levels_of u.routines (number ∷ r.around)) (own u)) r.block

  -- each of these, by its place
  abbrev pub HoldsRoutines : List RoutineForm → Type 0
  HoldsRoutines rs = (number : ℕ) (r : RoutineForm) → slice_get rs number ≡ Some r → HoldsRoutine number r

  -- the result of the function under way has a type, and its variable comes behind these formal parameters
  pub record HoldsOwnResult (i : ℕ) (ps : List FormalParameter) (r : OwnResult) : Type 0 where
    pub lists : ListsKind i r.kind
    pub denotes : HasTypeHere i (named_tree r.of.name) r.of.is r.kind
    pub variable : r.variable ≡ length ps

  abbrev pub HoldsResult : ℕ → List FormalParameter → Option OwnResult → Type 0
  HoldsResult i ps None = ⊤
  HoldsResult i ps (Some r) = HoldsOwnResult i ps r

  -- each routine under way has its heading, and those around it
  abbrev pub AreHeaded : List Enclosing → Type 0
  AreHeaded [] = ⊤
  AreHeaded (e ∷ es) = ((heading : RoutineEntry) × (slice_get (map head_of u.routines) e.number ≡ Some (heading, around_of es))) × AreHeaded es

  -- so the routines around one that is declared there are those
  pub headed_around : (es : List Enclosing) (count : ℕ) (bodies : List ℕ) → AreUnderWay es count bodies → AreHeaded es → IsAround u.routines count (around_of es)
  headed_around [] count bodies x y = tt
  headed_around (e ∷ es) count bodies x y = (x.0.below, routine_there u.routines e.number y.0.0 (around_of es) y.0.1)

  -- the variable that has the result of a function, whose variables have this level
  abbrev pub HoldsResultOf : List Enclosing → ℕ → ℕ → Option OwnResult → Type 0
  HoldsResultOf es i level None = ⊤
  HoldsResultOf es i level (Some r) = HoldsOwn es i level r.variable r.of.is r.kind

  -- those of the functions under way, in code of these blocks
  abbrev pub HoldsResults : List Enclosing → ℕ → List Enclosing → Type 0
  HoldsResults es i [] = ⊤
  HoldsResults es i (f ∷ fs) = HoldsResultOf es i (suc (length fs)) f.result × HoldsResults es i fs

  pub has_type_more : (i j : ℕ) (d : tree.Denoter) (of : TypeName) (k : Kind) → i ≤ j → HasTypeHere i d of k → HasTypeHere j d of k
  has_type_more i j d of k le x = (x.0, kind_more u.types i j d k x.0 le x.1, kind_more u.types i j (named_tree of) k x.0 le x.2)

  parameter_more : (i j : ℕ) (p : FormalParameter) → i ≤ j → HoldsParameter i p → HoldsParameter j p
  parameter_more i j p le x = record { lists = lists_kind_more i j p.kind le x.lists; denotes = has_type_more i j (named_tree p.of.name) p.of.is p.kind le x.denotes }

  pub parameters_more : (i j : ℕ) (ps : List FormalParameter) → i ≤ j → All (HoldsParameter i) ps → All (HoldsParameter j) ps
  parameters_more i j [] le x = All-nil (HoldsParameter j)
  parameters_more i j (p ∷ ps) le x = All-cons (HoldsParameter j) p ps (parameter_more i j p le (All-head (HoldsParameter i) p ps x)) (parameters_more i j ps le (All-tail (HoldsParameter i) p ps x))

  procedure_more : (es : List Enclosing) (i j level number : ℕ) (ps : List FormalParameter) → i ≤ j → HoldsProcedure es i level number ps → HoldsProcedure es j level number ps
  procedure_more es i j level number ps le x = record { inside = x.inside; heading = x.heading; at = x.at; is_procedure = x.is_procedure; formals = x.formals; parameters = parameters_more i j ps le x.parameters }

  has_kind_more : (i j : ℕ) (d : tree.Denoter) (k : Kind) → i ≤ j → HasKindHere i d k → HasKindHere j d k
  has_kind_more i j d k le x = (x.0, kind_more u.types i j d k x.0 le x.1)

  elements_more : (i j : ℕ) (a : ArrayType) (p : ArrayParts) → i ≤ j → HoldsElements i a p → HoldsElements j a p
  elements_more i j a p le x = record {
    index_lists = lists_more i j a.index le x.index_lists;
    index = has_kind_more i j p.index (kind.Ordinal a.index) le x.index;
    lists = lists_kind_more i j a.kind le x.lists;
    denotes = has_type_more i j p.component a.component a.kind le x.denotes;
  }

  pub all_lists_more : (i j : ℕ) (fs : List FieldType) → i ≤ j → All (λ f. ListsKind i f.kind) fs → All (λ f. ListsKind j f.kind) fs
  all_lists_more i j [] le x = All-nil (λ f. ListsKind j f.kind)
  all_lists_more i j (f ∷ fs) le x =
      All-cons (λ f. ListsKind j f.kind) f fs (lists_kind_more i j f.kind le (All-head (λ f. ListsKind i f.kind) f fs x)) (all_lists_more i j fs le (All-tail (λ f. ListsKind i f.kind) f fs x))

  components_more : (i j : ℕ) (c : Composition) (s : Structure) → i ≤ j → HoldsComposition i c s → HoldsComposition j c s
  components_more i j (composition.Array a) (Arrays p) le x = elements_more i j a p le x
  components_more i j (composition.Array a) (Records ds) le x = absurd x
  components_more i j (composition.Record fs) (Arrays p) le x = absurd x
  components_more i j (composition.Record fs) (Records ds) le x = (all_lists_more i j fs le x.0, x.1)

  structure_more : (i j : ℕ) (s : StructuredType) → i ≤ j → HoldsStructuredType i s → HoldsStructuredType j s
  structure_more i j s le x = record { structure = x.structure; has_structure = x.has_structure; denoter = x.denoter; components = components_more i j s.composition x.structure le x.components; type_value = x.type_value; has_value = x.has_value; value_made = x.value_made }

  pub structures_more : (i j : ℕ) (all : List StructuredType) → i ≤ j → All (HoldsStructuredType i) all → All (HoldsStructuredType j) all
  structures_more i j [] le x = All-nil (HoldsStructuredType j)
  structures_more i j (a ∷ more) le x = All-cons (HoldsStructuredType j) a more (structure_more i j a le (All-head (HoldsStructuredType i) a more x)) (structures_more i j more le (All-tail (HoldsStructuredType i) a more x))

  own_more : (es : List Enclosing) (i j level number : ℕ) (of : TypeName) (k : Kind) → i ≤ j → HoldsOwn es i level number of k → HoldsOwn es j level number of k
  own_more es i j level number of k le x = record { lists = lists_kind_more i j k le x.lists; inside = x.inside; variable = x.variable; at = x.at; denotes = has_type_more i j (denoter_of x.variable.denoter) of k le x.denotes }

  function_more : (es : List Enclosing) (i j level number : ℕ) (ps : List FormalParameter) (of : WrittenType) (k : Kind) → i ≤ j → HoldsFunction es i level number ps of k → HoldsFunction es j level number ps of k
  function_more es i j level number ps of k le x = record {
    inside = x.inside;
    heading = x.heading;
    at = x.at;
    name = x.name;
    result = x.result;
    formals = x.formals;
    parameters = parameters_more i j ps le x.parameters;
    lists = lists_kind_more i j k le x.lists;
    denotes = has_type_more i j (named_tree of.name) of.is k le x.denotes;
  }

  pub result_more : (i j : ℕ) (ps : List FormalParameter) (r : Option OwnResult) → i ≤ j → HoldsResult i ps r → HoldsResult j ps r
  result_more i j ps None le x = tt
  result_more i j ps (Some r) le x = record { lists = lists_kind_more i j r.kind le x.lists; denotes = has_type_more i j (named_tree r.of.name) r.of.is r.kind le x.denotes; variable = x.variable }

  result_of_more : (es : List Enclosing) (i j level : ℕ) (r : Option OwnResult) → i ≤ j → HoldsResultOf es i level r → HoldsResultOf es j level r
  result_of_more es i j level None le x = tt
  result_of_more es i j level (Some r) le x = own_more es i j level r.variable r.of.is r.kind le x

  results_more : (es : List Enclosing) (i j : ℕ) (fs : List Enclosing) → i ≤ j → HoldsResults es i fs → HoldsResults es j fs
  results_more es i j [] le x = tt
  results_more es i j (f ∷ fs) le x = (result_of_more es i j (suc (length fs)) f.result le x.0, results_more es i j fs le x.1)

  -- ---- in the block of one more routine

  own_deeper : (e : Enclosing) (es : List Enclosing) (i level number : ℕ) (of : TypeName) (k : Kind) → HoldsOwn es i level number of k → HoldsOwn (e ∷ es) i level number of k
  own_deeper e es i level number of k x = record {
    lists = x.lists;
    inside = omega (arith, x.inside);
    variable = x.variable;
    at = ap (λ l. slice_get (variables_at l) number) (deeper (record { number = e.number; variables = variables_in (slice_get u.routines e.number); first_with = first_with_in (slice_get u.routines e.number) }) (levels_at u.routines es) (length es) level x.inside) ∙ x.at;
    denotes = x.denotes;
  }

  procedure_deeper : (e : Enclosing) (es : List Enclosing) (i level number : ℕ) (ps : List FormalParameter) → HoldsProcedure es i level number ps → HoldsProcedure (e ∷ es) i level number ps
  procedure_deeper e es i level number ps x = record {
    inside = omega (arith, x.inside);
    heading = x.heading;
    at = x.at ∙ ap (λ fs. Some (x.heading, around_of fs)) (sym (deeper_around e es level x.inside));
    is_procedure = x.is_procedure;
    formals = x.formals;
    parameters = x.parameters;
  }

  function_deeper : (e : Enclosing) (es : List Enclosing) (i level number : ℕ) (ps : List FormalParameter) (of : WrittenType) (k : Kind) → HoldsFunction es i level number ps of k → HoldsFunction (e ∷ es) i level number ps of k
  function_deeper e es i level number ps of k x = record {
    inside = omega (arith, x.inside);
    heading = x.heading;
    at = x.at ∙ ap (λ fs. Some (x.heading, around_of fs)) (sym (deeper_around e es level x.inside));
    name = x.name;
    result = x.result;
    formals = x.formals;
    parameters = x.parameters;
    lists = x.lists;
    denotes = x.denotes;
  }

  result_of_deeper : (e : Enclosing) (es : List Enclosing) (i level : ℕ) (r : Option OwnResult) → HoldsResultOf es i level r → HoldsResultOf (e ∷ es) i level r
  result_of_deeper e es i level None x = tt
  result_of_deeper e es i level (Some r) x = own_deeper e es i level r.variable r.of.is r.kind x

  pub results_deeper : (e : Enclosing) (es : List Enclosing) (i : ℕ) (fs : List Enclosing) → HoldsResults es i fs → HoldsResults (e ∷ es) i fs
  results_deeper e es i [] x = tt
  results_deeper e es i (f ∷ fs) x = (result_of_deeper e es i (suc (length fs)) f.result x.0, results_deeper e es i fs x.1)

  -- a variable of the innermost routine
  pub own_innermost : (es : List Enclosing) (i number : ℕ) (of : TypeName) (k : Kind) (v : UnitVariable) → ListsKind i k → slice_get (innermost (levels_at u.routines es)) number ≡ Some v → HasTypeHere i (denoter_of v.denoter) of k → HoldsOwn es i (length es) number of k
  own_innermost es i number of k v l at d = record {
    lists = l;
    inside = omega arith;
    variable = v;
    at = subst (λ up. slice_get (variables_at (slice_get (levels_at u.routines es) up)) number ≡ Some v) (sym (minus_self (length es))) at;
    denotes = d;
  }

  -- what is declared in the innermost block is declared in the routines under way
  pub around_innermost : (es : List Enclosing) (level : ℕ) → level ≡ length es → around_of (drop (length es - level) es) ≡ around_of es
  around_innermost es level e = ap (λ k. around_of (drop k es)) {x = length es - level} {y = 0} (omega (arith, e))

  -- a type may be that of a parameter
  given_by : (i : ℕ) (m : FormalMode) (k : Kind) (d : tree.Denoter) (v : TypeValue) → i ≤ length u.types → DenotesKind u.types i d k v → IsFormalBy m u.types d
  given_by i mode.Value k d v le x = kind_has_values u.types i d k v le x
  given_by i mode.ProtectedValue k d v le x = kind_has_values u.types i d k v le x
  given_by i mode.Variable k d v le x = kind_valid u.types i d k v le x
  given_by i mode.ProtectedVariable k d v le x = kind_valid u.types i d k v le x

  -- a formal parameter that has a type is valid
  formal_valid : (i : ℕ) (p : FormalParameter) → i ≤ length u.types → HoldsParameter i p → IsFormal u.types (formal_of p)
  formal_valid i p le x = record {
    denoter = subst (IsFormalBy p.mode u.types) (sym (name_denotes p.of.name)) (given_by i p.mode p.kind (named_tree p.of.name) x.denotes.0 le x.denotes.1);
  }

  pub formals_valid : (i : ℕ) (ps : List FormalParameter) → i ≤ length u.types → All (HoldsParameter i) ps → All (IsFormal u.types) (map formal_of ps)
  formals_valid i [] le x = All-nil (IsFormal u.types)
  formals_valid i (p ∷ ps) le x =
      All-cons (IsFormal u.types) (formal_of p) (map formal_of ps) (formal_valid i p le (All-head (HoldsParameter i) p ps x)) (formals_valid i ps le (All-tail (HoldsParameter i) p ps x))

  -- ---- hosts that are known are listed

  required_listed : (i : ℕ) (h : Host) → IsRequiredHost h → Lists i h
  required_listed i host.Integer r = tt
  required_listed i host.Char r = tt
  required_listed i host.Boolean r = tt
  required_listed i (host.Enumeration e) r = absurd r

  kind_listed : (i : ℕ) (k : Kind) (h : Host) → ListsKind i k → HasHost k h → Lists i h
  kind_listed i (kind.Ordinal g) h l e = subst (Lists i) e l
  kind_listed i (kind.Structured n) h l e = absurd e
  kind_listed i (kind.Set g) h l e = subst (Lists i) e l
  kind_listed i kind.EmptySet h l e = absurd e
  kind_listed i kind.Text h l e = absurd e
  kind_listed i kind.File h l e = absurd e

  fields_listed : (i : ℕ) (fs : List FieldType) (h : Host) → All (λ f. ListsKind i f.kind) fs → FieldsHaveHost fs h → Lists i h
  fields_listed i [] h x e = absurd e
  fields_listed i (f ∷ fs) h x (inl e) = kind_listed i f.kind h (All-head (λ f. ListsKind i f.kind) f fs x) e
  fields_listed i (f ∷ fs) h x (inr e) = fields_listed i fs h (All-tail (λ f. ListsKind i f.kind) f fs x) e

  components_listed : (i : ℕ) (c : Composition) (s : Structure) (h : Host) → HoldsComposition i c s → CompositionHasHost c h → Lists i h
  components_listed i (composition.Array a) (Arrays p) h x e = kind_listed i a.kind h x.lists e
  components_listed i (composition.Array a) (Records ds) h x e = absurd x
  components_listed i (composition.Record fs) (Arrays p) h x e = absurd x
  components_listed i (composition.Record fs) (Records ds) h x e = fields_listed i fs h x.0 e

  structures_listed : (i : ℕ) (all : List StructuredType) (h : Host) → All (HoldsStructuredType i) all → StructuresHaveHost all h → Lists i h
  structures_listed i [] h x e = absurd e
  structures_listed i (a ∷ more) h x (inl e) = let s = All-head (HoldsStructuredType i) a more x in components_listed i a.composition s.structure h s.components e
  structures_listed i (a ∷ more) h x (inr e) = structures_listed i more h (All-tail (HoldsStructuredType i) a more x) e

-- ---- what scopes declare, for code of these blocks

module _ (u : TypedUnit) (es : List Enclosing) where
  abbrev pub HoldsDeclaration : ℕ → Declared → Declaration → Type 0
  HoldsDeclaration i d (declaration.Constant k v deep) = IsConstantOf (type_values u) u.types k v × ListsKind u i k
  HoldsDeclaration i d (declaration.«Type» of k nodes) = HoldsType u i d.number of k
  HoldsDeclaration i d (declaration.Variable of k guarded) = HoldsVariable u i d.number of k
  HoldsDeclaration i d (declaration.Own of k guarded) = HoldsOwn u es i d.level d.number of k
  HoldsDeclaration i d (declaration.Procedure ps) = HoldsProcedure u es i d.level d.number ps
  HoldsDeclaration i d (declaration.Function ps of k) = HoldsFunction u es i d.level d.number ps of k

  abbrev pub HoldsThing : ℕ → Thing → Type 0
  HoldsThing i (thing.Declared d) = (d.unit ≡ u.name) × HoldsDeclaration i d d.what
  HoldsThing i (thing.Standard file) = ⊤

  abbrev pub HoldsThings : ℕ → Entries → Type 0
  HoldsThings i [] = ⊤
  HoldsThings i (x ∷ xs) = HoldsThing i x.1 × HoldsThings i xs

  -- the names and structured types of scopes of blocks
  abbrev pub HoldsScopes : ℕ → List Region → Type 0
  HoldsScopes i [] = ⊤
  HoldsScopes i (r ∷ rs) = HoldsThings i r.entries × IsPlain r × All (HoldsStructuredType u i) r.structures × HoldsScopes i rs

  -- ---- among more types

  declaration_more : (i j : ℕ) (d : Declared) (what : Declaration) → i ≤ j → HoldsDeclaration i d what → HoldsDeclaration j d what
  declaration_more i j d (declaration.Constant k v deep) le x = (x.0, lists_kind_more u i j k le x.1)
  declaration_more i j d (declaration.«Type» of k nodes) le x = record { lists = lists_kind_more u i j k le x.lists; before = omega (arith, le, x.before); denotes = has_type_more u i j (tree.Named d.number []) of k le x.denotes }
  declaration_more i j d (declaration.Variable of k guarded) le x = record { lists = lists_kind_more u i j k le x.lists; variable = x.variable; at = x.at; denotes = has_type_more u i j (denoter_of x.variable.denoter) of k le x.denotes }
  declaration_more i j d (declaration.Own of k guarded) le x = own_more u es i j d.level d.number of k le x
  declaration_more i j d (declaration.Procedure ps) le x = procedure_more u es i j d.level d.number ps le x
  declaration_more i j d (declaration.Function ps of k) le x = function_more u es i j d.level d.number ps of k le x

  thing_more : (i j : ℕ) (t : Thing) → i ≤ j → HoldsThing i t → HoldsThing j t
  thing_more i j (thing.Declared d) le x = (x.0, declaration_more i j d d.what le x.1)
  thing_more i j (thing.Standard file) le x = tt

  things_more : (i j : ℕ) (xs : Entries) → i ≤ j → HoldsThings i xs → HoldsThings j xs
  things_more i j [] le x = tt
  things_more i j (y ∷ ys) le x = (thing_more i j y.1 le x.0, things_more i j ys le x.1)

  scopes_more : (i j : ℕ) (rs : List Region) → i ≤ j → HoldsScopes i rs → HoldsScopes j rs
  scopes_more i j [] le x = tt
  scopes_more i j (r ∷ rs) le x = (things_more i j r.entries le x.0, x.1, structures_more u i j r.structures le x.2, scopes_more i j rs le x.3)

  -- one thing more
  pub things_push : (i : ℕ) (xs : Entries) (name : List ℕ) (t : Thing) → HoldsThings i xs → HoldsThing i t → HoldsThings i (xs ++ (name, t) ∷ [])
  things_push i [] name t x y = (y, tt)
  things_push i (z ∷ zs) name t x y = (x.0, things_push i zs name t x.1 y)

  -- ---- hosts that are known are listed

  declaration_listed : (i : ℕ) (d : Declared) (what : Declaration) (h : Host) → HoldsDeclaration i d what → DeclaresHost what h → Lists u i h
  declaration_listed i d (declaration.Constant k v deep) h x e = kind_listed u i k h x.1 e
  declaration_listed i d (declaration.«Type» of k nodes) h x e = kind_listed u i k h x.lists e
  declaration_listed i d (declaration.Variable of k guarded) h x e = kind_listed u i k h x.lists e
  declaration_listed i d (declaration.Own of k guarded) h x e = kind_listed u i k h x.lists e
  declaration_listed i d (declaration.Procedure ps) h x e = absurd e
  declaration_listed i d (declaration.Function ps of k) h x e = kind_listed u i k h x.lists e

  thing_listed : (i : ℕ) (t : Thing) (h : Host) → HoldsThing i t → ThingHasHost t h → Lists u i h
  thing_listed i (thing.Declared d) h x e = declaration_listed i d d.what h x.1 e
  thing_listed i (thing.Standard file) h x e = absurd e

  things_listed : (i : ℕ) (xs : Entries) (h : Host) → HoldsThings i xs → EntriesHaveHost xs h → Lists u i h
  things_listed i [] h x e = absurd e
  things_listed i (f ∷ fs) h x (inl e) = thing_listed i f.1 h x.0 e
  things_listed i (f ∷ fs) h x (inr e) = things_listed i fs h x.1 e

  scopes_listed : (i : ℕ) (rs : List Region) (h : Host) → HoldsScopes i rs → ScopesHaveHost rs h → Lists u i h
  scopes_listed i [] h x e = absurd e
  scopes_listed i (r ∷ rs) h x (inl e) = things_listed i r.entries h x.0 e
  scopes_listed i (r ∷ rs) h x (inr (inl e)) = absurd (subst (λ q. InterfacesHaveHost q h) x.1.0 e)
  scopes_listed i (r ∷ rs) h x (inr (inr (inl e))) = structures_listed u i r.structures h x.2 e
  scopes_listed i (r ∷ rs) h x (inr (inr (inr (inl e)))) = scopes_listed i rs h x.3 e
  scopes_listed i (r ∷ rs) h x (inr (inr (inr (inr e)))) = absurd (subst (λ q. RecordsHaveHost q h) x.1.1 e)

-- ---- what holds around a routine holds in it too

module _ (u : TypedUnit) (e : Enclosing) (es : List Enclosing) where
  declaration_deeper : (i : ℕ) (d : Declared) (what : Declaration) → HoldsDeclaration u es i d what → HoldsDeclaration u (e ∷ es) i d what
  declaration_deeper i d (declaration.Constant k v deep) x = x
  declaration_deeper i d (declaration.«Type» of k nodes) x = x
  declaration_deeper i d (declaration.Variable of k guarded) x = x
  declaration_deeper i d (declaration.Own of k guarded) x = own_deeper u e es i d.level d.number of k x
  declaration_deeper i d (declaration.Procedure ps) x = procedure_deeper u e es i d.level d.number ps x
  declaration_deeper i d (declaration.Function ps of k) x = function_deeper u e es i d.level d.number ps of k x

  thing_deeper : (i : ℕ) (t : Thing) → HoldsThing u es i t → HoldsThing u (e ∷ es) i t
  thing_deeper i (thing.Declared d) x = (x.0, declaration_deeper i d d.what x.1)
  thing_deeper i (thing.Standard file) x = tt

  things_deeper : (i : ℕ) (xs : Entries) → HoldsThings u es i xs → HoldsThings u (e ∷ es) i xs
  things_deeper i [] x = tt
  things_deeper i (y ∷ ys) x = (thing_deeper i y.1 x.0, things_deeper i ys x.1)

  pub scopes_deeper : (i : ℕ) (rs : List Region) → HoldsScopes u es i rs → HoldsScopes u (e ∷ es) i rs
  scopes_deeper i [] x = tt
  scopes_deeper i (r ∷ rs) x = (things_deeper i r.entries x.0, x.1, x.2, scopes_deeper i rs x.3)

-- ---- blocks

module _ (u : TypedUnit) where
  -- the names in view and the structured types, in code of these blocks, where the first i types of the unit are there
  pub record HoldsNames (es : List Enclosing) (i : ℕ) (s : Row) : Type 0 where
    pub things : HoldsThings u es i s.inner.entries
    pub plain : IsPlain s.inner
    pub structures : All (HoldsStructuredType u i) s.inner.structures
    pub outer : HoldsScopes u es i s.outer

  -- the lists of a block
  pub record HoldsLists (ts : List UnitType) (cs : List ConstantEntry) (vs : List UnitVariable) : Type 0 where
    pub types : All (IsType u.types) ts
    pub constants : All (IsConstant u.types) cs
    pub variables : All (IsVariable u.types) vs

  -- the routine whose block is under way, and those around it
  pub record HoldsUnderWay (i : ℕ) (r : OwnVariables) : Type 0 where
    pub parameters : All (HoldsParameter u i) r.parameters
    pub result : HoldsResult u i r.parameters r.result
    pub owned : All (IsVariable u.types) r.variables
    pub headed : AreHeaded u r.enclosing
    pub results : HoldsResults u r.enclosing i r.enclosing

  -- The block's names and lists, where its types are the first i ones of the unit.
  pub record Holds (i : ℕ) (b : Block) : Type 0 where
    pub unit : b.unit ≡ u.name
    pub names : HoldsNames b.own.enclosing i b.scopes
    pub open names use *
    pub lists : HoldsLists b.types b.constants b.variables
    pub open lists use *
    pub under_way : HoldsUnderWay i b.own
    pub open under_way use *
    pub routines : HoldsRoutines u b.routines

  pub holds_more : (i j : ℕ) (b : Block) → i ≤ j → Holds i b → Holds j b
  holds_more i j b le x = record {
    unit = x.unit;
    names = record {
      things = things_more u b.own.enclosing i j b.scopes.inner.entries le x.things;
      plain = x.plain;
      structures = structures_more u i j b.scopes.inner.structures le x.structures;
      outer = scopes_more u b.own.enclosing i j b.scopes.outer le x.outer;
    };
    lists = x.lists;
    under_way = record {
      parameters = parameters_more u i j b.own.parameters le x.parameters;
      result = result_more u i j b.own.parameters b.own.result le x.result;
      owned = x.owned;
      headed = x.headed;
      results = results_more u b.own.enclosing i j b.own.enclosing le x.results;
    };
    routines = x.routines;
  }

  -- the scopes in view
  pub holds_scopes : (i : ℕ) (b : Block) → Holds i b → HoldsScopes u b.own.enclosing i (scopes_of b)
  holds_scopes i b x = (x.things, x.plain, x.structures, x.outer)

  host_listed : (i : ℕ) (b : Block) (h : Host) → Holds i b → IsKnownHost (scopes_of b) h → Lists u i h
  host_listed i b h x (inl r) = required_listed u i h r
  host_listed i b h x (inr e) = scopes_listed u b.own.enclosing i (scopes_of b) h (holds_scopes i b x) e

  -- the kind of an expression in the block
  pub known_listed : (i : ℕ) (b : Block) (k : Kind) → Holds i b → IsKnownKind (scopes_of b) k → ListsKind u i k
  known_listed i b (kind.Ordinal h) x e = host_listed i b h x e
  known_listed i b (kind.Structured n) x e = tt
  known_listed i b (kind.Set h) x e = host_listed i b h x e
  known_listed i b kind.EmptySet x e = tt
  known_listed i b kind.Text x e = tt
  known_listed i b kind.File x e = tt
