-- The declarations of a unit, in the blocks that are under way, hold what the scopes of a block declare, where the unit holds the block.
use Rattle.std.proofs.Common.{◌≡◌, ℕ, zero, suc, ◌<◌, ◌≤◌, ◌-◌, Bool, true, false, List, [], ◌∷◌, map, length, Option, Some, None, option_map, slice_get, bytes_eq, refl, sym, ap, ◌∙◌, subst, arith}
use Rattle.std.proofs.lemmas.List.Elements.{All-append, All-cons, All-head, All-nil, All-tail, All-weaker}
use Rattle.std.proofs.lemmas.Slice.Eq.{bytes_eq-Decides}
use Rattle.std.specs.Prelude.{All, drop, if◌then◌else◌}
use Rattle.ep_typed.specs.Denoters.{host_of, bare_type_of}
use Rattle.ep_typed.specs.Trees as tree
use Rattle.ep_values.specs.TypeValues.{TypeValue, bare_of}
use Rattle.ep_meaning.specs.Valid as valid
use Rattle.ep_meaning.specs.Units.{around_in, levels_of, own}
use Rattle.ep_meaning.specs.Valid.{Declarations, IsCallee, IsDeclaredUp, IsOfKind, IsPlace, in_routine}
use Rattle.ep_typed.specs.Routines.{heading_of}
use Rattle.ep_typed.specs.Auxiliaries.{block_auxiliaries, with_variables}
use Rattle.ep_typed.specs.Routines.{made_by_unit, unit_block, unit_variables}
use Rattle.ep_typed.specs.Viewed.{denoter_of}
use Rattle.ep_typed.specs.declared.interface.Formal.{Formal}
use Rattle.ep_typed.specs.declared.interface.RoutineEntry.{RoutineEntry}
use Rattle.ep_typed.specs.declared.unit.Unit.{Unit as TypedUnit}
use Rattle.ep_typed.specs.declared.value.Value.{Value}
use Rattle.ep_typed.specs.declared.unit.UnitRoutine.{UnitRoutine}
use Rattle.ep_typed.specs.declared.unit.UnitVariable.{UnitVariable}
use Rattle.ep_scope.specs.Scopes.{Entries, Region, depth_in}
use Rattle.ep_scope.specs.declared.structure.Composition.{Composition}
use Rattle.ep_scope.specs.declared.structure.Composition.TheVariants as composition
use Rattle.ep_scope.specs.declared.structure.StructuredType.{StructuredType}
use Rattle.ep_scope.specs.declared.kind.Host.{Host}
use Rattle.ep_scope.specs.declared.kind.Kind.{Kind}
use Rattle.ep_scope.specs.declared.kind.Kind.TheVariants as kind
use Rattle.ep_scope.specs.declared.parameter.FormalParameter.{FormalParameter}
use Rattle.ep_scope.specs.declared.parameter.TypeName.{TypeName}
use Rattle.ep_scope.specs.declared.parameter.WrittenType.{WrittenType}
use Rattle.ep_scope.specs.declared.thing.Declaration.{Declaration}
use Rattle.ep_scope.specs.declared.thing.Declaration.TheVariants as declaration
use Rattle.ep_scope.specs.declared.thing.Declared.{Declared}
use Rattle.ep_scope.specs.declared.thing.Thing.{Thing}
use Rattle.ep_scope.specs.declared.thing.Thing.TheVariants as thing
use Rattle.ep_expr_laws.specs.Agreement.{Agrees, AgreesBy, AreInterfaces, AreOpen, AreParameters, AreThings, Arrays, HasKind, HoldsStructure, IsConstantIn, IsConstantOf, IsDeclaration, IsDenoterOf, IsKind, IsListed, IsMadeOf, Records, Structure, IsFunctionWith, IsOfType, IsStoredIn, IsThing, structures_of}
use Rattle.ep_rules.specs.Arguments.{callee_at, callee_levels}
use Rattle.ep_rules.specs.Hosts.{typed_host}
use Rattle.ep_unit_rules.specs.Types.{type_denoter}
use Rattle.ep_check_unit.specs.Declarations.{scopes_of}
use Rattle.ep_unit_rules.specs.Formals.{formal_of}
use Rattle.ep_stmt_laws.specs.Laws.{IsResultAt, ResultsAreThere}
use Rattle.ep_unit_rules.specs.Own.{around_of}
use Rattle.ep_check_unit.specs.Blocks.{Block}
use Rattle.ep_check_unit.specs.Functions.{assigned_function, assigned_functions, function_before}
use Rattle.ep_unit_rules.specs.declared.own.Enclosing.{Enclosing}
use Rattle.ep_unit_rules.specs.declared.own.OwnResult.{OwnResult}
use Rattle.ep_unit_laws.proofs.Open.{IsOpen, around_depth}
use Rattle.ep_unit_laws.proofs.Denoting.{DenotesKind, kind_had, kind_type, set_of_kind}
use Rattle.ep_unit_laws.proofs.Holds.{HasTypeHere, Head, Holds, HoldsComposition, HoldsStructuredType, HoldsDeclaration, HoldsOwn, HoldsParameter, HoldsResultOf, HoldsResults, HoldsScopes, HoldsThing, HoldsThings, HoldsVariable, ListsKind, head_of, holds_scopes, levels_at, lists_kind_small, lists_small, name_denotes, named_tree, type_values}
use Rattle.ep_meaning.proofs.public.Lists.{get_front}

name_same : (a b : List ℕ) → a ≡ b → bytes_eq a b ≡ true
name_same a b h = grind (arith, bytes_eq-Decides)

-- the heading alone
heading_there : (rs : List UnitRoutine) (n : ℕ) (e : RoutineEntry) (around : List ℕ) → slice_get (map head_of rs) n ≡ Some (e, around) → slice_get (map heading_of rs) n ≡ Some e
heading_there [] n e around at = cc
heading_there (r ∷ rs) zero e around at = let same : head_of r ≡ (e, around) = cc in ap (λ (h : Head). Some h.0) same
heading_there (r ∷ rs) (suc n) e around at = heading_there rs n e around at

-- the levels of those around it
around_there : (all rs : List UnitRoutine) (n : ℕ) (e : RoutineEntry) (around : List ℕ) → slice_get (map head_of rs) n ≡ Some (e, around) → around_in all (slice_get rs n) ≡ levels_of all around
around_there all [] n e around at = cc
around_there all (r ∷ rs) zero e around at = let same : head_of r ≡ (e, around) = cc in ap (λ (h : Head). levels_of all h.1) same
around_there all (r ∷ rs) (suc n) e around at = around_there all rs n e around at

drop_all : {A : Type 0} (xs : List A) → drop (length xs) xs ≡ []
drop_all [] = refl
drop_all (x ∷ xs) = drop_all xs

levels_length : (rs : List UnitRoutine) (es : List Enclosing) → length (levels_at rs es) ≡ length es
levels_length rs [] = refl
levels_length rs (e ∷ es) = ap suc (levels_length rs es)

levels_drop : (rs : List UnitRoutine) (n : ℕ) (es : List Enclosing) → levels_at rs (drop n es) ≡ drop n (levels_at rs es)
levels_drop rs zero es = refl
levels_drop rs (suc n) [] = refl
levels_drop rs (suc n) (e ∷ es) = levels_drop rs n es

module _ (u : TypedUnit) where
  -- ---- type values

  -- what denotes a kind has it
  has_kind : (i : ℕ) (d : tree.Denoter) (k : Kind) (v : TypeValue) → i ≤ length u.types → IsKind k → DenotesKind u.types i d k v → HasKind (type_values u) u.types d k
  has_kind i d k v le s x = kind_had u.types (type_values u) (λ n. refl) i d k v le s x

  -- the parameters have their kinds and types
  parameters_hold : (i : ℕ) (ps : List FormalParameter) → i ≤ length u.types → All (HoldsParameter u i) ps → AreParameters (type_values u) u.types ps (map formal_of ps)
  parameters_hold i [] le x = tt
  parameters_hold i (p ∷ ps) le x =
      let y = All-head (HoldsParameter u i) p ps x in (
        record {
          mode = refl;
          has_kind = subst (λ d. HasKind (type_values u) u.types d p.kind) (sym (name_denotes p.of.name)) (has_kind i (named_tree p.of.name) p.kind y.denotes.0 le (lists_kind_small u i p.kind y.lists) y.denotes.1);
          has_type =
              ap (bare_type_of u.types) (name_denotes p.of.name)
              ∙ (kind_type u.types i (named_tree p.of.name) p.kind y.denotes.0 le y.denotes.1
              ∙ sym (kind_type u.types i (named_tree p.of.is) p.kind y.denotes.0 le y.denotes.2));
        },
        parameters_hold i ps le (All-tail (HoldsParameter u i) p ps x),
      )

  -- a denoter is one of its type and kind
  pub denoter_holds : (i : ℕ) (d : tree.Denoter) (of : TypeName) (k : Kind) → i ≤ length u.types → ListsKind u i k → HasTypeHere u i d of k → IsDenoterOf (type_values u) u.types of k d
  denoter_holds i d of k le l x = (
    has_kind i d k x.0 le (lists_kind_small u i k l) x.1,
    (
      x.0,
      kind_type u.types i (named_tree of) k x.0 le x.2,
      kind_type u.types i d k x.0 le x.1,
    ),
  )

  components_hold : (i : ℕ) (c : Composition) (s : Structure) → i ≤ length u.types → HoldsComposition u i c s → IsMadeOf (type_values u) u.types c s
  components_hold i (composition.Array a) (Arrays p) le x = (lists_small u i a.index x.index_lists, x.index.1.has_host (suc (length u.types)) (omega (arith, le)), denoter_holds i p.component a.component a.kind le x.lists x.denotes)
  components_hold i (composition.Array a) (Records ds) le x = absurd x
  components_hold i (composition.Record fs) (Arrays p) le x = absurd x
  components_hold i (composition.Record fs) (Records ds) le x = x.1

  -- a structured type, with what it is made of
  structure_holds : (i : ℕ) (s : StructuredType) → i ≤ length u.types → HoldsStructuredType u i s → HoldsStructure (type_values u) u.types s
  structure_holds i s le x = record {
    structure = x.structure;
    has_structure = x.has_structure;
    made_of = components_hold i s.composition x.structure le x.components;
    type_value = x.type_value;
    has_value = x.has_value;
    value_made = x.value_made;
  }

  structures_hold : (i : ℕ) (all : List StructuredType) → i ≤ length u.types → All (HoldsStructuredType u i) all → All (HoldsStructure (type_values u) u.types) all
  structures_hold i [] le x = All-nil (HoldsStructure (type_values u) u.types)
  structures_hold i (a ∷ more) le x =
      All-cons (HoldsStructure (type_values u) u.types) a more (structure_holds i a le (All-head (HoldsStructuredType u i) a more x)) (structures_hold i more le (All-tail (HoldsStructuredType u i) a more x))

  -- ---- places

  pub variables_own : (unit : List ℕ) (number : ℕ) → unit ≡ u.name → (own u).variables unit number ≡ slice_get (unit_variables u) number
  variables_own unit number e = ap (λ b. if b then slice_get (unit_variables u) number else None) (name_same u.name unit (sym e))

  -- one that is declared is there, before the auxiliary ones
  declared_own : (unit : List ℕ) (number : ℕ) (v : UnitVariable) → unit ≡ u.name → slice_get u.variables number ≡ Some v → (own u).variables unit number ≡ Some v
  declared_own unit number v e at =
      variables_own unit number e
      ∙ get_front (made_by_unit u) (with_variables (unit_block u)) number v (get_front u.variables (block_auxiliaries (unit_block u)) number v at)

  own_place : (es : List Enclosing) (i level number : ℕ) (of : TypeName) (h : Host) → i ≤ length u.types → HoldsOwn u es i level number of (kind.Ordinal h) → IsPlace (in_routine (levels_at u.routines es) (own u)) (typed_host h) (tree.Own (length es - level) number)
  own_place es i level number of h le x = (x.variable, x.at, x.denotes.1.has_host (suc (length u.types)) (omega (arith, le)))

  -- a variable that is held is a place of its kind, where these structured types are held
  module _ (structures : List StructuredType) (all : All (HoldsStructure (type_values u) u.types) structures) where
    variable_stored : (i number : ℕ) (unit : List ℕ) (of : TypeName) (k : Kind) → i ≤ length u.types → unit ≡ u.name → HoldsVariable u i number of k → IsStoredIn (own u) (type_values u) structures (tree.Variable unit number) k
    variable_stored i number unit of (kind.Ordinal h) le e x = (
      lists_small u i h x.lists,
      (x.variable, declared_own unit number x.variable e x.at, x.denotes.1.has_host (suc (length u.types)) (omega (arith, le))),
    )
    variable_stored i number unit of (kind.Structured n) le e x = (
      x.variable,
      declared_own unit number x.variable e x.at,
      (has_kind i (denoter_of x.variable.denoter) (kind.Structured n) x.denotes.0 le tt x.denotes.1, all),
    )
    variable_stored i number unit of (kind.Set h) le e x = (
      lists_small u i h x.lists,
      (
        x.variable,
        declared_own unit number x.variable e x.at,
        set_of_kind u.types i (denoter_of x.variable.denoter) (typed_host h) x.denotes.0 le x.denotes.1,
      ),
    )
    variable_stored i number unit of kind.EmptySet le e x = absurd x.denotes.1
    variable_stored i number unit of kind.Text le e x = absurd x.denotes.1
    variable_stored i number unit of kind.File le e x = absurd x.denotes.1

    own_stored : (es : List Enclosing) (i level number : ℕ) (of : TypeName) (k : Kind) → i ≤ length u.types → HoldsOwn u es i level number of k → IsStoredIn (in_routine (levels_at u.routines es) (own u)) (type_values u) structures (tree.Own (length es - level) number) k
    own_stored es i level number of (kind.Ordinal h) le x = (lists_small u i h x.lists, own_place es i level number of h le x)
    own_stored es i level number of (kind.Structured n) le x = (x.variable, x.at, (has_kind i (denoter_of x.variable.denoter) (kind.Structured n) x.denotes.0 le tt x.denotes.1, all))
    own_stored es i level number of (kind.Set h) le x = (lists_small u i h x.lists, (x.variable, x.at, set_of_kind u.types i (denoter_of x.variable.denoter) (typed_host h) x.denotes.0 le x.denotes.1))
    own_stored es i level number of kind.EmptySet le x = absurd x.denotes.1
    own_stored es i level number of kind.Text le x = absurd x.denotes.1
    own_stored es i level number of kind.File le x = absurd x.denotes.1

    -- a heading that is held is that of a function
    function_typed : (i : ℕ) (heading : RoutineEntry) (name : Option (List ℕ)) (of : WrittenType) (k : Kind) → i ≤ length u.types → heading.result ≡ Some (record { name = name; denoter = type_denoter of.name }) → ListsKind u i k → HasTypeHere u i (named_tree of.name) of.is k
        → IsFunctionWith (own u) (type_values u) structures u.types k heading
    function_typed i heading name of (kind.Ordinal h) le is l d = (
      record {
        result = record { name = name; denoter = type_denoter of.name };
        has_result = is;
        has_kind = ap (host_of u.types) (name_denotes of.name) ∙ d.1.has_host (suc (length u.types)) (omega (arith, le));
      },
      lists_small u i h l,
    )
    function_typed i heading name of (kind.Structured n) le is l d =
        (record { name = name; denoter = type_denoter of.name }, is, subst (λ x. HasKind (type_values u) u.types x (kind.Structured n)) (sym (name_denotes of.name)) (has_kind i (named_tree of.name) (kind.Structured n) d.0 le tt d.1), all)
    function_typed i heading name of (kind.Set h) le is l d = (
      record {
        result = record { name = name; denoter = type_denoter of.name };
        has_result = is;
        has_kind = subst (IsOfKind (valid.Set (typed_host h)) u.types) (sym (name_denotes of.name)) (set_of_kind u.types i (named_tree of.name) (typed_host h) d.0 le d.1);
      },
      lists_small u i h l,
    )
    function_typed i heading name of kind.EmptySet le is l d = absurd d.1
    function_typed i heading name of kind.Text le is l d = absurd d.1
    function_typed i heading name of kind.File le is l d = absurd d.1

  -- it has its type
  variable_typed : (i number : ℕ) (unit : List ℕ) (of : TypeName) (k : Kind) → i ≤ length u.types → unit ≡ u.name → HoldsVariable u i number of k → IsOfType (own u) (type_values u) (tree.Variable unit number) of
  variable_typed i number unit of k le e x = (
    x.denotes.0,
    kind_type u.types i (named_tree of) k x.denotes.0 le x.denotes.2,
    (x.variable, declared_own unit number x.variable e x.at, kind_type u.types i (denoter_of x.variable.denoter) k x.denotes.0 le x.denotes.1),
  )

  own_typed : (es : List Enclosing) (i level number : ℕ) (of : TypeName) (k : Kind) → i ≤ length u.types → HoldsOwn u es i level number of k → IsOfType (in_routine (levels_at u.routines es) (own u)) (type_values u) (tree.Own (length es - level) number) of
  own_typed es i level number of k le x = (
    x.denotes.0,
    kind_type u.types i (named_tree of) k x.denotes.0 le x.denotes.2,
    (x.variable, x.at, kind_type u.types i (denoter_of x.variable.denoter) k x.denotes.0 le x.denotes.1),
  )

  routines_own : (unit : List ℕ) → unit ≡ u.name → (own u).routines unit ≡ map heading_of u.routines
  routines_own unit e = ap (λ b. if b then map heading_of u.routines else []) (name_same u.name unit (sym e))

  around_own : (unit : List ℕ) (number : ℕ) → unit ≡ u.name → (own u).around unit number ≡ around_in u.routines (slice_get u.routines number)
  around_own unit number e = ap (λ b. if b then around_in u.routines (slice_get u.routines number) else []) (name_same u.name unit (sym e))

  -- a routine that is held is declared as many levels up as a call of it says
  declared_up : (es : List Enclosing) (d : Declared) (heading : RoutineEntry) → d.unit ≡ u.name → (level : ℕ) → level ≤ length es → slice_get (map head_of u.routines) d.number ≡ Some (heading, around_of (drop (length es - level) es))
      → IsDeclaredUp (in_routine (levels_at u.routines es) (own u)) (callee_at (length es) d) (callee_levels (length es) level)
  declared_up es d heading e zero le at =
      around_own d.unit d.number e
      ∙ (around_there u.routines u.routines d.number heading (around_of (drop (length es - zero) es)) at
      ∙ ap (λ fs. levels_at u.routines fs) (ap (λ n. drop n es) {x = length es - zero} {y = length es} (omega arith) ∙ drop_all es))
  declared_up es d heading e (suc level) le at = (
    e,
    subst (λ n. length es - suc level < n) (sym (levels_length u.routines es)) (omega (arith, le)),
    around_own d.unit d.number e ∙ (around_there u.routines u.routines d.number heading (around_of (drop (length es - suc level) es)) at ∙ levels_drop u.routines (length es - suc level) es),
  )

  callee_own : (es : List Enclosing) (d : Declared) (heading : RoutineEntry) → d.unit ≡ u.name → d.level ≤ length es → slice_get (map head_of u.routines) d.number ≡ Some (heading, around_of (drop (length es - d.level) es))
      → IsCallee (in_routine (levels_at u.routines es) (own u)) (callee_at (length es) d) heading
  callee_own es d heading e le at = record {
    there = ap (λ rs. slice_get rs d.number) (routines_own d.unit e) ∙ heading_there u.routines d.number heading (around_of (drop (length es - d.level) es)) at;
    declared_up = declared_up es d heading e d.level le at;
  }

-- ---- declarations hold what the scopes declare

module _ (u : TypedUnit) (es : List Enclosing) where
  -- the structured types in view
  pub structures_in_view : (i : ℕ) (rs : List Region) → i ≤ length u.types → HoldsScopes u es i rs → All (HoldsStructure (type_values u) u.types) (structures_of rs)
  structures_in_view i [] le x = All-nil (HoldsStructure (type_values u) u.types)
  structures_in_view i (r ∷ rs) le x = All-append (HoldsStructure (type_values u) u.types) r.structures (structures_of rs) (structures_hold u i r.structures le x.2) (structures_in_view i rs le x.3)

  -- in the blocks of these
  abbrev pub within : Declarations
  within = in_routine (levels_at u.routines es) (own u)

  parameters_typed : (i : ℕ) (unit : List ℕ) (ps : List FormalParameter) (formals : List Formal) → i ≤ length u.types → unit ≡ u.name → formals ≡ map formal_of ps → All (HoldsParameter u i) ps → AreParameters (type_values u) within.types ps formals
  parameters_typed i unit ps formals le e same x =
      subst (AreParameters (type_values u) u.types ps) (sym same) (parameters_hold u i ps le x)

  -- the unit lists a structured type
  structure_listed : (i : ℕ) (s : StructuredType) → i ≤ length u.types → HoldsStructuredType u i s → IsListed within (type_values u) s
  structure_listed i s le x = (x.denoter, ap (option_map bare_of) x.denoter.has_type, structure_holds u i s le x)

  module _ (structures : List StructuredType) (all : All (HoldsStructure (type_values u) u.types) structures) where
    constant_held : (k : Kind) (v : Value) → IsConstantOf (type_values u) u.types k v → IsConstantIn within (type_values u) structures k v
    constant_held (kind.Structured n) v x = (x, (u.types, all))
    constant_held (kind.Ordinal h) v x = x
    constant_held (kind.Set h) v x = x
    constant_held kind.EmptySet v x = x
    constant_held kind.Text v x = x
    constant_held kind.File v x = x

    declared_holds : (i : ℕ) (d : Declared) (what : Declaration) → i ≤ length u.types → d.unit ≡ u.name → HoldsDeclaration u es i d what → IsDeclaration within (type_values u) structures (length es) d what
    declared_holds i d (declaration.Constant k v deep) le e x = constant_held k v x.0
    declared_holds i d (declaration.«Type» of k nodes) le e x = lists_kind_small u i k x.lists
    declared_holds i d (declaration.Variable of k guarded) le e x = (variable_stored u structures all i d.number d.unit of k le e x, variable_typed u i d.number d.unit of k le e x)
    declared_holds i d (declaration.Own of k guarded) le e x = (own_stored u structures all es i d.level d.number of k le x, own_typed u es i d.level d.number of k le x)
    declared_holds i d (declaration.Procedure ps) le e x = (x.heading, callee_own u es d x.heading e x.inside x.at, x.is_procedure, parameters_typed i d.unit ps x.heading.formals le e x.formals x.parameters)
    declared_holds i d (declaration.Function ps of k) le e x = (
      x.heading,
      callee_own u es d x.heading e x.inside x.at,
      function_typed u structures all i x.heading x.name of k le x.result x.lists x.denotes,
      parameters_typed i d.unit ps x.heading.formals le e x.formals x.parameters,
    )

    thing_holds : (i : ℕ) (t : Thing) → i ≤ length u.types → HoldsThing u es i t → IsThing within (type_values u) structures (length es) t
    thing_holds i (thing.Declared d) le x = declared_holds i d d.what le x.0 x.1
    thing_holds i (thing.Standard file) le x = tt

    things_hold : (i : ℕ) (xs : Entries) → i ≤ length u.types → HoldsThings u es i xs → AreThings within (type_values u) structures (length es) xs
    things_hold i [] le x = tt
    things_hold i (y ∷ ys) le x = (thing_holds i y.1 le x.0, things_hold i ys le x.1)

    scopes_hold : (i : ℕ) (rs : List Region) → i ≤ length u.types → HoldsScopes u es i rs → AgreesBy within (type_values u) structures (length es) rs
    scopes_hold i [] le x = tt
    scopes_hold i (r ∷ rs) le x = (
      things_hold i r.entries le x.0,
      subst (AreInterfaces within (type_values u) structures (length es)) (sym x.1.0) tt,
      scopes_hold i rs le x.3,
      subst (AreOpen within (type_values u) structures (length es)) (sym x.1.1) tt,
      All-weaker (HoldsStructuredType u i) (IsListed within (type_values u)) (λ s. structure_listed i s le) r.structures x.2,
    )

  -- the variable of a result is there
  result_placed : (i level variable : ℕ) (of : TypeName) (k : Kind) → i ≤ length u.types → HoldsOwn u es i level variable of k → IsResultAt within (type_values u) k (tree.Own (length es - level) variable)
  result_placed i level variable of (kind.Ordinal h) le x = (lists_small u i h x.lists, own_place u es i level variable of h le x)
  result_placed i level variable of (kind.Structured n) le x =
      let d = x.denotes.1 in
      (x.denotes.0, (d.of_number, d.of_structure), (x.variable, x.at, (kind_type u.types i (denoter_of x.variable.denoter) (kind.Structured n) x.denotes.0 le d, d.of_structure)))
  result_placed i level variable of (kind.Set h) le x = (lists_small u i h x.lists, (x.variable, x.at, set_of_kind u.types i (denoter_of x.variable.denoter) (typed_host h) x.denotes.0 le x.denotes.1))
  result_placed i level variable of kind.EmptySet le x = tt
  result_placed i level variable of kind.Text le x = tt
  result_placed i level variable of kind.File le x = tt

  result_unless : (i : ℕ) (fs : List Enclosing) (r : OwnResult) (named : Bool) → i ≤ length u.types → HoldsOwn u es i (suc (length fs)) r.variable r.of.is r.kind → ResultsAreThere within (type_values u) (length es) (assigned_functions fs)
      → ResultsAreThere within (type_values u) (length es) (function_before (if named then None else Some (record { function = r.function; level = suc (length fs); variable = r.variable; kind = r.kind })) (assigned_functions fs))
  result_unless i fs r true le x others = others
  result_unless i fs r false le x others = (result_placed i (suc (length fs)) r.variable r.of.is r.kind le x, others)

  result_before : (i : ℕ) (fs : List Enclosing) (r : Option OwnResult) → i ≤ length u.types → HoldsResultOf u es i (suc (length fs)) r → ResultsAreThere within (type_values u) (length es) (assigned_functions fs)
      → ResultsAreThere within (type_values u) (length es) (function_before (assigned_function (suc (length fs)) r) (assigned_functions fs))
  result_before i fs None le x others = others
  result_before i fs (Some r) le x others = result_unless i fs r r.named le x others

  -- the variables of results are there
  pub results_hold : (i : ℕ) (fs : List Enclosing) → i ≤ length u.types → HoldsResults u es i fs → ResultsAreThere within (type_values u) (length es) (assigned_functions fs)
  results_hold i [] le x = tt
  results_hold i (f ∷ fs) le x = result_before i fs f.result le x.0 (results_hold i fs le x.1)

-- ---- blocks

module _ (u : TypedUnit) where
  -- so the declarations of the unit, in the blocks that are under way, hold what the scopes declare
  pub block_agrees : (i : ℕ) (b : Block) → IsOpen b → i ≤ length u.types → Holds u i b → AgreesBy (within u b.own.enclosing) (type_values u) (structures_of (scopes_of b)) (depth_in (scopes_of b)) (scopes_of b)
  block_agrees i b under le x =
      subst (λ n. AgreesBy (within u b.own.enclosing) (type_values u) (structures_of (scopes_of b)) n (scopes_of b)) (sym (around_depth b.own.enclosing (length b.routines) b.scopes.inner b.scopes.outer under.around))
      (scopes_hold u b.own.enclosing (structures_of (scopes_of b)) (structures_in_view u b.own.enclosing i (scopes_of b) le (holds_scopes u i b x)) i (scopes_of b) le (holds_scopes u i b x))

  abbrev pub holds_agrees : (i : ℕ) (b : Block) → IsOpen b → i ≤ length u.types → Holds u i b → Agrees (within u b.own.enclosing) (scopes_of b)
  holds_agrees i b under le x = (type_values u, block_agrees i b under le x)

  -- and have the results of the functions under way
  pub holds_results : (i : ℕ) (b : Block) → IsOpen b → i ≤ length u.types → Holds u i b → ResultsAreThere (within u b.own.enclosing) (type_values u) (depth_in (scopes_of b)) (assigned_functions b.own.enclosing)
  holds_results i b under le x =
      subst (λ n. ResultsAreThere (within u b.own.enclosing) (type_values u) n (assigned_functions b.own.enclosing)) (sym (around_depth b.own.enclosing (length b.routines) b.scopes.inner b.scopes.outer under.around)) (results_hold u b.own.enclosing i b.own.enclosing le x.results)
