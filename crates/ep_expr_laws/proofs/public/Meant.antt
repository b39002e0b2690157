-- What names stand for is valid under declarations that hold what the scopes declare.
use Rattle.std.proofs.Common.{◌≡◌, ℕ, Bool, true, false, List, [], ◌∷◌, Option, Some, None, slice_get, map, refl}
use Rattle.std.specs.Prelude.{⊤, if◌then◌else◌}
use Rattle.std.specs.Str.{bytes_eq}
use Rattle.ep_meaning.specs.Valid.{Declarations}
use Rattle.ep_typed.specs.declared.value.Value.{Value}
use Rattle.ep_typed.specs.declared.value.Value.TheVariants as value
use Rattle.ep_typed.specs.Hosts as hosts
use Rattle.ep_typed.specs.Trees.{Place, Read, Variable, elements, entire}
use Rattle.ep_typed.specs.Viewed.{constant_expr, element_of}
use Rattle.ep_expr_laws.proofs.Starts.{start-structured}
use Rattle.ep_scope.specs.Fields.{field_number}
use Rattle.ep_scope.specs.Required.{look_up, required_of}
use Rattle.ep_scope.specs.Scopes.{Entries, OpenField, OpenRecord, Region, Meant, Declares, Requires, FieldOf, Nothing, field_among, field_at, field_if, field_of, field_or, meant, meant_in, or_field, unless_field, look_up_in, look_up_if, as_thing, as_required, or_outside, unless_hidden}
use Rattle.ep_scope.specs.Scopes as meaning
use Rattle.ep_scope.specs.declared.structure.FieldType.{FieldType}
use Rattle.ep_scope.specs.declared.structure.StructuredType.{StructuredType}
use Rattle.ep_scope.specs.declared.kind.Kind.{Kind}
use Rattle.ep_scope.specs.declared.kind.Kind.TheVariants as kind
use Rattle.ep_scope.specs.declared.required.Required.{Required}
use Rattle.ep_scope.specs.declared.required.Required.TheVariants as required
use Rattle.ep_scope.specs.declared.required.RequiredConstant.TheVariants as constant
use Rattle.ep_scope.specs.declared.thing.Declaration.{Declaration}
use Rattle.ep_scope.specs.declared.thing.Declaration.TheVariants as declaration
use Rattle.ep_scope.specs.declared.thing.Declared.{Declared}
use Rattle.ep_scope.specs.declared.thing.Thing.{Thing}
use Rattle.ep_scope.specs.declared.thing.Thing.TheVariants as thing
use Rattle.ep_expr_laws.specs.Agreement.{IsConstantIn, IsStoredIn, IsDeclaration, IsFieldAt, IsOpen, IsThing, AreThings, AreInterfaces, AreOpen, AgreesBy, TypeValues, IsFormOf}
use Rattle.ep_rules.specs.Arguments.{callee_at, own_place}
use Rattle.ep_rules.specs.FieldDesignators.{along}
use Rattle.ep_rules.specs.Hosts.{typed_host}
use Rattle.ep_rules.specs.Names.{call_declared, field_place, value_declared, value_required, value_named}
use Rattle.ep_rules.specs.Functions.{Given}
use Rattle.ep_rules.specs.Judgements.{Judged, Typed}
use Rattle.ep_expr_laws.proofs.FieldPlaces.{all_there, read-access}
use Rattle.ep_expr_laws.proofs.public.Passing.{IsForm, function_called-fits}
use Rattle.ep_check_expr.proofs.public.Keeping.{AreGiven, IsCalled, Satisfies}

module _ (declared : Declarations) (types : TypeValues) (structures : List StructuredType) (depth : ℕ) where
  -- what is found is declared
  abbrev IsThingIf : Option Thing → Type 0
  IsThingIf None = ⊤
  IsThingIf (Some t) = IsThing declared types structures depth t

  -- what is meant is declared
  abbrev pub IsMeant : Meant → Type 0
  IsMeant (Declares d) = IsDeclaration declared types structures depth d d.what
  IsMeant (meaning.Standard file) = ⊤
  IsMeant (Requires r) = ⊤
  IsMeant (FieldOf f) = IsFieldAt declared types structures depth f.field (entire f.variable)
  IsMeant Nothing = ⊤

  -- a field of an open record is a variable
  abbrev IsFieldIf : Option OpenField → Type 0
  IsFieldIf None = ⊤
  IsFieldIf (Some f) = IsMeant (FieldOf f)

  field_if-meant : (r : OpenRecord) (number : ℕ) (o : Option FieldType) → slice_get r.fields number ≡ o → IsOpen declared types structures depth r → IsFieldIf (field_if r o)
  field_if-meant r number None e h = tt
  field_if-meant r number (Some f) e h = all_there (λ (g : FieldType). IsFieldAt declared types structures depth g (entire r.variable)) r.fields number f h e

  field_at-meant : (r : OpenRecord) (o : Option ℕ) → IsOpen declared types structures depth r → IsFieldIf (field_at r o)
  field_at-meant r None h = tt
  field_at-meant r (Some number) h = field_if-meant r number (slice_get r.fields number) refl h

  field_or-meant : (f g : Option OpenField) → IsFieldIf f → IsFieldIf g → IsFieldIf (field_or f g)
  field_or-meant None g p q = q
  field_or-meant (Some f) g p q = p

  field_among-meant : (rs : List OpenRecord) (name : List ℕ) → AreOpen declared types structures depth rs → IsFieldIf (field_among rs name)
  field_among-meant [] name h = tt
  field_among-meant (r ∷ rs) name h = field_or-meant (field_of r name) (field_among rs name) (field_at-meant r (field_number r.fields name) h.0) (field_among-meant rs name h.1)

  or_field-meant : (o : Option OpenField) (m : Meant) → IsFieldIf o → IsMeant m → IsMeant (or_field o m)
  or_field-meant None m p q = q
  or_field-meant (Some f) m p q = p

  unless_field-meant : (o : Option OpenField) (m : Meant) → IsMeant m → IsMeant (unless_field o m)
  unless_field-meant None m q = q
  unless_field-meant (Some f) m q = tt

  found-thing : (b : Bool) (t : Thing) (o : Option Thing) → IsThing declared types structures depth t → IsThingIf o → IsThingIf (if b then Some t else o)
  found-thing true t o h g = h
  found-thing false t o h g = g

  look_up-thing : (es : Entries) (name : List ℕ) → AreThings declared types structures depth es → IsThingIf (look_up es name)
  look_up-thing [] name h = tt
  look_up-thing (e ∷ es) name h = found-thing (bytes_eq name e.0) e.1 (look_up es name) h.0 (look_up-thing es name h.1)

  -- the names of an interface that is found
  abbrev AreThingsIf : Option Entries → Type 0
  AreThingsIf None = ⊤
  AreThingsIf (Some es) = AreThings declared types structures depth es

  found-things : (b : Bool) (t : Entries) (o : Option Entries) → AreThings declared types structures depth t → AreThingsIf o → AreThingsIf (if b then Some t else o)
  found-things true t o h g = h
  found-things false t o h g = g

  look_up-things : (es : List (List ℕ × Entries)) (name : List ℕ) → AreInterfaces declared types structures depth es → AreThingsIf (look_up es name)
  look_up-things [] name h = tt
  look_up-things (e ∷ es) name h = found-things (bytes_eq name e.0) e.1 (look_up es name) h.0 (look_up-things es name h.1)

  look_up_if-thing : (o : Option Entries) (name : List ℕ) → AreThingsIf o → IsThingIf (look_up_if o name)
  look_up_if-thing None name h = tt
  look_up_if-thing (Some es) name h = look_up-thing es name h

  as_thing-meant : (t : Thing) → IsThing declared types structures depth t → IsMeant (as_thing t)
  as_thing-meant (thing.Declared d) h = h
  as_thing-meant (thing.Standard file) h = tt

  or_outside-meant : (o : Option Thing) (m : Meant) → IsThingIf o → IsMeant m → IsMeant (or_outside o m)
  or_outside-meant None m h g = g
  or_outside-meant (Some t) m h g = as_thing-meant t h

  as_required-meant : (o : Option Required) → IsMeant (as_required o)
  as_required-meant None = tt
  as_required-meant (Some r) = tt

  unless_hidden-meant : (o : Option Thing) (m : Meant) → IsMeant m → IsMeant (unless_hidden o m)
  unless_hidden-meant None m h = h
  unless_hidden-meant (Some t) m h = tt

  pub meant-declared : (scopes : List Region) (name : List ℕ) → AgreesBy declared types structures depth scopes → IsMeant (meant scopes name)
  meant-declared [] name h = as_required-meant (required_of name)
  meant-declared (r ∷ rs) name h =
      or_field-meant (field_among r.records name) (or_outside (look_up r.entries name) (meant rs name)) (field_among-meant r.records name h.3)
      (or_outside-meant (look_up r.entries name) (meant rs name) (look_up-thing r.entries name h.0) (meant-declared rs name h.2))

  pub meant_in-declared : (scopes : List Region) (interface name : List ℕ) → AgreesBy declared types structures depth scopes → IsMeant (meant_in scopes interface name)
  meant_in-declared [] interface name h = tt
  meant_in-declared (r ∷ rs) interface name h =
      unless_field-meant (field_among r.records interface) (unless_hidden (look_up r.entries interface) (or_outside (look_up_in r interface name) (meant_in rs interface name)))
      (unless_hidden-meant (look_up r.entries interface) (or_outside (look_up_in r interface name) (meant_in rs interface name))
      (or_outside-meant (look_up_in r interface name) (meant_in rs interface name) (look_up_if-thing (look_up r.qualified interface) name (look_up-things r.qualified interface h.1)) (meant_in-declared rs interface name h.2)))

  constant-fits : (k : Kind) (v : Value) → IsConstantIn declared types structures k v → IsFormOf declared types structures k (Some (constant_expr v))
  constant-fits (kind.Ordinal h) (value.Word z) s = (s.0, (typed_host h, refl, s.1))
  constant-fits (kind.Ordinal h) _ s = absurd s
  constant-fits (kind.Structured n) (value.Structured of es) s = ((s.0.0, s.0.1, start-structured declared s.0.0 of (elements (map element_of es)) s.0.2), s.1)
  constant-fits (kind.Structured n) _ s = absurd s.0
  constant-fits (kind.Set h) (value.Set ms) s = (s.0, (typed_host h, refl, s.1.0, s.1.1))
  constant-fits (kind.Set h) _ s = absurd s
  constant-fits kind.EmptySet (value.Set ms) s = λ h. (h, refl, (s h).0, (s h).1)
  constant-fits kind.EmptySet _ s = absurd s
  constant-fits kind.Text (value.Text bytes) s = refl
  constant-fits kind.Text _ s = absurd s
  constant-fits kind.File v s = absurd s

  -- a variable that is declared is valid as a value
  variable-fits : (place : Place) (k : Kind) → IsStoredIn declared types structures place k → IsFormOf declared types structures k (Some (Read place))
  variable-fits place (kind.Ordinal h) s = s
  variable-fits place (kind.Structured n) s = s
  variable-fits place (kind.Set h) s = s
  variable-fits place kind.EmptySet s = absurd s
  variable-fits place kind.Text s = absurd s
  variable-fits place kind.File s = tt

  -- what is accepted is valid
  abbrev Holds : Judged Typed → Type 0
  Holds = Satisfies (IsForm declared types structures)

  value_declared-fits : (d : Declared) (what : Declaration) → IsDeclaration declared types structures depth d what → Holds (value_declared depth d what)
  value_declared-fits d (declaration.Constant k v deep) s = (constant-fits k v s, tt)
  value_declared-fits d (declaration.«Type» of host nodes) s = tt
  value_declared-fits d (declaration.Variable of k guarded) s = (variable-fits (Variable d.unit d.number) k s.0, (Variable d.unit d.number, refl, s.1))
  value_declared-fits d (declaration.Own of k guarded) s = (variable-fits (own_place depth d) k s.0, (own_place depth d, refl, s.1))
  value_declared-fits d (declaration.Procedure parameters) s = tt
  value_declared-fits d (declaration.Function parameters of k) s = function_called-fits declared types structures (callee_at depth d) parameters k [] s tt

  value_required-fits : (r : Required) → Holds (value_required r)
  value_required-fits (required.Constant constant.MaxInt) = ((refl, (hosts.Integer, refl, refl)), tt)
  value_required-fits (required.Constant constant.MaxChar) = ((refl, (hosts.Char, refl, refl)), tt)
  value_required-fits (required.Constant constant.True) = ((refl, (hosts.Boolean, refl, refl)), tt)
  value_required-fits (required.Constant constant.False) = ((refl, (hosts.Boolean, refl, refl)), tt)
  value_required-fits (required.«Type» t) = tt
  value_required-fits (required.Function f) = tt
  value_required-fits (required.Procedure p) = tt

  pub value_named-fits : (name : List ℕ) (m : Meant) → IsMeant m → Holds (value_named depth name m)
  value_named-fits name (Declares d) s = value_declared-fits d d.what s
  value_named-fits name (meaning.Standard file) s = (tt, tt)
  value_named-fits name (Requires r) s = value_required-fits r
  value_named-fits name (FieldOf f) s =
      (variable-fits (field_place f) f.field.kind s.0, read-access declared types f.field.of f.guarded f.field.tag f.field.number (along f.field.path (entire f.variable)) s.1 s.2)
  value_named-fits name Nothing s = tt

  call_declared-fits : (d : Declared) (what : Declaration) (gs : List Given) → IsDeclaration declared types structures depth d what → AreGiven (IsForm declared types structures) gs → Holds (call_declared depth d what gs)
  call_declared-fits d (declaration.Constant k v deep) gs s p = tt
  call_declared-fits d (declaration.«Type» of host nodes) gs s p = tt
  call_declared-fits d (declaration.Variable of k guarded) gs s p = tt
  call_declared-fits d (declaration.Own of k guarded) gs s p = tt
  call_declared-fits d (declaration.Procedure parameters) gs s p = tt
  call_declared-fits d (declaration.Function parameters of k) gs s p = function_called-fits declared types structures (callee_at depth d) parameters k gs s p

  -- what is called with valid arguments is valid
  pub called-fits : (m : Meant) → IsMeant m → IsCalled depth (IsForm declared types structures) m
  called-fits (Declares d) s = λ gs p. call_declared-fits d d.what gs s p
  called-fits (meaning.Standard file) s = tt
  called-fits (Requires r) s = tt
  called-fits (FieldOf f) s = tt
  called-fits Nothing s = tt
