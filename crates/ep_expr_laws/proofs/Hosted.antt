-- The host of what the rules accept is a required type, or that of something that the scopes declare.
use Rattle.std.proofs.Common.{◌≡◌, ◌==◌, ◌∙◌, ◌+◌, ℕ, ℤ, zero, suc, slice_get, Bool, true, false, ◌&&◌, nat_le, List, [], ◌∷◌, Option, Some, None, inl, inr, refl, sym, subst}
use Rattle.std.specs.Prelude.{⊤, if◌then◌else◌}
use Rattle.std.specs.Str.{bytes_eq}
use Rattle.ep_tree.specs.declared.operator.AddingOperator.{AddingOperator}
use Rattle.ep_tree.specs.declared.operator.AddingOperator.TheVariants as adding
use Rattle.ep_tree.specs.declared.operator.MultiplyingOperator.{MultiplyingOperator}
use Rattle.ep_tree.specs.declared.operator.MultiplyingOperator.TheVariants as multiplying
use Rattle.ep_tree.specs.declared.operator.RelationalOperator.{RelationalOperator}
use Rattle.ep_tree.specs.declared.operator.RelationalOperator.TheVariants as relation
use Rattle.ep_tree.specs.declared.operator.Sign.{Sign}
use Rattle.ep_typed.specs.Hosts.{is_of_host}
use Rattle.ep_typed.specs.Trees.{Callee, Designator, Expr, Constant}
use Rattle.ep_values.specs.declared.operations.Unary.{Unary}
use Rattle.ep_values.specs.declared.operations.Binary.{Binary}
use Rattle.ep_values.specs.declared.operations.SetOperation.{SetOperation}
use Rattle.ep_values.specs.declared.operations.ShortOperation.{ShortOperation}
use Rattle.ep_scope.specs.Fields.{field_number}
use Rattle.ep_scope.specs.Required.{look_up, required_of}
use Rattle.ep_scope.specs.Scopes.{Entries, OpenField, OpenRecord, Region, Meant, Declares, Requires, FieldOf, Nothing, field_among, field_at, field_if, field_of, field_or, or_field, unless_field, structure_among, structure_in, structure_or, as_required, as_thing, depth_in, look_up_if, look_up_in, meant, meant_in, or_outside, unless_hidden}
use Rattle.ep_scope.specs.Scopes as meaning
use Rattle.ep_scope.specs.declared.structure.ArrayType.{ArrayType}
use Rattle.ep_scope.specs.declared.structure.Composition.{Composition}
use Rattle.ep_scope.specs.declared.structure.Composition.TheVariants as composition
use Rattle.ep_scope.specs.declared.structure.FieldType.{FieldType}
use Rattle.ep_scope.specs.declared.structure.StructuredType.{StructuredType}
use Rattle.ep_scope.specs.declared.kind.Host.{Host}
use Rattle.ep_scope.specs.declared.kind.Host.TheVariants as host
use Rattle.ep_scope.specs.declared.kind.Kind.{Kind}
use Rattle.ep_scope.specs.declared.kind.Kind.TheVariants as kind
use Rattle.ep_scope.specs.declared.required.Function.{Function}
use Rattle.ep_scope.specs.declared.required.Function.TheVariants as function
use Rattle.ep_scope.specs.declared.required.Required.{Required}
use Rattle.ep_scope.specs.declared.required.Required.TheVariants as required
use Rattle.ep_scope.specs.declared.required.RequiredConstant.TheVariants as constant
use Rattle.ep_scope.specs.declared.thing.Declaration.{Declaration}
use Rattle.ep_scope.specs.declared.thing.Declaration.TheVariants as declaration
use Rattle.ep_scope.specs.declared.thing.Declared.{Declared}
use Rattle.ep_scope.specs.declared.thing.Thing.{Thing}
use Rattle.ep_scope.specs.declared.thing.Thing.TheVariants as thing
use Rattle.ep_scope.specs.declared.rule.TheConstants as rule
use Rattle.ep_rules.specs.declared.access.Access.TheVariants as access
use Rattle.ep_rules.specs.Arguments.{Taken, arguments_judged, callee_at, function_typed}
use Rattle.ep_rules.specs.Constructors.{Label, Members, extended, joined_by, may_join, no_member, set_judged, set_kind}
use Rattle.ep_rules.specs.Names.{spelled, call_declared, leaf, value_declared, value_named, value_required}
use Rattle.ep_rules.specs.FieldDesignators.{field_typed, steps_to}
use Rattle.ep_rules.specs.Functions.{Given, applied_one, applied_two, card_by, ordinal_by, other_argument, step_typed, stepped_by, one}
use Rattle.ep_rules.specs.Hosts.{typed_host}
use Rattle.ep_rules.specs.Indexing.{component_depth, component_typed}
use Rattle.ep_rules.specs.Judgements.{Judged, Accepts, Breaks, Typed, unbuilt, when_accepted}
use Rattle.ep_rules.specs.Operators.{added, are_compatible, are_sets, combined, joint_kind, may_be_in, on_sets_typed, related, sum_typed, arithmetic, binary_typed, boolean, character, compared, comparison, integer, is_boolean, is_integer, is_string, logical, misfit, multiplied, short_circuit, short_typed, sign_of, signed, unary_typed, unbuilt_typed, within_depth}
use Rattle.ep_expr_laws.specs.Origins.{CompositionHasHost, DeclaresHost, EntriesHaveHost, FieldsHaveHost, HasHost, StructuresHaveHost, InterfacesHaveHost, IsKnownHost, IsKnownKind, RecordsHaveHost, ScopesHaveHost, ThingHasHost}
use Rattle.ep_check_expr.proofs.public.Labels.{set-has}
use Rattle.ep_check_expr.proofs.public.Selected.{field-given}
use Rattle.ep_check_expr.proofs.public.Selected.{index-given}
use Rattle.ep_check_expr.proofs.public.AnyStructure.{structure-any}
use Rattle.ep_check_expr.proofs.public.Keeping.{AreLabels, IsCalled, IsKept, Satisfies, if-satisfies}

-- ---- names

-- each host of what a name may stand for is one of these
abbrev ThingComes : (Host → Type 0) → Option Thing → Type 0
ThingComes P None = ⊤
ThingComes P (Some t) = (h : Host) → ThingHasHost t h → P h

abbrev MeantComes : (Host → Type 0) → Meant → Type 0
MeantComes P (Declares d) = (h : Host) → DeclaresHost d.what h → P h
MeantComes P (meaning.Standard file) = ⊤
MeantComes P (Requires r) = ⊤
MeantComes P (FieldOf f) = (h : Host) → HasHost f.field.kind h → P h
MeantComes P Nothing = ⊤

thing_wider : (P Q : Host → Type 0) (o : Option Thing) → ((h : Host) → P h → Q h) → ThingComes P o → ThingComes Q o
thing_wider P Q None f c = tt
thing_wider P Q (Some t) f c = λ h e. f h (c h e)

meant_wider : (P Q : Host → Type 0) (m : Meant) → ((h : Host) → P h → Q h) → MeantComes P m → MeantComes Q m
meant_wider P Q (Declares d) f c = λ h e. f h (c h e)
meant_wider P Q (meaning.Standard file) f c = tt
meant_wider P Q (Requires r) f c = tt
meant_wider P Q (FieldOf x) f c = λ h e. f h (c h e)
meant_wider P Q Nothing f c = tt

found_comes : (P : Host → Type 0) (b : Bool) (t : Thing) (o : Option Thing) → ((h : Host) → ThingHasHost t h → P h) → ThingComes P o → ThingComes P (if b then Some t else o)
found_comes P true t o f c = f
found_comes P false t o f c = c

entry_comes : (es : Entries) (name : List ℕ) → ThingComes (EntriesHaveHost es) (look_up es name)
entry_comes [] name = tt
entry_comes (e ∷ es) name =
    found_comes (EntriesHaveHost (e ∷ es)) (bytes_eq name e.0) e.1 (look_up es name) (λ h p. inl p) (thing_wider (EntriesHaveHost es) (EntriesHaveHost (e ∷ es)) (look_up es name) (λ h p. inr p) (entry_comes es name))

interface_comes : (is : List (List ℕ × Entries)) (interface name : List ℕ) → ThingComes (InterfacesHaveHost is) (look_up_if (look_up is interface) name)
interface_comes [] interface name = tt
interface_comes (e ∷ es) interface name = chosen (bytes_eq interface e.0) (interface_comes es interface name)
  where
    chosen : (b : Bool) → ThingComes (InterfacesHaveHost es) (look_up_if (look_up es interface) name) → ThingComes (InterfacesHaveHost (e ∷ es)) (look_up_if (if b then Some e.1 else look_up es interface) name)
    chosen true c = thing_wider (EntriesHaveHost e.1) (InterfacesHaveHost (e ∷ es)) (look_up e.1 name) (λ h p. inl p) (entry_comes e.1 name)
    chosen false c = thing_wider (InterfacesHaveHost es) (InterfacesHaveHost (e ∷ es)) (look_up_if (look_up es interface) name) (λ h p. inr p) c

thing_meant : (P : Host → Type 0) (t : Thing) → ThingComes P (Some t) → MeantComes P (as_thing t)
thing_meant P (thing.Declared d) c = c
thing_meant P (thing.Standard file) c = tt

outside_comes : (P : Host → Type 0) (o : Option Thing) (m : Meant) → ThingComes P o → MeantComes P m → MeantComes P (or_outside o m)
outside_comes P None m c d = d
outside_comes P (Some t) m c d = thing_meant P t c

required_comes : (P : Host → Type 0) (o : Option Required) → MeantComes P (as_required o)
required_comes P None = tt
required_comes P (Some r) = tt

hidden_comes : (P : Host → Type 0) (o : Option Thing) (m : Meant) → MeantComes P m → MeantComes P (unless_hidden o m)
hidden_comes P None m c = c
hidden_comes P (Some t) m c = tt

-- the host of a field is one of those that the fields have
field_has : (fs : List FieldType) (number : ℕ) (f : FieldType) (h : Host) → slice_get fs number ≡ Some f → HasHost f.kind h → FieldsHaveHost fs h
field_has [] number f h e p = cc
field_has (g ∷ gs) zero f h e p = let is : g ≡ f = cc in inl (subst (λ (x : FieldType). HasHost x.kind h) (sym is) p)
field_has (g ∷ gs) (suc number) f h e p = inr (field_has gs number f h e p)

-- so is that of a field of an open record
abbrev FieldComes : (Host → Type 0) → Option OpenField → Type 0
FieldComes P None = ⊤
FieldComes P (Some f) = (h : Host) → HasHost f.field.kind h → P h

field_wider : (P Q : Host → Type 0) (o : Option OpenField) → ((h : Host) → P h → Q h) → FieldComes P o → FieldComes Q o
field_wider P Q None f c = tt
field_wider P Q (Some x) f c = λ h e. f h (c h e)

open_comes : (r : OpenRecord) (number : ℕ) (o : Option FieldType) → slice_get r.fields number ≡ o → FieldComes (FieldsHaveHost r.fields) (field_if r o)
open_comes r number None e = tt
open_comes r number (Some f) e = λ h p. field_has r.fields number f h e p

numbered_comes : (r : OpenRecord) (o : Option ℕ) → FieldComes (FieldsHaveHost r.fields) (field_at r o)
numbered_comes r None = tt
numbered_comes r (Some number) = open_comes r number (slice_get r.fields number) refl

field_or_comes : (P : Host → Type 0) (f g : Option OpenField) → FieldComes P f → FieldComes P g → FieldComes P (field_or f g)
field_or_comes P None g p q = q
field_or_comes P (Some f) g p q = p

field_among_comes : (rs : List OpenRecord) (name : List ℕ) → FieldComes (RecordsHaveHost rs) (field_among rs name)
field_among_comes [] name = tt
field_among_comes (r ∷ rs) name =
    field_or_comes (RecordsHaveHost (r ∷ rs)) (field_of r name) (field_among rs name)
    (field_wider (FieldsHaveHost r.fields) (RecordsHaveHost (r ∷ rs)) (field_of r name) (λ h p. inl p) (numbered_comes r (field_number r.fields name)))
    (field_wider (RecordsHaveHost rs) (RecordsHaveHost (r ∷ rs)) (field_among rs name) (λ h p. inr p) (field_among_comes rs name))

or_field_comes : (P : Host → Type 0) (o : Option OpenField) (m : Meant) → FieldComes P o → MeantComes P m → MeantComes P (or_field o m)
or_field_comes P None m c d = d
or_field_comes P (Some f) m c d = c

unless_field_comes : (P : Host → Type 0) (o : Option OpenField) (m : Meant) → MeantComes P m → MeantComes P (unless_field o m)
unless_field_comes P None m c = c
unless_field_comes P (Some f) m c = tt

meant_comes : (scopes : List Region) (name : List ℕ) → MeantComes (ScopesHaveHost scopes) (meant scopes name)
meant_comes [] name = required_comes (ScopesHaveHost []) (required_of name)
meant_comes (r ∷ rs) name =
    or_field_comes (ScopesHaveHost (r ∷ rs)) (field_among r.records name) (or_outside (look_up r.entries name) (meant rs name))
    (field_wider (RecordsHaveHost r.records) (ScopesHaveHost (r ∷ rs)) (field_among r.records name) (λ h p. inr (inr (inr (inr p)))) (field_among_comes r.records name))
    (outside_comes (ScopesHaveHost (r ∷ rs)) (look_up r.entries name) (meant rs name)
    (thing_wider (EntriesHaveHost r.entries) (ScopesHaveHost (r ∷ rs)) (look_up r.entries name) (λ h p. inl p) (entry_comes r.entries name))
    (meant_wider (ScopesHaveHost rs) (ScopesHaveHost (r ∷ rs)) (meant rs name) (λ h p. inr (inr (inr (inl p)))) (meant_comes rs name)))

meant_in_comes : (scopes : List Region) (interface name : List ℕ) → MeantComes (ScopesHaveHost scopes) (meant_in scopes interface name)
meant_in_comes [] interface name = tt
meant_in_comes (r ∷ rs) interface name =
    unless_field_comes (ScopesHaveHost (r ∷ rs)) (field_among r.records interface) (unless_hidden (look_up r.entries interface) (or_outside (look_up_in r interface name) (meant_in rs interface name)))
    (hidden_comes (ScopesHaveHost (r ∷ rs)) (look_up r.entries interface) (or_outside (look_up_in r interface name) (meant_in rs interface name))
    (outside_comes (ScopesHaveHost (r ∷ rs)) (look_up_in r interface name) (meant_in rs interface name)
    (thing_wider (InterfacesHaveHost r.qualified) (ScopesHaveHost (r ∷ rs)) (look_up_in r interface name) (λ h p. inr (inl p)) (interface_comes r.qualified interface name))
    (meant_wider (ScopesHaveHost rs) (ScopesHaveHost (r ∷ rs)) (meant_in rs interface name) (λ h p. inr (inr (inr (inl p)))) (meant_in_comes rs interface name))))

-- ---- structured types

-- the host of the components of a structured type is one of those that structured types have
among_comes : (n : ℕ) (structures : List StructuredType) (c : Composition) (h : Host) → structure_among n structures ≡ Some c → CompositionHasHost c h → StructuresHaveHost structures h
among_comes n [] c h e p = cc
among_comes n (s ∷ more) c h e p = chosen (s.number == n) (λ later. among_comes n more c h later p) e
  where
    chosen : (b : Bool) → (structure_among n more ≡ Some c → StructuresHaveHost more h) → (if b then Some s.composition else structure_among n more) ≡ Some c → StructuresHaveHost (s ∷ more) h
    chosen true later e = let is : s.composition ≡ c = cc in inl (subst (λ x. CompositionHasHost x h) (sym is) p)
    chosen false later e = inr (later e)

-- so it is one that the scopes have
structure_comes : (n : ℕ) (scopes : List Region) (c : Composition) (h : Host) → structure_in scopes n ≡ Some c → CompositionHasHost c h → ScopesHaveHost scopes h
structure_comes n [] c h e p = cc
structure_comes n (r ∷ rs) c h e p = found (structure_among n r.structures) refl (λ later. structure_comes n rs c h later p) e
  where
    found : (o : Option Composition) → structure_among n r.structures ≡ o → (structure_in rs n ≡ Some c → ScopesHaveHost rs h) → structure_or o (structure_in rs n) ≡ Some c → ScopesHaveHost (r ∷ rs) h
    found None is later e = inr (inr (inr (inl (later e))))
    found (Some d) is later e = inr (inr (inl (among_comes n r.structures c h (is ∙ e) p)))

-- ---- rules

module _ (scopes : List Region) where
  -- the kind's host is known
  abbrev pub IsKnown : Typed → Type 0
  IsKnown t = IsKnownKind scopes t.kind

  abbrev Comes : Judged Typed → Type 0
  Comes = Satisfies IsKnown

  kind_comes : (k : Kind) → ((h : Host) → HasHost k h → ScopesHaveHost scopes h) → IsKnownKind scopes k
  kind_comes (kind.Ordinal h) f = inr (f h refl)
  kind_comes (kind.Structured n) f = tt
  kind_comes (kind.Set h) f = inr (f h refl)
  kind_comes kind.EmptySet f = tt
  kind_comes kind.Text f = tt
  kind_comes kind.File f = tt

  depth_comes : (form : Option Expr) (k : Kind) (depth : ℕ) → IsKnownKind scopes k → Comes (within_depth form k depth)
  depth_comes form k depth p = if-satisfies IsKnown (nat_le depth 1000) (Accepts (record { form = form; kind = k; depth = depth; access = access.Value })) (Breaks (rule.TOO_DEEP ∷ [])) (λ e. p) tt

  function_comes : (callee : Callee) (k : Kind) (J : Judged Taken) → IsKnownKind scopes k → Comes (when_accepted (function_typed callee k) J)
  function_comes callee k (Accepts t) p = depth_comes _ k _ p
  function_comes callee k (Breaks rules) p = tt

  declared_comes : (depth : ℕ) (d : Declared) (what : Declaration) → ((h : Host) → DeclaresHost what h → ScopesHaveHost scopes h) → Comes (value_declared depth d what)
  declared_comes depth d (declaration.Constant k v deep) f = kind_comes k f
  declared_comes depth d (declaration.«Type» of h nodes) f = tt
  declared_comes depth d (declaration.Variable of k guarded) f = kind_comes k f
  declared_comes depth d (declaration.Own of k guarded) f = kind_comes k f
  declared_comes depth d (declaration.Procedure parameters) f = tt
  declared_comes depth d (declaration.Function parameters of k) f = function_comes (callee_at depth d) k (arguments_judged parameters []) (kind_comes k f)

  call_comes : (depth : ℕ) (d : Declared) (what : Declaration) (gs : List Given) → ((h : Host) → DeclaresHost what h → ScopesHaveHost scopes h) → Comes (call_declared depth d what gs)
  call_comes depth d (declaration.Constant k v deep) gs f = tt
  call_comes depth d (declaration.«Type» of h nodes) gs f = tt
  call_comes depth d (declaration.Variable of k guarded) gs f = tt
  call_comes depth d (declaration.Own of k guarded) gs f = tt
  call_comes depth d (declaration.Procedure parameters) gs f = tt
  call_comes depth d (declaration.Function parameters of k) gs f = function_comes (callee_at depth d) k (arguments_judged parameters gs) (kind_comes k f)

  called_comes : (m : Meant) → MeantComes (ScopesHaveHost scopes) m → IsCalled (depth_in scopes) IsKnown m
  called_comes (Declares d) c = λ gs p. call_comes (depth_in scopes) d d.what gs c
  called_comes (meaning.Standard file) c = tt
  called_comes (Requires r) c = tt
  called_comes (FieldOf f) c = tt
  called_comes Nothing c = tt

  value_comes : (r : Required) → Comes (value_required r)
  value_comes (required.Constant constant.MaxInt) = inl tt
  value_comes (required.Constant constant.MaxChar) = inl tt
  value_comes (required.Constant constant.True) = inl tt
  value_comes (required.Constant constant.False) = inl tt
  value_comes (required.«Type» t) = tt
  value_comes (required.Function f) = tt
  value_comes (required.Procedure p) = tt

  named_comes : (name : List ℕ) (m : Meant) → MeantComes (ScopesHaveHost scopes) m → Comes (value_named (depth_in scopes) name m)
  named_comes name (Declares d) c = declared_comes (depth_in scopes) d d.what c
  named_comes name (meaning.Standard file) c = tt
  named_comes name (Requires r) c = value_comes r
  named_comes name (FieldOf f) c = kind_comes f.field.kind c
  named_comes name Nothing c = tt

  unary_comes : (b : Bool) (operation : Unary) (k : Kind) (x : Typed) (other : Judged Typed) → IsKnownKind scopes k → Comes other → Comes (if b then unary_typed operation k x else other)
  unary_comes b operation k x other p q = if-satisfies IsKnown b (unary_typed operation k x) other (λ e. depth_comes _ k _ p) q

  binary_comes : (b : Bool) (operation : Binary) (k : Kind) (x y : Typed) (other : Judged Typed) → IsKnownKind scopes k → Comes other → Comes (if b then binary_typed operation k x y else other)
  binary_comes b operation k x y other p q = if-satisfies IsKnown b (binary_typed operation k x y) other (λ e. depth_comes _ k _ p) q

  unbuilt_comes : (b : Bool) (k : Kind) (x y : Typed) (other : Judged Typed) → IsKnownKind scopes k → Comes other → Comes (if b then unbuilt_typed k x y else other)
  unbuilt_comes b k x y other p q = if-satisfies IsKnown b (unbuilt_typed k x y) other (λ e. depth_comes _ k _ p) q

  spelled_comes : (h : Host) (z : ℤ) → IsKnownHost scopes h → Comes (spelled h z)
  spelled_comes h z p = if-satisfies IsKnown (is_of_host (typed_host h) z) (leaf (Constant z) (kind.Ordinal h) access.Value) unbuilt (λ e. p) tt

  signed_comes : (o : Option Sign) (x : Typed) → IsKnown x → Comes (signed o x)
  signed_comes None x p = p
  signed_comes (Some s) x p = unary_comes (is_integer x.kind) (sign_of s) integer x misfit (inl tt) tt

  arithmetic_comes : (operation : Binary) (x y : Typed) → Comes (arithmetic operation x y)
  arithmetic_comes operation x y = binary_comes (is_integer x.kind && is_integer y.kind) operation integer x y misfit (inl tt) tt

  logical_comes : (operation : Binary) (x y : Typed) → Comes (logical operation x y)
  logical_comes operation x y = binary_comes (is_boolean x.kind && is_boolean y.kind) operation boolean x y misfit (inl tt) tt

  short_comes : (operation : ShortOperation) (x y : Typed) → Comes (short_circuit operation x y)
  short_comes operation x y = if-satisfies IsKnown (is_boolean x.kind && is_boolean y.kind) (short_typed operation boolean x y) misfit (λ e. depth_comes _ boolean _ (inl tt)) tt

  -- the host of the kind of a set of two is that of one of them
  joint_known : (k l : Kind) → IsKnownKind scopes k → IsKnownKind scopes l → IsKnownKind scopes (joint_kind k l)
  joint_known (kind.Ordinal h) l p q = p
  joint_known (kind.Structured n) l p q = p
  joint_known (kind.Set h) l p q = p
  joint_known kind.EmptySet l p q = q
  joint_known kind.Text l p q = p
  joint_known kind.File l p q = p

  combined_comes : (operation : SetOperation) (other : Judged Typed) (x y : Typed) → IsKnown x → IsKnown y → Comes other → Comes (combined operation other x y)
  combined_comes operation other x y p q o = if-satisfies IsKnown (are_sets x.kind y.kind) (on_sets_typed operation (joint_kind x.kind y.kind) x y) other (λ e. depth_comes _ (joint_kind x.kind y.kind) _ (joint_known x.kind y.kind p q)) o

  related_comes : (operation : SetOperation) (other : Judged Typed) (x y : Typed) → Comes other → Comes (related operation other x y)
  related_comes operation other x y o = if-satisfies IsKnown (are_sets x.kind y.kind) (on_sets_typed operation boolean x y) other (λ e. depth_comes _ boolean _ (inl tt)) o

  added_comes : (o : AddingOperator) (x y : Typed) → IsKnown x → IsKnown y → Comes (added o x y)
  added_comes adding.Plus x y p q = combined_comes _ (sum_typed x y) x y p q (unbuilt_comes (is_string x.kind && is_string y.kind) kind.Text x y (arithmetic _ x y) tt (arithmetic_comes _ x y))
  added_comes adding.Minus x y p q = combined_comes _ (arithmetic _ x y) x y p q (arithmetic_comes _ x y)
  added_comes adding.Or x y p q = logical_comes _ x y
  added_comes adding.SymmetricDifference x y p q = combined_comes _ misfit x y p q tt
  added_comes adding.OrElse x y p q = short_comes _ x y

  multiplied_comes : (o : MultiplyingOperator) (x y : Typed) → IsKnown x → IsKnown y → Comes (multiplied o x y)
  multiplied_comes multiplying.Times x y p q = combined_comes _ (arithmetic _ x y) x y p q (arithmetic_comes _ x y)
  multiplied_comes multiplying.Div x y p q = arithmetic_comes _ x y
  multiplied_comes multiplying.Mod x y p q = arithmetic_comes _ x y
  multiplied_comes multiplying.And x y p q = logical_comes _ x y
  multiplied_comes multiplying.AndThen x y p q = short_comes _ x y

  comparison_comes : (operation : Binary) (x y : Typed) → Comes (comparison operation x y)
  comparison_comes operation x y =
      binary_comes (are_compatible x.kind y.kind) operation boolean x y (if is_string x.kind && is_string y.kind then unbuilt_typed boolean x y else misfit) (inl tt)
      (unbuilt_comes (is_string x.kind && is_string y.kind) boolean x y misfit (inl tt) tt)

  compared_comes : (o : RelationalOperator) (x y : Typed) → Comes (compared o x y)
  compared_comes relation.Equal x y = related_comes _ (comparison _ x y) x y (comparison_comes _ x y)
  compared_comes relation.NotEqual x y = related_comes _ (comparison _ x y) x y (comparison_comes _ x y)
  compared_comes relation.Less x y = comparison_comes _ x y
  compared_comes relation.Greater x y = comparison_comes _ x y
  compared_comes relation.AtMost x y = related_comes _ (comparison _ x y) x y (comparison_comes _ x y)
  compared_comes relation.AtLeast x y = related_comes _ (comparison _ x y) x y (comparison_comes _ x y)
  compared_comes relation.In x y = if-satisfies IsKnown (may_be_in x.kind y.kind) (on_sets_typed _ boolean x y) misfit (λ e. depth_comes _ boolean _ (inl tt)) tt

  ordinal_comes : (k : Kind) (x : Typed) → Comes (ordinal_by k x)
  ordinal_comes (kind.Ordinal h) x = depth_comes _ integer _ (inl tt)
  ordinal_comes (kind.Structured n) x = tt
  ordinal_comes (kind.Set base) x = tt
  ordinal_comes kind.EmptySet x = tt
  ordinal_comes kind.Text x = tt
  ordinal_comes kind.File x = tt

  stepped_comes : (k : Kind) (down : Bool) (x count : Typed) → IsKnownKind scopes k → Comes (stepped_by k down x count)
  stepped_comes (kind.Ordinal h) down x count p = if-satisfies IsKnown (is_integer count.kind) (step_typed down h x count) other_argument (λ e. depth_comes _ (kind.Ordinal h) _ p) tt
  stepped_comes (kind.Structured n) down x count p = tt
  stepped_comes (kind.Set base) down x count p = tt
  stepped_comes kind.EmptySet down x count p = tt
  stepped_comes kind.Text down x count p = tt
  stepped_comes kind.File down x count p = tt

  card_comes : (k : Kind) (x : Typed) → Comes (card_by k x)
  card_comes (kind.Set h) x = depth_comes _ integer _ (inl tt)
  card_comes kind.EmptySet x = depth_comes _ integer _ (inl tt)
  card_comes (kind.Ordinal h) x = tt
  card_comes (kind.Structured n) x = tt
  card_comes kind.Text x = tt
  card_comes kind.File x = tt

  -- the host of members is that of one of them
  abbrev IsKnownIf : Option Host → Type 0
  IsKnownIf None = ⊤
  IsKnownIf (Some h) = IsKnownHost scopes h

  abbrev IsKnownOf : Members → Type 0
  IsKnownOf ms = IsKnownIf ms.host

  joined_if : (b : Bool) (h : Host) (ms : Members) (d : Option Designator) (depth : ℕ) → IsKnownHost scopes h → Satisfies IsKnownOf (if b then Accepts (extended ms d depth h) else no_member)
  joined_if true h ms d depth p = p
  joined_if false h ms d depth p = tt

  joined_comes : (k : Kind) (ms : Members) (d : Option Designator) (depth : ℕ) → IsKnownKind scopes k → Satisfies IsKnownOf (joined_by k ms d depth)
  joined_comes (kind.Ordinal h) ms d depth p = joined_if (may_join ms.host h) h ms d depth p
  joined_comes (kind.Structured n) ms d depth p = tt
  joined_comes (kind.Set h) ms d depth p = tt
  joined_comes kind.EmptySet ms d depth p = tt
  joined_comes kind.Text ms d depth p = tt
  joined_comes kind.File ms d depth p = tt

  range_if : (b : Bool) (J : Judged Members) → Satisfies IsKnownOf J → Satisfies IsKnownOf (if b then J else no_member)
  range_if true J p = p
  range_if false J p = tt

  made_known : (o : Option Host) → IsKnownIf o → IsKnownKind scopes (set_kind o)
  made_known None p = tt
  made_known (Some h) p = p

  set_comes : (ls : List Label) → AreLabels IsKnown ls → Comes (set_judged ls)
  set_comes ls q =
      set-has IsKnown IsKnownOf (λ ms x p k. joined_comes x.kind ms _ x.depth k) (λ ms x y p k l. range_if (are_compatible x.kind y.kind) _ (joined_comes x.kind ms _ _ k))
      IsKnown tt (λ ms p. depth_comes _ (set_kind ms.host) _ (made_known ms.host p)) ls q

  one_comes : (f : Function) (x : Typed) → IsKnown x → Comes (applied_one f x)
  one_comes function.Absolute x p = unary_comes (is_integer x.kind) _ integer x other_argument (inl tt) tt
  one_comes function.Square x p = unary_comes (is_integer x.kind) _ integer x other_argument (inl tt) tt
  one_comes function.Odd x p = unary_comes (is_integer x.kind) _ boolean x other_argument (inl tt) tt
  one_comes function.Ordinal x p = ordinal_comes x.kind x
  one_comes function.Character x p = unary_comes (is_integer x.kind) _ (kind.Ordinal host.Char) x other_argument (inl tt) tt
  one_comes function.Successor x p = stepped_comes x.kind false x one p
  one_comes function.Predecessor x p = stepped_comes x.kind true x one p
  one_comes function.Cardinality x p = card_comes x.kind x

  two_comes : (f : Function) (x y : Typed) → IsKnown x → Comes (applied_two f x y)
  two_comes function.Successor x y p = stepped_comes x.kind false x y p
  two_comes function.Predecessor x y p = stepped_comes x.kind true x y p
  two_comes function.Absolute x y p = tt
  two_comes function.Square x y p = tt
  two_comes function.Odd x y p = tt
  two_comes function.Ordinal x y p = tt
  two_comes function.Character x y p = tt
  two_comes function.Cardinality x y p = tt

  component_comes : (n : ℕ) (a : ArrayType) (x i : Typed) → structure_in scopes n ≡ Some (composition.Array a) → Comes (component_typed a x i)
  component_comes n a x i e =
      if-satisfies IsKnown (nat_le (component_depth x.access x.depth i.depth) 1000) (Accepts _) (Breaks (rule.TOO_DEEP ∷ [])) (λ d. kind_comes a.kind (λ h p. structure_comes n scopes (composition.Array a) h e p)) tt

  field_comes : (n : ℕ) (fs : List FieldType) (number : ℕ) (f : FieldType) (x : Typed) → structure_in scopes n ≡ Some (composition.Record fs) → slice_get fs number ≡ Some f → Comes (field_typed f x)
  field_comes n fs number f x e there =
      if-satisfies IsKnown (nat_le (steps_to f + x.depth) 1000) (Accepts _) (Breaks (rule.TOO_DEEP ∷ [])) (λ d. kind_comes f.kind (λ h p. structure_comes n scopes (composition.Record fs) h e (field_has fs number f h there p))) tt

  -- each rule gives a known host for known ones
  pub knowledge_is_kept : IsKept IsKnown scopes
  knowledge_is_kept = record {
    number = λ z. spelled_comes host.Integer z (inl tt);
    character = λ z. spelled_comes host.Char z (inl tt);
    text = λ bytes. tt;
    named = λ name. named_comes name (meant scopes name) (meant_comes scopes name);
    within = λ interface name. named_comes name (meant_in scopes interface name) (meant_in_comes scopes interface name);
    called = λ name. called_comes (meant scopes name) (meant_comes scopes name);
    indexes = λ x i p q. index-given IsKnown scopes x.kind x i (λ n a is e same. component_comes n a x i e) (depth_comes _ character _ (inl tt));
    fields = λ name x p. field-given IsKnown scopes x.kind name x (λ n fs number f is e there. field_comes n fs number f x e there);
    parenthesizes = λ x p. p;
    signs = signed_comes;
    negates = λ x p. unary_comes (is_boolean x.kind) _ boolean x misfit (inl tt) tt;
    adds = λ o x y p q. added_comes o x y p q;
    multiplies = λ o x y p q. multiplied_comes o x y p q;
    constructs = set_comes;
    structures = λ c h n. structure-any IsKnown n (λ form depth. tt) scopes c;
    compares = λ o x y p q. compared_comes o x y;
    applies_one = one_comes;
    applies_two = λ f x y p q. two_comes f x y p;
  }
