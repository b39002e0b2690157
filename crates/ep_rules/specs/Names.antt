-- What names stand for as values and as functions (ISO 10206, 6.7.1 and 6.8.1).
use Rattle.std.specs.Prelude.{ℕ, ℤ, ◌+◌, pos, nat_eq, Bool, true, false, ◌||◌, List, [], ◌∷◌, ◌++◌, codes, Some}
use Rattle.std.specs.Prelude.{if◌then◌else◌}
use Rattle.std.specs.List.{list_any}
use Rattle.std.specs.Str.{bytes_eq}
use Rattle.ep_typed.specs.Hosts.{is_of_host}
use Rattle.ep_values.specs.Operations.{maxint, last_char}
use Rattle.ep_typed.specs.Trees.{Expr, Constant, Read, Place, Variable, Standard, entire}
use Rattle.ep_typed.specs.Viewed.{constant_expr}
use Rattle.ep_typed.specs.declared.value.Value.{Value}
use Rattle.ep_scope.specs.Scopes.{Region, Meant, OpenField, Declares, Requires, FieldOf, Nothing, depth_in, meant}
use Rattle.ep_scope.specs.Scopes.{meant_in}
use Rattle.ep_scope.specs.Scopes as meaning
use Rattle.ep_scope.specs.declared.kind.Host.{Host}
use Rattle.ep_scope.specs.declared.kind.Kind.{Kind}
use Rattle.ep_scope.specs.declared.kind.Kind.TheVariants as kind
use Rattle.ep_scope.specs.declared.required.Required.{Required}
use Rattle.ep_scope.specs.declared.required.Required.TheVariants as required
use Rattle.ep_scope.specs.declared.required.RequiredConstant.{RequiredConstant}
use Rattle.ep_scope.specs.declared.required.RequiredConstant.TheVariants as constant
use Rattle.ep_scope.specs.declared.rule.TheConstants as rule
use Rattle.ep_scope.specs.declared.thing.Declaration.{Declaration}
use Rattle.ep_scope.specs.declared.thing.Declaration.TheVariants as declaration
use Rattle.ep_scope.specs.declared.thing.Declared.{Declared}
use Rattle.ep_rules.specs.declared.access.Access.{Access}
use Rattle.ep_rules.specs.declared.access.Access.TheVariants as access
use Rattle.ep_rules.specs.Arguments.{callee_at, function_called, own_place}
use Rattle.ep_rules.specs.FieldDesignators.{along, designated, reached, steps_to, variable_access}
use Rattle.ep_rules.specs.Functions.{Given, all_faults, applied}
use Rattle.ep_rules.specs.Hosts.{typed_host}
use Rattle.ep_rules.specs.Judgements.{Judged, Accepts, Breaks, Typed, unbuilt, when_accepted}
use Rattle.ep_rules.specs.Operators.{integer, character, boolean}

-- a form without parts
abbrev pub leaf : Expr → Kind → Access → Judged Typed
leaf form kind access = Accepts (record { form = Some form; kind = kind; depth = 1; access = access })

-- a number or a character as the text spells it, which is a value of its host: no text has a number above `maxint`
-- (ISO 10206, 6.1.7 and 6.4.2.2)
abbrev pub spelled : Host → ℤ → Judged Typed
spelled h z = if is_of_host (typed_host h) z then leaf (Constant z) (kind.Ordinal h) access.Value else unbuilt

-- the same in parentheses, which is a value (ISO 10206, 6.5.1)
abbrev pub parenthesized : Typed → Typed
parenthesized x = record { form = x.form; kind = x.kind; depth = x.depth; access = access.Value }

-- the value of a constant, whose form nests so deep; an array or a record is done as a structured value at each use
-- (own)
abbrev pub constant_typed : Kind → Value → ℕ → Judged Typed
constant_typed k v deep =
    Accepts (record { form = Some (constant_expr v); kind = k; depth = deep; access = access.Constant })

-- the value of a variable stands above its place
abbrev pub reading : Expr → Kind → Access → Judged Typed
reading form kind access = Accepts (record { form = Some form; kind = kind; depth = 2; access = access })

-- the place of a field of an open record, which is that of the variable that stands for it (ISO 10206, 6.9.3.10)
abbrev pub field_place : OpenField → Place
field_place f = reached f.field (entire f.variable)

-- the place of the record, or of the variant in it, that such a field belongs to, whose variants it selects where it
-- is a tag
abbrev pub tagged_place : OpenField → Place
tagged_place f = along f.field.path (entire f.variable)

-- such a field as a value, which stands above its place, those within the record, and that of the variable
abbrev pub field_read : OpenField → Judged Typed
field_read f =
    Accepts (record {
      form = Some (Read
          (field_place f));
      kind = f.field.kind;
      depth = steps_to f.field + 2;
      access = variable_access f.field.of f.guarded f.field.tag;
    })

-- what is declared as a value, in code of a depth
abbrev pub value_declared : ℕ → Declared → Declaration → Judged Typed
value_declared depth d (declaration.Constant kind value deep) = constant_typed kind value deep
value_declared depth d (declaration.«Type» of host nodes) = Breaks (rule.OTHER_THING ∷ [])
value_declared depth d (declaration.Variable of kind guarded) =
    reading (Read (Variable d.unit d.number)) kind (access.Variable of guarded)
value_declared depth d (declaration.Own of kind guarded) =
    reading (Read (own_place depth d)) kind (access.Variable of guarded)
value_declared depth d (declaration.Procedure parameters) = Breaks (rule.PROCEDURE ∷ rule.OTHER_THING ∷ [])
value_declared depth d (declaration.Function parameters of kind) =
    function_called (callee_at depth d) parameters kind []

-- the required constants (ISO 10206, 6.4.2.2)
abbrev pub constant_required : RequiredConstant → Judged Typed
constant_required constant.MaxInt = leaf (Constant (pos maxint)) integer access.Constant
constant_required constant.MaxChar = leaf (Constant (pos last_char)) character access.Constant
constant_required constant.True = leaf (Constant (pos 1)) boolean access.Constant
constant_required constant.False = leaf (Constant (pos 0)) boolean access.Constant

abbrev pub value_required : Required → Judged Typed
value_required (required.Constant c) = constant_required c
value_required (required.«Type» t) = Breaks (rule.OTHER_THING ∷ [])
value_required (required.Function f) = Breaks (rule.ARGUMENTS ∷ [])
value_required (required.Procedure p) = Breaks (rule.PROCEDURE ∷ rule.OTHER_THING ∷ [])

-- the names of the standard files
abbrev pub is_standard : List ℕ → Bool
is_standard name = bytes_eq name (codes "input") || bytes_eq name (codes "output")

-- the rules that fail where a name stands for nothing; `input` and `output` are then neither parameter nor imported
abbrev pub undeclared : List ℕ → List ℕ
undeclared name = if is_standard name then rule.STANDARD_FILE ∷ rule.UNDECLARED ∷ [] else rule.UNDECLARED ∷ []

-- whether a rule is in a list
abbrev pub is_one_of : ℕ → List ℕ → Bool
is_one_of rule rules = list_any (nat_eq rule) rules

-- a name as a value
abbrev pub value_named : ℕ → List ℕ → Meant → Judged Typed
value_named depth name (Declares d) = value_declared depth d d.what
value_named depth name (meaning.Standard file) = reading (Read (Standard file)) kind.File access.File
value_named depth name (Requires r) = value_required r
value_named depth name (FieldOf f) = field_read f
value_named depth name Nothing = Breaks (undeclared name)

-- what is no function has no arguments
abbrev pub call_required : Required → List Given → Judged Typed
call_required (required.Constant c) gs = Breaks (rule.OTHER_THING ∷ all_faults gs)
call_required (required.«Type» t) gs = Breaks (rule.OTHER_THING ∷ all_faults gs)
call_required (required.Function f) gs = applied f gs
call_required (required.Procedure p) gs = Breaks (rule.PROCEDURE ∷ rule.OTHER_THING ∷ all_faults gs)

-- what is declared with arguments is a function (ISO 10206, 6.8.5)
abbrev pub call_declared : ℕ → Declared → Declaration → List Given → Judged Typed
call_declared depth d (declaration.Function parameters of kind) gs =
    function_called (callee_at depth d) parameters kind gs
call_declared depth d (declaration.Procedure parameters) gs =
    Breaks (rule.PROCEDURE ∷ rule.OTHER_THING ∷ all_faults gs)
call_declared depth d (declaration.Constant kind value deep) gs = Breaks (rule.OTHER_THING ∷ all_faults gs)
call_declared depth d (declaration.«Type» of host nodes) gs = Breaks (rule.OTHER_THING ∷ all_faults gs)
call_declared depth d (declaration.Variable of kind guarded) gs = Breaks (rule.OTHER_THING ∷ all_faults gs)
call_declared depth d (declaration.Own of kind guarded) gs = Breaks (rule.OTHER_THING ∷ all_faults gs)

-- a name with arguments
abbrev pub call_named : ℕ → List ℕ → Meant → List Given → Judged Typed
call_named depth name (Declares d) gs = call_declared depth d d.what gs
call_named depth name (meaning.Standard file) gs = Breaks (rule.OTHER_THING ∷ all_faults gs)
call_named depth name (Requires r) gs = call_required r gs
call_named depth name (FieldOf f) gs = Breaks (rule.OTHER_THING ∷ all_faults gs)
call_named depth name Nothing gs = Breaks (undeclared name ++ all_faults gs)

abbrev pub is_nothing : Meant → Bool
is_nothing Nothing = true
is_nothing _ = false

module _ (scopes : List Region) where
  -- by what the first name means alone, and what the second one means in the interface of the first
  abbrev pub constituent_or_field : List ℕ → List ℕ → Meant → Judged Typed
  constituent_or_field first second within =
      if is_nothing within
      then when_accepted (designated scopes second) (value_named (depth_in scopes) first (meant scopes first))
      else value_named (depth_in scopes) second within

  -- `i.a`, a name that an interface has (ISO 10206, 6.11.3), or else a field
  abbrev pub qualified_value : List ℕ → List ℕ → Judged Typed
  qualified_value first second = constituent_or_field first second (meant_in scopes first second)
