-- What the static rules say of statements: their typed forms, or the first item that breaks a rule.
--
-- Items are taken in the order of the text: a statement without its inner statements is one, on the line of its first
-- token. A form that is no form of a program that is built fails by no rule here.
use Rattle.std.specs.Prelude.{ℕ, length, nat_eq, nat_le, ◌+◌, ◌-◌, ◌||◌, ◌==◌, ◌&&◌, Bool, true, false, List, [], ◌∷◌}
use Rattle.std.specs.Prelude.{◌++◌, map, Option, Some, None, if◌then◌else◌}
use Rattle.std.specs.List.{list_any}
use Rattle.std.specs.Option.{option_map}
use Rattle.std.specs.Str.{bytes_eq}
use Rattle.ep_tree.specs.declared.expression.Access.{out-Access}
use Rattle.ep_tree.specs.declared.expression.Access as syntax_access
use Rattle.ep_tree.specs.declared.expression.Expression.{Expression}
use Rattle.ep_tree.specs.declared.operator.Direction.{Direction}
use Rattle.ep_tree.specs.declared.operator.Direction.TheVariants as direction
use Rattle.ep_tree.specs.declared.expression.Argument.{Argument, out-Argument}
use Rattle.ep_tree.specs.declared.expression.Selector.{Selector, out-Selector}
use Rattle.ep_tree.specs.Shapes.{arguments_in, as_identifier}
use Rattle.ep_tree.specs.Folds as fold
use Rattle.ep_tree.specs.declared.statement.Statement.TheOpen.{Statement-F}
use Rattle.ep_tree.specs.declared.statement.Statement.{Statement}
use Rattle.ep_tree.specs.declared.statement.Arm as syntax
use Rattle.ep_tree.specs.declared.statement.Otherwise.{Otherwise}
use Rattle.ep_tree.specs.declared.expression.Label.{Label}
use Rattle.ep_tree.specs.declared.statement.Compound.{Compound}
use Rattle.ep_typed.specs.Auxiliaries.{with_variables, with_variables_in}
use Rattle.ep_typed.specs.Hosts.{greatest, least}
use Rattle.ep_typed.specs.Trees as tree
use Rattle.ep_typed.specs.Trees.{Control, Entire, MemberControl, Tagging, Place, Expr, Item, Stmt, Stmts, Arm, Arms}
use Rattle.ep_typed.specs.Trees.{Other, WithRecord, with_form}
use Rattle.ep_values.specs.declared.operations.Print.{Print}
use Rattle.ep_values.specs.declared.operations.Print.TheVariants as print
use Rattle.ep_typed.specs.declared.tree.StandardFile.{StandardFile}
use Rattle.ep_typed.specs.declared.tree.StandardFile.TheVariants as file
use Rattle.ep_typed.specs.declared.unit.UnitVariable.{UnitVariable}
use Rattle.ep_scope.specs.Scopes.{OpenField, Region, Meant, Declares, Standard, Requires, FieldOf, Nothing, depth_in}
use Rattle.ep_scope.specs.Scopes.{meant, structure_in, within}
use Rattle.ep_scope.specs.Standard.{is_usable}
use Rattle.ep_scope.specs.declared.kind.Host.{Host}
use Rattle.ep_scope.specs.declared.kind.Host.TheVariants as host
use Rattle.ep_scope.specs.declared.kind.Kind.{Kind}
use Rattle.ep_scope.specs.declared.kind.Kind.TheVariants as kind
use Rattle.ep_scope.specs.declared.parameter.FormalParameter.{FormalParameter}
use Rattle.ep_scope.specs.declared.parameter.Protection.{Protection}
use Rattle.ep_scope.specs.declared.required.Procedure.{Procedure}
use Rattle.ep_scope.specs.declared.required.Procedure.TheVariants as procedure
use Rattle.ep_scope.specs.declared.required.Required.{Required}
use Rattle.ep_scope.specs.declared.required.Required.TheVariants as required
use Rattle.ep_scope.specs.declared.rule.TheConstants as rule
use Rattle.ep_scope.specs.declared.standard.StandardFiles.{StandardFiles}
use Rattle.ep_scope.specs.declared.structure.Composition.{Composition}
use Rattle.ep_scope.specs.declared.structure.Composition.TheVariants as composition
use Rattle.ep_scope.specs.declared.structure.FieldType.{FieldType}
use Rattle.ep_scope.specs.declared.structure.TagType.{TagType}
use Rattle.ep_scope.specs.declared.thing.Declaration.{Declaration}
use Rattle.ep_scope.specs.declared.thing.Declaration.TheVariants as declaration
use Rattle.ep_scope.specs.declared.thing.Declared.{Declared}
use Rattle.ep_rules.specs.declared.access.Access.{Access}
use Rattle.ep_rules.specs.declared.access.Access.TheVariants as access
use Rattle.ep_rules.specs.Arguments.{arguments_judged, callee_at, given_to, own_place, place_read, tagged_read}
use Rattle.ep_rules.specs.Arguments.{unless_protected}
use Rattle.ep_rules.specs.Hosts.{typed_host}
use Rattle.ep_rules.specs.Judgements.{Judged, Accepts, Breaks, Typed, when_accepted, both, faults}
use Rattle.ep_rules.specs.Functions.{Given}
use Rattle.ep_rules.specs.Names.{field_place, tagged_place, undeclared}
use Rattle.ep_rules.specs.Operators.{map_both}
use Rattle.ep_check_expr.specs.Expressions.{given, judged, judged_value, name_judged}
use Rattle.ep_check_expr.specs.StructuredValues.{asked_by}
use Rattle.ep_tree.specs.declared.expression.ComponentValue.{ComponentValue}
use Rattle.ep_stmt_rules.specs.Cases.{CaseSelector, own_ranges, selector_judged}
use Rattle.ep_threats.specs.Callees.{Callees, formals_at}
use Rattle.ep_threats.specs.Threats.{expr_threatens, inner_threatens, is_variable, place_threatens, threatens}

-- ---- rows of items

-- what a row of items comes to
pub data Judgement (A : Type 0) : Type 0 where
  -- they break no rule and are built
  Passes : (form : A) → Judgement A
  -- they break no rule, and the first one that is not built begins on this line
  Waits : (line : ℕ) → Judgement A
  -- the first one that breaks a rule begins on this line, and these rules fail there
  Fails : (line : ℕ) (rules : List ℕ) → Judgement A

-- whether the first item that breaks a rule begins on this line, and this rule fails there
abbrev pub fails_at : {A : Type 0} → ℕ → ℕ → Judgement A → Bool
fails_at rule line (Passes form) = false
fails_at rule line (Waits other) = false
fails_at rule line (Fails first rules) = line == first && list_any (nat_eq rule) rules

-- one item, whose form is there where it is built
abbrev pub at_item : {A : Type 0} → ℕ → Judged (Option A) → Judgement A
at_item line (Accepts None) = Waits line
at_item line (Accepts (Some form)) = Passes form
at_item line (Breaks rules) = Fails line rules

-- the form around a row
abbrev pub formed : {A B : Type 0} → (A → B) → Judgement A → Judgement B
formed f (Passes a) = Passes (f a)
formed f (Waits line) = Waits line
formed f (Fails line rules) = Fails line rules

-- a row after one that waits
abbrev pub waiting : {A B : Type 0} → ℕ → Judgement A → Judgement B
waiting line (Passes a) = Waits line
waiting line (Waits other) = Waits line
waiting line (Fails other rules) = Fails other rules

-- one row after another
abbrev pub after : {A B C : Type 0} → (A → B → C) → Judgement A → Judgement B → Judgement C
after f (Passes a) more = formed (f a) more
after f (Waits line) more = waiting line more
after f (Fails line rules) more = Fails line rules

-- ---- assignments (ISO 10206, 6.9.2.2)

-- where a value is assigned: to the variable at a place, or to the tag of the record at one
pub data Receiver : Type 0 where
  At : (place : Place) → Receiver
  TagOf : (whole : Place) (tag : TagType) → Receiver

-- What can be assigned to: where, where it is built, and its kind. An index that is accepted and not built leaves a
-- component without it.
pub record Target : Type 0 where
  pub receiver : Option Receiver
  pub kind : Kind

-- the structured type that a value for it is to have, where it has one
abbrev pub asked_of : Judged Target → Option ℕ
asked_of (Accepts t) = asked_by t.kind
asked_of (Breaks rules) = None

-- A function in whose block the statements are, maybe deeper, where its name is assigned to for the result: its number
-- among the routines of the unit, how many routines are around its variables, itself among them, the variable that has
-- the result, and the kind of that (ISO 10206, 6.7.2).
pub record FunctionResult : Type 0 where
  pub function : ℕ
  pub level : ℕ
  pub variable : ℕ
  pub kind : Kind

-- whether what is declared is this function of a unit
abbrev pub has_result : List ℕ → Declared → FunctionResult → Bool
has_result unit d r = nat_eq d.number r.function && bytes_eq d.unit unit

-- The name of a function is assigned to in its own block alone, to which those of the routines in it belong (ISO
-- 10206, 6.7.2); in code of a depth.
abbrev pub function_target : ℕ → List ℕ → Declared → List FunctionResult → Judged Target
function_target depth unit d [] = Breaks (rule.FUNCTION_ASSIGNED ∷ [])
function_target depth unit d (r ∷ rs) =
    if has_result unit d r
    then Accepts (record { receiver = Some (At (tree.Own (depth - r.level) r.variable)); kind = r.kind })
    else function_target depth unit d rs

-- the rules that fail where a required identifier is assigned to
abbrev pub target_rules : Required → List ℕ
target_rules (required.Constant c) = rule.CONSTANT_THREATENED ∷ rule.VARIABLE_NEEDED ∷ []
target_rules (required.«Type» t) = rule.OTHER_THING ∷ rule.VARIABLE_NEEDED ∷ []
target_rules (required.Function f) = rule.FUNCTION_ASSIGNED ∷ rule.VARIABLE_NEEDED ∷ []
target_rules (required.Procedure p) = rule.OTHER_THING ∷ rule.VARIABLE_NEEDED ∷ []

-- a tag, of a record that is at a place, where it is built
abbrev pub tag_target : TagType → Option Place → Target
tag_target tag whole = record { receiver = option_map (λ p. TagOf p tag) whole; kind = kind.Ordinal tag.host }

-- a field of an open record, which may be a tag
abbrev pub field_target_of : OpenField → Option TagType → Target
field_target_of f None = record { receiver = Some (At (field_place f)); kind = f.field.kind }
field_target_of f (Some tag) = tag_target tag (Some (tagged_place f))

-- it is protected where the record is (ISO 10206, 6.5.1)
abbrev pub field_target : OpenField → Judged Target
field_target f = when_accepted (λ done. Accepts (field_target_of f f.field.tag)) (unless_protected f.guarded)

-- in code of a depth, of a unit, in the blocks of these functions
module _ (depth : ℕ) (unit : List ℕ) (results : List FunctionResult) where
  -- a declared name that is assigned to
  abbrev pub declared_target : Declared → Declaration → Judged Target
  declared_target d (declaration.Variable of k guarded) =
      when_accepted (λ done. Accepts (record { receiver = Some (At (tree.Variable d.unit d.number)); kind = k }))
      (unless_protected guarded)
  declared_target d (declaration.Own of k guarded) =
      when_accepted (λ done. Accepts (record { receiver = Some (At (own_place depth d)); kind = k }))
      (unless_protected guarded)
  declared_target d (declaration.Constant k value deep) = Breaks (rule.CONSTANT_THREATENED ∷ rule.VARIABLE_NEEDED ∷ [])
  declared_target d (declaration.«Type» of h nodes) = Breaks (rule.OTHER_THING ∷ rule.VARIABLE_NEEDED ∷ [])
  declared_target d (declaration.Procedure parameters) = Breaks (rule.OTHER_THING ∷ rule.VARIABLE_NEEDED ∷ [])
  declared_target d (declaration.Function parameters of h) = function_target depth unit d results

  -- a name that means this
  abbrev pub place_named : List ℕ → Meant → Judged Target
  place_named name (Declares d) = declared_target d d.what
  place_named name (Standard f) = Accepts (record { receiver = Some (At (tree.Standard f)); kind = kind.File })
  place_named name (Requires r) = Breaks (target_rules r)
  place_named name (FieldOf f) = field_target f
  place_named name Nothing = Breaks (undeclared name)

-- What an access with selectors denotes, as what is assigned to: a variable, whose components are protected where it
-- is (6.5.1), or a tag (6.5.3.3). No component is a file.
abbrev pub variable_target : Access → Option Expr → Kind → Judged Target
variable_target (access.Variable of guarded) form k =
    when_accepted (λ done. Accepts (record { receiver = option_map At (place_read form); kind = k }))
    (unless_protected guarded)
variable_target (access.Tag of guarded tag) form k =
    when_accepted (λ done. Accepts (tag_target tag (tagged_read form))) (unless_protected guarded)
variable_target access.File form k = Accepts (record { receiver = None; kind = kind.File })
variable_target access.Constant form k = Breaks (rule.CONSTANT_THREATENED ∷ rule.VARIABLE_NEEDED ∷ [])
variable_target access.Value form k = Breaks (rule.VARIABLE_NEEDED ∷ [])

-- The variables of a block: those of a unit, or those of the routine of a number, of which the first one that its
-- block declares has a number. The auxiliary variables are behind all of them, and the first of these has a number
-- too.
pub data Locals : Type 0 where
  OfUnit : (unit : List ℕ) (auxiliary : ℕ) → Locals
  OfRoutine : (routine first auxiliary : ℕ) → Locals

-- the auxiliary variables, which have the initial and the final value of a `for`, and the first one the value that a
-- tag is to have
abbrev pub initial_variable : Locals → Entire
initial_variable (OfUnit unit auxiliary) = tree.OfUnit unit auxiliary
initial_variable (OfRoutine routine first auxiliary) = tree.OfRoutine 0 auxiliary

abbrev pub last_variable : Locals → Entire
last_variable (OfUnit unit auxiliary) = tree.OfUnit unit (auxiliary + 1)
last_variable (OfRoutine routine first auxiliary) = tree.OfRoutine 0 (auxiliary + 1)

-- what an assignment to a tag works with in a block with these variables
abbrev pub tagging : Locals → TagType → Tagging
tagging locals tag = record { value = initial_variable locals; low = tag.low; high = tag.high }

-- an assignment to the variable at a place, or to a tag (ISO 10206, 6.5.3.3)
abbrev pub assignment : Locals → ℕ → Receiver → Expr → Stmt
assignment locals line (At place) x = tree.Assign line place x
assignment locals line (TagOf whole tag) x = tree.AssignTag line (tagging locals tag) whole tag.selection x

-- a value is assigned, which has code where it is built and what is assigned to is
abbrev pub assigned : Locals → ℕ → Target → Typed → Judged (Option Stmt)
assigned locals line target value =
    when_accepted (λ x. Accepts (map_both (assignment locals line) target.receiver x))
    (given_to (λ x. x) target.kind value.kind value.form)

-- ---- conditions (ISO 10206, 6.9.3)

abbrev pub tested : Kind → Option Expr → Judged (Option Expr)
tested (kind.Ordinal host.Boolean) form = Accepts form
tested _ form = Breaks (rule.CONDITION ∷ [])

abbrev pub condition : Judged Typed → Judged (Option Expr)
condition value = when_accepted (λ v. tested v.kind v.form) value

-- ---- `write` and `writeln` (ISO 10206, 6.10.3 and 6.10.4)

-- how values of this kind are printed, and whether they are
abbrev pub printed : Kind → Judged Print
printed (kind.Ordinal host.Integer) = Accepts print.Integer
printed (kind.Ordinal host.Char) = Accepts print.Char
printed (kind.Ordinal host.Boolean) = Accepts print.Boolean
printed (kind.Ordinal (host.Enumeration e)) = Breaks (rule.WRITTEN_TYPE ∷ [])
printed (kind.Structured n) = Breaks (rule.WRITTEN_TYPE ∷ [])
printed (kind.Set h) = Breaks (rule.WRITTEN_TYPE ∷ [])
printed kind.EmptySet = Breaks (rule.WRITTEN_TYPE ∷ [])
printed kind.Text = Accepts print.Text
printed kind.File = Breaks (rule.WRITTEN_TYPE ∷ [])

-- a value that is written
pub record Shown : Type 0 where
  pub print : Print
  pub form : Option Expr

abbrev pub shown : Typed → Judged Shown
shown value = when_accepted (λ how. Accepts (record { print = how; form = value.form })) (printed value.kind)

-- a width is an integer
abbrev pub measured : Kind → Option Expr → Judged (Option Expr)
measured (kind.Ordinal host.Integer) form = Accepts form
measured _ form = Breaks (rule.WIDTH ∷ [])

abbrev pub width_judged : Option (Judged Typed) → Judged (Option (Option Expr))
width_judged None = Accepts None
width_judged (Some width) =
    when_accepted (λ w. when_accepted (λ form. Accepts (Some form)) (measured w.kind w.form)) width

-- what is written for a parameter, where it is built
abbrev pub item_form : Print → Option Expr → Option (Option Expr) → Option Item
item_form how None width = None
item_form how (Some x) None = Some (tree.Plain how x)
item_form how (Some x) (Some width) = option_map (tree.Wide how x) width

abbrev pub item_judged : Given → Judged (Option Item)
item_judged g =
    both (λ value width. Accepts (item_form value.print value.form width)) (when_accepted shown g.value)
    (width_judged g.width)

-- one more in front, where all are built
abbrev pub one_more : {A : Type 0} → Option A → Option (List A) → Option (List A)
one_more None more = None
one_more (Some x) more = option_map (λ xs. x ∷ xs) more

-- one more at the end, where all are built
abbrev pub one_after : {A : Type 0} → Option (List A) → Option A → Option (List A)
one_after xs None = None
one_after None (Some x) = None
one_after (Some xs) (Some x) = Some (xs ++ x ∷ [])

-- what is written for parameters, in order
abbrev pub items_judged : List Given → Judged (Option (List Item))
items_judged [] = Accepts (Some [])
items_judged (g ∷ gs) = both (λ i is. Accepts (one_more i is)) (item_judged g) (items_judged gs)

-- `write` has at least one parameter besides the file
abbrev pub something : Bool → List Given → Judged (Unit {0})
something false [] = Breaks (rule.ARGUMENTS ∷ [])
something _ gs = Accepts tt

-- writing to `input` is accepted, and not built
abbrev pub to_file : StandardFile → Option Stmt → Option Stmt
to_file file.Input form = None
to_file file.Output form = form

-- these parameters are written to a file, on a line that ends where the mark says so
abbrev pub written : StandardFile → ℕ → Bool → List Given → Judged (Option Stmt)
written f line ends_line gs =
    both (λ some items. Accepts (to_file f (option_map (λ is. tree.Write line is ends_line) items)))
    (something ends_line gs) (items_judged gs)

-- a standard file that is used by default is a parameter of the program or the module, or is imported
abbrev pub available : StandardFiles → StandardFile → Judged (Unit {0})
available files f = if is_usable files f then Accepts tt else Breaks (rule.STANDARD_FILE ∷ [])

-- ---- statements

-- an `if` statement, by its condition and its parts (ISO 10206, 6.9.3.4)
abbrev pub if_judged : ℕ → Judgement Expr → Judgement Stmt → Judgement Stmt → Judgement Stmt
if_judged line test then_part else_part =
    after (λ form. λ (parts : Stmt × Stmt). tree.If line form parts.0 parts.1) test
    (after (λ a b. (a, b)) then_part else_part)

-- a `repeat` statement, by its condition, which has the line of its first word, and its statements (ISO 10206,
-- 6.9.3.7)
abbrev pub repeat_judged : ℕ → Judgement Expr → Judgement Stmts → Judgement Stmt
repeat_judged line test body = after (λ form statements. tree.Repeat line statements form) test body

-- a `case` statement, by the form of its selector, its arms and its `otherwise` part (ISO 10206, 6.9.3.5)
abbrev pub case_row : ℕ → Judged (Option Expr) → Judgement Arms → Judgement Other → Judgement Stmt
case_row line selector arms other =
    after (λ x. λ (parts : Arms × Other). tree.Case line x parts.0 parts.1) (at_item line selector)
    (after (λ a b. (a, b)) arms other)

-- by its selector with the labels, what its form is then, its arms for a host of the selector, and its `otherwise`
-- part
abbrev pub case_judged : ℕ → (Option Expr → Judged (Option Expr)) → Judged CaseSelector → (Host → Judgement Arms)
    → (Judgement Arms → Judgement Other) → Judgement Stmt
case_judged line form (Breaks rules) arms other = Fails line rules
case_judged line form (Accepts s) arms other = case_row line (form s.form) (arms s.host) (other (arms s.host))

-- ---- `for` (ISO 10206, 6.9.3.9)

-- whether a variable of a unit, or one of a routine, is declared in the block, whose code has a depth
abbrev pub declares_variable : Locals → List ℕ → Bool
declares_variable (OfUnit unit auxiliary) of_unit = bytes_eq of_unit unit
declares_variable (OfRoutine routine first auxiliary) of_unit = false

abbrev pub declares_own : Locals → ℕ → Declared → Bool
declares_own (OfUnit unit auxiliary) depth d = false
declares_own (OfRoutine routine first auxiliary) depth d = d.level == depth && nat_le first d.number

-- what is no variable that the block declares is no control variable; formal parameters and results are none (own)
abbrev pub no_control : {A : Type 0} → List ℕ → Judged A
no_control rules = Breaks (rule.CONTROL_VARIABLE ∷ rules)

-- a variable that the block declares, and the kind of its type
pub record Named : Type 0 where
  pub variable : Entire
  pub kind : Kind

-- it is one where the block declares it and it is not protected, since the `for` threatens it (ISO 10206, 6.9.4)
abbrev pub control_if : Bool → Protection → Named → Judged Named
control_if true guarded v = when_accepted (λ done. Accepts v) (unless_protected guarded)
control_if false guarded v = no_control (faults (unless_protected guarded))

-- a declared name as a control variable
abbrev pub declared_control : Locals → ℕ → Declared → Declaration → Judged Named
declared_control locals depth d (declaration.Variable of k guarded) =
    control_if (declares_variable locals d.unit) guarded
    (record { variable = tree.OfUnit d.unit d.number; kind = k })
declared_control locals depth d (declaration.Own of k guarded) =
    control_if (declares_own locals depth d) guarded
    (record { variable = tree.OfRoutine (depth - d.level) d.number; kind = k })
declared_control locals depth d (declaration.Constant k value deep) =
    no_control (rule.CONSTANT_THREATENED ∷ rule.VARIABLE_NEEDED ∷ [])
declared_control locals depth d (declaration.«Type» of h nodes) =
    no_control (rule.OTHER_THING ∷ rule.VARIABLE_NEEDED ∷ [])
declared_control locals depth d (declaration.Procedure parameters) =
    no_control (rule.OTHER_THING ∷ rule.VARIABLE_NEEDED ∷ [])
declared_control locals depth d (declaration.Function parameters of h) =
    no_control (rule.OTHER_THING ∷ rule.VARIABLE_NEEDED ∷ [])

-- a name that means this
abbrev pub control_named : Locals → ℕ → List ℕ → Meant → Judged Named
control_named locals depth name (Declares d) = declared_control locals depth d d.what
control_named locals depth name (Standard f) = no_control (rule.ORDINAL ∷ [])
control_named locals depth name (Requires r) = no_control (target_rules r)
control_named locals depth name (FieldOf f) = no_control []
control_named locals depth name Nothing = Breaks (undeclared name)

-- a control variable and the host of its type, which is ordinal
pub record Counted : Type 0 where
  pub variable : Entire
  pub host : Host

abbrev pub counted_by : Entire → Kind → Judged Counted
counted_by variable (kind.Ordinal h) = Accepts (record { variable = variable; host = h })
counted_by variable _ = Breaks (rule.ORDINAL ∷ [])

-- One that a routine of the block threatens is none, however deep it is (ISO 10206, 6.9.3.9.1). Variables of a unit
-- are the same from everywhere; in the block of a routine no variable of a unit counts.
abbrev pub is_threatened_in : Locals → Callees → Entire → Bool
is_threatened_in (OfUnit unit auxiliary) callees variable =
    list_any (λ r. threatens (formals_at callees) variable r.block) callees.own
is_threatened_in (OfRoutine routine first auxiliary) callees (tree.OfRoutine up number) =
    inner_threatens routine callees number
is_threatened_in (OfRoutine routine first auxiliary) callees variable = false

abbrev pub unless_threatened_in : Locals → Callees → Counted → Judged Counted
unless_threatened_in locals callees c =
    if is_threatened_in locals callees c.variable then Breaks (rule.CONTROL_THREATENED ∷ []) else Accepts c

abbrev pub falls_by : Direction → Bool
falls_by direction.To = false
falls_by direction.Downto = true

-- what a `for` with this control variable counts with
abbrev pub for_control : Locals → Bool → Counted → Control
for_control locals falls c =
    record {
      variable = c.variable;
      initial = initial_variable locals;
      last = last_variable locals;
      falls = falls;
      low = least (typed_host c.host);
      high = greatest (typed_host c.host);
    }

-- a `for` statement without its body
pub record ForHead : Type 0 where
  pub control : Control
  pub initial : Expr
  pub last : Expr

abbrev pub for_head : Locals → Bool → Counted → Expr → Expr → ForHead
for_head locals falls c x y = record { control = for_control locals falls c; initial = x; last = y }

-- a bound is a value of the control variable's host
abbrev pub bound_judged : Host → Typed → Judged (Option Expr)
bound_judged h value = given_to (λ x. x) (kind.Ordinal h) value.kind value.form

-- the bounds, where they are judged so
abbrev pub bounds_judged : Locals → Bool → Counted → Judged Typed → Judged Typed → Judged (Option ForHead)
bounds_judged locals falls c x y =
    both (λ initial last. Accepts (map_both (for_head locals falls c) initial last))
    (when_accepted (bound_judged c.host) x) (when_accepted (bound_judged c.host) y)

-- ---- `for` over the members of a set (ISO 10206, 6.9.3.9.3)

-- the variable of this number, among those of the block
abbrev pub block_variable : Locals → ℕ → Entire
block_variable (OfUnit unit auxiliary) number = tree.OfUnit unit number
block_variable (OfRoutine routine first auxiliary) number = tree.OfRoutine 0 number

-- what a `for` over members with this control variable goes by
abbrev pub member_control : Locals → ℕ → Counted → MemberControl
member_control locals number c = record { variable = c.variable; rest = block_variable locals number }

-- a `for` over members without its body
pub record MemberHead : Type 0 where
  pub control : MemberControl
  pub set : Expr

abbrev pub member_head : Locals → ℕ → Counted → Expr → MemberHead
member_head locals number c x = record { control = member_control locals number c; set = x }

-- the expression is a set over the control variable's host, or the empty set
abbrev pub set_judged : Host → Typed → Judged (Option Expr)
set_judged h value = given_to (λ x. x) (kind.Set h) value.kind value.form

-- the head, where the expression is judged so
abbrev pub members_judged : Locals → ℕ → Counted → Judged Typed → Judged (Option MemberHead)
members_judged locals number c x =
    when_accepted (λ set. Accepts (option_map (member_head locals number c) set)) (when_accepted (set_judged c.host) x)

-- ---- threats in the body of a `for` (ISO 10206, 6.9.3.9.1)

-- what threatens one of these control variables is no item of the body
abbrev pub unless_threatening : {A : Type 0} → (Entire → A → Bool) → List Entire → Judged (Option A)
    → Judged (Option A)
unless_threatening threat controls (Accepts None) = Accepts None
unless_threatening threat controls (Accepts (Some form)) =
    if list_any (λ v. threat v form) controls then Breaks (rule.CONTROL_THREATENED ∷ []) else Accepts (Some form)
unless_threatening threat controls (Breaks rules) = Breaks rules

-- the items that are one: a statement without statements inside, an expression of a statement, or a `for` of either
-- form without its body
abbrev pub stmt_threat : Callees → Entire → Stmt → Bool
stmt_threat callees v s = threatens (formals_at callees) v s

abbrev pub expr_threat : Callees → Entire → Expr → Bool
expr_threat callees v x = expr_threatens (formals_at callees) v x

abbrev pub head_threat : Callees → Entire → ForHead → Bool
head_threat callees v h =
    is_variable v (tree.entire h.control.variable)
    || (expr_threat callees v h.initial || expr_threat callees v h.last)

abbrev pub member_threat : Callees → Entire → MemberHead → Bool
member_threat callees v h = is_variable v (tree.entire h.control.variable) || expr_threat callees v h.set

-- a `for` by its head and its body
abbrev pub for_row : ℕ → Judgement ForHead → Judgement Stmt → Judgement Stmt
for_row line head body = after (λ h s. tree.For line h.control h.initial h.last s) head body

-- a `for` over members so
abbrev pub for_in_row : ℕ → Judgement MemberHead → Judgement Stmt → Judgement Stmt
for_in_row line head body = after (λ h s. tree.ForIn line h.control h.set s) head body

-- `halt` has no arguments
abbrev pub halt_judged : ℕ → List Argument → Judged (Option Stmt)
halt_judged line [] = Accepts (Some (tree.Halt line))
halt_judged line (first ∷ more) = Breaks (rule.ARGUMENTS ∷ [])

-- What a block knows: its unit, its scopes, the innermost first, which standard files are parameters or imported, the
-- functions in whose blocks it is and whose results have no names, the innermost first, its own variables, the number
-- of the auxiliary variable of `for` over members among these, the routines that it may call, and the number of the
-- variable of the next `with`.
pub record Context : Type 0 where
  pub unit : List ℕ
  pub scopes : List Region
  pub files : StandardFiles
  pub results : List FunctionResult
  pub locals : Locals
  pub members : ℕ
  pub callees : Callees
  pub withs : ℕ

-- ---- statements in statements

-- What a row comes to in a block, inside of the `for` statements that have these control variables, the innermost
-- first.
abbrev pub Under : Type 0 → Type 0
Under A = Context → List Entire → Judgement A

-- Behind a row, where each of its `with` statements has had a variable.
abbrev pub behind : {A : Type 0} → (A → List UnitVariable) → Context → Judgement A → Context
behind withs c (Passes a) = record c { withs = c.withs + length (withs a) }
behind withs c (Waits line) = c
behind withs c (Fails line rules) = c

-- statements in order
abbrev pub in_order : List (Under Stmt) → Under Stmts
in_order [] c controls = Passes tree.none
in_order (s ∷ ss) c controls =
    after tree.next (s c controls) (in_order ss (behind with_variables c (s c controls)) controls)

-- an arm of a `case`: its labels, which belong to the statement itself, and its statement
abbrev pub ArmJudged : Type 0
ArmJudged = List Label × Under Stmt

-- an arm of a `case` on a line, whose selector has a host
abbrev pub arm_row : ℕ → Host → ArmJudged → Under Arm
arm_row line h a c controls =
    after (λ ranges s. (ranges, s)) (at_item line (own_ranges c.scopes h a.0)) (a.1 c controls)

-- the arms of a `case` in order
abbrev pub arms_in_order : ℕ → Host → List ArmJudged → Under Arms
arms_in_order line h [] c controls = Passes tree.no_arm
arms_in_order line h (a ∷ arms) c controls =
    after (λ x more. tree.next_arm x.0 x.1 more) (arm_row line h a c controls)
    (arms_in_order line h arms (behind (λ (x : Arm). with_variables x.1) c (arm_row line h a c controls)) controls)

-- the `else` part of an `if` behind its `then` part; a missing one is the empty statement
abbrev pub else_judged : Option (Under Stmt) → Context → List Entire → Judgement Stmt → Judgement Stmt
else_judged None c controls then_part = Passes tree.Empty
else_judged (Some s) c controls then_part = s (behind with_variables c then_part) controls

-- the `otherwise` part of a `case` behind its arms
abbrev pub other_judged : Option (Under Stmts) → Context → List Entire → Judgement Arms → Judgement Other
other_judged None c controls arms = Passes tree.no_other
other_judged (Some ss) c controls arms = formed tree.otherwise_do (ss (behind with_variables_in c arms) controls)

-- the text file that a name means
abbrev pub file_meant : Meant → Option StandardFile
file_meant (Standard f) = Some f
file_meant _ = None

-- the arguments of a call, which are none or stand in one pair of parentheses; what has other selectors is no call
abbrev pub call_arguments : List Selector → Option (List Argument)
call_arguments [] = Some []
call_arguments (s ∷ []) = arguments_in (out-Selector s)
call_arguments _ = None

-- A component is no statement (ISO 10206, 6.9.2.3): the rules that fail where one stands behind what is declared,
-- where one of a required identifier, and where one of a name that means this.
abbrev pub declared_rules : Declaration → List ℕ
declared_rules (declaration.Procedure parameters) = rule.PROCEDURE ∷ rule.OTHER_THING ∷ []
declared_rules (declaration.Function parameters of h) = rule.PROCEDURE ∷ []
declared_rules (declaration.Constant k value deep) = rule.OTHER_THING ∷ []
declared_rules (declaration.«Type» of h nodes) = rule.OTHER_THING ∷ []
declared_rules (declaration.Variable of k guarded) = rule.OTHER_THING ∷ []
declared_rules (declaration.Own of k guarded) = rule.OTHER_THING ∷ []

abbrev pub required_rules : Required → List ℕ
required_rules (required.Constant c) = rule.OTHER_THING ∷ []
required_rules (required.«Type» t) = rule.OTHER_THING ∷ []
required_rules (required.Function f) = rule.PROCEDURE ∷ []
required_rules (required.Procedure p) = rule.PROCEDURE ∷ rule.OTHER_THING ∷ []

abbrev pub component_rules : List ℕ → Meant → List ℕ
component_rules name (Declares d) = declared_rules d.what
component_rules name (Standard f) = rule.OTHER_THING ∷ []
component_rules name (Requires r) = required_rules r
component_rules name (FieldOf f) = rule.OTHER_THING ∷ []
component_rules name Nothing = undeclared name

module _ (context : Context) where
  -- the text file that a parameter is, where it is a name without a width
  abbrev pub file_named : Option (List ℕ) → Option Expression → Option StandardFile
  file_named (Some name) None = file_meant (meant context.scopes name)
  file_named _ _ = None

  abbrev pub file_given : Argument → Option StandardFile
  file_given a = file_named (as_identifier (out-Argument a).value) (out-Argument a).width

  -- what is written where no file is given
  abbrev pub usually_written : ℕ → Bool → List Argument → Judged (Option Stmt)
  usually_written line ends_line arguments =
      both (λ form there. Accepts form) (written file.Output line ends_line (map (given context.scopes) arguments))
      (available context.files file.Output)

  abbrev pub written_or : Option StandardFile → ℕ → Bool → Argument → List Argument → Judged (Option Stmt)
  written_or (Some f) line ends_line first more = written f line ends_line (map (given context.scopes) more)
  written_or None line ends_line first more = usually_written line ends_line (first ∷ more)

  -- The file is the first parameter where that is one, and else `output`. With the mark it is `writeln`.
  abbrev pub write_judged : ℕ → Bool → List Argument → Judged (Option Stmt)
  write_judged line ends_line [] = usually_written line ends_line []
  write_judged line ends_line (first ∷ more) = written_or (file_given first) line ends_line first more

  -- a required procedure is called (ISO 10206, 6.9.2.3)
  abbrev pub procedure_called : ℕ → Procedure → List Argument → Judged (Option Stmt)
  procedure_called line procedure.Halt [] = Accepts (Some (tree.Halt line))
  procedure_called line procedure.Halt (a ∷ arguments) = Breaks (rule.ARGUMENTS ∷ [])
  procedure_called line procedure.Write arguments = write_judged line false arguments
  procedure_called line procedure.WriteLine arguments = write_judged line true arguments

  -- a required identifier is called; a function is no statement
  abbrev pub required_called : ℕ → Required → List Argument → Judged (Option Stmt)
  required_called line (required.Constant c) arguments = Breaks (rule.OTHER_THING ∷ [])
  required_called line (required.«Type» t) arguments = Breaks (rule.OTHER_THING ∷ [])
  required_called line (required.Function f) arguments = Breaks (rule.PROCEDURE ∷ [])
  required_called line (required.Procedure p) arguments = procedure_called line p arguments

  -- a procedure of a unit is called (ISO 10206, 6.9.2.3)
  abbrev pub own_called : ℕ → Declared → List FormalParameter → List Argument → Judged (Option Stmt)
  own_called line d parameters arguments =
      when_accepted
      (λ t. Accepts
      (option_map (λ xs. tree.Procedure line (callee_at (depth_in context.scopes) d)
      (tree.actuals xs)) t.actuals))
      (arguments_judged parameters (map (given context.scopes) arguments))

  -- nothing else that is declared is a statement; a function is none whatever its arguments
  abbrev pub declared_called : ℕ → Declared → Declaration → List Argument → Judged (Option Stmt)
  declared_called line d (declaration.Procedure parameters) arguments = own_called line d parameters arguments
  declared_called line d (declaration.Function parameters of h) arguments = Breaks (rule.PROCEDURE ∷ [])
  declared_called line d (declaration.Constant k value deep) arguments = Breaks (rule.OTHER_THING ∷ [])
  declared_called line d (declaration.«Type» of h nodes) arguments = Breaks (rule.OTHER_THING ∷ [])
  declared_called line d (declaration.Variable of k guarded) arguments = Breaks (rule.OTHER_THING ∷ [])
  declared_called line d (declaration.Own of k guarded) arguments = Breaks (rule.OTHER_THING ∷ [])

  -- a statement of a name that means this, with these arguments
  abbrev pub call_judged : ℕ → List ℕ → Meant → List Argument → Judged (Option Stmt)
  call_judged line name (Declares d) arguments = declared_called line d d.what arguments
  call_judged line name (Standard f) arguments = Breaks (rule.OTHER_THING ∷ [])
  call_judged line name (Requires r) arguments = required_called line r arguments
  call_judged line name (FieldOf f) arguments = Breaks (rule.OTHER_THING ∷ [])
  call_judged line name Nothing arguments = Breaks (undeclared name)

  abbrev pub name_called : ℕ → List ℕ → Option (List Argument) → Judged (Option Stmt)
  name_called line name None = Breaks (component_rules name (meant context.scopes name))
  name_called line name (Some arguments) = call_judged line name (meant context.scopes name) arguments

  -- what is assigned to: a name, which may be that of a function, or the variable that an access with these selectors
  -- denotes
  abbrev pub target_of_selectors : syntax_access.Access → List Selector → Judged Target
  target_of_selectors a [] =
      place_named (depth_in context.scopes) context.unit context.results (out-Access a).name
      (meant context.scopes (out-Access a).name)
  target_of_selectors a (s ∷ more) =
      when_accepted (λ t. variable_target t.access t.form t.kind) (name_judged context.scopes a)

  abbrev pub target_judged : syntax_access.Access → Judged Target
  target_judged a = target_of_selectors a (out-Access a).selectors

  -- the value that is assigned, which may be a structured value without the name of its type
  abbrev pub value_judged : syntax_access.Access → ComponentValue → Judged Typed
  value_judged a v = judged_value context.scopes v (asked_of (target_judged a))

  -- an item of a statement inside of `for` statements with these control variables
  abbrev pub stmt_item : List Entire → ℕ → Judged (Option Stmt) → Judgement Stmt
  stmt_item controls line s = at_item line (unless_threatening (stmt_threat context.callees) controls s)

  -- an expression of a statement there
  abbrev pub expr_item : List Entire → Judged (Option Expr) → Judged (Option Expr)
  expr_item controls x = unless_threatening (expr_threat context.callees) controls x

  -- a statement with this condition
  abbrev pub condition_judged : List Entire → ℕ → Expression → Judgement Expr
  condition_judged controls line e = at_item line (expr_item controls (condition (judged context.scopes e)))

  -- a name as the control variable of a `for`
  abbrev pub control_judged : List ℕ → Judged Counted
  control_judged name =
      when_accepted (unless_threatened_in context.locals context.callees)
      (when_accepted (λ v. counted_by v.variable v.kind)
      (control_named context.locals (depth_in context.scopes) name (meant context.scopes name)))

-- a `for` statement, by its control variable
abbrev pub for_judged : Context → List Entire → ℕ → Judged Counted → Bool → Expression → Expression → Under Stmt
    → Judgement Stmt
for_judged context controls line (Breaks rules) falls start end body = Fails line rules
for_judged context controls line (Accepts c) falls start end body =
    for_row line
    (at_item line
    (unless_threatening (head_threat context.callees) controls (bounds_judged context.locals falls c
    (judged context.scopes start) (judged context.scopes end))))
    (body context (c.variable ∷ controls))

-- a `for` statement over members, by its control variable
abbrev pub for_in_judged : Context → List Entire → ℕ → Judged Counted → Expression → Under Stmt → Judgement Stmt
for_in_judged context controls line (Breaks rules) set body = Fails line rules
for_in_judged context controls line (Accepts c) set body =
    for_in_row line
    (at_item line
    (unless_threatening (member_threat context.callees) controls (members_judged context.locals
    context.members c (judged context.scopes set))))
    (body context (c.variable ∷ controls))

-- ---- `with` (ISO 10206, 6.9.3.10)

-- A record variable that a `with` names: the number of its type, whether it is protected, its fields, and its place,
-- where it is built.
pub record RecordNamed : Type 0 where
  pub of : ℕ
  pub guarded : Protection
  pub fields : List FieldType
  pub place : Option Place

-- what is named is a variable of a record type, by the structured types in view
abbrev pub record_made : ℕ → Protection → Option Expr → Option Composition → Judged RecordNamed
record_made n guarded form (Some (composition.Record fs)) =
    Accepts (record { of = n; guarded = guarded; fields = fs; place = place_read form })
record_made n guarded form _ = Breaks (rule.WITH_RECORD ∷ [])

abbrev pub record_of_kind : List Region → Protection → Option Expr → Kind → Judged RecordNamed
record_of_kind scopes guarded form (kind.Structured n) = record_made n guarded form (structure_in scopes n)
record_of_kind scopes guarded form _ = Breaks (rule.WITH_RECORD ∷ [])

abbrev pub record_accessed : List Region → Access → Option Expr → Kind → Judged RecordNamed
record_accessed scopes (access.Variable of guarded) form k = record_of_kind scopes guarded form k
record_accessed scopes _ form k = Breaks (rule.WITH_RECORD ∷ [])

-- where the place is built
abbrev pub with_head : Entire → ℕ → Option Place → Option WithRecord
with_head v of place = option_map (λ p. record { variable = v; of = of; place = p }) place

-- the scopes in the statement of a `with`, the number of the variable of the next one, and the records, where they are
-- built
pub record Opened : Type 0 where
  pub scopes : List Region
  pub withs : ℕ
  pub heads : Option (List WithRecord)

abbrev pub none_opened : Context → Opened
none_opened c = record { scopes = c.scopes; withs = c.withs; heads = Some [] }

-- one record more, which is open inside of those before it
abbrev pub one_opened : Locals → Opened → RecordNamed → Opened
one_opened locals o r =
    record {
      scopes =
          within (record { variable = block_variable locals o.withs; guarded = r.guarded; fields = r.fields })
          o.scopes;
      withs = o.withs + 1;
      heads = one_after o.heads (with_head (block_variable locals o.withs) r.of r.place);
    }

-- a record that is named where others are open
abbrev pub record_opened : Context → syntax_access.Access → Opened → Judged Opened
record_opened c a o =
    when_accepted (λ r. Accepts (one_opened c.locals o r))
    (when_accepted (λ t. record_accessed c.scopes t.access t.form t.kind) (name_judged o.scopes a))

-- what stands in a list sees the fields of what stands before it: `with a, b do s` is `with a do with b do s`
abbrev pub records_opened : Context → List syntax_access.Access → Opened → Judged Opened
records_opened c [] o = Accepts o
records_opened c (a ∷ more) o = when_accepted (records_opened c more) (record_opened c a o)

-- a place of them threatens a variable, where an index does
abbrev pub place_threat : Callees → Entire → WithRecord → Bool
place_threat callees v h = place_threatens (formals_at callees) v h.place

abbrev pub heads_threat : Callees → Entire → List WithRecord → Bool
heads_threat callees v heads = list_any (place_threat callees v) heads

-- what is known in its statement
abbrev pub inside : Context → Opened → Context
inside c o = record c { scopes = o.scopes; withs = o.withs }

-- a `with` statement, of which all that stands before `do` is one item
abbrev pub with_judged : Context → List Entire → ℕ → Judged Opened → Under Stmt → Judgement Stmt
with_judged c controls line (Breaks rules) body = Fails line rules
with_judged c controls line (Accepts o) body =
    after (with_form line) (at_item line (unless_threatening (heads_threat c.callees) controls (Accepts o.heads)))
    (body (inside c o) controls)

-- ---- all statements

-- what the rules come to for each kind of node
abbrev pub statement_results : fold.StatementResults
statement_results =
    record { statement = Under Stmt; arm = ArmJudged; compound = Under Stmts; otherwise = Under Stmts }

abbrev pub at_statement : fold.StatementOf statement_results → Under Stmt
at_statement (Statement-F.Empty line) c controls = Passes tree.Empty
at_statement (Statement-F.Assignment line access v) c controls =
    stmt_item c controls line (both (assigned c.locals line) (target_judged c access) (value_judged c access v))
at_statement (Statement-F.Call line access) c controls =
    stmt_item c controls line
    (name_called c line (out-Access access).name (call_arguments (out-Access access).selectors))
at_statement (Statement-F.Compound statements) c controls = formed tree.Compound (statements c controls)
at_statement (Statement-F.If line e then_part other) c controls =
    if_judged line (condition_judged c controls line e) (then_part c controls)
    (else_judged other c controls (then_part c controls))
at_statement (Statement-F.While line e body) c controls =
    after (tree.While line) (condition_judged c controls line e) (body c controls)
at_statement (Statement-F.Case line e arms other) c controls =
    case_judged line (λ x. expr_item c controls (Accepts x)) (selector_judged c.scopes e (map (λ a. a.0) arms))
    (λ h. arms_in_order line h arms c controls) (other_judged other c controls)
at_statement (Statement-F.Repeat line statements e) c controls =
    repeat_judged line (condition_judged c controls line e) (in_order statements c controls)
at_statement (Statement-F.For line variable start toward end body) c controls =
    for_judged c controls line (control_judged c variable) (falls_by toward) start end body
at_statement (Statement-F.ForIn line variable set body) c controls =
    for_in_judged c controls line (control_judged c variable) set body
at_statement (Statement-F.With line accesses body) c controls =
    with_judged c controls line (records_opened c accesses (none_opened c)) body

abbrev pub at_compound : fold.CompoundOf statement_results → Under Stmts
at_compound k = in_order k.statements

abbrev pub at_arm : fold.ArmOf statement_results → ArmJudged
at_arm a = (a.labels, a.body)

abbrev pub at_otherwise : fold.OtherwiseOf statement_results → Under Stmts
at_otherwise o = in_order o.statements

-- these rules together
abbrev pub at_statements : fold.StatementRules statement_results
at_statements =
    record {
      statement = at_statement;
      arm = at_arm;
      compound = at_compound;
      otherwise = at_otherwise;
    }

abbrev pub statement_judged : Statement → Under Stmt
statement_judged = fold.of_statement at_statements

abbrev pub arm_judged : syntax.Arm → ArmJudged
arm_judged = fold.of_arm at_statements

abbrev pub otherwise_judged : Otherwise → Under Stmts
otherwise_judged = fold.of_otherwise at_statements

abbrev pub compound_under : Compound → Under Stmts
compound_under = fold.of_compound at_statements

-- the statements of a block, which stand in no `for`
abbrev pub compound_judged : Context → Compound → Judgement Stmts
compound_judged c k = compound_under k c []
