-- The table of the built forms: which names and which nodes are built, kind by kind. The head of Built.antt says it in
-- words.
use Rattle.std.specs.Prelude.{ℕ, pos, int_le, Bool, true, false, if◌then◌else◌, ◌&&◌, ◌||◌, not, is_some, length, ◌==◌}
use Rattle.std.specs.Prelude.{List, [], ◌∷◌, map, codes}
use Rattle.std.specs.List.{list_any, list_all}
use Rattle.std.specs.Str.{bytes_eq}
use Rattle.ep_tree.specs.declared.operator.QualifiedName.{QualifiedName}
use Rattle.ep_tree.specs.declared.operator.RelationalOperator.{RelationalOperator}
use Rattle.ep_tree.specs.declared.operator.AddingOperator.{AddingOperator}
use Rattle.ep_tree.specs.declared.operator.MultiplyingOperator.{MultiplyingOperator}
use Rattle.ep_tree.specs.declared.expression.ComponentValue.TheOpen.{Factor-F, Selector-F}
use Rattle.ep_tree.specs.declared.expression.Selector.{Selector, out-Selector}
use Rattle.ep_tree.specs.declared.expression.Access.{Access, out-Access}
use Rattle.ep_tree.specs.declared.types.Core.TheOpen.{Core-F, Plain-F, VariantPart-F}
use Rattle.ep_tree.specs.declared.types.VariantSelector.{VariantSelector}
use Rattle.ep_tree.specs.declared.types.VariantSelector.TheVariants as selector_is
use Rattle.ep_tree.specs.declared.declaration.FormalSection.{FormalSection}
use Rattle.ep_tree.specs.declared.declaration.FormalType.{FormalType}
use Rattle.ep_tree.specs.declared.declaration.FormalType.TheVariants as formal_is
use Rattle.ep_tree.specs.declared.declaration.RoutineHeading.{RoutineHeading}
use Rattle.ep_tree.specs.declared.declaration.RoutineHeading.TheVariants as heading_is
use Rattle.ep_tree.specs.declared.declaration.TypeDefinition.{TypeDefinition}
use Rattle.ep_tree.specs.declared.statement.Statement.TheOpen.{Statement-F}
use Rattle.ep_tree.specs.declared.routine.BlockPart.TheOpen.{Routine-F}
use Rattle.ep_tree.specs.declared.routine.RoutineStart.{RoutineStart}
use Rattle.ep_tree.specs.declared.routine.RoutineStart.TheVariants as start_is
use Rattle.ep_tree.specs.declared.component.Component.{Component}
use Rattle.ep_tree.specs.declared.component.Import.{Import}
use Rattle.ep_tree.specs.declared.component.Program.{Program}
use Rattle.ep_tree.specs.declared.component.Component.TheVariants as component_is

-- ---- names

-- whether a name is one of these
abbrev pub is_among : List (List ℕ) → List ℕ → Bool
is_among names name = list_any (bytes_eq name) names

-- the required functions (ISO 10206, 6.7.6) that are not built
unfoldable pub later_functions : List (List ℕ)
later_functions =
    codes "length" ∷ codes "index" ∷ codes "substr" ∷ codes "trim" ∷
    codes "eq" ∷ codes "ne" ∷ codes "lt" ∷ codes "gt" ∷ codes "le" ∷ codes "ge" ∷
    codes "eof" ∷ codes "eoln" ∷ codes "binding" ∷ []

-- the required procedures (ISO 10206, 6.7.5) that are not built
unfoldable pub later_procedures : List (List ℕ)
later_procedures =
    codes "read" ∷ codes "readln" ∷ codes "readstr" ∷ codes "writestr" ∷ codes "new" ∷ codes "dispose" ∷
    codes "reset" ∷ codes "rewrite" ∷ codes "extend" ∷ codes "bind" ∷ codes "unbind" ∷ []

-- the required types (ISO 10206, 6.4) that are not built
unfoldable pub later_types : List (List ℕ)
later_types = codes "text" ∷ codes "string" ∷ codes "bindingtype" ∷ []

-- whether a name is not built
abbrev pub is_later : List ℕ → Bool
is_later name = is_among later_functions name || is_among later_procedures name || is_among later_types name

-- the required procedures that write their arguments
unfoldable pub writing_procedures : List (List ℕ)
writing_procedures = codes "write" ∷ codes "writeln" ∷ []

-- whether a call of a name writes its arguments
abbrev pub writes : List ℕ → Bool
writes name = is_among writing_procedures name

-- the parameters that a program may have
unfoldable pub program_parameters : List (List ℕ)
program_parameters = codes "input" ∷ codes "output" ∷ []

-- ---- nodes

-- a component is a program
abbrev pub built_component : Component → Bool
built_component (component_is.Program p) = true
built_component _ = false

-- a program has no other parameters than these, each any number of times
abbrev pub built_program : Program → Bool
built_program p = list_all (is_among program_parameters) p.parameters

-- no import is built
abbrev pub built_import : Import → Bool
built_import i = false

-- the name of a type comes from an interface, or is built
abbrev pub built_type_name : QualifiedName → Bool
built_type_name name = is_some name.second || not (is_later name.first)

-- the heading of a function names the type of its result (ISO 10206, 6.7.2), with or without a name of the result
abbrev pub built_heading : RoutineHeading → Bool
built_heading (heading_is.Procedure line name formals) = true
built_heading (heading_is.Function line name formals own result) = built_type_name result

-- a routine starts with such a heading, or with the name alone of a function that is declared `forward`
abbrev pub built_start : RoutineStart → Bool
built_start (start_is.Heading heading) = built_heading heading
built_start (start_is.Function line name) = true

-- a routine is a procedure or a function that starts so, in the block of a program or of a routine
abbrev pub built_routine : {A B C : Type 0} → Routine-F A B C → Bool
built_routine r = built_start r.start

-- a type definition has no discriminants
abbrev pub built_type_definition : TypeDefinition → Bool
built_type_definition d = length d.discriminants == 0

-- a type denoter without its initial state is not `bindable`
abbrev pub built_plain : {A B C D E F G H : Type 0} → Plain-F A B C D E F G H → Bool
built_plain p = not p.bindable

-- the type of a formal section is a name, and not that of a variable
abbrev pub built_formal_type : FormalType → Bool
built_formal_type (formal_is.Named name) = built_type_name name
built_formal_type _ = false

-- a formal section has such a type, with or without `protected` and `var`
abbrev pub built_section : FormalSection → Bool
built_section s = built_formal_type s.of

-- a type is a name without a tuple, a subrange, an enumeration or a structure that is not `packed`
abbrev pub built_core : {A B C D E F G H : Type 0} → Core-F A B C D E F G H → Bool
built_core (Core-F.Named line name tuple) = (length tuple == 0) && built_type_name name
built_core (Core-F.Range line low high) = true
built_core (Core-F.Enumeration line names) = true
built_core (Core-F.Structured line packed structure) = not packed
built_core _ = false

-- variants are selected by a tag of a type whose name is built
abbrev pub built_selector : VariantSelector → Bool
built_selector (selector_is.Tag line name of) = built_type_name of
built_selector (selector_is.Discriminant line name) = false

-- so a variant part has such a selector
abbrev pub built_variant_part : {A B C D E F G H : Type 0} → VariantPart-F A B C D E F G H → Bool
built_variant_part p = built_selector p.selector

-- what a selector is to its access
pub data SelectorForm : Type 0 where
  Indexes : SelectorForm
  Field : SelectorForm
  Parentheses : SelectorForm
  Other : SelectorForm

-- the form of a selector, by what it has
abbrev pub form_of_selector :
    {A B C D E F G H I J K L M N : Type 0} → Selector-F A B C D E F G H I J K L M N → SelectorForm
form_of_selector (Selector-F.Index line indexes) = Indexes
form_of_selector (Selector-F.Field line name) = Field
form_of_selector (Selector-F.Arguments line arguments) = Parentheses
form_of_selector _ = Other

-- the form of a selector
abbrev pub selector_form : Selector → SelectorForm
selector_form selector = form_of_selector (out-Selector selector)

-- whether a selector is one of components: indexes, or a field (ISO 10206, 6.5.3.2 and 6.5.3.3)
abbrev pub is_component : SelectorForm → Bool
is_component Indexes = true
is_component Field = true
is_component _ = false

-- whether a selector is a pair of parentheses
abbrev pub is_call : SelectorForm → Bool
is_call Parentheses = true
is_call _ = false

-- the selectors behind a pair of parentheses that comes first, or all where none does
abbrev pub behind_call : List SelectorForm → List SelectorForm
behind_call [] = []
behind_call (form ∷ forms) = if is_call form then forms else form ∷ forms

-- whether selectors are indexes and fields, alone or behind a pair of parentheses
abbrev pub are_components : List SelectorForm → Bool
are_components forms = list_all is_component (behind_call forms)

-- what is assigned to is a name that is built, alone or with such selectors
abbrev pub built_target : Access → Bool
built_target a = are_components (map selector_form (out-Access a).selectors) && not (is_later (out-Access a).name)

-- the control variable of a `for` has a name that is built
abbrev pub built_control : List ℕ → Bool
built_control name = not (is_later name)

-- a call is one of a name that is built, alone or with such selectors
abbrev pub built_call : Access → Bool
built_call a = are_components (map selector_form (out-Access a).selectors) && not (is_later (out-Access a).name)

-- a statement of any form, which is one of its own form for an assignment, a call and a `for`
abbrev pub built_statement : {A B C D : Type 0} → Statement-F A B C D → Bool
built_statement (Statement-F.Empty line) = true
built_statement (Statement-F.Assignment line access value) = built_target access
built_statement (Statement-F.Call line access) = built_call access
built_statement (Statement-F.Compound compound) = true
built_statement (Statement-F.If line condition body other) = true
built_statement (Statement-F.Case line selector arms other) = true
built_statement (Statement-F.While line condition body) = true
built_statement (Statement-F.Repeat line statements condition) = true
built_statement (Statement-F.For line variable start direction end body) = built_control variable
built_statement (Statement-F.ForIn line variable members body) = built_control variable
built_statement (Statement-F.With line accesses body) = true

-- all relational operators
abbrev pub built_relation : RelationalOperator → Bool
built_relation _ = true

-- all adding operators
abbrev pub built_adding : AddingOperator → Bool
built_adding _ = true

-- all multiplying operators
abbrev pub built_multiplying : MultiplyingOperator → Bool
built_multiplying _ = true

-- a character string of length one
abbrev pub is_character : List ℕ → Bool
is_character (byte ∷ []) = true
is_character _ = false

-- a number of a text has no sign
abbrev pub built_factor : {A B C D E F G H I J K L M N : Type 0} → Factor-F A B C D E F G H I J K L M N → Bool
built_factor (Factor-F.Access access) = true
built_factor (Factor-F.Number line number) = int_le (pos 0) number
built_factor (Factor-F.Text line text) = is_character text
built_factor (Factor-F.Parenthesized line inner) = true
built_factor (Factor-F.Not line inner) = true
built_factor (Factor-F.Set line labels) = true
built_factor (Factor-F.Structured line name values) = built_type_name name
built_factor _ = false

-- an access is a name that is built, alone or called (ISO 10206, 6.8.5), with indexes and fields or without (6.5.3 and
-- 6.8.6)
abbrev pub built_access : List ℕ → List SelectorForm → Bool
built_access name forms = are_components forms && not (is_later name)
