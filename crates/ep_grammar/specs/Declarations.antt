-- The productions of definitions and declarations (ISO 10206, 6.2, 6.3, 6.4, 6.5 and 6.7).
use Rattle.std.specs.Prelude.{ℕ, List, [], ◌∷◌, Option, Some, None}
use Rattle.ep_token.specs.declared.symbol.TheConstants as sym
use Rattle.ep_token.specs.declared.word.TheConstants as word
use Rattle.ep_tree.specs.declared.operator.QualifiedName.{QualifiedName}
use Rattle.ep_tree.specs.declared.declaration.Constants.{Constants}
use Rattle.ep_tree.specs.declared.declaration.ConstantDefinition.{ConstantDefinition}
use Rattle.ep_tree.specs.declared.declaration.Types.{Types}
use Rattle.ep_tree.specs.declared.declaration.TypeDefinition.{TypeDefinition}
use Rattle.ep_tree.specs.declared.declaration.DiscriminantSection.{DiscriminantSection}
use Rattle.ep_tree.specs.declared.declaration.Variables.{Variables}
use Rattle.ep_tree.specs.declared.declaration.VariableDeclaration.{VariableDeclaration}
use Rattle.ep_tree.specs.declared.declaration.RoutineHeading.{RoutineHeading}
use Rattle.ep_tree.specs.declared.declaration.FormalSection.{FormalSection}
use Rattle.ep_tree.specs.declared.declaration.FormalType.{FormalType}
use Rattle.ep_tree.specs.declared.routine.BlockPart.{BlockPart}
use Rattle.ep_tree.specs.declared.routine.Routine.{Routine}
use Rattle.ep_tree.specs.declared.routine.RoutineStart.{RoutineStart}
use Rattle.ep_tree.specs.declared.routine.RoutineBody.{RoutineBody}
use Rattle.ep_tree.specs.declared.declaration.RoutineHeading.TheVariants as heading_is
use Rattle.ep_tree.specs.declared.declaration.FormalType.TheVariants as formal_is
use Rattle.ep_tree.specs.declared.routine.BlockPart.TheVariants as part_is
use Rattle.ep_tree.specs.declared.routine.RoutineStart.TheVariants as start_is
use Rattle.ep_tree.specs.declared.routine.RoutineBody.TheVariants as body_is
use Rattle.ep_grammar.specs.Classes.{Class, Word, Symbol, Forward}
use Rattle.ep_grammar.specs.Classes.{Sort as sort}
use Rattle.ep_grammar.specs.Descriptions.{routines, Syntax, give, token, line, inside, either, deeper, ◌&◌, ◌<*◌}
use Rattle.ep_grammar.specs.Descriptions.{symbol, keyword, optional, flag, optional_list, many, some, separated}
use Rattle.ep_tree.specs.Nodes.{constants_node, constant_definition_node, types_node, type_definition_node}
use Rattle.ep_tree.specs.Nodes.{discriminant_section_node, variables_node, variable_declaration_node}
use Rattle.ep_tree.specs.Nodes.{formal_section_node, routine_node}
use Rattle.ep_grammar.specs.Expressions.{name, on, on_word, of_name, qualified_name, component_value}
use Rattle.ep_grammar.specs.Types.{names, type_denoter}
use Rattle.ep_grammar.specs.Statements.{compound}

-- `id "=" cvalue ";"`
unfoldable pub constant_definition : Syntax ConstantDefinition
constant_definition =
    give constant_definition_node & line & name <* symbol sym.EQUAL & component_value <* symbol sym.SEMICOLON

unfoldable pub constant_definitions : Syntax (List ConstantDefinition)
constant_definitions = some of_name constant_definition

-- `consts = "const" id "=" cvalue ";" { id "=" cvalue ";" }`
unfoldable pub constants : Syntax Constants
constants = give constants_node & line <* keyword word.CONST & constant_definitions

-- `dsec = ids ":" name`
unfoldable pub discriminant_section : Syntax DiscriminantSection
discriminant_section = give discriminant_section_node & line & names <* symbol sym.COLON & qualified_name

unfoldable pub discriminant_sections : Syntax (List DiscriminantSection)
discriminant_sections = separated sym.SEMICOLON discriminant_section

unfoldable pub discriminants : Syntax (List DiscriminantSection)
discriminants =
    optional_list (on sym.LEFT_PARENTHESIS) (
    give (λ ds. ds) <* symbol sym.LEFT_PARENTHESIS & discriminant_sections <* symbol sym.RIGHT_PARENTHESIS)

-- `tdef = id [ "(" dsec { ";" dsec } ")" ] "=" type`, and `;`
unfoldable pub type_definition : Syntax TypeDefinition
type_definition =
    deeper of_name (
    give type_definition_node & line & name & discriminants <* symbol sym.EQUAL & type_denoter
    <* symbol sym.SEMICOLON)

unfoldable pub type_definitions : Syntax (List TypeDefinition)
type_definitions = some of_name type_definition

-- `types = "type" tdef ";" { tdef ";" }`
unfoldable pub types : Syntax Types
types = deeper (on_word word.TYPE) (give types_node & line <* keyword word.TYPE & type_definitions)

-- `ids ":" type ";"`
unfoldable pub variable_declaration : Syntax VariableDeclaration
variable_declaration =
    deeper of_name (
    give variable_declaration_node & line & names <* symbol sym.COLON & type_denoter <* symbol sym.SEMICOLON)

unfoldable pub variable_declarations : Syntax (List VariableDeclaration)
variable_declarations = some of_name variable_declaration

-- `vars = "var" ids ":" type ";" { ids ":" type ";" }`
unfoldable pub variables : Syntax Variables
variables = deeper (on_word word.VAR) (give variables_node & line <* keyword word.VAR & variable_declarations)

-- ---- routines

unfoldable pub formal_type_of : Syntax FormalType
formal_type_of = give formal_is.TypeOf & line <* keyword word.TYPE <* keyword word.OF & qualified_name

unfoldable pub formal_type : Syntax FormalType
formal_type = either (on_word word.TYPE) formal_type_of (give formal_is.Named & qualified_name)

-- `psec = [ "protected" ] [ "var" ] ids ":" ( name | "type" "of" name )`
unfoldable pub formal_section : Syntax FormalSection
formal_section =
    give formal_section_node & line & flag word.PROTECTED & flag word.VAR & names <* symbol sym.COLON & formal_type

unfoldable pub formal_sections : Syntax (List FormalSection)
formal_sections = separated sym.SEMICOLON formal_section

-- `[ "(" psec { ";" psec } ")" ]`
unfoldable pub formals : Syntax (List FormalSection)
formals =
    optional_list (on sym.LEFT_PARENTHESIS) (
    give (λ ps. ps) <* symbol sym.LEFT_PARENTHESIS & formal_sections <* symbol sym.RIGHT_PARENTHESIS)

-- `"procedure" id [ formals ]`
unfoldable pub procedure : Syntax RoutineHeading
procedure = give heading_is.Procedure & line <* keyword word.PROCEDURE & name & formals

-- `[ "=" id ]`
unfoldable pub result_name : Syntax (Option (List ℕ))
result_name = optional (on sym.EQUAL) (give (λ n. n) <* symbol sym.EQUAL & name)

-- `"function" id [ formals ] [ "=" id ] ":" name`
unfoldable pub function : Syntax RoutineHeading
function =
    give heading_is.Function & line <* keyword word.FUNCTION & name & formals & result_name <* symbol sym.COLON
    & qualified_name

-- `rhead`
unfoldable pub routine_heading : Syntax RoutineHeading
routine_heading = either (on_word word.PROCEDURE) procedure function

abbrev pub FunctionRest : Type 0
FunctionRest = List FormalSection × (Option (List ℕ) × QualifiedName)

abbrev pub function_start_node : ℕ → List ℕ → Option FunctionRest → RoutineStart
function_start_node at n None = start_is.Function at n
function_start_node at n (Some p) = start_is.Heading (heading_is.Function at n p.0 p.1.0 p.1.1)

abbrev pub of_function_rest : List Class
of_function_rest = Symbol sym.LEFT_PARENTHESIS ∷ Symbol sym.EQUAL ∷ Symbol sym.COLON ∷ []

unfoldable pub function_rest : Syntax FunctionRest
function_rest = give (λ ps r q. (ps, (r, q))) & formals & result_name <* symbol sym.COLON & qualified_name

unfoldable pub function_start : Syntax RoutineStart
function_start =
    give function_start_node & line <* keyword word.FUNCTION & name & optional of_function_rest function_rest

-- `rhead | "function" id`
unfoldable pub routine_start : Syntax RoutineStart
routine_start = either (on_word word.PROCEDURE) (give start_is.Heading & procedure) function_start

abbrev pub of_parts : List Class
of_parts = Word word.CONST ∷ Word word.TYPE ∷ Word word.VAR ∷ Word word.PROCEDURE ∷ Word word.FUNCTION ∷ []

abbrev pub of_block : List Class
of_block =
    Word word.CONST ∷ Word word.TYPE ∷ Word word.VAR ∷ Word word.PROCEDURE ∷ Word word.FUNCTION ∷ Word word.BEGIN ∷ []

unfoldable pub routine_part : Syntax BlockPart
routine_part = deeper (Word word.PROCEDURE ∷ Word word.FUNCTION ∷ []) (give part_is.Routine & inside routines)

unfoldable pub part : Syntax BlockPart
part =
    either (on_word word.CONST) (give part_is.Constants & constants) (
    either (on_word word.TYPE) (give part_is.Types & types) (
    either (on_word word.VAR) (give part_is.Variables & variables) routine_part))

-- `parts = { consts | types | vars | rdecl }`
unfoldable pub parts : Syntax (List BlockPart)
parts = many of_parts part

unfoldable pub forward_body : Syntax RoutineBody
forward_body = give body_is.Forward & line <* token (sort.exactly Forward)

unfoldable pub block_body : Syntax RoutineBody
block_body = deeper of_block (give body_is.Block & line & parts & compound)

unfoldable pub routine_body : Syntax RoutineBody
routine_body = either (Forward ∷ []) forward_body block_body

-- `rdecl = ( rhead | "function" id ) ";" ( "forward" | parts compound ) ";"`
unfoldable pub routine : Syntax Routine
routine = give routine_node & line & routine_start <* symbol sym.SEMICOLON & routine_body <* symbol sym.SEMICOLON
