-- The styles of the productions. Each stands beside the description of its name in ep_grammar, form by form.
use Rattle.std.specs.Prelude.{Bool, true, false, if◌then◌else◌, List, [], ◌∷◌}
use Rattle.ep_token.specs.declared.word.TheConstants as word
use Rattle.ep_grammar.specs.Classes.{Class, Word, Name, Interface, Implementation, Forward}
use Rattle.ep_grammar.specs.Descriptions.{Nonterminal, plains, field_lists, statements, routines}
use Rattle.ep_marks.specs.Styles.{Style, plain, within, choice, rows, level, shapes, starts, indents, given}
use Rattle.ep_marks.specs.Styles.{◌&◌, ◌<*◌, new_line, optional, optional_list, many, some, separated, closed}

-- what stands one level deeper and is not the fields of a record
abbrev pub deeper : Style
deeper = within false

-- ---- statements

-- what begins a body: a statement that is neither empty nor a compound
abbrev pub of_body : List Class
of_body =
    Name ∷ Interface ∷ Implementation ∷ Forward ∷ Word word.IF ∷ Word word.CASE ∷ Word word.WHILE ∷ Word word.REPEAT ∷
    Word word.FOR ∷ Word word.WITH ∷ []

-- what begins a statement that is not empty
abbrev pub of_statement : List Class
of_statement = Word word.BEGIN ∷ of_body

-- the statement of `if`, `else`, `while`, `for` or `with`
abbrev pub body : Style
body = given of_body (starts (indents deeper)) deeper

-- `stmts`
abbrev pub inner_statements : Style
inner_statements = separated (given of_statement (starts deeper) deeper)

-- `"begin" stmts "end"`
abbrev pub compound : Style
compound = level (plain & plain <* new_line & indents inner_statements <* new_line)

-- `[ "else" stmt ]`
abbrev pub else_part : Style
else_part = choice (plain <* new_line & body) plain

-- `"if" expr "then" stmt [ "else" stmt ]`
abbrev pub if_statement : Style
if_statement = level (plain & plain <* plain & plain <* plain & body & else_part)

-- `labels ":" stmt`
abbrev pub arm : Style
arm = starts (indents (level (plain & plain & plain <* plain & deeper)))

-- `"otherwise" stmts`
abbrev pub other : Style
other = starts (indents (level (plain & plain <* plain & inner_statements)))

-- `arm { ";" arm } [ ";" | [ ";" ] other ] | other`
abbrev pub case_arms : Style
case_arms = choice (plain & other) (plain & closed arm & optional other)

-- `"case" expr "of" ( .. ) "end"`
abbrev pub case_statement : Style
case_statement = level (plain & plain <* plain & plain <* plain & case_arms <* new_line)

-- `"while" expr "do" stmt`
abbrev pub while_statement : Style
while_statement = level (plain & plain <* plain & plain <* plain & body)

-- `"repeat" stmts "until" expr`
abbrev pub repeat_statement : Style
repeat_statement = level (plain & plain <* plain & indents inner_statements <* new_line & plain)

-- `":=" expr ( "to" | "downto" ) expr "do" stmt`
abbrev pub for_range : Style
for_range = plain <* plain & plain & plain & plain <* plain & body

-- `"in" expr "do" stmt`
abbrev pub for_members : Style
for_members = plain <* plain & plain <* plain & body

-- `"for" id ( .. )`
abbrev pub for_statement : Style
for_statement = level (plain & plain <* plain & plain & choice for_members for_range)

-- `"with" access { "," access } "do" stmt`
abbrev pub with_statement : Style
with_statement = level (plain & plain <* plain & plain <* plain & body)

abbrev pub loop_statement : Style
loop_statement = choice while_statement (choice repeat_statement (choice for_statement with_statement))

-- `stmt`
abbrev pub statement : Style
statement =
    choice plain
    (choice (plain & compound) (choice if_statement (choice case_statement (choice loop_statement plain))))

-- ---- types

-- `"array" "[" plain { "," plain } "]" "of" plain`
abbrev pub array : Style
array = plain & plain <* plain <* plain & separated deeper <* plain <* plain & deeper

-- `"record" fields "end"`
abbrev pub record_structure : Style
record_structure = plain & plain <* plain & indents (within true) <* new_line

-- `"set" "of" plain`
abbrev pub set_structure : Style
set_structure = plain & plain <* plain <* plain & deeper

-- `[ "packed" ] struct`
abbrev pub structured : Style
structured = level (plain & plain & plain & choice array (choice record_structure set_structure))

-- `[ "bindable" ] core`
abbrev pub plain_type : Style
plain_type =
    plain & plain & plain & choice plain (choice plain (choice structured (choice plain (choice plain plain))))

-- `plain [ "value" cvalue ]`
abbrev pub type_denoter : Style
type_denoter = plain & plain & deeper & plain

-- a part of the fields of a record starts a line, and one of a variant does not
abbrev pub of_fields : Bool → Style → Style
of_fields in_record y = if in_record then starts y else y

-- `ids ":" type`
abbrev pub field_section : Bool → Style
field_section in_record = of_fields in_record (level (plain & plain & plain <* plain & type_denoter))

-- `fsec { ";" fsec } [ ";" ]`
abbrev pub sections : Bool → Style
sections in_record =
    rows (plain & field_section in_record) (plain <* plain & choice (plain & field_section in_record) plain)

-- `"(" fields ")"`
abbrev pub inner_fields : Style
inner_fields = plain <* plain & indents (within false) <* plain

-- `labels ":" "(" fields ")"`
abbrev pub variant : Style
variant = starts (level (plain & plain & plain <* plain & inner_fields))

-- `"otherwise" "(" fields ")" [ ";" ]`
abbrev pub other_fields : Style
other_fields = level (plain <* new_line & inner_fields & plain)

-- `"case" ( id ":" name | id ) "of" variant { ";" variant } [ .. ]`
abbrev pub variant_part : Bool → Style
variant_part in_record =
    of_fields in_record (
    level (plain & plain <* plain & plain <* plain & closed variant & optional other_fields))

-- `fields`
abbrev pub fields : Bool → Style
fields in_record =
    choice (plain & plain & shapes (sections in_record) (plain & variant_part in_record) plain) (
    choice (plain & plain & variant_part in_record) plain)

-- ---- declarations

-- `"const" id "=" cvalue ";" { .. }`
abbrev pub constants : Style
constants = plain & plain <* plain & some plain new_line

-- `id [ .. ] "=" type ";"`
abbrev pub type_definition : Style
type_definition = level (plain & plain & plain & plain <* plain & type_denoter <* plain)

-- `"type" tdef ";" { tdef ";" }`
abbrev pub types : Style
types = level (plain & plain <* plain & some type_definition (starts type_definition))

-- `ids ":" type ";"`
abbrev pub variable_declaration : Style
variable_declaration = level (plain & plain & plain <* plain & type_denoter <* plain)

-- `"var" ids ":" type ";" { .. }`
abbrev pub variables : Style
variables = level (plain & plain <* plain & some variable_declaration (starts variable_declaration))

-- `consts | types | vars | rdecl`
abbrev pub declaration_part : Style
declaration_part =
    starts (choice (plain & constants) (choice (plain & types) (choice (plain & variables) (level (plain & deeper)))))

abbrev pub parts : Style
parts = many declaration_part

-- `parts compound` of a routine
abbrev pub block_body : Style
block_body = level (plain & plain & indents parts & compound)

-- `rdecl`
abbrev pub routine : Style
routine = plain & plain & plain <* plain & choice plain block_body <* plain

-- ---- components

-- `[ "import" import ";" { import ";" } ]`
abbrev pub imports : Style
imports = optional_list (starts (plain <* plain & some plain new_line))

-- `"export" export ";" { export ";" }`
abbrev pub exports : Style
exports = starts (plain <* plain & some plain new_line)

-- `consts | types | vars | rhead ";"`
abbrev pub heading_part : Style
heading_part = starts (choice (plain & constants) (choice (plain & types) (choice (plain & variables) plain)))

-- `[ "(" ids ")" ] ";" exports imports { .. } "end"`
abbrev pub heading_rest : Style
heading_rest = plain & plain <* plain & exports & imports & many heading_part <* new_line

-- `"do" stmt ";"`
abbrev pub action : Style
action = plain <* plain & deeper <* plain

-- `"to" "end" "do" stmt ";"`
abbrev pub finalization : Style
finalization = level (plain <* new_line <* plain & action)

-- `[ "to" "begin" "do" stmt ";" ] [ "to" "end" "do" stmt ";" ]`
abbrev pub actions : Style
actions =
    choice (
    level (
    plain <* new_line & choice (plain <* plain & action & optional finalization) (plain <* plain & action))) plain

-- `modblock`
abbrev pub block : Style
block = starts (plain & plain & imports & parts & actions <* new_line)

-- `"program" id [ "(" ids ")" ] ";" imports parts compound`
abbrev pub program : Style
program = plain & plain <* plain & plain & plain <* plain & imports & parts & compound

-- `"module" id ( .. )`
abbrev pub module_style : Style
module_style =
    plain & plain <* plain & plain & choice (plain <* plain & heading_rest) (
    choice (plain <* plain <* plain & block) (plain & heading_rest <* plain & block))

-- `component = program "." | module "."`
abbrev pub component : Style
component = starts (plain & choice (plain & program) module_style <* plain)

-- `component { component }`
abbrev pub components : Style
components = some component component

-- ---- what may stand one level deeper

-- the style of what may stand one level deeper; fields are those of a record or of a variant
abbrev pub style : Bool → Nonterminal → Style
style in_record plains = plain_type
style in_record field_lists = fields in_record
style in_record statements = statement
style in_record routines = routine
style in_record _ = plain
