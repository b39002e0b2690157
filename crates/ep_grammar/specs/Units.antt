-- The productions of components (ISO 10206, 6.11 and 6.12).
use Rattle.std.specs.Prelude.{ℕ, Bool, true, false, List, [], ◌∷◌, Option, Some, None}
use Rattle.ep_token.specs.declared.symbol.TheConstants as sym
use Rattle.ep_token.specs.declared.word.TheConstants as word
use Rattle.ep_tree.specs.declared.statement.Statement.{Statement}
use Rattle.ep_tree.specs.declared.component.Component.{Component}
use Rattle.ep_tree.specs.declared.component.Program.{Program}
use Rattle.ep_tree.specs.declared.component.Heading.{Heading}
use Rattle.ep_tree.specs.declared.component.HeadingPart.{HeadingPart}
use Rattle.ep_tree.specs.declared.component.Block.{Block}
use Rattle.ep_tree.specs.declared.component.Export.{Export}
use Rattle.ep_tree.specs.declared.component.ExportItem.{ExportItem}
use Rattle.ep_tree.specs.declared.component.Import.{Import}
use Rattle.ep_tree.specs.declared.component.ImportItem.{ImportItem}
use Rattle.ep_tree.specs.declared.component.Component.TheVariants as component_is
use Rattle.ep_tree.specs.declared.component.HeadingPart.TheVariants as part_is
use Rattle.ep_tree.specs.declared.component.ExportItem.TheVariants as item_is
use Rattle.ep_grammar.specs.Classes.{Class, Word}
use Rattle.ep_grammar.specs.Classes.{Sort as sort}
use Rattle.ep_grammar.specs.Descriptions.{statements, Syntax, give, token, line, inside, either, deeper, ◌&◌, ◌<*◌}
use Rattle.ep_grammar.specs.Descriptions.{symbol, keyword, optional, flag, optional_list, many, some, separated}
use Rattle.ep_tree.specs.Nodes.{program_node, module_node, implementation_node, heading_node, block_node, export_node}
use Rattle.ep_tree.specs.Nodes.{import_node, import_item_node}
use Rattle.ep_grammar.specs.Expressions.{name, on, on_word, of_name}
use Rattle.ep_grammar.specs.Types.{names_in_parentheses}
use Rattle.ep_grammar.specs.Statements.{compound}
use Rattle.ep_grammar.specs.Declarations.{constants, types, variables, routine_heading, parts, of_parts}

-- `[ "(" ids ")" ]`
unfoldable pub parameters : Syntax (List (List ℕ))
parameters = optional_list (on sym.LEFT_PARENTHESIS) names_in_parentheses

-- ---- imports and exports

-- `[ "=>" id ]`
unfoldable pub renaming : Syntax (Option (List ℕ))
renaming = optional (on sym.EXPORTED_AS) (give (λ n. n) <* symbol sym.EXPORTED_AS & name)

-- `iitem = id [ "=>" id ]`
unfoldable pub import_item : Syntax ImportItem
import_item = give import_item_node & line & name & renaming

unfoldable pub import_items : Syntax (List ImportItem)
import_items = separated sym.COMMA import_item

unfoldable pub import_list : Syntax (List ImportItem)
import_list = give (λ xs. xs) <* symbol sym.LEFT_PARENTHESIS & import_items <* symbol sym.RIGHT_PARENTHESIS

-- `[ [ "only" ] "(" iitem { "," iitem } ")" ]`, with whether `only` is there
unfoldable pub import_part : Syntax (Bool × List ImportItem)
import_part =
    either (on_word word.ONLY) (give (λ xs. (true, xs)) <* keyword word.ONLY & import_list) (
    either (on sym.LEFT_PARENTHESIS) (give (λ xs. (false, xs)) & import_list) (give (false, [])))

-- `import = id [ "qualified" ] [ [ "only" ] "(" iitem { "," iitem } ")" ]`, and `;`
unfoldable pub import_specification : Syntax Import
import_specification =
    give (λ at n q p. import_node at n q p.0 p.1) & line & name & flag word.QUALIFIED & import_part
    <* symbol sym.SEMICOLON

unfoldable pub import_specifications : Syntax (List Import)
import_specifications = some of_name import_specification

-- `imports = [ "import" import ";" { import ";" } ]`
unfoldable pub imports : Syntax (List Import)
imports = optional_list (on_word word.IMPORT) (give (λ xs. xs) <* keyword word.IMPORT & import_specifications)

unfoldable pub protected_item : Syntax ExportItem
protected_item = give (λ at n r. item_is.Constituent at true n r) & line <* keyword word.PROTECTED & name & renaming

unfoldable pub item_range : Syntax (ℕ → List ℕ → ExportItem)
item_range = give (λ m at n. item_is.Range at n m) <* symbol sym.RANGE & name

unfoldable pub item_alone : Syntax (ℕ → List ℕ → ExportItem)
item_alone = give (λ r at n. item_is.Constituent at false n r) & renaming

unfoldable pub plain_item : Syntax ExportItem
plain_item = give (λ at n r. r at n) & line & name & either (on sym.RANGE) item_range item_alone

-- `eitem = [ "protected" ] id [ "=>" id ] | id ".." id`
unfoldable pub export_item : Syntax ExportItem
export_item = either (on_word word.PROTECTED) protected_item plain_item

unfoldable pub export_items : Syntax (List ExportItem)
export_items = separated sym.COMMA export_item

-- `export = id "=" "(" eitem { "," eitem } ")"`, and `;`
unfoldable pub export_part : Syntax Export
export_part =
    give export_node & line & name <* symbol sym.EQUAL <* symbol sym.LEFT_PARENTHESIS & export_items
    <* symbol sym.RIGHT_PARENTHESIS <* symbol sym.SEMICOLON

unfoldable pub export_parts : Syntax (List Export)
export_parts = some of_name export_part

-- `exports = "export" export ";" { export ";" }`
unfoldable pub exports : Syntax (List Export)
exports = give (λ xs. xs) <* keyword word.EXPORT & export_parts

-- ---- headings and blocks

unfoldable pub heading_routine : Syntax HeadingPart
heading_routine = give part_is.Routine & routine_heading <* symbol sym.SEMICOLON

unfoldable pub heading_part : Syntax HeadingPart
heading_part =
    either (on_word word.CONST) (give part_is.Constants & constants) (
    either (on_word word.TYPE) (give part_is.Types & types) (
    either (on_word word.VAR) (give part_is.Variables & variables) heading_routine))

unfoldable pub heading_parts : Syntax (List HeadingPart)
heading_parts = many of_parts heading_part

abbrev pub HeadingRest : Type 0
HeadingRest = List (List ℕ) × List Export × List Import × List HeadingPart

abbrev pub heading_from : HeadingRest → ℕ → List ℕ → Heading
heading_from r at n = heading_node at n r.0 r.1 r.2 r.3

-- `[ "(" ids ")" ] ";" hparts`, where `hparts = exports imports { consts | types | vars | rhead ";" } "end"`
unfoldable pub heading_rest : Syntax HeadingRest
heading_rest =
    give (λ ps es is xs. (ps, es, is, xs)) & parameters <* symbol sym.SEMICOLON & exports & imports & heading_parts
    <* keyword word.END

-- `"do" stmt ";"`
unfoldable pub action : Syntax Statement
action = give (λ s. s) <* keyword word.DO & inside statements <* symbol sym.SEMICOLON

unfoldable pub finalization : Syntax Statement
finalization = deeper (on_word word.TO) (give (λ s. s) <* keyword word.TO <* keyword word.END & action)

abbrev pub Actions : Type 0
Actions = Option Statement × Option Statement

unfoldable pub begin_action : Syntax Actions
begin_action = give (λ s f. (Some s, f)) <* keyword word.BEGIN & action & optional (on_word word.TO) finalization

unfoldable pub end_action : Syntax Actions
end_action = give (λ s. (None, Some s)) <* keyword word.END & action

unfoldable pub some_actions : Syntax Actions
some_actions =
    deeper (on_word word.TO) (give (λ p. p) <* keyword word.TO & either (on_word word.BEGIN) begin_action end_action)

-- `[ "to" "begin" "do" stmt ";" ] [ "to" "end" "do" stmt ";" ]`
unfoldable pub actions : Syntax Actions
actions = either (on_word word.TO) some_actions (give (None, None))

-- `modblock = imports parts [ "to" "begin" "do" stmt ";" ] [ "to" "end" "do" stmt ";" ] "end"`
unfoldable pub block : Syntax Block
block = give (λ at is ps p. block_node at is ps p.0 p.1) & line & imports & parts & actions <* keyword word.END

-- ---- components

-- `program = "program" id [ "(" ids ")" ] ";" imports parts compound`
unfoldable pub program : Syntax Program
program =
    give program_node & line <* keyword word.PROGRAM & name & parameters <* symbol sym.SEMICOLON & imports & parts
    & compound

abbrev pub ModuleRest : Type 0
ModuleRest = ℕ → List ℕ → Component

unfoldable pub interface_rest : Syntax ModuleRest
interface_rest =
    give (λ r at n. component_is.Heading (heading_from r at n)) <* token (sort.exactly Class.Interface) & heading_rest

unfoldable pub implementation_rest : Syntax ModuleRest
implementation_rest =
    give (λ b at n. component_is.Block (implementation_node at n b)) <* token (sort.exactly Class.Implementation)
    <* symbol sym.SEMICOLON & block

unfoldable pub module_rest : Syntax ModuleRest
module_rest =
    give (λ r b at n. component_is.Module (module_node at (heading_from r at n) b)) & heading_rest
    <* symbol sym.SEMICOLON & block

-- `module = head ";" modblock | ihead | "module" id "implementation" ";" modblock`
unfoldable pub module_component : Syntax Component
module_component =
    give (λ at n r. r at n) & line <* keyword word.MODULE & name
    & either (Class.Interface ∷ []) interface_rest (
    either (Class.Implementation ∷ []) implementation_rest module_rest)

unfoldable pub program_component : Syntax Component
program_component = give component_is.Program & program

unfoldable pub unit : Syntax Component
unit = either (on_word word.PROGRAM) program_component module_component

-- `component = program "." | module "."`
unfoldable pub component : Syntax Component
component = give (λ c. c) & unit <* symbol sym.PERIOD

abbrev pub of_component : List Class
of_component = Word word.PROGRAM ∷ Word word.MODULE ∷ []

-- `component { component }`
unfoldable pub components : Syntax (List Component)
components = some of_component component
