-- The productions of type denoters (ISO 10206, 6.4).
use Rattle.std.specs.Prelude.{if◌then◌else◌, ℕ, Bool, true, false, List, [], ◌∷◌, Option, Some, None}
use Rattle.ep_token.specs.declared.symbol.TheConstants as sym
use Rattle.ep_token.specs.declared.word.TheConstants as word
use Rattle.ep_tree.specs.declared.operator.QualifiedName.{QualifiedName}
use Rattle.ep_tree.specs.declared.expression.Expression.{Expression}
use Rattle.ep_tree.specs.declared.expression.ComponentValue.{ComponentValue}
use Rattle.ep_tree.specs.declared.types.TypeDenoter.{TypeDenoter}
use Rattle.ep_tree.specs.declared.types.Plain.{Plain}
use Rattle.ep_tree.specs.declared.types.Core.{Core}
use Rattle.ep_tree.specs.declared.types.Structure.{Structure}
use Rattle.ep_tree.specs.declared.types.Fields.{Fields}
use Rattle.ep_tree.specs.declared.types.FieldSection.{FieldSection}
use Rattle.ep_tree.specs.declared.types.VariantPart.{VariantPart}
use Rattle.ep_tree.specs.declared.types.VariantSelector.{VariantSelector}
use Rattle.ep_tree.specs.declared.types.Variant.{Variant}
use Rattle.ep_tree.specs.declared.types.Core.TheVariants as core_is
use Rattle.ep_tree.specs.declared.types.Structure.TheVariants as structure_is
use Rattle.ep_tree.specs.declared.types.VariantSelector.TheVariants as selector_is
use Rattle.ep_grammar.specs.Classes.{Class, Word}
use Rattle.ep_grammar.specs.Descriptions.{plains, field_lists, Syntax, give, line, inside, either, switch, row, deeper}
use Rattle.ep_grammar.specs.Descriptions.{always_first, always_second, shaped, ◌&◌, ◌<*◌, symbol, keyword, optional}
use Rattle.ep_grammar.specs.Descriptions.{flag, separated, closed, More, Last, single, Step}
use Rattle.ep_tree.specs.Nodes.{type_denoter_node, plain_node, fields_node, field_section_node, variant_part_node}
use Rattle.ep_tree.specs.Nodes.{variant_node}
use Rattle.ep_tree.specs.Shapes.{as_named}
use Rattle.ep_grammar.specs.Expressions.{name, on, on_word, of_name, of_expression, qualified_name, expression}
use Rattle.ep_grammar.specs.Expressions.{component_value, labels}

-- `ids = id { "," id }`
unfoldable pub names : Syntax (List (List ℕ))
names = separated sym.COMMA name

-- `"(" ids ")"`
unfoldable pub names_in_parentheses : Syntax (List (List ℕ))
names_in_parentheses = give (λ ns. ns) <* symbol sym.LEFT_PARENTHESIS & names <* symbol sym.RIGHT_PARENTHESIS

-- `[ "value" cvalue ]`
unfoldable pub initial : Syntax (Option ComponentValue)
initial = optional (on_word word.VALUE) (give (λ v. v) <* keyword word.VALUE & component_value)

-- `type = plain [ "value" cvalue ]`
unfoldable pub type_denoter : Syntax TypeDenoter
type_denoter = give type_denoter_node & line & inside plains & initial

-- ---- cores

unfoldable pub enumeration : Syntax Core
enumeration = give core_is.Enumeration & line & names_in_parentheses

unfoldable pub pointer : Syntax Core
pointer = give core_is.Pointer & line <* symbol sym.CARET & qualified_name

unfoldable pub restricted : Syntax Core
restricted = give core_is.Restricted & line <* keyword word.RESTRICTED & qualified_name

unfoldable pub type_of : Syntax Core
type_of = give core_is.TypeOf & line <* keyword word.TYPE <* keyword word.OF & qualified_name

unfoldable pub range_end : Syntax (Expression → ℕ → Core)
range_end = give (λ high low at. core_is.Range at low high) <* symbol sym.RANGE & expression

abbrev pub named_core : QualifiedName × List Expression → ℕ → Core
named_core p at = core_is.Named at p.0 p.1

unfoldable pub named_or_range : Syntax Core
named_or_range =
    give (λ at r. r at) & line
    & shaped expression Some (on sym.RANGE) range_end as_named (give named_core) (always_first (λ e. tt {0}))

unfoldable pub inner_plains : Syntax (List Plain)
inner_plains = separated sym.COMMA (inside plains)

unfoldable pub array : Syntax Structure
array =
    give structure_is.Array & line <* keyword word.ARRAY <* symbol sym.LEFT_BRACKET & inner_plains
    <* symbol sym.RIGHT_BRACKET <* keyword word.OF & inside plains

unfoldable pub record_structure : Syntax Structure
record_structure = give structure_is.Record & line <* keyword word.RECORD & inside field_lists <* keyword word.END

unfoldable pub set_structure : Syntax Structure
set_structure = give structure_is.Set & line <* keyword word.SET <* keyword word.OF & inside plains

-- `struct = "array" "[" plain { "," plain } "]" "of" plain | "record" fields "end" | "set" "of" plain`
unfoldable pub structure : Syntax Structure
structure = either (on_word word.ARRAY) array (either (on_word word.RECORD) record_structure set_structure)

abbrev pub of_structure : List Class
of_structure = Word word.PACKED ∷ Word word.ARRAY ∷ Word word.RECORD ∷ Word word.SET ∷ []

unfoldable pub structured : Syntax Core
structured = deeper of_structure (give core_is.Structured & line & flag word.PACKED & structure)

-- `core = name [ "(" expr { "," expr } ")" ] | expr ".." expr | "(" ids ")" | "^" name | [ "packed" ] struct |
-- "restricted" name | "type" "of" name`
unfoldable pub core : Syntax Core
core =
    switch (on sym.LEFT_PARENTHESIS) enumeration (
    either (on sym.CARET) pointer (
    either of_structure structured (
    either (on_word word.RESTRICTED) restricted (
    either (on_word word.TYPE) type_of named_or_range))))

-- `plain = [ "bindable" ] core`
unfoldable pub plain : Syntax Plain
plain = give plain_node & line & flag word.BINDABLE & core

-- ---- fields

-- `fsec = ids ":" type`
unfoldable pub field_section : Syntax FieldSection
field_section = deeper of_name (give field_section_node & line & names <* symbol sym.COLON & type_denoter)

abbrev pub selector_node : ℕ → List ℕ → Option QualifiedName → VariantSelector
selector_node at n None = selector_is.Discriminant at n
selector_node at n (Some q) = selector_is.Tag at n q

-- `id ":" name | id`
unfoldable pub variant_selector : Syntax VariantSelector
variant_selector =
    give selector_node & line & name & optional (on sym.COLON) (give (λ q. q) <* symbol sym.COLON & qualified_name)

unfoldable pub inner_fields : Syntax Fields
inner_fields = give (λ f. f) <* symbol sym.LEFT_PARENTHESIS & inside field_lists <* symbol sym.RIGHT_PARENTHESIS

-- `variant = labels ":" "(" fields ")"`
unfoldable pub variant : Syntax Variant
variant = deeper of_expression (give variant_node & line & labels <* symbol sym.COLON & inner_fields)

unfoldable pub variants : Syntax (List Variant)
variants = closed of_expression variant

unfoldable pub other_fields : Syntax Fields
other_fields =
    deeper (on_word word.OTHERWISE) (
    give (λ f u. f) <* keyword word.OTHERWISE & inner_fields & optional (on sym.SEMICOLON) (symbol sym.SEMICOLON))

-- `vpart [ ";" ]`, where `vpart = "case" ( id ":" name | id ) "of" variant { ";" variant } [ [ ";" ] "otherwise" "("
-- fields ")" ]`
unfoldable pub variant_part : Syntax VariantPart
variant_part =
    deeper (on_word word.CASE) (
    give variant_part_node & line <* keyword word.CASE & variant_selector <* keyword word.OF & variants
    & optional (on_word word.OTHERWISE) other_fields)

-- a section after a semicolon, or a semicolon at the end
abbrev pub section_step : Syntax (Step FieldSection Bool)
section_step = give (λ x. x) <* symbol sym.SEMICOLON & either of_name (give More & field_section) (give (Last true))

-- sections, and whether a semicolon follows the last
unfoldable pub sections : Syntax (List FieldSection × Bool)
sections = row (give single & field_section) (on sym.SEMICOLON) section_step false

abbrev pub listed : List FieldSection × Bool → Option (List FieldSection)
listed p = Some p.0

abbrev pub ended : List FieldSection × Bool → Option (List FieldSection)
ended p = if p.1 then Some p.0 else None

unfoldable pub sections_end : Syntax (List FieldSection → ℕ → Fields)
sections_end = give (λ v fs at. fields_node at fs (Some v)) & variant_part

unfoldable pub section_fields : Syntax Fields
section_fields =
    give (λ at r. r at) & line
    & shaped sections ended (on_word word.CASE) sections_end
    listed (give (λ fs at. fields_node at fs None)) (always_second (λ p. tt {0}))

unfoldable pub variant_fields : Syntax Fields
variant_fields = give (λ at v. fields_node at [] (Some v)) & line & variant_part

-- `fields = [ ( fsec { ";" fsec } [ ";" vpart ] | vpart ) [ ";" ] ]`
unfoldable pub fields : Syntax Fields
fields =
    either of_name section_fields (
    either (on_word word.CASE) variant_fields (
    give (λ at. fields_node at [] None) & line))
