-- The productions of definitions and declarations: what their tokens derive, tokens of the same kinds derive too. A lemma for each description, under its name and along it.
use Rattle.std.proofs.Common.{refl}
use Rattle.ep_grammar.specs.Descriptions.{routines}
use Rattle.ep_grammar.specs.Declarations.{constant_definition, constant_definitions, constants, discriminant_section, discriminant_sections, discriminants, type_definition, type_definitions, types, variable_declaration, variable_declarations, variables, formal_type_of, formal_type, formal_section, formal_sections, formals, procedure, result_name, function, routine_heading, function_rest, function_start, routine_start, routine_part, part, parts, forward_body, block_body, routine_body, routine}
use Rattle.ep_format.proofs.kinds.Forms.{a_line, behind, mark, one_of, within}
use Rattle.ep_format.proofs.kinds.Simply.{Simply, a_flag, anything, each_of_many, each_of_some, each_separated, maybe, maybe_list, ◌&◌, ◌<*◌}
use Rattle.ep_format.proofs.kinds.Expressions.{qualified_name_decided}
use Rattle.ep_format.proofs.kinds.Statements.{compound_decided}
use Rattle.ep_format.proofs.kinds.Types.{names_decided, type_denoter_decided}
use Rattle.ep_format.proofs.kinds.Values.{component_value_decided}

pub constant_definition_decided : Simply constant_definition
unfolding constant_definition
constant_definition_decided = anything & a_line & mark refl <* mark refl & component_value_decided <* mark refl

pub constant_definitions_decided : Simply constant_definitions
unfolding constant_definitions
constant_definitions_decided = each_of_some constant_definition_decided

pub constants_decided : Simply constants
unfolding constants
constants_decided = anything & a_line <* mark refl & constant_definitions_decided

pub discriminant_section_decided : Simply discriminant_section
unfolding discriminant_section
discriminant_section_decided = anything & a_line & names_decided <* mark refl & qualified_name_decided

pub discriminant_sections_decided : Simply discriminant_sections
unfolding discriminant_sections
discriminant_sections_decided = each_separated discriminant_section_decided

pub discriminants_decided : Simply discriminants
unfolding discriminants
discriminants_decided = maybe_list (anything <* mark refl & discriminant_sections_decided <* mark refl)

pub type_definition_decided : Simply type_definition
unfolding type_definition
type_definition_decided = behind (anything & a_line & mark refl & discriminants_decided <* mark refl & type_denoter_decided <* mark refl)

pub type_definitions_decided : Simply type_definitions
unfolding type_definitions
type_definitions_decided = each_of_some type_definition_decided

pub types_decided : Simply types
unfolding types
types_decided = behind (anything & a_line <* mark refl & type_definitions_decided)

pub variable_declaration_decided : Simply variable_declaration
unfolding variable_declaration
variable_declaration_decided = behind (anything & a_line & names_decided <* mark refl & type_denoter_decided <* mark refl)

pub variable_declarations_decided : Simply variable_declarations
unfolding variable_declarations
variable_declarations_decided = each_of_some variable_declaration_decided

pub variables_decided : Simply variables
unfolding variables
variables_decided = behind (anything & a_line <* mark refl & variable_declarations_decided)

pub formal_type_of_decided : Simply formal_type_of
unfolding formal_type_of
formal_type_of_decided = anything & a_line <* mark refl <* mark refl & qualified_name_decided

pub formal_type_decided : Simply formal_type
unfolding formal_type
formal_type_decided = one_of formal_type_of_decided (anything & qualified_name_decided)

pub formal_section_decided : Simply formal_section
unfolding formal_section
formal_section_decided = anything & a_line & a_flag & a_flag & names_decided <* mark refl & formal_type_decided

pub formal_sections_decided : Simply formal_sections
unfolding formal_sections
formal_sections_decided = each_separated formal_section_decided

pub formals_decided : Simply formals
unfolding formals
formals_decided = maybe_list (anything <* mark refl & formal_sections_decided <* mark refl)

pub procedure_decided : Simply procedure
unfolding procedure
procedure_decided = anything & a_line <* mark refl & mark refl & formals_decided

pub result_name_decided : Simply result_name
unfolding result_name
result_name_decided = maybe (anything <* mark refl & mark refl)

pub function_decided : Simply function
unfolding function
function_decided = anything & a_line <* mark refl & mark refl & formals_decided & result_name_decided <* mark refl & qualified_name_decided

pub routine_heading_decided : Simply routine_heading
unfolding routine_heading
routine_heading_decided = one_of procedure_decided function_decided

pub function_rest_decided : Simply function_rest
unfolding function_rest
function_rest_decided = anything & formals_decided & result_name_decided <* mark refl & qualified_name_decided

pub function_start_decided : Simply function_start
unfolding function_start
function_start_decided = anything & a_line <* mark refl & mark refl & maybe function_rest_decided

pub routine_start_decided : Simply routine_start
unfolding routine_start
routine_start_decided = one_of (anything & procedure_decided) function_start_decided

pub routine_part_decided : Simply routine_part
unfolding routine_part
routine_part_decided = behind (anything & within routines)

pub part_decided : Simply part
unfolding part
part_decided = one_of (anything & constants_decided) (one_of (anything & types_decided) (one_of (anything & variables_decided) routine_part_decided))

pub parts_decided : Simply parts
unfolding parts
parts_decided = each_of_many part_decided

pub forward_body_decided : Simply forward_body
unfolding forward_body
forward_body_decided = anything & a_line <* mark refl

pub block_body_decided : Simply block_body
unfolding block_body
block_body_decided = behind (anything & a_line & parts_decided & compound_decided)

pub routine_body_decided : Simply routine_body
unfolding routine_body
routine_body_decided = one_of forward_body_decided block_body_decided

pub routine_decided : Simply routine
unfolding routine
routine_decided = anything & a_line & routine_start_decided <* mark refl & routine_body_decided <* mark refl
