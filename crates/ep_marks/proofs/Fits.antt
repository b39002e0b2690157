-- Each production has a style that fits it.
use Rattle.std.proofs.Common.{◌≡◌, Bool, true, false, refl}
use Rattle.ep_grammar.specs.Descriptions.{Nonterminal, expressions, factors, component_values, elements, bracketed_values, plains, field_lists, statements, routines}
use Rattle.ep_grammar.specs.Expressions.{qualified_name, label_of, inner_labels, argument, field_selector, inner_expressions, index_selector, pointer_selector, arguments, argument_selector, selector, selectors, access, otherwise_of, more_elements_of, values_rest_of, inner_values_rest, inner_values_end, labels_start, structured_tail, index_tail, bracket_labels, bracket_values, bracket, called_rest, called_field, called, number_factor, text_factor, nil_factor, parenthesized, negated, members, set_constructor, factor, multiplier, multipliers, term, addend, addends, simple, comparison, comparison_part, expression, expression_rest, labels, set_tail, values_tail, value_labels, value_values, empty_set_tail, value_content, bracketed_value, component_value, labelled_element, filled_values, case_values, case_plain, case_tagged, case_tail, case_element, element, otherwise_values, element_values, values}
use Rattle.ep_grammar.specs.Types.{names, names_in_parentheses, initial, type_denoter, enumeration, pointer, restricted, type_of, range_end, named_or_range, inner_plains, array, record_structure, set_structure, structure, structured, core, plain, field_section, variant_selector, inner_fields, variant, variants, other_fields, variant_part, sections, sections_end, section_fields, variant_fields, fields}
use Rattle.ep_grammar.specs.Statements.{inner_statements, compound, compound_statement, else_part, if_statement, arm, arms, other, other_arms, labelled_arms, case_arms, case_statement, while_statement, repeat_statement, for_range, for_members, for_statement, accesses, with_statement, simple_statement, loop_statement, statement}
use Rattle.ep_grammar.specs.Declarations.{constant_definition, constant_definitions, constants, discriminant_section, discriminant_sections, discriminants, type_definition, type_definitions, types, variable_declaration, variable_declarations, variables, formal_type_of, formal_type, formal_section, formal_sections, formals, procedure, result_name, function, routine_heading, function_rest, function_start, routine_start, routine_part, part, parts, forward_body, block_body, routine_body, routine}
use Rattle.ep_grammar.specs.Units.{parameters, renaming, import_item, import_items, import_list, import_part, import_specification, import_specifications, imports, protected_item, item_range, item_alone, plain_item, export_item, export_items, export_part, export_parts, exports, heading_routine, heading_part, heading_parts, heading_rest, action, finalization, begin_action, end_action, some_actions, actions, block, program, interface_rest, implementation_rest, module_rest, module_component, program_component, unit, component, components}
use Rattle.ep_grammar.specs.Rules.{rule}
use Rattle.ep_marks.specs.Styles.{fits}
use Rattle.ep_marks.specs.Productions.{style}
use Rattle.ep_marks.specs.Productions as styles

pub fits-rule : (in_record : Bool) (n : Nonterminal) → fits (style in_record n) (rule n) ≡ true
unfolding qualified_name label_of inner_labels argument field_selector inner_expressions index_selector pointer_selector arguments argument_selector selector selectors access otherwise_of more_elements_of values_rest_of inner_values_rest inner_values_end labels_start structured_tail index_tail bracket_labels bracket_values bracket called_rest called_field called number_factor text_factor nil_factor parenthesized negated members set_constructor factor multiplier multipliers term addend addends simple comparison comparison_part expression expression_rest labels set_tail values_tail value_labels value_values empty_set_tail value_content bracketed_value component_value labelled_element filled_values case_values case_plain case_tagged case_tail case_element element otherwise_values element_values values names names_in_parentheses initial type_denoter enumeration pointer restricted type_of range_end named_or_range inner_plains array record_structure set_structure structure structured core plain field_section variant_selector inner_fields variant variants other_fields variant_part sections sections_end section_fields variant_fields fields inner_statements compound compound_statement else_part if_statement arm arms other other_arms labelled_arms case_arms case_statement while_statement repeat_statement for_range for_members for_statement accesses with_statement simple_statement loop_statement statement constant_definition constant_definitions constants discriminant_section discriminant_sections discriminants type_definition type_definitions types variable_declaration variable_declarations variables formal_type_of formal_type formal_section formal_sections formals procedure result_name function routine_heading function_rest function_start routine_start routine_part part parts forward_body block_body routine_body routine parameters renaming import_item import_items import_list import_part import_specification import_specifications imports protected_item item_range item_alone plain_item export_item export_items export_part export_parts exports heading_routine heading_part heading_parts heading_rest action finalization begin_action end_action some_actions actions block program interface_rest implementation_rest module_rest module_component program_component unit component components
fits-rule in_record expressions = refl
fits-rule in_record factors = refl
fits-rule in_record component_values = refl
fits-rule in_record elements = refl
fits-rule in_record bracketed_values = refl
fits-rule in_record plains = refl
fits-rule true field_lists = refl
fits-rule false field_lists = refl
fits-rule in_record statements = refl
fits-rule in_record routines = refl

pub fits-components : fits styles.components components ≡ true
unfolding qualified_name label_of inner_labels argument field_selector inner_expressions index_selector pointer_selector arguments argument_selector selector selectors access otherwise_of more_elements_of values_rest_of inner_values_rest inner_values_end labels_start structured_tail index_tail bracket_labels bracket_values bracket called_rest called_field called number_factor text_factor nil_factor parenthesized negated members set_constructor factor multiplier multipliers term addend addends simple comparison comparison_part expression expression_rest labels set_tail values_tail value_labels value_values empty_set_tail value_content bracketed_value component_value labelled_element filled_values case_values case_plain case_tagged case_tail case_element element otherwise_values element_values values names names_in_parentheses initial type_denoter enumeration pointer restricted type_of range_end named_or_range inner_plains array record_structure set_structure structure structured core plain field_section variant_selector inner_fields variant variants other_fields variant_part sections sections_end section_fields variant_fields fields inner_statements compound compound_statement else_part if_statement arm arms other other_arms labelled_arms case_arms case_statement while_statement repeat_statement for_range for_members for_statement accesses with_statement simple_statement loop_statement statement constant_definition constant_definitions constants discriminant_section discriminant_sections discriminants type_definition type_definitions types variable_declaration variable_declarations variables formal_type_of formal_type formal_section formal_sections formals procedure result_name function routine_heading function_rest function_start routine_start routine_part part parts forward_body block_body routine_body routine parameters renaming import_item import_items import_list import_part import_specification import_specifications imports protected_item item_range item_alone plain_item export_item export_items export_part export_parts exports heading_routine heading_part heading_parts heading_rest action finalization begin_action end_action some_actions actions block program interface_rest implementation_rest module_rest module_component program_component unit component components
fits-components = refl
