-- Each production can be brought to its end, wherever its text has begun.
use Rattle.std.proofs.Common.{◌≡◌, true, false, [], refl}
use Rattle.ep_grammar.specs.Classes.{End, has}
use Rattle.ep_grammar.specs.Descriptions.{Nonterminal, expressions, factors, component_values, elements, bracketed_values, plains, field_lists, statements, routines}
use Rattle.ep_grammar.specs.Expressions.{qualified_name, label_of, inner_labels, argument, field_selector, inner_expressions, index_selector, pointer_selector, arguments, argument_selector, selector, selectors, access, otherwise_of, more_elements_of, values_rest_of, inner_values_rest, inner_values_end, labels_start, structured_tail, index_tail, bracket_labels, bracket_values, bracket, called_rest, called_field, called, number_factor, text_factor, nil_factor, parenthesized, negated, members, set_constructor, factor, multiplier, multipliers, term, addend, addends, simple, comparison, comparison_part, expression, expression_rest, labels, set_tail, values_tail, value_labels, value_values, empty_set_tail, value_content, bracketed_value, component_value, labelled_element, filled_values, case_values, case_plain, case_tagged, case_tail, case_element, element, otherwise_values, element_values, values}
use Rattle.ep_grammar.specs.Types.{names, names_in_parentheses, initial, type_denoter, enumeration, pointer, restricted, type_of, range_end, named_or_range, inner_plains, array, record_structure, set_structure, structure, structured, core, plain, field_section, variant_selector, inner_fields, variant, variants, other_fields, variant_part, sections, sections_end, section_fields, variant_fields, fields}
use Rattle.ep_grammar.specs.Statements.{inner_statements, compound, compound_statement, else_part, if_statement, arm, arms, other, other_arms, labelled_arms, case_arms, case_statement, while_statement, repeat_statement, for_range, for_members, for_statement, accesses, with_statement, simple_statement, loop_statement, statement}
use Rattle.ep_grammar.specs.Declarations.{constant_definition, constant_definitions, constants, discriminant_section, discriminant_sections, discriminants, type_definition, type_definitions, types, variable_declaration, variable_declarations, variables, formal_type_of, formal_type, formal_section, formal_sections, formals, procedure, result_name, function, routine_heading, function_rest, function_start, routine_start, routine_part, part, parts, forward_body, block_body, routine_body, routine}
use Rattle.ep_grammar.specs.Units.{parameters, renaming, import_item, import_items, import_list, import_part, import_specification, import_specifications, imports, protected_item, item_range, item_alone, plain_item, export_item, export_items, export_part, export_parts, exports, heading_routine, heading_part, heading_parts, heading_rest, action, finalization, begin_action, end_action, some_actions, actions, block, program, interface_rest, implementation_rest, module_rest, module_component, program_component, unit, component, components}
use Rattle.ep_grammar.specs.Rules.{rule}
use Rattle.ep_grammar.proofs.Classed.{within_list}
use Rattle.ep_grammar.proofs.Static.{any, opposite, nullable_inside, first, first_inside}
use Rattle.ep_grammar.proofs.Ending.{lead, no_room, little_room, much_room, beyond, beyond_inside, opens, ends, all_open, clear, closes, steady, steady_inside, lasts}

-- what stands one level deeper can be brought to its end
pub rule_closes : (n : Nonterminal) → closes (rule n) ≡ true
unfolding qualified_name label_of inner_labels argument field_selector inner_expressions index_selector pointer_selector arguments argument_selector selector selectors access otherwise_of more_elements_of values_rest_of inner_values_rest inner_values_end labels_start structured_tail index_tail bracket_labels bracket_values bracket called_rest called_field called number_factor text_factor nil_factor parenthesized negated members set_constructor factor multiplier multipliers term addend addends simple comparison comparison_part expression expression_rest labels set_tail values_tail value_labels value_values empty_set_tail value_content bracketed_value component_value labelled_element filled_values case_values case_plain case_tagged case_tail case_element element otherwise_values element_values values names names_in_parentheses initial type_denoter enumeration pointer restricted type_of range_end named_or_range inner_plains array record_structure set_structure structure structured core plain field_section variant_selector inner_fields variant variants other_fields variant_part sections sections_end section_fields variant_fields fields inner_statements compound compound_statement else_part if_statement arm arms other other_arms labelled_arms case_arms case_statement while_statement repeat_statement for_range for_members for_statement accesses with_statement simple_statement loop_statement statement constant_definition constant_definitions constants discriminant_section discriminant_sections discriminants type_definition type_definitions types variable_declaration variable_declarations variables formal_type_of formal_type formal_section formal_sections formals procedure result_name function routine_heading function_rest function_start routine_start routine_part part parts forward_body block_body routine_body routine parameters renaming import_item import_items import_list import_part import_specification import_specifications imports protected_item item_range item_alone plain_item export_item export_items export_part export_parts exports heading_routine heading_part heading_parts heading_rest action finalization begin_action end_action some_actions actions block program interface_rest implementation_rest module_rest module_component program_component unit component components
rule_closes expressions = refl
rule_closes factors = refl
rule_closes component_values = refl
rule_closes elements = refl
rule_closes bracketed_values = refl
rule_closes plains = refl
rule_closes field_lists = refl
rule_closes statements = refl
rule_closes routines = refl

-- and with no further level, from its first class on
pub rule_ends : (n : Nonterminal) → any (nullable_inside n) (opens (rule n) no_room (lead (first_inside n))) ≡ true
unfolding qualified_name label_of inner_labels argument field_selector inner_expressions index_selector pointer_selector arguments argument_selector selector selectors access otherwise_of more_elements_of values_rest_of inner_values_rest inner_values_end labels_start structured_tail index_tail bracket_labels bracket_values bracket called_rest called_field called number_factor text_factor nil_factor parenthesized negated members set_constructor factor multiplier multipliers term addend addends simple comparison comparison_part expression expression_rest labels set_tail values_tail value_labels value_values empty_set_tail value_content bracketed_value component_value labelled_element filled_values case_values case_plain case_tagged case_tail case_element element otherwise_values element_values values names names_in_parentheses initial type_denoter enumeration pointer restricted type_of range_end named_or_range inner_plains array record_structure set_structure structure structured core plain field_section variant_selector inner_fields variant variants other_fields variant_part sections sections_end section_fields variant_fields fields inner_statements compound compound_statement else_part if_statement arm arms other other_arms labelled_arms case_arms case_statement while_statement repeat_statement for_range for_members for_statement accesses with_statement simple_statement loop_statement statement constant_definition constant_definitions constants discriminant_section discriminant_sections discriminants type_definition type_definitions types variable_declaration variable_declarations variables formal_type_of formal_type formal_section formal_sections formals procedure result_name function routine_heading function_rest function_start routine_start routine_part part parts forward_body block_body routine_body routine parameters renaming import_item import_items import_list import_part import_specification import_specifications imports protected_item item_range item_alone plain_item export_item export_items export_part export_parts exports heading_routine heading_part heading_parts heading_rest action finalization begin_action end_action some_actions actions block program interface_rest implementation_rest module_rest module_component program_component unit component components
rule_ends expressions = refl
rule_ends factors = refl
rule_ends component_values = refl
rule_ends elements = refl
rule_ends bracketed_values = refl
rule_ends plains = refl
rule_ends field_lists = refl
rule_ends statements = refl
rule_ends routines = refl

-- and with one more, from each class
pub rule_opens : (n : Nonterminal) → all_open (rule n) little_room (first_inside n) ≡ true
unfolding qualified_name label_of inner_labels argument field_selector inner_expressions index_selector pointer_selector arguments argument_selector selector selectors access otherwise_of more_elements_of values_rest_of inner_values_rest inner_values_end labels_start structured_tail index_tail bracket_labels bracket_values bracket called_rest called_field called number_factor text_factor nil_factor parenthesized negated members set_constructor factor multiplier multipliers term addend addends simple comparison comparison_part expression expression_rest labels set_tail values_tail value_labels value_values empty_set_tail value_content bracketed_value component_value labelled_element filled_values case_values case_plain case_tagged case_tail case_element element otherwise_values element_values values names names_in_parentheses initial type_denoter enumeration pointer restricted type_of range_end named_or_range inner_plains array record_structure set_structure structure structured core plain field_section variant_selector inner_fields variant variants other_fields variant_part sections sections_end section_fields variant_fields fields inner_statements compound compound_statement else_part if_statement arm arms other other_arms labelled_arms case_arms case_statement while_statement repeat_statement for_range for_members for_statement accesses with_statement simple_statement loop_statement statement constant_definition constant_definitions constants discriminant_section discriminant_sections discriminants type_definition type_definitions types variable_declaration variable_declarations variables formal_type_of formal_type formal_section formal_sections formals procedure result_name function routine_heading function_rest function_start routine_start routine_part part parts forward_body block_body routine_body routine parameters renaming import_item import_items import_list import_part import_specification import_specifications imports protected_item item_range item_alone plain_item export_item export_items export_part export_parts exports heading_routine heading_part heading_parts heading_rest action finalization begin_action end_action some_actions actions block program interface_rest implementation_rest module_rest module_component program_component unit component components
rule_opens expressions = refl
rule_opens factors = refl
rule_opens component_values = refl
rule_opens elements = refl
rule_opens bracketed_values = refl
rule_opens plains = refl
rule_opens field_lists = refl
rule_opens statements = refl
rule_opens routines = refl

-- and with still more
pub rule_opens_more : (n : Nonterminal) → all_open (rule n) much_room (first_inside n) ≡ true
unfolding qualified_name label_of inner_labels argument field_selector inner_expressions index_selector pointer_selector arguments argument_selector selector selectors access otherwise_of more_elements_of values_rest_of inner_values_rest inner_values_end labels_start structured_tail index_tail bracket_labels bracket_values bracket called_rest called_field called number_factor text_factor nil_factor parenthesized negated members set_constructor factor multiplier multipliers term addend addends simple comparison comparison_part expression expression_rest labels set_tail values_tail value_labels value_values empty_set_tail value_content bracketed_value component_value labelled_element filled_values case_values case_plain case_tagged case_tail case_element element otherwise_values element_values values names names_in_parentheses initial type_denoter enumeration pointer restricted type_of range_end named_or_range inner_plains array record_structure set_structure structure structured core plain field_section variant_selector inner_fields variant variants other_fields variant_part sections sections_end section_fields variant_fields fields inner_statements compound compound_statement else_part if_statement arm arms other other_arms labelled_arms case_arms case_statement while_statement repeat_statement for_range for_members for_statement accesses with_statement simple_statement loop_statement statement constant_definition constant_definitions constants discriminant_section discriminant_sections discriminants type_definition type_definitions types variable_declaration variable_declarations variables formal_type_of formal_type formal_section formal_sections formals procedure result_name function routine_heading function_rest function_start routine_start routine_part part parts forward_body block_body routine_body routine parameters renaming import_item import_items import_list import_part import_specification import_specifications imports protected_item item_range item_alone plain_item export_item export_items export_part export_parts exports heading_routine heading_part heading_parts heading_rest action finalization begin_action end_action some_actions actions block program interface_rest implementation_rest module_rest module_component program_component unit component components
rule_opens_more expressions = refl
rule_opens_more factors = refl
rule_opens_more component_values = refl
rule_opens_more elements = refl
rule_opens_more bracketed_values = refl
rule_opens_more plains = refl
rule_opens_more field_lists = refl
rule_opens_more statements = refl
rule_opens_more routines = refl

-- each of its classes begins it
pub rule_begins : (n : Nonterminal) → within_list (first_inside n) (first (rule n)) ≡ true
unfolding qualified_name label_of inner_labels argument field_selector inner_expressions index_selector pointer_selector arguments argument_selector selector selectors access otherwise_of more_elements_of values_rest_of inner_values_rest inner_values_end labels_start structured_tail index_tail bracket_labels bracket_values bracket called_rest called_field called number_factor text_factor nil_factor parenthesized negated members set_constructor factor multiplier multipliers term addend addends simple comparison comparison_part expression expression_rest labels set_tail values_tail value_labels value_values empty_set_tail value_content bracketed_value component_value labelled_element filled_values case_values case_plain case_tagged case_tail case_element element otherwise_values element_values values names names_in_parentheses initial type_denoter enumeration pointer restricted type_of range_end named_or_range inner_plains array record_structure set_structure structure structured core plain field_section variant_selector inner_fields variant variants other_fields variant_part sections sections_end section_fields variant_fields fields inner_statements compound compound_statement else_part if_statement arm arms other other_arms labelled_arms case_arms case_statement while_statement repeat_statement for_range for_members for_statement accesses with_statement simple_statement loop_statement statement constant_definition constant_definitions constants discriminant_section discriminant_sections discriminants type_definition type_definitions types variable_declaration variable_declarations variables formal_type_of formal_type formal_section formal_sections formals procedure result_name function routine_heading function_rest function_start routine_start routine_part part parts forward_body block_body routine_body routine parameters renaming import_item import_items import_list import_part import_specification import_specifications imports protected_item item_range item_alone plain_item export_item export_items export_part export_parts exports heading_routine heading_part heading_parts heading_rest action finalization begin_action end_action some_actions actions block program interface_rest implementation_rest module_rest module_component program_component unit component components
rule_begins expressions = refl
rule_begins factors = refl
rule_begins component_values = refl
rule_begins elements = refl
rule_begins bracketed_values = refl
rule_begins plains = refl
rule_begins field_lists = refl
rule_begins statements = refl
rule_begins routines = refl

-- what must not follow it
pub rule_beyond : (n : Nonterminal) → within_list (beyond (rule n)) (beyond_inside n) ≡ true
unfolding qualified_name label_of inner_labels argument field_selector inner_expressions index_selector pointer_selector arguments argument_selector selector selectors access otherwise_of more_elements_of values_rest_of inner_values_rest inner_values_end labels_start structured_tail index_tail bracket_labels bracket_values bracket called_rest called_field called number_factor text_factor nil_factor parenthesized negated members set_constructor factor multiplier multipliers term addend addends simple comparison comparison_part expression expression_rest labels set_tail values_tail value_labels value_values empty_set_tail value_content bracketed_value component_value labelled_element filled_values case_values case_plain case_tagged case_tail case_element element otherwise_values element_values values names names_in_parentheses initial type_denoter enumeration pointer restricted type_of range_end named_or_range inner_plains array record_structure set_structure structure structured core plain field_section variant_selector inner_fields variant variants other_fields variant_part sections sections_end section_fields variant_fields fields inner_statements compound compound_statement else_part if_statement arm arms other other_arms labelled_arms case_arms case_statement while_statement repeat_statement for_range for_members for_statement accesses with_statement simple_statement loop_statement statement constant_definition constant_definitions constants discriminant_section discriminant_sections discriminants type_definition type_definitions types variable_declaration variable_declarations variables formal_type_of formal_type formal_section formal_sections formals procedure result_name function routine_heading function_rest function_start routine_start routine_part part parts forward_body block_body routine_body routine parameters renaming import_item import_items import_list import_part import_specification import_specifications imports protected_item item_range item_alone plain_item export_item export_items export_part export_parts exports heading_routine heading_part heading_parts heading_rest action finalization begin_action end_action some_actions actions block program interface_rest implementation_rest module_rest module_component program_component unit component components
rule_beyond expressions = refl
rule_beyond factors = refl
rule_beyond component_values = refl
rule_beyond elements = refl
rule_beyond bracketed_values = refl
rule_beyond plains = refl
rule_beyond field_lists = refl
rule_beyond statements = refl
rule_beyond routines = refl

-- a whole text can be brought to its end
pub components_close : closes components ≡ true
unfolding qualified_name label_of inner_labels argument field_selector inner_expressions index_selector pointer_selector arguments argument_selector selector selectors access otherwise_of more_elements_of values_rest_of inner_values_rest inner_values_end labels_start structured_tail index_tail bracket_labels bracket_values bracket called_rest called_field called number_factor text_factor nil_factor parenthesized negated members set_constructor factor multiplier multipliers term addend addends simple comparison comparison_part expression expression_rest labels set_tail values_tail value_labels value_values empty_set_tail value_content bracketed_value component_value labelled_element filled_values case_values case_plain case_tagged case_tail case_element element otherwise_values element_values values names names_in_parentheses initial type_denoter enumeration pointer restricted type_of range_end named_or_range inner_plains array record_structure set_structure structure structured core plain field_section variant_selector inner_fields variant variants other_fields variant_part sections sections_end section_fields variant_fields fields inner_statements compound compound_statement else_part if_statement arm arms other other_arms labelled_arms case_arms case_statement while_statement repeat_statement for_range for_members for_statement accesses with_statement simple_statement loop_statement statement constant_definition constant_definitions constants discriminant_section discriminant_sections discriminants type_definition type_definitions types variable_declaration variable_declarations variables formal_type_of formal_type formal_section formal_sections formals procedure result_name function routine_heading function_rest function_start routine_start routine_part part parts forward_body block_body routine_body routine parameters renaming import_item import_items import_list import_part import_specification import_specifications imports protected_item item_range item_alone plain_item export_item export_items export_part export_parts exports heading_routine heading_part heading_parts heading_rest action finalization begin_action end_action some_actions actions block program interface_rest implementation_rest module_rest module_component program_component unit component components
components_close = refl

-- and nothing need follow it
pub components_beyond : has (beyond components) End ≡ false
unfolding qualified_name label_of inner_labels argument field_selector inner_expressions index_selector pointer_selector arguments argument_selector selector selectors access otherwise_of more_elements_of values_rest_of inner_values_rest inner_values_end labels_start structured_tail index_tail bracket_labels bracket_values bracket called_rest called_field called number_factor text_factor nil_factor parenthesized negated members set_constructor factor multiplier multipliers term addend addends simple comparison comparison_part expression expression_rest labels set_tail values_tail value_labels value_values empty_set_tail value_content bracketed_value component_value labelled_element filled_values case_values case_plain case_tagged case_tail case_element element otherwise_values element_values values names names_in_parentheses initial type_denoter enumeration pointer restricted type_of range_end named_or_range inner_plains array record_structure set_structure structure structured core plain field_section variant_selector inner_fields variant variants other_fields variant_part sections sections_end section_fields variant_fields fields inner_statements compound compound_statement else_part if_statement arm arms other other_arms labelled_arms case_arms case_statement while_statement repeat_statement for_range for_members for_statement accesses with_statement simple_statement loop_statement statement constant_definition constant_definitions constants discriminant_section discriminant_sections discriminants type_definition type_definitions types variable_declaration variable_declarations variables formal_type_of formal_type formal_section formal_sections formals procedure result_name function routine_heading function_rest function_start routine_start routine_part part parts forward_body block_body routine_body routine parameters renaming import_item import_items import_list import_part import_specification import_specifications imports protected_item item_range item_alone plain_item export_item export_items export_part export_parts exports heading_routine heading_part heading_parts heading_rest action finalization begin_action end_action some_actions actions block program interface_rest implementation_rest module_rest module_component program_component unit component components
components_beyond = refl

-- which meanings hold no line of what follows
pub rule_steady : (n : Nonterminal) → any (opposite (steady_inside n)) (steady (rule n)) ≡ true
unfolding qualified_name label_of inner_labels argument field_selector inner_expressions index_selector pointer_selector arguments argument_selector selector selectors access otherwise_of more_elements_of values_rest_of inner_values_rest inner_values_end labels_start structured_tail index_tail bracket_labels bracket_values bracket called_rest called_field called number_factor text_factor nil_factor parenthesized negated members set_constructor factor multiplier multipliers term addend addends simple comparison comparison_part expression expression_rest labels set_tail values_tail value_labels value_values empty_set_tail value_content bracketed_value component_value labelled_element filled_values case_values case_plain case_tagged case_tail case_element element otherwise_values element_values values names names_in_parentheses initial type_denoter enumeration pointer restricted type_of range_end named_or_range inner_plains array record_structure set_structure structure structured core plain field_section variant_selector inner_fields variant variants other_fields variant_part sections sections_end section_fields variant_fields fields inner_statements compound compound_statement else_part if_statement arm arms other other_arms labelled_arms case_arms case_statement while_statement repeat_statement for_range for_members for_statement accesses with_statement simple_statement loop_statement statement constant_definition constant_definitions constants discriminant_section discriminant_sections discriminants type_definition type_definitions types variable_declaration variable_declarations variables formal_type_of formal_type formal_section formal_sections formals procedure result_name function routine_heading function_rest function_start routine_start routine_part part parts forward_body block_body routine_body routine parameters renaming import_item import_items import_list import_part import_specification import_specifications imports protected_item item_range item_alone plain_item export_item export_items export_part export_parts exports heading_routine heading_part heading_parts heading_rest action finalization begin_action end_action some_actions actions block program interface_rest implementation_rest module_rest module_component program_component unit component components
rule_steady expressions = refl
rule_steady factors = refl
rule_steady component_values = refl
rule_steady elements = refl
rule_steady bracketed_values = refl
rule_steady plains = refl
rule_steady field_lists = refl
rule_steady statements = refl
rule_steady routines = refl

-- what was taken of it can be brought to its end, with no further level
pub rule_lasts_none : (n : Nonterminal) → lasts (rule n) no_room ≡ true
unfolding qualified_name label_of inner_labels argument field_selector inner_expressions index_selector pointer_selector arguments argument_selector selector selectors access otherwise_of more_elements_of values_rest_of inner_values_rest inner_values_end labels_start structured_tail index_tail bracket_labels bracket_values bracket called_rest called_field called number_factor text_factor nil_factor parenthesized negated members set_constructor factor multiplier multipliers term addend addends simple comparison comparison_part expression expression_rest labels set_tail values_tail value_labels value_values empty_set_tail value_content bracketed_value component_value labelled_element filled_values case_values case_plain case_tagged case_tail case_element element otherwise_values element_values values names names_in_parentheses initial type_denoter enumeration pointer restricted type_of range_end named_or_range inner_plains array record_structure set_structure structure structured core plain field_section variant_selector inner_fields variant variants other_fields variant_part sections sections_end section_fields variant_fields fields inner_statements compound compound_statement else_part if_statement arm arms other other_arms labelled_arms case_arms case_statement while_statement repeat_statement for_range for_members for_statement accesses with_statement simple_statement loop_statement statement constant_definition constant_definitions constants discriminant_section discriminant_sections discriminants type_definition type_definitions types variable_declaration variable_declarations variables formal_type_of formal_type formal_section formal_sections formals procedure result_name function routine_heading function_rest function_start routine_start routine_part part parts forward_body block_body routine_body routine parameters renaming import_item import_items import_list import_part import_specification import_specifications imports protected_item item_range item_alone plain_item export_item export_items export_part export_parts exports heading_routine heading_part heading_parts heading_rest action finalization begin_action end_action some_actions actions block program interface_rest implementation_rest module_rest module_component program_component unit component components
rule_lasts_none expressions = refl
rule_lasts_none factors = refl
rule_lasts_none component_values = refl
rule_lasts_none elements = refl
rule_lasts_none bracketed_values = refl
rule_lasts_none plains = refl
rule_lasts_none field_lists = refl
rule_lasts_none statements = refl
rule_lasts_none routines = refl

-- with one more
pub rule_lasts_little : (n : Nonterminal) → lasts (rule n) little_room ≡ true
unfolding qualified_name label_of inner_labels argument field_selector inner_expressions index_selector pointer_selector arguments argument_selector selector selectors access otherwise_of more_elements_of values_rest_of inner_values_rest inner_values_end labels_start structured_tail index_tail bracket_labels bracket_values bracket called_rest called_field called number_factor text_factor nil_factor parenthesized negated members set_constructor factor multiplier multipliers term addend addends simple comparison comparison_part expression expression_rest labels set_tail values_tail value_labels value_values empty_set_tail value_content bracketed_value component_value labelled_element filled_values case_values case_plain case_tagged case_tail case_element element otherwise_values element_values values names names_in_parentheses initial type_denoter enumeration pointer restricted type_of range_end named_or_range inner_plains array record_structure set_structure structure structured core plain field_section variant_selector inner_fields variant variants other_fields variant_part sections sections_end section_fields variant_fields fields inner_statements compound compound_statement else_part if_statement arm arms other other_arms labelled_arms case_arms case_statement while_statement repeat_statement for_range for_members for_statement accesses with_statement simple_statement loop_statement statement constant_definition constant_definitions constants discriminant_section discriminant_sections discriminants type_definition type_definitions types variable_declaration variable_declarations variables formal_type_of formal_type formal_section formal_sections formals procedure result_name function routine_heading function_rest function_start routine_start routine_part part parts forward_body block_body routine_body routine parameters renaming import_item import_items import_list import_part import_specification import_specifications imports protected_item item_range item_alone plain_item export_item export_items export_part export_parts exports heading_routine heading_part heading_parts heading_rest action finalization begin_action end_action some_actions actions block program interface_rest implementation_rest module_rest module_component program_component unit component components
rule_lasts_little expressions = refl
rule_lasts_little factors = refl
rule_lasts_little component_values = refl
rule_lasts_little elements = refl
rule_lasts_little bracketed_values = refl
rule_lasts_little plains = refl
rule_lasts_little field_lists = refl
rule_lasts_little statements = refl
rule_lasts_little routines = refl

-- and with still more
pub rule_lasts_much : (n : Nonterminal) → lasts (rule n) much_room ≡ true
unfolding qualified_name label_of inner_labels argument field_selector inner_expressions index_selector pointer_selector arguments argument_selector selector selectors access otherwise_of more_elements_of values_rest_of inner_values_rest inner_values_end labels_start structured_tail index_tail bracket_labels bracket_values bracket called_rest called_field called number_factor text_factor nil_factor parenthesized negated members set_constructor factor multiplier multipliers term addend addends simple comparison comparison_part expression expression_rest labels set_tail values_tail value_labels value_values empty_set_tail value_content bracketed_value component_value labelled_element filled_values case_values case_plain case_tagged case_tail case_element element otherwise_values element_values values names names_in_parentheses initial type_denoter enumeration pointer restricted type_of range_end named_or_range inner_plains array record_structure set_structure structure structured core plain field_section variant_selector inner_fields variant variants other_fields variant_part sections sections_end section_fields variant_fields fields inner_statements compound compound_statement else_part if_statement arm arms other other_arms labelled_arms case_arms case_statement while_statement repeat_statement for_range for_members for_statement accesses with_statement simple_statement loop_statement statement constant_definition constant_definitions constants discriminant_section discriminant_sections discriminants type_definition type_definitions types variable_declaration variable_declarations variables formal_type_of formal_type formal_section formal_sections formals procedure result_name function routine_heading function_rest function_start routine_start routine_part part parts forward_body block_body routine_body routine parameters renaming import_item import_items import_list import_part import_specification import_specifications imports protected_item item_range item_alone plain_item export_item export_items export_part export_parts exports heading_routine heading_part heading_parts heading_rest action finalization begin_action end_action some_actions actions block program interface_rest implementation_rest module_rest module_component program_component unit component components
rule_lasts_much expressions = refl
rule_lasts_much factors = refl
rule_lasts_much component_values = refl
rule_lasts_much elements = refl
rule_lasts_much bracketed_values = refl
rule_lasts_much plains = refl
rule_lasts_much field_lists = refl
rule_lasts_much statements = refl
rule_lasts_much routines = refl

-- what was taken of a whole text can be brought to its end, with one level
pub components_last_little : lasts components little_room ≡ true
unfolding qualified_name label_of inner_labels argument field_selector inner_expressions index_selector pointer_selector arguments argument_selector selector selectors access otherwise_of more_elements_of values_rest_of inner_values_rest inner_values_end labels_start structured_tail index_tail bracket_labels bracket_values bracket called_rest called_field called number_factor text_factor nil_factor parenthesized negated members set_constructor factor multiplier multipliers term addend addends simple comparison comparison_part expression expression_rest labels set_tail values_tail value_labels value_values empty_set_tail value_content bracketed_value component_value labelled_element filled_values case_values case_plain case_tagged case_tail case_element element otherwise_values element_values values names names_in_parentheses initial type_denoter enumeration pointer restricted type_of range_end named_or_range inner_plains array record_structure set_structure structure structured core plain field_section variant_selector inner_fields variant variants other_fields variant_part sections sections_end section_fields variant_fields fields inner_statements compound compound_statement else_part if_statement arm arms other other_arms labelled_arms case_arms case_statement while_statement repeat_statement for_range for_members for_statement accesses with_statement simple_statement loop_statement statement constant_definition constant_definitions constants discriminant_section discriminant_sections discriminants type_definition type_definitions types variable_declaration variable_declarations variables formal_type_of formal_type formal_section formal_sections formals procedure result_name function routine_heading function_rest function_start routine_start routine_part part parts forward_body block_body routine_body routine parameters renaming import_item import_items import_list import_part import_specification import_specifications imports protected_item item_range item_alone plain_item export_item export_items export_part export_parts exports heading_routine heading_part heading_parts heading_rest action finalization begin_action end_action some_actions actions block program interface_rest implementation_rest module_rest module_component program_component unit component components
components_last_little = refl

-- and with more
pub components_last_much : lasts components much_room ≡ true
unfolding qualified_name label_of inner_labels argument field_selector inner_expressions index_selector pointer_selector arguments argument_selector selector selectors access otherwise_of more_elements_of values_rest_of inner_values_rest inner_values_end labels_start structured_tail index_tail bracket_labels bracket_values bracket called_rest called_field called number_factor text_factor nil_factor parenthesized negated members set_constructor factor multiplier multipliers term addend addends simple comparison comparison_part expression expression_rest labels set_tail values_tail value_labels value_values empty_set_tail value_content bracketed_value component_value labelled_element filled_values case_values case_plain case_tagged case_tail case_element element otherwise_values element_values values names names_in_parentheses initial type_denoter enumeration pointer restricted type_of range_end named_or_range inner_plains array record_structure set_structure structure structured core plain field_section variant_selector inner_fields variant variants other_fields variant_part sections sections_end section_fields variant_fields fields inner_statements compound compound_statement else_part if_statement arm arms other other_arms labelled_arms case_arms case_statement while_statement repeat_statement for_range for_members for_statement accesses with_statement simple_statement loop_statement statement constant_definition constant_definitions constants discriminant_section discriminant_sections discriminants type_definition type_definitions types variable_declaration variable_declarations variables formal_type_of formal_type formal_section formal_sections formals procedure result_name function routine_heading function_rest function_start routine_start routine_part part parts forward_body block_body routine_body routine parameters renaming import_item import_items import_list import_part import_specification import_specifications imports protected_item item_range item_alone plain_item export_item export_items export_part export_parts exports heading_routine heading_part heading_parts heading_rest action finalization begin_action end_action some_actions actions block program interface_rest implementation_rest module_rest module_component program_component unit component components
components_last_much = refl

-- there is a text of one level
pub components_end_little : ends components little_room ≡ true
unfolding qualified_name label_of inner_labels argument field_selector inner_expressions index_selector pointer_selector arguments argument_selector selector selectors access otherwise_of more_elements_of values_rest_of inner_values_rest inner_values_end labels_start structured_tail index_tail bracket_labels bracket_values bracket called_rest called_field called number_factor text_factor nil_factor parenthesized negated members set_constructor factor multiplier multipliers term addend addends simple comparison comparison_part expression expression_rest labels set_tail values_tail value_labels value_values empty_set_tail value_content bracketed_value component_value labelled_element filled_values case_values case_plain case_tagged case_tail case_element element otherwise_values element_values values names names_in_parentheses initial type_denoter enumeration pointer restricted type_of range_end named_or_range inner_plains array record_structure set_structure structure structured core plain field_section variant_selector inner_fields variant variants other_fields variant_part sections sections_end section_fields variant_fields fields inner_statements compound compound_statement else_part if_statement arm arms other other_arms labelled_arms case_arms case_statement while_statement repeat_statement for_range for_members for_statement accesses with_statement simple_statement loop_statement statement constant_definition constant_definitions constants discriminant_section discriminant_sections discriminants type_definition type_definitions types variable_declaration variable_declarations variables formal_type_of formal_type formal_section formal_sections formals procedure result_name function routine_heading function_rest function_start routine_start routine_part part parts forward_body block_body routine_body routine parameters renaming import_item import_items import_list import_part import_specification import_specifications imports protected_item item_range item_alone plain_item export_item export_items export_part export_parts exports heading_routine heading_part heading_parts heading_rest action finalization begin_action end_action some_actions actions block program interface_rest implementation_rest module_rest module_component program_component unit component components
components_end_little = refl

-- and with more
pub components_end_much : ends components much_room ≡ true
unfolding qualified_name label_of inner_labels argument field_selector inner_expressions index_selector pointer_selector arguments argument_selector selector selectors access otherwise_of more_elements_of values_rest_of inner_values_rest inner_values_end labels_start structured_tail index_tail bracket_labels bracket_values bracket called_rest called_field called number_factor text_factor nil_factor parenthesized negated members set_constructor factor multiplier multipliers term addend addends simple comparison comparison_part expression expression_rest labels set_tail values_tail value_labels value_values empty_set_tail value_content bracketed_value component_value labelled_element filled_values case_values case_plain case_tagged case_tail case_element element otherwise_values element_values values names names_in_parentheses initial type_denoter enumeration pointer restricted type_of range_end named_or_range inner_plains array record_structure set_structure structure structured core plain field_section variant_selector inner_fields variant variants other_fields variant_part sections sections_end section_fields variant_fields fields inner_statements compound compound_statement else_part if_statement arm arms other other_arms labelled_arms case_arms case_statement while_statement repeat_statement for_range for_members for_statement accesses with_statement simple_statement loop_statement statement constant_definition constant_definitions constants discriminant_section discriminant_sections discriminants type_definition type_definitions types variable_declaration variable_declarations variables formal_type_of formal_type formal_section formal_sections formals procedure result_name function routine_heading function_rest function_start routine_start routine_part part parts forward_body block_body routine_body routine parameters renaming import_item import_items import_list import_part import_specification import_specifications imports protected_item item_range item_alone plain_item export_item export_items export_part export_parts exports heading_routine heading_part heading_parts heading_rest action finalization begin_action end_action some_actions actions block program interface_rest implementation_rest module_rest module_component program_component unit component components
components_end_much = refl

-- which begins with a token of its own
pub components_clear : clear [] components ≡ true
unfolding qualified_name label_of inner_labels argument field_selector inner_expressions index_selector pointer_selector arguments argument_selector selector selectors access otherwise_of more_elements_of values_rest_of inner_values_rest inner_values_end labels_start structured_tail index_tail bracket_labels bracket_values bracket called_rest called_field called number_factor text_factor nil_factor parenthesized negated members set_constructor factor multiplier multipliers term addend addends simple comparison comparison_part expression expression_rest labels set_tail values_tail value_labels value_values empty_set_tail value_content bracketed_value component_value labelled_element filled_values case_values case_plain case_tagged case_tail case_element element otherwise_values element_values values names names_in_parentheses initial type_denoter enumeration pointer restricted type_of range_end named_or_range inner_plains array record_structure set_structure structure structured core plain field_section variant_selector inner_fields variant variants other_fields variant_part sections sections_end section_fields variant_fields fields inner_statements compound compound_statement else_part if_statement arm arms other other_arms labelled_arms case_arms case_statement while_statement repeat_statement for_range for_members for_statement accesses with_statement simple_statement loop_statement statement constant_definition constant_definitions constants discriminant_section discriminant_sections discriminants type_definition type_definitions types variable_declaration variable_declarations variables formal_type_of formal_type formal_section formal_sections formals procedure result_name function routine_heading function_rest function_start routine_start routine_part part parts forward_body block_body routine_body routine parameters renaming import_item import_items import_list import_part import_specification import_specifications imports protected_item item_range item_alone plain_item export_item export_items export_part export_parts exports heading_routine heading_part heading_parts heading_rest action finalization begin_action end_action some_actions actions block program interface_rest implementation_rest module_rest module_component program_component unit component components
components_clear = refl
