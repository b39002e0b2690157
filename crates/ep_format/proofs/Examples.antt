-- Two programs and their layouts.
use Rattle.std.proofs.Common.{◌≡◌, [], ◌∷◌, ◌++◌, refl}
use Rattle.std.specs.Prelude.{codes}
use Rattle.ep_grammar.specs.Expressions.{qualified_name, label_of, inner_labels, argument, field_selector, inner_expressions, index_selector, pointer_selector, arguments, argument_selector, selector, selectors, access, otherwise_of, more_elements_of, values_rest_of, inner_values_rest, inner_values_end, labels_start, structured_tail, index_tail, bracket_labels, bracket_values, bracket, called_rest, called_field, called, number_factor, text_factor, nil_factor, parenthesized, negated, members, set_constructor, factor, multiplier, multipliers, term, addend, addends, simple, comparison, comparison_part, expression, expression_rest, labels, set_tail, values_tail, value_labels, value_values, empty_set_tail, value_content, bracketed_value, component_value, labelled_element, filled_values, case_values, case_plain, case_tagged, case_tail, case_element, element, otherwise_values, element_values, values}
use Rattle.ep_grammar.specs.Types.{names, names_in_parentheses, initial, type_denoter, enumeration, pointer, restricted, type_of, range_end, named_or_range, inner_plains, array, record_structure, set_structure, structure, structured, core, plain, field_section, variant_selector, inner_fields, variant, variants, other_fields, variant_part, sections, sections_end, section_fields, variant_fields, fields}
use Rattle.ep_grammar.specs.Statements.{inner_statements, compound, compound_statement, else_part, if_statement, arm, arms, other, other_arms, labelled_arms, case_arms, case_statement, while_statement, repeat_statement, for_range, for_members, for_statement, accesses, with_statement, simple_statement, loop_statement, statement}
use Rattle.ep_grammar.specs.Declarations.{constant_definition, constant_definitions, constants, discriminant_section, discriminant_sections, discriminants, type_definition, type_definitions, types, variable_declaration, variable_declarations, variables, formal_type_of, formal_type, formal_section, formal_sections, formals, procedure, result_name, function, routine_heading, function_rest, function_start, routine_start, routine_part, part, parts, forward_body, block_body, routine_body, routine}
use Rattle.ep_grammar.specs.Units.{parameters, renaming, import_item, import_items, import_list, import_part, import_specification, import_specifications, imports, protected_item, item_range, item_alone, plain_item, export_item, export_items, export_part, export_parts, exports, heading_routine, heading_part, heading_parts, heading_rest, action, finalization, begin_action, end_action, some_actions, actions, block, program, interface_rest, implementation_rest, module_rest, module_component, program_component, unit, component, components}
use Rattle.ep_grammar.specs.Rules.{inside_at}
use Rattle.ep_grammar.specs.Reading.{steps}
use Rattle.ep_grammar.specs.Classes.{class_of_name}
use Rattle.ep_token.specs.Words.{word_symbols}
use Rattle.ep_token.specs.Symbols.{special_symbols, reference_spelling}
use Rattle.ep_token.specs.Reading.{piece_at, name_at, name_end, number_at, number_value, numeral, string_at, string_end, undoubled, symbol_at}
use Rattle.ep_token.specs.Tokens.{is_separator}
use Rattle.ep_token.specs.Numbers.{continues_number, digit_value}
use Rattle.ep_marks.specs.Texts.{inner_at}
use Rattle.ep_pieces.specs.Pieces.{piece}
use Rattle.ep_pieces.specs.Joining.{joined}
use Rattle.ep_format.specs.Layout.{layout}

hello : layout (piece 0 (codes "program") ∷ piece 1 (codes "p") ∷ piece 4 (codes "(") ∷ piece 1 (codes "output") ∷ piece 4 (codes ")") ∷ piece 4 (codes ";") ∷ piece 0 (codes "begin") ∷ piece 1 (codes "writeln") ∷ piece 4 (codes "(") ∷ piece 3 (codes "'hello'") ∷ piece 4 (codes ")") ∷ piece 0 (codes "end") ∷ piece 4 (codes ".") ∷ []) ≡ codes "program p(output);" ++ (10 ∷ codes "begin" ++ (10 ∷ codes "  writeln('hello')" ++ (10 ∷ codes "end." ++ (10 ∷ []))))
unfolding qualified_name label_of inner_labels argument field_selector inner_expressions index_selector pointer_selector arguments argument_selector selector selectors access otherwise_of more_elements_of values_rest_of inner_values_rest inner_values_end labels_start structured_tail index_tail bracket_labels bracket_values bracket called_rest called_field called number_factor text_factor nil_factor parenthesized negated members set_constructor factor multiplier multipliers term addend addends simple comparison comparison_part expression expression_rest labels set_tail values_tail value_labels value_values empty_set_tail value_content bracketed_value component_value labelled_element filled_values case_values case_plain case_tagged case_tail case_element element otherwise_values element_values values names names_in_parentheses initial type_denoter enumeration pointer restricted type_of range_end named_or_range inner_plains array record_structure set_structure structure structured core plain field_section variant_selector inner_fields variant variants other_fields variant_part sections sections_end section_fields variant_fields fields inner_statements compound compound_statement else_part if_statement arm arms other other_arms labelled_arms case_arms case_statement while_statement repeat_statement for_range for_members for_statement accesses with_statement simple_statement loop_statement statement constant_definition constant_definitions constants discriminant_section discriminant_sections discriminants type_definition type_definitions types variable_declaration variable_declarations variables formal_type_of formal_type formal_section formal_sections formals procedure result_name function routine_heading function_rest function_start routine_start routine_part part parts forward_body block_body routine_body routine parameters renaming import_item import_items import_list import_part import_specification import_specifications imports protected_item item_range item_alone plain_item export_item export_items export_part export_parts exports heading_routine heading_part heading_parts heading_rest action finalization begin_action end_action some_actions actions block program interface_rest implementation_rest module_rest module_component program_component unit component components inside_at steps class_of_name word_symbols special_symbols reference_spelling is_separator piece_at name_at name_end number_at number_value numeral string_at string_end undoubled symbol_at continues_number digit_value inner_at joined
hello = refl

to_pointer : layout (piece 0 (codes "program") ∷ piece 1 (codes "p") ∷ piece 4 (codes ";") ∷ piece 5 (codes " c ") ∷ piece 0 (codes "var") ∷ piece 1 (codes "x") ∷ piece 4 (codes ":") ∷ piece 4 (codes "^") ∷ piece 1 (codes "integer") ∷ piece 4 (codes ";") ∷ piece 0 (codes "begin") ∷ piece 0 (codes "if") ∷ piece 1 (codes "true") ∷ piece 0 (codes "then") ∷ piece 1 (codes "x") ∷ piece 4 (codes "^") ∷ piece 4 (codes ":=") ∷ piece 2 (codes "16#ff") ∷ piece 0 (codes "end") ∷ piece 4 (codes ".") ∷ []) ≡ codes "program p;" ++ (10 ∷ codes "{ c }" ++ (10 ∷ codes "var x: ^integer;" ++ (10 ∷ codes "begin" ++ (10 ∷ codes "  if true then" ++ (10 ∷ codes "    x^ := 16#ff" ++ (10 ∷ codes "end." ++ (10 ∷ [])))))))
unfolding qualified_name label_of inner_labels argument field_selector inner_expressions index_selector pointer_selector arguments argument_selector selector selectors access otherwise_of more_elements_of values_rest_of inner_values_rest inner_values_end labels_start structured_tail index_tail bracket_labels bracket_values bracket called_rest called_field called number_factor text_factor nil_factor parenthesized negated members set_constructor factor multiplier multipliers term addend addends simple comparison comparison_part expression expression_rest labels set_tail values_tail value_labels value_values empty_set_tail value_content bracketed_value component_value labelled_element filled_values case_values case_plain case_tagged case_tail case_element element otherwise_values element_values values names names_in_parentheses initial type_denoter enumeration pointer restricted type_of range_end named_or_range inner_plains array record_structure set_structure structure structured core plain field_section variant_selector inner_fields variant variants other_fields variant_part sections sections_end section_fields variant_fields fields inner_statements compound compound_statement else_part if_statement arm arms other other_arms labelled_arms case_arms case_statement while_statement repeat_statement for_range for_members for_statement accesses with_statement simple_statement loop_statement statement constant_definition constant_definitions constants discriminant_section discriminant_sections discriminants type_definition type_definitions types variable_declaration variable_declarations variables formal_type_of formal_type formal_section formal_sections formals procedure result_name function routine_heading function_rest function_start routine_start routine_part part parts forward_body block_body routine_body routine parameters renaming import_item import_items import_list import_part import_specification import_specifications imports protected_item item_range item_alone plain_item export_item export_items export_part export_parts exports heading_routine heading_part heading_parts heading_rest action finalization begin_action end_action some_actions actions block program interface_rest implementation_rest module_rest module_component program_component unit component components inside_at steps class_of_name word_symbols special_symbols reference_spelling is_separator piece_at name_at name_end number_at number_value numeral string_at string_end undoubled symbol_at continues_number digit_value inner_at joined
to_pointer = refl
