-- The productions of components: what their tokens derive, tokens of the same kinds derive too. A lemma for each description, under its name and along it.
use Rattle.std.proofs.Common.{refl}
use Rattle.ep_grammar.specs.Descriptions.{statements}
use Rattle.ep_grammar.specs.Units.{parameters, renaming, import_item, import_items, import_list, import_part, import_specification, import_specifications, imports, protected_item, item_range, item_alone, plain_item, export_item, export_items, export_part, export_parts, exports, heading_routine, heading_part, heading_parts, heading_rest, action, finalization, begin_action, end_action, some_actions, actions, block, program, interface_rest, implementation_rest, module_rest, module_component, program_component, unit, component, components}
use Rattle.ep_format.proofs.kinds.Forms.{a_line, behind, mark, one_of, within}
use Rattle.ep_format.proofs.kinds.Simply.{Simply, a_flag, anything, each_of_many, each_of_some, each_separated, maybe, maybe_list, ◌&◌, ◌<*◌}
use Rattle.ep_format.proofs.kinds.Declarations.{constants_decided, parts_decided, routine_heading_decided, types_decided, variables_decided}
use Rattle.ep_format.proofs.kinds.Statements.{compound_decided}
use Rattle.ep_format.proofs.kinds.Types.{names_in_parentheses_decided}

pub parameters_decided : Simply parameters
unfolding parameters
parameters_decided = maybe_list names_in_parentheses_decided

pub renaming_decided : Simply renaming
unfolding renaming
renaming_decided = maybe (anything <* mark refl & mark refl)

pub import_item_decided : Simply import_item
unfolding import_item
import_item_decided = anything & a_line & mark refl & renaming_decided

pub import_items_decided : Simply import_items
unfolding import_items
import_items_decided = each_separated import_item_decided

pub import_list_decided : Simply import_list
unfolding import_list
import_list_decided = anything <* mark refl & import_items_decided <* mark refl

pub import_part_decided : Simply import_part
unfolding import_part
import_part_decided = one_of (anything <* mark refl & import_list_decided) (one_of (anything & import_list_decided) anything)

pub import_specification_decided : Simply import_specification
unfolding import_specification
import_specification_decided = anything & a_line & mark refl & a_flag & import_part_decided <* mark refl

pub import_specifications_decided : Simply import_specifications
unfolding import_specifications
import_specifications_decided = each_of_some import_specification_decided

pub imports_decided : Simply imports
unfolding imports
imports_decided = maybe_list (anything <* mark refl & import_specifications_decided)

pub protected_item_decided : Simply protected_item
unfolding protected_item
protected_item_decided = anything & a_line <* mark refl & mark refl & renaming_decided

pub item_range_decided : Simply item_range
unfolding item_range
item_range_decided = anything <* mark refl & mark refl

pub item_alone_decided : Simply item_alone
unfolding item_alone
item_alone_decided = anything & renaming_decided

pub plain_item_decided : Simply plain_item
unfolding plain_item
plain_item_decided = anything & a_line & mark refl & one_of item_range_decided item_alone_decided

pub export_item_decided : Simply export_item
unfolding export_item
export_item_decided = one_of protected_item_decided plain_item_decided

pub export_items_decided : Simply export_items
unfolding export_items
export_items_decided = each_separated export_item_decided

pub export_part_decided : Simply export_part
unfolding export_part
export_part_decided = anything & a_line & mark refl <* mark refl <* mark refl & export_items_decided <* mark refl <* mark refl

pub export_parts_decided : Simply export_parts
unfolding export_parts
export_parts_decided = each_of_some export_part_decided

pub exports_decided : Simply exports
unfolding exports
exports_decided = anything <* mark refl & export_parts_decided

pub heading_routine_decided : Simply heading_routine
unfolding heading_routine
heading_routine_decided = anything & routine_heading_decided <* mark refl

pub heading_part_decided : Simply heading_part
unfolding heading_part
heading_part_decided = one_of (anything & constants_decided) (one_of (anything & types_decided) (one_of (anything & variables_decided) heading_routine_decided))

pub heading_parts_decided : Simply heading_parts
unfolding heading_parts
heading_parts_decided = each_of_many heading_part_decided

pub heading_rest_decided : Simply heading_rest
unfolding heading_rest
heading_rest_decided = anything & parameters_decided <* mark refl & exports_decided & imports_decided & heading_parts_decided <* mark refl

pub action_decided : Simply action
unfolding action
action_decided = anything <* mark refl & within statements <* mark refl

pub finalization_decided : Simply finalization
unfolding finalization
finalization_decided = behind (anything <* mark refl <* mark refl & action_decided)

pub begin_action_decided : Simply begin_action
unfolding begin_action
begin_action_decided = anything <* mark refl & action_decided & maybe finalization_decided

pub end_action_decided : Simply end_action
unfolding end_action
end_action_decided = anything <* mark refl & action_decided

pub some_actions_decided : Simply some_actions
unfolding some_actions
some_actions_decided = behind (anything <* mark refl & one_of begin_action_decided end_action_decided)

pub actions_decided : Simply actions
unfolding actions
actions_decided = one_of some_actions_decided anything

pub block_decided : Simply block
unfolding block
block_decided = anything & a_line & imports_decided & parts_decided & actions_decided <* mark refl

pub program_decided : Simply program
unfolding program
program_decided = anything & a_line <* mark refl & mark refl & parameters_decided <* mark refl & imports_decided & parts_decided & compound_decided

pub interface_rest_decided : Simply interface_rest
unfolding interface_rest
interface_rest_decided = anything <* mark refl & heading_rest_decided

pub implementation_rest_decided : Simply implementation_rest
unfolding implementation_rest
implementation_rest_decided = anything <* mark refl <* mark refl & block_decided

pub module_rest_decided : Simply module_rest
unfolding module_rest
module_rest_decided = anything & heading_rest_decided <* mark refl & block_decided

pub module_component_decided : Simply module_component
unfolding module_component
module_component_decided = anything & a_line <* mark refl & mark refl & one_of interface_rest_decided (one_of implementation_rest_decided module_rest_decided)

pub program_component_decided : Simply program_component
unfolding program_component
program_component_decided = anything & program_decided

pub unit_decided : Simply unit
unfolding unit
unit_decided = one_of program_component_decided module_component_decided

pub component_decided : Simply component
unfolding component
component_decided = anything & unit_decided <* mark refl

pub components_decided : Simply components
unfolding components
components_decided = each_of_some component_decided
