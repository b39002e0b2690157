-- The levels that the productions of components take: a lemma for each description, under its name and along it.
use Rattle.std.proofs.Common.{◌≡◌, ℕ, max, Option, None, Some, refl, arith}
use Rattle.ep_tree.specs.declared.statement.Statement.{Statement}
use Rattle.ep_tree.specs.Nesting.{action_nesting, block_nesting, component_nesting, heading_part_nesting, program_nesting, statement_nesting}
use Rattle.ep_grammar.specs.Descriptions.{statements}
use Rattle.ep_grammar.specs.Expressions.{qualified_name}
use Rattle.ep_grammar.specs.Types.{names, names_in_parentheses}
use Rattle.ep_grammar.specs.Declarations.{formal_type_of, formal_type, formal_section, formal_sections, formals, procedure, result_name, function, routine_heading}
use Rattle.ep_grammar.specs.Units.{parameters, renaming, import_item, import_items, import_list, import_part, import_specification, import_specifications, imports, protected_item, item_range, item_alone, plain_item, export_item, export_items, export_part, export_parts, exports, heading_routine, heading_part, heading_parts, HeadingRest, heading_rest, action, finalization, Actions, begin_action, end_action, some_actions, actions, block, program, interface_rest, implementation_rest, module_rest, module_component, program_component, unit, component, components}
use Rattle.ep_levels.proofs.Measures.{Measures, Is, Over, given, part, over, before, one_of, behind, within, most, there, perhaps, lightly, all_many, all_some}
use Rattle.ep_levels.proofs.Declarations.{constants_take, types_take, variables_take, parts_take}
use Rattle.ep_levels.proofs.Statements.{compound_takes}

-- ---- headings

heading_routine_takes : Measures heading_routine (Is heading_part_nesting)
unfolding heading_routine routine_heading function procedure formals formal_sections formal_section formal_type formal_type_of result_name qualified_name names
heading_routine_takes = before (lightly refl) (over (lightly refl) (given (λ h. refl)))

heading_part_takes : Measures heading_part (Is heading_part_nesting)
unfolding heading_part
heading_part_takes =
    one_of (part constants_take (given (λ c m h. omega (arith, h))))
    (one_of (part types_take (given (λ t m h. omega (arith, h))))
    (one_of (part variables_take (given (λ v m h. omega (arith, h)))) heading_routine_takes))

heading_parts_take : Measures heading_parts (Is (most heading_part_nesting))
unfolding heading_parts
heading_parts_take = all_many heading_part_takes

-- the nesting of a heading, by what follows its name
abbrev rest_nesting : HeadingRest → ℕ
rest_nesting r = most heading_part_nesting r.3

-- `[ "(" ids ")" ] ";" hparts`, where `hparts = exports imports { consts | types | vars | rhead ";" } "end"`
heading_rest_takes : Measures heading_rest (Is rest_nesting)
unfolding heading_rest parameters names_in_parentheses names exports export_parts export_part export_items export_item plain_item item_alone item_range protected_item renaming imports import_specifications import_specification import_part import_list import_items import_item
heading_rest_takes = before (lightly refl) (part heading_parts_take (over (lightly refl) (over (lightly refl) (before (lightly refl) (over (lightly refl) (given (λ ps es is xs m h. omega (arith, h))))))))

-- ---- blocks

-- `"do" stmt ";"`
action_takes : Measures action (Is statement_nesting)
unfolding action
action_takes = before (lightly refl) (part (within statements) (before (lightly refl) (given (λ s m h. omega (arith, h)))))

finalization_takes : Measures finalization (Is statement_nesting)
unfolding finalization
finalization_takes = behind (part action_takes (before (lightly refl) (before (lightly refl) (given (λ s m h. omega (arith, h))))))

-- the nesting of an initialization and a finalization
abbrev actions_nesting : Actions → ℕ
actions_nesting p = max (action_nesting p.0) (action_nesting p.1)

-- the nesting of an action is the same in both words
action_there : (o : Option Statement) → there statement_nesting o ≡ action_nesting o
action_there None = refl
action_there (Some s) = refl

begin_takes : Measures begin_action (Is actions_nesting)
unfolding begin_action
begin_takes = part (perhaps finalization_takes) (part action_takes (before (lightly refl) (given (λ s m h f n i. omega (arith, h, i, action_there f)))))

end_takes : Measures end_action (Is actions_nesting)
unfolding end_action
end_takes = part action_takes (before (lightly refl) (given (λ s m h. omega (arith, h))))

some_actions_take : Measures some_actions (Is actions_nesting)
unfolding some_actions
some_actions_take = behind (part (one_of begin_takes end_takes) (before (lightly refl) (given (λ p m h. omega (arith, h)))))

-- `[ "to" "begin" "do" stmt ";" ] [ "to" "end" "do" stmt ";" ]`
actions_take : Measures actions (Is actions_nesting)
unfolding actions
actions_take = one_of some_actions_take (given refl)

-- `modblock = imports parts [ "to" "begin" "do" stmt ";" ] [ "to" "end" "do" stmt ";" ] "end"`
block_takes : Measures block (Is block_nesting)
unfolding block imports import_specifications import_specification import_part import_list import_items import_item renaming
block_takes = before (lightly refl) (part actions_take (part parts_take (over (lightly refl) (over (lightly refl) (given (λ at is ps m h p n i. omega (arith, h, i)))))))

-- ---- components

-- `program = "program" id [ "(" ids ")" ] ";" imports parts compound`
program_takes : Measures program (Is program_nesting)
unfolding program parameters names_in_parentheses names imports import_specifications import_specification import_part import_list import_items import_item renaming
program_takes = part compound_takes (part parts_take (over (lightly refl) (before (lightly refl) (over (lightly refl) (over (lightly refl) (before (lightly refl) (over (lightly refl) (given (λ at n ns is ps m h b k i. omega (arith, h, i))))))))))

interface_takes : Measures interface_rest (Over (Over (Is component_nesting)))
unfolding interface_rest
interface_takes = part heading_rest_takes (before (lightly refl) (given (λ r m h at n. omega (arith, h))))

implementation_takes : Measures implementation_rest (Over (Over (Is component_nesting)))
unfolding implementation_rest
implementation_takes = part block_takes (before (lightly refl) (before (lightly refl) (given (λ b m h at n. omega (arith, h)))))

module_takes : Measures module_rest (Over (Over (Is component_nesting)))
unfolding module_rest
module_takes = part block_takes (before (lightly refl) (part heading_rest_takes (given (λ r m h b k i at n. omega (arith, h, i)))))

-- `module = head ";" modblock | ihead | "module" id "implementation" ";" modblock`
module_component_takes : Measures module_component (Is component_nesting)
unfolding module_component
module_component_takes = part (one_of interface_takes (one_of implementation_takes module_takes)) (over (lightly refl) (before (lightly refl) (over (lightly refl) (given (λ at n r m h. omega (arith, h at n))))))

program_component_takes : Measures program_component (Is component_nesting)
unfolding program_component
program_component_takes = part program_takes (given (λ p m h. omega (arith, h)))

unit_takes : Measures unit (Is component_nesting)
unfolding unit
unit_takes = one_of program_component_takes module_component_takes

-- `component = program "." | module "."`
component_takes : Measures component (Is component_nesting)
unfolding component
component_takes = before (lightly refl) (part unit_takes (given (λ c m h. omega (arith, h))))

-- `component { component }`
pub components_take : Measures components (Is (most component_nesting))
unfolding components
components_take = all_some component_takes
