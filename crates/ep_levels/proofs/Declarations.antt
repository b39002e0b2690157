-- The levels that the productions of definitions and declarations take: a lemma for each description, under its name and along it.
use Rattle.std.proofs.Common.{refl, arith}
use Rattle.ep_tree.specs.Nesting.{constant_definition_nesting, constants_nesting, type_definition_nesting, types_nesting, variable_declaration_nesting, variables_nesting, part_nesting, routine_body_nesting, routine_nesting}
use Rattle.ep_grammar.specs.Descriptions.{routines}
use Rattle.ep_grammar.specs.Expressions.{qualified_name}
use Rattle.ep_grammar.specs.Types.{names}
use Rattle.ep_grammar.specs.Declarations.{constant_definition, constant_definitions, constants, discriminant_section, discriminant_sections, discriminants, type_definition, type_definitions, types, variable_declaration, variable_declarations, variables, formal_type_of, formal_type, formal_section, formal_sections, formals, procedure, result_name, function_rest, function_start, routine_start, routine_part, part, parts, forward_body, block_body, routine_body, routine}
use Rattle.ep_levels.proofs.Measures.{Measures, Is, Under, given, over, before, one_of, behind, within, most, lightly, all_many, all_some}
use Rattle.ep_levels.proofs.Measures as measures
use Rattle.ep_levels.proofs.StatementNodes.{constants_part_is, types_part_is, variables_part_is, routine_part_is, forward_is, block_body_is, routine_is}
use Rattle.ep_levels.proofs.Values.{component_value_takes}
use Rattle.ep_levels.proofs.Types.{type_denoter_takes}
use Rattle.ep_levels.proofs.Statements.{compound_takes}

-- `id "=" cvalue ";"`
constant_takes : Measures constant_definition (Is constant_definition_nesting)
unfolding constant_definition
constant_takes = before (lightly refl) (measures.part component_value_takes (before (lightly refl) (over (lightly refl) (over (lightly refl) (given (λ at n v m h. omega (arith, h)))))))

constant_definitions_take : Measures constant_definitions (Is (most constant_definition_nesting))
unfolding constant_definitions
constant_definitions_take = all_some constant_takes

-- `consts = "const" id "=" cvalue ";" { id "=" cvalue ";" }`
pub constants_take : Measures constants (Is constants_nesting)
unfolding constants
constants_take = measures.part constant_definitions_take (before (lightly refl) (over (lightly refl) (given (λ at ds m h. omega (arith, h)))))

-- `tdef = id [ "(" dsec { ";" dsec } ")" ] "=" type`, and `;`
type_definition_takes : Measures type_definition (Is type_definition_nesting)
unfolding type_definition discriminants discriminant_sections discriminant_section qualified_name names
type_definition_takes = behind (before (lightly refl) (measures.part type_denoter_takes (before (lightly refl) (over (lightly refl) (over (lightly refl) (over (lightly refl) (given (λ at n ds t m h. omega (arith, h)))))))))

type_definitions_take : Measures type_definitions (Is (most type_definition_nesting))
unfolding type_definitions
type_definitions_take = all_some type_definition_takes

-- `types = "type" tdef ";" { tdef ";" }`
pub types_take : Measures types (Is types_nesting)
unfolding types
types_take = behind (measures.part type_definitions_take (before (lightly refl) (over (lightly refl) (given (λ at ds m h. omega (arith, h))))))

-- `ids ":" type ";"`
variable_takes : Measures variable_declaration (Is variable_declaration_nesting)
unfolding variable_declaration names
variable_takes = behind (before (lightly refl) (measures.part type_denoter_takes (before (lightly refl) (over (lightly refl) (over (lightly refl) (given (λ at ns t m h. omega (arith, h))))))))

variable_declarations_take : Measures variable_declarations (Is (most variable_declaration_nesting))
unfolding variable_declarations
variable_declarations_take = all_some variable_takes

-- `vars = "var" ids ":" type ";" { ids ":" type ";" }`
pub variables_take : Measures variables (Is variables_nesting)
unfolding variables
variables_take = behind (measures.part variable_declarations_take (before (lightly refl) (over (lightly refl) (given (λ at ds m h. omega (arith, h))))))

-- ---- routines and the parts of a block

routine_part_takes : Measures routine_part (Is part_nesting)
unfolding routine_part
routine_part_takes = behind (measures.part (within routines) (given (λ r m h. omega (arith, h, routine_part_is r))))

part_takes : Measures part (Is part_nesting)
unfolding part
part_takes =
    one_of (measures.part constants_take (given (λ c m h. omega (arith, h, constants_part_is c))))
    (one_of (measures.part types_take (given (λ t m h. omega (arith, h, types_part_is t))))
    (one_of (measures.part variables_take (given (λ v m h. omega (arith, h, variables_part_is v)))) routine_part_takes))

-- `parts = { consts | types | vars | rdecl }`
pub parts_take : Measures parts (Is (most part_nesting))
unfolding parts
parts_take = all_many part_takes

forward_takes : Measures forward_body (Is routine_body_nesting)
unfolding forward_body
forward_takes = before (lightly refl) (over (lightly refl) (given (λ at. omega (arith, forward_is at))))

block_body_takes : Measures block_body (Is routine_body_nesting)
unfolding block_body
block_body_takes = behind (measures.part compound_takes (measures.part parts_take (over (lightly refl) (given (λ at ps m h c n i. omega (arith, h, i, block_body_is at ps c))))))

body_takes : Measures routine_body (Is routine_body_nesting)
unfolding routine_body
body_takes = one_of forward_takes block_body_takes

-- a routine, with the level of its own
pub routine_takes : Measures routine (Under routine_nesting)
unfolding routine routine_start function_start function_rest procedure formals formal_sections formal_section formal_type formal_type_of result_name qualified_name names
routine_takes = before (lightly refl) (measures.part body_takes (before (lightly refl) (over (lightly refl) (over (lightly refl) (given (λ at s b m h. omega (arith, h, routine_is at s b)))))))
