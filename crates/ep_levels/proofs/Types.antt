-- The levels that the productions of type denoters take: a lemma for each description, under its name and along it.
use Rattle.std.proofs.Common.{◌≡◌, max, Bool, true, false, List, [], Some, None, refl, ap, ◌∙◌, subst, arith}
use Rattle.std.specs.Prelude.{if◌then◌else◌}
use Rattle.ep_tree.specs.declared.types.FieldSection.{FieldSection}
use Rattle.ep_tree.specs.Nesting.{component_value_nesting, expression_nesting, core_nesting, structure_nesting, field_section_nesting, fields_nesting, plain_nesting, type_denoter_nesting, variant_nesting, variant_part_nesting}
use Rattle.ep_grammar.specs.Descriptions.{plains, field_lists}
use Rattle.ep_grammar.specs.Expressions.{qualified_name}
use Rattle.ep_grammar.specs.Types.{names, names_in_parentheses, initial, type_denoter, enumeration, pointer, restricted, type_of, range_end, named_or_range, inner_plains, array, record_structure, set_structure, structure, structured, core, plain, field_section, variant_selector, inner_fields, variant, variants, other_fields, variant_part, sections, sections_end, section_fields, variant_fields, fields}
use Rattle.ep_levels.proofs.Measures.{Measures, Is, Under, Over, To, Each, given, part, over, before, one_of, by_class, behind, kept, within, by_shape, items, one_item, most, there, perhaps, lightly, all_separated, all_closed, from_none, same_shape}
use Rattle.ep_levels.proofs.Shapes.{named_most, named_takes}
use Rattle.ep_levels.proofs.TypeNodes.{type_denoter_is, plain_is, fields_are, section_is, variant_part_is, variant_is, named_is, range_is, enumeration_is, pointer_is, structured_core_is, restricted_is, type_of_is, array_is, record_is, set_type_is}
use Rattle.ep_levels.proofs.Expressions.{expression_takes, labels_take}
use Rattle.ep_levels.proofs.Values.{component_value_takes}

-- `[ "value" cvalue ]`
initial_takes : Measures initial (Is (there component_value_nesting))
unfolding initial
initial_takes = perhaps (kept (lightly refl) component_value_takes)

-- `type = plain [ "value" cvalue ]`
pub type_denoter_takes : Measures type_denoter (Is type_denoter_nesting)
unfolding type_denoter
type_denoter_takes = part initial_takes (part (within plains) (over (lightly refl) (given (λ at p m h v n i. omega (arith, h, i, type_denoter_is at p v)))))

-- ---- cores

enumeration_takes : Measures enumeration (Is core_nesting)
unfolding enumeration names_in_parentheses names
enumeration_takes = over (lightly refl) (over (lightly refl) (given (λ at ns. omega (arith, enumeration_is at ns))))

pointer_takes : Measures pointer (Is core_nesting)
unfolding pointer qualified_name
pointer_takes = over (lightly refl) (before (lightly refl) (over (lightly refl) (given (λ at n. omega (arith, pointer_is at n)))))

restricted_takes : Measures restricted (Is core_nesting)
unfolding restricted qualified_name
restricted_takes = over (lightly refl) (before (lightly refl) (over (lightly refl) (given (λ at n. omega (arith, restricted_is at n)))))

type_of_takes : Measures type_of (Is core_nesting)
unfolding type_of qualified_name
type_of_takes = over (lightly refl) (before (lightly refl) (before (lightly refl) (over (lightly refl) (given (λ at n. omega (arith, type_of_is at n))))))

range_end_takes : Measures range_end (To (Is expression_nesting) (Over (Is core_nesting)))
unfolding range_end
range_end_takes = part expression_takes (before (lightly refl) (given (λ high m h low n i at. omega (arith, h, i, range_is at low high))))

named_or_range_takes : Measures named_or_range (Is core_nesting)
unfolding named_or_range
named_or_range_takes =
    part {P = Over (Is core_nesting)} (by_shape {Q' = Is named_most} expression_takes (same_shape (Is expression_nesting)) range_end_takes (λ e p n h i. i ∙ named_takes e p h) (given (λ p n i at. omega (arith, i, named_is at p.0 p.1))))
    (over (lightly refl) (given (λ at r m h. omega (arith, h at))))

inner_plains_take : Measures inner_plains (Is (most plain_nesting))
unfolding inner_plains
inner_plains_take = all_separated (within plains)

array_takes : Measures array (Is structure_nesting)
unfolding array
array_takes = part (within plains) (before (lightly refl) (before (lightly refl) (part inner_plains_take (before (lightly refl) (before (lightly refl) (over (lightly refl) (given (λ at ps m h p n i. omega (arith, h, i, array_is at ps p)))))))))

record_takes : Measures record_structure (Is structure_nesting)
unfolding record_structure
record_takes = before (lightly refl) (part (within field_lists) (before (lightly refl) (over (lightly refl) (given (λ at f m h. omega (arith, h, record_is at f))))))

set_type_takes : Measures set_structure (Is structure_nesting)
unfolding set_structure
set_type_takes = part (within plains) (before (lightly refl) (before (lightly refl) (over (lightly refl) (given (λ at p m h. omega (arith, h, set_type_is at p))))))

-- `struct = "array" "[" plain { "," plain } "]" "of" plain | "record" fields "end" | "set" "of" plain`
structure_takes : Measures structure (Is structure_nesting)
unfolding structure
structure_takes = one_of array_takes (one_of record_takes set_type_takes)

structured_takes : Measures structured (Is core_nesting)
unfolding structured
structured_takes = behind (part structure_takes (over (lightly refl) (over (lightly refl) (given (λ at p s m h. omega (arith, h, structured_core_is at p s))))))

-- `core = name [ "(" expr { "," expr } ")" ] | expr ".." expr | "(" ids ")" | "^" name | [ "packed" ] struct | "restricted" name | "type" "of" name`
core_takes : Measures core (Is core_nesting)
unfolding core
core_takes = by_class enumeration_takes (one_of pointer_takes (one_of structured_takes (one_of restricted_takes (one_of type_of_takes named_or_range_takes))))

-- a plain type, with the level of its own
pub plain_takes : Measures plain (Under plain_nesting)
unfolding plain
plain_takes = part core_takes (over (lightly refl) (over (lightly refl) (given (λ at b c m h. omega (arith, h, plain_is at b c)))))

-- ---- fields

-- `fsec = ids ":" type`
section_takes : Measures field_section (Is field_section_nesting)
unfolding field_section names
section_takes = behind (part type_denoter_takes (before (lightly refl) (over (lightly refl) (over (lightly refl) (given (λ at ns t m h. omega (arith, h, section_is at ns t)))))))

inner_fields_take : Measures inner_fields (Is fields_nesting)
unfolding inner_fields
inner_fields_take = before (lightly refl) (part (within field_lists) (before (lightly refl) (given (λ f m h. omega (arith, h)))))

-- `variant = labels ":" "(" fields ")"`
variant_takes : Measures variant (Is variant_nesting)
unfolding variant
variant_takes = behind (part inner_fields_take (before (lightly refl) (part labels_take (over (lightly refl) (given (λ at ls m h f n i. omega (arith, h, i, variant_is at ls f)))))))

variants_take : Measures variants (Is (most variant_nesting))
unfolding variants
variants_take = all_closed variant_takes

other_fields_take : Measures other_fields (Is fields_nesting)
unfolding other_fields
other_fields_take = behind (over (lightly refl) (part inner_fields_take (before (lightly refl) (given (λ f m h u. omega (arith, h))))))

-- `vpart [ ";" ]`, where `vpart = "case" ( id ":" name | id ) "of" variant { ";" variant } [ [ ";" ] "otherwise" "(" fields ")" ]`
variant_part_takes : Measures variant_part (Is variant_part_nesting)
unfolding variant_part variant_selector qualified_name
variant_part_takes = behind (part (perhaps other_fields_take) (part variants_take (before (lightly refl) (over (lightly refl) (before (lightly refl) (over (lightly refl) (given (λ at s vs m h o n i. omega (arith, h, i, variant_part_is at s vs o)))))))))

-- sections, and whether a semicolon follows the last
sections_take : Measures sections (λ p n. n ≡ most field_section_nesting p.0)
unfolding sections
sections_take = items (one_item section_takes) (part (one_of (part section_takes (given (λ y m h. let e : max 0 m ≡ field_section_nesting y = omega (arith, h) in e))) (given refl)) (before (lightly refl) (given (λ y m h. subst (Each field_section_nesting y) (from_none m) h))))

sections_end_take : Measures sections_end (To (Is (most field_section_nesting)) (Over (Under fields_nesting)))
unfolding sections_end
sections_end_take = part variant_part_takes (given (λ v m h fs n i at. omega (arith, h, i, fields_are at fs (Some v))))

-- sections that a semicolon ends
ended_is : (b : Bool) (xs c : List FieldSection) → (if b then Some xs else None) ≡ Some c → xs ≡ c
ended_is true xs c h = cc
ended_is false xs c h = absurd (cc)

-- sections
listed_is : (xs c : List FieldSection) → Some xs ≡ Some c → xs ≡ c
listed_is xs c h = cc

section_fields_take : Measures section_fields (Under fields_nesting)
unfolding section_fields
section_fields_take =
    part {P = Over (Under fields_nesting)} (by_shape {Q' = Is (most field_section_nesting)} sections_take (λ p c n h i. i ∙ ap (most field_section_nesting) (ended_is p.1 p.0 c h)) sections_end_take (λ p c n h i. i ∙ ap (most field_section_nesting) (listed_is p.0 c h)) (given (λ fs n i at. omega (arith, i, fields_are at fs None))))
    (over (lightly refl) (given (λ at r m h. omega (arith, h at))))

variant_fields_take : Measures variant_fields (Under fields_nesting)
unfolding variant_fields
variant_fields_take = part variant_part_takes (over (lightly refl) (given (λ at v m h. omega (arith, h, fields_are at [] (Some v)))))

-- a field list, with the level of its own
pub fields_take : Measures fields (Under fields_nesting)
unfolding fields
fields_take = one_of section_fields_take (one_of variant_fields_take (over (lightly refl) (given (λ at. omega (arith, fields_are at [] None)))))
