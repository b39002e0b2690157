-- The productions of type denoters: what their tokens derive, tokens of the same kinds derive too. A lemma for each description, under its name and along it.
use Rattle.std.proofs.Common.{refl}
use Rattle.ep_grammar.specs.Descriptions.{plains, field_lists}
use Rattle.ep_grammar.specs.Types.{names, names_in_parentheses, initial, type_denoter, enumeration, pointer, restricted, type_of, range_end, inner_plains, array, record_structure, set_structure, structure, structured, core, plain, field_section, variant_selector, inner_fields, variant, variants, other_fields, variant_part, sections_end, variant_fields, fields, named_or_range, section_step, sections, section_fields}
use Rattle.ep_format.proofs.kinds.Forms.{a_line, behind, by_class, mark, one_of, within, by_shape, items, given, after, past, Any, InStep, Decided}
use Rattle.ep_format.proofs.kinds.Simply.{Simply, a_flag, anything, each_closed, each_separated, maybe, ◌&◌, ◌<*◌, function}
use Rattle.ep_format.proofs.kinds.Expressions.{expression_decided, labels_decided, qualified_name_decided}
use Rattle.ep_format.proofs.kinds.Values.{component_value_decided}
use Rattle.ep_format.proofs.kinds.Expressions.{expression_as}
use Rattle.ep_format.proofs.kinds.Shapes.{SectionsAs, Equal, named_as, ended_as, listed_as}

pub names_decided : Simply names
unfolding names
names_decided = each_separated (mark refl)

pub names_in_parentheses_decided : Simply names_in_parentheses
unfolding names_in_parentheses
names_in_parentheses_decided = anything <* mark refl & names_decided <* mark refl

pub initial_decided : Simply initial
unfolding initial
initial_decided = maybe (anything <* mark refl & component_value_decided)

pub type_denoter_decided : Simply type_denoter
unfolding type_denoter
type_denoter_decided = anything & a_line & within plains & initial_decided

pub enumeration_decided : Simply enumeration
unfolding enumeration
enumeration_decided = anything & a_line & names_in_parentheses_decided

pub pointer_decided : Simply pointer
unfolding pointer
pointer_decided = anything & a_line <* mark refl & qualified_name_decided

pub restricted_decided : Simply restricted
unfolding restricted
restricted_decided = anything & a_line <* mark refl & qualified_name_decided

pub type_of_decided : Simply type_of
unfolding type_of
type_of_decided = anything & a_line <* mark refl <* mark refl & qualified_name_decided

pub range_end_decided : Simply range_end
unfolding range_end
range_end_decided = anything <* mark refl & expression_decided

pub inner_plains_decided : Simply inner_plains
unfolding inner_plains
inner_plains_decided = each_separated (within plains)

pub array_decided : Simply array
unfolding array
array_decided = anything & a_line <* mark refl <* mark refl & inner_plains_decided <* mark refl <* mark refl & within plains

pub record_structure_decided : Simply record_structure
unfolding record_structure
record_structure_decided = anything & a_line <* mark refl & within field_lists <* mark refl

pub set_structure_decided : Simply set_structure
unfolding set_structure
set_structure_decided = anything & a_line <* mark refl <* mark refl & within plains

pub structure_decided : Simply structure
unfolding structure
structure_decided = one_of array_decided (one_of record_structure_decided set_structure_decided)

pub structured_decided : Simply structured
unfolding structured
structured_decided = behind (anything & a_line & a_flag & structure_decided)

named_or_range_decided : Simply named_or_range
unfolding named_or_range
named_or_range_decided = anything & a_line & by_shape {Q = Any} {U = Any} expression_as (λ y z c h e. (z, refl, tt)) (function range_end_decided) named_as (function anything)

pub core_decided : Simply core
unfolding core
core_decided = by_class enumeration_decided (one_of pointer_decided (one_of structured_decided (one_of restricted_decided (one_of type_of_decided named_or_range_decided))))

pub plain_decided : Simply plain
unfolding plain
plain_decided = anything & a_line & a_flag & core_decided

pub field_section_decided : Simply field_section
unfolding field_section
field_section_decided = behind (anything & a_line & names_decided <* mark refl & type_denoter_decided)

pub variant_selector_decided : Simply variant_selector
unfolding variant_selector
variant_selector_decided = anything & a_line & mark refl & maybe (anything <* mark refl & qualified_name_decided)

pub inner_fields_decided : Simply inner_fields
unfolding inner_fields
inner_fields_decided = anything <* mark refl & within field_lists <* mark refl

pub variant_decided : Simply variant
unfolding variant
variant_decided = behind (anything & a_line & labels_decided <* mark refl & inner_fields_decided)

pub variants_decided : Simply variants
unfolding variants
variants_decided = each_closed variant_decided

pub other_fields_decided : Simply other_fields
unfolding other_fields
other_fields_decided = behind (anything <* mark refl & inner_fields_decided & maybe (mark refl))

pub variant_part_decided : Simply variant_part
unfolding variant_part
variant_part_decided = behind (anything & a_line <* mark refl & variant_selector_decided <* mark refl & variants_decided & maybe other_fields_decided)

pub sections_end_decided : Simply sections_end
unfolding sections_end
sections_end_decided = anything & variant_part_decided

section_step_as : Decided section_step (InStep Any Equal)
section_step_as = after (one_of (after field_section_decided (given (λ y z h. tt))) (given refl)) (past (mark refl) (given (λ y z h. h)))

-- sections agree in whether a semicolon follows the last
sections_as : Decided sections SectionsAs
unfolding sections
sections_as = items {P = Any} {Q = Equal} (after field_section_decided (given (λ y z h. (tt, tt)))) section_step_as refl

section_fields_decided : Simply section_fields
unfolding section_fields
section_fields_decided = anything & a_line & by_shape {Q = Any} {U = Any} sections_as ended_as (function sections_end_decided) listed_as (function anything)

pub variant_fields_decided : Simply variant_fields
unfolding variant_fields
variant_fields_decided = anything & a_line & variant_part_decided

pub fields_decided : Simply fields
unfolding fields
fields_decided = one_of section_fields_decided (one_of variant_fields_decided (anything & a_line))
