use Rattle.std.proofs.Common.{◌≡◌, suc, ◌-◌, false, sym, arith}
use Rattle.ep_grammar.specs.Descriptions.{field_lists, plains}
use Rattle.ep_grammar.specs.Types.{array, field_section, fields, inner_fields, inner_plains, other_fields, plain, record_structure, sections, set_structure, structure, structured, type_denoter, variant, variant_fields, variant_part, variants}
use Rattle.ep_marker.proofs.Forms.{alone}
use Rattle.ep_marker.proofs.Walks.{firsts, gives, in-record, in-variant, indented, levels, lines, seconds, started, under, no-level, withins, ◌▸◌, ◌▹◌}
use Rattle.ep_marker.proofs.RowWalks.{after, begins, closed-end, closed-item, goes-on, has-none, is-ended, is-over, listed-end, listed-item, begins-sections}
use Rattle.ep_marker.proofs.Cores.{core-plain, core-structured, fields-alone, fields-end, fields-open, known}
use Rattle.ep_marker.proofs.types.+types.Goals as goal

pub inner_plain-returns-then-room-eq0 : goal.inner_plain-returns-then-room-eq0
inner_plain-returns-then-room-eq0 t c = no-level false plains c.if-room-eq0.true c.halt.ensures

pub inner_plain-returns : goal.inner_plain-returns
inner_plain-returns t c =
    let q : c.args.room ≡ suc (c.args.room - 1) = omega arith in
    withins false plains q c.plain.ensures

pub inner_field_list-returns-then-room-eq0 : goal.inner_field_list-returns-then-room-eq0
inner_field_list-returns-then-room-eq0 t c = no-level c.args.in_record field_lists c.if-room-eq0.true c.halt.ensures

pub inner_field_list-returns : goal.inner_field_list-returns
inner_field_list-returns t c =
    let q : c.args.room ≡ suc (c.args.room - 1) = omega arith in
    withins c.args.in_record field_lists q c.fields.ensures

pub type_denoter-returns : goal.type_denoter-returns
unfolding type_denoter
type_denoter-returns t c = gives ▸ lines ▸ c.inner_plain.ensures ▸ c.initial.ensures

pub inner_plains-loop-turn-init : goal.inner_plains-loop-turn-init
unfolding inner_plains
inner_plains-loop-turn-init t c = begins (gives ▸ c.inner_plain.ensures) c.left-turn-end.ensures

pub inner_plains-returns-then-not-sees_symbol : goal.inner_plains-returns-then-not-sees_symbol
inner_plains-returns-then-not-sees_symbol t c = has-none c.loop-turn.invariant (alone c.if-not-sees_symbol.ensures)

pub inner_plains-loop-turn-preserved : goal.inner_plains-loop-turn-preserved
inner_plains-loop-turn-preserved t c = goes-on c.loop-turn.invariant c.loop-turn-test.true (alone c.if-not-sees_symbol.ensures) (after (c.symbol.ensures _) c.inner_plain-in-loop-turn.ensures)

pub inner_plains-returns : goal.inner_plains-returns
inner_plains-returns t c = is-over c.loop-turn.invariant c.loop-turn-test.false

pub array-returns : goal.array-returns
unfolding array
array-returns t c = gives ▸ lines ▹ (c.word.ensures _) ▹ (c.symbol.ensures _) ▸ c.inner_plains.ensures ▹ (c.symbol-2.ensures _) ▹ (c.word-2.ensures _) ▸ c.inner_plain.ensures

pub record_structure-returns : goal.record_structure-returns
unfolding record_structure
record_structure-returns t c = gives ▸ lines ▹ (c.word.ensures _) ▸ indented c.inner_field_list.ensures ▹ (c.new_line.ensures _)

pub set_structure-returns : goal.set_structure-returns
unfolding set_structure
set_structure-returns t c = gives ▸ lines ▹ (c.word.ensures _) ▹ (c.word-2.ensures _) ▸ c.inner_plain.ensures

pub structure-returns-then-sees_word : goal.structure-returns-then-sees_word
unfolding structure
structure-returns-then-sees_word t c = firsts (alone c.if-sees_word.ensures) c.array.ensures

pub structure-returns-then-sees_word-2 : goal.structure-returns-then-sees_word-2
unfolding structure
structure-returns-then-sees_word-2 t c = seconds (alone c.if-sees_word.ensures) (firsts (alone c.if-sees_word-2.ensures) c.record_structure.ensures)

pub structure-returns : goal.structure-returns
unfolding structure
structure-returns t c = seconds (alone c.if-sees_word.ensures) (seconds (alone c.if-sees_word-2.ensures) c.set_structure.ensures)

pub structured-returns : goal.structured-returns
unfolding structured
structured-returns t c = levels c.open.ensures (gives ▸ lines ▸ c.flag.ensures ▸ c.structure.ensures)

pub plain-returns-then-begins_structure : goal.plain-returns-then-begins_structure
unfolding plain
plain-returns-then-begins_structure t c = gives ▸ lines ▸ c.flag.ensures ▸ core-structured c.if-begins_structure.ensures c.structured.ensures

pub plain-returns : goal.plain-returns
unfolding plain
plain-returns t c = gives ▸ lines ▸ c.flag.ensures ▸ core-plain c.if-begins_structure.ensures c.core.ensures

pub section-returns : goal.section-returns
unfolding field_section
section-returns t c = levels c.open.ensures (gives ▸ lines ▸ c.names.ensures ▹ (c.symbol.ensures _) ▸ c.type_denoter.ensures)

pub field_section-returns-then-not-in_record : goal.field_section-returns-then-not-in_record
field_section-returns-then-not-in_record t c = in-variant (sym c.if-not-in_record.true) c.section.ensures

pub field_section-returns : goal.field_section-returns
field_section-returns t c = in-record (sym c.if-not-in_record.false) (started c.len-first.ensures c.section.ensures c.start.ensures)

pub sections-loop-turn-init : goal.sections-loop-turn-init
unfolding sections
sections-loop-turn-init t c = begins-sections (gives ▸ c.field_section.ensures) c.left-turn-end.ensures

pub sections-returns-then-not-sees_symbol : goal.sections-returns-then-not-sees_symbol
sections-returns-then-not-sees_symbol t c = has-none c.loop-turn.invariant (alone c.if-not-sees_symbol.ensures)

pub sections-returns-then-not-sees_name : goal.sections-returns-then-not-sees_name
sections-returns-then-not-sees_name t c = is-ended c.loop-turn.invariant c.loop-turn-test.true (alone c.if-not-sees_symbol.ensures) (listed-end c.args.in_record (c.symbol.ensures _) c.if-not-sees_name.ensures)

pub sections-loop-turn-preserved : goal.sections-loop-turn-preserved
sections-loop-turn-preserved t c = goes-on c.loop-turn.invariant c.loop-turn-test.true (alone c.if-not-sees_symbol.ensures) (listed-item c.args.in_record (c.symbol.ensures _) c.if-not-sees_name.ensures c.field_section-in-loop-turn.ensures)

pub sections-returns : goal.sections-returns
sections-returns t c = is-over c.loop-turn.invariant c.loop-turn-test.false

pub inner_fields-returns : goal.inner_fields-returns
unfolding inner_fields
inner_fields-returns t c = gives ▹ (c.symbol.ensures _) ▸ indented c.inner_field_list.ensures ▹ (c.symbol-2.ensures _)

pub variant-returns : goal.variant-returns
unfolding variant
variant-returns t c = started c.len-first.ensures (levels c.open.ensures (gives ▸ lines ▸ c.labels.ensures ▹ (c.symbol.ensures _) ▸ c.inner_fields.ensures)) c.start.ensures

pub variants-loop-turn-init : goal.variants-loop-turn-init
unfolding variants
variants-loop-turn-init t c = begins (gives ▸ c.variant.ensures) c.left-turn-end.ensures

pub variants-returns-then-not-sees_symbol : goal.variants-returns-then-not-sees_symbol
variants-returns-then-not-sees_symbol t c = has-none c.loop-turn.invariant (alone c.if-not-sees_symbol.ensures)

pub variants-returns-then-not-begins_expression : goal.variants-returns-then-not-begins_expression
variants-returns-then-not-begins_expression t c = is-ended c.loop-turn.invariant c.loop-turn-test.true (alone c.if-not-sees_symbol.ensures) (closed-end (c.symbol.ensures _) c.if-not-begins_expression.ensures)

pub variants-loop-turn-preserved : goal.variants-loop-turn-preserved
variants-loop-turn-preserved t c = goes-on c.loop-turn.invariant c.loop-turn-test.true (alone c.if-not-sees_symbol.ensures) (closed-item (c.symbol.ensures _) c.if-not-begins_expression.ensures c.variant-in-loop-turn.ensures)

pub variants-returns : goal.variants-returns
variants-returns t c = is-over c.loop-turn.invariant c.loop-turn-test.false

pub other_fields-returns : goal.other_fields-returns
unfolding other_fields
other_fields-returns t c = levels c.open.ensures (gives ▹ (c.new_line.ensures _) ▸ c.inner_fields.ensures ▸ c.optional_semicolon.ensures)

pub selected-returns-then-not-sees_word : goal.selected-returns-then-not-sees_word
unfolding variant_part
selected-returns-then-not-sees_word t c = levels c.open.ensures (gives ▸ lines ▹ (c.word.ensures _) ▸ c.variant_selector.ensures ▹ (c.word-2.ensures _) ▸ c.variants.ensures ▸ seconds (alone c.if-not-sees_word.ensures) gives)

pub selected-returns : goal.selected-returns
unfolding variant_part
selected-returns t c = levels c.open.ensures (gives ▸ lines ▹ (c.word.ensures _) ▸ c.variant_selector.ensures ▹ (c.word-2.ensures _) ▸ c.variants.ensures ▸ firsts (alone c.if-not-sees_word.ensures) (gives ▸ c.other_fields.ensures))

pub variant_part-returns-then-not-in_record : goal.variant_part-returns-then-not-in_record
variant_part-returns-then-not-in_record t c = in-variant (sym c.if-not-in_record.true) c.selected.ensures

pub variant_part-returns : goal.variant_part-returns
variant_part-returns t c = in-record (sym c.if-not-in_record.false) (started c.len-first.ensures c.selected.ensures c.start.ensures)

pub section_fields-returns-then-not-ended : goal.section_fields-returns-then-not-ended
section_fields-returns-then-not-ended t c = fields-open (known c.if-not-ended.true c.sections-ended.ensures)

pub section_fields-returns-then-not-sees_word : goal.section_fields-returns-then-not-sees_word
section_fields-returns-then-not-sees_word t c = fields-alone c.sections-ended.ensures (alone c.if-not-sees_word.ensures)

pub section_fields-returns : goal.section_fields-returns
section_fields-returns t c = fields-end (known c.if-not-ended.false c.sections-ended.ensures) (alone c.if-not-sees_word.ensures) c.variant_part.ensures

pub fields-returns-then-sees_name : goal.fields-returns-then-sees_name
unfolding fields variant_fields
fields-returns-then-sees_name t c = firsts c.if-sees_name.ensures c.section_fields.ensures

pub fields-returns-then-sees_word : goal.fields-returns-then-sees_word
unfolding fields variant_fields
fields-returns-then-sees_word t c = seconds c.if-sees_name.ensures (firsts (alone c.if-sees_word.ensures) (gives ▸ lines ▸ c.variant_part.ensures))

pub fields-returns-else-sees_word : goal.fields-returns-else-sees_word
unfolding fields
fields-returns-else-sees_word t c = seconds c.if-sees_name.ensures (seconds (alone c.if-sees_word.ensures) (under lines))
