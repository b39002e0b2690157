use Rattle.std.proofs.Common.{◌+◌, ◌*◌, ◌-◌, [], ◌∷◌}
use Rattle.std.proofs.Common.{false}
use Rattle.ep_token.specs.declared.symbol.TheConstants as symbols
use Rattle.ep_grammar.specs.Classes.{Symbol}
use Rattle.ep_grammar.specs.Descriptions.{inside, item_after, item_or_end, plains}
use Rattle.ep_grammar.specs.Expressions.{of_expression}
use Rattle.ep_grammar.specs.Types.{inner_plains, section_step, variant, variants}
use Rattle.ep_marks.specs.Productions as style
use Rattle.ep_marks.specs.Styles.{choice, closed, part, plain, separated, ◌&◌, ◌<*◌}
use Rattle.ep_marker.specs.Marking.{SectionsWalked, Walked}
use Rattle.ep_marker.proofs.RowWalks.{InRow}
use Rattle.ep_marker.proofs.types.+types.Given as goal

abbrev pub decreases-inner_plain : goal.decreases-inner_plain
decreases-inner_plain l = 100 * l.room + 0

abbrev pub decreases-inner_field_list : goal.decreases-inner_field_list
decreases-inner_field_list l = 100 * l.room + 0

abbrev pub decreases-type_denoter : goal.decreases-type_denoter
decreases-type_denoter l = 100 * l.room + 10

abbrev pub decreases-inner_plains : goal.decreases-inner_plains
decreases-inner_plains l = 100 * l.room + 10

abbrev pub decreases-array : goal.decreases-array
decreases-array l = 100 * l.room + 20

abbrev pub decreases-record_structure : goal.decreases-record_structure
decreases-record_structure l = 100 * l.room + 20

abbrev pub decreases-set_structure : goal.decreases-set_structure
decreases-set_structure l = 100 * l.room + 20

abbrev pub decreases-structure : goal.decreases-structure
decreases-structure l = 100 * l.room + 30

abbrev pub decreases-structured : goal.decreases-structured
decreases-structured l = 100 * l.room + 40

abbrev pub decreases-plain : goal.decreases-plain
decreases-plain l = 100 * l.room + 60

abbrev pub decreases-section : goal.decreases-section
decreases-section l = 100 * l.room + 20

abbrev pub decreases-field_section : goal.decreases-field_section
decreases-field_section l = 100 * l.room + 30

abbrev pub decreases-sections : goal.decreases-sections
decreases-sections l = 100 * l.room + 40

abbrev pub decreases-inner_fields : goal.decreases-inner_fields
decreases-inner_fields l = 100 * l.room + 10

abbrev pub decreases-variant : goal.decreases-variant
decreases-variant l = 100 * l.room + 20

abbrev pub decreases-variants : goal.decreases-variants
decreases-variants l = 100 * l.room + 30

abbrev pub decreases-other_fields : goal.decreases-other_fields
decreases-other_fields l = 100 * l.room + 30

abbrev pub decreases-selected : goal.decreases-selected
decreases-selected l = 100 * l.room + 40

abbrev pub decreases-variant_part : goal.decreases-variant_part
decreases-variant_part l = 100 * l.room + 50

abbrev pub decreases-section_fields : goal.decreases-section_fields
decreases-section_fields l = 100 * l.room + 60

abbrev pub decreases-fields : goal.decreases-fields
decreases-fields l = 100 * l.room + 70

abbrev pub invariant-inner_plains-loop-turn : goal.invariant-inner_plains-loop-turn
invariant-inner_plains-loop-turn l = InRow (λ v b. Walked l.room (separated style.deeper) inner_plains l.depth l.fn.m b) l.room (part plain style.deeper) (Symbol symbols.COMMA ∷ []) (item_after symbols.COMMA (inside plains)) (tt {0}) l.depth (l._turn-end - l._turn) l.m

abbrev pub invariant-variants-loop-turn : goal.invariant-variants-loop-turn
invariant-variants-loop-turn l = InRow (λ v b. Walked l.room (closed style.variant) variants l.depth l.fn.m b) l.room (part plain (choice (part plain style.variant) plain)) (Symbol symbols.SEMICOLON ∷ []) (item_or_end of_expression variant) (tt {0}) l.depth (l._turn-end - l._turn) l.m

abbrev pub invariant-sections-loop-turn : goal.invariant-sections-loop-turn
invariant-sections-loop-turn l = InRow (λ v b. SectionsWalked l.room l.in_record l.depth v l.fn.m b) l.room (plain <* plain & choice (plain & style.field_section l.in_record) plain) (Symbol symbols.SEMICOLON ∷ []) section_step false l.depth (l._turn-end - l._turn) l.m
