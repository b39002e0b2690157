use Rattle.std.proofs.Common.{◌+◌, ◌*◌, false, true}
use Rattle.ep_token.specs.declared.symbol.TheConstants as sym
use Rattle.ep_grammar.specs.Reading.{read}
use Rattle.ep_grammar.specs.Rules.{inside_at}
use Rattle.ep_grammar.specs.Expressions.{of_name, on}
use Rattle.ep_grammar.specs.Types.{field_section, sections}
use Rattle.ep_reader.proofs.public.RowLoops.{Turns, or_end}
use Rattle.ep_parse_type.proofs.denoters.+types.Given as goal

abbrev pub decreases-array : goal.decreases-array
decreases-array l = 100 * l.room + 20

abbrev pub decreases-core : goal.decreases-core
decreases-core l = 100 * l.room + 50

abbrev pub decreases-field_section : goal.decreases-field_section
decreases-field_section l = 100 * l.room + 20

abbrev pub decreases-fields : goal.decreases-fields
decreases-fields l = 100 * l.room + 70

abbrev pub decreases-inner_field_list : goal.decreases-inner_field_list
decreases-inner_field_list l = 100 * l.room + 0

abbrev pub decreases-inner_fields : goal.decreases-inner_fields
decreases-inner_fields l = 100 * l.room + 10

abbrev pub decreases-inner_plain : goal.decreases-inner_plain
decreases-inner_plain l = 100 * l.room + 0

abbrev pub decreases-inner_plains : goal.decreases-inner_plains
decreases-inner_plains l = 100 * l.room + 10

abbrev pub decreases-other_fields : goal.decreases-other_fields
decreases-other_fields l = 100 * l.room + 20

abbrev pub decreases-other_part : goal.decreases-other_part
decreases-other_part l = 100 * l.room + 30

abbrev pub decreases-plain : goal.decreases-plain
decreases-plain l = 100 * l.room + 60

abbrev pub decreases-record_structure : goal.decreases-record_structure
decreases-record_structure l = 100 * l.room + 10

abbrev pub decreases-section_fields : goal.decreases-section_fields
decreases-section_fields l = 100 * l.room + 60

abbrev pub decreases-sections : goal.decreases-sections
decreases-sections l = 100 * l.room + 30

abbrev pub decreases-sections_end : goal.decreases-sections_end
decreases-sections_end l = 100 * l.room + 50

abbrev pub decreases-set_structure : goal.decreases-set_structure
decreases-set_structure l = 100 * l.room + 10

abbrev pub decreases-structure : goal.decreases-structure
decreases-structure l = 100 * l.room + 30

abbrev pub decreases-structured : goal.decreases-structured
decreases-structured l = 100 * l.room + 40

abbrev pub decreases-type_denoter : goal.decreases-type_denoter
decreases-type_denoter l = 100 * l.room + 10

abbrev pub decreases-variant : goal.decreases-variant
decreases-variant l = 100 * l.room + 20

abbrev pub decreases-variant_fields : goal.decreases-variant_fields
decreases-variant_fields l = 100 * l.room + 50

abbrev pub decreases-variant_part : goal.decreases-variant_part
decreases-variant_part l = 100 * l.room + 40

abbrev pub decreases-variants : goal.decreases-variants
decreases-variants l = 100 * l.room + 30

abbrev pub decreases-inner_plains-separated : goal.decreases-inner_plains-separated
decreases-inner_plains-separated l = 100 * l.room + 5

abbrev pub decreases-variants-closed : goal.decreases-variants-closed
decreases-variants-closed l = 100 * l.room + 25

abbrev pub invariant-sections-loop-turn : goal.invariant-sections-loop-turn
invariant-sections-loop-turn l = Turns (read (inside_at l.room) sections l.fn.reader) (λ p. p) (inside_at l.room) (on sym.SEMICOLON) (or_end of_name field_section true) false l._turn-end l._turn l.found l.reader
