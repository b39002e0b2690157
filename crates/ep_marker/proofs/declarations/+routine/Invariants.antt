use Rattle.std.proofs.Common.{◌+◌, ◌*◌, ◌-◌}
use Rattle.ep_grammar.specs.Descriptions as syntax
use Rattle.ep_grammar.specs.Declarations.{of_parts, part, parts}
use Rattle.ep_marks.specs.Productions as style
use Rattle.ep_marks.specs.Styles.{plain, part as part_style}
use Rattle.ep_marker.specs.Marking.{Walked}
use Rattle.ep_marker.proofs.RowWalks.{InRow}
use Rattle.ep_marker.proofs.declarations.+routine.Given as goal

abbrev pub decreases-inner_routine : goal.decreases-inner_routine
decreases-inner_routine l = 100 * l.room + 0

abbrev pub decreases-routine_part : goal.decreases-routine_part
decreases-routine_part l = 100 * l.room + 10

abbrev pub decreases-part : goal.decreases-part
decreases-part l = 100 * l.room + 20

abbrev pub decreases-parts : goal.decreases-parts
decreases-parts l = 100 * l.room + 30

abbrev pub decreases-block_body : goal.decreases-block_body
decreases-block_body l = 100 * l.room + 40

abbrev pub decreases-routine_body : goal.decreases-routine_body
decreases-routine_body l = 100 * l.room + 50

abbrev pub decreases-routine : goal.decreases-routine
decreases-routine l = 100 * l.room + 60

abbrev pub invariant-parts-loop-turn : goal.invariant-parts-loop-turn
invariant-parts-loop-turn l = InRow (λ v b. Walked l.room style.parts parts l.depth l.fn.m b) l.room (part_style plain style.declaration_part) of_parts (syntax.item part) (tt {0}) l.depth (l._turn-end - l._turn) l.m
