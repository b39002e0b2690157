use Rattle.std.proofs.Common.{◌-◌}
use Rattle.ep_grammar.specs.Descriptions as syntax
use Rattle.ep_grammar.specs.Declarations.{of_parts}
use Rattle.ep_grammar.specs.Units.{heading_part, heading_parts}
use Rattle.ep_marks.specs.Productions as style
use Rattle.ep_marks.specs.Styles.{many, part, plain}
use Rattle.ep_marker.specs.Marking.{Walked}
use Rattle.ep_marker.proofs.RowWalks.{InRow}
use Rattle.ep_marker.proofs.components.heading_parts.Given as goal

abbrev pub invariant-loop-turn : goal.invariant-loop-turn
invariant-loop-turn l = InRow (λ v b. Walked l.room (many style.heading_part) heading_parts l.depth l.fn.m b) l.room (part plain style.heading_part) of_parts (syntax.item heading_part) (tt {0}) l.depth (l._turn-end - l._turn) l.m
