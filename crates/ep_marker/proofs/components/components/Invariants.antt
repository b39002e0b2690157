use Rattle.std.proofs.Common.{◌-◌}
use Rattle.ep_grammar.specs.Descriptions as syntax
use Rattle.ep_grammar.specs.Units.{component, components, of_component}
use Rattle.ep_marks.specs.Productions as style
use Rattle.ep_marks.specs.Styles.{part, plain}
use Rattle.ep_marker.specs.Marking.{Walked}
use Rattle.ep_marker.proofs.RowWalks.{InRow}
use Rattle.ep_marker.proofs.components.components.Given as goal

abbrev pub invariant-loop-turn : goal.invariant-loop-turn
invariant-loop-turn l = InRow (λ v b. Walked l.room style.components components l.depth l.fn.m b) l.room (part plain style.component) of_component (syntax.item component) (tt {0}) l.depth (l._turn-end - l._turn) l.m
