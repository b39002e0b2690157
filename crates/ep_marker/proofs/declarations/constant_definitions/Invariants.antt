use Rattle.std.proofs.Common.{◌-◌}
use Rattle.ep_grammar.specs.Descriptions as syntax
use Rattle.ep_grammar.specs.Expressions.{of_name}
use Rattle.ep_grammar.specs.Declarations.{constant_definition, constant_definitions}
use Rattle.ep_marks.specs.Styles.{new_line, part, plain, some}
use Rattle.ep_marker.specs.Marking.{Walked}
use Rattle.ep_marker.proofs.RowWalks.{InRow}
use Rattle.ep_marker.proofs.declarations.constant_definitions.Given as goal

abbrev pub invariant-loop-turn : goal.invariant-loop-turn
invariant-loop-turn l = InRow (λ v b. Walked l.room (some plain new_line) constant_definitions l.depth l.fn.m b) l.room (part plain new_line) of_name (syntax.item constant_definition) (tt {0}) l.depth (l._turn-end - l._turn) l.m
