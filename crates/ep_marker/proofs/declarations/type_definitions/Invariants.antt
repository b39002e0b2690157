use Rattle.std.proofs.Common.{◌-◌}
use Rattle.ep_grammar.specs.Descriptions as syntax
use Rattle.ep_grammar.specs.Expressions.{of_name}
use Rattle.ep_grammar.specs.Declarations.{type_definition, type_definitions}
use Rattle.ep_marks.specs.Productions as style
use Rattle.ep_marks.specs.Styles.{part, plain, some, starts}
use Rattle.ep_marker.specs.Marking.{Walked}
use Rattle.ep_marker.proofs.RowWalks.{InRow}
use Rattle.ep_marker.proofs.declarations.type_definitions.Given as goal

abbrev pub invariant-loop-turn : goal.invariant-loop-turn
invariant-loop-turn l = InRow (λ v b. Walked l.room (some style.type_definition (starts style.type_definition)) type_definitions l.depth l.fn.m b) l.room (part plain (starts style.type_definition)) of_name (syntax.item type_definition) (tt {0}) l.depth (l._turn-end - l._turn) l.m
