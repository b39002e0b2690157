use Rattle.std.proofs.Common.{◌-◌}
use Rattle.ep_grammar.specs.Descriptions as syntax
use Rattle.ep_grammar.specs.Expressions.{of_name}
use Rattle.ep_grammar.specs.Units.{import_specification, import_specifications}
use Rattle.ep_marks.specs.Styles.{new_line, part, plain, some}
use Rattle.ep_marker.specs.Marking.{Walked}
use Rattle.ep_marker.proofs.RowWalks.{InRow}
use Rattle.ep_marker.proofs.components.import_specifications.Given as goal

abbrev pub invariant-loop-turn : goal.invariant-loop-turn
invariant-loop-turn l = InRow (λ v b. Walked l.room (some plain new_line) import_specifications l.depth l.fn.m b) l.room (part plain new_line) of_name (syntax.item import_specification) (tt {0}) l.depth (l._turn-end - l._turn) l.m
