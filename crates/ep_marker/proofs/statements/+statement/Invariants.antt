use Rattle.std.proofs.Common.{◌+◌, ◌*◌, ◌-◌, [], ◌∷◌}
use Rattle.ep_token.specs.declared.symbol.TheConstants as symbols
use Rattle.ep_grammar.specs.Classes.{Symbol}
use Rattle.ep_grammar.specs.Descriptions.{inside, item_after, item_or_end, statements}
use Rattle.ep_grammar.specs.Expressions.{of_expression}
use Rattle.ep_grammar.specs.Statements.{arm, arms, inner_statements}
use Rattle.ep_marks.specs.Productions as style
use Rattle.ep_marks.specs.Styles.{choice, closed, given, part, plain, starts}
use Rattle.ep_marker.specs.Marking.{Walked}
use Rattle.ep_marker.proofs.RowWalks.{InRow}
use Rattle.ep_marker.proofs.statements.+statement.Given as goal

abbrev pub decreases-inner_statement : goal.decreases-inner_statement
decreases-inner_statement l = 100 * l.room + 0

abbrev pub decreases-body : goal.decreases-body
decreases-body l = 100 * l.room + 10

abbrev pub decreases-item : goal.decreases-item
decreases-item l = 100 * l.room + 10

abbrev pub decreases-inner_statements : goal.decreases-inner_statements
decreases-inner_statements l = 100 * l.room + 20

abbrev pub decreases-compound : goal.decreases-compound
decreases-compound l = 100 * l.room + 30

abbrev pub decreases-else_part : goal.decreases-else_part
decreases-else_part l = 100 * l.room + 20

abbrev pub decreases-if_statement : goal.decreases-if_statement
decreases-if_statement l = 100 * l.room + 30

abbrev pub decreases-arm : goal.decreases-arm
decreases-arm l = 100 * l.room + 20

abbrev pub decreases-arms : goal.decreases-arms
decreases-arms l = 100 * l.room + 30

abbrev pub decreases-other : goal.decreases-other
decreases-other l = 100 * l.room + 30

abbrev pub decreases-case_arms : goal.decreases-case_arms
decreases-case_arms l = 100 * l.room + 50

abbrev pub decreases-case_statement : goal.decreases-case_statement
decreases-case_statement l = 100 * l.room + 60

abbrev pub decreases-while_statement : goal.decreases-while_statement
decreases-while_statement l = 100 * l.room + 20

abbrev pub decreases-repeat_statement : goal.decreases-repeat_statement
decreases-repeat_statement l = 100 * l.room + 30

abbrev pub decreases-for_range : goal.decreases-for_range
decreases-for_range l = 100 * l.room + 20

abbrev pub decreases-for_members : goal.decreases-for_members
decreases-for_members l = 100 * l.room + 20

abbrev pub decreases-for_rest : goal.decreases-for_rest
decreases-for_rest l = 100 * l.room + 30

abbrev pub decreases-for_statement : goal.decreases-for_statement
decreases-for_statement l = 100 * l.room + 40

abbrev pub decreases-with_statement : goal.decreases-with_statement
decreases-with_statement l = 100 * l.room + 20

abbrev pub decreases-loop_statement : goal.decreases-loop_statement
decreases-loop_statement l = 100 * l.room + 50

abbrev pub decreases-statement : goal.decreases-statement
decreases-statement l = 100 * l.room + 70

abbrev pub invariant-inner_statements-loop-turn : goal.invariant-inner_statements-loop-turn
invariant-inner_statements-loop-turn l = InRow (λ v b. Walked l.room style.inner_statements inner_statements l.depth l.fn.m b) l.room (part plain (given style.of_statement (starts style.deeper) style.deeper)) (Symbol symbols.SEMICOLON ∷ []) (item_after symbols.SEMICOLON (inside statements)) (tt {0}) l.depth (l._turn-end - l._turn) l.m

abbrev pub invariant-arms-loop-turn : goal.invariant-arms-loop-turn
invariant-arms-loop-turn l = InRow (λ v b. Walked l.room (closed style.arm) arms l.depth l.fn.m b) l.room (part plain (choice (part plain style.arm) plain)) (Symbol symbols.SEMICOLON ∷ []) (item_or_end of_expression arm) (tt {0}) l.depth (l._turn-end - l._turn) l.m
