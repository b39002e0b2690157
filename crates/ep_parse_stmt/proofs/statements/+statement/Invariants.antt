use Rattle.std.proofs.Common.{◌+◌, ◌*◌}
use Rattle.ep_parse_stmt.proofs.statements.+statement.Given as goal

abbrev pub decreases-arm : goal.decreases-arm
decreases-arm l = 100 * l.room + 20

abbrev pub decreases-arms : goal.decreases-arms
decreases-arms l = 100 * l.room + 30

abbrev pub decreases-boxed_statement : goal.decreases-boxed_statement
decreases-boxed_statement l = 100 * l.room + 10

abbrev pub decreases-case_arms : goal.decreases-case_arms
decreases-case_arms l = 100 * l.room + 50

abbrev pub decreases-case_statement : goal.decreases-case_statement
decreases-case_statement l = 100 * l.room + 60

abbrev pub decreases-compound : goal.decreases-compound
decreases-compound l = 100 * l.room + 30

abbrev pub decreases-compound_statement : goal.decreases-compound_statement
decreases-compound_statement l = 100 * l.room + 40

abbrev pub decreases-else_part : goal.decreases-else_part
decreases-else_part l = 100 * l.room + 20

abbrev pub decreases-for_members : goal.decreases-for_members
decreases-for_members l = 100 * l.room + 20

abbrev pub decreases-for_range : goal.decreases-for_range
decreases-for_range l = 100 * l.room + 20

abbrev pub decreases-for_rest : goal.decreases-for_rest
decreases-for_rest l = 100 * l.room + 30

abbrev pub decreases-for_statement : goal.decreases-for_statement
decreases-for_statement l = 100 * l.room + 40

abbrev pub decreases-if_statement : goal.decreases-if_statement
decreases-if_statement l = 100 * l.room + 30

abbrev pub decreases-inner_statement : goal.decreases-inner_statement
decreases-inner_statement l = 100 * l.room + 0

abbrev pub decreases-inner_statements : goal.decreases-inner_statements
decreases-inner_statements l = 100 * l.room + 20

abbrev pub decreases-labelled_arms : goal.decreases-labelled_arms
decreases-labelled_arms l = 100 * l.room + 40

abbrev pub decreases-loop_statement : goal.decreases-loop_statement
decreases-loop_statement l = 100 * l.room + 50

abbrev pub decreases-other : goal.decreases-other
decreases-other l = 100 * l.room + 30

abbrev pub decreases-other_arms : goal.decreases-other_arms
decreases-other_arms l = 100 * l.room + 40

abbrev pub decreases-repeat_statement : goal.decreases-repeat_statement
decreases-repeat_statement l = 100 * l.room + 30

abbrev pub decreases-statement : goal.decreases-statement
decreases-statement l = 100 * l.room + 70

abbrev pub decreases-while_statement : goal.decreases-while_statement
decreases-while_statement l = 100 * l.room + 20

abbrev pub decreases-with_statement : goal.decreases-with_statement
decreases-with_statement l = 100 * l.room + 20

abbrev pub decreases-inner_statements-separated : goal.decreases-inner_statements-separated
decreases-inner_statements-separated l = 100 * l.room + 15

abbrev pub decreases-arms-closed : goal.decreases-arms-closed
decreases-arms-closed l = 100 * l.room + 25
