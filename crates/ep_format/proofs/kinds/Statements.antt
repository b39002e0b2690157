-- The productions of statements: what their tokens derive, tokens of the same kinds derive too. A lemma for each description, under its name and along it.
use Rattle.std.proofs.Common.{refl}
use Rattle.ep_grammar.specs.Descriptions.{statements}
use Rattle.ep_grammar.specs.Statements.{inner_statements, compound, compound_statement, else_part, if_statement, arm, arms, other, other_arms, labelled_arms, case_arms, case_statement, while_statement, repeat_statement, for_range, for_members, for_statement, accesses, with_statement, simple_statement, loop_statement, statement}
use Rattle.ep_format.proofs.kinds.Forms.{a_line, behind, by_class, mark, one_of, within}
use Rattle.ep_format.proofs.kinds.Simply.{Simply, anything, each_closed, each_separated, maybe, ◌&◌, ◌<*◌}
use Rattle.ep_format.proofs.kinds.Expressions.{access_decided, expression_decided, labels_decided}
use Rattle.ep_format.proofs.kinds.Values.{component_value_decided}

pub inner_statements_decided : Simply inner_statements
unfolding inner_statements
inner_statements_decided = each_separated (within statements)

pub compound_decided : Simply compound
unfolding compound
compound_decided = behind (anything & a_line <* mark refl & inner_statements_decided <* mark refl)

pub compound_statement_decided : Simply compound_statement
unfolding compound_statement
compound_statement_decided = anything & compound_decided

pub else_part_decided : Simply else_part
unfolding else_part
else_part_decided = by_class (anything <* mark refl & within statements) anything

pub if_statement_decided : Simply if_statement
unfolding if_statement
if_statement_decided = behind (anything & a_line <* mark refl & expression_decided <* mark refl & within statements & else_part_decided)

pub arm_decided : Simply arm
unfolding arm
arm_decided = behind (anything & a_line & labels_decided <* mark refl & within statements)

pub arms_decided : Simply arms
unfolding arms
arms_decided = each_closed arm_decided

pub other_decided : Simply other
unfolding other
other_decided = behind (anything & a_line <* mark refl & inner_statements_decided)

pub other_arms_decided : Simply other_arms
unfolding other_arms
other_arms_decided = anything & other_decided

pub labelled_arms_decided : Simply labelled_arms
unfolding labelled_arms
labelled_arms_decided = anything & arms_decided & maybe other_decided

pub case_arms_decided : Simply case_arms
unfolding case_arms
case_arms_decided = one_of other_arms_decided labelled_arms_decided

pub case_statement_decided : Simply case_statement
unfolding case_statement
case_statement_decided = behind (anything & a_line <* mark refl & expression_decided <* mark refl & case_arms_decided <* mark refl)

pub while_statement_decided : Simply while_statement
unfolding while_statement
while_statement_decided = behind (anything & a_line <* mark refl & expression_decided <* mark refl & within statements)

pub repeat_statement_decided : Simply repeat_statement
unfolding repeat_statement
repeat_statement_decided = behind (anything & a_line <* mark refl & inner_statements_decided <* mark refl & expression_decided)

pub for_range_decided : Simply for_range
unfolding for_range
for_range_decided = anything <* mark refl & expression_decided & mark refl & expression_decided <* mark refl & within statements

pub for_members_decided : Simply for_members
unfolding for_members
for_members_decided = anything <* mark refl & expression_decided <* mark refl & within statements

pub for_statement_decided : Simply for_statement
unfolding for_statement
for_statement_decided = behind (anything & a_line <* mark refl & mark refl & one_of for_members_decided for_range_decided)

pub accesses_decided : Simply accesses
unfolding accesses
accesses_decided = each_separated access_decided

pub with_statement_decided : Simply with_statement
unfolding with_statement
with_statement_decided = behind (anything & a_line <* mark refl & accesses_decided <* mark refl & within statements)

pub simple_statement_decided : Simply simple_statement
unfolding simple_statement
simple_statement_decided = anything & a_line & access_decided & maybe (anything <* mark refl & component_value_decided)

pub loop_statement_decided : Simply loop_statement
unfolding loop_statement
loop_statement_decided = one_of while_statement_decided (one_of repeat_statement_decided (one_of for_statement_decided with_statement_decided))

pub statement_decided : Simply statement
unfolding statement
statement_decided = one_of simple_statement_decided (one_of compound_statement_decided (one_of if_statement_decided (one_of case_statement_decided (one_of loop_statement_decided (anything & a_line)))))
