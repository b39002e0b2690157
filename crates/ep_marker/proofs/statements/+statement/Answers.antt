use Rattle.std.proofs.Common.{◌≡◌, suc, ◌-◌, false, arith}
use Rattle.ep_grammar.specs.Descriptions.{statements}
use Rattle.ep_grammar.specs.Statements.{arm, arms, case_arms, case_statement, compound, compound_statement, else_part, for_members, for_range, for_statement, if_statement, inner_statements, labelled_arms, loop_statement, other, other_arms, repeat_statement, statement, while_statement, with_statement}
use Rattle.ep_marker.proofs.Forms.{alone}
use Rattle.ep_marker.proofs.Walks.{firsts, given-firsts, given-seconds, gives, indented, levels, lines, seconds, started, switch-firsts, switch-seconds, under, no-level, withins, ◌▸◌, ◌▹◌}
use Rattle.ep_marker.proofs.RowWalks.{after, begins, closed-end, closed-item, goes-on, has-none, is-ended, is-over}
use Rattle.ep_marker.proofs.statements.+statement.Goals as goal

pub inner_statement-returns-then-room-eq0 : goal.inner_statement-returns-then-room-eq0
inner_statement-returns-then-room-eq0 t c = no-level false statements c.if-room-eq0.true c.halt.ensures

pub inner_statement-returns : goal.inner_statement-returns
inner_statement-returns t c =
    let q : c.args.room ≡ suc (c.args.room - 1) = omega arith in
    withins false statements q c.statement.ensures

pub body-returns-then-not-begins_body : goal.body-returns-then-not-begins_body
body-returns-then-not-begins_body t c = given-seconds c.if-not-begins_body.ensures c.inner_statement.ensures

pub body-returns : goal.body-returns
body-returns t c = given-firsts c.if-not-begins_body.ensures (started c.len-first.ensures (indented c.inner_statement-2.ensures) c.start.ensures)

pub item-returns-then-not-begins_statement : goal.item-returns-then-not-begins_statement
item-returns-then-not-begins_statement t c = given-seconds c.if-not-begins_statement.ensures c.inner_statement.ensures

pub item-returns : goal.item-returns
item-returns t c = given-firsts c.if-not-begins_statement.ensures (started c.len-first.ensures c.inner_statement-2.ensures c.start.ensures)

pub inner_statements-loop-turn-init : goal.inner_statements-loop-turn-init
unfolding inner_statements
inner_statements-loop-turn-init t c = begins (gives ▸ c.item.ensures) c.left-turn-end.ensures

pub inner_statements-returns-then-not-sees_symbol : goal.inner_statements-returns-then-not-sees_symbol
inner_statements-returns-then-not-sees_symbol t c = has-none c.loop-turn.invariant (alone c.if-not-sees_symbol.ensures)

pub inner_statements-loop-turn-preserved : goal.inner_statements-loop-turn-preserved
inner_statements-loop-turn-preserved t c = goes-on c.loop-turn.invariant c.loop-turn-test.true (alone c.if-not-sees_symbol.ensures) (after (c.symbol.ensures _) c.item-in-loop-turn.ensures)

pub inner_statements-returns : goal.inner_statements-returns
inner_statements-returns t c = is-over c.loop-turn.invariant c.loop-turn-test.false

pub compound-returns : goal.compound-returns
unfolding compound
compound-returns t c = levels c.open.ensures (gives ▸ lines ▹ (c.new_line.ensures _) ▸ indented c.inner_statements.ensures ▹ (c.new_line-2.ensures _))

pub else_part-returns-then-not-sees_word : goal.else_part-returns-then-not-sees_word
unfolding else_part
else_part-returns-then-not-sees_word t c = switch-seconds (alone c.if-not-sees_word.ensures) gives

pub else_part-returns : goal.else_part-returns
unfolding else_part
else_part-returns t c = switch-firsts (alone c.if-not-sees_word.ensures) (gives ▹ (c.new_line.ensures _) ▸ c.body.ensures)

pub if_statement-returns : goal.if_statement-returns
unfolding if_statement
if_statement-returns t c = levels c.open.ensures (gives ▸ lines ▹ (c.word.ensures _) ▸ c.expression.ensures ▹ (c.word-2.ensures _) ▸ c.body.ensures ▸ c.else_part.ensures)

pub arm-returns : goal.arm-returns
unfolding arm
arm-returns t c = started c.len-first.ensures (indented (levels c.open.ensures (gives ▸ lines ▸ c.labels.ensures ▹ (c.symbol.ensures _) ▸ c.inner_statement.ensures))) c.start.ensures

pub arms-loop-turn-init : goal.arms-loop-turn-init
unfolding arms
arms-loop-turn-init t c = begins (gives ▸ c.arm.ensures) c.left-turn-end.ensures

pub arms-returns-then-not-sees_symbol : goal.arms-returns-then-not-sees_symbol
arms-returns-then-not-sees_symbol t c = has-none c.loop-turn.invariant (alone c.if-not-sees_symbol.ensures)

pub arms-returns-then-not-begins_expression : goal.arms-returns-then-not-begins_expression
arms-returns-then-not-begins_expression t c = is-ended c.loop-turn.invariant c.loop-turn-test.true (alone c.if-not-sees_symbol.ensures) (closed-end (c.symbol.ensures _) c.if-not-begins_expression.ensures)

pub arms-loop-turn-preserved : goal.arms-loop-turn-preserved
arms-loop-turn-preserved t c = goes-on c.loop-turn.invariant c.loop-turn-test.true (alone c.if-not-sees_symbol.ensures) (closed-item (c.symbol.ensures _) c.if-not-begins_expression.ensures c.arm-in-loop-turn.ensures)

pub arms-returns : goal.arms-returns
arms-returns t c = is-over c.loop-turn.invariant c.loop-turn-test.false

pub other-returns : goal.other-returns
unfolding other
other-returns t c = started c.len-first.ensures (indented (levels c.open.ensures (gives ▸ lines ▹ (c.word.ensures _) ▸ c.inner_statements.ensures))) c.start.ensures

pub case_arms-returns-then-sees_word : goal.case_arms-returns-then-sees_word
unfolding case_arms other_arms labelled_arms
case_arms-returns-then-sees_word t c = firsts (alone c.if-sees_word.ensures) (gives ▸ c.other.ensures)

pub case_arms-returns-then-not-sees_word : goal.case_arms-returns-then-not-sees_word
unfolding case_arms other_arms labelled_arms
case_arms-returns-then-not-sees_word t c = seconds (alone c.if-sees_word.ensures) (gives ▸ c.arms.ensures ▸ seconds (alone c.if-not-sees_word.ensures) gives)

pub case_arms-returns : goal.case_arms-returns
unfolding case_arms other_arms labelled_arms
case_arms-returns t c = seconds (alone c.if-sees_word.ensures) (gives ▸ c.arms.ensures ▸ firsts (alone c.if-not-sees_word.ensures) (gives ▸ c.other-2.ensures))

pub case_statement-returns : goal.case_statement-returns
unfolding case_statement
case_statement-returns t c = levels c.open.ensures (gives ▸ lines ▹ (c.word.ensures _) ▸ c.expression.ensures ▹ (c.word-2.ensures _) ▸ c.case_arms.ensures ▹ (c.new_line.ensures _))

pub while_statement-returns : goal.while_statement-returns
unfolding while_statement
while_statement-returns t c = levels c.open.ensures (gives ▸ lines ▹ (c.word.ensures _) ▸ c.expression.ensures ▹ (c.word-2.ensures _) ▸ c.body.ensures)

pub repeat_statement-returns : goal.repeat_statement-returns
unfolding repeat_statement
repeat_statement-returns t c = levels c.open.ensures (gives ▸ lines ▹ (c.word.ensures _) ▸ indented c.inner_statements.ensures ▹ (c.new_line.ensures _) ▸ c.expression.ensures)

pub for_range-returns : goal.for_range-returns
unfolding for_range
for_range-returns t c = gives ▹ (c.symbol.ensures _) ▸ c.expression.ensures ▸ c.direction.ensures ▸ c.expression-2.ensures ▹ (c.word.ensures _) ▸ c.body.ensures

pub for_members-returns : goal.for_members-returns
unfolding for_members
for_members-returns t c = gives ▹ (c.word.ensures _) ▸ c.expression.ensures ▹ (c.word-2.ensures _) ▸ c.body.ensures

pub for_rest-returns-then-sees_word : goal.for_rest-returns-then-sees_word
for_rest-returns-then-sees_word t c = firsts (alone c.if-sees_word.ensures) c.for_members.ensures

pub for_rest-returns : goal.for_rest-returns
for_rest-returns t c = seconds (alone c.if-sees_word.ensures) c.for_range.ensures

pub for_statement-returns : goal.for_statement-returns
unfolding for_statement
for_statement-returns t c = levels c.open.ensures (gives ▸ lines ▹ (c.word.ensures _) ▸ c.name.ensures ▸ c.for_rest.ensures)

pub with_statement-returns : goal.with_statement-returns
unfolding with_statement
with_statement-returns t c = levels c.open.ensures (gives ▸ lines ▹ (c.word.ensures _) ▸ c.accesses.ensures ▹ (c.word-2.ensures _) ▸ c.body.ensures)

pub loop_statement-returns-then-sees_word : goal.loop_statement-returns-then-sees_word
unfolding loop_statement
loop_statement-returns-then-sees_word t c = firsts (alone c.if-sees_word.ensures) c.while_statement.ensures

pub loop_statement-returns-then-sees_word-2 : goal.loop_statement-returns-then-sees_word-2
unfolding loop_statement
loop_statement-returns-then-sees_word-2 t c = seconds (alone c.if-sees_word.ensures) (firsts (alone c.if-sees_word-2.ensures) c.repeat_statement.ensures)

pub loop_statement-returns-then-sees_word-3 : goal.loop_statement-returns-then-sees_word-3
unfolding loop_statement
loop_statement-returns-then-sees_word-3 t c = seconds (alone c.if-sees_word.ensures) (seconds (alone c.if-sees_word-2.ensures) (firsts (alone c.if-sees_word-3.ensures) c.for_statement.ensures))

pub loop_statement-returns : goal.loop_statement-returns
unfolding loop_statement
loop_statement-returns t c = seconds (alone c.if-sees_word.ensures) (seconds (alone c.if-sees_word-2.ensures) (seconds (alone c.if-sees_word-3.ensures) c.with_statement.ensures))

pub statement-returns-then-sees_name : goal.statement-returns-then-sees_name
unfolding statement compound_statement
statement-returns-then-sees_name t c = firsts c.if-sees_name.ensures c.simple_statement.ensures

pub statement-returns-then-sees_word : goal.statement-returns-then-sees_word
unfolding statement compound_statement
statement-returns-then-sees_word t c = seconds c.if-sees_name.ensures (firsts (alone c.if-sees_word.ensures) (gives ▸ c.compound.ensures))

pub statement-returns-then-sees_word-2 : goal.statement-returns-then-sees_word-2
unfolding statement compound_statement
statement-returns-then-sees_word-2 t c = seconds c.if-sees_name.ensures (seconds (alone c.if-sees_word.ensures) (firsts (alone c.if-sees_word-2.ensures) c.if_statement.ensures))

pub statement-returns-then-sees_word-3 : goal.statement-returns-then-sees_word-3
unfolding statement compound_statement
statement-returns-then-sees_word-3 t c = seconds c.if-sees_name.ensures (seconds (alone c.if-sees_word.ensures) (seconds (alone c.if-sees_word-2.ensures) (firsts (alone c.if-sees_word-3.ensures) c.case_statement.ensures)))

pub statement-returns-then-begins_loop : goal.statement-returns-then-begins_loop
unfolding statement compound_statement
statement-returns-then-begins_loop t c = seconds c.if-sees_name.ensures (seconds (alone c.if-sees_word.ensures) (seconds (alone c.if-sees_word-2.ensures) (seconds (alone c.if-sees_word-3.ensures) (firsts c.if-begins_loop.ensures c.loop_statement.ensures))))

pub statement-returns-else-begins_loop : goal.statement-returns-else-begins_loop
unfolding statement compound_statement
statement-returns-else-begins_loop t c = seconds c.if-sees_name.ensures (seconds (alone c.if-sees_word.ensures) (seconds (alone c.if-sees_word-2.ensures) (seconds (alone c.if-sees_word-3.ensures) (seconds c.if-begins_loop.ensures (under lines)))))
