use Rattle.std.proofs.Common.{of_calls, refl, rules, arith}
use Rattle.std.proofs.lemmas.Grind.{common_steps}
use Rattle.ep_grammar.specs.Statements.{arm, arms, case_statement, compound, for_members, for_range, for_statement, if_statement, inner_statements, other, repeat_statement, while_statement, with_statement}
use Rattle.ep_reader.proofs.public.Levels.{handed, opened, unopened}
use Rattle.ep_reader.proofs.public.Shaped.{one_of}
use Rattle.ep_grammar.specs.Descriptions.{statements}
use Rattle.ep_grammar.specs.Expressions.{of_expression}
use Rattle.ep_grammar.specs.Reading.{read, read_inside}
use Rattle.ep_grammar.specs.Rules.{inside_at}
use Rattle.ep_reader.proofs.public.Begun.{closed_behind}
use Rattle.ep_parse_stmt.proofs.statements.+statement.Goals as goal

pub inner_statements-returns : goal.inner_statements-returns
unfolding inner_statements
inner_statements-returns t c = c.separated.ensures (read_inside (inside_at c.args.room) statements) (λ i j r called. search of_calls)

pub arms-returns : goal.arms-returns
unfolding arms
arms-returns t c =
    closed_behind (inside_at c.args.room) of_expression arm c.args.reader.now c.in_ok-arm.ensures c.in_ok-found.ensures c.in_ok-push.ensures.ok c.closed.result c.closed.new.reader
    (c.closed.ensures of_expression (read (inside_at c.args.room) arm) (λ i j r called. search of_calls))

pub compound-returns-in_err-_inner : goal.compound-returns-in_err-_inner
unfolding compound
compound-returns-in_err-_inner t c = handed _ _ _ c.in_err-_inner.field-0.0 c.from_residual.ensures.1 (λ n. unopened _ _ _ c.in_err-_inner.ensures.inner (one_of _ _ c.sees_word.ensures))

pub compound-returns-in_err-keyword : goal.compound-returns-in_err-keyword
unfolding compound
compound-returns-in_err-keyword t c = handed _ _ _ c.in_err-keyword.field-0.0 c.from_residual-in_err-keyword.ensures.1 (λ n. opened _ _ _ c.in_ok-_inner.ensures.inner (rw (c.in_err-keyword.ensures n) refl))

pub compound-returns-in_err-statements : goal.compound-returns-in_err-statements
unfolding compound
compound-returns-in_err-statements t c = handed _ _ _ c.in_err-statements.field-0.0 c.from_residual-in_err-statements.ensures.1 (λ n. opened _ _ _ c.in_ok-_inner.ensures.inner (rw (c.in_ok-keyword.ensures, c.in_err-statements.ensures n) refl))

pub compound-returns-in_err-keyword-2 : goal.compound-returns-in_err-keyword-2
unfolding compound
compound-returns-in_err-keyword-2 t c = handed _ _ _ c.in_err-keyword-2.field-0.0 c.from_residual-in_err-keyword-2.ensures.1 (λ n. opened _ _ _ c.in_ok-_inner.ensures.inner (rw (c.in_ok-keyword.ensures, c.in_ok-statements.ensures, c.in_err-keyword-2.ensures n) refl))

pub compound-returns : goal.compound-returns
unfolding compound
compound-returns t c = opened _ _ _ c.in_ok-_inner.ensures.inner (rw (c.line-line.ensures, c.in_ok-keyword.ensures, c.in_ok-statements.ensures, c.in_ok-keyword-2.ensures) refl)

pub if_statement-returns-in_err-_inner : goal.if_statement-returns-in_err-_inner
unfolding if_statement
if_statement-returns-in_err-_inner t c = handed _ _ _ c.in_err-_inner.field-0.0 c.from_residual.ensures.1 (λ n. unopened _ _ _ c.in_err-_inner.ensures.inner (one_of _ _ c.sees_word.ensures))

pub if_statement-returns-in_err-keyword : goal.if_statement-returns-in_err-keyword
unfolding if_statement
if_statement-returns-in_err-keyword t c = handed _ _ _ c.in_err-keyword.field-0.0 c.from_residual-in_err-keyword.ensures.1 (λ n. opened _ _ _ c.in_ok-_inner.ensures.inner (rw (c.in_err-keyword.ensures n) refl))

pub if_statement-returns-in_err-condition : goal.if_statement-returns-in_err-condition
unfolding if_statement
if_statement-returns-in_err-condition t c = handed _ _ _ c.in_err-condition.field-0.0 c.from_residual-in_err-condition.ensures.1 (λ n. opened _ _ _ c.in_ok-_inner.ensures.inner (rw (c.in_ok-keyword.ensures, c.in_err-condition.ensures n) refl))

pub if_statement-returns-in_err-keyword-2 : goal.if_statement-returns-in_err-keyword-2
unfolding if_statement
if_statement-returns-in_err-keyword-2 t c = handed _ _ _ c.in_err-keyword-2.field-0.0 c.from_residual-in_err-keyword-2.ensures.1 (λ n. opened _ _ _ c.in_ok-_inner.ensures.inner (rw (c.in_ok-keyword.ensures, c.in_ok-condition.ensures, c.in_err-keyword-2.ensures n) refl))

pub if_statement-returns-in_err-body : goal.if_statement-returns-in_err-body
unfolding if_statement
if_statement-returns-in_err-body t c = handed _ _ _ c.in_err-body.field-0.0 c.from_residual-in_err-body.ensures.1 (λ n. opened _ _ _ c.in_ok-_inner.ensures.inner (rw (c.in_ok-keyword.ensures, c.in_ok-condition.ensures, c.in_ok-keyword-2.ensures, c.in_err-body.ensures n) refl))

pub if_statement-returns-in_err-second : goal.if_statement-returns-in_err-second
unfolding if_statement
if_statement-returns-in_err-second t c = handed _ _ _ c.in_err-second.field-0.0 c.from_residual-in_err-second.ensures.1 (λ n. opened _ _ _ c.in_ok-_inner.ensures.inner (rw (c.in_ok-keyword.ensures, c.in_ok-condition.ensures, c.in_ok-keyword-2.ensures, c.in_ok-body.ensures, c.in_err-second.ensures n) refl))

pub if_statement-returns : goal.if_statement-returns
unfolding if_statement
if_statement-returns t c = opened _ _ _ c.in_ok-_inner.ensures.inner (rw (c.line-line.ensures, c.in_ok-keyword.ensures, c.in_ok-condition.ensures, c.in_ok-keyword-2.ensures, c.in_ok-body.ensures, c.in_ok-second.ensures) refl)

pub arm-returns-in_err-_inner : goal.arm-returns-in_err-_inner
unfolding arm
arm-returns-in_err-_inner t c = handed _ _ _ c.in_err-_inner.field-0.0 c.from_residual.ensures.1 (λ n. unopened _ _ _ c.in_err-_inner.ensures.inner c.begins_expression.ensures)

pub arm-returns-in_err-labels : goal.arm-returns-in_err-labels
unfolding arm
arm-returns-in_err-labels t c = handed _ _ _ c.in_err-labels.field-0.0 c.from_residual-in_err-labels.ensures.1 (λ n. opened _ _ _ c.in_ok-_inner.ensures.inner (rw (c.in_err-labels.ensures n) refl))

pub arm-returns-in_err-symbol : goal.arm-returns-in_err-symbol
unfolding arm
arm-returns-in_err-symbol t c = handed _ _ _ c.in_err-symbol.field-0.0 c.from_residual-in_err-symbol.ensures.1 (λ n. opened _ _ _ c.in_ok-_inner.ensures.inner (rw (c.in_ok-labels.ensures, c.in_err-symbol.ensures n) refl))

pub arm-returns-in_err-body : goal.arm-returns-in_err-body
unfolding arm
arm-returns-in_err-body t c = handed _ _ _ c.in_err-body.field-0.0 c.from_residual-in_err-body.ensures.1 (λ n. opened _ _ _ c.in_ok-_inner.ensures.inner (rw (c.in_ok-labels.ensures, c.in_ok-symbol.ensures, c.in_err-body.ensures n) refl))

pub arm-returns : goal.arm-returns
unfolding arm
arm-returns t c = opened _ _ _ c.in_ok-_inner.ensures.inner (rw (c.line-line.ensures, c.in_ok-labels.ensures, c.in_ok-symbol.ensures, c.in_ok-body.ensures) refl)

pub other-returns-in_err-_inner : goal.other-returns-in_err-_inner
unfolding other
other-returns-in_err-_inner t c = handed _ _ _ c.in_err-_inner.field-0.0 c.from_residual.ensures.1 (λ n. unopened _ _ _ c.in_err-_inner.ensures.inner (one_of _ _ c.sees_word.ensures))

pub other-returns-in_err-keyword : goal.other-returns-in_err-keyword
unfolding other
other-returns-in_err-keyword t c = handed _ _ _ c.in_err-keyword.field-0.0 c.from_residual-in_err-keyword.ensures.1 (λ n. opened _ _ _ c.in_ok-_inner.ensures.inner (rw (c.in_err-keyword.ensures n) refl))

pub other-returns-in_err-statements : goal.other-returns-in_err-statements
unfolding other
other-returns-in_err-statements t c = handed _ _ _ c.in_err-statements.field-0.0 c.from_residual-in_err-statements.ensures.1 (λ n. opened _ _ _ c.in_ok-_inner.ensures.inner (rw (c.in_ok-keyword.ensures, c.in_err-statements.ensures n) refl))

pub other-returns : goal.other-returns
unfolding other
other-returns t c = opened _ _ _ c.in_ok-_inner.ensures.inner (rw (c.line-line.ensures, c.in_ok-keyword.ensures, c.in_ok-statements.ensures) refl)

pub case_statement-returns-in_err-_inner : goal.case_statement-returns-in_err-_inner
unfolding case_statement
case_statement-returns-in_err-_inner t c = handed _ _ _ c.in_err-_inner.field-0.0 c.from_residual.ensures.1 (λ n. unopened _ _ _ c.in_err-_inner.ensures.inner (one_of _ _ c.sees_word.ensures))

pub case_statement-returns-in_err-keyword : goal.case_statement-returns-in_err-keyword
unfolding case_statement
case_statement-returns-in_err-keyword t c = handed _ _ _ c.in_err-keyword.field-0.0 c.from_residual-in_err-keyword.ensures.1 (λ n. opened _ _ _ c.in_ok-_inner.ensures.inner (rw (c.in_err-keyword.ensures n) refl))

pub case_statement-returns-in_err-selector : goal.case_statement-returns-in_err-selector
unfolding case_statement
case_statement-returns-in_err-selector t c = handed _ _ _ c.in_err-selector.field-0.0 c.from_residual-in_err-selector.ensures.1 (λ n. opened _ _ _ c.in_ok-_inner.ensures.inner (rw (c.in_ok-keyword.ensures, c.in_err-selector.ensures n) refl))

pub case_statement-returns-in_err-keyword-2 : goal.case_statement-returns-in_err-keyword-2
unfolding case_statement
case_statement-returns-in_err-keyword-2 t c = handed _ _ _ c.in_err-keyword-2.field-0.0 c.from_residual-in_err-keyword-2.ensures.1 (λ n. opened _ _ _ c.in_ok-_inner.ensures.inner (rw (c.in_ok-keyword.ensures, c.in_ok-selector.ensures, c.in_err-keyword-2.ensures n) refl))

pub case_statement-returns-in_err-parts : goal.case_statement-returns-in_err-parts
unfolding case_statement
case_statement-returns-in_err-parts t c = handed _ _ _ c.in_err-parts.field-0.0 c.from_residual-in_err-parts.ensures.1 (λ n. opened _ _ _ c.in_ok-_inner.ensures.inner (rw (c.in_ok-keyword.ensures, c.in_ok-selector.ensures, c.in_ok-keyword-2.ensures, c.in_err-parts.ensures n) refl))

pub case_statement-returns-in_err-keyword-3 : goal.case_statement-returns-in_err-keyword-3
unfolding case_statement
case_statement-returns-in_err-keyword-3 t c = handed _ _ _ c.in_err-keyword-3.field-0.0 c.from_residual-in_err-keyword-3.ensures.1 (λ n. opened _ _ _ c.in_ok-_inner.ensures.inner (rw (c.in_ok-keyword.ensures, c.in_ok-selector.ensures, c.in_ok-keyword-2.ensures, c.in_ok-parts.ensures, c.in_err-keyword-3.ensures n) refl))

pub case_statement-returns : goal.case_statement-returns
unfolding case_statement
case_statement-returns t c = opened _ _ _ c.in_ok-_inner.ensures.inner (rw (c.line-line.ensures, c.in_ok-keyword.ensures, c.in_ok-selector.ensures, c.in_ok-keyword-2.ensures, c.in_ok-parts.ensures, c.in_ok-keyword-3.ensures) refl)

pub while_statement-returns-in_err-_inner : goal.while_statement-returns-in_err-_inner
unfolding while_statement
while_statement-returns-in_err-_inner t c = handed _ _ _ c.in_err-_inner.field-0.0 c.from_residual.ensures.1 (λ n. unopened _ _ _ c.in_err-_inner.ensures.inner (one_of _ _ c.sees_word.ensures))

pub while_statement-returns-in_err-keyword : goal.while_statement-returns-in_err-keyword
unfolding while_statement
while_statement-returns-in_err-keyword t c = handed _ _ _ c.in_err-keyword.field-0.0 c.from_residual-in_err-keyword.ensures.1 (λ n. opened _ _ _ c.in_ok-_inner.ensures.inner (rw (c.in_err-keyword.ensures n) refl))

pub while_statement-returns-in_err-condition : goal.while_statement-returns-in_err-condition
unfolding while_statement
while_statement-returns-in_err-condition t c = handed _ _ _ c.in_err-condition.field-0.0 c.from_residual-in_err-condition.ensures.1 (λ n. opened _ _ _ c.in_ok-_inner.ensures.inner (rw (c.in_ok-keyword.ensures, c.in_err-condition.ensures n) refl))

pub while_statement-returns-in_err-keyword-2 : goal.while_statement-returns-in_err-keyword-2
unfolding while_statement
while_statement-returns-in_err-keyword-2 t c = handed _ _ _ c.in_err-keyword-2.field-0.0 c.from_residual-in_err-keyword-2.ensures.1 (λ n. opened _ _ _ c.in_ok-_inner.ensures.inner (rw (c.in_ok-keyword.ensures, c.in_ok-condition.ensures, c.in_err-keyword-2.ensures n) refl))

pub while_statement-returns-in_err-body : goal.while_statement-returns-in_err-body
unfolding while_statement
while_statement-returns-in_err-body t c = handed _ _ _ c.in_err-body.field-0.0 c.from_residual-in_err-body.ensures.1 (λ n. opened _ _ _ c.in_ok-_inner.ensures.inner (rw (c.in_ok-keyword.ensures, c.in_ok-condition.ensures, c.in_ok-keyword-2.ensures, c.in_err-body.ensures n) refl))

pub while_statement-returns : goal.while_statement-returns
unfolding while_statement
while_statement-returns t c = opened _ _ _ c.in_ok-_inner.ensures.inner (rw (c.line-line.ensures, c.in_ok-keyword.ensures, c.in_ok-condition.ensures, c.in_ok-keyword-2.ensures, c.in_ok-body.ensures) refl)

pub repeat_statement-returns-in_err-_inner : goal.repeat_statement-returns-in_err-_inner
unfolding repeat_statement
repeat_statement-returns-in_err-_inner t c = handed _ _ _ c.in_err-_inner.field-0.0 c.from_residual.ensures.1 (λ n. unopened _ _ _ c.in_err-_inner.ensures.inner (one_of _ _ c.sees_word.ensures))

pub repeat_statement-returns-in_err-keyword : goal.repeat_statement-returns-in_err-keyword
unfolding repeat_statement
repeat_statement-returns-in_err-keyword t c = handed _ _ _ c.in_err-keyword.field-0.0 c.from_residual-in_err-keyword.ensures.1 (λ n. opened _ _ _ c.in_ok-_inner.ensures.inner (rw (c.in_err-keyword.ensures n) refl))

pub repeat_statement-returns-in_err-statements : goal.repeat_statement-returns-in_err-statements
unfolding repeat_statement
repeat_statement-returns-in_err-statements t c = handed _ _ _ c.in_err-statements.field-0.0 c.from_residual-in_err-statements.ensures.1 (λ n. opened _ _ _ c.in_ok-_inner.ensures.inner (rw (c.in_ok-keyword.ensures, c.in_err-statements.ensures n) refl))

pub repeat_statement-returns-in_err-keyword-2 : goal.repeat_statement-returns-in_err-keyword-2
unfolding repeat_statement
repeat_statement-returns-in_err-keyword-2 t c = handed _ _ _ c.in_err-keyword-2.field-0.0 c.from_residual-in_err-keyword-2.ensures.1 (λ n. opened _ _ _ c.in_ok-_inner.ensures.inner (rw (c.in_ok-keyword.ensures, c.in_ok-statements.ensures, c.in_err-keyword-2.ensures n) refl))

pub repeat_statement-returns-in_err-condition : goal.repeat_statement-returns-in_err-condition
unfolding repeat_statement
repeat_statement-returns-in_err-condition t c = handed _ _ _ c.in_err-condition.field-0.0 c.from_residual-in_err-condition.ensures.1 (λ n. opened _ _ _ c.in_ok-_inner.ensures.inner (rw (c.in_ok-keyword.ensures, c.in_ok-statements.ensures, c.in_ok-keyword-2.ensures, c.in_err-condition.ensures n) refl))

pub repeat_statement-returns : goal.repeat_statement-returns
unfolding repeat_statement
repeat_statement-returns t c = opened _ _ _ c.in_ok-_inner.ensures.inner (rw (c.line-line.ensures, c.in_ok-keyword.ensures, c.in_ok-statements.ensures, c.in_ok-keyword-2.ensures, c.in_ok-condition.ensures) refl)

pub for_statement-returns-in_err-_inner : goal.for_statement-returns-in_err-_inner
unfolding for_statement
for_statement-returns-in_err-_inner t c = handed _ _ _ c.in_err-_inner.field-0.0 c.from_residual.ensures.1 (λ n. unopened _ _ _ c.in_err-_inner.ensures.inner (one_of _ _ c.sees_word.ensures))

pub for_statement-returns-in_err-keyword : goal.for_statement-returns-in_err-keyword
unfolding for_statement
for_statement-returns-in_err-keyword t c = handed _ _ _ c.in_err-keyword.field-0.0 c.from_residual-in_err-keyword.ensures.1 (λ n. opened _ _ _ c.in_ok-_inner.ensures.inner (rw (← c.line-line.ensures, c.in_err-keyword.ensures n) refl))

pub for_statement-returns-in_err-name : goal.for_statement-returns-in_err-name
unfolding for_statement
for_statement-returns-in_err-name t c = handed _ _ _ c.in_err-name.field-0.0 c.from_residual-in_err-name.ensures.1 (λ n. opened _ _ _ c.in_ok-_inner.ensures.inner (rw (← c.line-line.ensures, c.in_ok-keyword.ensures, c.in_err-name.ensures n) refl))

pub for_statement-returns-in_err-statement : goal.for_statement-returns-in_err-statement
unfolding for_statement
for_statement-returns-in_err-statement t c = handed _ _ _ c.in_err-statement.field-0.0 c.from_residual-in_err-statement.ensures.1 (λ n. opened _ _ _ c.in_ok-_inner.ensures.inner (rw (← c.line-line.ensures, c.in_ok-keyword.ensures, c.in_ok-name.ensures, c.in_err-statement.ensures n) refl))

pub for_statement-returns : goal.for_statement-returns
unfolding for_statement
for_statement-returns t c = opened _ _ _ c.in_ok-_inner.ensures.inner (rw (← c.line-line.ensures, c.in_ok-keyword.ensures, c.in_ok-name.ensures, c.in_ok-statement.ensures) refl)

pub with_statement-returns-in_err-_inner : goal.with_statement-returns-in_err-_inner
unfolding with_statement
with_statement-returns-in_err-_inner t c = handed _ _ _ c.in_err-_inner.field-0.0 c.from_residual.ensures.1 (λ n. unopened _ _ _ c.in_err-_inner.ensures.inner (one_of _ _ c.sees_word.ensures))

pub with_statement-returns-in_err-keyword : goal.with_statement-returns-in_err-keyword
unfolding with_statement
with_statement-returns-in_err-keyword t c = handed _ _ _ c.in_err-keyword.field-0.0 c.from_residual-in_err-keyword.ensures.1 (λ n. opened _ _ _ c.in_ok-_inner.ensures.inner (rw (c.in_err-keyword.ensures n) refl))

pub with_statement-returns-in_err-accesses : goal.with_statement-returns-in_err-accesses
unfolding with_statement
with_statement-returns-in_err-accesses t c = handed _ _ _ c.in_err-accesses.field-0.0 c.from_residual-in_err-accesses.ensures.1 (λ n. opened _ _ _ c.in_ok-_inner.ensures.inner (rw (c.in_ok-keyword.ensures, c.in_err-accesses.ensures n) refl))

pub with_statement-returns-in_err-keyword-2 : goal.with_statement-returns-in_err-keyword-2
unfolding with_statement
with_statement-returns-in_err-keyword-2 t c = handed _ _ _ c.in_err-keyword-2.field-0.0 c.from_residual-in_err-keyword-2.ensures.1 (λ n. opened _ _ _ c.in_ok-_inner.ensures.inner (rw (c.in_ok-keyword.ensures, c.in_ok-accesses.ensures, c.in_err-keyword-2.ensures n) refl))

pub with_statement-returns-in_err-body : goal.with_statement-returns-in_err-body
unfolding with_statement
with_statement-returns-in_err-body t c = handed _ _ _ c.in_err-body.field-0.0 c.from_residual-in_err-body.ensures.1 (λ n. opened _ _ _ c.in_ok-_inner.ensures.inner (rw (c.in_ok-keyword.ensures, c.in_ok-accesses.ensures, c.in_ok-keyword-2.ensures, c.in_err-body.ensures n) refl))

pub with_statement-returns : goal.with_statement-returns
unfolding with_statement
with_statement-returns t c = opened _ _ _ c.in_ok-_inner.ensures.inner (rw (c.line-line.ensures, c.in_ok-keyword.ensures, c.in_ok-accesses.ensures, c.in_ok-keyword-2.ensures, c.in_ok-body.ensures) refl)

pub for_range-returns-in_err-symbol : goal.for_range-returns-in_err-symbol
unfolding for_range
for_range-returns-in_err-symbol t c = handed _ _ _ c.in_err-symbol.field-0.0 c.from_residual.ensures.1 (λ n. rw (c.in_err-symbol.ensures n) refl)

pub for_range-returns-in_err-from : goal.for_range-returns-in_err-from
unfolding for_range
for_range-returns-in_err-from t c = handed _ _ _ c.in_err-from.field-0.0 c.from_residual-in_err-from.ensures.1 (λ n. rw (c.in_ok-symbol.ensures, c.in_err-from.ensures n) refl)

pub for_range-returns-in_err-direction : goal.for_range-returns-in_err-direction
unfolding for_range
for_range-returns-in_err-direction t c = handed _ _ _ c.in_err-direction.field-0.0 c.from_residual-in_err-direction.ensures.1 (λ n. rw (c.in_ok-symbol.ensures, c.in_ok-from.ensures, c.in_err-direction.ensures n) refl)

pub for_range-returns-in_err-to : goal.for_range-returns-in_err-to
unfolding for_range
for_range-returns-in_err-to t c = handed _ _ _ c.in_err-to.field-0.0 c.from_residual-in_err-to.ensures.1 (λ n. rw (c.in_ok-symbol.ensures, c.in_ok-from.ensures, c.in_ok-direction.ensures, c.in_err-to.ensures n) refl)

pub for_range-returns-in_err-keyword : goal.for_range-returns-in_err-keyword
unfolding for_range
for_range-returns-in_err-keyword t c = handed _ _ _ c.in_err-keyword.field-0.0 c.from_residual-in_err-keyword.ensures.1 (λ n. rw (c.in_ok-symbol.ensures, c.in_ok-from.ensures, c.in_ok-direction.ensures, c.in_ok-to.ensures, c.in_err-keyword.ensures n) refl)

pub for_range-returns-in_err-body : goal.for_range-returns-in_err-body
unfolding for_range
for_range-returns-in_err-body t c = handed _ _ _ c.in_err-body.field-0.0 c.from_residual-in_err-body.ensures.1 (λ n. rw (c.in_ok-symbol.ensures, c.in_ok-from.ensures, c.in_ok-direction.ensures, c.in_ok-to.ensures, c.in_ok-keyword.ensures, c.in_err-body.ensures n) refl)

pub for_range-returns : goal.for_range-returns
unfolding for_range
for_range-returns t c = rw (c.in_ok-symbol.ensures, c.in_ok-from.ensures, c.in_ok-direction.ensures, c.in_ok-to.ensures, c.in_ok-keyword.ensures, c.in_ok-body.ensures) refl

pub for_members-returns-in_err-keyword : goal.for_members-returns-in_err-keyword
unfolding for_members
for_members-returns-in_err-keyword t c = handed _ _ _ c.in_err-keyword.field-0.0 c.from_residual.ensures.1 (λ n. rw (c.in_err-keyword.ensures n) refl)

pub for_members-returns-in_err-members : goal.for_members-returns-in_err-members
unfolding for_members
for_members-returns-in_err-members t c = handed _ _ _ c.in_err-members.field-0.0 c.from_residual-in_err-members.ensures.1 (λ n. rw (c.in_ok-keyword.ensures, c.in_err-members.ensures n) refl)

pub for_members-returns-in_err-keyword-2 : goal.for_members-returns-in_err-keyword-2
unfolding for_members
for_members-returns-in_err-keyword-2 t c = handed _ _ _ c.in_err-keyword-2.field-0.0 c.from_residual-in_err-keyword-2.ensures.1 (λ n. rw (c.in_ok-keyword.ensures, c.in_ok-members.ensures, c.in_err-keyword-2.ensures n) refl)

pub for_members-returns-in_err-body : goal.for_members-returns-in_err-body
unfolding for_members
for_members-returns-in_err-body t c = handed _ _ _ c.in_err-body.field-0.0 c.from_residual-in_err-body.ensures.1 (λ n. rw (c.in_ok-keyword.ensures, c.in_ok-members.ensures, c.in_ok-keyword-2.ensures, c.in_err-body.ensures n) refl)

pub for_members-returns : goal.for_members-returns
unfolding for_members
for_members-returns t c = rw (c.in_ok-keyword.ensures, c.in_ok-members.ensures, c.in_ok-keyword-2.ensures, c.in_ok-body.ensures) refl
