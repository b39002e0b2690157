use Rattle.std.proofs.Common.{Option, of_calls, subst, sym, ap, refl, ◌≡◌, ◌∙◌, rules, arith}
use Rattle.std.proofs.lemmas.Grind.{common_steps}
use Rattle.ep_token.specs.declared.symbol.TheConstants as symbols
use Rattle.ep_grammar.specs.Classes.{adding_operators, classes, multiplying_operators}
use Rattle.ep_grammar.specs.Descriptions.{item, item_or_end}
use Rattle.ep_grammar.specs.Expressions.{addend, addends, argument, argument_selector, arguments, bracket_labels, element, expression, index_selector, index_tail, inner_expressions, inner_labels, label_of, labels, members, more_elements_of, multiplier, multipliers, of_element, of_selector, on, selector, selectors, value_labels}
use Rattle.ep_grammar.specs.Reading.{Inside, Reads, applied, read}
use Rattle.ep_grammar.specs.Rules.{inside_at, inside_with}
use Rattle.ep_reader.specs.Rows.{many_by}
use Rattle.ep_reader.proofs.public.Levels.{handed, opened}
use Rattle.ep_reader.proofs.public.Onto.{onto}
use Rattle.ep_parse_expr.specs.Called.{ReadsRest}
use Rattle.ep_parse_expr.proofs.Rests.{bracket_indexes, bracket_neither, bracket_refused, bracket_values, bracket_values_refused, handed_rest, labelled_ok, labelled_refused, labelled_unended, labels_inside, value_ok, value_refused}
use Rattle.ep_parse_expr.proofs.+expression.Goals as goal

pub expressions::labels-returns : goal.expressions::labels-returns
unfolding labels
expressions::labels-returns t c = c.separated.ensures (read (inside_at c.args.room) (label_of expression)) (λ i j r called. search of_calls)

pub selectors::indexes-returns : goal.selectors::indexes-returns
unfolding inner_expressions
selectors::indexes-returns t c = c.separated.ensures (read (inside_at c.args.inner) expression) (λ i j r called. search of_calls)

pub selectors::arguments-returns : goal.selectors::arguments-returns
unfolding arguments
selectors::arguments-returns t c = c.separated.ensures (read (inside_with c.args.inner) argument) (λ i j r called. search of_calls)

pub expressions::multipliers-returns : goal.expressions::multipliers-returns
unfolding multipliers
expressions::multipliers-returns t c =
    subst (λ w. Reads (many_by (classes multiplying_operators) (read (inside_at c.args.room) multiplier) w c.args.reader.now) c.many.result c.many.new.reader) c.new-none.ensures
    (c.many.ensures (classes multiplying_operators) (read (inside_at c.args.room) multiplier) (λ i j r called. search of_calls))

pub expressions::addends-returns : goal.expressions::addends-returns
unfolding addends
expressions::addends-returns t c =
    subst (λ w. Reads (many_by (classes adding_operators) (read (inside_at c.args.room) addend) w c.args.reader.now) c.many.result c.many.new.reader) c.new-none.ensures
    (c.many.ensures (classes adding_operators) (read (inside_at c.args.room) addend) (λ i j r called. search of_calls))

pub selectors::selectors-returns : goal.selectors::selectors-returns
unfolding selectors
selectors::selectors-returns t c =
    onto of_selector (read (inside_at c.args.room) (item selector)) (tt {0}) c.args.before c.args.reader.now c.many.result c.many.new.reader
    (c.many.ensures of_selector (read (inside_at c.args.room) selector) (λ i j r called. search of_calls))

pub elements::more_elements-returns : goal.elements::more_elements-returns
unfolding more_elements_of
elements::more_elements-returns t c =
    onto (on symbols.SEMICOLON) (read (inside_at c.args.room) (item_or_end of_element element)) (tt {0}) c.args.before c.args.reader.now c.closed.result c.closed.new.reader
    (c.closed.ensures of_element (read (inside_at c.args.room) element) (λ i j r called. search of_calls))

pub expressions::multipliers-many-returns-in_err-factor : goal.expressions::multipliers-many-returns-in_err-factor
unfolding multiplier
expressions::multipliers-many-returns-in_err-factor t c = first_of (search rules, grind (arith, common_steps))

pub expressions::multipliers-many-returns : goal.expressions::multipliers-many-returns
unfolding multiplier
expressions::multipliers-many-returns t c = first_of (search rules, grind (arith, common_steps))

pub expressions::addends-many-returns-in_err-term : goal.expressions::addends-many-returns-in_err-term
unfolding addend
expressions::addends-many-returns-in_err-term t c = first_of (search rules, grind (arith, common_steps))

pub expressions::addends-many-returns : goal.expressions::addends-many-returns
unfolding addend
expressions::addends-many-returns t c = first_of (search rules, grind (arith, common_steps))

pub selectors::index_selector-returns : goal.selectors::index_selector-returns
unfolding index_selector
selectors::index_selector-returns t c =
    let found = ap (λ (w : Option Inside). read w inner_expressions c.symbol.new.self) c.in_ok-inner.ensures.inner ∙ c.in_ok-found.ensures in
    opened _ _ _ c.in_ok-inner.ensures.inner (rw (c.line-line.ensures, c.in_ok-symbol.ensures, found, c.in_ok-symbol-2.ensures) refl)

pub selectors::argument_selector-returns : goal.selectors::argument_selector-returns
unfolding argument_selector
selectors::argument_selector-returns t c =
    let found = ap (λ (w : Option Inside). read w arguments c.symbol.new.self) c.in_ok-inner.ensures.inner ∙ c.in_ok-found.ensures in
    opened _ _ _ c.in_ok-inner.ensures.inner (rw (c.line-line.ensures, c.in_ok-symbol.ensures, found, c.in_ok-symbol-2.ensures) refl)

pub factors::members-returns : goal.factors::members-returns
unfolding members
factors::members-returns t c =
    let found = ap (λ (w : Option Inside). read w inner_labels c.args.reader.now) c.in_ok-inner.ensures.inner ∙ labels_inside c.in_ok-inner.inner c.args.reader.now ∙ c.in_ok-found.ensures in
    opened _ _ _ c.in_ok-inner.ensures.inner (rw (found, c.in_ok-symbol.ensures) refl)

pub elements::labelled_values-returns-in_err-values : goal.elements::labelled_values-returns-in_err-values
elements::labelled_values-returns-in_err-values t c = handed _ _ _ c.in_err-values.field-0.0 c.from_residual-in_err-values.ensures.1 (λ n. labelled_refused c.args.inner c.args.start c.args.labels _ c.in_ok-symbol.ensures c.in_ok-value.ensures c.in_ok-first.ensures c.in_ok-push.ensures.ok (c.in_err-values.ensures n))

pub elements::labelled_values-returns-in_err-symbol-2 : goal.elements::labelled_values-returns-in_err-symbol-2
elements::labelled_values-returns-in_err-symbol-2 t c = handed _ _ _ c.in_err-symbol-2.field-0.0 c.from_residual-in_err-symbol-2.ensures.1 (λ n. labelled_unended c.args.inner c.args.start c.args.labels _ c.in_ok-symbol.ensures c.in_ok-value.ensures c.in_ok-first.ensures c.in_ok-push.ensures.ok c.in_ok-values.ensures (c.in_err-symbol-2.ensures n))

pub elements::labelled_values-returns : goal.elements::labelled_values-returns
elements::labelled_values-returns t c = labelled_ok c.args.inner c.args.start c.args.labels _ c.in_ok-symbol.ensures c.in_ok-value.ensures c.in_ok-first.ensures c.in_ok-push.ensures.ok c.in_ok-values.ensures c.in_ok-symbol-2.ensures

pub component_values::value_labels-returns-in_err-values : goal.component_values::value_labels-returns-in_err-values
component_values::value_labels-returns-in_err-values t c = handed _ _ _ c.in_err-values.field-0.0 c.from_residual-in_err-values.ensures.1 (λ n. rw c.requires.inside (value_refused c.args.inner c.args.bracket _ c.line-start.ensures c.in_ok-labels.ensures c.if-sees_symbol.ensures (c.in_err-values.ensures n)))

pub component_values::value_labels-returns : goal.component_values::value_labels-returns
component_values::value_labels-returns t c = rw c.requires.inside (value_ok c.args.inner c.args.bracket _ c.line-start.ensures c.in_ok-labels.ensures c.if-sees_symbol.ensures c.in_ok-values.ensures)

pub brackets::bracket_labels-returns-in_err-labels : goal.brackets::bracket_labels-returns-in_err-labels
brackets::bracket_labels-returns-in_err-labels t c = handed_rest _ _ _ _ c.in_err-labels.field-0.0 c.from_residual.ensures.1 (λ n. rw c.requires.inside (bracket_refused c.args.inner c.args.bracket _ (c.in_err-labels.ensures n)))

pub brackets::bracket_labels-returns-in_err-values : goal.brackets::bracket_labels-returns-in_err-values
brackets::bracket_labels-returns-in_err-values t c = handed_rest _ _ _ _ c.in_err-values.field-0.0 c.from_residual-in_err-values.ensures.1 (λ n. rw c.requires.inside (bracket_values_refused c.args.inner c.args.bracket _ c.line-start.ensures c.in_ok-labels.ensures c.if-sees_symbol.ensures (c.in_err-values.ensures n)))

pub brackets::bracket_labels-returns-then-sees_symbol : goal.brackets::bracket_labels-returns-then-sees_symbol
brackets::bracket_labels-returns-then-sees_symbol t c = (rw c.requires.inside (bracket_values c.args.inner c.args.bracket _ c.line-start.ensures c.in_ok-labels.ensures c.if-sees_symbol.ensures c.in_ok-values.ensures), refl)

pub brackets::bracket_labels-returns-in_default : goal.brackets::bracket_labels-returns-in_default
brackets::bracket_labels-returns-in_default t c n = rw c.requires.inside (bracket_neither c.args.inner c.args.bracket _ c.in_ok-labels.ensures c.if-sees_symbol.ensures (sym c.in_ok-indexes.ensures ∙ c.in_default.is))

pub brackets::bracket_labels-returns : goal.brackets::bracket_labels-returns
brackets::bracket_labels-returns t c =
    let same = bracket_indexes c.args.inner c.args.bracket c.args.reader.now c.in_ok-labels.ensures c.if-sees_symbol.ensures (sym c.in_ok-indexes.ensures ∙ c.in-Some.is) in
    let here : applied (λ r. r c.args.bracket) (read (inside_at c.args.room) bracket_labels c.args.reader.now) ≡ applied (λ r. r c.in-Some.indexes c.args.bracket) (read (inside_at c.args.room) index_tail c.labels.new.reader) = rw c.requires.inside same in
    subst (λ o. ReadsRest c.args.before o c.index_tail.result c.index_tail.new.reader) (sym here) c.index_tail.ensures
