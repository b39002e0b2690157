use Rattle.std.proofs.Common.{◌+◌, ◌*◌}
use Rattle.ep_parse_expr.proofs.+expression.Given as goal

abbrev pub decreases-brackets::bracket : goal.decreases-brackets::bracket
decreases-brackets::bracket l = 100 * l.room + 7

abbrev pub decreases-brackets::bracket_labels : goal.decreases-brackets::bracket_labels
decreases-brackets::bracket_labels l = 100 * l.room + 6

abbrev pub decreases-brackets::called_rest : goal.decreases-brackets::called_rest
decreases-brackets::called_rest l = 100 * l.room + 8

abbrev pub decreases-brackets::index_tail : goal.decreases-brackets::index_tail
decreases-brackets::index_tail l = 100 * l.room + 5

abbrev pub decreases-component_values::bracketed_value : goal.decreases-component_values::bracketed_value
decreases-component_values::bracketed_value l = 100 * l.room + 22

abbrev pub decreases-component_values::component_value : goal.decreases-component_values::component_value
decreases-component_values::component_value l = 100 * l.room + 23

abbrev pub decreases-component_values::set_expression : goal.decreases-component_values::set_expression
decreases-component_values::set_expression l = 100 * l.room + 19

abbrev pub decreases-component_values::value_content : goal.decreases-component_values::value_content
decreases-component_values::value_content l = 100 * l.room + 21

abbrev pub decreases-component_values::value_labels : goal.decreases-component_values::value_labels
decreases-component_values::value_labels l = 100 * l.room + 20

abbrev pub decreases-elements::case_element : goal.decreases-elements::case_element
decreases-elements::case_element l = 100 * l.room + 22

abbrev pub decreases-elements::case_tagged : goal.decreases-elements::case_tagged
decreases-elements::case_tagged l = 100 * l.room + 20

abbrev pub decreases-elements::case_tail : goal.decreases-elements::case_tail
decreases-elements::case_tail l = 100 * l.room + 21

abbrev pub decreases-elements::case_values : goal.decreases-elements::case_values
decreases-elements::case_values l = 100 * l.room + 2

abbrev pub decreases-elements::element : goal.decreases-elements::element
decreases-elements::element l = 100 * l.room + 25

abbrev pub decreases-elements::filled_values : goal.decreases-elements::filled_values
decreases-elements::filled_values l = 100 * l.room + 1

abbrev pub decreases-elements::labelled_element : goal.decreases-elements::labelled_element
decreases-elements::labelled_element l = 100 * l.room + 24

abbrev pub decreases-elements::labelled_values : goal.decreases-elements::labelled_values
decreases-elements::labelled_values l = 100 * l.inner + 30

abbrev pub decreases-elements::more_elements : goal.decreases-elements::more_elements
decreases-elements::more_elements l = 100 * l.room + 27

abbrev pub decreases-elements::more_elements-closed : goal.decreases-elements::more_elements-closed
decreases-elements::more_elements-closed l = 100 * l.room + 26

abbrev pub decreases-elements::otherwise : goal.decreases-elements::otherwise
decreases-elements::otherwise l = 100 * l.room + 24

abbrev pub decreases-elements::values : goal.decreases-elements::values
decreases-elements::values l = 100 * l.room + 29

abbrev pub decreases-elements::values_of : goal.decreases-elements::values_of
decreases-elements::values_of l = 100 * l.room + 28

abbrev pub decreases-expressions::addends : goal.decreases-expressions::addends
decreases-expressions::addends l = 100 * l.room + 16

abbrev pub decreases-expressions::addends-many : goal.decreases-expressions::addends-many
decreases-expressions::addends-many l = 100 * l.room + 15

abbrev pub decreases-expressions::comparison_part : goal.decreases-expressions::comparison_part
decreases-expressions::comparison_part l = 100 * l.room + 18

abbrev pub decreases-expressions::expression : goal.decreases-expressions::expression
decreases-expressions::expression l = 100 * l.room + 19

abbrev pub decreases-expressions::label : goal.decreases-expressions::label
decreases-expressions::label l = 100 * l.room + 20

abbrev pub decreases-expressions::labels : goal.decreases-expressions::labels
decreases-expressions::labels l = 100 * l.room + 22

abbrev pub decreases-expressions::labels-separated : goal.decreases-expressions::labels-separated
decreases-expressions::labels-separated l = 100 * l.room + 21

abbrev pub decreases-expressions::multipliers : goal.decreases-expressions::multipliers
decreases-expressions::multipliers l = 100 * l.room + 13

abbrev pub decreases-expressions::multipliers-many : goal.decreases-expressions::multipliers-many
decreases-expressions::multipliers-many l = 100 * l.room + 12

abbrev pub decreases-expressions::simple : goal.decreases-expressions::simple
decreases-expressions::simple l = 100 * l.room + 17

abbrev pub decreases-expressions::term : goal.decreases-expressions::term
decreases-expressions::term l = 100 * l.room + 14

abbrev pub decreases-factors::called : goal.decreases-factors::called
decreases-factors::called l = 100 * l.room + 10

abbrev pub decreases-factors::called_field : goal.decreases-factors::called_field
decreases-factors::called_field l = 100 * l.room + 9

abbrev pub decreases-factors::factor : goal.decreases-factors::factor
decreases-factors::factor l = 100 * l.room + 11

abbrev pub decreases-factors::members : goal.decreases-factors::members
decreases-factors::members l = 100 * l.room + 1

abbrev pub decreases-factors::negated : goal.decreases-factors::negated
decreases-factors::negated l = 100 * l.room + 1

abbrev pub decreases-factors::parenthesized : goal.decreases-factors::parenthesized
decreases-factors::parenthesized l = 100 * l.room + 1

abbrev pub decreases-factors::set_constructor : goal.decreases-factors::set_constructor
decreases-factors::set_constructor l = 100 * l.room + 2

abbrev pub decreases-selectors::argument : goal.decreases-selectors::argument
decreases-selectors::argument l = 100 * l.inner + 20

abbrev pub decreases-selectors::argument_selector : goal.decreases-selectors::argument_selector
decreases-selectors::argument_selector l = 100 * l.room + 1

abbrev pub decreases-selectors::arguments : goal.decreases-selectors::arguments
decreases-selectors::arguments l = 100 * l.inner + 22

abbrev pub decreases-selectors::arguments-separated : goal.decreases-selectors::arguments-separated
decreases-selectors::arguments-separated l = 100 * l.inner + 21

abbrev pub decreases-selectors::index_selector : goal.decreases-selectors::index_selector
decreases-selectors::index_selector l = 100 * l.room + 1

abbrev pub decreases-selectors::indexes : goal.decreases-selectors::indexes
decreases-selectors::indexes l = 100 * l.inner + 21

abbrev pub decreases-selectors::indexes-separated : goal.decreases-selectors::indexes-separated
decreases-selectors::indexes-separated l = 100 * l.inner + 20

abbrev pub decreases-selectors::selector : goal.decreases-selectors::selector
decreases-selectors::selector l = 100 * l.room + 2

abbrev pub decreases-selectors::selectors : goal.decreases-selectors::selectors
decreases-selectors::selectors l = 100 * l.room + 4

abbrev pub decreases-selectors::selectors-many : goal.decreases-selectors::selectors-many
decreases-selectors::selectors-many l = 100 * l.room + 3
