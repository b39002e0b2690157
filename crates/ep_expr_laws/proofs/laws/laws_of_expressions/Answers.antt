use Rattle.ep_expr_laws.proofs.Lawful.{variables_are_sound, accesses_are_sound, arguments_are_sound, expressions_are_sound, values_are_sound, constants_are_sound, bounds_are_sound, labels_are_sound, initial_states_are_sound, expressions_are_known, constants_are_known, bounds_are_known}
use Rattle.ep_expr_laws.proofs.laws.laws_of_expressions.Goals as goal

pub returns-clause-expressions : goal.returns-clause-expressions
returns-clause-expressions c = expressions_are_sound

pub returns-clause-accesses : goal.returns-clause-accesses
returns-clause-accesses c = accesses_are_sound

pub returns-clause-variables : goal.returns-clause-variables
returns-clause-variables c = variables_are_sound

pub returns-clause-arguments : goal.returns-clause-arguments
returns-clause-arguments c = arguments_are_sound

pub returns-clause-values : goal.returns-clause-values
returns-clause-values c = values_are_sound

pub returns-clause-constants : goal.returns-clause-constants
returns-clause-constants c = constants_are_sound

pub returns-clause-bounds : goal.returns-clause-bounds
returns-clause-bounds c = bounds_are_sound

pub returns-clause-labels : goal.returns-clause-labels
returns-clause-labels c = labels_are_sound

pub returns-clause-initial_states : goal.returns-clause-initial_states
returns-clause-initial_states c = initial_states_are_sound

pub returns-clause-hosts : goal.returns-clause-hosts
returns-clause-hosts c = expressions_are_known

pub returns-clause-constant_hosts : goal.returns-clause-constant_hosts
returns-clause-constant_hosts c = constants_are_known

pub returns-clause-bound_hosts : goal.returns-clause-bound_hosts
returns-clause-bound_hosts c = bounds_are_known
