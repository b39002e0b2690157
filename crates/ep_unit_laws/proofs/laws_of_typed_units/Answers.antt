use Rattle.ep_unit_laws.proofs.Units.{units_valid}
use Rattle.ep_unit_laws.proofs.laws_of_typed_units.Goals as goal

pub returns : goal.returns
returns c =
    let laws = c.laws_of_expressions.ensures in
    units_valid c.laws_of_statements.ensures laws.constants laws.bounds laws.constant_hosts laws.bound_hosts laws.initial_states
