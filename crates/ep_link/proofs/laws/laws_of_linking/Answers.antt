use Rattle.ep_link.proofs.public.Linked.{linked_stand, linked_distinct, linked_units}
use Rattle.ep_link.proofs.laws.laws_of_linking.Goals as goal

pub returns-clause-stand : goal.returns-clause-stand
returns-clause-stand c = linked_stand

pub returns-clause-distinct : goal.returns-clause-distinct
returns-clause-distinct c = linked_distinct

pub returns-clause-units : goal.returns-clause-units
returns-clause-units c = linked_units
