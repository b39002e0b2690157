use Rattle.ep_typed.proofs.public.Denoters.{types_are_instances, instances_are_one}
use Rattle.ep_typed.proofs.laws.laws_of_denoters.Goals as goal

pub returns-clause-found : goal.returns-clause-found
returns-clause-found c = types_are_instances

pub returns-clause-one : goal.returns-clause-one
returns-clause-one c = instances_are_one
