use Rattle.ep_object.proofs.public.Views.{runs_agree, runs_extend, ends_stay, events_grow}
use Rattle.ep_object.proofs.Ticks.{ends_exactly}
use Rattle.ep_object.proofs.laws.laws_of_runs.Goals as goal

pub returns-clause-agree : goal.returns-clause-agree
returns-clause-agree c = runs_agree

pub returns-clause-extend : goal.returns-clause-extend
returns-clause-extend c = runs_extend

pub returns-clause-stay : goal.returns-clause-stay
returns-clause-stay c = ends_stay

pub returns-clause-grow : goal.returns-clause-grow
returns-clause-grow c = events_grow

pub returns-clause-exact : goal.returns-clause-exact
returns-clause-exact c = ends_exactly
