use Rattle.ep_simulation.proofs.public.following.Simulating.{simulation_answers}
use Rattle.ep_simulation.proofs.laws.laws_of_simulations.Goals as goal

pub returns : goal.returns
returns c = record {
  procedures = λ layout G unit routine n c simulates injection memory below s k enters steps le. simulation_answers simulates injection memory below s k enters steps le;
  functions = λ layout G unit routine n kind c simulates injection memory below s k enters steps le. simulation_answers simulates injection memory below s k enters steps le;
}
