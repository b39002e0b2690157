use Rattle.ep_simulation.proofs.public.following.Promising.{calls_answer}
use Rattle.ep_simulation.proofs.laws.laws_of_calls.Goals as goal

pub returns : goal.returns
returns c = record { calls = calls_answer }
