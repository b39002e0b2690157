use Rattle.ep_grammar.proofs.public.Refusal.{stop_refused, left_refused}
use Rattle.ep_grammar.proofs.laws.laws_of_refusals.Goals as goal

pub returns-clause-stop : goal.returns-clause-stop
returns-clause-stop c = stop_refused

pub returns-clause-left : goal.returns-clause-left
returns-clause-left c = left_refused
