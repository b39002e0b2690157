use Rattle.ep_compose.proofs.Composed.{linked_implement, linked_spend, linked_tell_at_end}
use Rattle.ep_compose.proofs.laws.laws_of_composition.Goals as goal

pub returns : goal.returns
returns c = record { linked = linked_implement; at_end = linked_tell_at_end; spend = linked_spend }
