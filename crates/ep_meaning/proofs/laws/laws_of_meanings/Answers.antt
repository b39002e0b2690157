use Rattle.ep_meaning.proofs.public.Lasting.{meanings_last}
use Rattle.ep_meaning.proofs.laws.laws_of_meanings.Goals as goal

pub returns : goal.returns
returns c = meanings_last
