use Rattle.ep_drive.proofs.Verdicts.{one_verdict}
use Rattle.ep_drive.proofs.laws.laws_of_verdicts.Goals as goal

pub returns : goal.returns
returns c = one_verdict
