use Rattle.ep_drive.proofs.Executing.{implements}
use Rattle.ep_drive.proofs.Refused.{if_ok}
use Rattle.ep_drive.proofs.execution.unit_image.Goals as goal

pub returns : goal.returns
returns c = if_ok c.image_alone.result _ _ c.image_alone.ensures (λ image is. implements c.args.unit.now c.in_ok-object.object image c.in_ok-object.ensures.code c.requires is)
