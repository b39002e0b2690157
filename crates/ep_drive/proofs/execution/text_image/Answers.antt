use Rattle.ep_drive.proofs.execution.text_image.Goals as goal

pub returns : goal.returns
returns c = record { unit = c.in_ok-unit.unit; program = c.in_ok-unit.ensures.program; implements = c.in_ok-image.ensures }
