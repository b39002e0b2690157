use Rattle.std.proofs.Common.{arith}
use Rattle.ep_drive.proofs.Placed.{placed-other}
use Rattle.ep_drive.proofs.image.placed_instr.Goals as goal

pub returns-in_default-2 : goal.returns-in_default-2
returns-in_default-2 c =
    placed-other c.args.object.now c.args.instr (λ e. absurd (omega arith)) (λ e. absurd (omega arith)) (λ e. absurd (omega arith)) (λ e. absurd (omega arith)) (λ e. absurd (omega arith)) (λ e. absurd (omega arith))
