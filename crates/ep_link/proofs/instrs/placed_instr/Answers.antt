use Rattle.std.proofs.Common.{arith}
use Rattle.ep_link.proofs.Others.{placed-other}
use Rattle.ep_link.proofs.instrs.placed_instr.Goals as goal

pub returns-in_default-2 : goal.returns-in_default-2
returns-in_default-2 c =
    placed-other c.args.placement.now c.args.targets.now c.args.instr
    (λ e. absurd (omega arith)) (λ e. absurd (omega arith)) (λ e. absurd (omega arith))
    (λ e. absurd (omega arith)) (λ e. absurd (omega arith)) (λ e. absurd (omega arith))
