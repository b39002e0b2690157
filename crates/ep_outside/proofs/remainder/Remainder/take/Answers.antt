use Rattle.std.proofs.Common.{arith, drop}
use Rattle.std.proofs.lemmas.Grind.{common_steps}
use Rattle.ep_outside.proofs.Taken.{taken_front}
use Rattle.ep_outside.proofs.remainder.Remainder.take.Goals as goal

pub returns-clause-taken : goal.returns-clause-taken
returns-clause-taken c = taken_front c.args.self.now.held c.args.self.now.place c.min-count.result c.copy_from_slice.new.self (drop c.min-count.result c.args.into.now) (grind (arith, common_steps)) (grind (arith, common_steps))
