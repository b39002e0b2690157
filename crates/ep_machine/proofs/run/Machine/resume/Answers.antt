use Rattle.std.proofs.Common.{◌+◌, refl, arith}
use Rattle.ep_machine.specs.Views.{state_at}
use Rattle.ep_machine.proofs.Ends.{faults_again}
use Rattle.ep_machine.proofs.Rounds.{stays_ended, fails_again}
use Rattle.ep_machine.proofs.run.Machine.resume.Goals as goal

pub returns-in_default : goal.returns-in_default
returns-in_default g c =
    record {
      exact = stays_ended c.args.self.now.code.image.now (c.args.self.now.state.ticks + c.args.budget) c.args.self.now.state.ticks (state_at c.args.self.now.state) c.args.self.now.ended (g.O.Sink.held c.args.output.now) c.in_default.not-Budget;
      failed = fails_again c.args.self.now.code.image.now (c.args.self.now.state.ticks + c.args.budget) c.args.self.now.state.ticks (state_at c.args.self.now.state) c.args.self.now.ended (g.O.Sink.held c.args.output.now) (λ trace. refl);
      image = refl;
      within = omega arith;
      counts = omega arith;
      fault = faults_again c.args.self.now.ended _;
      again = λ not. (refl, refl, refl);
    }
