use Rattle.std.proofs.Common.{◌+◌, [], refl, subst}
use Rattle.ep_object.specs.Runs.{run_to, trace_of}
use Rattle.ep_values.specs.Events.{DoesFront}
use Rattle.ep_machine.specs.Answers.{Answers, OnNoMemoryEnd, outside}
use Rattle.ep_machine.specs.Machines.{standing}
use Rattle.ep_machine.specs.Views.{state_at}
use Rattle.ep_machine.specs.declared.end.Ended.{Ended}
use Rattle.ep_machine.proofs.Ends.{runs_to, answer_exact, answer_part, answer_whole, answer_fault, ended_trace}
use Rattle.ep_machine.proofs.Runs.{unless_then}
use Rattle.ep_machine.proofs.run.Machine.run.Goals as goal

pub returns-in-NoMemory-clause-whole : goal.returns-in-NoMemory-clause-whole
returns-in-NoMemory-clause-whole g c =
    let whole : OnNoMemoryEnd c.answer.result (DoesFront (trace_of (run_to c.args.self.now.code.image.now (c.args.self.now.state.ticks + c.args.budget) (standing c.args.self.now [])).going) (outside (g.O.Sink.held c.args.output.now) (g.F.Files.files c.args.files.now)) (outside (g.O.Sink.held c.resume.new.output) (g.F.Files.files c.args.files.now))) = answer_whole c.args.self.now.code.image.now (c.args.self.now.state.ticks + c.args.budget) (standing c.args.self.now) (standing c.resume.new.self) (g.O.Sink.held c.args.output.now) (g.O.Sink.held c.resume.new.output) (g.F.Files.files c.args.files.now) c.resume.new.self.ended c.answer.result (λ trace. ended_trace c.resume.new.self.code.image.now c.resume.new.self.ended (state_at c.resume.new.self.state trace)) c.answer.ensures.answers c.resume.ensures.failed c.resume.ensures.exact in
    rw c.in-NoMemory.is at whole

pub returns-in_default : goal.returns-in_default
returns-in_default g c =
    record {
      exact = answer_exact _ c.resume.new.self.ended c.answer.result c.answer.ensures.answers (unless_then c.resume.new.self.ended (runs_to c.args.self.now.code.image.now (c.args.self.now.state.ticks + c.args.budget) (standing c.args.self.now) (standing c.resume.new.self) (g.O.Sink.held c.args.output.now) (g.O.Sink.held c.resume.new.output) (g.F.Files.files c.args.files.now)) c.resume.ensures.exact);
      part = answer_part c.args.self.now.code.image.now (c.args.self.now.state.ticks + c.args.budget) (standing c.args.self.now) (g.O.Sink.held c.args.output.now) (g.O.Sink.held c.resume.new.output) (g.F.Files.files c.args.files.now) c.resume.new.self.ended c.answer.result c.answer.ensures.answers c.resume.ensures.failed;
      whole = answer_whole c.args.self.now.code.image.now (c.args.self.now.state.ticks + c.args.budget) (standing c.args.self.now) (standing c.resume.new.self) (g.O.Sink.held c.args.output.now) (g.O.Sink.held c.resume.new.output) (g.F.Files.files c.args.files.now) c.resume.new.self.ended c.answer.result (λ trace. ended_trace c.resume.new.self.code.image.now c.resume.new.self.ended (state_at c.resume.new.self.state trace)) c.answer.ensures.answers c.resume.ensures.failed c.resume.ensures.exact;
      end = λ trace. c.answer.ensures.end (state_at c.resume.new.self.state trace);
      image = c.resume.ensures.image;
      within = c.resume.ensures.within;
      counts = c.resume.ensures.counts;
      fault = answer_fault _ c.resume.new.self.ended c.answer.result c.answer.ensures.answers c.resume.ensures.fault;
      again =
          λ not.
          let same = c.resume.ensures.again not in
          let P : Ended → Type 0 = λ e. Answers e c.answer.result in (subst P same.0 c.answer.ensures.answers, same.1, same.2);
      files = refl;
      input = refl;
    }
