use Rattle.std.proofs.Common.{rules}
use Rattle.ep_machine.proofs.Outputs.{put_done, put_failed, put_refused, quiet_step}
use Rattle.ep_machine.proofs.output.put.Goals as goal

pub returns-in-Done-clause-done : goal.returns-in-Done-clause-done
returns-in-Done-clause-done g c =
    put_done c.args.limit c.args.ticks.now c.spend.new.ticks c.args.types.now c.args.store.now.segments c.args.stack.now c.in-Some-text_top.text.now c.in-Some.p c.pop.new.self c.pop-in-Done.new.self c.pop.result c.pop-in-Done.result (g.O.Sink.held c.args.output.now) (g.O.Sink.held c.write_text.new.output) (search rules) (search rules) (search rules) (search rules) (search rules) (rw c.in_default-refusal.is at c.refusal.ensures.refused) c.pop.ensures c.pop-in-Done.ensures c.in-Done.ensures.writes

pub returns-in-Failed-clause-done : goal.returns-in-Failed-clause-done
returns-in-Failed-clause-done g c =
    put_failed c.args.limit c.args.ticks.now c.args.types.now c.args.store.now.segments c.args.stack.now c.in-Some-text_top.text.now c.in-Some.p (g.O.Sink.held c.args.output.now) (g.O.Sink.held c.write_text.new.output) (search rules) (search rules) (search rules) (search rules) (rw c.in_default-refusal.is at c.refusal.ensures.refused) c.in-Failed.ensures.event c.in-Failed.ensures.writes

pub returns-in-Some-refusal-clause-done : goal.returns-in-Some-refusal-clause-done
returns-in-Some-refusal-clause-done g c =
    put_refused c.args.limit c.args.ticks.now c.spend.new.ticks c.args.types.now c.args.store.now.segments c.args.stack.now c.in-Some-text_top.text.now c.in-Some.p c.in-Some-refusal.step (g.O.Sink.held c.args.output.now) (search rules) (search rules) (search rules) (search rules) (search rules) (rw c.in-Some-refusal.is at c.refusal.ensures.refused)

pub returns-in-Some-refusal-clause-quiet : goal.returns-in-Some-refusal-clause-quiet
returns-in-Some-refusal-clause-quiet g c = quiet_step c.in-Some-refusal.step (g.O.Sink.held c.args.output.now)
