use Rattle.std.proofs.Common.{◌≡◌, ◌+◌, arith}
use Rattle.ep_machine.specs.Answers.{outside}
use Rattle.ep_machine.specs.Machines.{image_of, ticks_of, ended_of, state_in, standing}
use Rattle.ep_values.proofs.public.Done.{does_front-none, same-refl}
use Rattle.ep_drive.proofs.Executing.{came_from, stands-trace, fault_of}
use Rattle.ep_drive.proofs.execution.run_image.Goals as goal

pub returns-clause-came : goal.returns-clause-came
returns-clause-came g c =
    let m = c.in-Ok.machine in
    let n = c.run.new.self in
    let ticks : ticks_of m + c.args.budget ≡ c.args.budget = omega (arith, c.in-Ok.ensures.ticks) in
    came_from c.args.image.now (image_of m) c.args.budget (ticks_of m + c.args.budget) (standing m) (standing n)
    (outside (g.O.Sink.held c.args.output.now) (g.F.Files.files c.args.files.now)) (outside (g.O.Sink.held c.run.new.output) (g.F.Files.files c.run.new.files)) c.run.result c.in-Ok.ensures.image ticks c.in-Ok.ensures.start
    (λ t. stands-trace (image_of n) (ended_of n) (state_in n t)) c.run.ensures.exact c.run.ensures.part c.run.ensures.whole c.run.ensures.end

pub returns-clause-fault : goal.returns-clause-fault
returns-clause-fault g c = fault_of c.run.result (ended_of c.in-Ok.machine) _ c.in-Ok.ensures.whole c.run.ensures.fault

pub returns-in_default-clause-came : goal.returns-in_default-clause-came
returns-in_default-clause-came g c = does_front-none _ _ _ (same-refl _)
