use Rattle.std.proofs.Common.{ap}
use Rattle.std.proofs.KnownBytes.{Keeps-refl}
use Rattle.ep_drive.specs.Seen.{Seen, seen_of}
use Rattle.ep_drive.proofs.Executing.{answers-told, run-part, run-front}
use Rattle.ep_drive.proofs.execution.run_and_tell.Goals as goal

pub returns-in-WriteFault-clause-answers : goal.returns-in-WriteFault-clause-answers
returns-in-WriteFault-clause-answers g c = λ texts units joins h.
    let before : Seen = seen_of g.F.Files g.I.Source g.O.Sink g.R.Sink c.args.files.now c.args.input.now c.args.output.now c.args.report.now in
    let after : Seen = seen_of g.F.Files g.I.Source g.O.Sink g.R.Sink c.run_image.new.files c.run_image.new.input c.run_image.new.output c.args.report.now in
    run-part c.args.image.now c.args.budget texts units joins h before after (record { left = ap g.I.Source.left c.in-WriteFault.ensures.input; faults = ap g.I.Source.faults c.in-WriteFault.ensures.input })
    c.in-WriteFault.ensures.came (Keeps-refl _, c.in-WriteFault.ensures.fault)

pub returns-in-NoMemory-clause-answers : goal.returns-in-NoMemory-clause-answers
returns-in-NoMemory-clause-answers g c = λ texts units joins h.
    let before : Seen = seen_of g.F.Files g.I.Source g.O.Sink g.R.Sink c.args.files.now c.args.input.now c.args.output.now c.args.report.now in
    let after : Seen = seen_of g.F.Files g.I.Source g.O.Sink g.R.Sink c.run_image.new.files c.run_image.new.input c.run_image.new.output c.args.report.now in
    run-front c.args.image.now c.args.budget texts units joins h before after (record { left = ap g.I.Source.left c.in-NoMemory.ensures.input; faults = ap g.I.Source.faults c.in-NoMemory.ensures.input })
    c.in-NoMemory.ensures.came (Keeps-refl _)

pub returns-in_default-clause-answers : goal.returns-in_default-clause-answers
returns-in_default-clause-answers g c = λ texts units joins h.
    let before : Seen = seen_of g.F.Files g.I.Source g.O.Sink g.R.Sink c.args.files.now c.args.input.now c.args.output.now c.args.report.now in
    let after : Seen = seen_of g.F.Files g.I.Source g.O.Sink g.R.Sink c.run_image.new.files c.run_image.new.input c.run_image.new.output c.tell.new.report in
    answers-told c.args.image.now c.args.budget texts units joins h before after (record { left = ap g.I.Source.left c.run_image.ensures.input; faults = ap g.I.Source.faults c.run_image.ensures.input })
    c.run_image.result c.tell.result c.in_default.not-WriteFault c.in_default.not-NoMemory c.run_image.ensures.came c.tell.ensures.told
