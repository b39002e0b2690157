use Rattle.std.proofs.Common.{None, refl, subst}
use Rattle.std.proofs.KnownBytes.{Keeps-refl}
use Rattle.ep_outside.specs.Known.{HasFile, HasLength}
use Rattle.ep_drive.specs.Refusals.{Missing, TooLong}
use Rattle.ep_drive.specs.Seen.{Seen, seen_of}
use Rattle.ep_drive.proofs.Refused.{answers-refused}
use Rattle.ep_drive.proofs.Verdicts.{missing_verdict, long_verdict}
use Rattle.ep_drive.proofs.go.go.Goals as goal

pub returns-in-Missing-clause-answers : goal.returns-in-Missing-clause-answers
returns-in-Missing-clause-answers g c = λ words command.
    let missing = subst (λ name. HasFile (g.F.Files.files c.args.files.now) name None) c.as_bytes.ensures.value c.in-Missing.ensures.loads.1 in
    let before : Seen = seen_of g.F.Files g.I.Source g.O.Sink g.R.Sink c.args.files.now c.args.input.now c.args.output.now c.args.report.now in
    let after : Seen = seen_of g.F.Files g.I.Source g.O.Sink g.R.Sink c.load.new.self c.args.input.now c.args.output.now c.refuse.new.report in
    answers-refused c.refuse.result words (Missing c.args.source.now) before after c.refuse.ensures.told (missing_verdict words before.files c.args.budget c.args.source.now command missing)
    (record { same = record { output = Keeps-refl _; files = c.load.ensures.files }; unread = record { left = refl; faults = refl } })

pub returns-in-TooLong-clause-answers : goal.returns-in-TooLong-clause-answers
returns-in-TooLong-clause-answers g c = λ words command.
    let long = subst (λ name. HasLength (g.F.Files.files c.args.files.now) name c.in-TooLong.bytes) c.as_bytes.ensures.value c.in-TooLong.ensures.loads.2 in
    let before : Seen = seen_of g.F.Files g.I.Source g.O.Sink g.R.Sink c.args.files.now c.args.input.now c.args.output.now c.args.report.now in
    let after : Seen = seen_of g.F.Files g.I.Source g.O.Sink g.R.Sink c.load.new.self c.args.input.now c.args.output.now c.refuse-in-TooLong.new.report in
    answers-refused c.refuse-in-TooLong.result words (TooLong c.args.source.now c.in-TooLong.bytes) before after c.refuse-in-TooLong.ensures.told
    (long_verdict words before.files c.args.budget c.args.source.now command c.in-TooLong.bytes c.in-TooLong.ensures.loads.1 long)
    (record { same = record { output = Keeps-refl _; files = c.load.ensures.files }; unread = record { left = refl; faults = refl } })
