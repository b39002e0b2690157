use Rattle.std.proofs.Common.{[], ◌∷◌, refl, subst}
use Rattle.std.proofs.KnownBytes.{Keeps-refl}
use Rattle.ep_drive.specs.Refusals.{InSource, StopsText}
use Rattle.ep_drive.specs.Seen.{Seen, seen_of}
use Rattle.ep_drive.specs.Statuses.{kind_of}
use Rattle.ep_drive.specs.Verdicts.{Go}
use Rattle.ep_drive.proofs.Going.{job-since}
use Rattle.ep_drive.proofs.Refused.{answers-job, answers-refused}
use Rattle.ep_drive.proofs.Verdicts.{begin_verdict, text_verdict}
use Rattle.ep_drive.proofs.go.go_text.Goals as goal

pub refuse-requires : goal.refuse-requires
refuse-requires g c = (c.args.text.now, subst (StopsText c.args.text.now) c.in-Err-Refused.field-0-is c.in-Err-Refused.ensures)

pub returns-in-Err-Refused-clause-answers : goal.returns-in-Err-Refused-clause-answers
returns-in-Err-Refused-clause-answers g c = λ words before n command loaded kept.
    let refused = subst (StopsText c.args.text.now) c.in-Err-Refused.field-0-is c.in-Err-Refused.ensures in
    let then : Seen = record (seen_of g.F.Files g.I.Source g.O.Sink g.R.Sink c.args.files.now c.args.input.now c.args.output.now c.args.report.now) { files = before; file_faults = n } in
    let after : Seen = seen_of g.F.Files g.I.Source g.O.Sink g.R.Sink c.args.files.now c.args.input.now c.args.output.now c.refuse.new.report in
    answers-refused c.refuse.result words (InSource c.args.source.now c.in-Err-Refused.why) then after c.refuse.ensures.told
    (text_verdict words before c.args.budget c.args.source.now command c.args.text.now loaded c.requires.short c.in-Err-Refused.why refused)
    (record { same = record { output = Keeps-refl _; files = kept }; unread = record { left = refl; faults = refl } })

pub returns-clause-answers : goal.returns-clause-answers
returns-clause-answers g c = λ words before n command loaded kept.
    let image = c.in-Ok.ensures in
    let texts = c.args.text.now ∷ [] in
    let units = image.unit ∷ [] in
    let then : Seen = record (seen_of g.F.Files g.I.Source g.O.Sink g.R.Sink c.args.files.now c.args.input.now c.args.output.now c.args.report.now) { files = before; file_faults = n } in
    let after : Seen = seen_of g.F.Files g.I.Source g.O.Sink g.R.Sink c.run_and_tell.new.files c.run_and_tell.new.input c.run_and_tell.new.output c.run_and_tell.new.report in
    answers-job words (Go c.args.budget texts) then after (begin_verdict words before c.args.budget c.args.source.now command c.args.text.now loaded c.requires.short units image.program) c.run_and_tell.result
    (job-since (g.O.Sink.held c.args.output.now) before (g.F.Files.files c.args.files.now) kept (g.I.Source.left c.args.input.now) (g.R.Sink.held c.args.report.now)
    (g.O.Sink.faults c.args.output.now) n (g.F.Files.faults c.args.files.now) (g.I.Source.faults c.args.input.now) (g.R.Sink.faults c.args.report.now) after (kind_of c.run_and_tell.result) c.args.budget texts c.run_and_tell.result (c.run_and_tell.ensures.answers texts units image.program image.implements))
