use Rattle.std.proofs.Common.{[], ◌∷◌, refl, subst}
use Rattle.std.proofs.KnownBytes.{Keeps-refl}
use Rattle.ep_values.proofs.public.Done.{keeps_files-refl}
use Rattle.ep_drive.specs.Asked.{asked_by}
use Rattle.ep_drive.specs.Commands.{bytes_of, WordsOf}
use Rattle.ep_drive.specs.Refusals.{Usage}
use Rattle.ep_drive.specs.Seen.{Seen, seen_of}
use Rattle.ep_drive.proofs.Going.{budget_small, is_go}
use Rattle.ep_drive.proofs.Refused.{answers-refused}
use Rattle.ep_drive.proofs.Verdicts.{usage_verdict}
use Rattle.ep_drive.proofs.top.carry_out.Goals as goal

pub go-requires : goal.go-requires
go-requires g c =
    let go = is_go c.in-Some-Go.field-0 in
    rw go.is (budget_small (bytes_of c.args.words.now) go.budget (go.source.now ∷ []) (subst (λ command. WordsOf (bytes_of c.args.words.now) (asked_by command)) go.is c.in-Some-Go.ensures.0))

pub returns-in-None-clause-answers : goal.returns-in-None-clause-answers
returns-in-None-clause-answers g c =
    let before : Seen = seen_of g.F.Files g.I.Source g.O.Sink g.R.Sink c.args.files.now c.args.input.now c.args.output.now c.args.report.now in
    let after : Seen = seen_of g.F.Files g.I.Source g.O.Sink g.R.Sink c.args.files.now c.args.input.now c.args.output.now c.refuse.new.report in
    answers-refused c.refuse.result (bytes_of c.args.words.now) Usage before after c.refuse.ensures.told (usage_verdict (bytes_of c.args.words.now) before.files c.in-None.ensures)
    (record { same = record { output = Keeps-refl _; files = keeps_files-refl _ }; unread = record { left = refl; faults = refl } })
