use Rattle.std.proofs.Common.{subst}
use Rattle.ep_drive.specs.Calls.{Answers}
use Rattle.ep_drive.specs.Commands.{bytes_of}
use Rattle.ep_drive.specs.Seen.{Seen, seen_of}
use Rattle.ep_drive.proofs.Clauses.{is_call}
use Rattle.ep_drive.proofs.top.epc.Goals as goal

pub returns : goal.returns
returns g c =
    let before : Seen = seen_of g.F.Files g.I.Source g.O.Sink g.R.Sink c.args.files.now c.args.input.now c.args.output.now c.args.report.now in
    let after : Seen = seen_of g.F.Files g.I.Source g.O.Sink g.R.Sink c.carry_out.new.files c.carry_out.new.input c.carry_out.new.output c.carry_out.new.report in
    let answers : Answers c.carry_out.result (bytes_of c.args.words.now.items) before after = subst (λ all. Answers c.carry_out.result (bytes_of all) before after) c.as_slice.ensures.value c.carry_out.ensures.answers in
    record { call = is_call c.carry_out.result (bytes_of c.args.words.now.items) before after answers c.carry_out.ensures.counts }
