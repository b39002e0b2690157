use Rattle.std.proofs.Common.{true≢false, sym}
use Rattle.ep_threats.proofs.Inner.{noted-kept}
use Rattle.ep_threats.proofs.table.note.Goals as goal

pub returns-in-Ok-clause-kept : goal.returns-in-Ok-clause-kept
returns-in-Ok-clause-kept c =
    noted-kept c.args.places.now.entries c.insert.new.self.entries c.args.number c.args.place
    (λ there. true≢false (sym (c.if-is_noted.ensures.1 there)))
    c.in-Ok.ensures.updates.0
