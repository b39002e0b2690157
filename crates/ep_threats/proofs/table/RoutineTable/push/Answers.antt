use Rattle.std.proofs.Common.{rules, ◌≡◌, length, subst}
use Rattle.ep_threats.specs.Inner.{AreNoted}
use Rattle.ep_threats.proofs.Inner.{places-more}
use Rattle.ep_threats.proofs.table.RoutineTable.push.Goals as goal

pub invariant_of-self-2 : goal.invariant_of-self-2
invariant_of-self-2 c =
    let count : c.len-place.result ≡ length c.self.inside.all.items = grind (rules, c.len-place.ensures) in
    places-more c.self.inside.places.entries c.note_all.new.places.entries c.self.inside.all.items c.add.new.all.items c.args.routine c.len-place.result
    c.self.invariant c.note_all.ensures.kept
    (subst (λ l. AreNoted c.note_all.new.places.entries l c.len-place.result) c.items.ensures c.in_ok-note_all.ensures.noted)
    count c.in_ok-add.ensures.ok
