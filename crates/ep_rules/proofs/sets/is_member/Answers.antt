use Rattle.std.proofs.Common.{sym, ◌∙◌, arith, w64}
use Rattle.std.proofs.lemmas.Int.{to_z-of_z}
use Rattle.ep_rules.proofs.Taking.{number_missing, number_told}
use Rattle.ep_rules.proofs.sets.is_member.Goals as goal

pub returns-in-Some : goal.returns-in-Some
returns-in-Some c =
    let number = to_z-of_z w64 c.args.number c.ranges.number in
    let found = rw number at c.ordinal_at.ensures in
    c.has.ensures ∙ number_told c.args.number c.args.set.now c.in-Some.member (sym c.in-Some.is ∙ found)

pub returns-in-None : goal.returns-in-None
returns-in-None c =
    let number = to_z-of_z w64 c.args.number c.ranges.number in
    let found = rw number at c.ordinal_at.ensures in
    number_missing c.args.number c.args.set.now (λ i. omega (arith, c.type_inv.set i)) (sym c.in-None.is ∙ found)
