use Rattle.std.proofs.Common.{◌≡◌}
use Rattle.ep_unit_rules.proofs.GivenLoops.{for_by_body, for_by_bounds}
use Rattle.ep_unit_rules.proofs.giving.+giving_statements.Goals as goal

pub statement-returns-then-bounds_give : goal.statement-returns-then-bounds_give
statement-returns-then-bounds_give t c =
    let x = c.in-For in
    for_by_bounds c.args.name.now x.field-0 x.variable x.start x.field-3 x.end x.body c.args.s.now c.bounds_give.result x.is
    (rw (c.get-in-For.ensures, c.get-in-For-2.ensures) at c.bounds_give.ensures)
    (rw (c.get-in-For.ensures, c.get-in-For-2.ensures) at c.if-bounds_give.ensures)

pub statement-returns-else-bounds_give : goal.statement-returns-else-bounds_give
statement-returns-else-bounds_give t c =
    let x = c.in-For in
    for_by_body c.args.name.now x.field-0 x.variable x.start x.field-3 x.end x.body c.args.s.now c.statement-else-bounds_give.result x.is
    (rw (c.get-in-For.ensures, c.get-in-For-2.ensures) at c.if-bounds_give.ensures)
    (rw c.get-else-bounds_give.ensures at c.statement-else-bounds_give.ensures)
