use Rattle.std.proofs.Common.{sym, ◌∙◌}
use Rattle.ep_rows.proofs.SetWords.{least_left, none_left, none_passed}
use Rattle.ep_rows.proofs.members.least_in.Goals as goal

pub returns-then-left-eq0 : goal.returns-then-left-eq0
returns-then-left-eq0 c =
    none_left c.args.from c.args.place c.args.word c.saturating_sub-passed.result c.saturating_sub-passed.ensures (sym c.in-Some.ensures.1 ∙ c.if-left-eq0.true)

pub returns-else-left-eq0 : goal.returns-else-left-eq0
returns-else-left-eq0 c =
    least_left c.args.from c.args.place c.args.word c.saturating_sub-passed.result c.saturating_sub-passed.ensures c.ranges.word.fits c.lowest.result (rw c.in-Some.ensures.1 at c.lowest.ensures)

pub returns-in-None : goal.returns-in-None
returns-in-None c =
    none_passed c.args.from c.args.place c.args.word c.saturating_sub-passed.result c.saturating_sub-passed.ensures c.in-None.ensures
