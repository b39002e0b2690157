use Rattle.std.proofs.Common.{w64}
use Rattle.std.proofs.lemmas.Int.{to_z-of_z}
use Rattle.ep_rows.proofs.SetWords.{inside_by, inside_empty}
use Rattle.ep_rows.proofs.members.word_is_between.Goals as goal

pub returns-then-word-eq0 : goal.returns-then-word-eq0
returns-then-word-eq0 c = rw c.if-word-eq0.true (inside_empty c.args.lo c.args.hi c.args.place)

pub returns : goal.returns
returns c =
    let low = to_z-of_z w64 c.args.lo c.ranges.lo in
    let high = to_z-of_z w64 c.args.hi c.ranges.hi in
    let is = rw (low, high) at c.spans.ensures in
    rw is (inside_by c.args.lo c.args.hi c.args.place c.args.word c.lowest.result c.highest.result c.lowest.ensures c.highest.ensures)
