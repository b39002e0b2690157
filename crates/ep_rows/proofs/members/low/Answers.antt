use Rattle.std.proofs.Common.{rules}
use Rattle.ep_rows.proofs.SetBits.{low_word}
use Rattle.ep_rows.proofs.members.low.Goals as goal

pub returns-in-Some : goal.returns-in-Some
returns-in-Some c place less = rw c.in-Some.is (low_word c.in-Some.word (search rules) c.if-word-ge0.true place less)
