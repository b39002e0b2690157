use Rattle.std.proofs.Common.{◌≡◌, [], Some, false, leb, ◌+◌, suc, rules}
use Rattle.ep_object.specs.Types.{lowest_first}
use Rattle.ep_rows.specs.Records.{words_of_all, IsPutBack}
use Rattle.ep_rows.proofs.RecordTypes.{nothing_done}
use Rattle.ep_rows.proofs.records.rec.Goals as goal

pub returns-then-not-spend-clause-done : goal.returns-then-not-spend-clause-done
returns-then-not-spend-clause-done c =
    let a = c.args in
    let ws = c.in-Some.numbers.items in
    let rest = c.take_words.new.stack in
    let taken : lowest_first a.count [] a.stack.now ≡ Some (ws, rest) = rw c.in-Some.is at c.in-Ok.ensures in
    let all : words_of_all a.types.now ws ≡ Some c.in-Some-words_of_all.words = search rules in
    let full : leb (a.ticks.now + suc a.count) a.limit ≡ false = search rules in
    let spent : c.spend.new.ticks ≡ a.ticks.now = search rules in
    let back : IsPutBack c.put_back.result ws rest c.put_back.new.stack = rw c.deref-then-not-spend.ensures.value at c.put_back.ensures in
    nothing_done a.limit a.ticks.now c.spend.new.ticks a.types.now a.memory.now a.count c.in-Some-words_of_all.words a.stack.now rest c.put_back.new.stack ws c.put_back.result taken all full spent back
