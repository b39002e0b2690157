use Rattle.std.proofs.Common.{◌≡◌, ◌+◌, suc, Some, true, leb, rules}
use Rattle.ep_object.specs.Effects.{Continues}
use Rattle.ep_object.specs.Operands.{one_on_word, weight}
use Rattle.ep_object.specs.Types.{Numbered, entry_of, initial_entry, interned, words_begin}
use Rattle.ep_rows.proofs.InitialStates.{given_weighs, initial_met}
use Rattle.ep_rows.proofs.starts.init_by_given.Goals as goal
use Rattle.ep_rows.specs.Parts.{typing}
use Rattle.ep_rows.specs.Starts.{given_of}
use Rattle.ep_rows.specs.Steps.{IsStep}

pub returns-clause-done : goal.returns-clause-done
returns-clause-done c =
    let a = c.args in
    let given = c.in-Some.given in
    let w = c.in-Some.number in
    let rest = c.take.new.stack in
    let entry = c.in-Some-entry_of.entry.now in
    let number = c.in-Some-entry_of.type_number in
    let n : Numbered = record { number = number; entry = entry } in
    let words = c.in-Ok.words in
    let taken : one_on_word a.stack.now ≡ Some (given_of given, w, rest) = search rules in
    let there : entry_of a.types.now w ≡ Some n = search rules in
    let takes : words_begin n (given_of given) ≡ Continues words = search rules in
    let light : weight (given_of given) + entry.size ≡ entry.size = given_weighs given entry.size in
    let has_room : leb (a.ticks.now + suc entry.size) a.limit ≡ true = search rules in
    let room : leb (a.ticks.now + suc (weight (given_of given) + entry.size)) a.limit ≡ true = rw light has_room in
    let spends : c.spend.new.ticks ≡ a.ticks.now + entry.size = search rules in
    let spent : c.spend.new.ticks ≡ a.ticks.now + (weight (given_of given) + entry.size) = rw light spends in
    let is : c.in-Ok-begun.entry ≡ initial_entry number entry words = search rules in
    let new = c.intern.new in
    let met : IsStep (interned (initial_entry number entry words) rest (typing rest a.types.now a.memory.now)) c.intern.result (typing new.stack new.types new.memory) =
    rw is at c.intern.ensures.done in
    initial_met a.types.now a.memory.now a.stack.now rest (given_of given) w n words taken there takes a.limit a.ticks.now c.spend.new.ticks new.types new.memory
    new.stack c.intern.result room spent met
