use Rattle.std.proofs.Common.{◌≡◌, ◌*◌, Some, None, cond, leb, option_map, rules}
use Rattle.ep_object.specs.Operands.{two_words}
use Rattle.ep_object.specs.State.{size_limit}
use Rattle.ep_object.specs.Types.{array_entry, array_over, arr_row, bounds_of, entry_of, interned_over}
use Rattle.ep_rows.proofs.ArrayTypes.{array_row}
use Rattle.ep_rows.proofs.types.arr.Goals as goal
use Rattle.ep_rows.specs.Meeting.{over}
use Rattle.ep_rows.specs.Parts.{typing}
use Rattle.ep_values.specs.Bounds.{count_of}

pub returns-clause-done : goal.returns-clause-done
returns-clause-done c =
    let a = c.args in
    let rest = c.pop_two_words.new.stack in
    let lo = c.in-Some-bounds_of.lo in
    let hi = c.in-Some-bounds_of.hi in
    let entry = c.in-Some-entry_of-2.component_type.now in
    let number = c.in-Some-entry_of-2.number in
    let size = c.in-Some-array_size.size in
    let bare = c.array_bare-bare.result in
    let whole = c.in-Ok-array_whole.whole in
    let top : two_words a.stack.now ≡ Some (c.in-Some.index, c.in-Some.component, rest) = search rules in
    let type = c.in-Some-entry_of.index_type.now in
    let index : entry_of a.types.now c.in-Some.index ≡ Some (record { number = c.in-Some-entry_of.field-0-0; entry = type }) = search rules in
    let bounds : bounds_of type.kind ≡ Some (lo, hi) = search rules in
    let component : entry_of a.types.now c.in-Some.component ≡ Some (record { number = number; entry = entry }) = search rules in
    let sized : Some size ≡ cond (leb (count_of lo hi * entry.size) size_limit) (Some (count_of lo hi * entry.size)) None = search rules in
    let bares : bare ≡ option_map (λ b. array_entry lo hi b size) entry.bare = search rules in
    let wholes : whole ≡ array_over lo hi number size entry.start None = search rules in
    let row : arr_row (typing a.stack.now a.types.now a.memory.now) ≡ interned_over bare (over whole) rest (typing rest a.types.now a.memory.now) =
    array_row a.types.now a.memory.now a.stack.now rest c.in-Some.index c.in-Some.component lo hi _ _ size bare whole top index bounds component sized bares wholes in
    rw row c.intern_over.ensures.done
