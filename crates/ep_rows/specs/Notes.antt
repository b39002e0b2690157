-- Which ordinal types are noted with their numbers.
use Rattle.std.specs.Prelude.{◌≡◌, ◌<◌, ℕ, List, Some, slice_get}
use Rattle.ep_object.specs.State.{TypeTable}
use Rattle.ep_object.specs.Types.{entry_number, ordinal_entry}
use Rattle.ep_rows.specs.declared.type_table.Note.{Note}

-- each note has the number of its type in the table, or the one that stands for none
abbrev pub AllNoted : List Note → TypeTable → Type 0
AllNoted notes types =
    (k : ℕ) (x : Note) → slice_get notes k ≡ Some x → x.number < 4294967295
    → entry_number (ordinal_entry x.low x.high) types ≡ Some x.number
