use Rattle.std.proofs.Common.{◌≡◌, ◌-◌, take}
use Rattle.ep_memory.specs.Stores.{live}
use Rattle.ep_object.specs.Calls.{ended, words_of}
use Rattle.ep_rows.proofs.segments.end.Given as goal

abbrev pub invariant-loop-number : goal.invariant-loop-number
invariant-loop-number l =
    (l.memory.segments ≡ ended (take l.number-index l.made) l.fn.memory.segments) × (live l.memory ≡ live l.fn.memory - words_of (take l.number-index l.made) l.fn.memory.segments)
