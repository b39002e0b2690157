-- The bytes that a source in memory has left.
use Rattle.std.specs.Prelude.{ℕ, List, drop}
use Rattle.ep_outside.specs.declared.remainder.Remainder.{Remainder}

-- what comes after the front that was taken
abbrev pub bytes_left : Remainder → List ℕ
bytes_left r = drop r.place r.held
