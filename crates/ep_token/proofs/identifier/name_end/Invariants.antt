use Rattle.std.proofs.Common.{◌≡◌, ◌≤◌, true, drop}
use Rattle.ep_token.specs.Reading.{name_end}
use Rattle.ep_token.proofs.identifier.name_end.Given as goal

abbrev pub invariant-loop-i : goal.invariant-loop-i
invariant-loop-i l = (name_end l.underscore l.end l.i (drop l.i l.bytes) ≡ name_end true 0 0 l.bytes) × (l.end ≤ l.i)
