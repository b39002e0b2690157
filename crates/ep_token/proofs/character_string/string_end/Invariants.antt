use Rattle.std.proofs.Common.{◌≡◌, ◌<◌, ◌≤◌, true, None, drop}
use Rattle.std.specs.Prelude.{IfSome}
use Rattle.ep_token.specs.Reading.{string_end}
use Rattle.ep_token.proofs.character_string.string_end.Given as goal

abbrev pub invariant-loop-i : goal.invariant-loop-i
invariant-loop-i l = (string_end l.is_open l.end l.i (drop l.i l.text) ≡ string_end true None 0 l.text) × IfSome l.end (λ end. (0 < end) × (end ≤ l.i))
