use Rattle.std.proofs.Common.{◌≡◌, ◌++◌, false, drop}
use Rattle.ep_token.specs.Reading.{undoubled}
use Rattle.ep_token.proofs.character_string.undoubled.Given as goal

abbrev pub invariant-loop-byte : goal.invariant-loop-byte
invariant-loop-byte l = l.bytes.items ++ undoubled l.after_quote (drop l.byte-index l.body) ≡ undoubled false l.body
