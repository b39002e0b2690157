use Rattle.std.proofs.Common.{◌≡◌, ◌≤◌, drop}
use Rattle.ep_token.specs.Numbers.{maxint}
use Rattle.ep_token.specs.Reading.{numeral}
use Rattle.ep_token.proofs.Numerals.{numeral_from}
use Rattle.ep_token.proofs.number.numeral.Given as goal

abbrev pub invariant-loop-byte : goal.invariant-loop-byte
invariant-loop-byte l = (numeral_from l.radix l.value (drop l.byte-index l.digits) ≡ numeral l.radix l.digits) × (l.value ≤ maxint)
