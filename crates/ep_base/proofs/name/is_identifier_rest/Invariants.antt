use Rattle.std.proofs.Common.{◌≡◌, drop}
use Rattle.ep_base.specs.Identifiers.{is_identifier_rest}
use Rattle.ep_base.proofs.Rests.{goes_on}
use Rattle.ep_base.proofs.name.is_identifier_rest.Given as goal

abbrev pub invariant-loop-byte : goal.invariant-loop-byte
invariant-loop-byte l = goes_on l.after_underscore (drop l.byte-index l.rest) ≡ is_identifier_rest l.rest
