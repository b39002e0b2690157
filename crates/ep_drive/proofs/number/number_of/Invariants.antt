use Rattle.std.proofs.Common.{◌≡◌, ◌<◌, ◌^◌, drop}
use Rattle.ep_drive.specs.Numbers.{value_of}
use Rattle.ep_drive.proofs.Numbers.{value_from}
use Rattle.ep_drive.proofs.number.number_of.Given as goal

abbrev pub invariant-loop-digit : goal.invariant-loop-digit
invariant-loop-digit l = (value_from l.number (drop l.digit-index l.digits) ≡ value_of l.digits) × (l.number < 2 ^ 63)
