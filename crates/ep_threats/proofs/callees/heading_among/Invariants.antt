use Rattle.std.proofs.Common.{◌≡◌, drop}
use Rattle.ep_threats.specs.Callees.{heading_among}
use Rattle.ep_threats.proofs.callees.heading_among.Given as goal

abbrev pub invariant-loop-heading : goal.invariant-loop-heading
invariant-loop-heading l = heading_among (drop l.heading-index l.given) l.unit ≡ heading_among l.given l.unit
