use Rattle.std.proofs.Common.{◌≡◌, drop, map}
use Rattle.ep_built.specs.Built.{is_among}
use Rattle.ep_built.proofs.built.names.is_among.Given as goal

abbrev pub invariant-loop-other : goal.invariant-loop-other
invariant-loop-other l = is_among (map (λ other. other.now) (drop l.other-index l.names)) l.name ≡ is_among (map (λ other. other.now) l.names) l.name
