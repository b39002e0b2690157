use Rattle.std.proofs.Common.{◌≡◌}
use Rattle.ep_gen_code.specs.Growth.{IsTable, in_row}
use Rattle.ep_gen_code.proofs.references.first_references.Given as goal

abbrev pub invariant-loop-index : goal.invariant-loop-index
invariant-loop-index l = (l.references ≡ in_row l.unit.name l.first l.index) × IsTable l.references
