use Rattle.std.proofs.Common.{map, take}
use Rattle.ep_interface.specs.declared.interface.Interface.{Interface}
use Rattle.ep_imports.specs.Tables.{IsTable}
use Rattle.ep_imports.proofs.exports.table_of.Given as goal

abbrev pub invariant-loop-place : goal.invariant-loop-place
invariant-loop-place l = IsTable l.table.offers l.table.doubled (map (λ (i : Interface). i.exports) (take l.place l.headings))
