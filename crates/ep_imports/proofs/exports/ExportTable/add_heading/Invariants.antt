use Rattle.std.proofs.Common.{◌≡◌, List, [], ◌∷◌, ◌++◌, length, take}
use Rattle.ep_interface.specs.declared.interface.ExportEntry.{ExportEntry}
use Rattle.ep_imports.specs.Tables.{IsTable}
use Rattle.ep_imports.proofs.exports.ExportTable.add_heading.Given as goal

abbrev pub invariant-loop-export : goal.invariant-loop-export
invariant-loop-export l =
    (rows : List (List ExportEntry)) → length rows ≡ l.place → IsTable l.fn.self.offers l.fn.self.doubled rows
    → IsTable l.self.offers l.self.doubled (rows ++ take l.export-index l.exports ∷ [])
