use Rattle.std.proofs.Common.{subst, sym, [], ◌∷◌, ◌++◌}
use Rattle.std.proofs.lemmas.List.{take_all}
use Rattle.ep_imports.specs.Tables.{IsTable}
use Rattle.ep_imports.proofs.Listing.{taken}
use Rattle.ep_imports.proofs.Offering.{table_begin}
use Rattle.ep_imports.proofs.exports.ExportTable.add_heading.Goals as goal

pub loop-export-init : goal.loop-export-init
loop-export-init c = λ rows n t. table_begin c.args.self.now.offers c.args.self.now.doubled rows t

pub loop-export-preserved : goal.loop-export-preserved
loop-export-preserved c = λ rows n t.
    subst (λ es. IsTable c.add_export.new.self.offers c.add_export.new.self.doubled (rows ++ es ∷ []))
    (sym (taken c.args.exports.now c.loop-export.export-index c.export-item.result c.loop-export-test.true c.export-item.is))
    (c.in_ok-add_export.ensures rows _ n (c.loop-export.invariant rows n t))

pub returns : goal.returns
returns c = λ rows n t.
    subst (λ es. IsTable c.loop-export.self.offers c.loop-export.self.doubled (rows ++ es ∷ []))
    (take_all c.loop-export.export-index c.args.exports.now c.loop-export-test.false)
    (c.loop-export.invariant rows n t)
