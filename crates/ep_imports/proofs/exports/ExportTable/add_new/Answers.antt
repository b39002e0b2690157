use Rattle.std.proofs.Common.{ap, sym, ◌∙◌, ◌≡◌}
use Rattle.ep_imports.proofs.Offering.{table_new}
use Rattle.ep_imports.proofs.exports.ExportTable.add_new.Goals as goal

pub returns : goal.returns
returns c = λ rows es n t.
    table_new c.args.self.now.offers c.add.new.self c.args.self.now.doubled rows es c.args.export.now c.bytes.result.now c.in_ok-offer.offer c.args.place
    c.requires c.bytes.ensures.bytes (rw c.items-constituents.ensures at c.in_ok-offer.ensures) n c.in_ok-add.ensures t
