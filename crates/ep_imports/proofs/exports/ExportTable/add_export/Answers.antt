use Rattle.std.proofs.Common.{◌≡◌, Some, sym, ap, subst, ◌∙◌}
use Rattle.ep_imports.specs.Found.{found}
use Rattle.ep_imports.specs.Offers.{Offered}
use Rattle.ep_imports.specs.Tables.{is_heading}
use Rattle.ep_imports.proofs.Offering.{where_ok}
use Rattle.ep_imports.proofs.exports.ExportTable.add_export.Goals as goal

pub add_new-requires : goal.add_new-requires
add_new-requires c = ap (found c.args.self.now.offers) (sym c.bytes.ensures.bytes) ∙ sym c.in-None.ensures

pub returns-in-Some : goal.returns-in-Some
returns-in-Some c =
    where_ok c.add_again.result c.add_again.ensures
    (λ says. λ rows es n t. says rows es c.in-Some.offer.now
    (ap (found c.args.self.now.offers) (sym c.bytes.ensures.bytes) ∙ sym c.in-Some.ensures)
    (c.is_of-is_of.ensures ∙ ap (is_heading c.in-Some.offer.now.exporter) (sym n)) t)
