use Rattle.std.proofs.Common.{sym, ◌∙◌}
use Rattle.ep_imports.proofs.Offering.{table_other, table_same}
use Rattle.ep_imports.proofs.exports.ExportTable.add_again.Goals as goal

pub returns-then-is_of : goal.returns-then-is_of
returns-then-is_of c = λ rows es offer there own t.
    table_same c.args.self.now.offers c.args.self.now.doubled rows es c.args.export.now offer there (sym own ∙ c.if-is_of.true) t

pub returns-in_ok-add : goal.returns-in_ok-add
returns-in_ok-add c = λ rows es offer there own t.
    table_other c.args.self.now.offers c.args.self.now.doubled c.add.new.self rows es c.args.export.now c.bytes.result.now offer there (sym own ∙ c.if-is_of.false) c.bytes.ensures.bytes c.in_ok-add.ensures t
