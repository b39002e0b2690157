use Rattle.std.proofs.Common.{sym, ◌∙◌}
use Rattle.ep_imports.specs.Offers.{offered_from}
use Rattle.ep_imports.proofs.Offering.{no_sole, one_sole}
use Rattle.ep_imports.proofs.exports.ExportTable.sole.Goals as goal

pub returns-then-is_doubled : goal.returns-then-is_doubled
returns-then-is_doubled c = λ rows t.
    no_sole (offered_from 0 rows c.args.name.now) (sym (t.doubles c.args.name.now) ∙ sym c.has-is_doubled.ensures ∙ c.if-is_doubled.true)

pub returns-else-is_doubled : goal.returns-else-is_doubled
returns-else-is_doubled c = λ rows t.
    c.find.ensures ∙ t.firsts c.args.name.now
    ∙ one_sole (offered_from 0 rows c.args.name.now) (sym (t.doubles c.args.name.now) ∙ sym c.has-is_doubled.ensures ∙ c.if-is_doubled.false)
