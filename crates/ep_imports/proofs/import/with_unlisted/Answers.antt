use Rattle.ep_imports.proofs.Listing.{unlisted_more}
use Rattle.ep_imports.proofs.import.with_unlisted.Goals as goal

pub loop-constituent-preserved : goal.loop-constituent-preserved
loop-constituent-preserved c =
    unlisted_more c.args.pairs.now c.args.constituents.now c.loop-constituent.constituent-index c.constituent-item.result c.in_ok-names.names c.args.listed c.loop-constituent.all c.add_unlisted.new.all
    c.loop-constituent-test.true c.constituent-item.is c.in_ok-names.ensures c.loop-constituent.invariant c.in_ok-add_unlisted.ensures
