use Rattle.ep_imports.proofs.Listing.{listed_more}
use Rattle.ep_imports.proofs.import.listed.Goals as goal

pub loop-pair-preserved : goal.loop-pair-preserved
loop-pair-preserved c =
    listed_more c.args.offer.now.constituents c.args.pairs.now c.loop-pair.pair-index c.pair-item.result c.loop-pair.all c.add_pair.new.all
    c.loop-pair-test.true c.pair-item.is c.loop-pair.invariant c.in_ok-add_pair.ensures
