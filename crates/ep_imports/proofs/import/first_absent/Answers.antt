use Rattle.std.proofs.Common.{◌∙◌}
use Rattle.ep_imports.proofs.Listing.{absent_here, present_more}
use Rattle.ep_imports.proofs.import.first_absent.Goals as goal

pub loop-pair-preserved : goal.loop-pair-preserved
loop-pair-preserved c =
    present_more c.args.offer.now.constituents c.args.pairs.now c.loop-pair.pair-index c.pair-item.result _ c.loop-pair-test.true c.pair-item.is c.in-Some.ensures c.loop-pair.invariant

pub returns-in-None : goal.returns-in-None
returns-in-None c =
    absent_here c.args.offer.now.constituents c.args.pairs.now c.loop-pair.pair-index c.pair-item.result c.loop-pair-test.true c.pair-item.is c.in-None.ensures c.loop-pair.invariant
