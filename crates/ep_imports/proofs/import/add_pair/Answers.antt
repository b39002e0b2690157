use Rattle.ep_imports.proofs.Listing.{pair_absent, pair_there}
use Rattle.ep_imports.proofs.import.add_pair.Goals as goal

pub returns-in-None : goal.returns-in-None
returns-in-None c = pair_absent c.args.all.now c.args.pair.now.here _ c.in-None.ensures

pub returns-in_ok-push-in-Some : goal.returns-in_ok-push-in-Some
returns-in_ok-push-in-Some c = pair_there c.args.all.now c.push.new.self c.args.pair.now.here c.in_ok-here-in-Some.here c.in-Some.denoted _ c.in-Some.ensures c.in_ok-here-in-Some.ensures c.in_ok-push-in-Some.ensures.ok
