use Rattle.std.proofs.Common.{rules}
use Rattle.ep_scope.proofs.Opened.{depth_within_all}
use Rattle.ep_scope.proofs.view.depth_in.Goals as goal

pub returns-in-Ok : goal.returns-in-Ok
returns-in-Ok c = rw (← c.view.view_is, depth_within_all) (search rules)
