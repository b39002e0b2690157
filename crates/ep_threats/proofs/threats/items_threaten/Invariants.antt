use Rattle.std.proofs.Common.{◌≡◌, drop, map}
use Rattle.ep_typed.specs.Viewed.{item_of}
use Rattle.ep_threats.specs.Variables.{entire_of}
use Rattle.ep_threats.specs.Callees.{callees_of, formals_at}
use Rattle.ep_threats.specs.Threats.{items_threaten}
use Rattle.ep_threats.proofs.threats.items_threaten.Given as goal

abbrev pub invariant-loop-i : goal.invariant-loop-i
invariant-loop-i l = items_threaten (formals_at (callees_of l.routines)) (entire_of l.variable) (map item_of (drop l.i-index l.all)) ≡ items_threaten (formals_at (callees_of l.routines)) (entire_of l.variable) (map item_of l.all)
