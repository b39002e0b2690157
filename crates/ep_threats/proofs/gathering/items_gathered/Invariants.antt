use Rattle.std.proofs.Common.{◌≡◌, ℕ, ◌||◌, drop, map}
use Rattle.ep_typed.specs.Viewed.{item_of}
use Rattle.ep_threats.specs.Callees.{callees_of, formals_at}
use Rattle.ep_threats.specs.Threatened.{has, owned}
use Rattle.ep_threats.specs.Threats.{items_threaten}
use Rattle.ep_threats.proofs.gathering.items_gathered.Given as goal

abbrev pub invariant-loop-i : goal.invariant-loop-i
invariant-loop-i l =
    (n : ℕ) → (has l.found n || items_threaten (formals_at (callees_of l.routines)) (owned l.of n) (map item_of (drop l.i-index l.all)))
    ≡ (has l.initial.found n || items_threaten (formals_at (callees_of l.routines)) (owned l.of n) (map item_of l.all))
