use Rattle.std.proofs.Common.{◌≡◌, ℕ, ◌||◌, drop, map}
use Rattle.ep_typed.specs.Trees.{arms, stmts}
use Rattle.ep_typed.specs.Viewed.{arm_of, stmt_of}
use Rattle.ep_threats.specs.Callees.{callees_of, formals_at}
use Rattle.ep_threats.specs.Threatened.{has, owned}
use Rattle.ep_threats.specs.Threats.{arms_threaten, stmts_threaten}
use Rattle.ep_threats.proofs.gathering.+gathered.Given as goal

abbrev pub invariant-stmts_gathered-loop-s : goal.invariant-stmts_gathered-loop-s
invariant-stmts_gathered-loop-s l =
    (n : ℕ) → (has l.found n || stmts_threaten (formals_at (callees_of l.routines)) (owned l.of n) (stmts (map stmt_of (drop l.s-index l.all))))
    ≡ (has l.initial.found n || stmts_threaten (formals_at (callees_of l.routines)) (owned l.of n) (stmts (map stmt_of l.all)))

abbrev pub invariant-arms_gathered-loop-a : goal.invariant-arms_gathered-loop-a
invariant-arms_gathered-loop-a l =
    (n : ℕ) → (has l.found n || arms_threaten (formals_at (callees_of l.routines)) (owned l.of n) (arms (map arm_of (drop l.a-index l.all))))
    ≡ (has l.initial.found n || arms_threaten (formals_at (callees_of l.routines)) (owned l.of n) (arms (map arm_of l.all)))
