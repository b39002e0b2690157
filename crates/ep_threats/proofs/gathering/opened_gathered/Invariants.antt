use Rattle.std.proofs.Common.{◌≡◌, ℕ, ◌||◌, length, map}
use Rattle.ep_typed.specs.Viewed.{stmt_of, with_record_of}
use Rattle.ep_threats.specs.Callees.{callees_of, formals_at}
use Rattle.ep_threats.specs.Threatened.{has, opened_threat, owned}
use Rattle.ep_threats.proofs.gathering.opened_gathered.Given as goal

abbrev pub invariant-loop-record : goal.invariant-loop-record
invariant-loop-record l =
    (n : ℕ) → (has l.found n || opened_threat (formals_at (callees_of l.routines)) (owned l.of n) (map with_record_of l.left) (stmt_of l.body))
    ≡ (has l.initial.found n || opened_threat (formals_at (callees_of l.routines)) (owned l.of n) (map with_record_of l.records) (stmt_of l.body))

abbrev pub decreases-loop-record : goal.decreases-loop-record
decreases-loop-record l = length l.left
