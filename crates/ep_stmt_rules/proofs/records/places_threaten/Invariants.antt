use Rattle.std.proofs.Common.{◌≡◌, drop, map}
use Rattle.ep_typed.specs.Viewed.{with_record_of}
use Rattle.ep_threats.specs.Variables.{entire_of}
use Rattle.ep_threats.specs.Callees.{callees_of}
use Rattle.ep_stmt_rules.specs.Statements.{heads_threat}
use Rattle.ep_stmt_rules.proofs.records.places_threaten.Given as goal

abbrev pub invariant-loop-head : goal.invariant-loop-head
invariant-loop-head l = heads_threat (callees_of l.routines) (entire_of l.control) (map with_record_of (drop l.head-index l.heads)) ≡ heads_threat (callees_of l.routines) (entire_of l.control) (map with_record_of l.heads)
