use Rattle.std.proofs.Common.{map, take}
use Rattle.ep_typed.specs.Viewed.{with_record_of}
use Rattle.ep_gen_unit.specs.StmtGrowth.{AppendsBinds}
use Rattle.ep_gen_unit.proofs.statements.binds_code.Given as goal

abbrev pub invariant-loop-record : goal.invariant-loop-record
invariant-loop-record l = AppendsBinds l.line l.fn.code l.code (map with_record_of (take l.record-index l.records))
