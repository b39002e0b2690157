use Rattle.std.proofs.Common.{take}
use Rattle.ep_gen_unit.specs.StmtCode.{make_all_code}
use Rattle.ep_gen_unit.specs.StmtGrowth.{Follows}
use Rattle.ep_gen_unit.proofs.program.make_all.Given as goal

abbrev pub invariant-loop-number : goal.invariant-loop-number
invariant-loop-number l = Follows l.fn.code l.code (make_all_code l.first (take l.number l.variables))
