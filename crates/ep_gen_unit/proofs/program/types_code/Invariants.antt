use Rattle.std.proofs.Common.{take}
use Rattle.ep_gen_unit.specs.StmtGrowth.{AppendsTypes}
use Rattle.ep_gen_unit.proofs.program.types_code.Given as goal

abbrev pub invariant-loop-t : goal.invariant-loop-t
invariant-loop-t l = AppendsTypes l.fn.code l.code (take l.t-index l.types) l.fn.routines l.routines
