use Rattle.std.proofs.Common.{take}
use Rattle.ep_gen_unit.specs.StmtGrowth.{AppendsRoutines}
use Rattle.ep_gen_unit.proofs.program.routines_code.Given as goal

abbrev pub invariant-loop-routine : goal.invariant-loop-routine
invariant-loop-routine l = AppendsRoutines l.fn.code l.code l.types (take l.routine-index l.routines) l.entries
