use Rattle.std.proofs.Common.{take}
use Rattle.ep_gen_unit.specs.StmtCode.{take_all_code}
use Rattle.ep_gen_code.specs.Growth.{Grows}
use Rattle.ep_gen_unit.proofs.program.take_all.Given as goal

abbrev pub invariant-loop-number : goal.invariant-loop-number
invariant-loop-number l = Grows (record l.fn.code { line = l.line }) l.code (take_all_code l.line 0 (take l.number l.formals))
