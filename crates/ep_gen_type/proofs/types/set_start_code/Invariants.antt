use Rattle.std.proofs.Common.{take}
use Rattle.ep_gen_code.specs.Growth.{Grows}
use Rattle.ep_gen_type.specs.TypeCode.{start_code}
use Rattle.ep_typed.specs.Trees.{SetConstant}
use Rattle.ep_gen_type.proofs.types.set_start_code.Given as goal

abbrev pub invariant-loop-member : goal.invariant-loop-member
invariant-loop-member l = Grows l.fn.code l.code (start_code l.fn.code.line (SetConstant (take l.member-index l.members)))
