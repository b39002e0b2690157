use Rattle.std.proofs.Common.{map, take}
use Rattle.ep_gen_code.specs.Growth.{Grows}
use Rattle.ep_gen_type.specs.TypeCode.{parts_code}
use Rattle.ep_typed.specs.Trees.{elements}
use Rattle.ep_typed.specs.Viewed.{element_of}
use Rattle.ep_gen_type.proofs.types.+starts.Given as goal

abbrev pub invariant-start_parts_code-loop-part : goal.invariant-start_parts_code-loop-part
invariant-start_parts_code-loop-part l = Grows l.fn.code l.code (parts_code l.fn.code.line (elements (map element_of (take l.part-index l.parts))))
