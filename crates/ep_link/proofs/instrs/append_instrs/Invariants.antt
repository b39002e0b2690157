use Rattle.std.proofs.Common.{◌≡◌, ◌++◌, map, take}
use Rattle.ep_link.specs.Instrs.{placed_instr}
use Rattle.ep_link.proofs.instrs.append_instrs.Given as goal

abbrev pub invariant-loop-instr : goal.invariant-loop-instr
invariant-loop-instr l =
    l.image ≡ l.initial.image ++ map (placed_instr l.placement l.targets) (take l.instr-index l.instrs)
