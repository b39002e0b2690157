use Rattle.std.proofs.Common.{◌≡◌, ◌++◌, ◌∷◌, [], rules}
use Rattle.ep_gen_unit.proofs.ProgramForms.{no_routines, routines_more}
use Rattle.ep_gen_unit.proofs.program.routines_code.Goals as goal

pub loop-routine-init : goal.loop-routine-init
loop-routine-init c = rw c.new-entries.ensures (no_routines c.args.code.now c.args.types.now)

pub loop-routine-preserved : goal.loop-routine-preserved
loop-routine-preserved c =
    let pushed : c.push.new.self ≡ c.loop-routine.entries ++ c.in_ok-entry.entry ∷ [] = search rules in
    rw pushed (routines_more c.args.types.now c.args.routines.now c.loop-routine.routine-index c.loop-routine.entries c.routine-item.result c.in_ok-entry.entry c.loop-routine-test.true c.routine-item.is c.loop-routine.invariant c.in_ok-entry.ensures)
