use Rattle.std.proofs.Common.{◌≡◌, ◌++◌, ◌∷◌, [], rules}
use Rattle.ep_gen_unit.proofs.ProgramForms.{no_types, types_more}
use Rattle.ep_gen_unit.specs.UnitCode.{plain_at}
use Rattle.ep_gen_unit.proofs.program.types_code.Goals as goal

pub loop-t-init : goal.loop-t-init
loop-t-init c = no_types c.args.code.now c.args.routines.now

pub loop-t-preserved : goal.loop-t-preserved
loop-t-preserved c =
    let pushed : c.push.new.self ≡ c.loop-t.routines ++ plain_at c.in_ok-entry.entry ∷ [] = search rules in
    types_more c.args.types.now c.loop-t.t-index c.args.routines.now c.loop-t.routines c.push.new.self c.t-item.result c.in_ok-entry.entry c.loop-t-test.true c.t-item.is c.loop-t.invariant c.in_ok-entry.ensures pushed
