use Rattle.std.proofs.Common.{length, length-append, ap, arith}
use Rattle.ep_typed.specs.Auxiliaries.{block_auxiliaries, with_variables}
use Rattle.ep_typed.specs.Routines.{made_by_unit, unit_block, unit_variables}
use Rattle.ep_gen_unit.proofs.ProgramForms.{if_ok_then}
use Rattle.ep_gen_unit.proofs.program.unit_slots.Goals as goal

pub returns : goal.returns
returns c =
    let u = c.args.u.now in
    if_ok_then c.unit_with_slots.result (λ sum is.
    omega (arith, is, c.in_ok-made.ensures, ap length c.items.ensures, ap length c.items-2.ensures, ap length c.in_ok-auxiliaries.ensures, length-append u.variables (block_auxiliaries (unit_block u)), length-append (made_by_unit u) (with_variables (unit_block u)))) c.unit_with_slots.ensures
