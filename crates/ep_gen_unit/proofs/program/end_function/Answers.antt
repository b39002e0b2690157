use Rattle.std.proofs.Common.{◌≡◌, false, sym, w64, arith}
use Rattle.std.specs.Prelude.{is_some}
use Rattle.std.proofs.lemmas.Int.{to_z_pos}
use Rattle.ep_gen_code.proofs.public.Growing.{on_ok}
use Rattle.ep_gen_unit.proofs.ProgramForms.{grows_whole}
use Rattle.ep_typed.specs.Denoters.{host_of}
use Rattle.ep_typed.specs.Viewed.{denoter_of}
use Rattle.ep_gen_unit.proofs.program.end_function.Goals as goal

pub returns : goal.returns
returns c =
    let slot = to_z_pos w64 c.args.number (omega (arith, c.ranges.number.fits)) in
    let none : is_some (host_of c.args.types.now (denoter_of c.args.denoter.now)) ≡ false = sym c.if-has.ensures in
    on_ok c.emit-3.result (grows_whole (host_of c.args.types.now (denoter_of c.args.denoter.now)) c.args.number none (rw slot at c.in_ok-emit.ensures) c.in_ok-emit-2.ensures) c.emit-3.ensures
