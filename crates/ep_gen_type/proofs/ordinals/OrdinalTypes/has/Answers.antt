use Rattle.std.proofs.Common.{◌≡◌, ◌∙◌, suc, length, sym, arith, rules}
use Rattle.ep_typed.specs.Viewed.{denoter_of}
use Rattle.ep_gen_type.proofs.KnownHosts.{known_so}
use Rattle.ep_gen_type.proofs.ordinals.OrdinalTypes.has.Goals as goal

pub returns-in-Some : goal.returns-in-Some
returns-in-Some c =
    let types = c.args.types.now in
    let same : c.items.result.now ≡ c.args.self.now = search rules in
    known_so types c.args.self.now (denoter_of c.args.denoter.now) (suc (length types)) c.in-Some.answer c.requires.so (sym c.in-Some.is ∙ rw same at c.known_of.ensures) (omega (arith, c.requires.counted))
