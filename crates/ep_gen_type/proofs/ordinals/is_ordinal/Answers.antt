use Rattle.std.proofs.Common.{◌≡◌, ◌∙◌, ◌+◌, ◌-◌, suc, length, is_some, sym, arith}
use Rattle.ep_typed.specs.Denoters.{host_of}
use Rattle.ep_typed.specs.Viewed.{denoter_of}
use Rattle.ep_gen_type.proofs.KnownHosts.{by_itself, by_none, by_nothing, by_type}
use Rattle.ep_gen_type.proofs.ordinals.is_ordinal.Goals as goal

pub returns-in-Itself : goal.returns-in-Itself
returns-in-Itself c =
    let types = c.args.types.now in
    by_itself types (suc (length types) - c.loop-looked.looked) (length types - c.loop-looked.looked) (denoter_of c.loop-looked.named.now) c.in-Itself.answer (is_some (host_of types (denoter_of c.args.denoter.now))) (omega arith)
    (sym c.in-Itself.is ∙ c.deciding-found.ensures) c.loop-looked.invariant

pub returns-in-None : goal.returns-in-None
returns-in-None c =
    let types = c.args.types.now in
    by_nothing types (suc (length types) - c.loop-looked.looked) (length types - c.loop-looked.looked) (denoter_of c.loop-looked.named.now) c.in-ByType.number (is_some (host_of types (denoter_of c.args.denoter.now))) (omega arith)
    (sym c.in-ByType.is ∙ c.deciding-found.ensures) c.loop-looked.invariant c.in-None.ensures.lookup.0

pub loop-looked-preserved : goal.loop-looked-preserved
loop-looked-preserved c =
    let types = c.args.types.now in
    by_type types (suc (length types) - c.loop-looked.looked) (suc (length types) - (c.loop-looked.looked + 1)) (denoter_of c.loop-looked.named.now) c.in-ByType.number c.in-Some.t.now (is_some (host_of types (denoter_of c.args.denoter.now))) (omega arith)
    (sym c.in-ByType.is ∙ c.deciding-found.ensures) c.loop-looked.invariant c.in-Some.ensures.lookup.0 c.in-Some.ensures.lookup.1

pub returns : goal.returns
returns c =
    let types = c.args.types.now in
    let all : c.loop-looked.looked ≡ length types + 1 = omega (arith, c.loop-looked-test.false, c.loop-looked.auto.looked-end) in
    by_none types (suc (length types) - c.loop-looked.looked) (denoter_of c.loop-looked.named.now) (is_some (host_of types (denoter_of c.args.denoter.now))) (omega (arith, all)) c.loop-looked.invariant
