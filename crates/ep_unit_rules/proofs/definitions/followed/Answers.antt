use Rattle.std.proofs.Common.{◌≡◌, ◌+◌, ◌-◌, suc, length, arith}
use Rattle.ep_typed.specs.Viewed.{denoter_of}
use Rattle.ep_unit_rules.specs.Definitions as spec
use Rattle.ep_unit_rules.proofs.Following.{found_itself, named_next, named_none}
use Rattle.ep_unit_rules.proofs.definitions.followed.Goals as goal

pub returns-in_default : goal.returns-in_default
returns-in_default c =
    let types = c.args.types.now in
    found_itself types (suc (length types) - c.loop-looked.looked) (length types - c.loop-looked.looked) (denoter_of c.loop-looked.named.now) c.without_states-found.result.now (spec.followed types (denoter_of c.args.denoter.now)) (omega arith) c.without_states-found.ensures c.loop-looked.invariant c.in_default.not-Named

pub returns-in-None : goal.returns-in-None
returns-in-None c =
    let types = c.args.types.now in
    named_none types (suc (length types) - c.loop-looked.looked) (length types - c.loop-looked.looked) (denoter_of c.loop-looked.named.now) c.without_states-found.result.now (spec.followed types (denoter_of c.args.denoter.now)) c.in-Named.number c.in-Named.field-1 (omega arith) c.without_states-found.ensures c.loop-looked.invariant c.in-Named.is c.in-None.ensures.lookup.0

pub loop-looked-preserved : goal.loop-looked-preserved
loop-looked-preserved c =
    let types = c.args.types.now in
    named_next types (suc (length types) - c.loop-looked.looked) (suc (length types) - (c.loop-looked.looked + 1)) (denoter_of c.loop-looked.named.now) c.without_states-found.result.now (spec.followed types (denoter_of c.args.denoter.now)) c.in-Named.number c.in-Named.field-1 c.in-Some.t.now (omega arith) c.without_states-found.ensures c.loop-looked.invariant c.in-Named.is c.in-Some.ensures.lookup.0 c.in-Some.ensures.lookup.1
