use Rattle.std.proofs.Common.{◌≡◌, ◌+◌, ◌++◌, ◌∷◌, [], rules}
use Rattle.ep_gen_code.specs.Instructions.{reference}
use Rattle.ep_gen_code.proofs.public.Named.{named_more, named_new}
use Rattle.ep_gen_code.proofs.references.first_references.Goals as goal

pub push-requires : goal.push-requires
push-requires c =
    named_new c.args.unit.now.name (c.in_ok-first.field-0 + 2) c.loop-index.index c.in_ok-number.number c.loop-index.references c.loop-index.invariant.0 c.in_ok-number.ensures.0

pub loop-index-preserved : goal.loop-index-preserved
loop-index-preserved c =
    let pushed : c.push.new.self ≡ c.loop-index.references ++ reference c.args.unit.now.name c.in_ok-number.number ∷ [] = search rules in
    named_more c.args.unit.now.name (c.in_ok-first.field-0 + 2) c.loop-index.index c.in_ok-number.number c.loop-index.references c.push.new.self c.loop-index.invariant.0 c.in_ok-number.ensures.0 c.in_ok-number.ensures.1 pushed
