use Rattle.std.proofs.Common.{◌≡◌, ◌++◌, ◌∷◌, [], ◌∙◌, length, ap, rules}
use Rattle.ep_gen_type.proofs.KnownHosts.{counted_more, known_next}
use Rattle.ep_gen_type.proofs.ordinals.OrdinalTypes.of.Goals as goal

pub loop-one-preserved : goal.loop-one-preserved
loop-one-preserved c =
    let pushed : c.push.new.self ≡ c.loop-one.known ++ c.known_of-next.result ∷ [] = search rules in
    record {
      counted = ap length pushed ∙ counted_more c.loop-one.known c.known_of-next.result c.loop-one.one-index c.loop-one.invariant.counted;
      so = rw pushed (known_next c.args.types.now c.loop-one.known c.one-item.result c.known_of-next.result c.loop-one.one-index c.loop-one.invariant.so c.loop-one.invariant.counted c.loop-one-test.true c.one-item.is (rw c.items.ensures at c.known_of-next.ensures));
    }
