use Rattle.std.proofs.Common.{◌≡◌, length}
use Rattle.ep_gen_type.specs.Ordinals.{AreKnown}
use Rattle.ep_gen_type.proofs.ordinals.OrdinalTypes.of.Given as goal

abbrev pub invariant-loop-one : goal.invariant-loop-one
invariant-loop-one l =
    record {
      counted : length l.known ≡ l.one-index;
      so : AreKnown l.types l.known;
    }
