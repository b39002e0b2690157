use Rattle.std.proofs.Common.{◌≡◌, ◌-◌, suc, length}
use Rattle.ep_typed.specs.Viewed.{denoter_of}
use Rattle.ep_unit_rules.specs.Definitions as spec
use Rattle.ep_unit_rules.proofs.definitions.followed.Given as goal

abbrev pub invariant-loop-looked : goal.invariant-loop-looked
invariant-loop-looked l = spec.followed_within l.types (suc (length l.types) - l.looked) (denoter_of l.named) ≡ spec.followed l.types (denoter_of l.denoter)
