use Rattle.std.proofs.Common.{◌≡◌, ◌-◌, suc, length, is_some}
use Rattle.ep_typed.specs.Denoters.{host_of, host_within}
use Rattle.ep_typed.specs.Viewed.{denoter_of}
use Rattle.ep_gen_type.proofs.ordinals.is_ordinal.Given as goal

abbrev pub invariant-loop-looked : goal.invariant-loop-looked
invariant-loop-looked l =
    is_some (host_within l.types (suc (length l.types) - l.looked) (denoter_of l.named)) ≡ is_some (host_of l.types (denoter_of l.denoter))
