-- What a denoter stands for: the definition to which its names lead, whatever it begins with.
use Rattle.std.specs.Prelude.{ℕ, zero, suc, List, length, slice_get, Option, Some, None}
use Rattle.ep_typed.specs.Denoters.{found_of}
use Rattle.ep_typed.specs.Trees as tree
use Rattle.ep_typed.specs.Trees.{Denoter}
use Rattle.ep_typed.specs.declared.unit.UnitType.{UnitType}

-- a denoter without the initial states around it
abbrev pub without_states : Denoter → Denoter
without_states (tree.Initial of value) = without_states of
without_states d = d

module _ (types : List UnitType) where
  -- what a denoter stands for, by what the definition does where it is a name
  abbrev pub followed_step : (Denoter → Option Denoter) → Denoter → Option Denoter
  followed_step find (tree.Named number bounds) = found_of find (slice_get types number)
  followed_step find d = Some d

  -- where at most so many definitions are looked at
  abbrev pub followed_within : ℕ → Denoter → Option Denoter
  followed_within zero d = None
  followed_within (suc n) d = followed_step (followed_within n) (without_states d)

  -- whatever names lead to it; those that lead back to themselves stand for nothing
  abbrev pub followed : Denoter → Option Denoter
  followed = followed_within (suc (length types))
