-- Which start or stop comes at which turn.
use Rattle.std.proofs.Common.{◌≡◌, ℕ, suc, ◌+◌, ◌-◌, ◌*◌, ◌<◌, Option, Some, None, length, slice_get, refl, arith}
use Rattle.std.proofs.lemmas.Bool.{le-ltb, lt-ltb}
use Rattle.std.proofs.lemmas.Option.{slice_get_within}
use Rattle.ep_object.specs.Runs.{activation}
use Rattle.ep_object.specs.declared.code.Image.{Image}
use Rattle.ep_object.specs.declared.code.ImageUnit.{ImageUnit}

module _ (G : Image) where
  -- the units are started in order
  pub turn_starts : (k : ℕ) (u : ImageUnit) → slice_get G.units k ≡ Some u → activation G k ≡ Some (record { unit = k; routine = u.start })
  turn_starts k u at = rw (lt-ltb k (length G.units) (slice_get_within G.units k u at), at) refl

  -- then all but the last are stopped, in reverse
  pub turn_stops : (j k : ℕ) (u : ImageUnit) → suc (suc (j + k)) ≡ length G.units → slice_get G.units k ≡ Some u → activation G (length G.units + j) ≡ Some (record { unit = k; routine = u.stop })
  turn_stops j k u sum at =
      let past = le-ltb (length G.units + j) (length G.units) (omega arith) in
      let before = lt-ltb (length G.units + j + 1) (2 * length G.units) (omega (arith, sum)) in
      let number : 2 * length G.units - (length G.units + j + 2) ≡ k = omega (arith, sum) in
      rw (past, before, number, at) refl

  -- and nothing comes behind
  pub turn_ends : (c : ℕ) → suc c ≡ length G.units → activation G (length G.units + c) ≡ None
  turn_ends c sum =
      let past = le-ltb (length G.units + c) (length G.units) (omega arith) in
      let behind = le-ltb (length G.units + c + 1) (2 * length G.units) (omega (arith, sum)) in
      rw (past, behind) refl
