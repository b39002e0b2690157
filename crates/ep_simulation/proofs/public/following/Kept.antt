-- What calls keep, as code asks for it: by the unit that it names, and for the unit of its own block.
use Rattle.std.proofs.Common.{◌≡◌, ℕ, ◌<◌, inl, inr, List, [], length, Some, slice_get, sym, subst}
use Rattle.ep_simulation.specs.Layouts.{Layout}
use Rattle.ep_simulation.specs.Promises.{ArrayRoutinesStand, CallsAreKept, RoutineKeeps, SwapStands, TypeKeeps}
use Rattle.ep_simulation.proofs.matching.NewVariables.{same_name}
use Rattle.ep_object.specs.Placing.{Placement}
use Rattle.ep_object.specs.declared.code.Image.{Image}
use Rattle.ep_meaning.specs.Calls.{Handler}
use Rattle.ep_meaning.specs.Valid.{Declarations, IsTyped}
use Rattle.ep_typed.specs.Trees.{Named}
use Rattle.ep_typed.specs.declared.interface.RoutineEntry.{RoutineEntry}
use Rattle.ep_typed.specs.declared.unit.UnitType.{UnitType}
use Rattle.ep_values.specs.TypeValues.{TypeValue}

-- the unit is the one in whose block names are declared so, and these are its types
abbrev pub IsHome : Declarations → List ℕ → List UnitType → Type 0
IsHome declared unit types = (unit ≡ declared.home) × (declared.types ≡ types)

module _ {declared : Declarations} {layout : Layout} {G : Image} {ps : List Placement} {call : Handler} {n : ℕ} (kept : CallsAreKept declared layout G ps call n) (unit : List ℕ) where
  -- a routine that may be named, of whichever unit
  pub routine_kept : (number : ℕ) (r : RoutineEntry) → slice_get (declared.routines unit) number ≡ Some r
      → RoutineKeeps layout G ps call n declared.types (declared.around unit number) unit number r
  routine_kept number r there = elim (same_name unit declared.home) [ inl e ↦ own e | inr e ↦ kept.others unit e number r there ]
    where
      own : unit ≡ declared.home → RoutineKeeps layout G ps call n declared.types (declared.around unit number) unit number r
      own e =
          subst (λ u. RoutineKeeps layout G ps call n declared.types (declared.around u number) u number r) (sym e)
          (kept.routines number r (subst (λ u. slice_get (declared.routines u) number ≡ Some r) e there))

  module _ (types : List UnitType) (at_home : IsHome declared unit types) where
    -- a type of the unit
    pub type_kept : (index : ℕ) (t : TypeValue) → IsTyped types (Named index []) t → TypeKeeps layout G ps call n declared.first_private unit index t
    type_kept index t typed =
        subst (λ u. TypeKeeps layout G ps call n declared.first_private u index t) (sym at_home.0)
        (kept.types index t (subst (λ l. IsTyped l (Named index []) t) (sym at_home.1) typed))

    -- and the routines that values of structured types call
    pub swap_kept : 0 < length types → SwapStands G ps unit declared.first_private
    swap_kept some = subst (λ u. SwapStands G ps u declared.first_private) (sym at_home.0) (kept.swaps (subst (λ l. 0 < length l) (sym at_home.1) some))

    pub arrays_kept : 0 < length types → ArrayRoutinesStand G ps unit declared.first_private
    arrays_kept some = subst (λ u. ArrayRoutinesStand G ps u declared.first_private) (sym at_home.0) (kept.of_arrays (subst (λ l. 0 < length l) (sym at_home.1) some))
