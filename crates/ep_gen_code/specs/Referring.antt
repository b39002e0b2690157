-- The references that the code of a unit begins with.
use Rattle.std.specs.Prelude.{◌≡◌, ℕ, ◌+◌, ◌<◌, List, length, Some, slice_get}
use Rattle.ep_gen_code.specs.Instructions.{reference}
use Rattle.ep_gen_code.specs.declared.references.TheConstants as routine
use Rattle.ep_simulation.specs.Promises.{fill_routine, range_routine, spread_routine, swap_routine, type_routine}
use Rattle.ep_object.specs.declared.code.Reference.{Reference}
use Rattle.ep_meaning.specs.Valid.{Declarations}
use Rattle.ep_typed.specs.declared.unit.UnitType.{UnitType}

-- the reference to the routine that elaborates the type with this number
abbrev pub type_reference : ℕ → ℕ
type_reference number = routine.TYPES + number

-- each type of a unit has that reference, to the routine that elaborates it
abbrev pub AreReferred : Declarations → List ℕ → List UnitType → List Reference → Type 0
AreReferred declared unit types references =
    (index : ℕ) → index < length types
    → slice_get references (type_reference index) ≡ Some (reference unit
    (type_routine declared.first_private index))

-- there is a reference to the unit's routine that leaves two operands in the other order
abbrev pub IsSwapReferred : Declarations → List ℕ → List Reference → Type 0
IsSwapReferred declared unit references =
    slice_get references routine.SWAP ≡ Some (reference unit (swap_routine declared.first_private))

-- and one to the routine that gives the value of a component of an array to others
abbrev pub IsFillReferred : Declarations → List ℕ → List Reference → Type 0
IsFillReferred declared unit references =
    slice_get references routine.FILL ≡ Some (reference unit (fill_routine declared.first_private))

-- to the one that leaves the indexes of a range
abbrev pub IsRangeReferred : Declarations → List ℕ → List Reference → Type 0
IsRangeReferred declared unit references =
    slice_get references routine.RANGE ≡ Some (reference unit (range_routine declared.first_private))

-- to the one that leaves what components are given by
abbrev pub IsSpreadReferred : Declarations → List ℕ → List Reference → Type 0
IsSpreadReferred declared unit references =
    slice_get references routine.SPREAD ≡ Some (reference unit (spread_routine declared.first_private))

-- to all of those that give values to components of arrays
pub record AreArraysReferred (declared : Declarations) (unit : List ℕ) (references : List Reference) : Type 0 where
  pub fill : IsFillReferred declared unit references
  pub range : IsRangeReferred declared unit references
  pub spread : IsSpreadReferred declared unit references
