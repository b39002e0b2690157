-- The variables of all units of a run, as the machine's frames of units have them.
use Rattle.std.specs.Prelude.{ℕ, List, [], ◌∷◌, Option, None, slice_get, if◌then◌else◌}
use Rattle.std.specs.Str.{bytes_eq}
use Rattle.ep_typed.specs.Routines.{unit_variables}
use Rattle.ep_typed.specs.declared.unit.Unit.{Unit as TypedUnit}
use Rattle.ep_typed.specs.declared.unit.UnitType.{UnitType}
use Rattle.ep_typed.specs.declared.unit.UnitVariable.{UnitVariable}

-- What the units of a run have, by a unit's name, whoever may name it. Nothing of one block is in it, so that matching
-- is the same in all of them.
pub record Layout : Type 0 where
  -- the variable of this number of the unit
  pub variables : List ℕ → ℕ → Option UnitVariable
  -- the types of the unit, in which the denoters of its variables name
  pub types : List ℕ → List UnitType

-- the variable of this number of the first unit of this name
abbrev pub variable_among : List TypedUnit → List ℕ → ℕ → Option UnitVariable
variable_among [] unit number = None
variable_among (u ∷ us) unit number =
    if bytes_eq u.name unit then slice_get (unit_variables u) number else variable_among us unit number

-- its types
abbrev pub types_among : List TypedUnit → List ℕ → List UnitType
types_among [] unit = []
types_among (u ∷ us) unit = if bytes_eq u.name unit then u.types else types_among us unit

-- what these units have
abbrev pub layout_of : List TypedUnit → Layout
layout_of units = record { variables = variable_among units; types = types_among units }
