-- What code needs of the image in which it stands: its texts, and the variables that it names.
use Rattle.std.specs.Prelude.{◌≡◌, ℕ, pos, ◌+◌, ◌<◌, IsTrue, ltb, List, Some, slice_get}
use Rattle.ep_object.specs.Placing.{Placement, placed_unit}
use Rattle.ep_object.specs.declared.code.Image.{Image}
use Rattle.ep_object.specs.declared.code.ImageUnit.{ImageUnit}
use Rattle.ep_object.specs.declared.code.Instr.{Instr}
use Rattle.ep_simulation.specs.Layouts.{Layout}
use Rattle.ep_meaning.specs.Units.{GivenUnit, variable_given}
use Rattle.ep_meaning.specs.Valid.{Declarations, variables_up, IsDenoter}
use Rattle.ep_typed.specs.Denoters.{IsInstance}
use Rattle.ep_typed.specs.Viewed.{denoter_of}
use Rattle.ep_typed.specs.declared.unit.UnitType.{UnitType}
use Rattle.ep_typed.specs.declared.unit.UnitVariable.{UnitVariable}
use Rattle.ep_values.specs.TypeValues.{TypeValue}

-- A text of an object stands in the image.
pub record TextStands (G : Image) (p : Placement) (k : ℕ) (bytes : List ℕ) : Type 0 where
  pub own : IsTrue (ltb k p.texts.own)
  pub there : slice_get G.texts (p.texts.before + k) ≡ Some bytes

-- A variable of a unit has a slot in the frame of that unit, and a `Unit` that names it is placed so.
pub record VariableStands (G : Image) (ps : List Placement) (unit : List ℕ) (k : ℕ) : Type 0 where
  pub number : ℕ
  pub image_unit : ImageUnit
  pub there : slice_get G.units number ≡ Some image_unit
  pub named : image_unit.name ≡ unit
  pub within : k < image_unit.slots
  pub placed : (i : Instr)
      → placed_unit ps (Some (record { unit = unit; number = k })) i ≡ record i { a = pos number; b = k }

-- every variable that other units give has one
abbrev pub GivenStand : Image → List Placement → List GivenUnit → Type 0
GivenStand G ps given =
    (unit : List ℕ) (k : ℕ) (v : UnitVariable) → variable_given given unit k ≡ Some v → VariableStands G ps unit k

-- the denoters of all variables that are declared are valid
abbrev pub HaveValidTypes : Declarations → Type 0
HaveValidTypes declared =
    (unit : List ℕ) (k : ℕ) (v : UnitVariable) → declared.variables unit k ≡ Some v
    → IsDenoter declared.types (denoter_of v.denoter)

-- and so are those of the variables of the routine in whose block names are declared so, and of the routines around it
abbrev pub HaveValidOwnTypes : Declarations → Type 0
HaveValidOwnTypes declared =
    (up k : ℕ) (v : UnitVariable) → slice_get (variables_up declared up) k ≡ Some v
    → IsDenoter declared.types (denoter_of v.denoter)

-- A variable that may be named, with a denoter that names in these types, is one of the unit by this number, and is of
-- the same type there: its denoter has the same type values as the other one has under the types of the unit.
pub record IsLaidOut (layout : Layout) (types : List UnitType) (unit : List ℕ) (number : ℕ) (v : UnitVariable) :
    Type 0 where
  pub variable : UnitVariable
  pub there : layout.variables unit number ≡ Some variable
  pub into : (t : TypeValue) → IsInstance types (denoter_of v.denoter) t
      → IsInstance (layout.types unit) (denoter_of variable.denoter) t
  pub back : (t : TypeValue) → IsInstance (layout.types unit) (denoter_of variable.denoter) t
      → IsInstance types (denoter_of v.denoter) t

-- every variable that is declared is
abbrev pub AreLaidOut : Declarations → Layout → Type 0
AreLaidOut declared layout =
    (unit : List ℕ) (number : ℕ) (v : UnitVariable) → declared.variables unit number ≡ Some v
    → IsLaidOut layout declared.types unit number v

-- The texts of an object and all variables that are declared stand in the image, the types of the variables are valid,
-- and the units are laid out so that they have what is declared.
pub record Scene (declared : Declarations) (layout : Layout) (G : Image) (ps : List Placement) (p : Placement)
    (texts : List (List ℕ)) : Type 0 where
  pub texts_stand : (k : ℕ) (bytes : List ℕ) → slice_get texts k ≡ Some bytes → TextStands G p k bytes
  pub variables_stand : (unit : List ℕ) (k : ℕ) (v : UnitVariable) → declared.variables unit k ≡ Some v
      → VariableStands G ps unit k
  pub types_valid : HaveValidTypes declared
  pub own_types_valid : HaveValidOwnTypes declared
  pub laid_out : AreLaidOut declared layout
