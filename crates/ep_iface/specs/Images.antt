-- The format of an image: the letters EPM1; the units in the order in which they are started, the program last; the
-- routines; the texts; the constant types; and the instructions, whose codes may be any, since the machine meets them.
use Rattle.std.specs.Prelude.{◌≡◌, ℕ, ◌<◌, ◌^◌, true, List, ◌∷◌, ◌++◌, length, Ok, FitsSigned, codes}
use Rattle.std.specs.Int.{w32, w64, from_be_bytes}
use Rattle.ep_base.specs.Identifiers.{is_name}
use Rattle.ep_object.specs.declared.code.Image.{Image}
use Rattle.ep_object.specs.declared.code.ImageRoutine.{ImageRoutine}
use Rattle.ep_object.specs.declared.code.ImageUnit.{ImageUnit}
use Rattle.ep_object.specs.declared.code.Instr.{Instr}
use Rattle.ep_fields.specs.Fields.{Position, Reading, ◌>>=◌, byte_at, byte_field, byte_field_at, integer}
use Rattle.ep_fields.specs.Fields.{integer_at, name_at, number, number_at}
use Rattle.ep_iface.specs.ConstantTypes.{IsConstantType, constant_type_at, constant_type_bytes}
use Rattle.ep_iface.specs.Formats.{AreListed, letters_at, list_at, listed}

-- ---- spelling

-- a unit: its name, the slots of its frame, and the routines that start and stop it
abbrev pub unit_bytes : ImageUnit → List ℕ
unit_bytes u = byte_field u.name ++ (number u.slots ++ (number u.start ++ number u.stop))

-- a routine: the place of its first instruction, its unit, its arguments, and the slots of its frame
abbrev pub routine_bytes : ImageRoutine → List ℕ
routine_bytes r = number r.entry ++ (number r.unit ++ (number r.arguments ++ number r.slots))

-- an instruction: its code, its two fields and its line
abbrev pub instr_bytes : Instr → List ℕ
instr_bytes i = i.op ∷ (integer i.a ++ (number i.b ++ number i.line))

-- the letters EPM1 with which an image begins, as a number
abbrev pub image_letters : ℕ
image_letters = from_be_bytes w32 (codes "EPM1")

abbrev pub image_bytes : Image → List ℕ
image_bytes g =
    number image_letters
    ++ (listed unit_bytes g.units
    ++ (listed routine_bytes g.routines
    ++ (listed byte_field g.texts
    ++ (listed constant_type_bytes g.constant_types
    ++ listed instr_bytes g.instructions))))

-- ---- reading

unfoldable pub unit_at : Position → Reading ImageUnit
unit_at p = do
  name ← name_at p
  slots ← number_at name.1
  start ← number_at slots.1
  stop ← number_at start.1
  Ok (record { name = name.0; slots = slots.0; start = start.0; stop = stop.0 }, stop.1)

unfoldable pub routine_at : Position → Reading ImageRoutine
routine_at p = do
  entry ← number_at p
  unit ← number_at entry.1
  arguments ← number_at unit.1
  slots ← number_at arguments.1
  Ok (record { entry = entry.0; unit = unit.0; arguments = arguments.0; slots = slots.0 }, slots.1)

unfoldable pub instr_at : Position → Reading Instr
instr_at p = do
  op ← byte_at p
  a ← integer_at op.1
  b ← number_at a.1
  line ← number_at b.1
  Ok (record { op = op.0; a = a.0; b = b.0; line = line.0 }, line.1)

unfoldable pub image_at : Position → Reading Image
image_at p = do
  start ← letters_at image_letters p
  units ← list_at unit_at start.1
  routines ← list_at routine_at units.1
  texts ← list_at byte_field_at routines.1
  constant_types ← list_at constant_type_at texts.1
  instructions ← list_at instr_at constant_types.1
  Ok (
    record {
      units = units.0;
      routines = routines.0;
      texts = texts.0;
      constant_types = constant_types.0;
      instructions = instructions.0;
    },
    instructions.1,
  )

-- ---- which can be spelled

pub record IsUnit (u : ImageUnit) : Type 0 where
  pub name : is_name u.name ≡ true
  pub slots : u.slots < 2 ^ 32
  pub start : u.start < 2 ^ 32
  pub stop : u.stop < 2 ^ 32

pub record IsRoutine (r : ImageRoutine) : Type 0 where
  pub entry : r.entry < 2 ^ 32
  pub unit : r.unit < 2 ^ 32
  pub arguments : r.arguments < 2 ^ 32
  pub slots : r.slots < 2 ^ 32

pub record IsInstr (i : Instr) : Type 0 where
  pub op : i.op < 256
  pub a : FitsSigned w64 i.a
  pub b : i.b < 2 ^ 32
  pub line : i.line < 2 ^ 32

-- a text of fewer than 2^32 bytes
abbrev pub IsText : List ℕ → Type 0
IsText text = length text < 2 ^ 32

-- the images that the format can spell: those whose lists and texts have fewer than 2^32 items each
pub record IsImage (g : Image) : Type 0 where
  pub units : AreListed IsUnit g.units
  pub routines : AreListed IsRoutine g.routines
  pub texts : AreListed IsText g.texts
  pub constant_types : AreListed IsConstantType g.constant_types
  pub instructions : AreListed IsInstr g.instructions
