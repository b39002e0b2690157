-- How objects stand in an image: linking joins the routines, texts, constant types and instructions of the objects
-- in order, and adds to each number the length of what stands before.
use Rattle.std.specs.Prelude.{◌≡◌, ⊤, ℕ, ℤ, pos, negsuc, zero, suc, ◌+◌, ◌-◌, List, [], ◌∷◌, ◌++◌, Option, Some, None}
use Rattle.std.specs.Prelude.{cond, ltb, length, slice_get, map}
use Rattle.std.specs.Str.{bytes_eq}
use Rattle.ep_object.specs.Table.{Op, op_of, Text, Jump, JumpFalse, Call, Unit, TConst}
use Rattle.ep_object.specs.declared.code.CodeRoutine.{CodeRoutine}
use Rattle.ep_object.specs.declared.code.ConstantType.{ConstantType}
use Rattle.ep_object.specs.declared.code.ConstantType.TheVariants.{Ord, Set, Str, Arr, Rec, Init}
use Rattle.ep_object.specs.declared.code.Image.{Image}
use Rattle.ep_object.specs.declared.code.ImageRoutine.{ImageRoutine}
use Rattle.ep_object.specs.declared.code.ImageUnit.{ImageUnit}
use Rattle.ep_object.specs.declared.code.Instr.{Instr}
use Rattle.ep_object.specs.declared.code.Object.{Object}
use Rattle.ep_object.specs.declared.code.Reference.{Reference}

-- the number of what is not there
abbrev pub missing : ℕ
missing = 4294967295

-- how many of something stand before an object's own, and how many it has of its own
pub record Span : Type 0 where
  pub before : ℕ
  pub own : ℕ

-- where a number of an object's own stands in the image
abbrev pub moved : Span → ℕ → ℕ
moved span n = cond (ltb n span.own) (span.before + n) missing

-- the same for a field of an instruction
abbrev pub moved_field : Span → ℤ → ℤ
moved_field span (pos n) = pos (moved span n)
moved_field span (negsuc n) = pos missing

-- where the parts of an object stand in an image
pub record Placement : Type 0 where
  pub unit : ℕ
  pub name : List ℕ
  pub slots : ℕ
  pub routines : Span
  pub texts : Span
  pub constant_types : Span
  pub instructions : Span

abbrev pub after_span : Span → ℕ → Span
after_span span own = record { before = span.before + span.own; own = own }

-- the placement of an object after the one that stands before it
abbrev pub next_to : Placement → Object → Placement
next_to p o =
    record {
      unit = p.unit + 1;
      name = o.name;
      slots = o.unit_slots;
      routines = after_span p.routines (length o.routines);
      texts = after_span p.texts (length o.texts);
      constant_types = after_span p.constant_types (length o.constant_types);
      instructions = after_span p.instructions (length o.instructions);
    }

abbrev pub first_span : ℕ → Span
first_span own = record { before = 0; own = own }

-- the placement of the first object
abbrev pub first_placement : Object → Placement
first_placement o =
    record {
      unit = 0;
      name = o.name;
      slots = o.unit_slots;
      routines = first_span (length o.routines);
      texts = first_span (length o.texts);
      constant_types = first_span (length o.constant_types);
      instructions = first_span (length o.instructions);
    }

abbrev pub placements_after : Placement → List Object → List Placement
placements_after p [] = []
placements_after p (o ∷ os) = next_to p o ∷ placements_after (next_to p o) os

-- the placements of objects in order
abbrev pub placements : List Object → List Placement
placements [] = []
placements (o ∷ os) = first_placement o ∷ placements_after (first_placement o) os

-- the placement of the unit of a name
abbrev pub placement_of : List Placement → List ℕ → Option Placement
placement_of [] name = None
placement_of (p ∷ ps) name = cond (bytes_eq p.name name) (Some p) (placement_of ps name)

-- the placement of the unit that a reference names
abbrev pub referred : List Placement → Option Reference → Option Placement
referred ps None = None
referred ps (Some r) = placement_of ps r.unit

abbrev pub number_of : Option Reference → ℕ
number_of None = missing
number_of (Some r) = r.number

-- the reference that a field names
abbrev pub reference_at : List Reference → ℤ → Option Reference
reference_at references (pos n) = slice_get references n
reference_at references (negsuc n) = None

-- the routine of a reference in the image
abbrev pub routine_in : Option Placement → ℕ → ℕ
routine_in None n = missing
routine_in (Some p) n = moved p.routines n

abbrev pub unit_in : Option Placement → ℕ
unit_in None = missing
unit_in (Some p) = p.unit

abbrev pub slot_in : Option Placement → ℕ → ℕ
slot_in None n = missing
slot_in (Some p) n = cond (ltb n p.slots) n missing

abbrev pub placed_call : List Placement → Option Reference → Instr → Instr
placed_call ps r i = record i { a = pos (routine_in (referred ps r) (number_of r)) }

abbrev pub placed_unit : List Placement → Option Reference → Instr → Instr
placed_unit ps r i = record i { a = pos (unit_in (referred ps r)); b = slot_in (referred ps r) (number_of r) }

-- `Unit` with -1 names a standard file and stays as it is
abbrev pub placed_unit_or_file : List Placement → List Reference → ℤ → Instr → Instr
placed_unit_or_file ps references (negsuc zero) i = i
placed_unit_or_file ps references (negsuc (suc n)) i = placed_unit ps None i
placed_unit_or_file ps references (pos n) i = placed_unit ps (slice_get references n) i

-- an instruction of an object as it stands in the image
abbrev pub placed_op : List Placement → Placement → List Reference → Option Op → Instr → Instr
placed_op ps p references (Some Text) i = record i { a = moved_field p.texts i.a }
placed_op ps p references (Some Jump) i = record i { a = moved_field p.instructions i.a }
placed_op ps p references (Some JumpFalse) i = record i { a = moved_field p.instructions i.a }
placed_op ps p references (Some TConst) i = record i { a = moved_field p.constant_types i.a }
placed_op ps p references (Some Call) i = placed_call ps (reference_at references i.a) i
placed_op ps p references (Some Unit) i = placed_unit_or_file ps references i.a i
placed_op ps p references (Some _) i = i
placed_op ps p references None i = i

abbrev pub placed : List Placement → Placement → List Reference → Instr → Instr
placed ps p references i = placed_op ps p references (op_of i.op) i

-- how many numbers of types name required types in constant types
abbrev pub required_types : ℕ
required_types = 7

-- the number of a type in a constant type: those of required types stay
abbrev pub moved_type : Span → ℕ → ℕ
moved_type span n = cond (ltb n required_types) n (cond (ltb (n - required_types) span.own) (span.before + n) missing)

abbrev pub placed_type : Span → ConstantType → ConstantType
placed_type span (Ord lo hi) = Ord lo hi
placed_type span (Set lo hi) = Set lo hi
placed_type span (Str capacity) = Str capacity
placed_type span (Arr fixed lo hi component) = Arr fixed lo hi (moved_type span component)
placed_type span (Rec components) = Rec (map (moved_type span) components)
placed_type span (Init n words) = Init (moved_type span n) words

abbrev pub placed_routine : Placement → CodeRoutine → ImageRoutine
placed_routine p r =
    record { entry = moved p.instructions r.entry; unit = p.unit; arguments = r.arguments; slots = r.slots }

abbrev pub placed_object_unit : Placement → Object → ImageUnit
placed_object_unit p o =
    record { name = o.name; slots = o.unit_slots; start = moved p.routines o.start; stop = moved p.routines o.stop }

-- These instructions of an object stand in the image from this place of the object on.
abbrev pub CodeStands : Image → List Placement → Placement → List Reference → ℕ → List Instr → Type 0
CodeStands G ps p references place [] = ⊤
CodeStands G ps p references place (i ∷ is) =
    (slice_get G.instructions (p.instructions.before + place) ≡ Some (placed ps p references i))
    × CodeStands G ps p references (place + 1) is

-- the placement is one of the object: the name and the slots are the object's, and so is how many parts it has of its
-- own
pub record IsPlacementOf (p : Placement) (o : Object) : Type 0 where
  pub name : p.name ≡ o.name
  pub slots : p.slots ≡ o.unit_slots
  pub routines : p.routines.own ≡ length o.routines
  pub texts : p.texts.own ≡ length o.texts
  pub constant_types : p.constant_types.own ≡ length o.constant_types
  pub instructions : p.instructions.own ≡ length o.instructions

-- the object stands in the image, at this placement among those of all objects
pub record Stands (G : Image) (ps : List Placement) (p : Placement) (o : Object) : Type 0 where
  pub of_object : IsPlacementOf p o
  pub listed : placement_of ps o.name ≡ Some p
  pub unit : slice_get G.units p.unit ≡ Some (placed_object_unit p o)
  pub code : CodeStands G ps p o.references 0 o.instructions
  pub routines : (r : ℕ) (x : CodeRoutine) → slice_get o.routines r ≡ Some x
      → slice_get G.routines (p.routines.before + r) ≡ Some (placed_routine p x)
  pub texts : (k : ℕ) (bytes : List ℕ) → slice_get o.texts k ≡ Some bytes
      → slice_get G.texts (p.texts.before + k) ≡ Some bytes
  pub constant_types : (k : ℕ) (t : ConstantType) → slice_get o.constant_types k ≡ Some t
      → slice_get G.constant_types (p.constant_types.before + k) ≡ Some (placed_type p.constant_types t)

-- the image has the object
pub record Holds (G : Image) (o : Object) : Type 0 where
  pub placements : List Placement
  pub placement : Placement
  pub stands : Stands G placements placement o

-- no two units of the image have the same name
abbrev pub HasDistinctNames : Image → Type 0
HasDistinctNames G =
    (i j : ℕ) (a b : ImageUnit) → slice_get G.units i ≡ Some a → slice_get G.units j ≡ Some b → a.name ≡ b.name → i ≡ j

-- two images, the parts of one after those of the other
abbrev pub joined : Image → Image → Image
joined G H =
    record {
      units = G.units ++ H.units;
      routines = G.routines ++ H.routines;
      texts = G.texts ++ H.texts;
      constant_types = G.constant_types ++ H.constant_types;
      instructions = G.instructions ++ H.instructions;
    }

-- the parts that one object gives an image
abbrev pub image_part : List Placement → Placement → Object → Image
image_part ps p o =
    record {
      units = placed_object_unit p o ∷ [];
      routines = map (placed_routine p) o.routines;
      texts = o.texts;
      constant_types = map (placed_type p.constant_types) o.constant_types;
      instructions = map (placed ps p o.references) o.instructions;
    }

abbrev pub empty_image : Image
empty_image = record { units = []; routines = []; texts = []; constant_types = []; instructions = [] }

abbrev pub parts_of : List Placement → List Placement → List Object → Image
parts_of ps [] os = empty_image
parts_of ps (p ∷ rest) [] = empty_image
parts_of ps (p ∷ rest) (o ∷ os) = joined (image_part ps p o) (parts_of ps rest os)

-- the image of objects in the order in which their units are started, the program last
abbrev pub linked : List Object → Image
linked os = parts_of (placements os) (placements os) os

-- the image of one object alone
abbrev pub alone : Object → Image
alone o = image_part (first_placement o ∷ []) (first_placement o) o
