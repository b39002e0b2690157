-- The placements of objects by what stands before them, and the parts of an object by the units that are found for its
-- references.
use Rattle.std.proofs.Common.{◌≡◌, ℕ, ℤ, zero, suc, pos, negsuc, List, [], ◌∷◌, map, Option, Some, None, refl, ap, ◌∙◌}
use Rattle.std.specs.Option.{option_map}
use Rattle.ep_object.specs.Placing as placing
use Rattle.ep_object.specs.Placing.{Placement, placements, placements_after, first_placement, placement_of, next_to}
use Rattle.ep_object.specs.Placing.{reference_at, referred, number_of, routine_in, unit_in, slot_in, image_part}
use Rattle.ep_object.specs.Table.{Op, op_of, Text, Jump, JumpFalse, Call, Unit, TConst}
use Rattle.ep_object.specs.declared.code.Instr.{Instr}
use Rattle.ep_object.specs.declared.code.Object.{Object}
use Rattle.ep_object.specs.declared.code.Reference.{Reference}
use Rattle.ep_link.specs.Instrs.{placed_op, placed_instr, call_of, slot_of, slot_or_file}
use Rattle.ep_link.specs.Parts.{object_part}
use Rattle.ep_link.specs.Placements.{bases_after, first_bases, nameless, placement_at}
use Rattle.ep_link.specs.Targets.{target_of, target_at, target_in}
use Rattle.ep_link.specs.Units.{unit_named}
use Rattle.ep_link.specs.declared.placement.Bases.{Bases}
use Rattle.ep_link.specs.declared.target.Target.{Target}
use Rattle.ep_link.specs.declared.units.Units.{Units}

-- what stands before the object behind one
abbrev pub bases_behind : Bases → Object → Bases
bases_behind b o = bases_after (nameless (placement_at b o))

-- the placements of objects with these parts before those of the first
abbrev pub placements_at : Bases → List Object → List Placement
placements_at b [] = []
placements_at b (o ∷ os) = placement_at b o ∷ placements_at (bases_behind b o) os

placed_behind : (b : Bases) (o : Object) (os : List Object)
    → placements_after (placement_at b o) os ≡ placements_at (bases_behind b o) os
placed_behind b o [] = refl
placed_behind b o (x ∷ os) =
    ap (λ ps. placement_at (bases_behind b o) x ∷ ps) (placed_behind (bases_behind b o) x os)

-- the placements of objects are those where nothing stands before the first
pub placed_from_first : (os : List Object) → placements os ≡ placements_at first_bases os
placed_from_first [] = refl
placed_from_first (o ∷ os) = ap (λ ps. first_placement o ∷ ps) (placed_behind first_bases o os)

-- the units have the placements of these objects
abbrev pub HasPlacements : Units → List Placement → Type 0
HasPlacements units ps = (name : List ℕ) → unit_named units name ≡ option_map nameless (placement_of ps name)

-- what a reference becomes by the placements
abbrev target_by : List Placement → Option Reference → Target
target_by ps r =
    record {
      routine = routine_in (referred ps r) (number_of r);
      unit = unit_in (referred ps r);
      slot = slot_in (referred ps r) (number_of r);
    }

found_target : (found : Option Placement) (n : ℕ)
    → target_of (option_map nameless found) n
    ≡ record { routine = routine_in found n; unit = unit_in found; slot = slot_in found n }
found_target None n = refl
found_target (Some p) n = refl

target_is : (units : Units) (ps : List Placement) → HasPlacements units ps → (r : Reference)
    → target_in units r ≡ target_by ps (Some r)
target_is units ps has r =
    ap (λ found. target_of found r.number) (has r.unit) ∙ found_target (placement_of ps r.unit) r.number

targets_are : (units : Units) (ps : List Placement) → HasPlacements units ps → (rs : List Reference) (z : ℤ)
    → target_at (map (target_in units) rs) z ≡ target_by ps (reference_at rs z)
targets_are units ps has rs (negsuc n) = refl
targets_are units ps has [] (pos n) = refl
targets_are units ps has (r ∷ rs) (pos zero) = target_is units ps has r
targets_are units ps has (r ∷ rs) (pos (suc n)) = targets_are units ps has rs (pos n)

slot_is : (units : Units) (ps : List Placement) → HasPlacements units ps → (rs : List Reference) (z : ℤ) (i : Instr)
    → slot_or_file (map (target_in units) rs) z i ≡ placing.placed_unit_or_file ps rs z i
slot_is units ps has rs (negsuc zero) i = refl
slot_is units ps has rs (negsuc (suc n)) i = refl
slot_is units ps has rs (pos n) i = ap (λ t. slot_of t i) (targets_are units ps has rs (pos n))

op_is : (units : Units) (ps : List Placement) → HasPlacements units ps
    → (p : Placement) (rs : List Reference) (o : Option Op) (i : Instr)
    → placed_op (nameless p) (map (target_in units) rs) o i ≡ placing.placed_op ps p rs o i
op_is units ps has p rs (Some Text) i = refl
op_is units ps has p rs (Some Jump) i = refl
op_is units ps has p rs (Some JumpFalse) i = refl
op_is units ps has p rs (Some TConst) i = refl
op_is units ps has p rs (Some Call) i = ap (λ t. call_of t i) (targets_are units ps has rs i.a)
op_is units ps has p rs (Some Unit) i = slot_is units ps has rs i.a i
op_is units ps has p rs _ i = refl

instrs_are : (units : Units) (ps : List Placement) → HasPlacements units ps
    → (p : Placement) (rs : List Reference) (is : List Instr)
    → map (placed_instr (nameless p) (map (target_in units) rs)) is ≡ map (placing.placed ps p rs) is
instrs_are units ps has p rs [] = refl
instrs_are units ps has p rs (i ∷ is) =
    ap (λ j. j ∷ map (placed_instr (nameless p) (map (target_in units) rs)) is)
    (op_is units ps has p rs (op_of i.op) i)
    ∙ ap (λ js. placing.placed ps p rs i ∷ js) (instrs_are units ps has p rs is)

-- the parts of an object are those that linking gives
pub part_is : (units : Units) (ps : List Placement) → HasPlacements units ps → (p : Placement) (o : Object)
    → object_part units (nameless p) o ≡ image_part ps p o
part_is units ps has p o =
    ap (λ is. record (image_part ps p o) { instructions = is }) (instrs_are units ps has p o.references o.instructions)
