-- The object of a unit implements it, whatever other units run with it.
use Rattle.std.proofs.Common.{◌≡◌, ℕ, ◌<◌, ◌≤◌, Bool, true, false, if◌then◌else◌, List, [], map, Some, slice_get, bytes_eq, refl, sym, ap, ◌∙◌, subst, arith}
use Rattle.ep_gen_unit.proofs.Declared.{name_same, same_name}
use Rattle.ep_gen_unit.proofs.Routines.{routine_kept_behind, routines_kept}
use Rattle.ep_gen_unit.proofs.Units.{unit_simulates, unit_stop_simulates}
use Rattle.ep_gen_unit.specs.UnitCode.{IsUnitCode}
use Rattle.ep_gen_unit.specs.UnitLaws.{ObjectsImplement}
use Rattle.ep_meaning.proofs.public.Steady.{steady_handler_of}
use Rattle.ep_meaning.specs.Meaning.{handler_of, start_of, stop_of}
use Rattle.ep_meaning.specs.Units.{around_in, declared_of, levels_of, routines_given}
use Rattle.ep_meaning.specs.Valid.{Declarations}
use Rattle.ep_object.specs.Placing.{Placement, moved}
use Rattle.ep_object.specs.declared.code.Image.{Image}
use Rattle.ep_object.specs.declared.code.Object.{Object}
use Rattle.ep_simulation.proofs.public.Joined.{among_units, given_kept, given_stand}
use Rattle.ep_simulation.proofs.public.matching.LaidOut.{laid_among}
use Rattle.ep_simulation.specs.Follows.{Bare}
use Rattle.ep_simulation.specs.Joined.{HeadingIsKept, HeadingsAreKept, IsAmong, IsJoined, StandsAmong}
use Rattle.ep_simulation.specs.Layouts.{layout_of}
use Rattle.ep_simulation.specs.Promises.{CallsAreKept, OthersAreKept, RoutineKeeps}
use Rattle.ep_simulation.specs.Scene.{AreLaidOut, GivenStand}
use Rattle.ep_simulation.specs.Simulates.{Simulates}
use Rattle.ep_typed.specs.Routines.{heading_of, routine_number, routine_numbered}
use Rattle.ep_typed.specs.declared.unit.Unit.{Unit as TypedUnit}

module _ (u : TypedUnit) (o : Object) (is : IsUnitCode u o) (units : List TypedUnit) (number : ℕ) (G : Image) (ps : List Placement) (p : Placement) (at : StandsAmong units number u G ps p o) where
  its : IsJoined units u
  its = let joined = at.joined in joined.each number u at.there

  among : IsAmong units u
  among = let joined = at.joined in among_units units joined.named number u at.there

  abbrev home : Declarations
  home = declared_of its.given u

  laid : AreLaidOut home (layout_of units)
  laid = let joined = at.joined in laid_among units joined.named u number at.there its.given its.found

  stand : GivenStand G ps its.given
  stand = given_stand units u.types G ps at.slots its.given its.found

  -- what others give keeps its promises where their headings do
  others : (n : ℕ) → HeadingsAreKept units G ps n → OthersAreKept home (layout_of units) G ps (handler_of units n) n
  others n kept unit different routine r there = go (bytes_eq u.name unit) refl there
    where
      go : (b : Bool) → bytes_eq u.name unit ≡ b → slice_get (if b then map heading_of u.routines else routines_given its.given unit) routine ≡ Some r
          → RoutineKeeps (layout_of units) G ps (handler_of units n) n u.types (if b then around_in u.routines (routine_numbered u routine) else []) unit routine r
      go true e h = absurd (different (sym (same_name u.name unit e)))
      go false e h = given_kept units G ps n kept u.types its.given its.found unit routine r h

  -- all that it may name keeps its promises
  kept : (n : ℕ) → ((m : ℕ) → m ≤ n → HeadingsAreKept units G ps m) → CallsAreKept home (layout_of units) G ps (handler_of units n) n
  kept n headings = routines_kept its.given u o is its.valid G ps p at.stands at.distinct units among stand (layout_of units) laid n (λ m le. others m (headings m le))

  heading_kept : (n : ℕ) → ((m : ℕ) → m < n → HeadingsAreKept units G ps m) → HeadingIsKept units G ps n u
  heading_kept n below k r less there =
      let valid = its.valid in
      let around_is : home.around u.name (routine_number u k) ≡ [] =
      ap (λ b. if b then around_in u.routines (slice_get u.routines k) else []) (name_same u.name u.name refl) ∙ (ap (around_in u.routines) there ∙ ap (levels_of u.routines) (valid.heading k r less there)) in
      subst (λ ls. RoutineKeeps (layout_of units) G ps (handler_of units n) n u.types ls u.name (routine_number u k) (heading_of r)) around_is
      (routine_kept_behind its.given u o is its.valid G ps p at.stands at.distinct units among stand (layout_of units) laid n (λ m lt. others m (below m lt)) k r there)

  starts : (n : ℕ) → ((m : ℕ) → m ≤ n → HeadingsAreKept units G ps m) → Simulates (layout_of units) G p.unit (moved p.routines o.start) n (start_of (handler_of units n) n u) Bare
  starts n headings = unit_simulates u o is G ps p at.stands its.given its.valid stand at.distinct (layout_of units) laid (handler_of units n) (steady_handler_of units n) n (kept n headings)

  stops : (n : ℕ) → ((m : ℕ) → m ≤ n → HeadingsAreKept units G ps m) → Simulates (layout_of units) G p.unit (moved p.routines o.stop) n (stop_of (handler_of units n) n u) Bare
  stops n headings = unit_stop_simulates u o is G ps p at.stands its.given its.valid stand at.distinct (layout_of units) laid (handler_of units n) (steady_handler_of units n) n (kept n headings)

-- A valid unit names of other units what their headings give.
pub object_implements : ObjectsImplement
object_implements u o is = record {
  name = is.name;
  slots = omega (arith, is.unit_slots);
  heading = λ units number G ps p at n below. heading_kept u o is units number G ps p at n below;
  start = λ units number G ps p at n headings. starts u o is units number G ps p at n headings;
  stop = λ units number G ps p at n headings. stops u o is units number G ps p at n headings;
}
