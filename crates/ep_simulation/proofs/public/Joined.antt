-- What calls find among joined units by a name.
use Rattle.std.proofs.Common.{◌≡◌, ℕ, zero, suc, ◌<◌, ◌≤◌, Bool, true, false, if◌then◌else◌, List, [], ◌∷◌, Option, Some, None, bytes_eq, length, slice_get, refl, sym, ap, ◌∙◌, subst, arith}
use Rattle.std.proofs.lemmas.Bool.{lt-ltb}
use Rattle.std.proofs.lemmas.Option.{same_Some, slice_get_within}
use Rattle.std.proofs.lemmas.Slice.Eq.{bytes_eq-Decides}
use Rattle.ep_meaning.specs.Meaning.{handler_of, routine_in, type_in}
use Rattle.ep_meaning.specs.Steps.{Call}
use Rattle.ep_meaning.specs.Units.{GivenUnit, routines_given, variable_given}
use Rattle.ep_meaning.specs.Valid.{ValueKind}
use Rattle.ep_object.specs.Placing.{Placement, Stands, placed_object_unit}
use Rattle.ep_object.specs.declared.code.Image.{Image}
use Rattle.ep_object.specs.declared.code.Object.{Object}
use Rattle.ep_simulation.specs.Activations.{IsCallable}
use Rattle.ep_simulation.specs.Joined.{AreSameFormals, AreSameResults, HaveOwnNames, HaveSameTypes, HeadingsAreKept, IsAmong, IsFound, SlotsStand}
use Rattle.ep_simulation.specs.Layouts.{Layout, layout_of}
use Rattle.ep_simulation.specs.Matching.{Injection, MachineMemory}
use Rattle.ep_simulation.specs.Promises.{ArePassed, AreResults, ByReference, ByValue, Called, IsPassed, Passing, Promises, RoutineKeeps}
use Rattle.ep_simulation.specs.Scene.{GivenStand, VariableStands}
use Rattle.ep_typed.specs.Routines.{heading_of, routine_numbered, unit_variables}
use Rattle.ep_typed.specs.Viewed.{denoter_of}
use Rattle.ep_typed.specs.declared.interface.Formal.{Formal}
use Rattle.ep_typed.specs.declared.interface.FormalMode.{FormalMode}
use Rattle.ep_typed.specs.declared.interface.FormalMode.TheVariants as mode
use Rattle.ep_typed.specs.declared.interface.RoutineEntry.{RoutineEntry}
use Rattle.ep_typed.specs.declared.interface.RoutineResult.{RoutineResult}
use Rattle.ep_typed.specs.declared.unit.Unit.{Unit as TypedUnit}
use Rattle.ep_typed.specs.declared.unit.UnitType.{UnitType}

same_name : (a b : List ℕ) → bytes_eq a b ≡ true → a ≡ b
same_name a b h = grind (arith, bytes_eq-Decides)

its_name : (a : List ℕ) → bytes_eq a a ≡ true
its_name a = grind (arith, bytes_eq-Decides)

-- the first one
first_among : (u : TypedUnit) (us : List TypedUnit) → IsAmong (u ∷ us) u
first_among u us = record {
  routines = λ number. ap (λ b. if b then routine_numbered u number else routine_in us u.name number) (its_name u.name);
  types = λ index. ap (λ b. if b then slice_get u.types index else type_in us u.name index) (its_name u.name);
}

-- one behind another that has another name
later_among : (w : TypedUnit) (us : List TypedUnit) (u : TypedUnit) → bytes_eq w.name u.name ≡ false → IsAmong us u → IsAmong (w ∷ us) u
later_among w us u other x = record {
  routines = λ number. ap (λ b. if b then routine_numbered w number else routine_in us u.name number) other ∙ x.routines number;
  types = λ index. ap (λ b. if b then slice_get w.types index else type_in us u.name index) other ∙ x.types index;
}

-- each of units with names of their own is among them
pub among_units : (units : List TypedUnit) → HaveOwnNames units → (k : ℕ) (u : TypedUnit) → slice_get units k ≡ Some u → IsAmong units u
among_units [] named k u at = cc
among_units (w ∷ us) named zero u at = subst (λ v. IsAmong (w ∷ us) v) (same_Some w u at) (first_among w us)
among_units (w ∷ us) named (suc k) u at =
    later_among w us u (apart (bytes_eq w.name u.name) refl)
    (among_units us (λ i j a b p q same. let one : suc i ≡ suc j = named (suc i) (suc j) a b p q same in omega (arith, one)) k u at)
  where
    apart : (b : Bool) → bytes_eq w.name u.name ≡ b → b ≡ false
    apart false e = refl
    apart true e = let one : 0 ≡ suc k = named 0 (suc k) w u refl at (same_name w.name u.name e) in absurd (omega (arith, one))

-- a unit alone
pub among_alone : (u : TypedUnit) → IsAmong (u ∷ []) u
among_alone u = first_among u []

-- ---- what calls of routines of other headings keep

-- formals of the same types take their arguments alike
passed_alike : (types others : List UnitType) (w : FormalMode) (f g : Formal) → HaveSameTypes types (denoter_of f.denoter) others (denoter_of g.denoter) → (q : Passing) → IsPassed others w g q → IsPassed types w f q
passed_alike types others mode.Value f g same (ByValue k) h = same.kinds k h
passed_alike types others mode.ProtectedValue f g same (ByValue k) h = same.kinds k h
passed_alike types others mode.Variable f g same (ByReference t) h = same.bare ∙ h
passed_alike types others mode.ProtectedVariable f g same (ByReference t) h = same.bare ∙ h
passed_alike types others mode.Value f g same (ByReference t) h = absurd h
passed_alike types others mode.ProtectedValue f g same (ByReference t) h = absurd h
passed_alike types others mode.Variable f g same (ByValue k) h = absurd h
passed_alike types others mode.ProtectedVariable f g same (ByValue k) h = absurd h

all_passed_alike : (types others : List UnitType) (fs gs : List Formal) → AreSameFormals types fs others gs → (qs : List Passing) → ArePassed others gs qs → ArePassed types fs qs
all_passed_alike types others [] [] same [] h = tt
all_passed_alike types others [] [] same (q ∷ qs) h = absurd h
all_passed_alike types others [] (g ∷ gs) same qs h = absurd same
all_passed_alike types others (f ∷ fs) [] same qs h = absurd same
all_passed_alike types others (f ∷ fs) (g ∷ gs) same [] h = absurd h
all_passed_alike types others (f ∷ fs) (g ∷ gs) (mode_is, same, rest) (q ∷ qs) h =
    (passed_alike types others f.mode f g same q (subst (λ w. IsPassed others w g q) (sym mode_is) h.0), all_passed_alike types others fs gs rest qs h.1)

-- and results of the same types are of the same kinds
results_alike : (types others : List UnitType) (r s : Option RoutineResult) → AreSameResults types r others s → (ks : List ValueKind) → AreResults others s ks → AreResults types r ks
results_alike types others None None same [] h = tt
results_alike types others None None same (k ∷ ks) h = h
results_alike types others None (Some s) same ks h = absurd same
results_alike types others (Some r) None same ks h = absurd same
results_alike types others (Some r) (Some s) same [] h = absurd h
results_alike types others (Some r) (Some s) same (k ∷ []) h = same.kinds k h
results_alike types others (Some r) (Some s) same (k ∷ l ∷ ks) h = absurd h

-- a routine that no other one is around is called from wherever the types are
promise_elsewhere : {layout : Layout} {G : Image} {routine n : ℕ} (types others : List UnitType) {formals : List Passing} {results : List ValueKind} {called : Called} → Promises layout G routine n others [] formals results called → Promises layout G routine n types [] formals results called
promise_elsewhere types others promise = record {
  by = λ place levels line calls injection begun memory callable below operands arguments are.
      promise.by place levels line calls injection begun memory (elsewhere levels injection begun.calls memory callable) below operands arguments are;
}
  where
    elsewhere : (levels : ℕ) (injection : Injection) (calls : List Call) (memory : MachineMemory) → IsCallable types levels [] injection calls memory → IsCallable others levels [] injection calls memory
    elsewhere zero injection calls memory h = refl
    elsewhere (suc up) injection calls memory h = absurd (let no : 0 < 0 = h.0 in omega (arith, no))

module _ (units : List TypedUnit) (G : Image) (ps : List Placement) (n : ℕ) (kept : HeadingsAreKept units G ps n) (types : List UnitType) where
  -- a routine that one of the units gives keeps its promise
  routine_found : (g : GivenUnit) → IsFound units types g → (unit : List ℕ) → g.name ≡ unit → (number : ℕ) (r : RoutineEntry) → slice_get g.routines number ≡ Some r
      → RoutineKeeps (layout_of units) G ps (handler_of units n) n types [] unit number r
  routine_found g found unit named number r there =
      let has = found.has in
      let x = has.routines number r there in
      let keeps : RoutineKeeps (layout_of units) G ps (handler_of units n) n (found.unit).types [] (found.unit).name number (heading_of x.1.0) = kept found.number found.unit found.there number x.1.0 x.0 x.1.1 in
      subst (λ m. RoutineKeeps (layout_of units) G ps (handler_of units n) n types [] m number r) (found.named ∙ named)
      (record {
        routine = keeps.routine;
        formals = keeps.formals;
        passed = all_passed_alike types (found.unit).types r.formals (x.1.0).formals x.1.2 keeps.formals keeps.passed;
        results = keeps.results;
        given = results_alike types (found.unit).types r.result (x.1.0).result x.1.3 keeps.results keeps.given;
        placed = keeps.placed;
        promise = promise_elsewhere types (found.unit).types keeps.promise;
      })

  -- and so does whatever is found among all that is given
  pub given_kept : (given : List GivenUnit) → ((i : ℕ) (g : GivenUnit) → slice_get given i ≡ Some g → IsFound units types g)
      → (unit : List ℕ) (number : ℕ) (r : RoutineEntry) → slice_get (routines_given given unit) number ≡ Some r → RoutineKeeps (layout_of units) G ps (handler_of units n) n types [] unit number r
  given_kept [] found unit number r h = cc
  given_kept (g ∷ gs) found unit number r h = go (bytes_eq g.name unit) refl (given_kept gs (λ i x at. found (suc i) x at) unit number r) h
    where
      go : (b : Bool) → bytes_eq g.name unit ≡ b → (slice_get (routines_given gs unit) number ≡ Some r → RoutineKeeps (layout_of units) G ps (handler_of units n) n types [] unit number r) → slice_get (if b then g.routines else routines_given gs unit) number ≡ Some r → RoutineKeeps (layout_of units) G ps (handler_of units n) n types [] unit number r
      go true e others h = routine_found g (found 0 g refl) unit (same_name g.name unit e) number r h
      go false e others h = others h

-- ---- slots

-- a unit whose object stands in an image has slots for its variables there
pub slots_stand : (u : TypedUnit) (o : Object) (G : Image) (ps : List Placement) (p : Placement) → Stands G ps p o → o.name ≡ u.name → length (unit_variables u) ≤ o.unit_slots → SlotsStand G ps u
slots_stand u o G ps p stands name slots k less =
    let whole = stands.of_object in
    record {
      number = p.unit;
      image_unit = placed_object_unit p o;
      there = stands.unit;
      named = name;
      within = omega (arith, slots, less);
      placed = λ i. rw (sym name, stands.listed, lt-ltb k p.slots (omega (arith, whole.slots, slots, less))) refl;
    }

-- and so has each variable that others give, by what is found of it among units that all have theirs
pub given_stand : (units : List TypedUnit) (types : List UnitType) (G : Image) (ps : List Placement) → ((k : ℕ) (w : TypedUnit) → slice_get units k ≡ Some w → SlotsStand G ps w)
    → (given : List GivenUnit) → ((i : ℕ) (g : GivenUnit) → slice_get given i ≡ Some g → IsFound units types g)
    → GivenStand G ps given
given_stand units types G ps stand [] found unit k v h = cc
given_stand units types G ps stand (g ∷ gs) found unit k v h = go (bytes_eq g.name unit) refl (given_stand units types G ps stand gs (λ i x at. found (suc i) x at) unit k v) h
  where
    go : (b : Bool) → bytes_eq g.name unit ≡ b → (variable_given gs unit k ≡ Some v → VariableStands G ps unit k) → (if b then slice_get g.variables k else variable_given gs unit k) ≡ Some v → VariableStands G ps unit k
    go false e others h = others h
    go true e others h =
        let f = found 0 g refl in
        let has = f.has in
        let x = has.variables k v h in
        subst (λ m. VariableStands G ps m k) (f.named ∙ same_name g.name unit e) (stand f.number f.unit f.there k (slice_get_within (unit_variables f.unit) k x.1.0 x.1.1))
