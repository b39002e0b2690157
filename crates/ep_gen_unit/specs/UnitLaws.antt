-- What holds of the code of every unit: wherever its object stands in an image, its routines simulate the start and
-- the stop of the unit.
use Rattle.std.specs.Prelude.{◌≡◌, ℕ, ◌+◌, ◌≤◌, List, [], Some, slice_get}
use Rattle.ep_gen_unit.specs.UnitCode.{IsUnitCode}
use Rattle.ep_simulation.specs.Joined.{IsAmong, ObjectImplements}
use Rattle.ep_simulation.specs.Layouts.{Layout}
use Rattle.ep_simulation.specs.Follows.{Bare}
use Rattle.ep_object.specs.Placing.{Placement, Stands, HasDistinctNames, moved}
use Rattle.ep_simulation.specs.Promises.{CallsAreKept, OthersAreKept}
use Rattle.ep_simulation.specs.Scene.{AreLaidOut, GivenStand, Scene}
use Rattle.ep_simulation.specs.Simulates.{Simulates}
use Rattle.ep_object.specs.declared.code.Image.{Image}
use Rattle.ep_object.specs.declared.code.Object.{Object}
use Rattle.ep_meaning.specs.Steady.{IsSteadyHandler}
use Rattle.ep_meaning.specs.Calls.{Handler}
use Rattle.ep_meaning.specs.Meaning.{start_of, stop_of, handler_of}
use Rattle.ep_meaning.specs.Steps.{Computation}
use Rattle.ep_meaning.specs.Units.{GivenUnit, IsValid, declared_of}
use Rattle.ep_meaning.specs.Valid.{Declarations, IsStmt}
use Rattle.ep_typed.specs.Routines.{first_private, unit_variables}
use Rattle.ep_typed.specs.Trees.{Stmt}
use Rattle.ep_typed.specs.Viewed.{stmt_of}
use Rattle.ep_typed.specs.declared.unit.UnitVariable.{UnitVariable}
use Rattle.ep_typed.specs.declared.unit.Unit.{Unit as TypedUnit}

-- these variables of a unit are declared, from this number on
abbrev pub AreDeclared : Declarations → List ℕ → ℕ → List UnitVariable → Type 0
AreDeclared declared unit number vs = (i : ℕ) (v : UnitVariable) → slice_get vs i ≡ Some v
    → declared.variables unit (number + i) ≡ Some v

-- Wherever the object of a valid unit stands in an image whose units have names of their own, which has what is given
-- to the unit and is laid out so that what it declares is there, this routine of it simulates this with so many steps,
-- whatever calls do for which the routines that it may name keep their promises.
abbrev pub AreSimulated : (Object → ℕ) → (Handler → ℕ → TypedUnit → Computation (Unit {0})) → Type 0
AreSimulated routine does =
    (given : List GivenUnit) (u : TypedUnit) (o : Object) → IsUnitCode u o → IsValid given u
    → (G : Image) (ps : List Placement) (p : Placement) → Stands G ps p o → GivenStand G ps given → HasDistinctNames G
    → (layout : Layout) → AreLaidOut (declared_of given u) layout
    → (call : Handler) → IsSteadyHandler call → (n : ℕ) → CallsAreKept (declared_of given u) layout G ps call n
    → Simulates layout G p.unit (moved p.routines (routine o)) n (does call n u) Bare

-- Its start routine simulates the meaning of the start.
abbrev pub StartsAreSimulated : Type 0
StartsAreSimulated = AreSimulated (λ o. o.start) start_of

-- Its stop routine simulates that of the stop.
abbrev pub StopsAreSimulated : Type 0
StopsAreSimulated = AreSimulated (λ o. o.stop) stop_of

-- The same under any declarations of the unit's own block that have its types, its numbers of routines and its
-- variables, where all that is declared stands in the image and this statement is valid under them.
abbrev pub AreSimulatedUnder : (TypedUnit → Stmt) → (Object → ℕ)
    → (Handler → ℕ → TypedUnit → Computation (Unit {0})) → Type 0
AreSimulatedUnder block routine does =
    (declared : Declarations) (layout : Layout) (u : TypedUnit) (o : Object) → IsUnitCode u o
    → declared.types ≡ u.types → declared.levels ≡ [] → declared.home ≡ u.name
    → declared.first_private ≡ first_private u → AreDeclared declared u.name 0 (unit_variables u)
    → IsStmt declared (block u)
    → (G : Image) (ps : List Placement) (p : Placement) → Stands G ps p o → HasDistinctNames G
    → Scene declared layout G ps p o.texts
    → (call : Handler) → IsSteadyHandler call → (n : ℕ) → CallsAreKept declared layout G ps call n
    → Simulates layout G p.unit (moved p.routines (routine o)) n (does call n u) Bare

abbrev pub StartsAreSimulatedUnder : Type 0
StartsAreSimulatedUnder = AreSimulatedUnder (λ u. stmt_of u.start) (λ o. o.start) start_of

abbrev pub StopsAreSimulatedUnder : Type 0
StopsAreSimulatedUnder = AreSimulatedUnder (λ u. stmt_of u.stop) (λ o. o.stop) stop_of

-- The routines of a valid unit keep their promises for what calls mean among any units of which it is one, with so
-- many steps, however they are laid out, where those of other units that it may name keep theirs with up to so many.
abbrev pub RoutinesAreKept : Type 0
RoutinesAreKept =
    (given : List GivenUnit) (u : TypedUnit) (o : Object) → IsUnitCode u o → IsValid given u
    → (G : Image) (ps : List Placement) (p : Placement) → Stands G ps p o → GivenStand G ps given → HasDistinctNames G
    → (layout : Layout) → AreLaidOut (declared_of given u) layout → (units : List TypedUnit) → IsAmong units u
    → (n : ℕ)
    → ((m : ℕ) → m ≤ n → OthersAreKept (declared_of given u) layout G ps (handler_of units m) m)
    → CallsAreKept (declared_of given u) layout G ps (handler_of units n) n

-- The object of a unit implements it, whatever other units run with it.
abbrev pub ObjectsImplement : Type 0
ObjectsImplement = (u : TypedUnit) (o : Object) → IsUnitCode u o → ObjectImplements u o
