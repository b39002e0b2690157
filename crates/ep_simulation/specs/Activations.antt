-- What a routine that was called knows while it runs: where its variables and those of the routines around it are, and
-- what was made in its call.
use Rattle.std.specs.Prelude.{◌≡◌, ℕ, zero, suc, ◌+◌, ◌<◌, List, [], ◌∷◌, length, Option, Some, slice_get, ⊤}
use Rattle.ep_simulation.specs.Follows.{Facts, StillRuns}
use Rattle.ep_object.specs.Frames.{level_slots}
use Rattle.ep_simulation.specs.Matching.{MachineMemory, Injection, IsIn, IsLike, MatchesSlot, own_slot, HasOwnType}
use Rattle.ep_simulation.specs.Matching.{HasTypeUnder, Slots, Grown}
use Rattle.ep_object.specs.State.{Frame}
use Rattle.ep_object.specs.declared.state.Place.{Place}
use Rattle.ep_meaning.specs.Steps.{Call, Variables, named_in, own_variable}
use Rattle.ep_meaning.specs.Steps as meaning
use Rattle.ep_meaning.specs.Valid.{Declarations, Level, variables_up}
use Rattle.ep_typed.specs.declared.unit.UnitType.{UnitType}
use Rattle.ep_typed.specs.declared.unit.UnitVariable.{UnitVariable}
use Rattle.ep_values.specs.TypeValues.{TypeValue}

-- A variable of the routine has a slot in the frame of its call: it holds a place of the variable once that is made,
-- of a
-- type that describes the one of the declaration, and none before.
pub record OwnSlot (declared : Declarations) (injection : Injection) (s : meaning.State) (memory : MachineMemory)
    (k : ℕ) (v : UnitVariable) : Type 0 where
  pub slot : Option Place
  pub is : own_slot memory.frames k ≡ Some slot
  pub matches : MatchesSlot injection memory.types (own_variable 0 k s) slot
  pub described : (place : Place) (t : TypeValue) → slot ≡ Some place → HasOwnType declared v t
      → IsLike memory.types place.type_number t

-- each variable has one of the routine in whose block names are declared so
abbrev pub MatchesOwn : Declarations → Facts
MatchesOwn declared injection s memory =
    (k : ℕ) (v : UnitVariable) → slice_get (variables_up declared 0) k ≡ Some v
    → OwnSlot declared injection s memory k v

-- ---- the routines around

-- A variable of a routine around has a slot among these: it holds a place of the variable once that is made, of a type
-- that
-- describes the one of the declaration, but for initial states, and none before.
pub record LevelSlot (types : List UnitType) (injection : Injection) (variables : Variables)
    (slots : List (Option Place))
    (memory : MachineMemory) (k : ℕ) (v : UnitVariable) : Type 0 where
  pub slot : Option Place
  pub is : slice_get slots k ≡ Some slot
  pub matches : MatchesSlot injection memory.types (variables k) slot
  pub described : (place : Place) (t : TypeValue) → slot ≡ Some place → HasTypeUnder types v t
      → IsLike memory.types place.type_number t

-- The activation so many levels up from the one that runs has a frame so many levels up from the innermost call, in
-- which
-- the variables of this routine of a unit with these types match.
pub record LevelMatches (types : List UnitType) (level : Level) (injection : Injection) (calls : List Call)
    (memory : MachineMemory) (up : ℕ) : Type 0 where
  pub slots : List (Option Place)
  pub are : level_slots memory.frames.calls up ≡ Some slots
  pub variables : Variables
  pub named : slice_get (named_in calls) up ≡ Some variables
  pub holds : (k : ℕ) (v : UnitVariable) → slice_get level.variables k ≡ Some v
      → LevelSlot types injection variables slots memory k v

-- each routine around the one in whose block names are declared so has one
abbrev pub MatchesAround : Declarations → Facts
MatchesAround declared injection s memory =
    (up : ℕ) (level : Level) → slice_get declared.levels (suc up) ≡ Some level
    → LevelMatches declared.types level injection s.calls memory (suc up)

-- a call is under way on both sides
pub record IsUnderWay (s : meaning.State) (memory : MachineMemory) : Type 0 where
  pub frame : Frame
  pub below : List Frame
  pub frames : memory.frames.calls ≡ frame ∷ below
  pub call : Call
  pub others : List Call
  pub calls : s.calls ≡ call ∷ others

-- The variables of the routine in whose block names are declared so and of the routines around it match. Where there
-- is
-- such a routine, a call of it is under way.
pub record MatchesNames (declared : Declarations) (injection : Injection) (s : meaning.State)
    (memory : MachineMemory) : Type 0 where
  pub own : MatchesOwn declared injection s memory
  pub around : MatchesAround declared injection s memory
  pub under_way : (level : Level) → slice_get declared.levels 0 ≡ Some level → IsUnderWay s memory

-- facts by which they match
abbrev pub KnowsNames : Declarations → Facts → Type 0
KnowsNames declared Here =
    (injection : Injection) (s : meaning.State) (memory : MachineMemory) → Here injection s memory
    → MatchesNames declared injection s memory

-- What a call needs of the activation that makes it, where the routine is declared so many levels up: 0 says that none
-- is
-- around it, and other numbers that the ones around it are those of the activations from that level less one on.
abbrev pub IsCallable : List UnitType → ℕ → List Level → Injection → List Call → MachineMemory → Type 0
IsCallable types zero around injection calls memory = around ≡ []
IsCallable types (suc up) around injection calls memory =
    (0 < length around)
    × ((n : ℕ) (level : Level) → slice_get around n ≡ Some level
    → LevelMatches types level injection calls memory (up + n))

-- ---- a call under way

-- these allocations are in these segments, in order, and none is a standard file
abbrev pub AreMade : Injection → List ℕ → List ℕ → Type 0
AreMade injection [] [] = ⊤
AreMade injection [] (segment ∷ segments) = ⊥
AreMade injection (n ∷ ns) [] = ⊥
AreMade injection (n ∷ ns) (segment ∷ segments) = IsIn injection n segment × (2 < n) × AreMade injection ns segments

-- What code of a routine knows since its call was made, in this memory: the call is under way, its variables match,
-- and the
-- allocations that were made in it are those of the segments that were.
pub record InActivation (declared : Declarations) (untouched : Slots) (injection : Injection) (memory : MachineMemory)
    (longer : Injection) (s : meaning.State) (after : MachineMemory) : Type 0 where
  pub grown : Grown untouched injection memory longer after
  pub runs : StillRuns memory.frames after.frames
  pub frame : Frame
  pub below : List Frame
  pub frames : after.frames.calls ≡ frame ∷ below
  pub call : Call
  pub others : List Call
  pub calls : s.calls ≡ call ∷ others
  pub own : MatchesOwn declared longer s after
  pub around : MatchesAround declared longer s after
  pub made : AreMade longer call.made frame.made
