-- Where the routines in a routine stand among those of a unit, by number.
use Rattle.std.specs.Prelude.{◌≡◌, ◌==◌, ◌≤◌, ℕ, nat_eq, true, false, List, ◌++◌, map, Option, Some, None, slice_get}
use Rattle.std.specs.List.{list_any}
use Rattle.std.specs.Map.{lookup}
use Rattle.ep_typed.specs.declared.unit.UnitRoutine.{UnitRoutine}

-- the place that is noted for a number
abbrev pub noted : List (ℕ × ℕ) → ℕ → Option ℕ
noted places number = lookup (λ k. number == k) places

-- a place is noted that does not come behind this one
abbrev pub IsNotBehind : Option ℕ → ℕ → Type 0
IsNotBehind None place = ⊥
IsNotBehind (Some first) place = first ≤ place

-- for a number one is
abbrev pub IsNoted : List (ℕ × ℕ) → ℕ → ℕ → Type 0
IsNoted places number place = IsNotBehind (noted places number) place

-- and for each of these
abbrev pub AreNoted : List (ℕ × ℕ) → List ℕ → ℕ → Type 0
AreNoted places numbers place = (n : ℕ) → list_any (nat_eq n) numbers ≡ true → IsNoted places n place

-- what is noted stays so, or comes further in front
abbrev pub KeepsNoted : List (ℕ × ℕ) → List (ℕ × ℕ) → Type 0
KeepsNoted old new = (n place : ℕ) → IsNoted old n place → IsNoted new n place

-- the routines around each of these
abbrev pub all_around : List UnitRoutine → List (List ℕ)
all_around routines = map (λ r. r.around) routines

-- for each routine around one of these a place is noted that does not come behind it
abbrev pub ArePlaces : List (ℕ × ℕ) → List (List ℕ) → Type 0
ArePlaces places arounds = (k : ℕ) (around : List ℕ) → slice_get arounds k ≡ Some around → AreNoted places around k

-- the routine of this number is around none of these
abbrev pub NoneIsIn : ℕ → List UnitRoutine → Type 0
NoneIsIn routine rs =
    (k : ℕ) (around : List ℕ) → slice_get (all_around rs) k ≡ Some around → list_any (nat_eq routine) around ≡ false

-- some of the last routines, with all that are in the one of this number
pub record AreBehind (routine : ℕ) (all behind : List UnitRoutine) : Type 0 where
  pub front : List UnitRoutine
  pub whole : all ≡ front ++ behind
  pub none : NoneIsIn routine front
