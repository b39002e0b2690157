-- Lists of places that tell whether they have a place.
use Rattle.std.specs.Prelude.{◌≡◌, ℕ, Bool, true, List, ◌↔◌, slice_get, Some}
use Rattle.std.specs.List.{Contains}

-- the places of a list, the limit that all are below, and how many of the numbers below it are none of them
pub record PlaceList : Type 0 where
  pub items : List ℕ
  pub limit : ℕ
  pub left : ℕ

-- the flags tell exactly which places the list has
abbrev pub AreFlagsOf : List Bool → List ℕ → Type 0
AreFlagsOf flags items = (place : ℕ) → (slice_get flags place ≡ Some true) ↔ Contains items place
