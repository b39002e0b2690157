-- Structured types by their numbers.
use Rattle.std.specs.Prelude.{◌≡◌, ◌==◌, ℕ, List, Option, position}
use Rattle.std.specs.Map.{lookup}
use Rattle.ep_scope.specs.declared.structure.StructuredType.{StructuredType}

-- the place of the first of these types that has the number, counted from 0
abbrev pub type_number : List StructuredType → ℕ → Option ℕ
type_number types number = position (λ s. s.number == number) types

-- entries that have for each number that place
abbrev pub AreNumberPlaces : List (ℕ × ℕ) → List StructuredType → Type 0
AreNumberPlaces places types = (number : ℕ) → lookup (λ k. number == k) places ≡ type_number types number
