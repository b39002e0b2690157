-- How code under construction grows.
use Rattle.std.specs.Prelude.{◌≡◌, ℕ, zero, suc, ◌+◌, ◌^◌, ◌<◌, List, [], ◌∷◌, ◌++◌, Some, length, slice_get}
use Rattle.ep_outside.specs.Known.{IsPrefix}
use Rattle.ep_gen_code.specs.Instructions.{reference}
use Rattle.ep_gen_code.specs.Referring.{type_reference}
use Rattle.ep_simulation.specs.Promises.{swap_routine}
use Rattle.ep_typed.specs.Routines.{first_private}
use Rattle.ep_object.specs.declared.code.Instr.{Instr}
use Rattle.ep_object.specs.declared.code.Reference.{Reference}
use Rattle.ep_typed.specs.declared.unit.Unit.{Unit as TypedUnit}
use Rattle.ep_gen_code.specs.declared.code.Code.{Code}
use Rattle.ep_gen_code.specs.declared.code.TheConstants as code

-- references to so many routines of a unit, from this number on
abbrev pub in_row : List ℕ → ℕ → ℕ → List Reference
in_row unit first zero = []
in_row unit first (suc n) = in_row unit first n ++ reference unit (first + n) ∷ []

-- no code of a unit yet, but for its first references
abbrev pub begun_code : TypedUnit → Code
begun_code u =
    record {
      instructions = [];
      texts = [];
      references = in_row u.name (swap_routine (first_private u)) (type_reference (length u.types));
      constant_types = [];
      line = code.NO_LINE;
    }

-- the item is none of the list
abbrev pub IsNowhere : {A : Type 0} → List A → A → Type 0
IsNowhere xs x = (k : ℕ) → slice_get xs k ≡ Some x → ⊥

-- no item stands at two places
abbrev pub AreDistinct : {A : Type 0} → List A → Type 0
AreDistinct {A} xs = (j k : ℕ) (x : A) → slice_get xs j ≡ Some x → slice_get xs k ≡ Some x → j ≡ k

-- a table has fewer than 2 ^ 32 items
abbrev pub IsTable : {A : Type 0} → List A → Type 0
IsTable xs = length xs < 2 ^ 32

-- a table has new items at its end, stays small, and has each item once
pub record TableGrows {A : Type 0} (old new : List A) : Type 0 where
  pub begins : IsPrefix old new
  pub small : IsTable old → IsTable new
  pub distinct : AreDistinct old → AreDistinct new

-- these instructions are appended, and all else is as before but for new items of the two tables
pub record Grows (old new : Code) (is : List Instr) : Type 0 where
  pub instructions : new.instructions ≡ old.instructions ++ is
  pub texts : TableGrows old.texts new.texts
  pub references : TableGrows old.references new.references
  pub constant_types : new.constant_types ≡ old.constant_types
  pub line : new.line ≡ old.line
