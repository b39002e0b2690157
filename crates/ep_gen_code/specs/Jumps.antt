-- Places of the code, and how jumps ahead get their goals.
use Rattle.std.specs.Prelude.{◌≡◌, ℕ, pos, ◌^◌, ◌-◌, ◌<◌, [], ◌∷◌, length, slice_set}
use Rattle.ep_gen_code.specs.Instructions.{instr}
use Rattle.ep_gen_code.specs.Growth.{Grows}
use Rattle.ep_gen_code.specs.declared.code.Code.{Code}
use Rattle.ep_object.specs.declared.code.Instr.{Instr}

-- the place after the code, where a next instruction stands: a number that a field of 32 bits holds
pub record IsNextPlace (code : Code) (k : ℕ) : Type 0 where
  pub is_length : k ≡ length code.instructions
  pub small : k < 2 ^ 32 - 1

-- one instruction is appended, at this place, that is to be replaced by a jump
pub record LeavesHole (old new : Code) (k : ℕ) : Type 0 where
  pub filler : Instr
  pub grows : Grows old new (filler ∷ [])
  pub is_length : k ≡ length old.instructions

-- in place of the filler stands a jump to the place after the code, and all else is as before
abbrev pub landed : Code → ℕ → ℕ → ℕ → Code
landed code hole jump line =
    record code {
      instructions = slice_set code.instructions hole (instr jump (pos (length code.instructions)) 0 line);
    }
