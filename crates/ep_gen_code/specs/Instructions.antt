-- Instructions as code has them.
use Rattle.std.specs.Prelude.{ℕ, ℤ, pos, ◌+◌, List, [], ◌∷◌, length}
pub use Rattle.ep_object.specs.Table.{instr}
use Rattle.ep_object.specs.declared.code.Instr.{Instr}
use Rattle.ep_object.specs.declared.code.Reference.{Reference}
use Rattle.ep_object.specs.declared.op.TheConstants as op

-- The place behind code that begins at this one. A form writes its places by its parts, in their order: what is behind
-- code, an instruction and more code is `at ▸ first + 1 ▸ second`.
infixl 65 ◌▸◌
abbrev pub ◌▸◌ : ℕ → List Instr → ℕ
at ▸ is = at + length is

-- a reference to this routine or slot of a unit
abbrev pub reference : List ℕ → ℕ → Reference
reference unit number = record { unit = unit; number = number }

module _ (line : ℕ) where
  -- an instruction with no field
  abbrev pub bare : ℕ → Instr
  bare code = instr code (pos 0) 0 line

  -- `Push`
  abbrev pub push : ℤ → Instr
  push z = instr op.PUSH z 0 line

  -- after a set: `Push` and `SetAdd` of each of these members
  abbrev pub members_code : List ℕ → List Instr
  members_code [] = []
  members_code (m ∷ ms) = push (pos m) ∷ bare op.SET_ADD ∷ members_code ms
