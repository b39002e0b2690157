-- What is printed of the operand on top.
use Rattle.std.specs.Prelude.{ℕ, ℤ, List, [], ◌∷◌, Option, None}
use Rattle.ep_object.specs.Operands.{Operand}
use Rattle.ep_object.specs.Texts.{printed}

-- what is printed of the operand on top
abbrev pub printed_top : ℤ → List Operand → Option (List ℕ)
printed_top a [] = None
printed_top a (x ∷ st) = printed a x
