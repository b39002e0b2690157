-- A run that is worked out.
use Rattle.std.specs.Prelude.{codes}
use Rattle.std.proofs.Common.{◌≡◌, refl, ℕ, ℤ, pos, negsuc, List, [], ◌∷◌}
use Rattle.ep_object.specs.Runs.{begin, run_from, run_to, timed, trace_of}
use Rattle.ep_object.specs.State.{Stopped, Normal, Error}
use Rattle.ep_object.specs.declared.code.Image.{Image}
use Rattle.ep_object.specs.declared.code.Instr.{Instr}
use Rattle.ep_values.specs.Events.{Write}
use Rattle.ep_object.specs.declared.op.TheConstants as op
use Rattle.ep_values.specs.declared.run_error.TheConstants as run_error

abbrev instr : ℕ → ℤ → ℕ → Instr
instr code a b = record { op = code; a = a; b = b; line = 7 }

abbrev image : List Instr → Image
image code = record { units = record { name = codes "p"; slots = 1; start = 0; stop = 0 } ∷ []; routines = record { entry = 0; unit = 0; arguments = 0; slots = 0 } ∷ []; texts = codes "hi" ∷ []; constant_types = []; instructions = code }

abbrev greeting : Image
greeting = image (instr op.UNIT (negsuc 0) 1 ∷ instr op.TEXT (pos 0) 0 ∷ instr op.PUSH (pos 4) 0 ∷ instr op.FORM (pos 2) 1 ∷ instr op.PUT (pos 0) 0 ∷ instr op.RETURN (pos 0) 0 ∷ [])

-- `hi` is printed in four places: six instructions, 2 ticks to push the text, 2 to pop it, 4 to push the wider one, and 4 to pop that
writes : run_from greeting 18 (begin greeting) ≡ Stopped Normal (Write (codes "  hi") ∷ [])
writes = refl

-- a tick before, the piece is written
puts : trace_of (run_from greeting 17 (begin greeting)) ≡ Write (codes "  hi") ∷ []
puts = refl

-- and two ticks before it is not
waits : trace_of (run_from greeting 16 (begin greeting)) ≡ []
waits = refl

abbrev quotient : Image
quotient = image (instr op.PUSH (pos 2) 0 ∷ instr op.PUSH (pos 0) 0 ∷ instr op.DIV (pos 0) 0 ∷ [])

-- an error at the third tick
divides : run_from quotient 3 (begin quotient) ≡ Stopped (Error run_error.DIVISOR (codes "p") 7) []
divides = refl

steps : run_to quotient 100 (timed 0 (begin quotient)) ≡ timed 3 (Stopped (Error run_error.DIVISOR (codes "p") 7) [])
unfolding run_to
steps = refl
