-- What the rows on frames lead to: `Slot` in a call, and of a frame so many levels up.
use Rattle.std.proofs.Common.{◌≡◌, ℕ, pos, ◌+◌, List, ◌∷◌, length, Option, Some, None, slice_get, refl, ◌∙◌}
use Rattle.std.proofs.lemmas.Bool.{lt-ltb}
use Rattle.std.proofs.lemmas.Option.{slice_get_within}
use Rattle.ep_object.specs.Frames.{slots_up}
use Rattle.ep_simulation.specs.Matching.{MachineMemory, at}
use Rattle.ep_object.specs.Operands.{Operand}
use Rattle.ep_object.specs.Operands as operand
use Rattle.ep_object.specs.Runs.{outcome, unit_in}
use Rattle.ep_object.specs.State.{Frame, Running, Stopped, Error}
use Rattle.ep_object.specs.declared.code.Image.{Image}
use Rattle.ep_object.specs.declared.op.TheConstants as op
use Rattle.ep_object.specs.declared.state.Place.{Place}
use Rattle.ep_simulation.proofs.public.rows.Rows.{instr, in_one, outcome_at}
use Rattle.ep_values.specs.Events.{Trace}
use Rattle.ep_values.specs.declared.run_error.TheConstants as run_error

-- the innermost call has its own slots
pub own_slots : (memory : MachineMemory) (c : Frame) (calls : List Frame) → memory.frames.calls ≡ c ∷ calls
    → slots_up memory.frames 0 ≡ Some c.slots
own_slots memory c calls h = rw h refl

module _ (G : Image) (place line k up : ℕ) (below : List Operand) (slots : List (Option Place)) (memory : MachineMemory) (trace : Trace) (has : slice_get G.instructions place ≡ Some (instr op.SLOT (pos k) up line)) (frame : slots_up memory.frames up ≡ Some slots) where
  -- `Slot`, where the slot of the frame so many levels up holds a place
  pub slot_pushes : (p : Place) → slice_get slots k ≡ Some (Some p)
      → outcome G (at place below memory trace) ≡ in_one (Running 0 (at (place + 1) (operand.Place p ∷ below) memory trace))
  slot_pushes p holds =
      outcome_at G (instr op.SLOT (pos k) up line) place below memory trace has ∙ rw (frame, lt-ltb k (length slots) (slice_get_within slots k (Some p) holds), holds) refl

  -- and where it holds none yet
  pub slot_misses : slice_get slots k ≡ Some None
      → outcome G (at place below memory trace) ≡ in_one (Stopped (Error run_error.UNDEFINED_VALUE (unit_in G memory.frames) line) trace)
  slot_misses holds =
      outcome_at G (instr op.SLOT (pos k) up line) place below memory trace has ∙ rw (frame, lt-ltb k (length slots) (slice_get_within slots k None holds), holds) refl
