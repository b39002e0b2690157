-- Calls of routines that leave operands in another order, some with a slot for a place.
use Rattle.std.proofs.Common.{◌≡◌, ℕ, suc, ◌+◌, ◌≤◌, inr, Bool, true, false, cond, ltb, List, [], ◌∷◌, Option, Some, None, length, map, replicate, ap, subst, ◌∙◌, refl, arith}
use Rattle.std.proofs.lemmas.Bool.Decides.{nat_tests}
use Rattle.ep_object.specs.Calls.{call_limit, top_of}
use Rattle.ep_simulation.specs.Follows.{Follows, IsNotLeft}
use Rattle.ep_simulation.specs.Matching.{MachineMemory, at}
use Rattle.ep_object.specs.Operands.{Operand, weights}
use Rattle.ep_simulation.specs.Promises.{CallsAt, IsShuffle}
use Rattle.ep_object.specs.Runs.{outcome, outcome_of, unit_in}
use Rattle.ep_object.specs.State.{Error, Frame, Running, State, Stopped}
use Rattle.ep_object.specs.declared.code.Image.{Image}
use Rattle.ep_object.specs.declared.code.ImageRoutine.{ImageRoutine}
use Rattle.ep_object.specs.declared.code.Instr.{Instr}
use Rattle.ep_object.specs.declared.state.FrameNumber.TheVariants as number
use Rattle.ep_object.specs.declared.state.Place.{Place as PlaceOf}
use Rattle.ep_object.proofs.public.Grows.{is_prefix}
use Rattle.ep_simulation.proofs.public.following.Bind.{follows_gives_up, follows_waits, gives_up}
use Rattle.ep_simulation.proofs.public.following.Routines.{lost_calls, not_left-called}
use Rattle.ep_simulation.proofs.public.matching.MoreMemory.{not_left-here}
use Rattle.ep_outside.specs.Known.{IsPrefix}
use Rattle.ep_values.specs.Events.{Trace}
use Rattle.ep_meaning.specs.Nameless.{with_depth}
use Rattle.ep_meaning.specs.Steady.{Steady}
use Rattle.ep_meaning.specs.Steps.{Computation}
use Rattle.ep_meaning.specs.Steps as meaning
use Rattle.ep_values.specs.declared.run_error.TheConstants as run_error

module _ (G : Image) (routine operands slots : ℕ) (code : (entry line : ℕ) → List Instr) (shuffle : IsShuffle G routine operands slots code) (place line : ℕ) (calls : CallsAt G place routine 0 line)
    (arguments over below : List Operand) (taken : top_of operands over ≡ Some (arguments, below)) (memory : MachineMemory) (trace : Trace) where
  abbrev pub its : ImageRoutine
  its = shuffle.its

  -- the frame of the call, with these arguments left, and with these places in its slots
  abbrev pub its_frame : List (Option Operand) → List (Option PlaceOf) → Frame
  its_frame left slots = record { routine = routine; arguments = left; slots = slots; parent = number.Unit its.unit; back = place + 1; made = [] }

  abbrev pub within : List (Option Operand) → List (Option PlaceOf) → MachineMemory
  within left slots = record memory { frames = record memory.frames { calls = its_frame left slots ∷ memory.frames.calls } }

  top_taken : top_of its.arguments over ≡ Some (arguments, below)
  top_taken = ap (λ n. top_of n over) shuffle.takes ∙ taken

  pub calls_it : (b : Bool) → ltb (length memory.frames.calls) call_limit ≡ b
      → outcome G (at place over memory trace)
      ≡ cond b (record { weight = weights arguments; to = Running 0 (at its.entry below (within (map Some arguments) (replicate slots None)) trace) }) (record { weight = weights arguments; to = Stopped (Error run_error.CALL_DEPTH (unit_in G memory.frames) calls.instruction.line) trace })
  calls_it true e =
      let fits : ltb routine (length G.routines) ≡ true = grind (arith, nat_tests, shuffle.numbered) in
      ap (λ o. outcome_of G o (at place over memory trace)) calls.stands ∙ rw (calls.is_call, calls.names, calls.parent, fits, shuffle.there, top_taken, e)
      (ap (λ n. record { weight = weights arguments; to = Running 0 (at its.entry below (within (map Some arguments) (replicate n None)) trace) }) shuffle.has_slots)
  calls_it false e =
      let fits : ltb routine (length G.routines) ≡ true = grind (arith, nat_tests, shuffle.numbered) in
      ap (λ o. outcome_of G o (at place over memory trace)) calls.stands ∙ rw (calls.is_call, calls.names, calls.parent, fits, shuffle.there, top_taken, e) refl

  -- While its call is under way the caller is not left.
  pub called : {Within : State → Type 0} → ((k : State) → IsNotLeft memory.frames k.frames → Within k) → (left : List (Option Operand)) (slots : List (Option PlaceOf)) (there : ℕ) (st : List Operand) → Within (at there st (within left slots) trace)
  called stays left slots there st = stays (at there st (within left slots) trace) (not_left-called memory.frames (within left slots).frames (its_frame left slots) (not_left-here (within left slots).frames))

  -- Where room is lost if too many calls are under way, of which one may be none of the meaning, the machine calls it.
  pub call_follows : {A : Type 0} {Within : State → Type 0} {n : ℕ} (s : meaning.State) {c : Computation A} {P : A → meaning.State → State → Type 0} {d : ℕ} {e : A → ℕ} → s.trace ≡ trace → Steady c
      → length memory.frames.calls ≤ suc (length s.calls)
      → ((k : State) → IsNotLeft memory.frames k.frames → Within k)
      → Follows Within G n (at its.entry below (within (map Some arguments) (replicate slots None)) trace) (with_depth s) c P d e
      → Follows Within G n (at place over memory trace) (with_depth s) c P (suc (weights arguments) + d) e
  call_follows {A = A} {Within = Within} {n = n} s {c = c} {P = P} {d = d} {e = e} same steady deep stays then = by_test (ltb (length memory.frames.calls) call_limit) refl
    where
      by_test : (b : Bool) → ltb (length memory.frames.calls) call_limit ≡ b → Follows Within G n (at place over memory trace) (with_depth s) c P (suc (weights arguments) + d) e
      by_test true t = follows_waits (stays (at place over memory trace) (not_left-here memory.frames)) (calls_it true t) then
      by_test false t =
          let full : 10000 ≤ length memory.frames.calls = grind (arith, nat_tests, t) in
          follows_gives_up steady (omega arith) (gives_up (calls_it false t) (inr refl) (subst (λ u. IsPrefix u s.trace) same (is_prefix s.trace)) (lost_calls (length s.calls) s.resources (omega (arith, full, deep))))
