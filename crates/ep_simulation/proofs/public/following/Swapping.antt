-- A routine that takes two operands and leaves them in the other order.
use Rattle.std.proofs.Common.{◌≡◌, ℕ, pos, suc, ◌+◌, ◌-◌, ◌*◌, ◌≤◌, true, leb, List, [], ◌∷◌, Option, Some, None, length, replicate, refl, ap, ◌∙◌, arith}
use Rattle.std.proofs.lemmas.Bool.Decides.{nat_tests}
use Rattle.ep_object.specs.Calls.{top_of}
use Rattle.ep_simulation.specs.Follows.{Follows, IsNotLeft}
use Rattle.ep_simulation.specs.Matching.{MachineMemory, at}
use Rattle.ep_object.specs.Operands.{Operand, weight, weights}
use Rattle.ep_simulation.specs.Promises.{CallsAt, IsShuffle, IsSwap, swapping_code}
use Rattle.ep_object.specs.Runs.{outcome}
use Rattle.ep_object.specs.State.{Running, State}
use Rattle.ep_object.specs.declared.code.Image.{Image}
use Rattle.ep_object.specs.declared.op.TheConstants as op
use Rattle.ep_simulation.proofs.public.following.Bind.{follows_credit, follows_waits}
use Rattle.ep_simulation.proofs.following.Shuffling.{call_follows, called, within}
use Rattle.ep_simulation.proofs.public.rows.Rows.{in_one, instr, outcome_at}
use Rattle.ep_values.specs.Events.{Trace}
use Rattle.ep_meaning.specs.Nameless.{with_depth}
use Rattle.ep_meaning.specs.Steady.{Steady}
use Rattle.ep_meaning.specs.Steps.{Computation}
use Rattle.ep_meaning.specs.Steps as meaning

-- the ticks of a call of it, with those operands
abbrev pub swap_ticks : Operand → Operand → ℕ
swap_ticks x y = 4 + 2 * (weight x + weight y)

module _ (G : Image) (routine : ℕ) (swap : IsSwap G routine) (place line : ℕ) (calls : CallsAt G place routine 0 line) (x y : Operand) (below : List Operand) (memory : MachineMemory) (trace : Trace) where
  abbrev shuffle : IsShuffle G routine 2 swap.slots (λ entry. swapping_code)
  shuffle = swap.shuffles

  abbrev arguments : List Operand
  arguments = y ∷ x ∷ []

  taken : top_of 2 (y ∷ x ∷ below) ≡ Some (arguments, below)
  taken = let enough : leb 2 (length (y ∷ x ∷ below)) ≡ true = grind (arith, nat_tests) in rw enough refl

  -- with these arguments left
  abbrev inside : List (Option Operand) → MachineMemory
  inside left = within G routine 2 swap.slots (λ entry. swapping_code) shuffle place line calls arguments (y ∷ x ∷ below) below taken memory trace left (replicate swap.slots None)

  abbrev e : ℕ
  e = let i = shuffle.its in i.entry

  takes_upper : outcome G (at e below (inside (Some y ∷ Some x ∷ [])) trace) ≡ record { weight = weight y; to = Running 0 (at (e + 1) (y ∷ below) (inside (None ∷ Some x ∷ [])) trace) }
  takes_upper = outcome_at G (instr op.ARG (pos 1) 0 shuffle.line) e below (inside (Some y ∷ Some x ∷ [])) trace shuffle.stands.0

  takes_lower : outcome G (at (e + 1) (y ∷ below) (inside (None ∷ Some x ∷ [])) trace) ≡ record { weight = weight x; to = Running 0 (at (e + 1 + 1) (x ∷ y ∷ below) (inside (None ∷ None ∷ [])) trace) }
  takes_lower = outcome_at G (instr op.ARG (pos 0) 0 shuffle.line) (e + 1) (y ∷ below) (inside (None ∷ Some x ∷ [])) trace shuffle.stands.1.0

  leaves_it : outcome G (at (e + 1 + 1) (x ∷ y ∷ below) (inside (None ∷ None ∷ [])) trace) ≡ in_one (Running 0 (at (place + 1) (x ∷ y ∷ below) memory trace))
  leaves_it =
      let same : memory.live - 0 ≡ memory.live = omega arith in
      outcome_at G (instr op.RETURN (pos 0) 0 shuffle.line) (e + 1 + 1) (x ∷ y ∷ below) (inside (None ∷ None ∷ [])) trace shuffle.stands.1.1.0
      ∙ ap (λ live. in_one (Running 0 (at (place + 1) (x ∷ y ∷ below) (record memory { live = live }) trace))) same

  -- Where room is lost if too many calls are under way, of which one may be none of the meaning, the machine calls it and goes on
  -- with the operands in the other order.
  pub swap_follows : {A : Type 0} {Within : State → Type 0} {n : ℕ} (s : meaning.State) {c : Computation A} {P : A → meaning.State → State → Type 0} {d : ℕ} {e : A → ℕ} → s.trace ≡ trace → Steady c
      → length memory.frames.calls ≤ suc (length s.calls)
      → ((k : State) → IsNotLeft memory.frames k.frames → Within k)
      → Follows Within G n (at (place + 1) (x ∷ y ∷ below) memory trace) (with_depth s) c P d e
      → Follows Within G n (at place (y ∷ x ∷ below) memory trace) (with_depth s) c P (swap_ticks x y + d) e
  swap_follows {Within = Within} {n = n} s {c = c} {P = P} {d = d} {e = f} same steady deep stays then =
      follows_credit {d = suc (weights arguments) + (suc (weight y) + (suc (weight x) + (1 + d)))} {e = f} (omega arith) (λ a. omega arith)
      (call_follows G routine 2 swap.slots (λ entry. swapping_code) shuffle place line calls arguments (y ∷ x ∷ below) below taken memory trace s same steady deep stays
      (follows_waits (over (Some y ∷ Some x ∷ []) e below) takes_upper
      (follows_waits (over (None ∷ Some x ∷ []) (e + 1) (y ∷ below)) takes_lower
      (follows_waits (over (None ∷ None ∷ []) (e + 1 + 1) (x ∷ y ∷ below)) leaves_it then))))
    where
      over : (left : List (Option Operand)) (there : ℕ) (st : List Operand) → Within (at there st (inside left) trace)
      over left there st = called G routine 2 swap.slots (λ entry. swapping_code) shuffle place line calls arguments (y ∷ x ∷ below) below taken memory trace {Within = Within} stays left (replicate swap.slots None) there st
