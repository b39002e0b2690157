-- A routine that leaves a range of indexes with what tests them.
use Rattle.std.proofs.Common.{◌≡◌, ℕ, ℤ, pos, suc, ◌+◌, ◌-◌, ◌≤◌, true, leb, List, [], ◌∷◌, Option, Some, None, length, refl, ap, ◌∙◌, arith}
use Rattle.std.proofs.lemmas.Bool.Decides.{nat_tests}
use Rattle.ep_object.specs.Calls.{top_of}
use Rattle.ep_simulation.specs.Follows.{Follows, IsNotLeft}
use Rattle.ep_simulation.specs.Matching.{MachineMemory, at}
use Rattle.ep_object.specs.Operands.{Operand, Word}
use Rattle.ep_object.specs.Operands as operand
use Rattle.ep_simulation.specs.Promises.{CallsAt, IsRange, ranging_code}
use Rattle.ep_object.specs.Runs.{outcome}
use Rattle.ep_object.specs.State.{Running, State}
use Rattle.ep_object.specs.declared.code.Image.{Image}
use Rattle.ep_object.specs.declared.op.TheConstants as op
use Rattle.ep_object.specs.declared.state.Place.{Place as PlaceOf}
use Rattle.ep_simulation.proofs.public.following.Bind.{follows_credit, follows_waits}
use Rattle.ep_simulation.proofs.following.Shuffling.{call_follows, called, within}
use Rattle.ep_simulation.proofs.public.rows.Rows.{in_one, instr, outcome_at}
use Rattle.ep_values.specs.Events.{Trace}
use Rattle.ep_meaning.specs.Nameless.{with_depth}
use Rattle.ep_meaning.specs.Steady.{Steady}
use Rattle.ep_meaning.specs.Steps.{Computation}
use Rattle.ep_meaning.specs.Steps as meaning

-- the ticks of a call of it
abbrev pub range_ticks : ℕ
range_ticks = 11

module _ (G : Image) (routine : ℕ) (range : IsRange G routine) (place line : ℕ) (calls : CallsAt G place routine 0 line) (p : PlaceOf) (low high : ℤ) (below : List Operand) (memory : MachineMemory) (trace : Trace) where
  -- what it takes, and what it leaves
  abbrev pub range_given : List Operand
  range_given = Word high ∷ Word low ∷ operand.Place p ∷ below

  abbrev pub range_left : List Operand
  range_left = Word low ∷ operand.Place p ∷ Word high ∷ operand.Place p ∷ operand.Place p ∷ Word high ∷ Word low ∷ below

  abbrev arguments : List Operand
  arguments = Word high ∷ Word low ∷ operand.Place p ∷ []

  taken : top_of 3 range_given ≡ Some (arguments, below)
  taken = let enough : leb 3 (length range_given) ≡ true = grind (arith, nat_tests) in rw enough refl

  abbrev all_left : List (Option Operand)
  all_left = Some (Word high) ∷ Some (Word low) ∷ Some (operand.Place p) ∷ []

  abbrev indexes_left : List (Option Operand)
  indexes_left = Some (Word high) ∷ Some (Word low) ∷ None ∷ []

  abbrev inside : List (Option Operand) → List (Option PlaceOf) → MachineMemory
  inside left slots = within G routine 3 1 (λ entry. ranging_code) range place line calls arguments range_given below taken memory trace left slots

  -- behind the instruction that puts the place into the slot
  abbrev bound : MachineMemory
  bound = inside indexes_left (Some p ∷ [])

  abbrev e : ℕ
  e = let i = range.its in i.entry

  -- So many instructions of it lead there, from where the place is in the slot.
  leaves_it : outcome G (at (e + 1 + 1 + 1 + 1 + 1 + 1 + 1 + 1 + 1) range_left bound trace) ≡ in_one (Running 0 (at (place + 1) range_left memory trace))
  leaves_it =
      let same : memory.live - 0 ≡ memory.live = omega arith in
      outcome_at G (instr op.RETURN (pos 0) 0 range.line) (e + 1 + 1 + 1 + 1 + 1 + 1 + 1 + 1 + 1) range_left bound trace range.stands.1.1.1.1.1.1.1.1.1.0
      ∙ ap (λ live. in_one (Running 0 (at (place + 1) range_left (record memory { live = live }) trace))) same

  -- Where room is lost if too many calls are under way, of which one may be none of the meaning, the machine calls it and
  -- goes on behind it.
  pub range_follows : {A : Type 0} {Within : State → Type 0} {n : ℕ} (s : meaning.State) {c : Computation A} {P : A → meaning.State → State → Type 0} {d : ℕ} {e : A → ℕ} → s.trace ≡ trace → Steady c
      → length memory.frames.calls ≤ suc (length s.calls)
      → ((k : State) → IsNotLeft memory.frames k.frames → Within k)
      → Follows Within G n (at (place + 1) range_left memory trace) (with_depth s) c P d e
      → Follows Within G n (at place range_given memory trace) (with_depth s) c P (range_ticks + d) e
  range_follows {Within = Within} {n = n} s {c = c} {P = P} {d = d} {e = f} same steady deep stays then =
      follows_credit {d = 1 + (1 + (1 + (1 + (1 + (1 + (1 + (1 + (1 + (1 + (1 + d))))))))))} {e = f} (omega arith) (λ a. omega arith)
      (call_follows G routine 3 1 (λ entry. ranging_code) range place line calls arguments range_given below taken memory trace s same steady deep stays
      (follows_waits (over all_left (None ∷ []) e below)
      (outcome_at G (instr op.ARG (pos 0) 0 range.line) e below (inside all_left (None ∷ [])) trace range.stands.0)
      (follows_waits (over indexes_left (None ∷ []) (e + 1) (operand.Place p ∷ below))
      (outcome_at G (instr op.BIND (pos 0) 0 range.line) (e + 1) (operand.Place p ∷ below) (inside indexes_left (None ∷ [])) trace range.stands.1.0)
      (follows_waits (over indexes_left (Some p ∷ []) (e + 1 + 1) below)
      (outcome_at G (instr op.PEEK (pos 1) 0 range.line) (e + 1 + 1) below bound trace range.stands.1.1.0)
      (follows_waits (over indexes_left (Some p ∷ []) (e + 1 + 1 + 1) (Word low ∷ below))
      (outcome_at G (instr op.PEEK (pos 2) 0 range.line) (e + 1 + 1 + 1) (Word low ∷ below) bound trace range.stands.1.1.1.0)
      (follows_waits (over indexes_left (Some p ∷ []) (e + 1 + 1 + 1 + 1) (Word high ∷ Word low ∷ below))
      (outcome_at G (instr op.SLOT (pos 0) 0 range.line) (e + 1 + 1 + 1 + 1) (Word high ∷ Word low ∷ below) bound trace range.stands.1.1.1.1.0)
      (follows_waits (over indexes_left (Some p ∷ []) (e + 1 + 1 + 1 + 1 + 1) (operand.Place p ∷ Word high ∷ Word low ∷ below))
      (outcome_at G (instr op.SLOT (pos 0) 0 range.line) (e + 1 + 1 + 1 + 1 + 1) (operand.Place p ∷ Word high ∷ Word low ∷ below) bound trace range.stands.1.1.1.1.1.0)
      (follows_waits (over indexes_left (Some p ∷ []) (e + 1 + 1 + 1 + 1 + 1 + 1) (operand.Place p ∷ operand.Place p ∷ Word high ∷ Word low ∷ below))
      (outcome_at G (instr op.PEEK (pos 2) 0 range.line) (e + 1 + 1 + 1 + 1 + 1 + 1) (operand.Place p ∷ operand.Place p ∷ Word high ∷ Word low ∷ below) bound trace range.stands.1.1.1.1.1.1.0)
      (follows_waits (over indexes_left (Some p ∷ []) (e + 1 + 1 + 1 + 1 + 1 + 1 + 1) (Word high ∷ operand.Place p ∷ operand.Place p ∷ Word high ∷ Word low ∷ below))
      (outcome_at G (instr op.SLOT (pos 0) 0 range.line) (e + 1 + 1 + 1 + 1 + 1 + 1 + 1) (Word high ∷ operand.Place p ∷ operand.Place p ∷ Word high ∷ Word low ∷ below) bound trace range.stands.1.1.1.1.1.1.1.0)
      (follows_waits (over indexes_left (Some p ∷ []) (e + 1 + 1 + 1 + 1 + 1 + 1 + 1 + 1) (operand.Place p ∷ Word high ∷ operand.Place p ∷ operand.Place p ∷ Word high ∷ Word low ∷ below))
      (outcome_at G (instr op.PEEK (pos 1) 0 range.line) (e + 1 + 1 + 1 + 1 + 1 + 1 + 1 + 1) (operand.Place p ∷ Word high ∷ operand.Place p ∷ operand.Place p ∷ Word high ∷ Word low ∷ below) bound trace range.stands.1.1.1.1.1.1.1.1.0)
      (follows_waits (over indexes_left (Some p ∷ []) (e + 1 + 1 + 1 + 1 + 1 + 1 + 1 + 1 + 1) range_left) leaves_it then)))))))))))
    where
      over : (left : List (Option Operand)) (slots : List (Option PlaceOf)) (there : ℕ) (st : List Operand) → Within (at there st (inside left slots) trace)
      over left slots there st = called G routine 3 1 (λ entry. ranging_code) range place line calls arguments range_given below taken memory trace {Within = Within} stays left slots there st
