-- A routine that leaves what the components with the indexes of a range are given by.
use Rattle.std.proofs.Common.{◌≡◌, ℕ, ℤ, pos, suc, ◌+◌, ◌-◌, ◌*◌, ◌≤◌, true, leb, List, [], ◌∷◌, Option, Some, None, length, refl, ap, ◌∙◌, arith}
use Rattle.std.proofs.lemmas.Bool.Decides.{nat_tests}
use Rattle.std.specs.Prelude.{int_le}
use Rattle.ep_object.specs.Calls.{top_of}
use Rattle.ep_simulation.specs.Follows.{Follows, IsNotLeft}
use Rattle.ep_simulation.specs.Matching.{MachineMemory, at}
use Rattle.ep_object.specs.Operands.{Operand, Word, weight}
use Rattle.ep_object.specs.Operands as operand
use Rattle.ep_simulation.specs.Promises.{CallsAt, IsSpread, spreading_code}
use Rattle.ep_object.specs.Runs.{outcome}
use Rattle.ep_object.specs.State.{Running, State}
use Rattle.ep_object.specs.declared.code.Image.{Image}
use Rattle.ep_object.specs.declared.op.TheConstants as op
use Rattle.ep_object.specs.declared.state.Place.{Place as PlaceOf}
use Rattle.ep_simulation.proofs.public.following.Bind.{follows_credit, follows_waits}
use Rattle.ep_simulation.proofs.following.Shuffling.{call_follows, called, within}
use Rattle.ep_simulation.proofs.public.rows.Rows.{at_most_answers, in_one, instr, outcome_at}
use Rattle.ep_values.specs.Events.{Trace}
use Rattle.ep_meaning.specs.Nameless.{with_depth}
use Rattle.ep_values.specs.Operations.{ordinal_of}
use Rattle.ep_meaning.specs.Steady.{Steady}
use Rattle.ep_meaning.specs.Steps.{Computation}
use Rattle.ep_meaning.specs.Steps as meaning

-- the ticks of a call of it, with a value of this weight
abbrev pub spread_ticks : ℕ → ℕ
spread_ticks w = 16 + 4 * w

module _ (G : Image) (routine : ℕ) (spread : IsSpread G routine) (place line : ℕ) (calls : CallsAt G place routine 0 line) (low high : ℤ) (p : PlaceOf) (o : Operand) (below : List Operand) (memory : MachineMemory) (trace : Trace) where
  -- what it takes, and what it leaves
  abbrev pub spread_given : List Operand
  spread_given = o ∷ o ∷ operand.Place p ∷ Word high ∷ Word low ∷ below

  -- without the test
  abbrev pub spread_left : List Operand
  spread_left = Word low ∷ operand.Place p ∷ o ∷ Word high ∷ Word low ∷ Word low ∷ operand.Place p ∷ o ∷ operand.Place p ∷ below

  abbrev arguments : List Operand
  arguments = o ∷ o ∷ operand.Place p ∷ Word high ∷ Word low ∷ []

  taken : top_of 5 spread_given ≡ Some (arguments, below)
  taken = let enough : leb 5 (length spread_given) ≡ true = grind (arith, nat_tests) in rw enough refl

  abbrev left_by : Option Operand → Option Operand → Option Operand → List (Option Operand)
  left_by upper lower array = upper ∷ lower ∷ array ∷ Some (Word high) ∷ Some (Word low) ∷ []

  abbrev inside : List (Option Operand) → List (Option PlaceOf) → MachineMemory
  inside left slots = within G routine 5 1 (λ entry. spreading_code) spread place line calls arguments spread_given below taken memory trace left slots

  -- behind the instruction that puts the place into the slot; where the lower value is taken, and where both are
  abbrev bound : MachineMemory
  bound = inside (left_by (Some o) (Some o) None) (Some p ∷ [])

  abbrev one_taken : MachineMemory
  one_taken = inside (left_by (Some o) None None) (Some p ∷ [])

  abbrev both_taken : MachineMemory
  both_taken = inside (left_by None None None) (Some p ∷ [])

  abbrev e : ℕ
  e = let i = spread.its in i.entry

  -- with the value and the place below what the routine that fills takes
  abbrev row : List Operand
  row = Word high ∷ Word low ∷ Word low ∷ operand.Place p ∷ o ∷ operand.Place p ∷ below

  abbrev tested : List Operand
  tested = Word (ordinal_of (int_le low high)) ∷ spread_left

  leaves_it : outcome G (at (e + 1 + 1 + 1 + 1 + 1 + 1 + 1 + 1 + 1 + 1 + 1 + 1 + 1 + 1) tested both_taken trace) ≡ in_one (Running 0 (at (place + 1) tested memory trace))
  leaves_it =
      let same : memory.live - 0 ≡ memory.live = omega arith in
      outcome_at G (instr op.RETURN (pos 0) 0 spread.line) (e + 1 + 1 + 1 + 1 + 1 + 1 + 1 + 1 + 1 + 1 + 1 + 1 + 1 + 1) tested both_taken trace spread.stands.1.1.1.1.1.1.1.1.1.1.1.1.1.1.0
      ∙ ap (λ live. in_one (Running 0 (at (place + 1) tested (record memory { live = live }) trace))) same

  -- Where room is lost if too many calls are under way, of which one may be none of the meaning, the machine calls it and goes on
  -- behind it, with whether the first index is at most the last one on top.
  pub spread_follows : {A : Type 0} {Within : State → Type 0} {n : ℕ} (s : meaning.State) {c : Computation A} {P : A → meaning.State → State → Type 0} {d : ℕ} {e : A → ℕ} → s.trace ≡ trace → Steady c
      → length memory.frames.calls ≤ suc (length s.calls)
      → ((k : State) → IsNotLeft memory.frames k.frames → Within k)
      → Follows Within G n (at (place + 1) (Word (ordinal_of (int_le low high)) ∷ spread_left) memory trace) (with_depth s) c P d e
      → Follows Within G n (at place spread_given memory trace) (with_depth s) c P (spread_ticks (weight o) + d) e
  spread_follows {Within = Within} {n = n} s {c = c} {P = P} {d = d} {e = f} same steady deep stays then =
      follows_credit {d = suc (weight o + (weight o + 0)) + (1 + (1 + (1 + (suc (weight o) + (1 + (1 + (1 + (1 + (suc (weight o) + (1 + (1 + (1 + (1 + (1 + (1 + d)))))))))))))))} {e = f} (omega arith) (λ a. omega arith)
      (call_follows G routine 5 1 (λ entry. spreading_code) spread place line calls arguments spread_given below taken memory trace s same steady deep stays
      (follows_waits (over (left_by (Some o) (Some o) (Some (operand.Place p))) (None ∷ []) e below)
      (outcome_at G (instr op.ARG (pos 2) 0 spread.line) e below (inside (left_by (Some o) (Some o) (Some (operand.Place p))) (None ∷ [])) trace spread.stands.0)
      (follows_waits (over (left_by (Some o) (Some o) None) (None ∷ []) (e + 1) (operand.Place p ∷ below))
      (outcome_at G (instr op.BIND (pos 0) 0 spread.line) (e + 1) (operand.Place p ∷ below) (inside (left_by (Some o) (Some o) None) (None ∷ [])) trace spread.stands.1.0)
      (follows_waits (over (left_by (Some o) (Some o) None) (Some p ∷ []) (e + 1 + 1) below)
      (outcome_at G (instr op.SLOT (pos 0) 0 spread.line) (e + 1 + 1) below bound trace spread.stands.1.1.0)
      (follows_waits (over (left_by (Some o) (Some o) None) (Some p ∷ []) (e + 1 + 1 + 1) (operand.Place p ∷ below))
      (outcome_at G (instr op.ARG (pos 3) 0 spread.line) (e + 1 + 1 + 1) (operand.Place p ∷ below) bound trace spread.stands.1.1.1.0)
      (follows_waits (over (left_by (Some o) None None) (Some p ∷ []) (e + 1 + 1 + 1 + 1) (o ∷ operand.Place p ∷ below))
      (outcome_at G (instr op.SLOT (pos 0) 0 spread.line) (e + 1 + 1 + 1 + 1) (o ∷ operand.Place p ∷ below) one_taken trace spread.stands.1.1.1.1.0)
      (follows_waits (over (left_by (Some o) None None) (Some p ∷ []) (e + 1 + 1 + 1 + 1 + 1) (operand.Place p ∷ o ∷ operand.Place p ∷ below))
      (outcome_at G (instr op.PEEK (pos 0) 0 spread.line) (e + 1 + 1 + 1 + 1 + 1) (operand.Place p ∷ o ∷ operand.Place p ∷ below) one_taken trace spread.stands.1.1.1.1.1.0)
      (follows_waits (over (left_by (Some o) None None) (Some p ∷ []) (e + 1 + 1 + 1 + 1 + 1 + 1) (Word low ∷ operand.Place p ∷ o ∷ operand.Place p ∷ below))
      (outcome_at G (instr op.PEEK (pos 0) 0 spread.line) (e + 1 + 1 + 1 + 1 + 1 + 1) (Word low ∷ operand.Place p ∷ o ∷ operand.Place p ∷ below) one_taken trace spread.stands.1.1.1.1.1.1.0)
      (follows_waits (over (left_by (Some o) None None) (Some p ∷ []) (e + 1 + 1 + 1 + 1 + 1 + 1 + 1) (Word low ∷ Word low ∷ operand.Place p ∷ o ∷ operand.Place p ∷ below))
      (outcome_at G (instr op.PEEK (pos 1) 0 spread.line) (e + 1 + 1 + 1 + 1 + 1 + 1 + 1) (Word low ∷ Word low ∷ operand.Place p ∷ o ∷ operand.Place p ∷ below) one_taken trace spread.stands.1.1.1.1.1.1.1.0)
      (follows_waits (over (left_by (Some o) None None) (Some p ∷ []) (e + 1 + 1 + 1 + 1 + 1 + 1 + 1 + 1) row)
      (outcome_at G (instr op.ARG (pos 4) 0 spread.line) (e + 1 + 1 + 1 + 1 + 1 + 1 + 1 + 1) row one_taken trace spread.stands.1.1.1.1.1.1.1.1.0)
      (follows_waits (over (left_by None None None) (Some p ∷ []) (e + 1 + 1 + 1 + 1 + 1 + 1 + 1 + 1 + 1) (o ∷ row))
      (outcome_at G (instr op.SLOT (pos 0) 0 spread.line) (e + 1 + 1 + 1 + 1 + 1 + 1 + 1 + 1 + 1) (o ∷ row) both_taken trace spread.stands.1.1.1.1.1.1.1.1.1.0)
      (follows_waits (over (left_by None None None) (Some p ∷ []) (e + 1 + 1 + 1 + 1 + 1 + 1 + 1 + 1 + 1 + 1) (operand.Place p ∷ o ∷ row))
      (outcome_at G (instr op.PEEK (pos 0) 0 spread.line) (e + 1 + 1 + 1 + 1 + 1 + 1 + 1 + 1 + 1 + 1) (operand.Place p ∷ o ∷ row) both_taken trace spread.stands.1.1.1.1.1.1.1.1.1.1.0)
      (follows_waits (over (left_by None None None) (Some p ∷ []) (e + 1 + 1 + 1 + 1 + 1 + 1 + 1 + 1 + 1 + 1 + 1) spread_left)
      (outcome_at G (instr op.PEEK (pos 0) 0 spread.line) (e + 1 + 1 + 1 + 1 + 1 + 1 + 1 + 1 + 1 + 1 + 1) spread_left both_taken trace spread.stands.1.1.1.1.1.1.1.1.1.1.1.0)
      (follows_waits (over (left_by None None None) (Some p ∷ []) (e + 1 + 1 + 1 + 1 + 1 + 1 + 1 + 1 + 1 + 1 + 1 + 1) (Word low ∷ spread_left))
      (outcome_at G (instr op.PEEK (pos 1) 0 spread.line) (e + 1 + 1 + 1 + 1 + 1 + 1 + 1 + 1 + 1 + 1 + 1 + 1) (Word low ∷ spread_left) both_taken trace spread.stands.1.1.1.1.1.1.1.1.1.1.1.1.0)
      (follows_waits (over (left_by None None None) (Some p ∷ []) (e + 1 + 1 + 1 + 1 + 1 + 1 + 1 + 1 + 1 + 1 + 1 + 1 + 1) (Word high ∷ Word low ∷ spread_left))
      (at_most_answers G (e + 1 + 1 + 1 + 1 + 1 + 1 + 1 + 1 + 1 + 1 + 1 + 1 + 1) spread.line spread_left low high spread.stands.1.1.1.1.1.1.1.1.1.1.1.1.1.0 both_taken trace)
      (follows_waits (over (left_by None None None) (Some p ∷ []) (e + 1 + 1 + 1 + 1 + 1 + 1 + 1 + 1 + 1 + 1 + 1 + 1 + 1 + 1) tested) leaves_it then))))))))))))))))
    where
      over : (left : List (Option Operand)) (slots : List (Option PlaceOf)) (there : ℕ) (st : List Operand) → Within (at there st (inside left slots) trace)
      over left slots there st = called G routine 5 1 (λ entry. spreading_code) spread place line calls arguments spread_given below taken memory trace {Within = Within} stays left slots there st
