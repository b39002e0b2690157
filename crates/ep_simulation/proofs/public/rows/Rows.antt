-- What the rows of the table lead to, for the instructions that code is made of.
use Rattle.std.proofs.Common.{◌≡◌, ℕ, ℤ, pos, ◌+◌, ◌<◌, Bool, true, false, not, ◌&&◌, ◌||◌, cond, IsTrue, List, [], ◌∷◌, length, Some, slice_get, refl, ap, ◌∙◌}
use Rattle.std.proofs.lemmas.Bool.{lt-ltb}
use Rattle.std.specs.Prelude.{if◌then◌else◌, ◌+ℤ◌, ◌-ℤ◌, ◌*ℤ◌, neg_ℤ, int_le, int_lt, int_div, unsigned_abs}
use Rattle.ep_object.specs.Control.{jump_where}
use Rattle.ep_object.specs.Effects.{Continues, Fails, is_zero}
use Rattle.ep_simulation.specs.Matching.{MachineMemory, at}
use Rattle.ep_object.specs.Operands.{Operand, Word}
use Rattle.ep_object.specs.Runs.{TurnOutcome, outcome, outcome_of, after, enter, unit_in}
use Rattle.ep_object.specs.State.{Going, Running, Stopped, Halt, Error}
use Rattle.ep_object.specs.Table.{on_operands}
use Rattle.ep_object.specs.WordRows as rows
use Rattle.ep_object.specs.WordRows.{integer_row}
pub use Rattle.ep_object.specs.Table.{instr}
use Rattle.ep_object.specs.declared.code.Image.{Image}
use Rattle.ep_object.specs.declared.code.Instr.{Instr}
use Rattle.ep_simulation.proofs.rows.Answers.{is_integer-same, is_zero-same, is_zero-true, bit-same, is_boolean-same}
use Rattle.ep_simulation.proofs.public.following.Choices.{going_of}
use Rattle.ep_values.specs.Events.{Trace}
use Rattle.ep_values.specs.Operations.{Answer, Number, Fault, integer, is_integer, ordinal_of, is_same, is_true, unary_answer, binary_answer, step_answer, within}
use Rattle.ep_typed.specs.Hosts.{is_of_host}
use Rattle.ep_values.specs.declared.operations.Binary.TheVariants as binary
use Rattle.ep_values.specs.declared.operations.Unary.TheVariants as unary
use Rattle.ep_typed.specs.Hosts as host
use Rattle.ep_object.specs.declared.op.TheConstants as op
use Rattle.ep_values.specs.declared.run_error.TheConstants as run_error

-- an outcome of one tick
abbrev pub in_one : Going → TurnOutcome
in_one g = record { weight = 0; to = g }

-- the instruction at a place is the one in hand there
pub outcome_at : (G : Image) (i : Instr) (place : ℕ) (operands : List Operand) (memory : MachineMemory) (trace : Trace) → slice_get G.instructions place ≡ Some i → outcome G (at place operands memory trace) ≡ outcome_of G (Some i) (at place operands memory trace)
outcome_at G i place operands memory trace has = ap (λ o. outcome_of G o (at place operands memory trace)) has

-- the instruction at the place, with these operands, gives this answer over those below
abbrev pub RowAnswers : Image → ℕ → ℕ → List Operand → List Operand → Answer → Type 0
RowAnswers G place line operands below a =
    (memory : MachineMemory) (trace : Trace) → outcome G (at place operands memory trace) ≡ record { weight = 0; to = going_of (place + 1) below memory (unit_in G memory.frames) line trace a }

-- the instruction at the place leads to the next one with these operands
abbrev pub RowPushes : Image → ℕ → List Operand → ℕ → List Operand → Type 0
RowPushes G place operands weight then_operands =
    (memory : MachineMemory) (trace : Trace) → outcome G (at place operands memory trace) ≡ record { weight = weight; to = Running 0 (at (place + 1) then_operands memory trace) }

module _ (G : Image) (i : Instr) (place : ℕ) (operands below : List Operand) (memory : MachineMemory) (trace : Trace) where
  -- what is pushed where a test holds, and else is an error
  checked : (b : Bool) (z : ℤ) (error : ℕ) → after G i (at place operands memory trace) (on_operands (at place operands memory trace) (cond b (Continues (Word z ∷ below)) (Fails error))) ≡ going_of (place + 1) below memory (unit_in G memory.frames) i.line trace (if b then Number z else Fault error)
  checked true z error = refl
  checked false z error = refl

  -- an integer, or an overflow
  integer_going : (z : ℤ) → after G i (at place operands memory trace) (on_operands (at place operands memory trace) (integer_row z below)) ≡ going_of (place + 1) below memory (unit_in G memory.frames) i.line trace (integer z)
  integer_going z =
      let e : rows.is_integer z ≡ is_integer z = is_integer-same z in
      checked (rows.is_integer z) z 8 ∙ ap (λ b. going_of (place + 1) below memory (unit_in G memory.frames) i.line trace (if b then Number z else Fault 8)) e

  -- an error where a test holds, and else an integer or an overflow
  guarded_going : (b : Bool) (z : ℤ) (error : ℕ) → after G i (at place operands memory trace) (on_operands (at place operands memory trace) (cond b (Fails error) (integer_row z below))) ≡ going_of (place + 1) below memory (unit_in G memory.frames) i.line trace (if b then Fault error else integer z)
  guarded_going true z error = refl
  guarded_going false z error = integer_going z

module _ (G : Image) (place line : ℕ) (below : List Operand) where
  -- `Push`
  pub push_pushes : (z : ℤ) → slice_get G.instructions place ≡ Some (instr op.PUSH z 0 line) → RowPushes G place below 0 (Word z ∷ below)
  push_pushes z has memory trace = outcome_at G (instr op.PUSH z 0 line) place below memory trace has

  -- ---- one operand

  -- `Neg`
  pub neg_answers : (x : ℤ) → slice_get G.instructions place ≡ Some (instr op.NEG (pos 0) 0 line) → RowAnswers G place line (Word x ∷ below) below (unary_answer unary.Negate x)
  neg_answers x has memory trace =
      outcome_at G (instr op.NEG (pos 0) 0 line) place (Word x ∷ below) memory trace has ∙ ap in_one (integer_going G (instr op.NEG (pos 0) 0 line) place (Word x ∷ below) below memory trace (neg_ℤ x))

  -- `Abs`
  pub abs_answers : (x : ℤ) → slice_get G.instructions place ≡ Some (instr op.ABS (pos 0) 0 line) → RowAnswers G place line (Word x ∷ below) below (unary_answer unary.Absolute x)
  abs_answers x has memory trace =
      outcome_at G (instr op.ABS (pos 0) 0 line) place (Word x ∷ below) memory trace has ∙ ap in_one (integer_going G (instr op.ABS (pos 0) 0 line) place (Word x ∷ below) below memory trace (pos (unsigned_abs x)))

  -- `Sqr`
  pub sqr_answers : (x : ℤ) → slice_get G.instructions place ≡ Some (instr op.SQR (pos 0) 0 line) → RowAnswers G place line (Word x ∷ below) below (unary_answer unary.Square x)
  sqr_answers x has memory trace =
      outcome_at G (instr op.SQR (pos 0) 0 line) place (Word x ∷ below) memory trace has ∙ ap in_one (integer_going G (instr op.SQR (pos 0) 0 line) place (Word x ∷ below) below memory trace (x *ℤ x))

  -- `Odd`
  pub odd_answers : (x : ℤ) → slice_get G.instructions place ≡ Some (instr op.ODD (pos 0) 0 line) → RowAnswers G place line (Word x ∷ below) below (unary_answer unary.Odd x)
  odd_answers x has memory trace = outcome_at G (instr op.ODD (pos 0) 0 line) place (Word x ∷ below) memory trace has

  -- `Not`, of a Boolean
  pub not_answers : (x : ℤ) → IsTrue (is_of_host host.Boolean x) → slice_get G.instructions place ≡ Some (instr op.NOT (pos 0) 0 line) → RowAnswers G place line (Word x ∷ below) below (unary_answer unary.Not x)
  not_answers x boolean has memory trace =
      let e : rows.is_boolean x ≡ true = is_boolean-same x boolean in
      outcome_at G (instr op.NOT (pos 0) 0 line) place (Word x ∷ below) memory trace has ∙ rw e refl

  -- `Check` with an error that there is
  pub check_answers : (error : ℕ) (x low high : ℤ) → rows.is_error (pos error) ≡ true → slice_get G.instructions place ≡ Some (instr op.CHECK (pos error) 0 line) → RowAnswers G place line (Word high ∷ Word low ∷ Word x ∷ below) below (within error low high x)
  check_answers error x low high known has memory trace =
      let i : Instr = instr op.CHECK (pos error) 0 line in
      outcome_at G i place (Word high ∷ Word low ∷ Word x ∷ below) memory trace has ∙ (rw known (ap in_one (checked G i place (Word high ∷ Word low ∷ Word x ∷ below) below memory trace (int_le low x && int_le x high) x error)))

  -- ---- two operands

  -- `Add`
  pub add_answers : (x y : ℤ) → slice_get G.instructions place ≡ Some (instr op.ADD (pos 0) 0 line) → RowAnswers G place line (Word y ∷ Word x ∷ below) below (binary_answer binary.Add x y)
  add_answers x y has memory trace =
      outcome_at G (instr op.ADD (pos 0) 0 line) place (Word y ∷ Word x ∷ below) memory trace has ∙ ap in_one (integer_going G (instr op.ADD (pos 0) 0 line) place (Word y ∷ Word x ∷ below) below memory trace (x +ℤ y))

  -- `Sub`
  pub sub_answers : (x y : ℤ) → slice_get G.instructions place ≡ Some (instr op.SUB (pos 0) 0 line) → RowAnswers G place line (Word y ∷ Word x ∷ below) below (binary_answer binary.Subtract x y)
  sub_answers x y has memory trace =
      outcome_at G (instr op.SUB (pos 0) 0 line) place (Word y ∷ Word x ∷ below) memory trace has ∙ ap in_one (integer_going G (instr op.SUB (pos 0) 0 line) place (Word y ∷ Word x ∷ below) below memory trace (x -ℤ y))

  -- `Mul`
  pub mul_answers : (x y : ℤ) → slice_get G.instructions place ≡ Some (instr op.MUL (pos 0) 0 line) → RowAnswers G place line (Word y ∷ Word x ∷ below) below (binary_answer binary.Multiply x y)
  mul_answers x y has memory trace =
      outcome_at G (instr op.MUL (pos 0) 0 line) place (Word y ∷ Word x ∷ below) memory trace has ∙ ap in_one (integer_going G (instr op.MUL (pos 0) 0 line) place (Word y ∷ Word x ∷ below) below memory trace (x *ℤ y))

  -- `Div`
  pub div_answers : (x y : ℤ) → slice_get G.instructions place ≡ Some (instr op.DIV (pos 0) 0 line) → RowAnswers G place line (Word y ∷ Word x ∷ below) below (binary_answer binary.Divide x y)
  div_answers x y has memory trace =
      let i : Instr = instr op.DIV (pos 0) 0 line in
      let e : is_zero y ≡ is_same y (pos 0) = is_zero-same y in
      outcome_at G i place (Word y ∷ Word x ∷ below) memory trace has ∙ ap in_one (guarded_going G i place (Word y ∷ Word x ∷ below) below memory trace (is_zero y) (int_div x y) 9 ∙ ap (λ b. going_of (place + 1) below memory (unit_in G memory.frames) line trace (if b then Fault 9 else integer (int_div x y))) e)

  -- `Mod`
  pub mod_answers : (x y : ℤ) → slice_get G.instructions place ≡ Some (instr op.MOD (pos 0) 0 line) → RowAnswers G place line (Word y ∷ Word x ∷ below) below (binary_answer binary.Modulo x y)
  mod_answers x y has memory trace =
      let i : Instr = instr op.MOD (pos 0) 0 line in
      outcome_at G i place (Word y ∷ Word x ∷ below) memory trace has ∙ ap in_one (checked G i place (Word y ∷ Word x ∷ below) below memory trace (int_lt (pos 0) y) _ run_error.DIVISOR)

  -- `And`, of Booleans
  pub and_answers : (x y : ℤ) → IsTrue (is_of_host host.Boolean x) → IsTrue (is_of_host host.Boolean y) → slice_get G.instructions place ≡ Some (instr op.AND (pos 0) 0 line) → RowAnswers G place line (Word y ∷ Word x ∷ below) below (binary_answer binary.And x y)
  and_answers x y bx by has memory trace =
      let ex : rows.is_boolean x ≡ true = is_boolean-same x bx in
      let ey : rows.is_boolean y ≡ true = is_boolean-same y by in
      outcome_at G (instr op.AND (pos 0) 0 line) place (Word y ∷ Word x ∷ below) memory trace has ∙ rw (ex, ey, is_zero-same x, is_zero-same y, bit-same (is_true x && is_true y)) refl

  -- `Or`, of Booleans
  pub or_answers : (x y : ℤ) → IsTrue (is_of_host host.Boolean x) → IsTrue (is_of_host host.Boolean y) → slice_get G.instructions place ≡ Some (instr op.OR (pos 0) 0 line) → RowAnswers G place line (Word y ∷ Word x ∷ below) below (binary_answer binary.Or x y)
  or_answers x y bx by has memory trace =
      let ex : rows.is_boolean x ≡ true = is_boolean-same x bx in
      let ey : rows.is_boolean y ≡ true = is_boolean-same y by in
      outcome_at G (instr op.OR (pos 0) 0 line) place (Word y ∷ Word x ∷ below) memory trace has ∙ rw (ex, ey, is_zero-same x, is_zero-same y, bit-same (is_true x || is_true y)) refl

  -- what `Cmp` pushes
  compared : (memory : MachineMemory) (trace : Trace) (b : Bool) → in_one (Running 0 (at (place + 1) (Word (rows.bit b) ∷ below) memory trace)) ≡ in_one (Running 0 (at (place + 1) (Word (ordinal_of b) ∷ below) memory trace))
  compared memory trace b = ap (λ z. in_one (Running 0 (at (place + 1) (Word z ∷ below) memory trace))) (bit-same b)

  -- `Cmp` for =
  pub equal_answers : (x y : ℤ) → slice_get G.instructions place ≡ Some (instr op.CMP (pos 0) 0 line) → RowAnswers G place line (Word y ∷ Word x ∷ below) below (binary_answer binary.Equal x y)
  equal_answers x y has memory trace = outcome_at G (instr op.CMP (pos 0) 0 line) place (Word y ∷ Word x ∷ below) memory trace has ∙ compared memory trace (is_same x y)

  -- `Cmp` for <>
  pub unequal_answers : (x y : ℤ) → slice_get G.instructions place ≡ Some (instr op.CMP (pos 1) 0 line) → RowAnswers G place line (Word y ∷ Word x ∷ below) below (binary_answer binary.Unequal x y)
  unequal_answers x y has memory trace = outcome_at G (instr op.CMP (pos 1) 0 line) place (Word y ∷ Word x ∷ below) memory trace has ∙ compared memory trace (not (is_same x y))

  -- `Cmp` for <
  pub less_answers : (x y : ℤ) → slice_get G.instructions place ≡ Some (instr op.CMP (pos 2) 0 line) → RowAnswers G place line (Word y ∷ Word x ∷ below) below (binary_answer binary.Less x y)
  less_answers x y has memory trace = outcome_at G (instr op.CMP (pos 2) 0 line) place (Word y ∷ Word x ∷ below) memory trace has ∙ compared memory trace (int_lt x y)

  -- `Cmp` for >
  pub greater_answers : (x y : ℤ) → slice_get G.instructions place ≡ Some (instr op.CMP (pos 3) 0 line) → RowAnswers G place line (Word y ∷ Word x ∷ below) below (binary_answer binary.Greater x y)
  greater_answers x y has memory trace = outcome_at G (instr op.CMP (pos 3) 0 line) place (Word y ∷ Word x ∷ below) memory trace has ∙ compared memory trace (int_lt y x)

  -- `Cmp` for <=
  pub at_most_answers : (x y : ℤ) → slice_get G.instructions place ≡ Some (instr op.CMP (pos 4) 0 line) → RowAnswers G place line (Word y ∷ Word x ∷ below) below (binary_answer binary.AtMost x y)
  at_most_answers x y has memory trace = outcome_at G (instr op.CMP (pos 4) 0 line) place (Word y ∷ Word x ∷ below) memory trace has ∙ compared memory trace (int_le x y)

  -- `Cmp` for >=
  pub at_least_answers : (x y : ℤ) → slice_get G.instructions place ≡ Some (instr op.CMP (pos 5) 0 line) → RowAnswers G place line (Word y ∷ Word x ∷ below) below (binary_answer binary.AtLeast x y)
  at_least_answers x y has memory trace = outcome_at G (instr op.CMP (pos 5) 0 line) place (Word y ∷ Word x ∷ below) memory trace has ∙ compared memory trace (int_le y x)

  -- `Step`, over its bounds
  pub step_answers : (x n low high : ℤ) → slice_get G.instructions place ≡ Some (instr op.STEP (pos 0) 0 line) → RowAnswers G place line (Word high ∷ Word low ∷ Word n ∷ Word x ∷ below) below (step_answer false low high x n)
  step_answers x n low high has memory trace =
      let i : Instr = instr op.STEP (pos 0) 0 line in
      let z : ℤ = x +ℤ n in
      outcome_at G i place (Word high ∷ Word low ∷ Word n ∷ Word x ∷ below) memory trace has ∙ ap in_one (checked G i place (Word high ∷ Word low ∷ Word n ∷ Word x ∷ below) below memory trace (int_le low z && int_le z high) z run_error.SUCCESSOR)

  -- `Between`, of three words
  pub between_pushes : (x low high : ℤ) → slice_get G.instructions place ≡ Some (instr op.BETWEEN (pos 0) 0 line) → RowPushes G place (Word high ∷ Word low ∷ Word x ∷ below) 0 (Word (ordinal_of (int_le low x && int_le x high)) ∷ below)
  between_pushes x low high has memory trace =
      outcome_at G (instr op.BETWEEN (pos 0) 0 line) place (Word high ∷ Word low ∷ Word x ∷ below) memory trace has ∙ compared memory trace (int_le low x && int_le x high)

  -- ---- jumps

  -- `Jump`
  pub jump_jumps : (target : ℕ) → target < length G.instructions → slice_get G.instructions place ≡ Some (instr op.JUMP (pos target) 0 line) → (memory : MachineMemory) (trace : Trace) → outcome G (at place below memory trace) ≡ record { weight = 0; to = Running 0 (at target below memory trace) }
  jump_jumps target inside has memory trace =
      outcome_at G (instr op.JUMP (pos target) 0 line) place below memory trace has ∙ rw (lt-ltb target (length G.instructions) inside) refl

  -- `JumpFalse`, which goes on where the word is true
  pub jump_false_jumps : (z : ℤ) (target : ℕ) → target < length G.instructions → slice_get G.instructions place ≡ Some (instr op.JUMP_FALSE (pos target) 0 line) → (memory : MachineMemory) (trace : Trace) → outcome G (at place (Word z ∷ below) memory trace) ≡ record { weight = 0; to = Running 0 (at (if is_true z then place + 1 else target) below memory trace) }
  jump_false_jumps z target inside has memory trace =
      outcome_at G (instr op.JUMP_FALSE (pos target) 0 line) place (Word z ∷ below) memory trace has ∙ (rw (lt-ltb target (length G.instructions) inside, is_zero-true z) (either (is_true z)))
    where
      either : (b : Bool) → in_one (after G (instr op.JUMP_FALSE (pos target) 0 line) (at place (Word z ∷ below) memory trace) (on_operands (at place (Word z ∷ below) memory trace) (jump_where (not b) target below))) ≡ in_one (Running 0 (at (if b then place + 1 else target) below memory trace))
      either true = refl
      either false = refl

  -- ---- ends

  -- `Fail`, by an error that there is
  pub fail_fails : (error : ℕ) → rows.is_error (pos error) ≡ true → slice_get G.instructions place ≡ Some (instr op.FAIL (pos error) 0 line) → (memory : MachineMemory) (trace : Trace) → outcome G (at place below memory trace) ≡ record { weight = 0; to = Stopped (Error error (unit_in G memory.frames) line) trace }
  fail_fails error is has memory trace =
      outcome_at G (instr op.FAIL (pos error) 0 line) place below memory trace has ∙ rw is refl

  -- `Halt`
  pub halt_halts : slice_get G.instructions place ≡ Some (instr op.HALT (pos 0) 0 line) → (memory : MachineMemory) (trace : Trace) → outcome G (at place below memory trace) ≡ record { weight = 0; to = Stopped Halt trace }
  halt_halts has memory trace = outcome_at G (instr op.HALT (pos 0) 0 line) place below memory trace has

  -- `Return`, after which the next start or stop begins
  pub return_enters : slice_get G.instructions place ≡ Some (instr op.RETURN (pos 0) 0 line) → (memory : MachineMemory) (trace : Trace) → memory.frames.calls ≡ [] → outcome G (at place below memory trace) ≡ record { weight = 0; to = enter G (memory.frames.turn + 1) (at place below memory trace) }
  return_enters has memory trace alone = outcome_at G (instr op.RETURN (pos 0) 0 line) place below memory trace has ∙ rw alone refl
