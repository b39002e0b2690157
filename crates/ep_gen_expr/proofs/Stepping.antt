-- The machine follows `succ` and `pred`.
use Rattle.std.proofs.Common.{◌≡◌, ℕ, ℤ, pos, ◌+◌, Bool, true, false, IsTrue, List, [], ◌∷◌, length, Some, slice_get, ap, ◌∙◌, arith}
use Rattle.ep_simulation.specs.Follows.{Facts}
use Rattle.std.specs.Prelude.{◌+ℤ◌, neg_ℤ}
use Rattle.ep_simulation.specs.Layouts.{Layout}
use Rattle.ep_simulation.specs.Matching.{Slots, MachineMemory, Injection}
use Rattle.ep_object.specs.Operands.{Operand, Word}
use Rattle.ep_object.specs.Placing.{Placement, CodeStands}
use Rattle.ep_object.specs.Runs.{unit_in}
use Rattle.ep_object.specs.declared.code.Image.{Image}
use Rattle.ep_object.specs.declared.code.Reference.{Reference}
use Rattle.ep_simulation.proofs.public.following.Choices.{going_of}
use Rattle.ep_simulation.proofs.public.following.Fragments.{fragment_to, fragment_from, fragment_credit}
use Rattle.ep_simulation.proofs.public.rows.Rows.{instr, RowPushes, push_pushes, neg_answers, step_answers}
use Rattle.ep_meaning.specs.Calls.{Handler}
use Rattle.ep_values.specs.Operations.{step_answer}
use Rattle.ep_meaning.specs.Valid.{Ordinal}
use Rattle.ep_typed.specs.Hosts.{Host, least, greatest, is_of_host}
use Rattle.ep_typed.specs.Hosts as host
use Rattle.ep_gen_code.specs.Instructions.{push, bare}
use Rattle.ep_gen_expr.specs.ExprCode.{step_code}
use Rattle.ep_gen_expr.proofs.public.Answering.{Evaluates, answering, answer_follows}
use Rattle.ep_gen_code.proofs.public.Waiting.{row_waits}
use Rattle.ep_gen_expr.proofs.Hosts.{bounded_answer, negated}
use Rattle.ep_gen_code.proofs.public.Placed.{instr_at}
use Rattle.ep_object.specs.declared.op.TheConstants as op

-- `Neg` of an integer has no error
neg_pushes : (G : Image) (place line : ℕ) (below : List Operand) (n : ℤ) → IsTrue (is_of_host host.Integer n)
    → slice_get G.instructions place ≡ Some (instr op.NEG (pos 0) 0 line)
    → RowPushes G place (Word n ∷ below) 0 (Word (neg_ℤ n) ∷ below)
neg_pushes G place line below n of_host has memory trace =
    neg_answers G place line below n has memory trace ∙ ap (λ a. record { weight = 0; to = going_of (place + 1) below memory (unit_in G memory.frames) line trace a }) (negated n of_host)

module _ (layout : Layout) (G : Image) (untouched : Slots) (Here : Facts) (ps : List Placement) (p : Placement) (references : List Reference) (call : Handler) (g : ℕ) (unit : List ℕ) (line : ℕ) where
  -- the sum of a value and a count, within the bounds of the host
  bounded_follows : (n at : ℕ) (h : Host) (low high : ℤ) → low ≡ least h → high ≡ greatest h
      → CodeStands G ps p references at (push line low ∷ push line high ∷ bare line op.STEP ∷ [])
      → (x count : ℤ) (injection : Injection) (memory : MachineMemory) (below : List Operand) (d : ℕ)
      → unit_in G memory.frames ≡ unit
      → Evaluates layout G untouched Here n injection memory (p.instructions.before + at) (Word count ∷ Word x ∷ below) (answering call g unit line (step_answer false low high x count)) (p.instructions.before + (at + 3)) (Ordinal h) below (d + 15) (d + 8)
  bounded_follows n at h low high is_low is_high stands x count injection memory below d unit_is =
      let place : ℕ = p.instructions.before + at in
      let values : List Operand = Word count ∷ Word x ∷ below in
      fragment_to (omega arith) (row_waits {d1 = d + 14} (push_pushes G place line values low stands.0) (omega arith)
      (row_waits {d1 = d + 13} (push_pushes G (place + 1) line (Word low ∷ values) high (instr_at G (omega arith) stands.1.0)) (omega arith)
      (answer_follows call g unit line n (place + 1 + 1) (Word high ∷ Word low ∷ values) below (step_answer false low high x count) (step_answers G (place + 1 + 1) line below x count low high (instr_at G (omega arith) stands.1.1.0)) h (λ w is. bounded_answer h low high (x +ℤ count) w is_low is_high is) injection memory (d + 13) (d + 8) unit_is (omega arith) (omega arith))))

  -- from the value and the count, the machine follows the step to the end of its code
  pub step_follows : (n at : ℕ) (h : Host) (down : Bool) (low high : ℤ) → low ≡ least h → high ≡ greatest h
      → CodeStands G ps p references at (step_code line down low high) → (x count : ℤ)
      → IsTrue (is_of_host host.Integer count)
      → (injection : Injection) (memory : MachineMemory) (below : List Operand) (d : ℕ)
      → unit_in G memory.frames ≡ unit
      → Evaluates layout G untouched Here n injection memory (p.instructions.before + at) (Word count ∷ Word x ∷ below) (answering call g unit line (step_answer down low high x count)) (p.instructions.before + (at + length (step_code line down low high))) (Ordinal h) below (d + 16) (d + 8)
  step_follows n at h false low high is_low is_high stands x count of_host injection memory below d unit_is =
      fragment_credit {d = d + 15} (omega arith) (λ r. omega arith) (bounded_follows n at h low high is_low is_high stands x count injection memory below d unit_is)
  step_follows n at h true low high is_low is_high stands x count of_host injection memory below d unit_is =
      fragment_to (omega arith) (row_waits {d1 = d + 15} (neg_pushes G (p.instructions.before + at) line (Word x ∷ below) count of_host stands.0) (omega arith)
      (fragment_from (omega arith) (bounded_follows n (at + 1) h low high is_low is_high stands.1 x (neg_ℤ count) injection memory below d unit_is)))
