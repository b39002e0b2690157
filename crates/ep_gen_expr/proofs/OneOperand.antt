-- The machine follows the operations with one operand.
use Rattle.std.proofs.Common.{◌≡◌, ℕ, ℤ, pos, suc, ◌+◌, ◌%◌, IsTrue, List, ◌∷◌, length, refl, arith}
use Rattle.ep_simulation.specs.Follows.{Facts}
use Rattle.std.specs.Prelude.{◌-ℤ◌, ◌*ℤ◌, neg_ℤ, unsigned_abs}
use Rattle.ep_simulation.specs.Layouts.{Layout}
use Rattle.ep_simulation.specs.Matching.{Slots, MachineMemory, Injection}
use Rattle.ep_object.specs.Operands.{Operand, Word}
use Rattle.ep_object.specs.Placing.{Placement, CodeStands}
use Rattle.ep_object.specs.Runs.{unit_in}
use Rattle.ep_object.specs.declared.code.Image.{Image}
use Rattle.ep_object.specs.declared.code.Reference.{Reference}
use Rattle.ep_simulation.proofs.public.following.Fragments.{fragment_less, fragment_to, fragment_one, fragment_give}
use Rattle.ep_simulation.proofs.public.matching.MoreMemory.{inside_here}
use Rattle.ep_simulation.proofs.public.rows.Rows.{RowAnswers, push_pushes, neg_answers, abs_answers, sqr_answers, odd_answers, not_answers, check_answers}
use Rattle.ep_simulation.proofs.public.rows.TextRows.{drop_drops, dup_pushes}
use Rattle.ep_meaning.specs.Calls.{Handler}
use Rattle.ep_values.specs.Operations.{Number, last_char, unary_answer}
use Rattle.ep_meaning.specs.Valid.{ValueKind, Ordinal, IsUnary}
use Rattle.ep_values.specs.declared.operations.Unary.{Unary}
use Rattle.ep_values.specs.declared.operations.Unary.TheVariants as unary
use Rattle.ep_typed.specs.Hosts.{Host, is_of_host}
use Rattle.ep_typed.specs.Hosts as host
use Rattle.ep_gen_expr.specs.ExprCode.{one_code}
use Rattle.ep_gen_expr.proofs.public.Answering.{Evaluates, answering, answer_follows}
use Rattle.ep_gen_code.proofs.public.Waiting.{row_waits}
use Rattle.ep_gen_expr.proofs.Hosts.{given, integer_answer, within_answer, odd_boolean, not_boolean, host_integer}
use Rattle.ep_gen_code.proofs.public.Placed.{instr_at}
use Rattle.ep_values.specs.declared.run_error.TheConstants as run_error

module _ (layout : Layout) (G : Image) (untouched : Slots) (Here : Facts) (ps : List Placement) (p : Placement) (references : List Reference) (call : Handler) (g : ℕ) (unit : List ℕ) (line : ℕ) where
  -- from the value of the operand, the machine follows the operation to the end of its code
  abbrev Operates : ℕ → ℕ → Unary → Host → Host → Type 0
  Operates n at operation operand result =
      (z : ℤ) → IsTrue (is_of_host operand z)
      → (injection : Injection) (memory : MachineMemory) (below : List Operand) (d : ℕ)
      → unit_in G memory.frames ≡ unit
      → Evaluates layout G untouched Here n injection memory (p.instructions.before + at) (Word z ∷ below) (answering call g unit line (unary_answer operation z)) (p.instructions.before + (at + length (one_code line operation))) (Ordinal result) below (d + 8) (d + 8)

  -- the same where the kinds of the operand and the result are those
  pub record UnaryFollows (n at : ℕ) (operation : Unary) (operand_kind result_kind : ValueKind) : Type 0 where
    pub operand : Host
    pub result : Host
    pub operand_is : operand_kind ≡ Ordinal operand
    pub result_is : result_kind ≡ Ordinal result
    pub follows : Operates n at operation operand result

  -- an operation of one instruction
  one_instruction : (n at : ℕ) (operation : Unary) (operand result : Host)
      → length (one_code line operation) ≡ 1
      → ((z : ℤ) (below : List Operand) → IsTrue (is_of_host operand z) → RowAnswers G (p.instructions.before + at) line (Word z ∷ below) below (unary_answer operation z))
      → ((z w : ℤ) → IsTrue (is_of_host operand z) → unary_answer operation z ≡ Number w → IsTrue (is_of_host result w))
      → Operates n at operation operand result
  one_instruction n at operation operand result single row answers z of_host injection memory below d unit_is =
      fragment_to (omega (arith, single)) (answer_follows call g unit line n (p.instructions.before + at) (Word z ∷ below) below (unary_answer operation z) (row z below of_host) result (λ w is. answers z w of_host is) injection memory (d + 8) (d + 8) unit_is (omega arith) (omega arith))

  -- the number of a value, which `Dup` and `Drop` leave
  same_follows : (n at : ℕ) (operand : Host)
      → ((z : ℤ) → IsTrue (is_of_host operand z) → IsTrue (is_of_host host.Integer z))
      → CodeStands G ps p references at (one_code line unary.Same)
      → Operates n at unary.Same operand host.Integer
  same_follows n at operand integer stands z of_host injection memory below d unit_is =
      fragment_less {n = suc n} (omega arith) (fragment_to (omega arith) (row_waits {d1 = d + 7} (dup_pushes G (p.instructions.before + at) line below z stands.0) (omega arith)
      (fragment_one {n = n} {d1 = d + 8} (λ s matches. drop_drops G (p.instructions.before + at + 1) line (Word z ∷ below) (Word z) (instr_at G (omega arith) stands.1.0) memory s.trace) (omega arith)
      (fragment_give (omega arith) (inside_here (record { number = z; is_number = refl; of_host = integer z of_host; is = refl }))))))

  -- the char of a number, which `Check` checks
  character_follows : (n at : ℕ) → CodeStands G ps p references at (one_code line unary.Character)
      → Operates n at unary.Character host.Integer host.Char
  character_follows n at stands z of_host injection memory below d unit_is =
      let place : ℕ = p.instructions.before + at in
      fragment_to (omega arith) (row_waits {d1 = d + 7} (push_pushes G place line (Word z ∷ below) (pos 0) stands.0) (omega arith)
      (row_waits {d1 = d + 6} (push_pushes G (place + 1) line (Word (pos 0) ∷ Word z ∷ below) (pos last_char) (instr_at G (omega arith) stands.1.0)) (omega arith)
      (answer_follows call g unit line n (place + 1 + 1) (Word (pos last_char) ∷ Word (pos 0) ∷ Word z ∷ below) below (unary_answer unary.Character z) (check_answers G (place + 1 + 1) line below run_error.SUCCESSOR z (pos 0) (pos last_char) refl (instr_at G (omega arith) stands.1.1.0)) host.Char (λ w is. within_answer host.Char run_error.SUCCESSOR z w is) injection memory (d + 6) (d + 8) unit_is (omega arith) (omega arith))))

  pub unary_follows : (n at : ℕ) (operation : Unary) (operand_kind result_kind : ValueKind)
      → IsUnary operation operand_kind result_kind → CodeStands G ps p references at (one_code line operation)
      → UnaryFollows n at operation operand_kind result_kind
  unary_follows n at unary.Same operand_kind result_kind (k, r) stands =
      record { operand = k.0; result = host.Integer; operand_is = k.1; result_is = r; follows = same_follows n at k.0 (λ z of_host. host_integer k.0 z k.2 of_host) stands }
  unary_follows n at unary.Negate operand_kind result_kind (k, r) stands =
      record { operand = host.Integer; result = host.Integer; operand_is = k; result_is = r; follows = one_instruction n at unary.Negate host.Integer host.Integer refl (λ z below of_host. neg_answers G (p.instructions.before + at) line below z stands.0) (λ z w of_host is. integer_answer (neg_ℤ z) w is) }
  unary_follows n at unary.Not operand_kind result_kind (k, r) stands =
      record { operand = host.Boolean; result = host.Boolean; operand_is = k; result_is = r; follows = one_instruction n at unary.Not host.Boolean host.Boolean refl (λ z below of_host. not_answers G (p.instructions.before + at) line below z of_host stands.0) (λ z w of_host is. given host.Boolean (pos 1 -ℤ z) w (not_boolean z of_host) is) }
  unary_follows n at unary.Absolute operand_kind result_kind (k, r) stands =
      record { operand = host.Integer; result = host.Integer; operand_is = k; result_is = r; follows = one_instruction n at unary.Absolute host.Integer host.Integer refl (λ z below of_host. abs_answers G (p.instructions.before + at) line below z stands.0) (λ z w of_host is. integer_answer (pos (unsigned_abs z)) w is) }
  unary_follows n at unary.Square operand_kind result_kind (k, r) stands =
      record { operand = host.Integer; result = host.Integer; operand_is = k; result_is = r; follows = one_instruction n at unary.Square host.Integer host.Integer refl (λ z below of_host. sqr_answers G (p.instructions.before + at) line below z stands.0) (λ z w of_host is. integer_answer (z *ℤ z) w is) }
  unary_follows n at unary.Odd operand_kind result_kind (k, r) stands =
      record { operand = host.Integer; result = host.Boolean; operand_is = k; result_is = r; follows = one_instruction n at unary.Odd host.Integer host.Boolean refl (λ z below of_host. odd_answers G (p.instructions.before + at) line below z stands.0) (λ z w of_host is. given host.Boolean (pos (unsigned_abs z % 2)) w (odd_boolean (unsigned_abs z)) is) }
  unary_follows n at unary.Character operand_kind result_kind (k, r) stands =
      record { operand = host.Integer; result = host.Char; operand_is = k; result_is = r; follows = character_follows n at stands }
