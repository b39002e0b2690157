-- The machine follows the tests of the labels of variants, over the value of a tag and what has the variants.
use Rattle.std.proofs.Common.{◌≡◌, ℕ, ℤ, pos, ◌+◌, ◌*◌, ◌≤◌, ◌<◌, Bool, true, false, ◌&&◌, List, ◌∷◌, length, Some, slice_get, refl, ap, ◌∙◌, subst, arith}
use Rattle.std.specs.Prelude.{if◌then◌else◌}
use Rattle.ep_simulation.specs.Follows.{point, Facts, After, Fragment}
use Rattle.ep_simulation.specs.Layouts.{Layout}
use Rattle.ep_simulation.specs.Matching.{MachineMemory, Injection}
use Rattle.ep_object.specs.Operands.{Operand, Word}
use Rattle.ep_object.specs.Placing.{Placement, CodeStands}
use Rattle.ep_object.specs.Runs.{unit_in}
use Rattle.ep_object.specs.State.{Stopped, Error}
use Rattle.ep_object.specs.declared.code.Image.{Image}
use Rattle.ep_object.specs.declared.code.Instr.{Instr}
use Rattle.ep_object.specs.declared.code.Reference.{Reference}
use Rattle.ep_simulation.proofs.public.following.Fragments.{fragment_credit, fragment_from, fragment_stop, fragment_waits}
use Rattle.ep_simulation.proofs.public.rows.Rows.{fail_fails, jump_jumps}
use Rattle.ep_simulation.proofs.public.rows.TextRows.{drop_drops}
use Rattle.ep_meaning.specs.Calls.{Handler}
use Rattle.ep_meaning.specs.Meaning.{selects}
use Rattle.ep_meaning.specs.Steps.{Computation, is_number, stop}
use Rattle.ep_typed.specs.Selections.{variant_number}
use Rattle.ep_meaning.specs.Steps as meaning
use Rattle.ep_values.specs.declared.run_error.TheConstants as run_error
use Rattle.ep_typed.specs.declared.tree.Selection.{Selection}
use Rattle.ep_gen_code.specs.Instructions.{instr}
use Rattle.ep_gen_expr.specs.ExprCode.{bad_place, ends_code, labels_code, labels_count, rest_code, selecting_code}
use Rattle.ep_gen_code.proofs.public.Waiting.{row_waits}
use Rattle.ep_gen_code.proofs.public.Placed.{code_front, code_back, instr_at, jump_has}
use Rattle.ep_gen_expr.proofs.public.RangeMoves.{labels_follow}
use Rattle.ep_gen_expr.proofs.public.Stays.{labels_length, selecting_length}
use Rattle.ep_object.specs.declared.op.TheConstants as op

module _ (G : Image) (ps : List Placement) (p : Placement) (references : List Reference) (line at number : ℕ) (s : Selection)
    (stands : CodeStands G ps p references at (selecting_code line at s number)) (inside : at + length (selecting_code line at s number) < p.instructions.own) where
  abbrev tests : List Instr
  tests = labels_code line (bad_place at s + 1) (bad_place at s) number 0 at s.labels

  abbrev last : List Instr
  last = rest_code line (bad_place at s + 1) (bad_place at s) s number ∷ ends_code line s number

  -- the code behind the tests
  pub behind_tests : CodeStands G ps p references (at + 6 * labels_count s.labels) last
  behind_tests =
      let long : length tests ≡ 6 * labels_count s.labels = labels_length line (bad_place at s + 1) (bad_place at s) number 0 at s.labels in
      let there : at + length tests ≡ at + 6 * labels_count s.labels = omega (arith, long) in
      subst (λ k. CodeStands G ps p references k last) there (code_back G ps p references at tests last stands)

  pub within : bad_place at s + 3 < p.instructions.own
  within = omega (arith, inside, selecting_length line at s number)

  within_one : (b : Bool) → (if b then bad_place at s + 1 else bad_place at s) < p.instructions.own
  within_one true = omega (arith, within)
  within_one false = omega (arith, within)

  -- the error, and the instruction that leaves the variant
  pub fail_at : slice_get G.instructions (p.instructions.before + bad_place at s) ≡ Some (instr op.FAIL (pos run_error.INACTIVE_VARIANT) 0 line)
  fail_at = instr_at G (omega arith) behind_tests.1.0

  pub field_at : slice_get G.instructions (p.instructions.before + (bad_place at s + 2)) ≡ Some (instr op.FIELD (pos (variant_number s number)) 0 line)
  field_at = instr_at G (omega arith) behind_tests.1.1.1.0

  module _ {A : Type 0} {layout : Layout} {Here : Facts} (call : Handler) (g : ℕ) (unit : List ℕ) (room : p.instructions.before + p.instructions.own ≤ length G.instructions)
      (n : ℕ) (injection : Injection) (memory : MachineMemory) (below : List Operand) (home : unit_in G memory.frames ≡ unit) {to d : ℕ} {P : A → After} {e : A → ℕ} (taken : Computation A)
      (takes : Fragment layout G Here n (point injection memory (p.instructions.before + (bad_place at s + 2)) below) taken to P d e) where
    abbrev inactive : Computation A
    inactive = stop (meaning.Error run_error.INACTIVE_VARIANT unit line)

    -- over the value of the tag: what is done with the variant, without that value, or the error
    chosen_follows : (z : ℤ) (x : Bool) → Fragment layout G Here n (point injection memory (p.instructions.before + (if x then bad_place at s + 1 else bad_place at s)) (Word z ∷ below)) (if x then taken else inactive) to P (d + 1) e
    chosen_follows z true =
        row_waits {d1 = d} (drop_drops G (p.instructions.before + (bad_place at s + 1)) line below (Word z) (instr_at G (omega arith) behind_tests.1.1.0)) (omega arith) (fragment_from (omega arith) takes)
    chosen_follows z false =
        fragment_stop {weight = 0} (λ st matches. fail_fails G (p.instructions.before + bad_place at s) line (Word z ∷ below) run_error.INACTIVE_VARIANT refl fail_at memory st.trace
        ∙ ap (λ u. record { weight = 0; to = Stopped (Error run_error.INACTIVE_VARIANT u line) st.trace }) home) (omega arith)

    -- where no label has the value
    rest_follows : (z : ℤ) (x : Bool) → slice_get G.instructions (p.instructions.before + (at + 6 * labels_count s.labels)) ≡ Some (instr op.JUMP (pos (p.instructions.before + (if x then bad_place at s + 1 else bad_place at s))) 0 line)
        → Fragment layout G Here n (point injection memory (p.instructions.before + (at + 6 * labels_count s.labels)) (Word z ∷ below)) (if x then taken else inactive) to P (d + 2) e
    rest_follows z x has =
        let goal : ℕ = if x then bad_place at s + 1 else bad_place at s in
        fragment_waits {place1 = p.instructions.before + goal} {d1 = d + 1} (λ st matches. jump_jumps G (p.instructions.before + (at + 6 * labels_count s.labels)) line (Word z ∷ below) (p.instructions.before + goal) (omega (arith, room, within_one x)) has memory st.trace) (omega arith) (chosen_follows z x)

    completing_follows : (z : ℤ) (completed last : Bool)
        → slice_get G.instructions (p.instructions.before + (at + 6 * labels_count s.labels)) ≡ Some (instr op.JUMP (pos (p.instructions.before + (if completed && last then bad_place at s + 1 else bad_place at s))) 0 line)
        → Fragment layout G Here n (point injection memory (p.instructions.before + (at + 6 * labels_count s.labels)) (Word z ∷ below)) (if completed then (if last then taken else inactive) else inactive) to P (d + 2) e
    completing_follows z true last has = rest_follows z last has
    completing_follows z false last has = rest_follows z false has

    -- the tests, with the value of the tag on top
    pub selecting_follows : (z : ℤ) → Fragment layout G Here n (point injection memory (p.instructions.before + at) (Word z ∷ below)) (selects call g unit s z (λ j. if is_number j number then taken else inactive) inactive) to P (d + 8) e
    selecting_follows z =
        let completes : Bool = s.completed && is_number (length s.labels) number in
        labels_follow ps p references call g unit room n line (bad_place at s + 1) (bad_place at s) number 0 at s.labels z (code_front G ps p references at tests last stands) (within_one true) (within_one false) (omega (arith, within)) injection memory below {d = d + 8} (omega arith)
        (λ j. fragment_credit {d = d + 1} {e = e} (omega arith) (λ a. omega arith) (chosen_follows z (is_number j number)))
        (fragment_credit {d = d + 2} {e = e} (omega arith) (λ a. omega arith)
        (completing_follows z s.completed (is_number (length s.labels) number) (jump_has G ps p references line (at + 6 * labels_count s.labels) (if completes then bad_place at s + 1 else bad_place at s) (ends_code line s number) (within_one completes) behind_tests)))
