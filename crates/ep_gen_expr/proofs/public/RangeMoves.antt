-- The machine follows tests of ranges, and of the labels of variants.
use Rattle.std.proofs.Common.{◌≡◌, ℕ, ℤ, pos, suc, ◌+◌, ◌*◌, ◌-◌, ◌≤◌, ◌<◌, Bool, true, false, List, [], ◌∷◌, length, refl, sym, ap, ◌∙◌, subst, arith}
use Rattle.std.specs.Prelude.{if◌then◌else◌}
use Rattle.ep_simulation.specs.Follows.{point, Facts, After, Fragment}
use Rattle.ep_simulation.specs.Layouts.{Layout}
use Rattle.ep_simulation.specs.Matching.{MachineMemory, Injection, at as standing}
use Rattle.ep_object.specs.Operands.{Operand, Word}
use Rattle.ep_object.specs.Placing.{Placement, CodeStands}
use Rattle.ep_object.specs.State.{Running}
use Rattle.ep_object.specs.declared.code.Image.{Image}
use Rattle.ep_object.specs.declared.code.Instr.{Instr}
use Rattle.ep_object.specs.declared.code.Reference.{Reference}
use Rattle.ep_simulation.proofs.public.following.Choices.{fragment_branch_one}
use Rattle.ep_simulation.proofs.public.following.Fragments.{fragment_from, fragment_less, fragment_credit, fragment_waits}
use Rattle.ep_simulation.proofs.public.rows.Rows.{push_pushes, between_pushes, jump_jumps, jump_false_jumps}
use Rattle.ep_simulation.proofs.public.rows.TextRows.{dup_pushes}
use Rattle.ep_meaning.specs.Calls.{Handler}
use Rattle.ep_meaning.specs.Meaning.{selecting, tried}
use Rattle.ep_typed.specs.CaseRanges.{is_in}
use Rattle.ep_values.specs.Operations.{is_true, ordinal_of}
use Rattle.ep_meaning.specs.Steps.{Computation, is_number, spend}
use Rattle.ep_typed.specs.declared.tree.CaseRange.{CaseRange}
use Rattle.ep_gen_code.specs.Instructions.{instr}
use Rattle.ep_gen_expr.specs.ExprCode.{labels_code, labels_count, test_code, tests_code}
use Rattle.ep_gen_code.proofs.public.Waiting.{row_waits}
use Rattle.ep_gen_code.proofs.public.Placed.{code_front, code_back, instr_at, jump_has, jump_false_has}
use Rattle.ep_gen_expr.proofs.public.Stays.{tests_length}
use Rattle.ep_object.specs.declared.op.TheConstants as op

-- the word of a truth value is true exactly if that is
pub true_ordinal : (b : Bool) → is_true (ordinal_of b) ≡ b
true_ordinal true = refl
true_ordinal false = refl

module _ {A : Type 0} {layout : Layout} {G : Image} {Here : Facts} (ps : List Placement) (p : Placement) (references : List Reference) (call : Handler) (g : ℕ) (unit : List ℕ) (room : p.instructions.before + p.instructions.own ≤ length G.instructions) where
  -- The test of a range spends a step, and leads to the first place where the range has the value.
  test_follows : (n line body at : ℕ) (r : CaseRange) (z : ℤ) → CodeStands G ps p references at (test_code line body at r) → body < p.instructions.own → at + 6 < p.instructions.own → (injection : Injection) (memory : MachineMemory) (below : List Operand) {to d : ℕ} {x y : Computation A} {P : A → After} {e : A → ℕ} → 8 ≤ d
      → Fragment layout G Here n (point injection memory (p.instructions.before + body) (Word z ∷ below)) x to P (d + 9) e
      → Fragment layout G Here n (point injection memory (p.instructions.before + (at + 6)) (Word z ∷ below)) y to P (d + 9) e
      → Fragment layout G Here (suc n) (point injection memory (p.instructions.before + at) (Word z ∷ below)) (spend 1 (if is_in r z then x else y)) to P d e
  test_follows n line body at r z stands inside inside_next injection memory below {d = d} enough fits fails =
      let place : ℕ = p.instructions.before + at in
      row_waits {d1 = d - 1} (dup_pushes G place line below z stands.0) (omega (arith, enough))
      (row_waits {d1 = d - 2} (push_pushes G (place + 1) line (Word z ∷ Word z ∷ below) r.low (instr_at G (omega arith) stands.1.0)) (omega (arith, enough))
      (row_waits {d1 = d - 3} (push_pushes G (place + 1 + 1) line (Word r.low ∷ Word z ∷ Word z ∷ below) r.high (instr_at G (omega arith) stands.1.1.0)) (omega (arith, enough))
      (row_waits {d1 = d - 4} (between_pushes G (place + 1 + 1 + 1) line (Word z ∷ below) z r.low r.high (instr_at G (omega arith) stands.1.1.1.0)) (omega (arith, enough))
      (fragment_branch_one {then_place = place + 1 + 1 + 1 + 1 + 1} {else_place = p.instructions.before + (at + 6)} {d1 = d + 10} (is_in r z)
      (λ s matches. jump_false_jumps G (place + 1 + 1 + 1 + 1) line (Word z ∷ below) (ordinal_of (is_in r z)) (p.instructions.before + (at + 6)) (omega (arith, room, inside_next)) (instr_at G (omega arith) (jump_false_has G ps p references line (at + 1 + 1 + 1 + 1) (at + 6) (instr op.JUMP (pos body) 0 line ∷ []) inside_next stands.1.1.1.1)) memory s.trace
      ∙ ap (λ b. record { weight = 0; to = Running 0 (standing (if b then place + 1 + 1 + 1 + 1 + 1 else p.instructions.before + (at + 6)) (Word z ∷ below) memory s.trace) }) (true_ordinal (is_in r z)))
      (omega (arith, enough))
      (λ is. fragment_waits {place1 = p.instructions.before + body} {d1 = d + 9} (λ s matches. jump_jumps G (place + 1 + 1 + 1 + 1 + 1) line (Word z ∷ below) (p.instructions.before + body) (omega (arith, room, inside)) (instr_at G (omega arith) (jump_has G ps p references line (at + 1 + 1 + 1 + 1 + 1) body [] inside stands.1.1.1.1.1)) memory s.trace) (omega arith) fits)
      (λ is. fragment_credit {d = d + 9} (omega arith) (λ a. omega arith) fails)))))

  -- ranges, one after another
  pub tests_follow : (n line body at : ℕ) (r : CaseRange) (rs : List CaseRange) (z : ℤ) → CodeStands G ps p references at (tests_code line body at (r ∷ rs)) → body < p.instructions.own → at + 6 * length (r ∷ rs) < p.instructions.own → (injection : Injection) (memory : MachineMemory) (below : List Operand) {to d : ℕ} {x y : Computation A} {P : A → After} {e : A → ℕ} → 8 ≤ d
      → Fragment layout G Here n (point injection memory (p.instructions.before + body) (Word z ∷ below)) x to P (d + 9) e
      → Fragment layout G Here n (point injection memory (p.instructions.before + (at + 6 * length (r ∷ rs))) (Word z ∷ below)) y to P (d + 9) e
      → Fragment layout G Here n (point injection memory (p.instructions.before + at) (Word z ∷ below)) (tried call g unit z (r ∷ rs) x y) to P d e
  tests_follow n line body at r [] z stands inside inside_end injection memory below enough fits fails =
      fragment_less {n = suc n} (omega arith) (test_follows n line body at r z (code_front G ps p references at (test_code line body at r) [] stands) inside (omega (arith, inside_end)) injection memory below enough fits (fragment_from (omega arith) fails))
  tests_follow n line body at r (r2 ∷ rs) z stands inside inside_end injection memory below {d = d} enough fits fails =
      fragment_less {n = suc n} (omega arith) (test_follows n line body at r z (code_front G ps p references at (test_code line body at r) (tests_code line body (at + 6) (r2 ∷ rs)) stands) inside (omega (arith, inside_end)) injection memory below enough fits
      (fragment_credit {d = d} (omega arith) (λ a. omega arith) (tests_follow n line body (at + 6) r2 rs z (code_back G ps p references at (test_code line body at r) (tests_code line body (at + 6) (r2 ∷ rs)) stands) inside (omega (arith, inside_end)) injection memory below enough fits (fragment_from (omega arith) fails))))

  -- The tests of labels: they lead to the first place with the number of the variant that is asked for, and to the second one
  -- with that of another variant, and on behind them where no label has the value.
  pub labels_follow : (n line good bad number k at : ℕ) (labels : List (List CaseRange)) (z : ℤ) → CodeStands G ps p references at (labels_code line good bad number k at labels) → good < p.instructions.own → bad < p.instructions.own → at + 6 * labels_count labels < p.instructions.own → (injection : Injection) (memory : MachineMemory) (below : List Operand) {to d : ℕ} {chosen : ℕ → Computation A} {fails : Computation A} {P : A → After} {e : A → ℕ} → 8 ≤ d
      → ((j : ℕ) → Fragment layout G Here n (point injection memory (p.instructions.before + (if is_number j number then good else bad)) (Word z ∷ below)) (chosen j) to P (d + 9) e)
      → Fragment layout G Here n (point injection memory (p.instructions.before + (at + 6 * labels_count labels)) (Word z ∷ below)) fails to P d e
      → Fragment layout G Here n (point injection memory (p.instructions.before + at) (Word z ∷ below)) (selecting call g unit z labels k chosen fails) to P d e
  labels_follow n line good bad number k at [] z stands inside_good inside_bad inside_end injection memory below enough finds misses = fragment_from (omega arith) misses
  labels_follow n line good bad number k at ([] ∷ more) z stands inside_good inside_bad inside_end injection memory below enough finds misses =
      let here : at + 6 * 0 ≡ at = omega arith in
      fragment_from (omega arith) (labels_follow n line good bad number (suc k) (at + 6 * 0) more z (subst (λ m. CodeStands G ps p references m (labels_code line good bad number (suc k) (at + 6 * 0) more)) (sym here) stands) inside_good inside_bad (omega (arith, inside_end)) injection memory below enough finds (fragment_from (omega arith) misses))
  labels_follow n line good bad number k at ((r ∷ rs) ∷ more) z stands inside_good inside_bad inside_end injection memory below {d = d} enough finds misses =
      let body : ℕ = if is_number k number then good else bad in
      let ts : List Instr = tests_code line body at (r ∷ rs) in
      let others : List Instr = labels_code line good bad number (suc k) (at + 6 * length (r ∷ rs)) more in
      let long : length ts ≡ 6 * length (r ∷ rs) = tests_length line body at (r ∷ rs) in
      let behind : at + length ts ≡ at + 6 * length (r ∷ rs) = omega (arith, long) in
      tests_follow n line body at r rs z (code_front G ps p references at ts others stands) (inside_one (is_number k number)) (omega (arith, inside_end)) injection memory below enough (finds k)
      (fragment_credit {d = d} (omega arith) (λ a. omega arith) (labels_follow n line good bad number (suc k) (at + 6 * length (r ∷ rs)) more z (subst (λ m. CodeStands G ps p references m others) behind (code_back G ps p references at ts others stands)) inside_good inside_bad (omega (arith, inside_end)) injection memory below enough finds (fragment_from (omega arith) misses)))
    where
      inside_one : (b : Bool) → (if b then good else bad) < p.instructions.own
      inside_one true = inside_good
      inside_one false = inside_bad
