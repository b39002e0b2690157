-- The machine follows `and_then` and `or_else`.
use Rattle.std.proofs.Common.{◌≡◌, ℕ, ℤ, pos, suc, ◌+◌, ◌≤◌, ◌<◌, Bool, true, false, not, IsTrue, List, [], ◌∷◌, ◌++◌, length, Some, slice_get, refl, sym, ap, ◌∙◌, arith}
use Rattle.std.specs.Prelude.{if◌then◌else◌, ◌-ℤ◌}
use Rattle.std.proofs.Math.Bool.{not-not}
use Rattle.ep_simulation.specs.Follows.{Facts}
use Rattle.ep_simulation.specs.Layouts.{Layout}
use Rattle.ep_simulation.specs.Matching.{Slots, MachineMemory, Injection, at as standing}
use Rattle.ep_object.specs.Operands.{Operand, Word}
use Rattle.ep_object.specs.Placing.{Placement, CodeStands}
use Rattle.ep_object.specs.Runs.{unit_in}
use Rattle.ep_object.specs.State.{Running}
use Rattle.ep_object.specs.declared.code.Image.{Image}
use Rattle.ep_object.specs.declared.code.Instr.{Instr}
use Rattle.ep_object.specs.declared.code.Reference.{Reference}
use Rattle.ep_simulation.proofs.public.following.Fragments.{fragment_less, fragment_to, fragment_from, fragment_one, fragment_waits, fragment_move, fragment_give, fragment_credit, fragment_bind_number}
use Rattle.ep_simulation.proofs.public.matching.MoreMemory.{inside_here}
use Rattle.ep_simulation.proofs.public.rows.Rows.{jump_false_jumps, not_answers}
use Rattle.ep_simulation.proofs.public.rows.TextRows.{drop_drops, dup_pushes}
use Rattle.ep_meaning.specs.Calls.{Handler}
use Rattle.ep_meaning.specs.Meaning.{eval}
use Rattle.ep_meaning.specs.Results.{weight_of}
use Rattle.ep_values.specs.Operations.{decides, is_true}
use Rattle.ep_values.specs.Printing.{Result}
use Rattle.ep_values.specs.Printing as result
use Rattle.ep_meaning.specs.Steady.{IsSteadyHandler}
use Rattle.ep_meaning.proofs.public.Steady.{steady_spend, steady_give}
use Rattle.ep_meaning.specs.Steps.{Computation, give, bind, spend}
use Rattle.ep_typed.specs.Trees.{Expr}
use Rattle.ep_meaning.specs.Valid.{Ordinal}
use Rattle.ep_values.specs.declared.operations.ShortOperation.{ShortOperation}
use Rattle.ep_values.specs.declared.operations.ShortOperation.TheVariants as short
use Rattle.ep_typed.specs.Hosts.{is_of_host}
use Rattle.ep_typed.specs.Hosts as host
use Rattle.ep_gen_code.specs.Instructions.{instr, bare}
use Rattle.ep_gen_expr.specs.ExprCode.{keep_code}
use Rattle.ep_gen_code.specs.Credit.{least_credit}
use Rattle.ep_gen_expr.proofs.public.Answering.{Evaluates, IsFollowed}
use Rattle.ep_gen_code.proofs.public.Waiting.{row_waits}
use Rattle.ep_gen_expr.proofs.Hosts.{not_true}
use Rattle.ep_gen_code.proofs.public.Placed.{instr_at, jump_false_has}
use Rattle.ep_object.specs.declared.op.TheConstants as op

-- what is left to do after the left operand, by whether it decides
abbrev rest : Handler → ℕ → List ℕ → ℕ → Bool → Result → Expr → Computation Result
rest call g unit line b a y = if b then spend 1 (give a) else bind (eval call g unit line y) (λ r. spend 1 (give r))

module _ {layout : Layout} {G : Image} {untouched : Slots} {Here : Facts} (ps : List Placement) (p : Placement) (references : List Reference) (call : Handler) (steady_call : IsSteadyHandler call) (g : ℕ) (unit : List ℕ) (line : ℕ) (room : p.instructions.before + p.instructions.own ≤ length G.instructions) where
  -- The jump, with the left operand below the word that it tests: it leads behind the right operand where the left one decides.
  jump_follows : (n place right end : ℕ) (y : Expr) (ys : List Instr) → IsFollowed layout G untouched Here p call g unit n (Ordinal host.Boolean) y line right ys → place + 2 ≡ p.instructions.before + right → end ≡ right + length ys → end < p.instructions.own
      → slice_get G.instructions place ≡ Some (instr op.JUMP_FALSE (pos (p.instructions.before + end)) 0 line) → slice_get G.instructions (place + 1) ≡ Some (bare line op.DROP)
      → (t z : ℤ) → IsTrue (is_of_host host.Boolean z) → (injection : Injection) (memory : MachineMemory) (below : List Operand) (d : ℕ) → least_credit ≤ d → unit_in G memory.frames ≡ unit → (b : Bool) → is_true t ≡ not b
      → Evaluates layout G untouched Here n injection memory place (Word t ∷ Word z ∷ below) (rest call g unit line b (result.Number z) y) (p.instructions.before + end) (Ordinal host.Boolean) below (d + 6) (d + 8)
  jump_follows n place right end y ys second behind ends inside at_jump at_drop t z of_z injection memory below d le unit_is true e =
      fragment_less {n = suc n} (omega arith) (fragment_one {n = n} {d1 = d + 8} (λ s matches. jump_false_jumps G place line (Word z ∷ below) t (p.instructions.before + end) (omega (arith, room)) at_jump memory s.trace ∙ ap (λ c. record { weight = 0; to = Running 0 (standing (if c then place + 1 else p.instructions.before + end) (Word z ∷ below) memory s.trace) }) e) (omega arith)
      (fragment_give (omega arith) (inside_here (record { number = z; is_number = refl; of_host = of_z; is = refl }))))
  jump_follows n place right end y ys second behind ends inside at_jump at_drop t z of_z injection memory below d le unit_is false e =
      fragment_waits {place1 = place + 1} {d1 = d + 5} (λ s matches. jump_false_jumps G place line (Word z ∷ below) t (p.instructions.before + end) (omega (arith, room)) at_jump memory s.trace ∙ ap (λ c. record { weight = 0; to = Running 0 (standing (if c then place + 1 else p.instructions.before + end) (Word z ∷ below) memory s.trace) }) e) (omega arith)
      (row_waits {d1 = d + 4} (drop_drops G (place + 1) line below (Word z) at_drop) (omega arith)
      (fragment_from {place = p.instructions.before + right} (omega (arith, behind)) (fragment_to {to = p.instructions.before + (right + length ys)} (ap (λ k. p.instructions.before + k) (sym ends))
      (fragment_bind_number {host = host.Boolean} {e = λ r. d + 4 + 8 + weight_of r} (λ r. steady_spend 1 (steady_give r)) (second injection memory below (d + 4) (omega arith) unit_is) (λ w longer after of_w grown routine.
      fragment_less {n = suc n} (omega arith) (fragment_move {d1 = d + 8} (omega arith) (fragment_give (omega arith) (inside_here (record { number = w; is_number = refl; of_host = of_w; is = refl })))))))))

  -- From the left operand, the machine follows the rest to the end of the code.
  pub kept_follows : (n at right end : ℕ) (operation : ShortOperation) (y : Expr) (ys : List Instr) → IsFollowed layout G untouched Here p call g unit n (Ordinal host.Boolean) y line right ys → right ≡ at + length (keep_code line operation) + 2 → end ≡ right + length ys → end < p.instructions.own
      → CodeStands G ps p references at (keep_code line operation ++ instr op.JUMP_FALSE (pos end) 0 line ∷ bare line op.DROP ∷ [])
      → (z : ℤ) → IsTrue (is_of_host host.Boolean z) → (injection : Injection) (memory : MachineMemory) (below : List Operand) (d : ℕ) → least_credit ≤ d → unit_in G memory.frames ≡ unit
      → Evaluates layout G untouched Here n injection memory (p.instructions.before + at) (Word z ∷ below) (rest call g unit line (decides operation z) (result.Number z) y) (p.instructions.before + end) (Ordinal host.Boolean) below (d + 8) (d + 8)
  kept_follows n at right end short.AndThen y ys second behind ends inside stands z of_z injection memory below d le unit_is =
      let place : ℕ = p.instructions.before + at in
      row_waits {d1 = d + 7} (dup_pushes G place line below z stands.0) (omega arith)
      (fragment_credit {d = d + 6} (omega arith) (λ r. omega arith) (jump_follows n (place + 1) right end y ys second (omega (arith, behind)) ends inside (instr_at G (omega arith) (jump_false_has G ps p references line (at + 1) end (bare line op.DROP ∷ []) inside stands.1)) (instr_at G (omega arith) stands.1.1.0) z z of_z injection memory below d le unit_is (not (is_true z)) (sym (not-not (is_true z)))))
  kept_follows n at right end short.OrElse y ys second behind ends inside stands z of_z injection memory below d le unit_is =
      let place : ℕ = p.instructions.before + at in
      row_waits {d1 = d + 7} (dup_pushes G place line below z stands.0) (omega arith)
      (row_waits {d1 = d + 6} (not_answers G (place + 1) line (Word z ∷ below) z of_z (instr_at G (omega arith) stands.1.0)) (omega arith)
      (jump_follows n (place + 1 + 1) right end y ys second (omega (arith, behind)) ends inside (instr_at G (omega arith) (jump_false_has G ps p references line (at + 1 + 1) end (bare line op.DROP ∷ []) inside stands.1.1)) (instr_at G (omega arith) stands.1.1.1.0) (pos 1 -ℤ z) z of_z injection memory below d le unit_is (is_true z) (not_true z of_z)))
