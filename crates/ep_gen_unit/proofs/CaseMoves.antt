-- The machine follows `case`.
use Rattle.std.proofs.Common.{◌≡◌, ℕ, ℤ, pos, suc, ◌+◌, ◌*◌, ◌≤◌, ◌<◌, List, [], ◌∷◌, length, refl, sym, ap, ◌∙◌, arith}
use Rattle.ep_simulation.specs.Follows.{point, Facts, Fragment, Inside, Bare}
use Rattle.ep_simulation.specs.Layouts.{Layout}
use Rattle.ep_simulation.specs.Matching.{Slots, MachineMemory, Injection}
use Rattle.ep_object.specs.Operands.{Operand, Word}
use Rattle.ep_object.specs.Placing.{Placement, CodeStands}
use Rattle.ep_object.specs.Runs.{unit_in}
use Rattle.ep_object.specs.State.{Stopped, Error}
use Rattle.ep_object.specs.declared.code.Image.{Image}
use Rattle.ep_object.specs.declared.code.Instr.{Instr}
use Rattle.ep_object.specs.declared.code.Reference.{Reference}
use Rattle.ep_simulation.proofs.public.following.Fragments.{fragment_give, fragment_stop, fragment_from, fragment_less, fragment_one, fragment_waits, fragment_move, fragment_bind_number, fragment_bind_bare}
use Rattle.ep_simulation.proofs.public.matching.MoreMemory.{unit_in-same, inside_here}
use Rattle.ep_simulation.proofs.public.rows.Rows.{jump_jumps, fail_fails}
use Rattle.ep_simulation.proofs.public.rows.TextRows.{drop_drops}
use Rattle.ep_meaning.specs.Calls.{Handler}
use Rattle.ep_typed.specs.Hosts.{Host}
use Rattle.ep_meaning.specs.Meaning.{exec, exec_all, exec_arms, exec_other}
use Rattle.ep_meaning.specs.Results.{weight_of}
use Rattle.ep_values.specs.Printing.{number_of}
use Rattle.ep_meaning.specs.Steady.{IsSteadyHandler}
use Rattle.ep_meaning.specs.Steps.{Computation}
use Rattle.ep_typed.specs.Trees.{Expr, Stmt, Stmts, Arms, next_arm, Other, no_other, otherwise_do, Case}
use Rattle.ep_meaning.specs.Valid as kind
use Rattle.ep_meaning.specs.Valid.{Declarations, IsExpr}
use Rattle.ep_values.specs.declared.run_error.TheConstants as run_error
use Rattle.ep_typed.specs.declared.tree.CaseRange.{CaseRange}
use Rattle.ep_meaning.proofs.public.Steady.{steady_spend, steady_give, steady_exec_arms, steady_exec_other}
use Rattle.ep_gen_code.specs.Instructions.{instr, bare}
use Rattle.ep_gen_expr.specs.ExprCode.{IsExprCode}
use Rattle.ep_gen_code.proofs.public.Waiting.{row_waits}
use Rattle.ep_gen_code.proofs.public.Placed.{jump_has}
use Rattle.ep_gen_expr.proofs.public.RangeMoves.{tests_follow}
use Rattle.ep_gen_expr.specs.ExprCode.{tests_code}
use Rattle.ep_gen_unit.proofs.Parts.{statement_credit, Moves, ExpressionsFollow}
use Rattle.ep_object.specs.declared.op.TheConstants as op

module _ (declared : Declarations) (layout : Layout) (G : Image) (untouched : Slots) (Here : Facts) (ps : List Placement) (p : Placement) (texts : List (List ℕ)) (references : List Reference) (call : Handler) (steady_call : IsSteadyHandler call) (n : ℕ) (unit : List ℕ) (room : p.instructions.before + p.instructions.own ≤ length G.instructions) where
  -- With the value of a selector on top, the machine follows the computation to another place, where that value is gone. Some of the credit before is for the instruction that drops it and for the step of the `case`.
  abbrev pub Selects : ℕ → ℕ → ℤ → Computation (Unit {0}) → Type 0
  Selects at to z c =
      (injection : Injection) (memory : MachineMemory) (below : List Operand) (d : ℕ) → statement_credit ≤ d → unit_in G memory.frames ≡ unit
      → Fragment layout G Here n (point injection memory (p.instructions.before + at) (Word z ∷ below)) c (p.instructions.before + to) (λ a. Inside untouched injection memory (Bare below a)) (d + 7) (λ a. d)

  -- an arm, whose tests end at `test_end` and whose statement ends at `body_end`
  pub arm_parts : (line leave at test_end body_end end : ℕ) (r : CaseRange) (rs : List CaseRange) (s : Stmt) (arms : Arms) (z : ℤ) (fails : Computation (Unit {0})) → test_end ≡ at + 6 * length (r ∷ rs)
      → CodeStands G ps p references at (tests_code line (test_end + 1) at (r ∷ rs))
      → CodeStands G ps p references test_end (instr op.JUMP (pos (body_end + 1)) 0 line ∷ bare line op.DROP ∷ [])
      → CodeStands G ps p references body_end (instr op.JUMP (pos leave) 0 line ∷ []) → CodeStands G ps p references leave (instr op.JUMP (pos end) 0 line ∷ [])
      → test_end + 1 < p.instructions.own → body_end + 1 < p.instructions.own → leave < p.instructions.own → end < p.instructions.own
      → Moves layout G untouched Here ps p texts references call n unit (test_end + 2) body_end (exec call n unit s)
      → Selects (body_end + 1) end z (exec_arms call n unit z arms fails)
      → Selects at end z (exec_arms call n unit z (next_arm (r ∷ rs) s arms) fails)
  arm_parts line leave at test_end body_end end r rs s arms z fails tests_end at_tests at_over at_away at_leave inside_test inside_body inside_leave inside_end body_moves rest_selects injection memory below d enough home =
      let place : ℕ = p.instructions.before + (test_end + 1) in
      tests_follow ps p references call n unit room n line (test_end + 1) at r rs z at_tests inside_test (omega (arith, tests_end, inside_test)) injection memory below {d = d + 7} (omega (arith, enough))
      (row_waits {d1 = d + 8} (drop_drops G place line below (Word z) at_over.1.0) (omega arith)
      (fragment_from {place = p.instructions.before + (test_end + 2)} (omega arith)
      (fragment_bind_bare {e = λ a. d + 8} (λ a. steady_spend 1 (steady_give tt)) (body_moves injection memory below (d + 8) (omega (arith, enough)) home) (λ a longer after grown routine.
      fragment_waits {place1 = p.instructions.before + leave} {d1 = d + 7} (λ s matches. jump_jumps G (p.instructions.before + body_end) line below (p.instructions.before + leave) (omega (arith, room, inside_leave)) (jump_has G ps p references line body_end leave [] inside_leave at_away) after s.trace) (omega arith)
      (fragment_less {n = suc n} (omega arith) (fragment_one {d1 = d} (λ s matches. jump_jumps G (p.instructions.before + leave) line below (p.instructions.before + end) (omega (arith, room, inside_end)) (jump_has G ps p references line leave end [] inside_end at_leave) after s.trace) (omega arith)
      (fragment_give (omega arith) (inside_here refl))))))))
      (fragment_from {place = p.instructions.before + test_end} (ap (λ k. p.instructions.before + k) (sym tests_end))
      (fragment_waits {place1 = p.instructions.before + (body_end + 1)} {d1 = d + 7} (λ s matches. jump_jumps G (p.instructions.before + test_end) line (Word z ∷ below) (p.instructions.before + (body_end + 1)) (omega (arith, room, inside_body)) (jump_has G ps p references line test_end (body_end + 1) (bare line op.DROP ∷ []) inside_body at_over) memory s.trace) (omega arith)
      (rest_selects injection memory below d enough home)))

  -- the end by an error
  pub fail_parts : (line at end : ℕ) (z : ℤ) → CodeStands G ps p references at (instr op.FAIL (pos run_error.NO_CASE) 0 line ∷ []) → Selects at end z (exec_other call n unit line no_other)
  fail_parts line at end z stands injection memory below d enough home =
      fragment_stop {weight = 0} (λ s matches. fail_fails G (p.instructions.before + at) line (Word z ∷ below) run_error.NO_CASE refl stands.0 memory s.trace ∙ ap (λ u. record { weight = 0; to = Stopped (Error run_error.NO_CASE u line) s.trace }) home) (omega (arith, enough))

  -- the statements of `otherwise`
  pub otherwise_parts : (line at end : ℕ) (ss : Stmts) (z : ℤ) → CodeStands G ps p references at (bare line op.DROP ∷ []) → Moves layout G untouched Here ps p texts references call n unit (at + 1) end (exec_all call n unit ss) → Selects at end z (exec_other call n unit line (otherwise_do ss))
  otherwise_parts line at end ss z stands moves injection memory below d enough home =
      row_waits {d1 = d + 6} (drop_drops G (p.instructions.before + at) line below (Word z) stands.0) (omega arith)
      (fragment_from {place = p.instructions.before + (at + 1)} (omega arith)
      (fragment_bind_bare {e = λ a. d + 6} (λ a. steady_spend 1 (steady_give tt)) (moves injection memory below (d + 6) (omega (arith, enough)) home) (λ a longer after grown routine.
      fragment_less {n = suc n} (omega arith) (fragment_move {d1 = d} (omega arith) (fragment_give (omega arith) (inside_here refl))))))

  module _ (expressions : ExpressionsFollow declared layout G untouched Here ps p texts references call n unit) where
    -- the whole, where the arms begin at `start`
    pub case_parts : (line at start end : ℕ) (h : Host) (x : Expr) (arms : Arms) (o : Other) (xs : List Instr) → IsExpr declared (kind.Ordinal h) x → IsExprCode texts references line at x xs → start ≡ at + length xs + 2 → start < p.instructions.own → CodeStands G ps p references at xs
        → CodeStands G ps p references (at + length xs) (instr op.JUMP (pos start) 0 line ∷ [])
        → ((z : ℤ) → Selects start end z (exec_arms call n unit z arms (exec_other call n unit line o)))
        → Moves layout G untouched Here ps p texts references call n unit at end (exec call n unit (Case line x arms o))
    case_parts line at start end h x arms o xs valid code starts inside at_selector at_on selects injection memory below d enough home =
        fragment_bind_number {host = h} {e = λ r. d + 8 + weight_of r} (λ r. steady_exec_arms call steady_call n unit (number_of r) arms (steady_exec_other call steady_call n unit line o))
        (expressions (kind.Ordinal h) x valid line at xs code at_selector (omega (arith, starts, inside)) injection memory below d (omega (arith, enough)) home) (λ z longer after of_host grown routine.
        fragment_waits {place1 = p.instructions.before + start} {d1 = d + 7} (λ s matches. jump_jumps G (p.instructions.before + (at + length xs)) line (Word z ∷ below) (p.instructions.before + start) (omega (arith, room, inside)) (jump_has G ps p references line (at + length xs) start [] inside at_on) after s.trace) (omega arith)
        (selects z longer after below d enough (unit_in-same G routine ∙ home)))
