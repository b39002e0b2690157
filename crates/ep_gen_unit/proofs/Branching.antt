-- The machine follows `if`, `while` and `repeat`.
use Rattle.std.proofs.Common.{◌≡◌, ℕ, pos, suc, ◌+◌, ◌≤◌, ◌<◌, List, [], ◌∷◌, length, refl, sym, ap, ◌∙◌, arith}
use Rattle.ep_simulation.specs.Follows.{Facts}
use Rattle.ep_simulation.specs.Layouts.{Layout}
use Rattle.ep_simulation.specs.Matching.{Slots}
use Rattle.ep_gen_code.specs.Instructions.{instr}
use Rattle.ep_gen_expr.specs.ExprCode.{IsExprCode}
use Rattle.ep_gen_code.proofs.public.Placed.{jump_has, jump_false_has}
use Rattle.ep_gen_unit.proofs.Parts.{Moves, ExpressionsFollow}
use Rattle.ep_object.specs.Placing.{Placement, CodeStands}
use Rattle.ep_object.specs.declared.code.Image.{Image}
use Rattle.ep_object.specs.declared.code.Instr.{Instr}
use Rattle.ep_object.specs.declared.code.Reference.{Reference}
use Rattle.ep_simulation.proofs.public.following.Choices.{fragment_branch, fragment_turns, fragment_turns_until}
use Rattle.ep_simulation.proofs.public.following.Fragments.{fragment_give, fragment_to, fragment_from, fragment_less, fragment_credit, fragment_one, fragment_move, fragment_bind_number, fragment_bind_bare}
use Rattle.ep_simulation.proofs.public.matching.MoreMemory.{unit_in-same, grown_refl, same_routine-refl, inside_here}
use Rattle.ep_simulation.proofs.public.rows.Rows.{jump_jumps, jump_false_jumps}
use Rattle.ep_meaning.specs.Steady.{IsSteadyHandler}
use Rattle.ep_meaning.specs.Calls.{Handler}
use Rattle.ep_meaning.proofs.public.Steady.{steady_bind, steady_spend, steady_give, steady_if, steady_eval, steady_exec, steady_exec_all}
use Rattle.ep_meaning.specs.Meaning.{exec, exec_all}
use Rattle.ep_meaning.specs.Results.{weight_of}
use Rattle.ep_values.specs.Operations.{is_true}
use Rattle.ep_values.specs.Printing.{number_of}
use Rattle.ep_typed.specs.Trees.{Expr, Stmt, Stmts, If, While, Repeat}
use Rattle.ep_meaning.specs.Valid as kind
use Rattle.ep_meaning.specs.Valid.{Declarations, IsExpr}
use Rattle.ep_typed.specs.Hosts as host
use Rattle.ep_object.specs.declared.op.TheConstants as op

module _ {declared : Declarations} {layout : Layout} {G : Image} {untouched : Slots} {Here : Facts} (ps : List Placement) (p : Placement) (texts : List (List ℕ)) (references : List Reference) (call : Handler) (steady_call : IsSteadyHandler call) (n : ℕ) (unit : List ℕ) (room : p.instructions.before + p.instructions.own ≤ length G.instructions) where
  module _ (expressions : ExpressionsFollow declared layout G untouched Here ps p texts references call n unit) where
    -- `if`, where the parts stand at `at`, `then_at` and `else_at`
    pub if_parts : (line at test_end then_end else_end : ℕ) (x : Expr) (a b : Stmt) (xs : List Instr) → IsExpr declared (kind.Ordinal host.Boolean) x → IsExprCode texts references line at x xs → test_end ≡ at + length xs → test_end < p.instructions.own → CodeStands G ps p references at xs
        → CodeStands G ps p references test_end (instr op.JUMP_FALSE (pos (then_end + 1)) 0 line ∷ []) → CodeStands G ps p references then_end (instr op.JUMP (pos else_end) 0 line ∷ []) → then_end + 1 < p.instructions.own → else_end < p.instructions.own
        → Moves layout G untouched Here ps p texts references call n unit (test_end + 1) then_end (exec call n unit a) → Moves layout G untouched Here ps p texts references call n unit (then_end + 1) else_end (exec call n unit b)
        → Moves layout G untouched Here ps p texts references call n unit at else_end (exec call n unit (If line x a b))
    if_parts line at test_end then_end else_end x a b xs valid code ends test_inside at_test at_out at_jump inside inside_end then_moves else_moves injection memory below d enough home =
        fragment_bind_number {host = host.Boolean} {e = λ r. d + 8 + weight_of r} (λ r. steady_if (is_true (number_of r)) (steady_bind (steady_exec call steady_call n unit a) (λ u. steady_spend 1 (steady_give tt))) (steady_bind (steady_exec call steady_call n unit b) (λ u. steady_spend 1 (steady_give tt))))
        (fragment_to {to = p.instructions.before + (at + length xs)} (ap (λ k. p.instructions.before + k) (sym ends)) (expressions (kind.Ordinal host.Boolean) x valid line at xs code at_test (omega (arith, ends, test_inside)) injection memory below d (omega arith) home)) (λ z longer after of_host grown routine.
        fragment_branch {then_place = p.instructions.before + test_end + 1} {else_place = p.instructions.before + (then_end + 1)} {d1 = d + 7} (is_true z)
        (λ s matches. jump_false_jumps G (p.instructions.before + test_end) line below z (p.instructions.before + (then_end + 1)) (omega (arith, room)) (jump_false_has G ps p references line test_end (then_end + 1) [] inside at_out) after s.trace) (omega arith)
        (λ is. fragment_from {place = p.instructions.before + (test_end + 1)} (omega arith) (fragment_bind_bare {e = λ u. d + 7} (λ u. steady_spend 1 (steady_give tt)) (then_moves longer after below (d + 7) (omega arith) (unit_in-same G routine ∙ home)) (λ u last final grown2 routine2.
        fragment_less {n = suc n} (omega arith) (fragment_one {d1 = d} (λ s matches. jump_jumps G (p.instructions.before + then_end) line below (p.instructions.before + else_end) (omega (arith, room)) (jump_has G ps p references line then_end else_end [] inside_end at_jump) final s.trace) (omega arith) (fragment_give (omega arith) (inside_here refl))))))
        (λ is. fragment_bind_bare {e = λ u. d + 7} (λ u. steady_spend 1 (steady_give tt)) (else_moves longer after below (d + 7) (omega arith) (unit_in-same G routine ∙ home)) (λ u last final grown2 routine2.
        fragment_less {n = suc n} (omega arith) (fragment_move {d1 = d} (omega arith) (fragment_give (omega arith) (inside_here refl))))))

    -- `while`
    pub while_parts : (line at test_end body_end : ℕ) (x : Expr) (s : Stmt) (xs : List Instr) → IsExpr declared (kind.Ordinal host.Boolean) x → IsExprCode texts references line at x xs → test_end ≡ at + length xs → test_end < p.instructions.own → CodeStands G ps p references at xs
        → CodeStands G ps p references test_end (instr op.JUMP_FALSE (pos (body_end + 1)) 0 line ∷ []) → CodeStands G ps p references body_end (instr op.JUMP (pos at) 0 line ∷ []) → body_end + 1 < p.instructions.own → at ≤ body_end
        → Moves layout G untouched Here ps p texts references call n unit (test_end + 1) body_end (exec call n unit s)
        → Moves layout G untouched Here ps p texts references call n unit at (body_end + 1) (exec call n unit (While line x s))
    while_parts line at test_end body_end x s xs valid code ends test_inside at_test at_out at_jump inside before body_moves injection memory below d enough home =
        fragment_turns {place = p.instructions.before + at} {test_end = p.instructions.before + test_end} {body_place = p.instructions.before + test_end + 1} {body_end = p.instructions.before + body_end} {to = p.instructions.before + (body_end + 1)} call n unit d (steady_eval call steady_call n unit line x) (steady_exec call steady_call n unit s) injection memory
        (λ longer after grown routine. fragment_to {to = p.instructions.before + (at + length xs)} (ap (λ k. p.instructions.before + k) (sym ends)) (fragment_credit {d = d} {e = λ r. d + 8 + weight_of r} (omega arith) (λ r. omega arith) (expressions (kind.Ordinal host.Boolean) x valid line at xs code at_test (omega (arith, ends, test_inside)) longer after below d (omega arith) (unit_in-same G routine ∙ home))))
        (λ z after trace routine. jump_false_jumps G (p.instructions.before + test_end) line below z (p.instructions.before + (body_end + 1)) (omega (arith, room)) (jump_false_has G ps p references line test_end (body_end + 1) [] inside at_out) after trace)
        (λ longer after grown routine. fragment_from {place = p.instructions.before + (test_end + 1)} (omega arith) (body_moves longer after below (d + 1) (omega arith) (unit_in-same G routine ∙ home)))
        (λ after trace routine. jump_jumps G (p.instructions.before + body_end) line below (p.instructions.before + at) (omega (arith, room)) (jump_has G ps p references line body_end at [] (omega arith) at_jump) after trace)
        n (omega arith) injection memory (grown_refl injection memory) (same_routine-refl memory.frames)

    -- `repeat`
    pub repeat_parts : (line at body_end test_end : ℕ) (ss : Stmts) (x : Expr) (xs : List Instr) → IsExpr declared (kind.Ordinal host.Boolean) x → IsExprCode texts references line body_end x xs → test_end ≡ body_end + length xs → test_end < p.instructions.own → at ≤ body_end → CodeStands G ps p references body_end xs
        → CodeStands G ps p references test_end (instr op.JUMP_FALSE (pos at) 0 line ∷ [])
        → Moves layout G untouched Here ps p texts references call n unit at body_end (exec_all call n unit ss)
        → Moves layout G untouched Here ps p texts references call n unit at (test_end + 1) (exec call n unit (Repeat line ss x))
    repeat_parts line at body_end test_end ss x xs valid code ends inside before at_test at_back body_moves injection memory below d enough home =
        fragment_to {to = p.instructions.before + test_end + 1} (omega arith)
        (fragment_turns_until {place = p.instructions.before + at} {body_end = p.instructions.before + body_end} {test_end = p.instructions.before + test_end} call n unit d (steady_exec_all call steady_call n unit ss) (steady_eval call steady_call n unit line x) injection memory
        (λ longer after grown routine. body_moves longer after below d enough (unit_in-same G routine ∙ home))
        (λ longer after grown routine. fragment_to {to = p.instructions.before + (body_end + length xs)} (ap (λ k. p.instructions.before + k) (sym ends)) (fragment_credit {d = d} {e = λ r. d + 8 + weight_of r} (omega arith) (λ r. omega arith) (expressions (kind.Ordinal host.Boolean) x valid line body_end xs code at_test (omega (arith, ends, inside)) longer after below d (omega arith) (unit_in-same G routine ∙ home))))
        (λ z after trace routine. jump_false_jumps G (p.instructions.before + test_end) line below z (p.instructions.before + at) (omega (arith, room)) (jump_false_has G ps p references line test_end at [] (omega arith) at_back) after trace)
        n (omega arith) injection memory (grown_refl injection memory) (same_routine-refl memory.frames))
