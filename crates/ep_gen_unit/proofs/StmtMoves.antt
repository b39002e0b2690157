-- The machine follows statements.
use Rattle.std.proofs.Common.{◌≡◌, ℕ, pos, ◌+◌, ◌≤◌, ◌<◌, List, [], ◌∷◌, ◌++◌, length, length-append, refl, sym, ap, ◌∙◌, subst, arith, ℤ, ◌*◌}
use Rattle.ep_simulation.specs.Follows.{Facts, Lasts}
use Rattle.ep_simulation.specs.Layouts.{Layout}
use Rattle.ep_simulation.specs.Matching.{Slots}
use Rattle.ep_gen_code.specs.Instructions.{instr, bare}
use Rattle.ep_gen_expr.specs.ExprCode.{tests_code}
use Rattle.ep_gen_unit.specs.StmtCode.{IsStmtCode, AreStmtsCode, AreArmsCode, IsOtherCode}
use Rattle.ep_gen_unit.proofs.Parts.{Moves, ExpressionsFollow, PlacesFollow, CallsFollow, code_stands-parts}
use Rattle.ep_simulation.proofs.public.rows.ChangeRows.{may_take}
use Rattle.ep_gen_unit.proofs.Simple.{empty_moves, halt_moves, assigned_moves}
use Rattle.ep_gen_unit.proofs.Branching.{if_parts, repeat_parts, while_parts}
use Rattle.ep_gen_unit.proofs.ForMoves.{for_stands, for_parts}
use Rattle.ep_gen_unit.proofs.MemberMoves.{members_stand, members_parts}
use Rattle.ep_gen_unit.proofs.ProcedureMoves.{procedure_moves}
use Rattle.ep_gen_unit.proofs.CaseMoves.{Selects, arm_parts, fail_parts, otherwise_parts, case_parts}
use Rattle.ep_gen_expr.proofs.public.Stays.{tests_length}
use Rattle.ep_gen_unit.specs.TagCode.{selected_code, selected_length}
use Rattle.ep_gen_unit.proofs.TagLengths.{selected_code_length}
use Rattle.ep_gen_unit.proofs.TagMoves.{tag_parts}
use Rattle.ep_gen_unit.proofs.WithMoves.{BindsFollow, with_parts}
use Rattle.ep_gen_unit.proofs.Writing.{write_moves}
use Rattle.ep_object.specs.Placing.{Placement, CodeStands}
use Rattle.ep_simulation.specs.Promises.{CallsAreKept}
use Rattle.ep_simulation.specs.Scene.{Scene}
use Rattle.ep_object.specs.declared.code.Image.{Image}
use Rattle.ep_object.specs.declared.code.Instr.{Instr}
use Rattle.ep_object.specs.declared.code.Reference.{Reference}
use Rattle.ep_simulation.proofs.public.following.Fragments.{fragment_to, fragment_bind_bare}
use Rattle.ep_simulation.proofs.public.matching.MoreMemory.{unit_in-same}
use Rattle.ep_meaning.specs.Steady.{IsSteadyHandler}
use Rattle.ep_meaning.specs.Calls.{Handler}
use Rattle.ep_meaning.proofs.public.Steady.{steady_exec_all}
use Rattle.ep_meaning.specs.Meaning.{exec, exec_all, exec_arms, exec_other}
use Rattle.ep_typed.specs.Trees.{Stmt, Stmts, Empty, Compound, Assign, AssignTag, If, While, Repeat, For, ForIn, With, Procedure, Halt, Write, none, next, Case, Arms, no_arm, next_arm, Other, no_other, otherwise_do}
use Rattle.ep_meaning.specs.Valid.{Declarations, IsStmt, AreStmts, AreArms, IsOther}
use Rattle.ep_meaning.specs.Steps.{Computation}
use Rattle.ep_typed.specs.Hosts.{Host}
use Rattle.ep_object.specs.declared.op.TheConstants as op

module _ {declared : Declarations} {layout : Layout} {G : Image} {untouched : Slots} {Here : Facts} (lasts : Lasts untouched Here) (ps : List Placement) (p : Placement) (texts : List (List ℕ)) (references : List Reference) (call : Handler) (steady_call : IsSteadyHandler call) (n : ℕ) (unit : List ℕ) (room : p.instructions.before + p.instructions.own ≤ length G.instructions) (scene : Scene declared layout G ps p texts)
    (expressions : ExpressionsFollow declared layout G untouched Here ps p texts references call n unit) (places : PlacesFollow declared layout G untouched Here ps p texts references call n unit)
    (calls_follow : CallsFollow declared layout G untouched Here ps p texts references call n unit) (kept : CallsAreKept declared layout G ps call n) (binds : BindsFollow declared layout G untouched Here ps p references call n unit) where
  -- The code of a statement does what it means, where more code stands behind it.
  mutual
    pub statement_moves : (s : Stmt) (at : ℕ) (is : List Instr) → IsStmt declared s → IsStmtCode texts references at s is → CodeStands G ps p references at is → at + length is < p.instructions.own → Moves layout G untouched Here ps p texts references call n unit at (at + length is) (exec call n unit s)
    statement_moves Empty at is valid h stands inside = λ injection memory below d enough home. fragment_to {to = p.instructions.before + (at + 0)} (omega (arith, ap length h)) (empty_moves lasts ps p texts references call steady_call n unit at injection memory below d enough home)
    statement_moves (Compound ss) at is valid h stands inside = statements_move ss at is valid h stands inside
    statement_moves (Assign line q x) at is valid h stands inside =
        assigned_moves lasts ps p texts references call steady_call n unit scene expressions places line at q valid.0 valid.0 (may_take valid.0) x is valid.1 valid.2 h inside stands
    statement_moves (AssignTag line c q s x) at is valid h stands inside =
        let ends : at + length h.0 + length h.1 + length h.2 + selected_length s + length h.3 + length h.4 ≡ at + length is = omega (
          arith,
          ap length h.10,
          length-append h.0 (h.1 ++ (h.2 ++ (selected_code line (at + length h.0 + length h.1 + length h.2) s ++ (h.3 ++ h.4)))),
          length-append h.1 (h.2 ++ (selected_code line (at + length h.0 + length h.1 + length h.2) s ++ (h.3 ++ h.4))),
          length-append h.2 (selected_code line (at + length h.0 + length h.1 + length h.2) s ++ (h.3 ++ h.4)),
          length-append (selected_code line (at + length h.0 + length h.1 + length h.2) s) (h.3 ++ h.4),
          length-append h.3 h.4,
          selected_code_length line (at + length h.0 + length h.1 + length h.2) s,
        ) in
        subst (λ k. Moves layout G untouched Here ps p texts references call n unit at k (exec call n unit (AssignTag line c q s x))) ends
        (tag_parts lasts ps p texts references call steady_call n unit room scene expressions places line at c q s x valid.0 h.0 h.1 h.2 h.3 h.4 valid.1 valid.2 h.5 h.6 h.7 h.8 h.9 (subst (λ k. CodeStands G ps p references at k) h.10 stands) (omega (arith, ends, inside)))
    statement_moves (If line x a b) at is valid h stands inside =
        let test_end : ℕ = at + length h.0 in
        let then_end : ℕ = at + length h.0 + 1 + length h.1 in
        let else_end : ℕ = at + length h.0 + 1 + length h.1 + 1 + length h.2 in
        let jump : Instr = instr op.JUMP (pos else_end) 0 line in
        let jump_false : Instr = instr op.JUMP_FALSE (pos (then_end + 1)) 0 line in
        let first = code_stands-parts G ps p references at h.0 (jump_false ∷ (h.1 ++ jump ∷ h.2)) (subst (λ k. CodeStands G ps p references at k) h.6 stands) in
        let second = code_stands-parts G ps p references (test_end + 1) h.1 (jump ∷ h.2) first.1.1 in
        let ends : else_end ≡ at + length is = omega (arith, ap length h.6, length-append h.0 (jump_false ∷ (h.1 ++ jump ∷ h.2)), length-append h.1 (jump ∷ h.2)) in
        let then_moves = statement_moves a (test_end + 1) h.1 valid.1 h.4 second.0 (omega arith) in
        let else_moves = statement_moves b (then_end + 1) h.2 valid.2 h.5 second.1.1 (omega arith) in
        subst (λ k. Moves layout G untouched Here ps p texts references call n unit at k (exec call n unit (If line x a b))) ends
        (if_parts ps p texts references call steady_call n unit room expressions line at test_end then_end else_end x a b h.0 valid.0 h.3 refl (omega (arith, ends, inside)) first.0 (first.1.0, tt) (second.1.0, tt) (omega arith) (omega arith) then_moves else_moves)
    statement_moves (While line x s) at is valid h stands inside =
        let test_end : ℕ = at + length h.0 in
        let body_end : ℕ = at + length h.0 + 1 + length h.1 in
        let jump : Instr = instr op.JUMP (pos at) 0 line in
        let jump_false : Instr = instr op.JUMP_FALSE (pos (body_end + 1)) 0 line in
        let first = code_stands-parts G ps p references at h.0 (jump_false ∷ (h.1 ++ jump ∷ [])) (subst (λ k. CodeStands G ps p references at k) h.4 stands) in
        let second = code_stands-parts G ps p references (test_end + 1) h.1 (jump ∷ []) first.1.1 in
        let ends : body_end + 1 ≡ at + length is = omega (arith, ap length h.4, length-append h.0 (jump_false ∷ (h.1 ++ jump ∷ [])), length-append h.1 (jump ∷ [])) in
        let body_moves = statement_moves s (test_end + 1) h.1 valid.1 h.3 second.0 (omega arith) in
        subst (λ k. Moves layout G untouched Here ps p texts references call n unit at k (exec call n unit (While line x s))) ends
        (while_parts ps p texts references call steady_call n unit room expressions line at test_end body_end x s h.0 valid.0 h.2 refl (omega (arith, ends, inside)) first.0 (first.1.0, tt) second.1 (omega arith) (omega arith) body_moves)
    statement_moves (For line c x y s) at is valid h stands inside =
        let parts = for_stands G ps p texts references line at c x y h.0 h.1 h.2 h.3 h.4 h.5 h.6 h.7 h.9 h.10 h.11 (subst (λ k. CodeStands G ps p references at k) h.12 stands) (omega (arith, ap length h.12, inside)) in
        let body_moves = statement_moves s (at + length h.0 + 1 + length h.1) h.2 valid.1 h.8 parts.body_stands (omega (arith, parts.room)) in
        subst (λ k. Moves layout G untouched Here ps p texts references call n unit at (at + length k) (exec call n unit (For line c x y s))) (sym h.12)
        (for_parts lasts ps p texts references call steady_call n unit room scene expressions places line at c x y s h.0 h.1 h.2 h.3 h.4 h.5 valid.0.0 valid.0.1 valid.0.2 valid.0.3 parts body_moves)
    statement_moves (ForIn line c x s) at is valid h stands inside =
        let parts = members_stand G ps p texts references line at c x h.0 h.1 h.2 h.3 h.4 h.5 h.6 h.7 h.8 h.9 h.11 (subst (λ k. CodeStands G ps p references at k) h.12 stands) (omega (arith, ap length h.12, inside)) in
        let body_moves = statement_moves s (at + length h.0 + length h.1 + 1 + length h.2 + length h.3) h.4 valid.1 h.10 parts.body_stands (omega (arith, parts.room)) in
        subst (λ k. Moves layout G untouched Here ps p texts references call n unit at (at + length k) (exec call n unit (ForIn line c x s))) (sym h.12)
        (members_parts lasts ps p texts references call steady_call n unit room scene expressions places line at c x s h.0 h.1 h.2 h.3 h.4 h.5 valid.0.0 valid.0.1 valid.0.2 parts body_moves)
    statement_moves (Repeat line ss x) at is valid h stands inside =
        let body_end : ℕ = at + length h.0 in
        let test_end : ℕ = at + length h.0 + length h.1 in
        let jump : Instr = instr op.JUMP_FALSE (pos at) 0 line in
        let first = code_stands-parts G ps p references at h.0 (h.1 ++ jump ∷ []) (subst (λ k. CodeStands G ps p references at k) h.4 stands) in
        let second = code_stands-parts G ps p references body_end h.1 (jump ∷ []) first.1 in
        let ends : test_end + 1 ≡ at + length is = omega (arith, ap length h.4, length-append h.0 (h.1 ++ jump ∷ []), length-append h.1 (jump ∷ [])) in
        let body_moves = statements_move ss at h.0 valid.0 h.2 first.0 (omega (arith, ends, inside)) in
        subst (λ k. Moves layout G untouched Here ps p texts references call n unit at k (exec call n unit (Repeat line ss x))) ends
        (repeat_parts ps p texts references call steady_call n unit room expressions line at body_end test_end ss x h.1 valid.1 h.3 refl (omega (arith, ends, inside)) (omega arith) second.0 second.1 body_moves)
    statement_moves (With line v of q s) at is valid h stands inside =
        let parts = code_stands-parts G ps p references at h.0 h.1 (subst (λ k. CodeStands G ps p references at k) h.4 stands) in
        let ends : at + length h.0 + length h.1 ≡ at + length is = omega (arith, ap length h.4, length-append h.0 h.1) in
        let body = statement_moves s (at + length h.0) h.1 valid.1 h.3 parts.1 (omega (arith, ends, inside)) in
        subst (λ k. Moves layout G untouched Here ps p texts references call n unit at k (exec call n unit (With line v of q s))) ends
        (with_parts ps p texts references call steady_call n unit scene places binds line at v of q s h.0 (at + length h.0 + length h.1) valid.0 h.2 parts.0 (omega (arith, ends, inside)) body)
    statement_moves (Procedure line callee given) at is valid h stands inside =
        let calls : List Instr = instr op.CALL (pos h.1) callee.levels line ∷ instr op.JUMP (pos (at + length h.0 + 2)) 0 line ∷ [] in
        let ends : at + length h.0 + 2 ≡ at + length is = omega (arith, ap length h.4, length-append h.0 calls) in
        subst (λ k. Moves layout G untouched Here ps p texts references call n unit at k (exec call n unit (Procedure line callee given))) ends
        (procedure_moves ps p texts references call n unit room calls_follow kept line at callee h.1 given h.0 valid h.2 h.3 (subst (λ k. CodeStands G ps p references at k) h.4 stands) (omega (arith, ends, inside)))
    statement_moves (Case line x arms o) at is valid h stands inside =
        let start : ℕ = at + length h.0 + 2 in
        let leave : ℕ = at + length h.0 + 1 in
        let arms_end : ℕ = at + length h.0 + 2 + length h.1 in
        let end : ℕ = at + length h.0 + 2 + length h.1 + length h.2 in
        let on : Instr = instr op.JUMP (pos start) 0 line in
        let out : Instr = instr op.JUMP (pos end) 0 line in
        let first = code_stands-parts G ps p references at h.0 (on ∷ out ∷ (h.1 ++ h.2)) (subst (λ k. CodeStands G ps p references at k) h.6 stands) in
        let behind : CodeStands G ps p references start (h.1 ++ h.2) = subst (λ k. CodeStands G ps p references k (h.1 ++ h.2)) (omega arith) first.1.1.1 in
        let second = code_stands-parts G ps p references start h.1 h.2 behind in
        let ends : end ≡ at + length is = omega (arith, ap length h.6, length-append h.0 (on ∷ out ∷ (h.1 ++ h.2)), length-append h.1 h.2) in
        let others : (z : ℤ) → Selects declared layout G untouched Here ps p texts references call steady_call n unit room arms_end end z (exec_other call n unit line o) = λ z. other_selects o line arms_end h.2 z valid.1 h.5 second.1 (omega (arith, ends, inside)) in
        let chosen : (z : ℤ) → Selects declared layout G untouched Here ps p texts references call steady_call n unit room start end z (exec_arms call n unit z arms (exec_other call n unit line o)) =
        λ z. arms_select arms valid.0.0 line leave start arms_end end h.1 z (exec_other call n unit line o) refl valid.0.2 h.4 second.0 (first.1.1.0, tt) (omega arith) (omega (arith, ends, inside)) (omega (arith, ends, inside)) (omega (arith, ends, inside)) (others z) in
        subst (λ k. Moves layout G untouched Here ps p texts references call n unit at k (exec call n unit (Case line x arms o))) ends
        (case_parts declared layout G untouched Here ps p texts references call steady_call n unit room expressions line at start end valid.0.0 x arms o h.0 valid.0.1 h.3 refl (omega (arith, ends, inside)) first.0 (first.1.0, tt) chosen)
    statement_moves (Halt line) at is valid h stands inside = halt_moves lasts ps p texts references call steady_call n unit line at (at + length is) (subst (λ k. CodeStands G ps p references at k) h stands)
    statement_moves (Write line items ends_line) at is valid h stands inside = write_moves lasts ps p texts references call steady_call n unit expressions line at items ends_line is valid.0 valid.1 h inside stands

    pub statements_move : (ss : Stmts) (at : ℕ) (is : List Instr) → AreStmts declared ss → AreStmtsCode texts references at ss is → CodeStands G ps p references at is → at + length is < p.instructions.own → Moves layout G untouched Here ps p texts references call n unit at (at + length is) (exec_all call n unit ss)
    statements_move none at is valid h stands inside = λ injection memory below d enough home. fragment_to {to = p.instructions.before + (at + 0)} (omega (arith, ap length h)) (empty_moves lasts ps p texts references call steady_call n unit at injection memory below d enough home)
    statements_move (next s ss) at is valid h stands inside =
        let parts = code_stands-parts G ps p references at h.0 h.1 (subst (λ k. CodeStands G ps p references at k) h.4 stands) in
        let ends : at + length h.0 + length h.1 ≡ at + length is = omega (arith, ap length h.4, length-append h.0 h.1) in
        let first = statement_moves s at h.0 valid.0 h.2 parts.0 (omega arith) in
        let second = statements_move ss (at + length h.0) h.1 valid.1 h.3 parts.1 (omega arith) in
        λ injection memory below d enough home. fragment_to (ap (λ k. p.instructions.before + k) ends) (fragment_bind_bare {e = λ a. d} (λ a. steady_exec_all call steady_call n unit ss) (first injection memory below d enough home) (λ a longer after grown routine. second longer after below d enough (unit_in-same G routine ∙ home)))

    -- arms, from which the machine goes on at `rest_at` where no range has the value, and else at `end`, by the jump at `leave`
    pub arms_select : (arms : Arms) (host : Host) (line leave at rest_at end : ℕ) (is : List Instr) (z : ℤ) (fails : Computation (Unit {0})) → rest_at ≡ at + length is → AreArms declared host arms → AreArmsCode texts references line leave at arms is → CodeStands G ps p references at is
        → CodeStands G ps p references leave (instr op.JUMP (pos end) 0 line ∷ []) → leave < at → rest_at ≤ end → rest_at < p.instructions.own → end < p.instructions.own
        → Selects declared layout G untouched Here ps p texts references call steady_call n unit room rest_at end z fails
        → Selects declared layout G untouched Here ps p texts references call steady_call n unit room at end z (exec_arms call n unit z arms fails)
    arms_select no_arm host line leave at rest_at end is z fails ends valid h stands at_leave before le inside inside_end fails_select =
        let here : rest_at ≡ at = omega (arith, ends, ap length h) in
        subst (λ k. Selects declared layout G untouched Here ps p texts references call steady_call n unit room k end z fails) here fails_select
    arms_select (next_arm [] s arms) host line leave at rest_at end is z fails ends valid h stands at_leave before le inside inside_end fails_select = absurd valid.0
    arms_select (next_arm (r ∷ rs) s arms) host line leave at rest_at end is z fails ends valid h stands at_leave before le inside inside_end fails_select =
        let test_end : ℕ = at + 6 * length (r ∷ rs) in
        let body_end : ℕ = at + 6 * length (r ∷ rs) + 2 + length h.0 in
        let ts : List Instr = tests_code line (test_end + 1) at (r ∷ rs) in
        let over : Instr = instr op.JUMP (pos (body_end + 1)) 0 line in
        let drop : Instr = bare line op.DROP in
        let away : Instr = instr op.JUMP (pos leave) 0 line in
        let long : length ts ≡ 6 * length (r ∷ rs) = tests_length line (test_end + 1) at (r ∷ rs) in
        let first = code_stands-parts G ps p references at ts (over ∷ drop ∷ (h.0 ++ away ∷ h.1)) (subst (λ k. CodeStands G ps p references at k) h.4 stands) in
        let behind : CodeStands G ps p references test_end (over ∷ drop ∷ (h.0 ++ away ∷ h.1)) = subst (λ k. CodeStands G ps p references k (over ∷ drop ∷ (h.0 ++ away ∷ h.1))) (omega (arith, long)) first.1 in
        let body_stands : CodeStands G ps p references (test_end + 2) (h.0 ++ away ∷ h.1) = subst (λ k. CodeStands G ps p references k (h.0 ++ away ∷ h.1)) (omega arith) behind.1.1 in
        let second = code_stands-parts G ps p references (test_end + 2) h.0 (away ∷ h.1) body_stands in
        let total : rest_at ≡ body_end + 1 + length h.1 = omega (arith, ends, ap length h.4, long, length-append ts (over ∷ drop ∷ (h.0 ++ away ∷ h.1)), length-append h.0 (away ∷ h.1)) in
        let body_moves = statement_moves s (test_end + 2) h.0 valid.2 h.2 second.0 (omega (arith, total, inside)) in
        let rest_select = arms_select arms host line leave (body_end + 1) rest_at end h.1 z fails total valid.3 h.3 second.1.1 at_leave (omega (arith, before)) le inside inside_end fails_select in
        arm_parts declared layout G untouched Here ps p texts references call steady_call n unit room line leave at test_end body_end end r rs s arms z fails refl first.0 (behind.0, (behind.1.0, tt)) (second.1.0, tt) at_leave (omega (arith, total, inside)) (omega (arith, total, inside)) (omega (arith, before, total, inside)) inside_end body_moves rest_select

    pub other_selects : (o : Other) (line at : ℕ) (is : List Instr) (z : ℤ) → IsOther declared o → IsOtherCode texts references line at o is → CodeStands G ps p references at is → at + length is < p.instructions.own
        → Selects declared layout G untouched Here ps p texts references call steady_call n unit room at (at + length is) z (exec_other call n unit line o)
    other_selects no_other line at is z valid h stands inside =
        fail_parts declared layout G untouched Here ps p texts references call steady_call n unit room line at (at + length is) z (subst (λ k. CodeStands G ps p references at k) h stands)
    other_selects (otherwise_do ss) line at is z valid h stands inside =
        let parts = subst (λ k. CodeStands G ps p references at k) h.2 stands in
        let ends : at + 1 + length h.0 ≡ at + length is = omega (arith, ap length h.2) in
        let moves = statements_move ss (at + 1) h.0 valid h.1 parts.1 (omega (arith, ends, inside)) in
        otherwise_parts declared layout G untouched Here ps p texts references call steady_call n unit room line at (at + length is) ss z (parts.0, tt)
        (subst (λ k. Moves layout G untouched Here ps p texts references call n unit (at + 1) k (exec_all call n unit ss)) ends moves)
