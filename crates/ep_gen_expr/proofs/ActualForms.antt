-- The code of actual parameters and of calls, from that of its parts.
use Rattle.std.proofs.Common.{◌≡◌, ℕ, pos, List, [], ◌∷◌, ◌++◌, map, ◌<◌, ◌+◌, take, length, get_or, slice_get, Some, refl, sym, ap, ◌∙◌, subst, append_assoc, append-nil, arith, length-append}
use Rattle.std.proofs.lemmas.List.{map_more}
use Rattle.ep_object.specs.declared.code.Instr.{Instr}
use Rattle.ep_object.specs.declared.code.Reference.{Reference}
use Rattle.ep_object.specs.declared.op.TheConstants as op
use Rattle.ep_typed.specs.Trees.{Callee, Place, Expr, Function, Actual, Evaluated, Accessed, Actuals, actuals}
use Rattle.ep_gen_expr.specs.ExprCode.{IsActualCode, AreActualsCode}
use Rattle.ep_gen_code.specs.Instructions.{instr, reference}
use Rattle.ep_gen_code.specs.Growth.{Grows}
use Rattle.ep_gen_expr.specs.Growth.{NumbersReference, AppendsPlace, AppendsExpr, AppendsActual, AppendsActuals}
use Rattle.ep_gen_code.specs.Jumps.{IsNextPlace}
use Rattle.ep_gen_code.specs.declared.code.Code.{Code}
use Rattle.ep_gen_code.proofs.public.Landing.{grows_length}
use Rattle.ep_gen_code.proofs.public.Growing.{grows_none, grows_then, grows_at}
use Rattle.ep_gen_expr.proofs.Forms.{whole_expr}
use Rattle.ep_gen_code.proofs.public.Pushed.{get_later}
use Rattle.ep_gen_expr.proofs.public.Stays.{actuals_code_stays}

-- a value
pub appends_value : {a b : Code} (x : Expr) → AppendsExpr a b x → AppendsActual a b (Evaluated x)
appends_value x p = record { code = p.code; is_code = p.is_code; grows = p.grows }

-- a variable
pub appends_accessed : {a b : Code} (q : Place) → AppendsPlace a b q → AppendsActual a b (Accessed q)
appends_accessed q p = record { code = p.code; is_code = p.is_code; grows = p.grows }

module _ (ts : List (List ℕ)) (rs : List Reference) (line : ℕ) where
  -- one more behind others
  actuals_snoc : (at : ℕ) (given : List Actual) (a : Actual) (xs ys : List Instr) → AreActualsCode ts rs line at (actuals given) xs → IsActualCode ts rs line (at + length xs) a ys → AreActualsCode ts rs line at (actuals (given ++ a ∷ [])) (xs ++ ys)
  actuals_snoc at [] a xs ys h k =
      let here : at + length xs ≡ at = omega (arith, ap length h) in
      (ys, [], subst (λ n. IsActualCode ts rs line n a ys) here k, refl, ap (λ l. l ++ ys) h ∙ sym (append-nil ys))
  actuals_snoc at (b ∷ given) a xs ys h k =
      let there : at + length xs ≡ at + length h.0 + length h.1 = omega (arith, ap length h.4, length-append h.0 h.1) in
      (h.0, h.1 ++ ys, h.2, actuals_snoc (at + length h.0) given a h.1 ys h.3 (subst (λ n. IsActualCode ts rs line n a ys) there k), ap (λ l. l ++ ys) h.4 ∙ append_assoc h.0 h.1 ys)

-- none yet
pub actuals_none : (a : Code) → AppendsActuals a a (actuals [])
actuals_none a = record { code = []; is_code = refl; grows = grows_none a }

-- one after others
actuals_push : {a b c : Code} (given : List Actual) (x : Actual) → AppendsActuals a b (actuals given) → AppendsActual b c x → AppendsActuals a c (actuals (given ++ x ∷ []))
actuals_push {a = a} {b = b} {c = c} given x p q = record {
  code = p.code ++ q.code;
  is_code = actuals_snoc c.texts c.references a.line (length a.instructions) given x p.code q.code
      (actuals_code_stays b.texts c.texts b.references c.references a.line q.grows.texts.begins q.grows.references.begins (length a.instructions) (actuals given) p.code p.is_code)
      (subst (λ n. IsActualCode c.texts c.references a.line n x q.code) (grows_length p.grows) (subst (λ l. IsActualCode c.texts c.references l (length b.instructions) x q.code) p.grows.line q.is_code));
  grows = grows_then p.grows q.grows;
}

-- one more actual parameter of a slice
pub actuals_more : {X : Type 0} {a b c : Code} (view : X → Actual) (xs : List X) (k : ℕ) (x : X) → k < length xs → x ≡ get_or xs k x → AppendsActuals a b (actuals (map view (take k xs))) → AppendsActual b c (view x) → AppendsActuals a c (actuals (map view (take (k + 1) xs)))
actuals_more {a = a} {c = c} view xs k x h e p q =
    subst (λ l. AppendsActuals a c (actuals l)) (ap (λ y. map view (take k xs) ++ view y ∷ []) e ∙ sym (map_more view xs k x h)) (actuals_push (map view (take k xs)) (view x) p q)

-- the actual parameters, a call, and the jump behind it
pub appends_call : {a b c d e : Code} (callee : Callee) (given : Actuals) (k n : ℕ) → AppendsActuals a b given → NumbersReference b c (reference callee.unit callee.number) k
    → Grows c d (instr op.CALL (pos k) callee.levels c.line ∷ []) → IsNextPlace d n → Grows d e (instr op.JUMP (pos (n + 1)) 0 d.line ∷ []) → AppendsExpr a e (Function callee given)
appends_call {a = a} {b = b} {d = d} {e = e} callee given k n p q call next jump =
    let xs = p.code in
    let at = length a.instructions in
    let calls : Grows b d (instr op.CALL (pos k) callee.levels b.line ∷ []) = grows_at (λ l. instr op.CALL (pos k) callee.levels l ∷ []) q.grows call in
    let after : Grows b e (instr op.CALL (pos k) callee.levels b.line ∷ instr op.JUMP (pos (n + 1)) 0 b.line ∷ []) = grows_at (λ l. instr op.JUMP (pos (n + 1)) 0 l ∷ []) calls jump in
    let whole_code : Grows a e (xs ++ instr op.CALL (pos k) callee.levels a.line ∷ instr op.JUMP (pos (n + 1)) 0 a.line ∷ []) = grows_at (λ l. instr op.CALL (pos k) callee.levels l ∷ instr op.JUMP (pos (n + 1)) 0 l ∷ []) p.grows after in
    let there : slice_get e.references k ≡ Some (reference callee.unit callee.number) = get_later k (reference callee.unit callee.number) jump.references.begins (get_later k (reference callee.unit callee.number) call.references.begins q.there) in
    let next_is : n + 1 ≡ at + length xs + 2 = omega (arith, next.is_length, grows_length calls, grows_length p.grows) in
    whole_expr (Function callee given) (xs ++ instr op.CALL (pos k) callee.levels a.line ∷ instr op.JUMP (pos (at + length xs + 2)) 0 a.line ∷ []) (
      xs,
      k,
      actuals_code_stays b.texts e.texts b.references e.references a.line after.texts.begins after.references.begins at given xs p.is_code,
      there,
      refl,
    )
    (subst (λ m. Grows a e (xs ++ instr op.CALL (pos k) callee.levels a.line ∷ instr op.JUMP (pos m) 0 a.line ∷ [])) next_is whole_code)

pub ruleset actual_forms = (appends_value, appends_accessed)
