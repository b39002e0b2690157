-- The code of a `with` of several records, from that of each of them and of its statement.
use Rattle.std.proofs.Common.{◌≡◌, ℕ, ◌+◌, ◌<◌, List, [], ◌∷◌, ◌++◌, map, take, length, get_or, refl, sym, ap, ◌∙◌, subst, append_assoc, append-nil, arith, length-append}
use Rattle.std.proofs.lemmas.List.{map_more}
use Rattle.ep_object.specs.declared.code.Instr.{Instr}
use Rattle.ep_object.specs.declared.code.Reference.{Reference}
use Rattle.ep_typed.specs.Trees.{Stmt, WithRecord, with_form}
use Rattle.ep_typed.specs.Viewed.{with_record_of}
use Rattle.ep_typed.specs.declared.tree.WithRecord.{WithRecord as Written}
use Rattle.ep_gen_code.specs.declared.code.Code.{Code}
use Rattle.ep_gen_unit.specs.StmtCode.{AreBindsCode, IsBindCode, IsStmtCode}
use Rattle.ep_gen_unit.specs.StmtGrowth.{AppendsBind, AppendsBinds, AppendsStmt}
use Rattle.ep_gen_unit.proofs.StmtStays.{binds_code_stays, stmt_code_short}
use Rattle.ep_gen_unit.proofs.Following.{follows_none, follows_then, grown_length}

module _ (ts : List (List ℕ)) (rs : List Reference) (line : ℕ) where
  -- one record more at the end
  binds_snoc : (at : ℕ) (ws : List WithRecord) (w : WithRecord) (xs ys : List Instr) → AreBindsCode ts rs line at ws xs → IsBindCode ts rs line (at + length xs) w.variable w.place ys → AreBindsCode ts rs line at (ws ++ w ∷ []) (xs ++ ys)
  binds_snoc at [] w xs ys h k =
      let here : at + length xs ≡ at = omega (arith, ap length h) in
      (ys, [], subst (λ n. IsBindCode ts rs line n w.variable w.place ys) here k, refl, ap (λ l. l ++ ys) h ∙ sym (append-nil ys))
  binds_snoc at (v ∷ ws) w xs ys h k =
      let there : at + length xs ≡ at + length h.0 + length h.1 = omega (arith, ap length h.4, length-append h.0 h.1) in
      (h.0, h.1 ++ ys, h.2, binds_snoc (at + length h.0) ws w h.1 ys h.3 (subst (λ n. IsBindCode ts rs line n w.variable w.place ys) there k), ap (λ l. l ++ ys) h.4 ∙ append_assoc h.0 h.1 ys)

  -- the statement behind them
  with_code : (at : ℕ) (ws : List WithRecord) (s : Stmt) (xs ys : List Instr) → AreBindsCode ts rs line at ws xs → IsStmtCode ts rs (at + length xs) s ys → IsStmtCode ts rs at (with_form line ws s) (xs ++ ys)
  with_code at [] s xs ys h k =
      let here : at + length xs ≡ at = omega (arith, ap length h) in
      subst (λ l. IsStmtCode ts rs at s (l ++ ys)) (sym h) (subst (λ n. IsStmtCode ts rs n s ys) here k)
  with_code at (w ∷ ws) s xs ys h k =
      let there : at + length xs ≡ at + length h.0 + length h.1 = omega (arith, ap length h.4, length-append h.0 h.1) in
      (h.0, h.1 ++ ys, h.2, with_code (at + length h.0) ws s h.1 ys h.3 (subst (λ n. IsStmtCode ts rs n s ys) there k), ap (λ l. l ++ ys) h.4 ∙ append_assoc h.0 h.1 ys)

pub binds_none : (a : Code) (line : ℕ) → AppendsBinds line a a []
binds_none a line = record { code = []; is_code = refl; follows = follows_none a }

binds_push : {b c : Code} (a : Code) (line : ℕ) (ws : List WithRecord) (w : WithRecord) → AppendsBinds line a b ws → AppendsBind line b c w.variable w.place → AppendsBinds line a c (ws ++ w ∷ [])
binds_push {b = b} {c = c} a line ws w p q = record {
  code = p.code ++ q.code;
  is_code = binds_snoc c.texts c.references line (length a.instructions) ws w p.code q.code
      (binds_code_stays b.texts c.texts b.references c.references q.follows.texts.begins q.follows.references.begins line (length a.instructions) ws p.code p.is_code)
      (subst (λ n. IsBindCode c.texts c.references line n w.variable w.place q.code) (grown_length p.follows) q.is_code);
  follows = follows_then p.follows q.follows;
}

-- one more record of a slice
pub binds_more : {b c : Code} (a : Code) (line : ℕ) (xs : List Written) (k : ℕ) (x : Written) → k < length xs → x ≡ get_or xs k x → AppendsBinds line a b (map with_record_of (take k xs)) → AppendsBind line b c (with_record_of x).variable (with_record_of x).place → AppendsBinds line a c (map with_record_of (take (k + 1) xs))
binds_more {c = c} a line xs k x h e p q =
    subst (λ l. AppendsBinds line a c l) (ap (λ y. map with_record_of (take k xs) ++ with_record_of y ∷ []) e ∙ sym (map_more with_record_of xs k x h)) (binds_push a line (map with_record_of (take k xs)) (with_record_of x) p q)

-- and the whole
pub appends_with : {b c : Code} (a : Code) (line : ℕ) (ws : List WithRecord) (s : Stmt) → AppendsBinds line a b ws → AppendsStmt b c s → AppendsStmt a c (with_form line ws s)
appends_with {b = b} {c = c} a line ws s p q =
    let is_code = with_code c.texts c.references line (length a.instructions) ws s p.code q.code
    (binds_code_stays b.texts c.texts b.references c.references q.follows.texts.begins q.follows.references.begins line (length a.instructions) ws p.code p.is_code)
    (subst (λ k. IsStmtCode c.texts c.references k s q.code) (grown_length p.follows) q.is_code) in
    record {
      code = p.code ++ q.code;
      is_code = is_code;
      follows = follows_then p.follows q.follows;
      short = stmt_code_short c.texts c.references (length a.instructions) (with_form line ws s) (p.code ++ q.code) is_code;
    }
