-- The code of `case`, from that of its parts.
use Rattle.std.proofs.Common.{◌≡◌, ℕ, pos, ◌+◌, ◌*◌, ◌<◌, List, [], ◌∷◌, ◌++◌, map, take, length, get_or, refl, sym, ap, ◌∙◌, subst, append_assoc, arith, length-append}
use Rattle.std.proofs.lemmas.List.{map_more}
use Rattle.ep_object.specs.declared.code.Instr.{Instr}
use Rattle.ep_object.specs.declared.code.Reference.{Reference}
use Rattle.ep_typed.specs.Trees.{Expr, Stmt, Stmts, Case, Arm, Arms, Other, no_other, otherwise_do, arms}
use Rattle.ep_values.specs.declared.run_error.TheConstants as run_error
use Rattle.ep_typed.specs.declared.tree.CaseRange.{CaseRange}
use Rattle.ep_gen_code.specs.Instructions.{bare, instr}
use Rattle.ep_gen_expr.specs.ExprCode.{tests_code}
use Rattle.ep_gen_expr.proofs.public.Stays.{tests_length}
use Rattle.ep_gen_code.specs.Growth.{Grows}
use Rattle.ep_gen_expr.specs.Growth.{AppendsExpr}
use Rattle.ep_gen_code.specs.Jumps.{IsNextPlace, LeavesHole, landed}
use Rattle.ep_gen_code.specs.declared.code.Code.{Code}
use Rattle.ep_gen_unit.specs.StmtCode.{IsStmtCode, AreStmtsCode, AreArmsCode, IsOtherCode}
use Rattle.ep_gen_unit.specs.StmtGrowth.{Follows, AppendsStmt, AppendsStmts, AppendsArms, AppendsOther, AppendsTests, OpensCase, ClosesCase}
use Rattle.ep_gen_unit.proofs.StmtStays.{stmt_code_short, arms_code_stays, other_code_stays}
use Rattle.ep_gen_unit.proofs.Following.{IsLater, later_then, later_grows, later_follows, later_landed, expr_later, stmt_later, follows_none, follows_grows, follows_line, follows_then, follows_middle, follows_landed, grown_length}
use Rattle.ep_object.specs.declared.op.TheConstants as op

-- ---- arms

-- the code of an arm, whose jump over its statement lands
pub appends_arm : {b c d f g : Code} (a e : Code) (line leave k : ℕ) (ranges : List CaseRange) (s : Stmt) → AppendsTests (record a { line = line }) b ranges → LeavesHole b c k → Grows c d (bare c.line op.DROP ∷ []) → AppendsStmt d e s → Grows (record e { line = line }) f (instr op.JUMP (pos leave) 0 line ∷ []) → g ≡ landed f k op.JUMP line
    → AppendsArms line leave a g (arms ((ranges, s) ∷ []))
appends_arm {b = b} {c = c} {d = d} {f = f} {g = g} a e line leave k ranges s p hole dropped q r l =
    let at = length a.instructions in
    let n = 6 * length ranges in
    let ts = tests_code line (at + n + 1) at ranges in
    let ss = q.code in
    let i = hole.filler in
    let last = instr op.JUMP (pos leave) 0 line in
    let line_c : c.line ≡ line = hole.grows.line ∙ p.line in
    let dropped2 : Grows c d (bare line op.DROP ∷ []) = subst (λ x. Grows c d (bare x op.DROP ∷ [])) line_c dropped in
    let to_b : Follows a b ts = follows_line a line (follows_grows p) in
    let to_c : Follows a c (ts ++ i ∷ []) = follows_then to_b (follows_grows hole.grows) in
    let to_d : Follows a d (ts ++ i ∷ (bare line op.DROP ∷ [])) = follows_middle ts i [] (bare line op.DROP ∷ []) to_c (follows_grows dropped2) in
    let to_e : Follows a e (ts ++ i ∷ ((bare line op.DROP ∷ []) ++ ss)) = follows_middle ts i (bare line op.DROP ∷ []) ss to_d q.follows in
    let to_f : Follows a f (ts ++ i ∷ ((bare line op.DROP ∷ ss) ++ last ∷ [])) = follows_middle ts i (bare line op.DROP ∷ ss) (last ∷ []) to_e (follows_line e line (follows_grows r)) in
    let to_g : Follows a g (ts ++ instr op.JUMP (pos (length f.instructions)) 0 line ∷ ((bare line op.DROP ∷ ss) ++ last ∷ [])) = follows_landed ts i ((bare line op.DROP ∷ ss) ++ last ∷ []) k op.JUMP line to_f (hole.is_length ∙ grown_length to_b) l in
    let len_ts : length ts ≡ n = tests_length line (at + n + 1) at ranges in
    let len_b : length b.instructions ≡ at + length ts = grown_length to_b in
    let len_c : length c.instructions ≡ length b.instructions + 1 = grown_length (follows_grows hole.grows) in
    let len_d : length d.instructions ≡ length c.instructions + 1 = grown_length (follows_grows dropped) in
    let len_e : length e.instructions ≡ length d.instructions + length ss = grown_length q.follows in
    let len_f : length f.instructions ≡ length e.instructions + 1 = grown_length (follows_grows r) in
    let at_body : length d.instructions ≡ at + n + 2 = omega (arith, len_ts, len_b, len_c, len_d) in
    let at_end : length f.instructions ≡ at + n + 2 + length ss + 1 = omega (arith, at_body, len_e, len_f) in
    let e_g : IsLater e g = later_then (later_follows (follows_line e line (follows_grows r))) (later_landed k op.JUMP line l) in
    record {
      code = ts ++ instr op.JUMP (pos (length f.instructions)) 0 line ∷ bare line op.DROP ∷ (ss ++ last ∷ []);
      is_code = (ss, [], subst (λ w. IsStmtCode g.texts g.references w s ss) at_body (stmt_later (length d.instructions) s ss e_g q.is_code), refl, ap (λ w. ts ++ instr op.JUMP (pos w) 0 line ∷ bare line op.DROP ∷ (ss ++ last ∷ [])) at_end);
      follows = to_g;
    }

module _ (ts : List (List ℕ)) (rs : List Reference) (line leave : ℕ) where
  arms_snoc : (at : ℕ) (all : List Arm) (x : Arm) (xs ys : List Instr) → AreArmsCode ts rs line leave at (arms all) xs → AreArmsCode ts rs line leave (at + length xs) (arms (x ∷ [])) ys → AreArmsCode ts rs line leave at (arms (all ++ x ∷ [])) (xs ++ ys)
  arms_snoc at [] x xs ys h k =
      let here : at + length xs ≡ at = omega (arith, ap length h) in
      let same : ys ≡ xs ++ ys = sym (ap (λ l. l ++ ys) h) in
      subst (λ l. AreArmsCode ts rs line leave at (arms (x ∷ [])) l) same (subst (λ n. AreArmsCode ts rs line leave n (arms (x ∷ [])) ys) here k)
  arms_snoc at (y ∷ all) x xs ys h k =
      let front = tests_code line (at + 6 * length y.0 + 1) at y.0 in
      let over = instr op.JUMP (pos (at + 6 * length y.0 + 2 + length h.0 + 1)) 0 line in
      let away = instr op.JUMP (pos leave) 0 line in
      let there : at + length xs ≡ at + 6 * length y.0 + 2 + length h.0 + 1 + length h.1 = omega (arith, ap length h.4, length-append front (over ∷ bare line op.DROP ∷ (h.0 ++ away ∷ h.1)), length-append h.0 (away ∷ h.1), tests_length line (at + 6 * length y.0 + 1) at y.0) in (
        h.0,
        h.1 ++ ys,
        h.2,
        arms_snoc (at + 6 * length y.0 + 2 + length h.0 + 1) all x h.1 ys h.3 (subst (λ n. AreArmsCode ts rs line leave n (arms (x ∷ [])) ys) there k),
        ap (λ l. l ++ ys) h.4 ∙ append_assoc front (over ∷ bare line op.DROP ∷ (h.0 ++ away ∷ h.1)) ys ∙ ap (λ l. front ++ over ∷ bare line op.DROP ∷ l) (append_assoc h.0 (away ∷ h.1) ys),
      )

pub arms_none : (line leave : ℕ) (a : Code) → AppendsArms line leave a a (arms [])
arms_none line leave a = record { code = []; is_code = refl; follows = follows_none a }

arms_push : {b c : Code} (line leave : ℕ) (a : Code) (all : List Arm) (x : Arm) → AppendsArms line leave a b (arms all) → AppendsArms line leave b c (arms (x ∷ [])) → AppendsArms line leave a c (arms (all ++ x ∷ []))
arms_push {b = b} {c = c} line leave a all x p q = record {
  code = p.code ++ q.code;
  is_code = arms_snoc c.texts c.references line leave (length a.instructions) all x p.code q.code
      (arms_code_stays b.texts c.texts b.references c.references q.follows.texts.begins q.follows.references.begins line leave (length a.instructions) (arms all) p.code p.is_code)
      (subst (λ n. AreArmsCode c.texts c.references line leave n (arms (x ∷ [])) q.code) (grown_length p.follows) q.is_code);
  follows = follows_then p.follows q.follows;
}

-- one more arm of a slice
pub arms_more : {X : Type 0} {b c : Code} (line leave : ℕ) (a : Code) (view : X → Arm) (xs : List X) (k : ℕ) (x : X) → k < length xs → x ≡ get_or xs k x → AppendsArms line leave a b (arms (map view (take k xs))) → AppendsArms line leave b c (arms (view x ∷ [])) → AppendsArms line leave a c (arms (map view (take (k + 1) xs)))
arms_more {c = c} line leave a view xs k x h e p q =
    subst (λ l. AppendsArms line leave a c (arms l)) (ap (λ y. map view (take k xs) ++ view y ∷ []) e ∙ sym (map_more view xs k x h)) (arms_push line leave a (map view (take k xs)) (view x) p q)

-- ---- what is done where no range has the value

pub appends_no_other : {b : Code} (a : Code) (line : ℕ) → Grows (record a { line = line }) b (instr op.FAIL (pos run_error.NO_CASE) 0 line ∷ []) → AppendsOther line a b no_other
appends_no_other a line p = record { code = instr op.FAIL (pos run_error.NO_CASE) 0 line ∷ []; is_code = refl; follows = follows_line a line (follows_grows p) }

pub appends_otherwise : {b c : Code} (a : Code) (line : ℕ) (ss : Stmts) → Grows (record a { line = line }) b (bare line op.DROP ∷ []) → AppendsStmts b c ss → AppendsOther line a c (otherwise_do ss)
appends_otherwise {b = b} {c = c} a line ss p q =
    let to_b : Follows a b (bare line op.DROP ∷ []) = follows_line a line (follows_grows p) in
    record {
      code = bare line op.DROP ∷ q.code;
      is_code = (q.code, subst (λ n. AreStmtsCode c.texts c.references n ss q.code) (grown_length to_b) q.is_code, refl);
      follows = follows_then to_b q.follows;
    }

-- ---- the whole

-- the beginning of a `case`
pub opens_case : {b c d e : Code} (a : Code) (line n k : ℕ) (x : Expr) (all : Arms) → AppendsExpr (record a { line = line }) b x → IsNextPlace b n → Grows b c (instr op.JUMP (pos (n + 2)) 0 b.line ∷ []) → LeavesHole c d k → AppendsArms line k d e all → OpensCase line k a e x all
opens_case {b = b} {c = c} {d = d} {e = e} a line n k x all p start first hole q =
    let xs = p.code in
    let ys = q.code in
    let at = length a.instructions in
    let on : ℕ → Instr = λ m. instr op.JUMP (pos m) 0 line in
    let to_b : Follows a b xs = follows_line a line (follows_grows p.grows) in
    let first2 : Grows b c (on (n + 2) ∷ []) = subst (λ w. Grows b c (instr op.JUMP (pos (n + 2)) 0 w ∷ [])) p.grows.line first in
    let len_b : length b.instructions ≡ at + length xs = grown_length to_b in
    let len_c : length c.instructions ≡ length b.instructions + 1 = grown_length (follows_grows first) in
    let len_d : length d.instructions ≡ length c.instructions + 1 = grown_length (follows_grows hole.grows) in
    let at_n : n + 2 ≡ at + length xs + 2 = omega (arith, start.is_length, len_b) in
    let at_arms : length d.instructions ≡ at + length xs + 2 = omega (arith, len_b, len_c, len_d) in
    let b_e : IsLater b e = later_then (later_grows first) (later_then (later_grows hole.grows) (later_follows q.follows)) in
    let to_c : Follows a c (xs ++ on (n + 2) ∷ []) = follows_then to_b (follows_grows first2) in
    let to_d : Follows a d (xs ++ on (n + 2) ∷ (hole.filler ∷ [])) = follows_middle xs (on (n + 2)) [] (hole.filler ∷ []) to_c (follows_grows hole.grows) in
    let to_e : Follows a e (xs ++ on (n + 2) ∷ (hole.filler ∷ ys)) = follows_middle xs (on (n + 2)) (hole.filler ∷ []) ys to_d q.follows in
    record {
      selector = xs;
      filler = hole.filler;
      code = ys;
      is_selector = expr_later line at x xs b_e p.is_code;
      is_code = subst (λ w. AreArmsCode e.texts e.references line k w all ys) at_arms q.is_code;
      is_place = omega (arith, hole.is_length, len_b, len_c);
      inside = omega (arith, hole.is_length, len_d, grown_length q.follows);
      follows = subst (λ w. Follows a e (xs ++ on w ∷ (hole.filler ∷ ys))) at_n to_e;
    }

pub closes_case : {b c : Code} (a : Code) (line k : ℕ) (o : Other) → AppendsOther line a b o → c ≡ landed b k op.JUMP line → ClosesCase line k a c o
closes_case {b = b} a line k o p l = record { last = b; appends = p; lands = l }

abbrev case_body : List Instr → List Instr → List Instr → ℕ → ℕ → ℕ → List Instr
case_body xs ys zs line start end = xs ++ instr op.JUMP (pos start) 0 line ∷ instr op.JUMP (pos end) 0 line ∷ (ys ++ zs)

pub appends_case : {b c : Code} (a : Code) (line k : ℕ) (x : Expr) (all : Arms) (o : Other) → OpensCase line k a b x all → ClosesCase line k b c o → AppendsStmt a c (Case line x all o)
appends_case {b = b} {c = c} a line k x all o p q =
    let xs = p.selector in
    let ys = p.code in
    let zs = q.appends.code in
    let at = length a.instructions in
    let start = at + length xs + 2 in
    let on = instr op.JUMP (pos start) 0 line in
    let end = length q.last.instructions in
    let front = xs ++ on ∷ [] in
    let seam : xs ++ on ∷ p.filler ∷ ys ≡ front ++ p.filler ∷ ys = sym (append_assoc xs (on ∷ []) (p.filler ∷ ys)) in
    let to_b : Follows a b (front ++ p.filler ∷ ys) = subst (λ w. Follows a b w) seam p.follows in
    let to_last : Follows a q.last (front ++ p.filler ∷ (ys ++ zs)) = follows_middle front p.filler ys zs to_b q.appends.follows in
    let hole : k ≡ at + length front = omega (arith, p.is_place, length-append xs (on ∷ [])) in
    let to_c : Follows a c (front ++ instr op.JUMP (pos end) 0 line ∷ (ys ++ zs)) = follows_landed front p.filler (ys ++ zs) k op.JUMP line to_last hole q.lands in
    let len_b : length b.instructions ≡ at + length xs + 2 + length ys = omega (arith, grown_length p.follows, length-append xs (on ∷ p.filler ∷ ys)) in
    let at_end : end ≡ at + length xs + 2 + length ys + length zs = omega (arith, len_b, grown_length q.appends.follows) in
    let last_c : IsLater q.last c = later_landed k op.JUMP line q.lands in
    let b_c : IsLater b c = later_then (later_follows q.appends.follows) last_c in
    let code = case_body xs ys zs line start (at + length xs + 2 + length ys + length zs) in
    let is_code : IsStmtCode c.texts c.references at (Case line x all o) code = (
      xs,
      ys,
      zs,
      expr_later line at x xs b_c p.is_selector,
      subst (λ w. AreArmsCode c.texts c.references line w start all ys) p.is_place (arms_code_stays b.texts c.texts b.references c.references b_c.texts.begins b_c.references.begins line k start all ys p.is_code),
      subst (λ w. IsOtherCode c.texts c.references line w o zs) len_b
          (other_code_stays q.last.texts c.texts q.last.references c.references last_c.texts.begins last_c.references.begins line (length b.instructions) o zs q.appends.is_code),
      refl,
    ) in
    record {
      code = code;
      is_code = is_code;
      follows = subst (λ w. Follows a c (case_body xs ys zs line start w)) at_end (subst (λ w. Follows a c w) (append_assoc xs (on ∷ []) (instr op.JUMP (pos end) 0 line ∷ (ys ++ zs))) to_c);
      short = stmt_code_short c.texts c.references at (Case line x all o) code is_code;
    }
