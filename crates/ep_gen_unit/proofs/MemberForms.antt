-- The code of a `for` over members, from that of its parts.
use Rattle.std.proofs.Common.{◌≡◌, ℕ, pos, ◌+◌, ◌<◌, List, [], ◌∷◌, ◌++◌, length, refl, ◌∙◌, subst, arith}
use Rattle.ep_object.specs.declared.code.Instr.{Instr}
use Rattle.ep_meaning.specs.Controls.{has_more, others}
use Rattle.ep_typed.specs.Trees.{entire, Expr, Read, MemberControl, Stmt, Assign, ForIn}
use Rattle.ep_gen_expr.specs.ExprCode.{IsExprCode}
use Rattle.ep_gen_code.specs.Instructions.{bare, instr, push}
use Rattle.ep_gen_code.specs.Growth.{Grows}
use Rattle.ep_gen_expr.specs.Growth.{AppendsPlace, AppendsExpr}
use Rattle.ep_gen_code.specs.Jumps.{IsNextPlace, LeavesHole, landed}
use Rattle.ep_gen_code.specs.declared.code.Code.{Code}
use Rattle.ep_gen_code.proofs.public.Growing.{grows_at}
use Rattle.ep_gen_expr.proofs.public.Stays.{place_code_stays}
use Rattle.ep_gen_unit.specs.StmtCode.{IsStmtCode, IsLeastCode, IsKeptCode, IsUndefineCode, for_in_code}
use Rattle.ep_gen_unit.specs.StmtGrowth.{Follows, AppendsMore, AppendsLeast, AppendsKept, AppendsUndefine, AppendsStmt}
use Rattle.ep_gen_unit.proofs.StmtStays.{least_code_stays, kept_code_stays, stmt_code_short}
use Rattle.ep_gen_unit.proofs.Following.{IsLater, later_then, later_grows, later_follows, later_landed, expr_later, stmt_later, follows_grows, follows_line, follows_then, follows_middle, follows_landed, grown_length, landed_length}
use Rattle.ep_object.specs.declared.op.TheConstants as op

-- whether members are to come
pub appends_more : {b : Code} (a : Code) (line : ℕ) (k : MemberControl) → AppendsExpr (record a { line = line }) b (has_more k) → AppendsMore line a b k
appends_more a line k p = record { code = p.code; is_code = p.is_code; follows = follows_line a line (follows_grows p.grows) }

-- the least one
pub appends_least : {b c d e f : Code} (a : Code) (line : ℕ) (k : MemberControl) → AppendsPlace (record a { line = line }) b (entire k.variable) → Grows b c (push b.line (pos 0) ∷ []) → AppendsExpr c d (Read (entire k.rest)) → Grows d e (bare d.line op.NEXT ∷ []) → Grows e f (bare e.line op.STORE ∷ [])
    → AppendsLeast line a f k
appends_least {b = b} {c = c} {d = d} {f = f} a line k p q r s t =
    let last : Grows d f (bare d.line op.NEXT ∷ bare d.line op.STORE ∷ []) = grows_at (λ l. bare l op.STORE ∷ []) s t in
    let reads : Grows c f (r.code ++ bare c.line op.NEXT ∷ bare c.line op.STORE ∷ []) = grows_at (λ l. bare l op.NEXT ∷ bare l op.STORE ∷ []) r.grows last in
    let pushes : Grows b f (push b.line (pos 0) ∷ (r.code ++ bare b.line op.NEXT ∷ bare b.line op.STORE ∷ [])) = grows_at (λ l. r.code ++ bare l op.NEXT ∷ bare l op.STORE ∷ []) q reads in
    let later : IsLater b f = later_grows pushes in
    let read : IsExprCode f.texts f.references line (length c.instructions) (Read (entire k.rest)) r.code =
    subst (λ l. IsExprCode f.texts f.references l (length c.instructions) (Read (entire k.rest)) r.code) (p.grows.line) (subst (λ l. IsExprCode f.texts f.references l (length c.instructions) (Read (entire k.rest)) r.code) q.line (expr_later c.line (length c.instructions) (Read (entire k.rest)) r.code (later_grows last) r.is_code)) in
    let at_c : length c.instructions ≡ length a.instructions + length p.code + 1 = omega (arith, grown_length (follows_grows p.grows), grown_length (follows_grows q)) in
    record {
      code = p.code ++ push line (pos 0) ∷ (r.code ++ bare line op.NEXT ∷ bare line op.STORE ∷ []);
      is_code = (
        p.code,
        r.code,
        place_code_stays b.texts f.texts b.references f.references line later.texts.begins later.references.begins (length a.instructions) (entire k.variable) p.code p.is_code,
        subst (λ n. IsExprCode f.texts f.references line n (Read (entire k.rest)) r.code) at_c read,
        refl,
      );
      follows = follows_line a line (follows_grows (grows_at (λ l. push l (pos 0) ∷ (r.code ++ bare l op.NEXT ∷ bare l op.STORE ∷ [])) p.grows pushes));
    }

-- the place of the auxiliary variable, and the others
pub appends_kept : {b c : Code} (a : Code) (line : ℕ) (k : MemberControl) → AppendsPlace (record a { line = line }) b (entire k.rest) → AppendsExpr b c (others k) → AppendsKept line a c k
appends_kept {b = b} {c = c} a line k p q =
    let later : IsLater b c = later_grows q.grows in
    record {
      code = p.code ++ q.code;
      is_code = (
        p.code,
        q.code,
        place_code_stays b.texts c.texts b.references c.references line later.texts.begins later.references.begins (length a.instructions) (entire k.rest) p.code p.is_code,
        subst (λ n. IsExprCode c.texts c.references line n (others k) q.code) (grown_length (follows_grows p.grows)) (subst (λ l. IsExprCode c.texts c.references l (length b.instructions) (others k) q.code) p.grows.line q.is_code),
        refl,
      );
      follows = follows_then (follows_line a line (follows_grows p.grows)) (follows_grows q.grows);
    }

-- a filler is within the code that follows it
pub hole_in_members : {c d e f g h : Code} (b : Code) (m line : ℕ) (k : MemberControl) (s : Stmt) (i : Instr) → LeavesHole b c m → AppendsLeast line c d k → AppendsKept line d e k → AppendsStmt e f s → Grows (record f { line = line }) g (bare line op.STORE ∷ []) → Grows g h (i ∷ []) → m < length h.instructions
hole_in_members b m line k s i p q r t u v =
    omega (arith, p.is_length, grown_length (follows_grows p.grows), grown_length q.follows, grown_length r.follows, grown_length t.follows, grown_length (follows_grows u), grown_length (follows_grows v))

module _ {b c d e f g h i j m : Code} (a : Code) (line leave start : ℕ) (k : MemberControl) (x : Expr) (s : Stmt)
    (sets : AppendsStmt a b (Assign line (entire k.rest) x)) (begins : IsNextPlace b start) (more : AppendsMore line b c k) (hole : LeavesHole c d leave) (first : AppendsLeast line d e k) (kept : AppendsKept line e f k) (body : AppendsStmt f g s)
    (stores : Grows (record g { line = line }) h (bare line op.STORE ∷ [])) (back : Grows h i (instr op.JUMP (pos start) 0 h.line ∷ [])) (lands : j ≡ landed i leave op.JUMP_FALSE line) (ends : AppendsUndefine line j m k.variable) where
  abbrev at : ℕ
  at = length a.instructions

  -- the turn, up to the jump back
  abbrev turn : List Instr
  turn = first.code ++ (kept.code ++ (body.code ++ bare line op.STORE ∷ []))

  abbrev back_code : Instr
  back_code = instr op.JUMP (pos start) 0 line

  to_h : Follows d h turn
  to_h = follows_then first.follows (follows_then kept.follows (follows_then body.follows (follows_line g line (follows_grows stores))))

  goes_back : Follows h i (back_code ∷ [])
  goes_back = subst (λ l. Follows h i (instr op.JUMP (pos start) 0 l ∷ [])) stores.line (follows_grows back)

  -- the turns, before their jump gets its goal and then
  to_i : Follows b i (more.code ++ hole.filler ∷ (turn ++ back_code ∷ []))
  to_i = follows_middle more.code hole.filler [] (turn ++ back_code ∷ []) (follows_then more.follows (follows_grows hole.grows)) (follows_then to_h goes_back)

  to_j : Follows b j (more.code ++ instr op.JUMP_FALSE (pos (length i.instructions)) 0 line ∷ (turn ++ back_code ∷ []))
  to_j = follows_landed more.code hole.filler (turn ++ back_code ∷ []) leave op.JUMP_FALSE line to_i (hole.is_length ∙ grown_length more.follows) lands

  to_m : Follows a m (sets.code ++ ((more.code ++ instr op.JUMP_FALSE (pos (length i.instructions)) 0 line ∷ (turn ++ back_code ∷ [])) ++ ends.code))
  to_m = follows_then sets.follows (follows_then to_j ends.follows)

  len_b : length b.instructions ≡ at + length sets.code
  len_b = grown_length sets.follows

  len_d : length d.instructions ≡ at + length sets.code + length more.code + 1
  len_d = omega (arith, len_b, grown_length more.follows, grown_length (follows_grows hole.grows))

  len_e : length e.instructions ≡ at + length sets.code + length more.code + 1 + length first.code
  len_e = omega (arith, len_d, grown_length first.follows)

  len_f : length f.instructions ≡ at + length sets.code + length more.code + 1 + length first.code + length kept.code
  len_f = omega (arith, len_e, grown_length kept.follows)

  len_i : length i.instructions ≡ at + length sets.code + length more.code + 1 + length first.code + length kept.code + length body.code + 1 + 1
  len_i = omega (arith, len_f, grown_length body.follows, grown_length (follows_grows stores), grown_length goes_back)

  len_j : length j.instructions ≡ at + length sets.code + length more.code + 1 + length first.code + length kept.code + length body.code + 1 + 1
  len_j = omega (arith, len_i, landed_length i leave op.JUMP_FALSE line lands)

  -- what comes later
  j_m : IsLater j m
  j_m = later_follows ends.follows

  g_m : IsLater g m
  g_m = later_then (later_follows (follows_line g line (follows_grows stores))) (later_then (later_follows goes_back) (later_then (later_landed leave op.JUMP_FALSE line lands) j_m))

  f_m : IsLater f m
  f_m = later_then (later_follows body.follows) g_m

  e_m : IsLater e m
  e_m = later_then (later_follows kept.follows) f_m

  d_m : IsLater d m
  d_m = later_then (later_follows first.follows) e_m

  c_m : IsLater c m
  c_m = later_then (later_grows hole.grows) d_m

  b_m : IsLater b m
  b_m = later_then (later_follows more.follows) c_m

  abbrev all_code : List Instr
  all_code = for_in_code line at sets.code more.code first.code kept.code body.code ends.code

  whole : Follows a m all_code
  whole =
      subst (λ n. Follows a m (sets.code ++ ((more.code ++ instr op.JUMP_FALSE (pos (at + length sets.code + length more.code + 1 + length first.code + length kept.code + length body.code + 1 + 1)) 0 line ∷ (turn ++ instr op.JUMP (pos n) 0 line ∷ [])) ++ ends.code))) (begins.is_length ∙ len_b)
      (subst (λ n. Follows a m (sets.code ++ ((more.code ++ instr op.JUMP_FALSE (pos n) 0 line ∷ (turn ++ back_code ∷ [])) ++ ends.code))) len_i to_m)

  pub appends_for_in : AppendsStmt a m (ForIn line k x s)
  appends_for_in =
      let code : IsStmtCode m.texts m.references at (ForIn line k x s) all_code = (
        sets.code,
        more.code,
        first.code,
        kept.code,
        body.code,
        ends.code,
        stmt_later at (Assign line (entire k.rest) x) sets.code b_m sets.is_code,
        subst (λ n. IsExprCode m.texts m.references line n (has_more k) more.code) len_b (expr_later line (length b.instructions) (has_more k) more.code c_m more.is_code),
        subst (λ n. IsLeastCode m.texts m.references line n k first.code) len_d (least_code_stays e.texts m.texts e.references m.references e_m.texts.begins e_m.references.begins line (length d.instructions) k first.code first.is_code),
        subst (λ n. IsKeptCode m.texts m.references line n k kept.code) len_e (kept_code_stays f.texts m.texts f.references m.references f_m.texts.begins f_m.references.begins line (length e.instructions) k kept.code kept.is_code),
        subst (λ n. IsStmtCode m.texts m.references n s body.code) len_f (stmt_later (length f.instructions) s body.code g_m body.is_code),
        subst (λ n. IsUndefineCode m.texts m.references line n k.variable ends.code) len_j ends.is_code,
        refl,
      ) in
      record { code = all_code; is_code = code; follows = whole; short = stmt_code_short m.texts m.references at (ForIn line k x s) all_code code }
