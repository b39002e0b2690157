-- The code of a `for`, from that of its parts.
use Rattle.std.proofs.Common.{◌≡◌, ℕ, pos, ◌+◌, ◌<◌, List, [], ◌∷◌, ◌++◌, length, refl, ap, ◌∙◌, subst, append_assoc, arith}
use Rattle.ep_object.specs.declared.code.Instr.{Instr}
use Rattle.ep_values.specs.declared.operations.Binary.TheVariants as binary
use Rattle.ep_meaning.specs.Controls.{in_order, next_value}
use Rattle.ep_typed.specs.Trees.{Entire, entire, Expr, Read, Control, Stmt, Assign, For}
use Rattle.ep_gen_expr.specs.ExprCode.{IsExprCode, two_code}
use Rattle.ep_gen_code.specs.Instructions.{bare, instr}
use Rattle.ep_gen_code.specs.Growth.{Grows}
use Rattle.ep_gen_expr.specs.Growth.{AppendsPlace, AppendsExpr}
use Rattle.ep_gen_code.specs.Jumps.{IsNextPlace, LeavesHole, landed}
use Rattle.ep_gen_code.specs.declared.code.Code.{Code}
use Rattle.ep_gen_code.proofs.public.Growing.{grows_at}
use Rattle.ep_gen_expr.proofs.public.Stays.{place_code_stays}
use Rattle.ep_gen_unit.specs.StmtCode.{IsStmtCode, IsFirstCode, IsTestCode, IsUndefineCode, for_code}
use Rattle.ep_gen_unit.specs.StmtGrowth.{Follows, AppendsBounds, AppendsFirst, AppendsTest, AppendsUndefine, AppendsStmt}
use Rattle.ep_gen_unit.proofs.StmtStays.{bounds_code_stays, first_code_stays, test_code_stays, stmt_code_short}
use Rattle.ep_gen_unit.proofs.Following.{IsLater, later_then, later_grows, later_follows, later_landed, expr_later, stmt_later, follows_grows, follows_line, follows_then, follows_middle, follows_landed, grown_length, landed_length}
use Rattle.ep_object.specs.declared.op.TheConstants as op

-- both bounds, and whether there is a turn
pub appends_bounds : {b c d : Code} (a : Code) (line : ℕ) (k : Control) (x y : Expr) → AppendsStmt a b (Assign line (entire k.initial) x) → AppendsStmt b c (Assign line (entire k.last) y) → AppendsExpr (record c { line = line }) d (in_order k) → AppendsBounds line a d k x y
appends_bounds {b = b} {c = c} {d = d} a line k x y p q r =
    let at = length a.instructions in
    let last : Follows c d r.code = follows_line c line (follows_grows r.grows) in
    let both : Follows b d (q.code ++ r.code) = follows_then q.follows last in
    let at_c : length c.instructions ≡ at + length p.code + length q.code = omega (arith, grown_length p.follows, grown_length q.follows) in
    record {
      code = p.code ++ (q.code ++ r.code);
      is_code = (
        p.code,
        q.code,
        r.code,
        stmt_later at (Assign line (entire k.initial) x) p.code (later_follows both) p.is_code,
        subst (λ n. IsStmtCode d.texts d.references n (Assign line (entire k.last) y) q.code) (grown_length p.follows) (stmt_later (length b.instructions) (Assign line (entire k.last) y) q.code (later_follows last) q.is_code),
        subst (λ n. IsExprCode d.texts d.references line n (in_order k) r.code) at_c r.is_code,
        refl,
      );
      follows = follows_then p.follows both;
    }

-- the final value, and the first one of the control variable
pub appends_first : {b c d : Code} (a : Code) (line : ℕ) (k : Control) → AppendsExpr (record a { line = line }) b (Read (entire k.last)) → AppendsStmt b c (Assign line (entire k.variable) (Read (entire k.last))) → AppendsStmt c d (Assign line (entire k.variable) (Read (entire k.initial))) → AppendsFirst line a d k
appends_first {b = b} {c = c} {d = d} a line k p q r =
    let at = length a.instructions in
    let one : Follows a b p.code = follows_line a line (follows_grows p.grows) in
    let both : Follows b d (q.code ++ r.code) = follows_then q.follows r.follows in
    let at_c : length c.instructions ≡ at + length p.code + length q.code = omega (arith, grown_length one, grown_length q.follows) in
    record {
      code = p.code ++ (q.code ++ r.code);
      is_code = (
        p.code,
        q.code,
        r.code,
        expr_later line at (Read (entire k.last)) p.code (later_follows both) p.is_code,
        subst (λ n. IsStmtCode d.texts d.references n (Assign line (entire k.variable) (Read (entire k.last))) q.code) (grown_length one) (stmt_later (length b.instructions) (Assign line (entire k.variable) (Read (entire k.last))) q.code (later_follows r.follows) q.is_code),
        subst (λ n. IsStmtCode d.texts d.references n (Assign line (entire k.variable) (Read (entire k.initial))) r.code) at_c r.is_code,
        refl,
      );
      follows = follows_then one both;
    }

-- the test
pub appends_test : {b c d : Code} (a : Code) (line : ℕ) (k : Control) → Grows (record a { line = line }) b (bare line op.DUP ∷ []) → AppendsExpr b c (Read (entire k.variable)) → Grows c d (two_code c.line binary.Unequal ∷ []) → AppendsTest line a d k
appends_test {b = b} {c = c} {d = d} a line k p q r =
    let after : Grows b d (q.code ++ two_code b.line binary.Unequal ∷ []) = grows_at (λ l. two_code l binary.Unequal ∷ []) q.grows r in
    let read : IsExprCode d.texts d.references b.line (length b.instructions) (Read (entire k.variable)) q.code = expr_later b.line (length b.instructions) (Read (entire k.variable)) q.code (later_grows r) q.is_code in
    record {
      code = bare line op.DUP ∷ (q.code ++ two_code line binary.Unequal ∷ []);
      is_code = (q.code, subst (λ n. IsExprCode d.texts d.references line n (Read (entire k.variable)) q.code) (grown_length (follows_grows p)) (subst (λ l. IsExprCode d.texts d.references l (length b.instructions) (Read (entire k.variable)) q.code) p.line read), refl);
      follows = follows_line a line (follows_grows (grows_at (λ l. q.code ++ two_code l binary.Unequal ∷ []) p after));
    }

-- the end
pub appends_undefine : {b c : Code} (a : Code) (line : ℕ) (q : Entire) → AppendsPlace (record a { line = line }) b (entire q) → Grows b c (bare b.line op.UNDEFINE ∷ []) → AppendsUndefine line a c q
appends_undefine {b = b} {c = c} a line q p r =
    record {
      code = p.code ++ bare line op.UNDEFINE ∷ [];
      is_code = (p.code, place_code_stays b.texts c.texts b.references c.references line r.texts.begins r.references.begins (length a.instructions) (entire q) p.code p.is_code, refl);
      follows = follows_line a line (follows_grows (grows_at (λ l. bare l op.UNDEFINE ∷ []) p.grows r));
    }

-- a filler is within the code that follows it
pub hole_in_turns : {c f g : Code} (e : Code) (m line : ℕ) (s : Stmt) (i : Instr) → LeavesHole e c m → AppendsStmt c f s → Grows (record f { line = line }) g (i ∷ []) → m < length g.instructions
hole_in_turns e m line s i p q r = omega (arith, p.is_length, grown_length (follows_grows p.grows), grown_length q.follows, grown_length (follows_grows r))

module _ {b c d e f g h i j k l m : Code} (a : Code) (line leave done start : ℕ) (control : Control) (x y : Expr) (s : Stmt)
    (bounds : AppendsBounds line a b control x y) (hole : LeavesHole b c leave) (first : AppendsFirst line c d control) (begins : IsNextPlace d start) (body : AppendsStmt d e s) (test : AppendsTest line e f control) (other : LeavesHole f g done)
    (next : AppendsStmt g h (Assign line (entire control.variable) (next_value control))) (back : Grows (record h { line = line }) i (instr op.JUMP (pos start) 0 line ∷ [])) (lands : j ≡ landed i done op.JUMP_FALSE line) (drop : Grows j k (bare j.line op.DROP ∷ [])) (lands_too : l ≡ landed k leave op.JUMP_FALSE line) (ends : AppendsUndefine line l m control.variable) where
  abbrev at : ℕ
  at = length a.instructions

  abbrev back_code : Instr
  back_code = instr op.JUMP (pos start) 0 line

  abbrev drop_code : Instr
  drop_code = bare line op.DROP

  -- the turns up to the jump out of them
  abbrev turn : List Instr
  turn = first.code ++ (body.code ++ test.code)

  to_f : Follows c f turn
  to_f = follows_then first.follows (follows_then body.follows test.follows)

  to_i : Follows g i (next.code ++ back_code ∷ [])
  to_i = follows_then next.follows (follows_line h line (follows_grows back))

  -- the turns, before their jump gets its goal and then
  to_filler : Follows c i (turn ++ other.filler ∷ (next.code ++ back_code ∷ []))
  to_filler = follows_middle turn other.filler [] (next.code ++ back_code ∷ []) (follows_then to_f (follows_grows other.grows)) to_i

  abbrev leaves : Instr
  leaves = instr op.JUMP_FALSE (pos (length i.instructions)) 0 line

  to_j : Follows c j (turn ++ leaves ∷ (next.code ++ back_code ∷ []))
  to_j = follows_landed turn other.filler (next.code ++ back_code ∷ []) done op.JUMP_FALSE line to_filler (other.is_length ∙ grown_length to_f) lands

  abbrev turns : List Instr
  turns = (turn ++ leaves ∷ (next.code ++ back_code ∷ [])) ++ drop_code ∷ []

  to_k : Follows c k turns
  to_k = follows_then to_j (follows_grows (subst (λ n. Grows j k (bare n op.DROP ∷ [])) (ap (λ (x : Code). x.line) lands ∙ back.line) drop))

  abbrev skips : Instr
  skips = instr op.JUMP_FALSE (pos (length k.instructions)) 0 line

  to_l : Follows a l (bounds.code ++ skips ∷ turns)
  to_l = follows_landed bounds.code hole.filler turns leave op.JUMP_FALSE line (follows_middle bounds.code hole.filler [] turns (follows_then bounds.follows (follows_grows hole.grows)) to_k) (hole.is_length ∙ grown_length bounds.follows) lands_too

  to_m : Follows a m (bounds.code ++ skips ∷ (turns ++ ends.code))
  to_m = follows_middle bounds.code skips turns ends.code to_l ends.follows

  -- the code as it is written
  seam : turns ++ ends.code ≡ first.code ++ (body.code ++ (test.code ++ leaves ∷ (next.code ++ back_code ∷ drop_code ∷ ends.code)))
  seam =
      append_assoc (turn ++ leaves ∷ (next.code ++ back_code ∷ [])) (drop_code ∷ []) ends.code
      ∙ (append_assoc turn (leaves ∷ (next.code ++ back_code ∷ [])) (drop_code ∷ ends.code)
      ∙ (ap (λ w. turn ++ leaves ∷ w) (append_assoc next.code (back_code ∷ []) (drop_code ∷ ends.code))
      ∙ (append_assoc first.code (body.code ++ test.code) (leaves ∷ (next.code ++ back_code ∷ drop_code ∷ ends.code))
      ∙ ap (λ w. first.code ++ w) (append_assoc body.code test.code (leaves ∷ (next.code ++ back_code ∷ drop_code ∷ ends.code))))))

  len_b : length b.instructions ≡ at + length bounds.code
  len_b = grown_length bounds.follows

  len_c : length c.instructions ≡ at + length bounds.code + 1
  len_c = omega (arith, len_b, grown_length (follows_grows hole.grows))

  len_d : length d.instructions ≡ at + length bounds.code + 1 + length first.code
  len_d = omega (arith, len_c, grown_length first.follows)

  len_e : length e.instructions ≡ at + length bounds.code + 1 + length first.code + length body.code
  len_e = omega (arith, len_d, grown_length body.follows)

  len_g : length g.instructions ≡ at + length bounds.code + 1 + length first.code + length body.code + length test.code + 1
  len_g = omega (arith, len_e, grown_length test.follows, grown_length (follows_grows other.grows))

  len_i : length i.instructions ≡ at + length bounds.code + 1 + length first.code + length body.code + length test.code + 1 + length next.code + 1
  len_i = omega (arith, len_g, grown_length next.follows, grown_length (follows_grows back))

  len_k : length k.instructions ≡ at + length bounds.code + 1 + length first.code + length body.code + length test.code + 1 + length next.code + 1 + 1
  len_k = omega (arith, len_i, landed_length i done op.JUMP_FALSE line lands, grown_length (follows_grows drop))

  len_l : length l.instructions ≡ at + length bounds.code + 1 + length first.code + length body.code + length test.code + 1 + length next.code + 1 + 1
  len_l = omega (arith, len_k, landed_length k leave op.JUMP_FALSE line lands_too)

  -- what comes later
  l_m : IsLater l m
  l_m = later_follows ends.follows

  j_m : IsLater j m
  j_m = later_then (later_grows drop) (later_then (later_landed leave op.JUMP_FALSE line lands_too) l_m)

  h_m : IsLater h m
  h_m = later_then (later_follows (follows_line h line (follows_grows back))) (later_then (later_landed done op.JUMP_FALSE line lands) j_m)

  f_m : IsLater f m
  f_m = later_then (later_grows other.grows) (later_then (later_follows next.follows) h_m)

  e_m : IsLater e m
  e_m = later_then (later_follows test.follows) f_m

  d_m : IsLater d m
  d_m = later_then (later_follows body.follows) e_m

  b_m : IsLater b m
  b_m = later_then (later_grows hole.grows) (later_then (later_follows first.follows) d_m)

  whole : Follows a m (for_code line at bounds.code first.code body.code test.code next.code ends.code)
  whole =
      let one = subst (λ w. Follows a m (bounds.code ++ skips ∷ w)) seam to_m in
      subst (λ n. Follows a m (bounds.code ++ instr op.JUMP_FALSE (pos n) 0 line ∷ (first.code ++ (body.code ++ (test.code ++ instr op.JUMP_FALSE (pos (at + length bounds.code + 1 + length first.code + length body.code + length test.code + 1 + length next.code + 1)) 0 line ∷ (next.code ++ instr op.JUMP (pos (at + length bounds.code + 1 + length first.code)) 0 line ∷ drop_code ∷ ends.code)))))) len_k
      (subst (λ n. Follows a m (bounds.code ++ skips ∷ (first.code ++ (body.code ++ (test.code ++ instr op.JUMP_FALSE (pos n) 0 line ∷ (next.code ++ instr op.JUMP (pos (at + length bounds.code + 1 + length first.code)) 0 line ∷ drop_code ∷ ends.code)))))) len_i
      (subst (λ n. Follows a m (bounds.code ++ skips ∷ (first.code ++ (body.code ++ (test.code ++ leaves ∷ (next.code ++ instr op.JUMP (pos n) 0 line ∷ drop_code ∷ ends.code)))))) (begins.is_length ∙ len_d) one))

  pub appends_for : AppendsStmt a m (For line control x y s)
  appends_for =
      let code : IsStmtCode m.texts m.references at (For line control x y s) (for_code line at bounds.code first.code body.code test.code next.code ends.code) = (
        bounds.code,
        first.code,
        body.code,
        test.code,
        next.code,
        ends.code,
        bounds_code_stays b.texts m.texts b.references m.references b_m.texts.begins b_m.references.begins line at control x y bounds.code bounds.is_code,
        subst (λ n. IsFirstCode m.texts m.references line n control first.code) len_c (first_code_stays d.texts m.texts d.references m.references d_m.texts.begins d_m.references.begins line (length c.instructions) control first.code first.is_code),
        subst (λ n. IsStmtCode m.texts m.references n s body.code) len_d (stmt_later (length d.instructions) s body.code e_m body.is_code),
        subst (λ n. IsTestCode m.texts m.references line n control test.code) len_e (test_code_stays f.texts m.texts f.references m.references f_m.texts.begins f_m.references.begins line (length e.instructions) control test.code test.is_code),
        subst (λ n. IsStmtCode m.texts m.references n (Assign line (entire control.variable) (next_value control)) next.code) len_g (stmt_later (length g.instructions) (Assign line (entire control.variable) (next_value control)) next.code h_m next.is_code),
        subst (λ n. IsUndefineCode m.texts m.references line n control.variable ends.code) len_l ends.is_code,
        refl,
      ) in
      record { code = for_code line at bounds.code first.code body.code test.code next.code ends.code; is_code = code; follows = whole; short = stmt_code_short m.texts m.references at (For line control x y s) (for_code line at bounds.code first.code body.code test.code next.code ends.code) code }
