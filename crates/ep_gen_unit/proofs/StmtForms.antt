-- The code of each form of statement, from that of its parts.
use Rattle.std.proofs.Common.{◌≡◌, ℕ, pos, ◌+◌, ◌<◌, Bool, List, [], ◌∷◌, ◌++◌, map, take, length, get_or, refl, sym, ap, ◌∙◌, subst, append_assoc, append-nil, arith, length-append}
use Rattle.std.proofs.lemmas.List.{map_more}
use Rattle.ep_object.specs.declared.code.Instr.{Instr}
use Rattle.ep_object.specs.declared.code.Reference.{Reference}
use Rattle.ep_typed.specs.Trees.{Callee, Entire, Place, Expr, Function, Actuals, Item, Stmt, Stmts, Empty, Compound, Assign, If, While, Repeat, Procedure, Halt, Write, stmts}
use Rattle.ep_gen_expr.specs.ExprCode.{IsExprCode}
use Rattle.ep_gen_code.specs.Instructions.{bare, instr}
use Rattle.ep_gen_code.specs.Growth.{Grows}
use Rattle.ep_gen_expr.specs.Growth.{AppendsPlace, AppendsExpr}
use Rattle.ep_gen_code.specs.Jumps.{IsNextPlace, LeavesHole, landed}
use Rattle.ep_gen_code.specs.declared.code.Code.{Code}
use Rattle.ep_gen_code.proofs.public.Growing.{grows_at}
use Rattle.ep_gen_expr.proofs.public.Stays.{place_code_stays}
use Rattle.ep_gen_unit.specs.StmtCode.{IsStmtCode, AreStmtsCode, slot_of}
use Rattle.ep_gen_unit.specs.StmtGrowth.{Follows, AppendsBind, AppendsItems, AppendsStmt, AppendsStmts}
use Rattle.ep_gen_unit.proofs.StmtStays.{stmt_code_short, stmts_code_stays}
use Rattle.ep_gen_unit.proofs.Following.{IsLater, later_then, later_grows, later_follows, later_landed, expr_later, stmt_later, follows_none, follows_grows, follows_line, follows_then, follows_middle, follows_landed, grown_length, landed_length}
use Rattle.ep_object.specs.declared.op.TheConstants as op

whole : {b : Code} (a : Code) (s : Stmt) (code : List Instr) → IsStmtCode b.texts b.references (length a.instructions) s code → Follows a b code → AppendsStmt a b s
whole {b = b} a s code h p = record { code = code; is_code = h; follows = p; short = stmt_code_short b.texts b.references (length a.instructions) s code h }

pub appends_empty : (a : Code) → AppendsStmt a a Empty
appends_empty a = whole a Empty [] refl (follows_none a)

pub appends_compound : {b : Code} (a : Code) (ss : Stmts) → AppendsStmts a b ss → AppendsStmt a b (Compound ss)
appends_compound a ss p = whole a (Compound ss) p.code p.is_code p.follows

pub appends_assign : {b c d : Code} (a : Code) (line : ℕ) (place : Place) (x : Expr) → AppendsPlace (record a { line = line }) b place → AppendsExpr b c x → Grows c d (bare c.line op.STORE ∷ []) → AppendsStmt a d (Assign line place x)
appends_assign {b = b} {c = c} {d = d} a line place x p q r =
    let after : Grows b d (q.code ++ bare b.line op.STORE ∷ []) = grows_at (λ l. bare l op.STORE ∷ []) q.grows r in
    whole a (Assign line place x) (p.code ++ (q.code ++ bare line op.STORE ∷ [])) (
      p.code,
      q.code,
      place_code_stays b.texts d.texts b.references d.references line after.texts.begins after.references.begins (length a.instructions) place p.code p.is_code,
      subst (λ n. IsExprCode d.texts d.references line n x q.code) (grown_length (follows_grows p.grows)) (subst (λ l. IsExprCode d.texts d.references l (length b.instructions) x q.code) p.grows.line (expr_later b.line (length b.instructions) x q.code (later_grows r) q.is_code)),
      refl,
    )
    (follows_line a line (follows_grows (grows_at (λ l. q.code ++ bare l op.STORE ∷ []) p.grows after)))

-- a record that a `with` opens
pub appends_bind : {b c : Code} (a : Code) (line : ℕ) (v : Entire) (slot : ℕ) (place : Place) → slot ≡ slot_of v → AppendsPlace (record a { line = line }) b place → Grows b c (instr op.BIND (pos slot) 0 b.line ∷ []) → AppendsBind line a c v place
appends_bind {b = b} {c = c} a line v slot place is p q =
    let later : IsLater b c = later_grows q in
    record {
      code = p.code ++ instr op.BIND (pos (slot_of v)) 0 line ∷ [];
      is_code = (p.code, place_code_stays b.texts c.texts b.references c.references line later.texts.begins later.references.begins (length a.instructions) place p.code p.is_code, refl);
      follows = subst (λ k. Follows a c (p.code ++ instr op.BIND (pos k) 0 line ∷ [])) is (follows_line a line (follows_grows (grows_at (λ l. instr op.BIND (pos slot) 0 l ∷ []) p.grows q)));
    }

-- a call
pub appends_procedure : {b : Code} (a : Code) (line : ℕ) (callee : Callee) (given : Actuals) → AppendsExpr (record a { line = line }) b (Function callee given) → AppendsStmt a b (Procedure line callee given)
appends_procedure a line callee given p = whole a (Procedure line callee given) p.code p.is_code (follows_line a line (follows_grows p.grows))

pub appends_halt : {b : Code} (a : Code) (line : ℕ) → Grows (record a { line = line }) b (bare line op.HALT ∷ []) → AppendsStmt a b (Halt line)
appends_halt a line p = whole a (Halt line) (bare line op.HALT ∷ []) refl (follows_line a line (follows_grows p))

pub appends_write : {b : Code} (a : Code) (line : ℕ) (items : List Item) (ends_line : Bool) → AppendsItems (record a { line = line }) b items ends_line → AppendsStmt a b (Write line items ends_line)
appends_write a line items ends_line p = whole a (Write line items ends_line) p.code p.is_code (follows_line a line (follows_grows p.grows))

-- a filler is within the code that follows it
pub hole_in_then : {b c d e : Code} (k m : ℕ) (s : Stmt) → LeavesHole b c k → AppendsStmt c d s → LeavesHole d e m → k < length e.instructions
hole_in_then k m s p q r = omega (arith, p.is_length, grown_length (follows_grows p.grows), grown_length q.follows, grown_length (follows_grows r.grows))

pub hole_in_else : {d f g : Code} (e : Code) (k m line : ℕ) (t : Stmt) → LeavesHole d e m → f ≡ landed e k op.JUMP_FALSE line → AppendsStmt f g t → m < length g.instructions
hole_in_else e k m line t p l q = omega (arith, p.is_length, grown_length (follows_grows p.grows), landed_length e k op.JUMP_FALSE line l, grown_length q.follows)

pub hole_in_body : {b c e : Code} (d : Code) (k line : ℕ) (s : Stmt) (i : Instr) → LeavesHole b c k → AppendsStmt c d s → Grows (record d { line = line }) e (i ∷ []) → k < length e.instructions
hole_in_body d k line s i p q r = omega (arith, p.is_length, grown_length (follows_grows p.grows), grown_length q.follows, grown_length (follows_grows r))

-- what an `if` has
abbrev if_body : List Instr → List Instr → List Instr → ℕ → ℕ → ℕ → List Instr
if_body xs ys zs line m n = xs ++ instr op.JUMP_FALSE (pos m) 0 line ∷ (ys ++ instr op.JUMP (pos n) 0 line ∷ zs)

-- both jumps land
if_follows : {a b c d e f g h : Code} {xs ys zs : List Instr} (line k m : ℕ) → Follows a b xs → LeavesHole b c k → Follows c d ys → LeavesHole d e m → f ≡ landed e k op.JUMP_FALSE line → Follows f g zs → h ≡ landed g m op.JUMP line
    → Follows a h (xs ++ instr op.JUMP_FALSE (pos (length e.instructions)) 0 line ∷ (ys ++ instr op.JUMP (pos (length g.instructions)) 0 line ∷ zs))
if_follows {a = a} {c = c} {d = d} {e = e} {g = g} {h = h} {xs = xs} {ys = ys} {zs = zs} line k m p hole q other l r n =
    let j = instr op.JUMP_FALSE (pos (length e.instructions)) 0 line in
    let last = instr op.JUMP (pos (length g.instructions)) 0 line in
    let i = hole.filler in
    let o = other.filler in
    let to_c : Follows a c (xs ++ i ∷ []) = follows_then p (follows_grows hole.grows) in
    let to_d : Follows a d (xs ++ i ∷ ys) = follows_middle xs i [] ys to_c q in
    let to_e : Follows a e (xs ++ i ∷ (ys ++ o ∷ [])) = follows_middle xs i ys (o ∷ []) to_d (follows_grows other.grows) in
    let to_g : Follows a g (xs ++ j ∷ ((ys ++ o ∷ []) ++ zs)) =
    follows_middle xs j (ys ++ o ∷ []) zs (follows_landed xs i (ys ++ o ∷ []) k op.JUMP_FALSE line to_e (hole.is_length ∙ grown_length p) l) r in
    let seam : xs ++ j ∷ ((ys ++ o ∷ []) ++ zs) ≡ (xs ++ j ∷ ys) ++ o ∷ zs =
    ap (λ w. xs ++ j ∷ w) (append_assoc ys (o ∷ []) zs) ∙ sym (append_assoc xs (j ∷ ys) (o ∷ zs)) in
    let at : m ≡ length a.instructions + length (xs ++ j ∷ ys) =
    omega (arith, other.is_length, grown_length to_d, length-append xs (i ∷ ys), length-append xs (j ∷ ys)) in
    subst (λ w. Follows a h w) (append_assoc xs (j ∷ ys) (last ∷ zs)) (follows_landed (xs ++ j ∷ ys) o zs m op.JUMP line (subst (λ w. Follows a g w) seam to_g) at n)

pub appends_if : {b c d e f g h : Code} (a : Code) (line : ℕ) (x : Expr) (s t : Stmt) (k m : ℕ) → AppendsExpr (record a { line = line }) b x → LeavesHole b c k → AppendsStmt c d s → LeavesHole d e m → f ≡ landed e k op.JUMP_FALSE line → AppendsStmt f g t → h ≡ landed g m op.JUMP line → AppendsStmt a h (If line x s t)
appends_if {b = b} {c = c} {d = d} {e = e} {f = f} {g = g} {h = h} a line x s t k m p hole q other l r n =
    let xs = p.code in
    let ys = q.code in
    let zs = r.code in
    let at = length a.instructions in
    let to_b : Follows a b xs = follows_line a line (follows_grows p.grows) in
    let g_h : IsLater g h = later_landed m op.JUMP line n in
    let f_h : IsLater f h = later_then (later_follows r.follows) g_h in
    let d_h : IsLater d h = later_then (later_grows other.grows) (later_then (later_landed k op.JUMP_FALSE line l) f_h) in
    let b_h : IsLater b h = later_then (later_grows hole.grows) (later_then (later_follows q.follows) d_h) in
    let len_b : length b.instructions ≡ at + length xs = grown_length to_b in
    let len_c : length c.instructions ≡ length b.instructions + 1 = grown_length (follows_grows hole.grows) in
    let len_d : length d.instructions ≡ length c.instructions + length ys = grown_length q.follows in
    let len_e : length e.instructions ≡ length d.instructions + 1 = grown_length (follows_grows other.grows) in
    let len_f : length f.instructions ≡ length e.instructions = landed_length e k op.JUMP_FALSE line l in
    let len_g : length g.instructions ≡ length f.instructions + length zs = grown_length r.follows in
    let at_then : length c.instructions ≡ at + length xs + 1 = omega (arith, len_b, len_c) in
    let at_e : length e.instructions ≡ at + length xs + 1 + length ys + 1 = omega (arith, at_then, len_d, len_e) in
    let at_else : length f.instructions ≡ at + length xs + 1 + length ys + 1 = omega (arith, at_e, len_f) in
    let at_g : length g.instructions ≡ at + length xs + 1 + length ys + 1 + length zs = omega (arith, at_else, len_g) in
    whole a (If line x s t) (if_body xs ys zs line (at + length xs + 1 + length ys + 1) (at + length xs + 1 + length ys + 1 + length zs)) (
      xs,
      ys,
      zs,
      expr_later line at x xs b_h p.is_code,
      subst (λ w. IsStmtCode h.texts h.references w s ys) at_then (stmt_later (length c.instructions) s ys d_h q.is_code),
      subst (λ w. IsStmtCode h.texts h.references w t zs) at_else (stmt_later (length f.instructions) t zs g_h r.is_code),
      refl,
    )
    (subst (λ w. Follows a h (if_body xs ys zs line (at + length xs + 1 + length ys + 1) w)) at_g
    (subst (λ w. Follows a h (if_body xs ys zs line w (length g.instructions))) at_e (if_follows line k m to_b hole q.follows other l r.follows n)))

abbrev while_body : List Instr → List Instr → ℕ → ℕ → ℕ → List Instr
while_body xs ys line m n = xs ++ instr op.JUMP_FALSE (pos m) 0 line ∷ (ys ++ instr op.JUMP (pos n) 0 line ∷ [])

while_follows : {a b c d e f : Code} {xs ys : List Instr} (line k n : ℕ) → Follows a b xs → LeavesHole b c k → Follows c d ys → Grows (record d { line = line }) e (instr op.JUMP (pos n) 0 line ∷ []) → f ≡ landed e k op.JUMP_FALSE line
    → Follows a f (while_body xs ys line (length e.instructions) n)
while_follows {a = a} {c = c} {d = d} {e = e} {xs = xs} {ys = ys} line k n p hole q r l =
    let back = instr op.JUMP (pos n) 0 line in
    let i = hole.filler in
    let to_c : Follows a c (xs ++ i ∷ []) = follows_then p (follows_grows hole.grows) in
    let to_d : Follows a d (xs ++ i ∷ ys) = follows_middle xs i [] ys to_c q in
    let to_e : Follows a e (xs ++ i ∷ (ys ++ back ∷ [])) = follows_middle xs i ys (back ∷ []) to_d (follows_line d line (follows_grows r)) in
    follows_landed xs i (ys ++ back ∷ []) k op.JUMP_FALSE line to_e (hole.is_length ∙ grown_length p) l

pub appends_while : {b c e f : Code} (a d : Code) (line : ℕ) (x : Expr) (s : Stmt) (n k : ℕ) → IsNextPlace (record a { line = line }) n → AppendsExpr (record a { line = line }) b x → LeavesHole b c k → AppendsStmt c d s → Grows (record d { line = line }) e (instr op.JUMP (pos n) 0 line ∷ []) → f ≡ landed e k op.JUMP_FALSE line → AppendsStmt a f (While line x s)
appends_while {b = b} {c = c} {e = e} {f = f} a d line x s n k start p hole q r l =
    let xs = p.code in
    let ys = q.code in
    let at = length a.instructions in
    let to_b : Follows a b xs = follows_line a line (follows_grows p.grows) in
    let to_e : Follows d e (instr op.JUMP (pos n) 0 line ∷ []) = follows_line d line (follows_grows r) in
    let d_f : IsLater d f = later_then (later_follows to_e) (later_landed k op.JUMP_FALSE line l) in
    let b_f : IsLater b f = later_then (later_grows hole.grows) (later_then (later_follows q.follows) d_f) in
    let len_b : length b.instructions ≡ at + length xs = grown_length to_b in
    let len_c : length c.instructions ≡ length b.instructions + 1 = grown_length (follows_grows hole.grows) in
    let len_d : length d.instructions ≡ length c.instructions + length ys = grown_length q.follows in
    let len_e : length e.instructions ≡ length d.instructions + 1 = grown_length to_e in
    let at_body : length c.instructions ≡ at + length xs + 1 = omega (arith, len_b, len_c) in
    let at_e : length e.instructions ≡ at + length xs + 1 + length ys + 1 = omega (arith, at_body, len_d, len_e) in
    whole a (While line x s) (while_body xs ys line (at + length xs + 1 + length ys + 1) at) (
      xs,
      ys,
      expr_later line at x xs b_f p.is_code,
      subst (λ w. IsStmtCode f.texts f.references w s ys) at_body (stmt_later (length c.instructions) s ys d_f q.is_code),
      refl,
    )
    (subst (λ w. Follows a f (while_body xs ys line (at + length xs + 1 + length ys + 1) w)) start.is_length
    (subst (λ w. Follows a f (while_body xs ys line w n)) at_e (while_follows line k n to_b hole q.follows r l)))

pub appends_repeat : {c d : Code} (a b : Code) (line : ℕ) (ss : Stmts) (x : Expr) (n : ℕ) → IsNextPlace a n → AppendsStmts a b ss → AppendsExpr (record b { line = line }) c x → Grows c d (instr op.JUMP_FALSE (pos n) 0 c.line ∷ []) → AppendsStmt a d (Repeat line ss x)
appends_repeat {c = c} {d = d} a b line ss x n start p q r =
    let ys = p.code in
    let xs = q.code in
    let at = length a.instructions in
    let back : ℕ → List Instr = λ l. instr op.JUMP_FALSE (pos n) 0 l ∷ [] in
    let after : Grows (record b { line = line }) d (xs ++ back line) = grows_at back q.grows r in
    let after_body : Follows b d (xs ++ back line) = follows_line b line (follows_grows after) in
    let b_d : IsLater b d = later_follows after_body in
    whole a (Repeat line ss x) (ys ++ (xs ++ instr op.JUMP_FALSE (pos at) 0 line ∷ [])) (
      ys,
      xs,
      stmts_code_stays b.texts d.texts b.references d.references b_d.texts.begins b_d.references.begins at ss ys p.is_code,
      subst (λ k. IsExprCode d.texts d.references line k x xs) (grown_length p.follows) (expr_later line (length b.instructions) x xs (later_grows r) q.is_code),
      refl,
    )
    (subst (λ k. Follows a d (ys ++ (xs ++ instr op.JUMP_FALSE (pos k) 0 line ∷ []))) start.is_length (follows_then p.follows after_body))

module _ (ts : List (List ℕ)) (rs : List Reference) where
  stmts_snoc : (at : ℕ) (ss : List Stmt) (s : Stmt) (xs ys : List Instr) → AreStmtsCode ts rs at (stmts ss) xs → IsStmtCode ts rs (at + length xs) s ys → AreStmtsCode ts rs at (stmts (ss ++ s ∷ [])) (xs ++ ys)
  stmts_snoc at [] s xs ys h k =
      let here : at + length xs ≡ at = omega (arith, ap length h) in
      (ys, [], subst (λ n. IsStmtCode ts rs n s ys) here k, refl, ap (λ l. l ++ ys) h ∙ sym (append-nil ys))
  stmts_snoc at (t ∷ ss) s xs ys h k =
      let there : at + length xs ≡ at + length h.0 + length h.1 = omega (arith, ap length h.4, length-append h.0 h.1) in
      (h.0, h.1 ++ ys, h.2, stmts_snoc (at + length h.0) ss s h.1 ys h.3 (subst (λ n. IsStmtCode ts rs n s ys) there k), ap (λ l. l ++ ys) h.4 ∙ append_assoc h.0 h.1 ys)

pub stmts_none : (a : Code) → AppendsStmts a a (stmts [])
stmts_none a = record { code = []; is_code = refl; follows = follows_none a }

stmts_push : {b c : Code} (a : Code) (ss : List Stmt) (s : Stmt) → AppendsStmts a b (stmts ss) → AppendsStmt b c s → AppendsStmts a c (stmts (ss ++ s ∷ []))
stmts_push {b = b} {c = c} a ss s p q = record {
  code = p.code ++ q.code;
  is_code = stmts_snoc c.texts c.references (length a.instructions) ss s p.code q.code
      (stmts_code_stays b.texts c.texts b.references c.references q.follows.texts.begins q.follows.references.begins (length a.instructions) (stmts ss) p.code p.is_code)
      (subst (λ n. IsStmtCode c.texts c.references n s q.code) (grown_length p.follows) q.is_code);
  follows = follows_then p.follows q.follows;
}

-- one more statement of a slice
pub stmts_more : {X : Type 0} {b c : Code} (a : Code) (view : X → Stmt) (xs : List X) (k : ℕ) (x : X) → k < length xs → x ≡ get_or xs k x → AppendsStmts a b (stmts (map view (take k xs))) → AppendsStmt b c (view x) → AppendsStmts a c (stmts (map view (take (k + 1) xs)))
stmts_more {c = c} a view xs k x h e p q =
    subst (λ l. AppendsStmts a c (stmts l)) (ap (λ y. map view (take k xs) ++ view y ∷ []) e ∙ sym (map_more view xs k x h)) (stmts_push a (map view (take k xs)) (view x) p q)
