-- The code of assignments to tags, from that of its parts.
use Rattle.std.proofs.Common.{◌≡◌, ℕ, ℤ, pos, suc, ◌+◌, ◌*◌, ◌<◌, true, false, List, [], ◌∷◌, ◌++◌, take, length, length-append, get_or, refl, sym, ap, ◌∙◌, subst, append_assoc, append-nil, arith}
use Rattle.std.specs.Prelude.{if◌then◌else◌}
use Rattle.std.proofs.lemmas.List.{take_more, length-take-le}
use Rattle.ep_gen_expr.specs.ExprCode.{IsExprCode, tests_code, two_code}
use Rattle.ep_gen_code.specs.Instructions.{bare, instr, push}
use Rattle.ep_gen_code.specs.Growth.{Grows}
use Rattle.ep_gen_expr.specs.Growth.{AppendsExpr, AppendsPlace}
use Rattle.ep_gen_code.specs.Jumps.{IsNextPlace, LeavesHole, landed}
use Rattle.ep_gen_code.specs.declared.code.Code.{Code}
use Rattle.ep_gen_code.proofs.public.Growing.{grows_at, grows_then}
use Rattle.ep_gen_code.proofs.public.Landing.{grows_landed, grows_length}
use Rattle.ep_gen_expr.proofs.public.Stays.{place_code_stays}
use Rattle.ep_gen_unit.specs.StmtCode.{IsStmtCode}
use Rattle.ep_gen_unit.specs.StmtGrowth.{AppendsChange, AppendsStmt, AppendsTaken, AppendsTried, Follows}
use Rattle.ep_gen_unit.specs.TagCode.{IsChangeCode, IsTakenCode, IsTriedCode, clear_code, cleared_code, clears_code, none_before, none_now, number_code, number_length, rest_number, selected_code, selected_length, selection_code, selection_length, selections_code, selections_length, tag_place_code, variants_code, within_code}
use Rattle.ep_gen_unit.proofs.Following.{IsLater, expr_later, follows_grows, follows_line, follows_then, grown_length, later_follows, later_grows, later_then, stmt_later}
use Rattle.ep_gen_unit.proofs.StmtStays.{change_code_stays, stmt_code_short, tried_code_stays}
use Rattle.ep_gen_unit.proofs.TagLengths.{number_code_length, selected_code_length, selections_code_length}
use Rattle.ep_object.specs.declared.code.Instr.{Instr}
use Rattle.ep_object.specs.declared.op.TheConstants as op
use Rattle.ep_typed.specs.Selections.{variant_number}
use Rattle.ep_typed.specs.Trees.{Assign, AssignTag, Expr, Place, Read, Tagging, entire}
use Rattle.ep_values.specs.declared.operations.Binary.TheVariants as binary
use Rattle.ep_values.specs.declared.run_error.TheConstants as run_error
use Rattle.ep_typed.specs.declared.tree.CaseRange.{CaseRange}
use Rattle.ep_typed.specs.declared.tree.Selection.{Selection}

-- ---- the tests of labels

-- the tests of a variant
pub grows_selection : {a b c d e f : Code} (leave k body n : ℕ) (ranges : List CaseRange) → 0 < length ranges → body ≡ n + 6 * length ranges + 1 → IsNextPlace a n → Grows a b (tests_code a.line body (length a.instructions) ranges) → Grows b c (instr op.JUMP (pos (body + 3)) 0 b.line ∷ []) → Grows c d (bare c.line op.DROP ∷ [])
    → Grows d e (push d.line (pos k) ∷ []) → Grows e f (instr op.JUMP (pos leave) 0 e.line ∷ []) → Grows a f (selection_code a.line leave k (length a.instructions) ranges)
grows_selection leave k body n [] some is start p q s t u = absurd (omega (arith, some))
grows_selection {a = a} {f = f} leave k body n (r ∷ rs) some is start p q s t u =
    let at : ℕ = length a.instructions in
    let ends : Grows a f (tests_code a.line body at (r ∷ rs) ++ instr op.JUMP (pos (body + 3)) 0 a.line ∷ bare a.line op.DROP ∷ push a.line (pos k) ∷ instr op.JUMP (pos leave) 0 a.line ∷ []) =
    grows_at (λ line. instr op.JUMP (pos (body + 3)) 0 line ∷ bare line op.DROP ∷ push line (pos k) ∷ instr op.JUMP (pos leave) 0 line ∷ []) p
    (grows_at (λ line. bare line op.DROP ∷ push line (pos k) ∷ instr op.JUMP (pos leave) 0 line ∷ []) q (grows_at (λ line. push line (pos k) ∷ instr op.JUMP (pos leave) 0 line ∷ []) s (grows_at (λ line. instr op.JUMP (pos leave) 0 line ∷ []) t u)))
    in
    let there : body ≡ at + 6 * length (r ∷ rs) + 1 = omega (arith, is, start.is_length) in
    let over : body + 3 ≡ at + selection_length (r ∷ rs) = omega (arith, there) in
    subst (λ m. Grows a f (tests_code a.line m at (r ∷ rs) ++ instr op.JUMP (pos (at + selection_length (r ∷ rs))) 0 a.line ∷ bare a.line op.DROP ∷ push a.line (pos k) ∷ instr op.JUMP (pos leave) 0 a.line ∷ [])) there
    (subst (λ m. Grows a f (tests_code a.line body at (r ∷ rs) ++ instr op.JUMP (pos m) 0 a.line ∷ bare a.line op.DROP ∷ push a.line (pos k) ∷ instr op.JUMP (pos leave) 0 a.line ∷ [])) over ends)

selections_snoc : (line leave k at : ℕ) (labels : List (List CaseRange)) (ranges : List CaseRange)
    → selections_code line leave k at (labels ++ ranges ∷ []) ≡ selections_code line leave k at labels ++ selection_code line leave (k + length labels) (at + selections_length labels) ranges
selections_snoc line leave k at [] ranges =
    let here : at ≡ at + 0 = omega arith in
    let same : k ≡ k + 0 = omega arith in
    append-nil (selection_code line leave k at ranges) ∙ (ap (λ n. selection_code line leave k n ranges) here ∙ ap (λ j. selection_code line leave j (at + 0) ranges) same)
selections_snoc line leave k at (x ∷ labels) ranges =
    let front = selection_code line leave k at x in
    let rest = selections_code line leave (suc k) (at + selection_length x) labels in
    let there : at + selection_length x + selections_length labels ≡ at + selections_length (x ∷ labels) = omega arith in
    let same : suc k + length labels ≡ k + length (x ∷ labels) = omega arith in
    ap (λ l. front ++ l)
    (selections_snoc line leave (suc k) (at + selection_length x) labels ranges
    ∙ (ap (λ n. rest ++ selection_code line leave (suc k + length labels) n ranges) there
    ∙ ap (λ j. rest ++ selection_code line leave j (at + selections_length (x ∷ labels)) ranges) same))
    ∙ sym (append_assoc front rest (selection_code line leave (k + length (x ∷ labels)) (at + selections_length (x ∷ labels)) ranges))

-- the tests of one more variant of a slice
pub selections_more : {b c : Code} (a : Code) (leave at : ℕ) (labels : List (List CaseRange)) (k number : ℕ) (ranges : List CaseRange) → at ≡ length a.instructions → k < length labels → ranges ≡ get_or labels k ranges → number ≡ k
    → Grows a b (selections_code a.line leave 0 at (take k labels)) → Grows b c (selection_code b.line leave number (length b.instructions) ranges) → Grows a c (selections_code a.line leave 0 at (take (k + 1) labels))
selections_more {b = b} {c = c} a leave at labels k number ranges start h e is p q =
    let before = selections_code a.line leave 0 at (take k labels) in
    let long : length (take k labels) ≡ k = length-take-le k labels (omega (arith, h)) in
    let behind : number ≡ 0 + length (take k labels) = omega (arith, long, is) in
    let place : length b.instructions ≡ at + selections_length (take k labels) = omega (arith, start, grows_length p, selections_code_length a.line leave 0 at (take k labels)) in
    let both : Grows a c (before ++ selection_code a.line leave number (length b.instructions) ranges) = grows_at (λ line. selection_code line leave number (length b.instructions) ranges) p q in
    subst (λ l. Grows a c l)
    (ap (λ n. before ++ selection_code a.line leave number n ranges) place
    ∙ (ap (λ j. before ++ selection_code a.line leave j (at + selections_length (take k labels)) ranges) behind
    ∙ (sym (selections_snoc a.line leave 0 at (take k labels) ranges) ∙ (ap (λ x. selections_code a.line leave 0 at (take k labels ++ x ∷ [])) e ∙ ap (selections_code a.line leave 0 at) (sym (take_more labels k ranges h))))))
    both

-- the number of the variant that is selected
pub grows_number : {a b c d : Code} (leave : ℕ) (s : Selection) (none : ℤ) → leave ≡ length a.instructions + number_length s → Grows a b (selections_code a.line leave 0 (length a.instructions) s.labels) → Grows b c (bare b.line op.DROP ∷ []) → Grows c d (push c.line (rest_number s none) ∷ []) → Grows a d (number_code a.line (length a.instructions) s none)
grows_number {a = a} {d = d} leave s none is p q r =
    subst (λ n. Grows a d (selections_code a.line n 0 (length a.instructions) s.labels ++ bare a.line op.DROP ∷ push a.line (rest_number s none) ∷ [])) is
    (grows_at (λ line. bare line op.DROP ∷ push line (rest_number s none) ∷ []) p (grows_at (λ line. push line (rest_number s none) ∷ []) q r))

-- so it is with the value of the tag
pub grows_selected : {a b c d e f g h i : Code} (undefined : ℕ) (s : Selection) → undefined ≡ length a.instructions + 4 + number_length s + 1 → Grows a b (bare a.line op.DUP ∷ []) → Grows b c (bare b.line op.DEFINED ∷ []) → Grows c d (instr op.JUMP_FALSE (pos undefined) 0 c.line ∷ []) → Grows d e (bare d.line op.LOAD ∷ [])
    → Grows e f (number_code e.line (length e.instructions) s none_before) → Grows f g (instr op.JUMP (pos (undefined + 2)) 0 f.line ∷ []) → Grows g h (bare g.line op.DROP ∷ []) → Grows h i (push h.line none_before ∷ []) → Grows a i (selected_code a.line (length a.instructions) s)
grows_selected {a = a} {e = e} {i = i} undefined s is p q r t u v w x =
    let at : ℕ = length a.instructions in
    let front : Grows a e (bare a.line op.DUP ∷ bare a.line op.DEFINED ∷ instr op.JUMP_FALSE (pos undefined) 0 a.line ∷ bare a.line op.LOAD ∷ []) =
    grows_at (λ line. bare line op.LOAD ∷ []) (grows_at (λ line. instr op.JUMP_FALSE (pos undefined) 0 line ∷ []) (grows_at (λ line. bare line op.DEFINED ∷ []) p q) r) t
    in
    let place : length e.instructions ≡ at + 4 = grows_length front in
    let out : undefined + 2 ≡ at + 4 + number_length s + 3 = omega (arith, is) in
    let last : Grows e i (number_code e.line (length e.instructions) s none_before ++ instr op.JUMP (pos (undefined + 2)) 0 e.line ∷ bare e.line op.DROP ∷ push e.line none_before ∷ []) =
    grows_at (λ line. instr op.JUMP (pos (undefined + 2)) 0 line ∷ bare line op.DROP ∷ push line none_before ∷ []) u (grows_at (λ line. push line none_before ∷ []) (grows_at (λ line. bare line op.DROP ∷ []) v w) x)
    in
    let all : Grows a i (bare a.line op.DUP ∷ bare a.line op.DEFINED ∷ instr op.JUMP_FALSE (pos undefined) 0 a.line ∷ bare a.line op.LOAD ∷ (number_code a.line (length e.instructions) s none_before ++ instr op.JUMP (pos (undefined + 2)) 0 a.line ∷ bare a.line op.DROP ∷ push a.line none_before ∷ [])) =
    grows_at (λ line. number_code line (length e.instructions) s none_before ++ instr op.JUMP (pos (undefined + 2)) 0 line ∷ bare line op.DROP ∷ push line none_before ∷ []) front last
    in
    subst (λ n. Grows a i (bare a.line op.DUP ∷ bare a.line op.DEFINED ∷ instr op.JUMP_FALSE (pos (at + 4 + number_length s + 1)) 0 a.line ∷ bare a.line op.LOAD ∷ (number_code a.line (at + 4) s none_before ++ instr op.JUMP (pos n) 0 a.line ∷ bare a.line op.DROP ∷ push a.line none_before ∷ []))) out
    (subst (λ n. Grows a i (bare a.line op.DUP ∷ bare a.line op.DEFINED ∷ instr op.JUMP_FALSE (pos (at + 4 + number_length s + 1)) 0 a.line ∷ bare a.line op.LOAD ∷ (number_code a.line n s none_before ++ instr op.JUMP (pos (undefined + 2)) 0 a.line ∷ bare a.line op.DROP ∷ push a.line none_before ∷ []))) place
    (subst (λ n. Grows a i (bare a.line op.DUP ∷ bare a.line op.DEFINED ∷ instr op.JUMP_FALSE (pos n) 0 a.line ∷ bare a.line op.LOAD ∷ (number_code a.line (length e.instructions) s none_before ++ instr op.JUMP (pos (undefined + 2)) 0 a.line ∷ bare a.line op.DROP ∷ push a.line none_before ∷ []))) is all))

-- ---- variants become undefined

pub grows_clear : {a b c d : Code} (k : ℕ) → Grows a b (bare a.line op.DUP ∷ []) → Grows b c (instr op.FIELD (pos k) 0 b.line ∷ []) → Grows c d (bare c.line op.UNDEFINE ∷ []) → Grows a d (clear_code a.line k)
grows_clear k p q r = grows_at (λ line. bare line op.UNDEFINE ∷ []) (grows_at (λ line. instr op.FIELD (pos k) 0 line ∷ []) p q) r

clears_snoc : (line k : ℕ) (labels : List (List CaseRange)) (ranges : List CaseRange) → clears_code line k (labels ++ ranges ∷ []) ≡ clears_code line k labels ++ cleared_code line (k + length labels) ranges
clears_snoc line k [] ranges =
    let same : k ≡ k + 0 = omega arith in
    append-nil (cleared_code line k ranges) ∙ ap (λ j. cleared_code line j ranges) same
clears_snoc line k (x ∷ labels) ranges =
    let same : suc k + length labels ≡ k + length (x ∷ labels) = omega arith in
    ap (λ l. cleared_code line k x ++ l) (clears_snoc line (suc k) labels ranges ∙ ap (λ j. clears_code line (suc k) labels ++ cleared_code line j ranges) same)
    ∙ sym (append_assoc (cleared_code line k x) (clears_code line (suc k) labels) (cleared_code line (k + length (x ∷ labels)) ranges))

-- one more variant of a slice
pub clears_more : {b c : Code} (a : Code) (first : ℕ) (labels : List (List CaseRange)) (k number : ℕ) (ranges : List CaseRange) → k < length labels → ranges ≡ get_or labels k ranges → number ≡ k → Grows a b (clears_code a.line first (take k labels)) → Grows b c (cleared_code b.line (first + number) ranges) → Grows a c (clears_code a.line first (take (k + 1) labels))
clears_more {b = b} {c = c} a first labels k number ranges h e is p q =
    let before = clears_code a.line first (take k labels) in
    let long : length (take k labels) ≡ k = length-take-le k labels (omega (arith, h)) in
    let behind : first + number ≡ first + length (take k labels) = omega (arith, long, is) in
    subst (λ l. Grows a c l)
    (ap (λ j. before ++ cleared_code a.line j ranges) behind
    ∙ (sym (clears_snoc a.line first (take k labels) ranges) ∙ (ap (λ x. clears_code a.line first (take k labels ++ x ∷ [])) e ∙ ap (clears_code a.line first) (sym (take_more labels k ranges h)))))
    (grows_at (λ line. cleared_code line (first + number) ranges) p q)

-- all variants, of which none completes the others
pub grows_variants : {a b : Code} (s : Selection) (first : ℕ) → s.completed ≡ false → first ≡ s.tag + 1 → Grows a b (clears_code a.line first s.labels) → Grows a b (variants_code a.line s)
grows_variants {a = a} {b = b} s first not_completed is p =
    let number : first ≡ variant_number s 0 = omega (arith, is) in
    let all : Grows a b (clears_code a.line (variant_number s 0) s.labels ++ []) = subst (λ l. Grows a b l) (sym (append-nil (clears_code a.line (variant_number s 0) s.labels))) (subst (λ k. Grows a b (clears_code a.line k s.labels)) number p) in
    subst (λ c. Grows a b (clears_code a.line (variant_number s 0) s.labels ++ (if c then clear_code a.line (variant_number s (length s.labels)) else []))) (sym not_completed) all

-- and with the one that does
pub grows_completed : {a b c : Code} (s : Selection) (first last : ℕ) → s.completed ≡ true → first ≡ s.tag + 1 → last ≡ first + length s.labels → Grows a b (clears_code a.line first s.labels) → Grows b c (clear_code b.line last) → Grows a c (variants_code a.line s)
grows_completed {a = a} {c = c} s first last completed is is_last p q =
    let number : first ≡ variant_number s 0 = omega (arith, is) in
    let behind : last ≡ variant_number s (length s.labels) = omega (arith, is, is_last) in
    let all : Grows a c (clears_code a.line first s.labels ++ clear_code a.line last) = grows_at (λ line. clear_code line last) p q in
    subst (λ x. Grows a c (clears_code a.line (variant_number s 0) s.labels ++ (if x then clear_code a.line (variant_number s (length s.labels)) else []))) (sym completed)
    (subst (λ k. Grows a c (clears_code a.line (variant_number s 0) s.labels ++ clear_code a.line k)) behind (subst (λ k. Grows a c (clears_code a.line k s.labels ++ clear_code a.line last)) number all))

-- ---- the parts of the assignment

-- the value is tried against bounds
pub grows_within : {a b c d e : Code} (low high : ℤ) → Grows a b (push a.line low ∷ []) → Grows b c (push b.line high ∷ []) → Grows c d (instr op.CHECK (pos run_error.OUTSIDE_TYPE) 0 c.line ∷ []) → Grows d e (bare d.line op.DROP ∷ []) → Grows a e (within_code a.line low high)
grows_within low high p q r s =
    grows_at (λ line. bare line op.DROP ∷ []) (grows_at (λ line. instr op.CHECK (pos run_error.OUTSIDE_TYPE) 0 line ∷ []) (grows_at (λ line. push line high ∷ []) p q) r) s

-- the place of the tag
pub grows_tag_place : {a b c : Code} (tag : ℕ) → Grows a b (instr op.FIELD (pos tag) 0 a.line ∷ []) → Grows b c (instr op.FIELD (pos 0) 0 b.line ∷ []) → Grows a c (tag_place_code a.line tag)
grows_tag_place tag p q = grows_at (λ line. instr op.FIELD (pos 0) 0 line ∷ []) p q

-- the value of the auxiliary variable is read between two parts
reads : {a b c d : Code} {front : List Instr} (v : Expr) (last : ℕ → List Instr) → Grows a b front → (r : AppendsExpr b c v) → Grows c d (last c.line) → Grows a d (front ++ (r.code ++ last a.line)) × IsExprCode d.texts d.references a.line (length a.instructions + length front) v r.code
reads {a = a} {b = b} {c = c} {d = d} v last p r q =
    let code : IsExprCode d.texts d.references b.line (length b.instructions) v r.code = expr_later b.line (length b.instructions) v r.code (later_grows q) r.is_code in (
      grows_at (λ line. r.code ++ last line) p (grows_at last r.grows q),
      subst (λ n. IsExprCode d.texts d.references a.line n v r.code) (grows_length p) (subst (λ l. IsExprCode d.texts d.references l (length b.instructions) v r.code) p.line code),
    )

pub appends_tried : {a b c d e : Code} (c0 : Tagging) (s : Selection) → Grows a b (bare a.line op.DUP ∷ []) → Grows b c (tag_place_code b.line s.tag) → AppendsExpr c d (Read (entire c0.value)) → Grows d e (within_code d.line c0.low c0.high) → AppendsTried a e c0 s
appends_tried {a = a} {c = c} c0 s p q t u =
    let front : Grows a c (bare a.line op.DUP ∷ tag_place_code a.line s.tag) = grows_at (λ line. tag_place_code line s.tag) p q in
    let both = reads (Read (entire c0.value)) (λ line. within_code line c0.low c0.high) front t u in
    record {
      code = bare a.line op.DUP ∷ instr op.FIELD (pos s.tag) 0 a.line ∷ instr op.FIELD (pos 0) 0 a.line ∷ (t.code ++ within_code a.line c0.low c0.high);
      is_code = (t.code, both.1, refl);
      grows = both.0;
    }

pub appends_taken : {a b c d : Code} (c0 : Tagging) (s : Selection) → Grows a b (tag_place_code a.line s.tag) → AppendsExpr b c (Read (entire c0.value)) → Grows c d (bare c.line op.STORE ∷ []) → AppendsTaken a d c0 s
appends_taken {a = a} c0 s p t u =
    let both = reads (Read (entire c0.value)) (λ line. bare line op.STORE ∷ []) p t u in
    record {
      code = instr op.FIELD (pos s.tag) 0 a.line ∷ instr op.FIELD (pos 0) 0 a.line ∷ (t.code ++ bare a.line op.STORE ∷ []);
      is_code = (t.code, both.1, refl);
      grows = both.0;
    }

-- a filler is within the code that follows it
pub hole_in_variants : {d e f : Code} (hole : ℕ) (s : Selection) → LeavesHole d e hole → Grows e f (variants_code e.line s) → hole < length f.instructions
hole_in_variants hole s p q = omega (arith, p.is_length, grows_length p.grows, grows_length q)

pub appends_change : {a b c d e f g : Code} (c0 : Tagging) (s : Selection) (hole : ℕ) → AppendsExpr a b (Read (entire c0.value)) → Grows b c (number_code b.line (length b.instructions) s none_now) → Grows c d (two_code c.line binary.Unequal ∷ []) → LeavesHole d e hole → Grows e f (variants_code e.line s) → g ≡ landed f hole op.JUMP_FALSE a.line
    → AppendsChange a g c0 s
appends_change {a = a} {b = b} {c = c} {d = d} {e = e} {f = f} {g = g} c0 s hole r n q h v lands =
    subst (λ x. AppendsChange a x c0 s) (sym lands) (record { code = all; is_code = (r.code, read, refl); grows = whole })
  where
    at : ℕ
    at = length a.instructions

    number : List Instr
    number = number_code a.line (at + length r.code) s none_now

    variants : List Instr
    variants = variants_code a.line s

    skip : Instr
    skip = instr op.JUMP_FALSE (pos (at + length r.code + number_length s + 2 + length variants)) 0 a.line

    all : List Instr
    all = r.code ++ (number ++ two_code a.line binary.Unequal ∷ skip ∷ variants)

    len_b : length b.instructions ≡ at + length r.code
    len_b = grows_length r.grows

    long : length number ≡ number_length s
    long = number_code_length a.line (at + length r.code) s none_now

    -- up to the filler
    front : List Instr
    front = r.code ++ (number ++ two_code a.line binary.Unequal ∷ [])

    to_c : Grows a c (r.code ++ number)
    to_c = subst (λ k. Grows a c (r.code ++ number_code a.line k s none_now)) len_b (grows_at (λ line. number_code line (length b.instructions) s none_now) r.grows n)

    to_d : Grows a d front
    to_d = subst (λ l. Grows a d l) (append_assoc r.code number (two_code a.line binary.Unequal ∷ [])) (grows_at (λ line. two_code line binary.Unequal ∷ []) to_c q)

    to_e : Grows a e (front ++ h.filler ∷ [])
    to_e = grows_then to_d h.grows

    to_f : Grows a f (front ++ h.filler ∷ variants)
    to_f = subst (λ l. Grows a f l) (append_assoc front (h.filler ∷ []) variants) (grows_at (λ line. variants_code line s) to_e v)

    len_front : length front ≡ length r.code + number_length s + 1
    len_front = omega (arith, length-append r.code (number ++ two_code a.line binary.Unequal ∷ []), length-append number (two_code a.line binary.Unequal ∷ []), long)

    len_d : hole ≡ at + length front
    len_d = h.is_length ∙ grows_length to_d

    len_f : length f.instructions ≡ at + length r.code + number_length s + 2 + length variants
    len_f = omega (arith, grows_length to_f, length-append front (h.filler ∷ variants), len_front)

    with_skip : Grows a (landed f hole op.JUMP_FALSE a.line) (front ++ skip ∷ variants)
    with_skip = subst (λ k. Grows a (landed f hole op.JUMP_FALSE a.line) (front ++ instr op.JUMP_FALSE (pos k) 0 a.line ∷ variants)) len_f (grows_landed front h.filler variants hole op.JUMP_FALSE a.line to_f len_d)

    whole : Grows a (landed f hole op.JUMP_FALSE a.line) all
    whole =
        subst (λ l. Grows a (landed f hole op.JUMP_FALSE a.line) l)
        (append_assoc r.code (number ++ two_code a.line binary.Unequal ∷ []) (skip ∷ variants) ∙ ap (λ l. r.code ++ l) (append_assoc number (two_code a.line binary.Unequal ∷ []) (skip ∷ variants))) with_skip

    read : IsExprCode f.texts f.references a.line at (Read (entire c0.value)) r.code
    read = expr_later a.line at (Read (entire c0.value)) r.code (later_then (later_grows n) (later_then (later_grows q) (later_then (later_grows h.grows) (later_grows v)))) r.is_code

-- ---- the whole

pub appends_tag : {b c d e f g : Code} (a : Code) (line : ℕ) (c0 : Tagging) (q : Place) (s : Selection) (x : Expr) → AppendsPlace (record a { line = line }) b q → AppendsStmt b c (Assign line (entire c0.value) x) → AppendsTried (record c { line = line }) d c0 s → Grows d e (selected_code d.line (length d.instructions) s) → AppendsChange e f c0 s → AppendsTaken f g c0 s
    → AppendsStmt a g (AssignTag line c0 q s x)
appends_tag {b = b} {c = c} {d = d} {e = e} {f = f} {g = g} a line c0 q s x place value tried selected change taken =
    record { code = all; is_code = code; follows = whole; short = stmt_code_short g.texts g.references at (AssignTag line c0 q s x) all code }
  where
    at : ℕ
    at = length a.instructions

    -- the line stays
    line_e : e.line ≡ line
    line_e = selected.line ∙ tried.grows.line

    line_f : f.line ≡ line
    line_f = change.grows.line ∙ line_e

    len_b : length b.instructions ≡ at + length place.code
    len_b = grown_length (follows_grows place.grows)

    len_c : length c.instructions ≡ at + length place.code + length value.code
    len_c = omega (arith, len_b, grown_length value.follows)

    len_d : length d.instructions ≡ at + length place.code + length value.code + length tried.code
    len_d = omega (arith, len_c, grown_length (follows_grows tried.grows))

    choice : List Instr
    choice = selected_code line (at + length place.code + length value.code + length tried.code) s

    to_e : Follows d e choice
    to_e = subst (λ n. Follows d e (selected_code line n s)) len_d (subst (λ l. Follows d e (selected_code l (length d.instructions) s)) tried.grows.line (follows_grows selected))

    len_e : length e.instructions ≡ at + length place.code + length value.code + length tried.code + selected_length s
    len_e = omega (arith, len_d, grown_length to_e, selected_code_length line (at + length place.code + length value.code + length tried.code) s)

    len_f : length f.instructions ≡ at + length place.code + length value.code + length tried.code + selected_length s + length change.code
    len_f = omega (arith, len_e, grown_length (follows_grows change.grows))

    all : List Instr
    all = place.code ++ (value.code ++ (tried.code ++ (choice ++ (change.code ++ taken.code))))

    whole : Follows a g all
    whole =
        follows_then (follows_line a line (follows_grows place.grows)) (follows_then value.follows (follows_then (follows_line c line (follows_grows tried.grows)) (follows_then to_e (follows_then (follows_grows change.grows) (follows_grows taken.grows)))))

    -- what comes later
    f_g : IsLater f g
    f_g = later_grows taken.grows

    d_g : IsLater d g
    d_g = later_then (later_grows selected) (later_then (later_grows change.grows) f_g)

    c_g : IsLater c g
    c_g = later_then (later_follows (follows_line c line (follows_grows tried.grows))) d_g

    b_g : IsLater b g
    b_g = later_then (later_follows value.follows) c_g

    code : IsStmtCode g.texts g.references at (AssignTag line c0 q s x) all
    code = (
      place.code,
      value.code,
      tried.code,
      change.code,
      taken.code,
      place_code_stays b.texts g.texts b.references g.references line b_g.texts.begins b_g.references.begins at q place.code place.is_code,
      subst (λ n. IsStmtCode g.texts g.references n (Assign line (entire c0.value) x) value.code) len_b (stmt_later (length b.instructions) (Assign line (entire c0.value) x) value.code c_g value.is_code),
      subst (λ n. IsTriedCode g.texts g.references line n c0 s tried.code) len_c (tried_code_stays d.texts g.texts d.references g.references d_g.texts.begins d_g.references.begins line (length c.instructions) c0 s tried.code tried.is_code),
      subst (λ n. IsChangeCode g.texts g.references line n c0 s change.code) len_e (change_code_stays f.texts g.texts f.references g.references f_g.texts.begins f_g.references.begins line (length e.instructions) c0 s change.code (subst (λ l. IsChangeCode f.texts f.references l (length e.instructions) c0 s change.code) line_e change.is_code)),
      subst (λ n. IsTakenCode g.texts g.references line n c0 s taken.code) len_f (subst (λ l. IsTakenCode g.texts g.references l (length f.instructions) c0 s taken.code) line_f taken.is_code),
      refl,
    )
