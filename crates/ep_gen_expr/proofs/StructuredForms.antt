-- The code of structured values, from that of its parts.
use Rattle.std.proofs.Common.{◌≡◌, ℕ, ℤ, pos, List, [], ◌∷◌, ◌++◌, map, ◌<◌, ◌+◌, take, length, get_or, refl, sym, ap, ◌∙◌, subst, append_assoc, append-nil, arith, length-append}
use Rattle.std.proofs.lemmas.List.{map_more, take_more}
use Rattle.ep_object.specs.declared.code.Instr.{Instr}
use Rattle.ep_object.specs.declared.code.Reference.{Reference}
use Rattle.ep_object.specs.declared.op.TheConstants as op
use Rattle.ep_typed.specs.declared.tree.CaseRange.{CaseRange}
use Rattle.ep_typed.specs.Trees.{Expr, Structured, Element, AtIndex, AtField, SameField, AtRanges, Elements, elements}
use Rattle.ep_gen_expr.specs.ExprCode.{IsExprCode, IsElementCode, AreElementsCode, begin_code, end_code, steps_code, reach_code, same_code, first_code, first_index, range_code, ranges_code}
use Rattle.ep_gen_code.specs.Instructions.{bare, instr, push}
use Rattle.ep_gen_code.specs.Referring.{type_reference}
use Rattle.ep_gen_code.specs.declared.references.TheConstants as routine
use Rattle.ep_gen_code.specs.Growth.{Grows}
use Rattle.ep_gen_expr.specs.Growth.{AppendsExpr, AppendsElement, AppendsElements}
use Rattle.ep_gen_code.specs.declared.code.Code.{Code}
use Rattle.ep_gen_code.proofs.public.Landing.{grows_length}
use Rattle.ep_gen_code.proofs.public.Growing.{grows_none, grows_then, grows_at}
use Rattle.ep_gen_expr.proofs.Forms.{second_part, whole_expr}
use Rattle.ep_gen_expr.proofs.public.Stays.{elements_code_stays}

-- what comes before the components, and after them
pub grows_begun : {a b c d e : Code} (number : ℕ) → Grows a b (instr op.CALL (pos (type_reference number)) 0 a.line ∷ []) → Grows b c (bare b.line op.NEW ∷ []) → Grows c d (bare c.line op.DUP ∷ []) → Grows d e (bare d.line op.DEREF ∷ []) → Grows a e (begin_code a.line number)
grows_begun number p q r s =
    grows_at (λ line. bare line op.NEW ∷ bare line op.DUP ∷ bare line op.DEREF ∷ []) p
    (grows_at (λ line. bare line op.DUP ∷ bare line op.DEREF ∷ []) q (grows_at (λ line. bare line op.DEREF ∷ []) r s))

pub grows_ended : {a b c d : Code} → Grows a b (bare a.line op.LOAD ∷ []) → Grows b c (instr op.CALL (pos routine.SWAP) 0 b.line ∷ []) → Grows c d (bare c.line op.DISPOSE ∷ []) → Grows a d (end_code a.line)
grows_ended p q r =
    grows_at (λ line. instr op.CALL (pos routine.SWAP) 0 line ∷ bare line op.DISPOSE ∷ []) p (grows_at (λ line. bare line op.DISPOSE ∷ []) q r)

steps_push : (line : ℕ) (steps : List ℕ) (k : ℕ) → steps_code line (steps ++ k ∷ []) ≡ steps_code line steps ++ instr op.FIELD (pos k) 0 line ∷ []
steps_push line [] k = refl
steps_push line (j ∷ steps) k = ap (λ l. instr op.FIELD (pos j) 0 line ∷ l) (steps_push line steps k)

-- one more step of a slice
pub grows_step : {a b c : Code} (xs : List ℕ) (k : ℕ) → k < length xs → Grows a b (steps_code a.line (take k xs)) → Grows b c (instr op.FIELD (pos (get_or xs k 0)) 0 b.line ∷ []) → Grows a c (steps_code a.line (take (k + 1) xs))
grows_step {a = a} {c = c} xs k h p q =
    subst (λ l. Grows a c (steps_code a.line l)) (sym (take_more xs k 0 h))
    (subst (λ is. Grows a c is) (sym (steps_push a.line (take k xs) (get_or xs k 0))) (grows_at (λ line. instr op.FIELD (pos (get_or xs k 0)) 0 line ∷ []) p q))

-- before the value of a component of a record
pub grows_reached : {a b c : Code} (steps : List ℕ) → Grows a b (bare a.line op.DUP ∷ []) → Grows b c (steps_code b.line steps) → Grows a c (reach_code a.line steps)
grows_reached steps p q = grows_at (λ line. steps_code line steps) p q

-- what another component has
pub grows_same : {a b c d e f g : Code} (from to : List ℕ) → Grows a b (bare a.line op.DUP ∷ []) → Grows b c (reach_code b.line to) → Grows c d (instr op.CALL (pos routine.SWAP) 0 c.line ∷ []) → Grows d e (steps_code d.line from) → Grows e f (bare e.line op.LOAD ∷ []) → Grows f g (bare f.line op.STORE ∷ []) → Grows a g (same_code a.line from to)
grows_same from to dup first call second load store =
    let last = grows_at (λ line. bare line op.STORE ∷ []) load store in
    let read = grows_at (λ line. bare line op.LOAD ∷ bare line op.STORE ∷ []) second last in
    let behind = grows_at (λ line. steps_code line from ++ bare line op.LOAD ∷ bare line op.STORE ∷ []) call read in
    grows_at (λ line. reach_code line to ++ instr op.CALL (pos routine.SWAP) 0 line ∷ (steps_code line from ++ bare line op.LOAD ∷ bare line op.STORE ∷ [])) dup
    (grows_at (λ line. instr op.CALL (pos routine.SWAP) 0 line ∷ (steps_code line from ++ bare line op.LOAD ∷ bare line op.STORE ∷ [])) first behind)

-- the component at an index
pub appends_at_index : {a b c d e f : Code} (x y : Expr) → Grows a b (bare a.line op.DUP ∷ []) → AppendsExpr b c x → Grows c d (bare c.line op.INDEX ∷ []) → AppendsExpr d e y → Grows e f (bare e.line op.STORE ∷ []) → AppendsElement a f (AtIndex x y)
appends_at_index {a = a} {d = d} {f = f} x y dup p index q store =
    let first : Grows a d (bare a.line op.DUP ∷ (p.code ++ bare a.line op.INDEX ∷ [])) = grows_at (λ line. bare line op.INDEX ∷ []) (grows_then dup p.grows) index in
    let last = grows_at (λ line. bare line op.STORE ∷ []) q.grows store in
    let behind = grows_at (λ line. q.code ++ bare line op.STORE ∷ []) index last in
    let there : length a.instructions + length (bare a.line op.DUP ∷ (p.code ++ bare a.line op.INDEX ∷ [])) ≡ length a.instructions + 1 + length p.code + 1 = omega (arith, length-append p.code (bare a.line op.INDEX ∷ [])) in
    record {
      code = bare a.line op.DUP ∷ (p.code ++ bare a.line op.INDEX ∷ (q.code ++ bare a.line op.STORE ∷ []));
      is_code = (p.code, q.code, second_part x dup p behind, subst (λ at. IsExprCode f.texts f.references a.line at y q.code) there (second_part y first q store), refl);
      grows = grows_at (λ line. bare line op.INDEX ∷ (q.code ++ bare line op.STORE ∷ [])) (grows_then dup p.grows) behind;
    }

-- that of a record to which steps lead
pub appends_at_field : {a b c d : Code} (steps : List ℕ) (x : Expr) → Grows a b (reach_code a.line steps) → AppendsExpr b c x → Grows c d (bare c.line op.STORE ∷ []) → AppendsElement a d (AtField steps x)
appends_at_field {a = a} steps x field p store =
    record {
      code = reach_code a.line steps ++ (p.code ++ bare a.line op.STORE ∷ []);
      is_code = (p.code, second_part x field p store, refl);
      grows = grows_at (λ line. p.code ++ bare line op.STORE ∷ []) field (grows_at (λ line. bare line op.STORE ∷ []) p.grows store);
    }

-- ---- one value for many components

pub grows_first : {a b c d : Code} (ranges : List CaseRange) → Grows a b (bare a.line op.DUP ∷ []) → Grows b c (push b.line (first_index ranges) ∷ []) → Grows c d (bare c.line op.INDEX ∷ []) → Grows a d (first_code a.line ranges)
grows_first ranges p q r = grows_at (λ line. push line (first_index ranges) ∷ bare line op.INDEX ∷ []) p (grows_at (λ line. bare line op.INDEX ∷ []) q r)

pub grows_range : {a b c d e f : Code} (from : ℤ) (r : CaseRange) → Grows a b (bare a.line op.DUP ∷ []) → Grows b c (push b.line from ∷ []) → Grows c d (push c.line r.low ∷ []) → Grows d e (push d.line r.high ∷ []) → Grows e f (instr op.CALL (pos routine.FILL) 0 e.line ∷ []) → Grows a f (range_code a.line from r)
grows_range from r p q s t u =
    grows_at (λ line. instr op.CALL (pos routine.FILL) 0 line ∷ []) (grows_at (λ line. push line r.high ∷ []) (grows_at (λ line. push line r.low ∷ []) (grows_at (λ line. push line from ∷ []) p q) s) t) u

ranges_push : (line : ℕ) (from : ℤ) (rs : List CaseRange) (r : CaseRange) → ranges_code line from (rs ++ r ∷ []) ≡ ranges_code line from rs ++ range_code line from r
ranges_push line from [] r = append-nil (range_code line from r)
ranges_push line from (x ∷ rs) r = ap (λ l. range_code line from x ++ l) (ranges_push line from rs r) ∙ sym (append_assoc (range_code line from x) (ranges_code line from rs) (range_code line from r))

-- one more range of a slice
pub ranges_more : {a b c : Code} (from : ℤ) (rs : List CaseRange) (k : ℕ) (r : CaseRange) → k < length rs → r ≡ get_or rs k r → Grows a b (ranges_code a.line from (take k rs)) → Grows b c (range_code b.line from r) → Grows a c (ranges_code a.line from (take (k + 1) rs))
ranges_more {a = a} {c = c} from rs k r h e p q =
    subst (λ l. Grows a c l)
    (sym (ranges_push a.line from (take k rs) r) ∙ (ap (λ x. ranges_code a.line from (take k rs ++ x ∷ [])) e ∙ ap (ranges_code a.line from) (sym (take_more rs k r h))))
    (grows_at (λ line. range_code line from r) p q)

pub appends_at_ranges : {a b c d e : Code} (ranges : List CaseRange) (x : Expr) → Grows a b (first_code a.line ranges) → AppendsExpr b c x → Grows c d (bare c.line op.STORE ∷ []) → Grows d e (ranges_code d.line (first_index ranges) ranges) → AppendsElement a e (AtRanges ranges x)
appends_at_ranges {a = a} ranges x first p store filled =
    let last = grows_at (λ line. ranges_code line (first_index ranges) ranges) store filled in
    record {
      code = first_code a.line ranges ++ (p.code ++ bare a.line op.STORE ∷ ranges_code a.line (first_index ranges) ranges);
      is_code = (p.code, second_part x first p last, refl);
      grows = grows_at (λ line. p.code ++ bare line op.STORE ∷ ranges_code line (first_index ranges) ranges) first (grows_at (λ line. bare line op.STORE ∷ ranges_code line (first_index ranges) ranges) p.grows last);
    }

-- one that is given what another one has
pub appends_same_field : {a b : Code} (from to : List ℕ) → Grows a b (same_code a.line from to) → AppendsElement a b (SameField from to)
appends_same_field {a = a} from to grows = record { code = same_code a.line from to; is_code = refl; grows = grows }

module _ (ts : List (List ℕ)) (rs : List Reference) (line : ℕ) where
  -- one more behind others
  elements_snoc : (at : ℕ) (given : List Element) (e : Element) (xs ys : List Instr) → AreElementsCode ts rs line at (elements given) xs → IsElementCode ts rs line (at + length xs) e ys → AreElementsCode ts rs line at (elements (given ++ e ∷ [])) (xs ++ ys)
  elements_snoc at [] e xs ys h k =
      let here : at + length xs ≡ at = omega (arith, ap length h) in
      (ys, [], subst (λ n. IsElementCode ts rs line n e ys) here k, refl, ap (λ l. l ++ ys) h ∙ sym (append-nil ys))
  elements_snoc at (b ∷ given) e xs ys h k =
      let there : at + length xs ≡ at + length h.0 + length h.1 = omega (arith, ap length h.4, length-append h.0 h.1) in
      (h.0, h.1 ++ ys, h.2, elements_snoc (at + length h.0) given e h.1 ys h.3 (subst (λ n. IsElementCode ts rs line n e ys) there k), ap (λ l. l ++ ys) h.4 ∙ append_assoc h.0 h.1 ys)

-- none yet
pub elements_none : (a : Code) → AppendsElements a a (elements [])
elements_none a = record { code = []; is_code = refl; grows = grows_none a }

-- one after others
elements_push : {a b c : Code} (given : List Element) (x : Element) → AppendsElements a b (elements given) → AppendsElement b c x → AppendsElements a c (elements (given ++ x ∷ []))
elements_push {a = a} {b = b} {c = c} given x p q = record {
  code = p.code ++ q.code;
  is_code = elements_snoc c.texts c.references a.line (length a.instructions) given x p.code q.code
      (elements_code_stays b.texts c.texts b.references c.references a.line q.grows.texts.begins q.grows.references.begins (length a.instructions) (elements given) p.code p.is_code)
      (subst (λ n. IsElementCode c.texts c.references a.line n x q.code) (grows_length p.grows) (subst (λ l. IsElementCode c.texts c.references l (length b.instructions) x q.code) p.grows.line q.is_code));
  grows = grows_then p.grows q.grows;
}

-- one more of a slice
pub elements_more : {X : Type 0} {a b c : Code} (view : X → Element) (xs : List X) (k : ℕ) (x : X) → k < length xs → x ≡ get_or xs k x → AppendsElements a b (elements (map view (take k xs))) → AppendsElement b c (view x) → AppendsElements a c (elements (map view (take (k + 1) xs)))
elements_more {a = a} {c = c} view xs k x h e p q =
    subst (λ l. AppendsElements a c (elements l)) (ap (λ y. map view (take k xs) ++ view y ∷ []) e ∙ sym (map_more view xs k x h)) (elements_push (map view (take k xs)) (view x) p q)

-- the whole
pub appends_structured : {a b c d : Code} (number : ℕ) (es : Elements) → Grows a b (begin_code a.line number) → AppendsElements b c es → Grows c d (end_code c.line) → AppendsExpr a d (Structured number es)
appends_structured {a = a} {b = b} {c = c} {d = d} number es begun p ended =
    let stays : AreElementsCode d.texts d.references b.line (length b.instructions) es p.code = elements_code_stays c.texts d.texts c.references d.references b.line ended.texts.begins ended.references.begins (length b.instructions) es p.code p.is_code in
    whole_expr (Structured number es) (begin_code a.line number ++ (p.code ++ end_code a.line)) (
      p.code,
      subst (λ at. AreElementsCode d.texts d.references a.line at es p.code) (grows_length begun) (subst (λ line. AreElementsCode d.texts d.references line (length b.instructions) es p.code) begun.line stays),
      refl,
    ) (grows_at (λ line. p.code ++ end_code line) begun (grows_at end_code p.grows ended))
