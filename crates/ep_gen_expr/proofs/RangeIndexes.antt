-- The code of indexes that are worked out and of what the components at them are given, from that of its parts.
use Rattle.std.proofs.Common.{◌≡◌, ℕ, pos, suc, List, [], ◌∷◌, ◌++◌, map, ◌<◌, ◌+◌, ◌*◌, take, length, get_or, refl, sym, ap, ◌∙◌, subst, append_assoc, append-nil, arith, length-append}
use Rattle.std.proofs.lemmas.List.{map_more}
use Rattle.ep_object.specs.declared.code.Instr.{Instr}
use Rattle.ep_object.specs.declared.code.Reference.{Reference}
use Rattle.ep_object.specs.declared.op.TheConstants as op
use Rattle.ep_typed.specs.Nodes.{designators_count}
use Rattle.ep_typed.specs.Trees.{Expr, AtIndexes, Designator, Designators, Single, Range, designators}
use Rattle.ep_gen_expr.specs.ExprCode.{AreIndexesCode, IsRangeCode, drops_code, given_code, spread_code, spread_length, spreads_code, tested_code}
use Rattle.ep_gen_code.specs.Instructions.{bare, instr}
use Rattle.ep_gen_code.specs.Growth.{Grows}
use Rattle.ep_gen_code.specs.declared.references.TheConstants as routine
use Rattle.ep_gen_expr.specs.Growth.{AppendsElement, AppendsExpr, AppendsIndexes, AppendsRange}
use Rattle.ep_gen_code.specs.declared.code.Code.{Code}
use Rattle.ep_gen_code.proofs.public.Landing.{grows_length}
use Rattle.ep_gen_code.proofs.public.Growing.{after_parts, grows_at, grows_none, grows_then}
use Rattle.ep_gen_expr.proofs.Forms.{first_part, second_part}
use Rattle.ep_gen_expr.proofs.public.Stays.{indexes_code_stays, spreads_length}

-- ---- instructions alone

pub grows_tested : {a b c d e f : Code} → Grows a b (instr op.CALL (pos routine.RANGE) 0 a.line ∷ []) → Grows b c (bare b.line op.INDEX ∷ []) → Grows c d (bare c.line op.DROP ∷ []) → Grows d e (bare d.line op.INDEX ∷ []) → Grows e f (bare e.line op.DROP ∷ [])
    → Grows a f (tested_code a.line)
grows_tested p q r s t =
    grows_at (λ line. bare line op.INDEX ∷ bare line op.DROP ∷ bare line op.INDEX ∷ bare line op.DROP ∷ []) p
    (grows_at (λ line. bare line op.DROP ∷ bare line op.INDEX ∷ bare line op.DROP ∷ []) q (grows_at (λ line. bare line op.INDEX ∷ bare line op.DROP ∷ []) r (grows_at (λ line. bare line op.DROP ∷ []) s t)))

pub grows_given : {a b c d e : Code} → Grows a b (bare a.line op.INDEX ∷ []) → Grows b c (instr op.CALL (pos routine.SWAP) 0 b.line ∷ []) → Grows c d (bare c.line op.STORE ∷ []) → Grows d e (instr op.CALL (pos routine.FILL) 0 d.line ∷ []) → Grows a e (given_code a.line)
grows_given p q r s =
    grows_at (λ line. instr op.CALL (pos routine.SWAP) 0 line ∷ bare line op.STORE ∷ instr op.CALL (pos routine.FILL) 0 line ∷ []) p
    (grows_at (λ line. bare line op.STORE ∷ instr op.CALL (pos routine.FILL) 0 line ∷ []) q (grows_at (λ line. instr op.CALL (pos routine.FILL) 0 line ∷ []) r s))

-- one operand more
pub grows_drop : {a b c : Code} (n : ℕ) → Grows a b (drops_code a.line n) → Grows b c (bare b.line op.DROP ∷ []) → Grows a c (drops_code a.line (n + 1))
grows_drop {a = a} {c = c} n p q = subst (λ k. Grows a c (drops_code a.line k)) {x = suc n} {y = n + 1} (omega arith) (grows_at (λ line. bare line op.DROP ∷ []) p q)

pub grows_spread : {a b c d e f g : Code} (place : ℕ) → place ≡ length a.instructions → Grows a b (bare a.line op.DUP ∷ []) → Grows b c (instr op.CALL (pos routine.SPREAD) 0 b.line ∷ []) → Grows c d (instr op.JUMP_FALSE (pos (place + 8)) 0 c.line ∷ []) → Grows d e (given_code d.line)
    → Grows e f (instr op.JUMP (pos (place + spread_length)) 0 e.line ∷ []) → Grows f g (drops_code f.line 7) → Grows a g (spread_code a.line (length a.instructions))
grows_spread {a = a} {g = g} place is p q r s t u =
    subst (λ at. Grows a g (spread_code a.line at)) is
    (grows_at (λ line. instr op.CALL (pos routine.SPREAD) 0 line ∷ instr op.JUMP_FALSE (pos (place + 8)) 0 line ∷ (given_code line ++ instr op.JUMP (pos (place + spread_length)) 0 line ∷ drops_code line 7)) p
    (grows_at (λ line. instr op.JUMP_FALSE (pos (place + 8)) 0 line ∷ (given_code line ++ instr op.JUMP (pos (place + spread_length)) 0 line ∷ drops_code line 7)) q
    (grows_at (λ line. given_code line ++ instr op.JUMP (pos (place + spread_length)) 0 line ∷ drops_code line 7) r
    (grows_at (λ line. instr op.JUMP (pos (place + spread_length)) 0 line ∷ drops_code line 7) s (grows_at (λ line. drops_code line 7) t u)))))

-- one range more
pub grows_spreads : {a b c : Code} (n : ℕ) → Grows a b (spreads_code a.line (length a.instructions) n) → Grows b c (spread_code b.line (length b.instructions)) → Grows a c (spreads_code a.line (length a.instructions) (n + 1))
grows_spreads {a = a} {b = b} {c = c} n p q =
    let here : length b.instructions ≡ length a.instructions + spread_length * n = grows_length p ∙ ap (λ k. length a.instructions + k) (spreads_length a.line (length a.instructions) n) in
    subst (λ k. Grows a c (spreads_code a.line (length a.instructions) k)) {x = suc n} {y = n + 1} (omega arith)
    (grows_at (λ line. spread_code line (length a.instructions + spread_length * n)) p (subst (λ at. Grows b c (spread_code b.line at)) here q))

-- ---- indexes

-- an index alone
pub appends_alone : {a b c d : Code} (x : Expr) → AppendsExpr a b x → Grows b c (bare b.line op.DUP ∷ []) → Grows c d (tested_code c.line) → AppendsRange a d (Single x)
appends_alone {a = a} x p q r =
    let last = grows_at tested_code q r in
    record { code = p.code ++ bare a.line op.DUP ∷ tested_code a.line; is_code = (p.code, first_part x p last, refl); grows = grows_at (λ line. bare line op.DUP ∷ tested_code line) p.grows last }

-- the first and the last one
pub appends_pair : {a b c d : Code} (x y : Expr) → AppendsExpr a b x → AppendsExpr b c y → Grows c d (tested_code c.line) → AppendsRange a d (Range x y)
appends_pair {a = a} x y p q r =
    record {
      code = p.code ++ (q.code ++ tested_code a.line);
      is_code = (p.code, q.code, first_part x p (grows_then q.grows r), second_part y p.grows q r, refl);
      grows = after_parts tested_code p.grows q.grows r;
    }

module _ (ts : List (List ℕ)) (rs : List Reference) (line : ℕ) where
  -- one range more behind others
  indexes_snoc : (at : ℕ) (given : List Designator) (d : Designator) (xs ys : List Instr) → AreIndexesCode ts rs line at (designators given) xs → IsRangeCode ts rs line (at + length xs) d ys → AreIndexesCode ts rs line at (designators (given ++ d ∷ [])) (xs ++ ys)
  indexes_snoc at [] d xs ys h k =
      let here : at + length xs ≡ at = omega (arith, ap length h) in
      (ys, [], subst (λ n. IsRangeCode ts rs line n d ys) here k, refl, ap (λ l. l ++ ys) h ∙ sym (append-nil ys))
  indexes_snoc at (b ∷ given) d xs ys h k =
      let there : at + length xs ≡ at + length h.0 + length h.1 = omega (arith, ap length h.4, length-append h.0 h.1) in
      (h.0, h.1 ++ ys, h.2, indexes_snoc (at + length h.0) given d h.1 ys h.3 (subst (λ n. IsRangeCode ts rs line n d ys) there k), ap (λ l. l ++ ys) h.4 ∙ append_assoc h.0 h.1 ys)

-- none yet
pub indexes_none : (a : Code) → AppendsIndexes a a (designators [])
indexes_none a = record { code = []; is_code = refl; grows = grows_none a }

-- one after others
indexes_push : {a b c : Code} (given : List Designator) (d : Designator) → AppendsIndexes a b (designators given) → AppendsRange b c d → AppendsIndexes a c (designators (given ++ d ∷ []))
indexes_push {a = a} {b = b} {c = c} given d p q =
    record {
      code = p.code ++ q.code;
      is_code = indexes_snoc c.texts c.references a.line (length a.instructions) given d p.code q.code
          (indexes_code_stays b.texts c.texts b.references c.references a.line q.grows.texts.begins q.grows.references.begins (length a.instructions) (designators given) p.code p.is_code)
          (subst (λ n. IsRangeCode c.texts c.references a.line n d q.code) (grows_length p.grows) (subst (λ l. IsRangeCode c.texts c.references l (length b.instructions) d q.code) p.grows.line q.is_code));
      grows = grows_then p.grows q.grows;
    }

-- one more of a slice
pub indexes_more : {X : Type 0} {a b c : Code} (view : X → Designator) (xs : List X) (k : ℕ) (x : X) → k < length xs → x ≡ get_or xs k x → AppendsIndexes a b (designators (map view (take k xs))) → AppendsRange b c (view x) → AppendsIndexes a c (designators (map view (take (k + 1) xs)))
indexes_more {a = a} {c = c} view xs k x h e p q =
    subst (λ l. AppendsIndexes a c (designators l)) (ap (λ y. map view (take k xs) ++ view y ∷ []) e ∙ sym (map_more view xs k x h)) (indexes_push (map view (take k xs)) (view x) p q)

-- ---- all of it

pub appends_at_indexes : {a b c d e : Code} (ds : Designators) (x : Expr) (n : ℕ) → n ≡ designators_count ds → AppendsIndexes a b ds → AppendsExpr b c x → Grows c d (spreads_code c.line (length c.instructions) n) → Grows d e (bare d.line op.DROP ∷ []) → AppendsElement a e (AtIndexes ds x)
appends_at_indexes {a = a} {b = b} {c = c} {d = d} {e = e} ds x n many p q spreads last =
    let k : ℕ = designators_count ds in
    let there : length c.instructions ≡ length a.instructions + length p.code + length q.code = omega (arith, grows_length p.grows, grows_length q.grows) in
    let all : Grows c d (spreads_code c.line (length a.instructions + length p.code + length q.code) k) = subst (λ at. Grows c d (spreads_code c.line at k)) there (subst (λ m. Grows c d (spreads_code c.line (length c.instructions) m)) many spreads) in
    let behind = grows_at (λ line. bare line op.DROP ∷ []) all last in
    let rest = grows_at (λ line. spreads_code line (length a.instructions + length p.code + length q.code) k ++ bare line op.DROP ∷ []) q.grows behind in
    record {
      code = p.code ++ (q.code ++ (spreads_code a.line (length a.instructions + length p.code + length q.code) k ++ bare a.line op.DROP ∷ []));
      is_code = (
        p.code,
        q.code,
        indexes_code_stays b.texts e.texts b.references e.references a.line rest.texts.begins rest.references.begins (length a.instructions) ds p.code p.is_code,
        second_part x p.grows q behind,
        refl,
      );
      grows = grows_at (λ line. q.code ++ (spreads_code line (length a.instructions + length p.code + length q.code) k ++ bare line op.DROP ∷ [])) p.grows rest;
    }
