-- The code of forms of sets, from that of its parts.
use Rattle.std.proofs.Common.{◌≡◌, ℕ, pos, List, [], ◌∷◌, ◌++◌, map, ◌<◌, ◌+◌, take, length, get_or, refl, sym, ap, ◌∙◌, subst, append_assoc, append-nil, arith, length-append}
use Rattle.std.proofs.lemmas.List.{map_more, take_more}
use Rattle.ep_object.specs.declared.code.Instr.{Instr}
use Rattle.ep_object.specs.declared.code.Reference.{Reference}
use Rattle.ep_object.specs.declared.op.TheConstants as op
use Rattle.ep_typed.specs.Trees.{Expr, SetConstant, SetOf, OnSets, Card, Designator, Single, Range, designators}
use Rattle.ep_values.specs.declared.operations.SetOperation.{SetOperation}
use Rattle.ep_gen_expr.specs.ExprCode.{IsDesignatorCode, AreDesignatorsCode, set_code}
use Rattle.ep_gen_code.specs.Instructions.{bare, members_code, push}
use Rattle.ep_gen_code.specs.Growth.{Grows}
use Rattle.ep_gen_expr.specs.Growth.{AppendsExpr, AppendsDesignator}
use Rattle.ep_gen_code.specs.declared.code.Code.{Code}
use Rattle.ep_gen_code.proofs.public.Landing.{grows_length}
use Rattle.ep_gen_code.proofs.public.Growing.{after_parts, grows_at, grows_then}
use Rattle.ep_gen_expr.proofs.Forms.{first_part, second_part, whole_expr}
use Rattle.ep_gen_expr.proofs.public.Stays.{designators_code_stays}

-- a constant that is a set, of no members
pub constant_none : {a b : Code} → Grows a b (bare a.line op.SET_NONE ∷ []) → AppendsExpr a b (SetConstant [])
constant_none {a = a} g = whole_expr (SetConstant []) (bare a.line op.SET_NONE ∷ []) refl g

members_push : (line : ℕ) (ms : List ℕ) (m : ℕ) → members_code line (ms ++ m ∷ []) ≡ members_code line ms ++ push line (pos m) ∷ bare line op.SET_ADD ∷ []
members_push line [] m = refl
members_push line (k ∷ ms) m = ap (λ l. push line (pos k) ∷ bare line op.SET_ADD ∷ l) (members_push line ms m)

-- one member more
constant_push : {a b c d : Code} (ms : List ℕ) (m : ℕ) → AppendsExpr a b (SetConstant ms) → Grows b c (push b.line (pos m) ∷ []) → Grows c d (bare c.line op.SET_ADD ∷ []) → AppendsExpr a d (SetConstant (ms ++ m ∷ []))
constant_push {a = a} {d = d} ms m p q r =
    let two : Grows a d (p.code ++ push a.line (pos m) ∷ bare a.line op.SET_ADD ∷ []) = grows_at (λ line. push line (pos m) ∷ bare line op.SET_ADD ∷ []) p.grows (grows_at (λ line. bare line op.SET_ADD ∷ []) q r) in
    let all : p.code ++ push a.line (pos m) ∷ bare a.line op.SET_ADD ∷ [] ≡ bare a.line op.SET_NONE ∷ members_code a.line (ms ++ m ∷ []) =
    ap (λ l. l ++ push a.line (pos m) ∷ bare a.line op.SET_ADD ∷ []) p.is_code ∙ ap (λ l. bare a.line op.SET_NONE ∷ l) (sym (members_push a.line ms m)) in
    whole_expr (SetConstant (ms ++ m ∷ [])) (p.code ++ push a.line (pos m) ∷ bare a.line op.SET_ADD ∷ []) all two

-- one more of a slice
pub constant_more : {a b c d : Code} (xs : List ℕ) (k : ℕ) → k < length xs → AppendsExpr a b (SetConstant (take k xs)) → Grows b c (push b.line (pos (get_or xs k 0)) ∷ []) → Grows c d (bare c.line op.SET_ADD ∷ []) → AppendsExpr a d (SetConstant (take (k + 1) xs))
constant_more {a = a} {d = d} xs k h p q r =
    subst (λ l. AppendsExpr a d (SetConstant l)) (sym (take_more xs k 0 h)) (constant_push (take k xs) (get_or xs k 0) p q r)

-- an operation on sets
pub appends_on_sets : {a b c d : Code} (operation : SetOperation) (x y : Expr) → AppendsExpr a b x → AppendsExpr b c y → Grows c d (set_code c.line operation ∷ []) → AppendsExpr a d (OnSets operation x y)
appends_on_sets {a = a} operation x y p q r =
    whole_expr (OnSets operation x y) (p.code ++ (q.code ++ set_code a.line operation ∷ [])) (p.code, q.code, first_part x p (grows_then q.grows r), second_part y p.grows q r, refl) (after_parts (λ line. set_code line operation ∷ []) p.grows q.grows r)

-- the number of members
pub appends_card : {a b c : Code} (x : Expr) → AppendsExpr a b x → Grows b c (bare b.line op.CARD ∷ []) → AppendsExpr a c (Card x)
appends_card {a = a} x p q =
    whole_expr (Card x) (p.code ++ bare a.line op.CARD ∷ []) (p.code, first_part x p q, refl) (grows_at (λ line. bare line op.CARD ∷ []) p.grows q)

-- a value that is a member
pub appends_single : {a b c : Code} (x : Expr) → AppendsExpr a b x → Grows b c (bare b.line op.SET_ADD ∷ []) → AppendsDesignator a c (Single x)
appends_single {a = a} x p q =
    record { code = p.code ++ bare a.line op.SET_ADD ∷ []; is_code = (p.code, first_part x p q, refl); grows = grows_at (λ line. bare line op.SET_ADD ∷ []) p.grows q }

-- the first and the last of values that are
pub appends_range : {a b c d : Code} (x y : Expr) → AppendsExpr a b x → AppendsExpr b c y → Grows c d (bare c.line op.SET_SPAN ∷ []) → AppendsDesignator a d (Range x y)
appends_range {a = a} x y p q r =
    record {
      code = p.code ++ (q.code ++ bare a.line op.SET_SPAN ∷ []);
      is_code = (p.code, q.code, first_part x p (grows_then q.grows r), second_part y p.grows q r, refl);
      grows = after_parts (λ line. bare line op.SET_SPAN ∷ []) p.grows q.grows r;
    }

module _ (ts : List (List ℕ)) (rs : List Reference) (line : ℕ) where
  -- one more behind others
  designators_snoc : (at : ℕ) (given : List Designator) (a : Designator) (xs ys : List Instr) → AreDesignatorsCode ts rs line at (designators given) xs → IsDesignatorCode ts rs line (at + length xs) a ys → AreDesignatorsCode ts rs line at (designators (given ++ a ∷ [])) (xs ++ ys)
  designators_snoc at [] a xs ys h k =
      let here : at + length xs ≡ at = omega (arith, ap length h) in
      (ys, [], subst (λ n. IsDesignatorCode ts rs line n a ys) here k, refl, ap (λ l. l ++ ys) h ∙ sym (append-nil ys))
  designators_snoc at (b ∷ given) a xs ys h k =
      let there : at + length xs ≡ at + length h.0 + length h.1 = omega (arith, ap length h.4, length-append h.0 h.1) in
      (h.0, h.1 ++ ys, h.2, designators_snoc (at + length h.0) given a h.1 ys h.3 (subst (λ n. IsDesignatorCode ts rs line n a ys) there k), ap (λ l. l ++ ys) h.4 ∙ append_assoc h.0 h.1 ys)

-- none yet
pub set_none : {a b : Code} → Grows a b (bare a.line op.SET_NONE ∷ []) → AppendsExpr a b (SetOf (designators []))
set_none {a = a} g = whole_expr (SetOf (designators [])) (bare a.line op.SET_NONE ∷ []) ([], refl, refl) g

-- one after others
pub set_push : {a b c : Code} (given : List Designator) (x : Designator) → AppendsExpr a b (SetOf (designators given)) → AppendsDesignator b c x → AppendsExpr a c (SetOf (designators (given ++ x ∷ [])))
set_push {a = a} {b = b} {c = c} given x p q =
    let at = length a.instructions in
    let members = p.is_code in
    let xs = members.0 in
    let before : at + 1 + length xs ≡ at + length p.code = omega (arith, ap length members.2) in
    let here : length b.instructions ≡ at + 1 + length xs = omega (arith, grows_length p.grows, before) in
    let all : p.code ++ q.code ≡ bare a.line op.SET_NONE ∷ (xs ++ q.code) = ap (λ l. l ++ q.code) members.2 in
    whole_expr (SetOf (designators (given ++ x ∷ []))) (p.code ++ q.code) (
      xs ++ q.code,
      designators_snoc c.texts c.references a.line (at + 1) given x xs q.code
          (designators_code_stays b.texts c.texts b.references c.references a.line q.grows.texts.begins q.grows.references.begins (at + 1) (designators given) xs members.1)
          (subst (λ n. IsDesignatorCode c.texts c.references a.line n x q.code) here (subst (λ l. IsDesignatorCode c.texts c.references l (length b.instructions) x q.code) p.grows.line q.is_code)),
      all,
    ) (grows_then p.grows q.grows)

-- one more member designator of a slice
pub set_more : {X : Type 0} {a b c : Code} (view : X → Designator) (xs : List X) (k : ℕ) (x : X) → k < length xs → x ≡ get_or xs k x → AppendsExpr a b (SetOf (designators (map view (take k xs)))) → AppendsDesignator b c (view x) → AppendsExpr a c (SetOf (designators (map view (take (k + 1) xs))))
set_more {a = a} {c = c} view xs k x h e p q =
    subst (λ l. AppendsExpr a c (SetOf (designators l))) (ap (λ y. map view (take k xs) ++ view y ∷ []) e ∙ sym (map_more view xs k x h)) (set_push (map view (take k xs)) (view x) p q)

pub ruleset designator_forms = (appends_single, appends_range)

pub ruleset set_forms = (appends_on_sets, appends_card)
