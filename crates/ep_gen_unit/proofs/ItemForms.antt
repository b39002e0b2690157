-- The code of what is written, from that of its parts.
use Rattle.std.proofs.Common.{◌≡◌, ℕ, true, false, List, [], ◌∷◌, ◌++◌, map, ◌<◌, ◌+◌, take, length, get_or, refl, sym, ap, ◌∙◌, subst, append_assoc, append-nil, arith, length-append}
use Rattle.std.proofs.lemmas.List.{map_more}
use Rattle.ep_object.specs.declared.code.Instr.{Instr}
use Rattle.ep_object.specs.declared.code.Reference.{Reference}
use Rattle.ep_typed.specs.Trees.{Expr, Item, Plain, Wide}
use Rattle.ep_values.specs.declared.operations.Print.{Print}
use Rattle.ep_gen_expr.specs.ExprCode.{IsExprCode}
use Rattle.ep_gen_code.specs.Instructions.{bare, push}
use Rattle.ep_gen_code.specs.Growth.{Grows}
use Rattle.ep_gen_expr.specs.Growth.{AppendsExpr}
use Rattle.ep_gen_code.specs.declared.code.Code.{Code}
use Rattle.ep_gen_code.proofs.public.Landing.{grows_length}
use Rattle.ep_gen_code.proofs.public.Growing.{grows_none, grows_then, grows_at}
use Rattle.ep_gen_unit.specs.StmtCode.{IsItemCode, AreItemsCode, output_code, plain_code, before_width, wide_code, line_end_code}
use Rattle.ep_gen_unit.specs.StmtGrowth.{AppendsItem, AppendsItems}
use Rattle.ep_gen_unit.proofs.Following.{IsLater, later_grows, expr_later}
use Rattle.ep_gen_unit.proofs.StmtStays.{items_code_stays}
use Rattle.ep_object.specs.declared.op.TheConstants as op
use Rattle.ep_gen_unit.specs.declared.items.TheConstants as constant

-- the code of a part under the tables of the whole, and the line and the place at its start
part : {b c d : Code} {is : List Instr} (line at : ℕ) (x : Expr) → b.line ≡ line → length b.instructions ≡ at → (p : AppendsExpr b c x) → Grows c d is → IsExprCode d.texts d.references line at x p.code
part {b = b} {d = d} line at x e f p q = subst (λ n. IsExprCode d.texts d.references line n x p.code) f (subst (λ l. IsExprCode d.texts d.references l (length b.instructions) x p.code) e (expr_later _ (length b.instructions) x p.code (later_grows q) p.is_code))

pub appends_line_end : {a b c d e : Code} → Grows a b (output_code a.line ∷ []) → Grows b c (push b.line constant.LINE_END ∷ []) → Grows c d (bare c.line op.CHARS ∷ []) → Grows d e (bare d.line op.PUT ∷ []) → Grows a e (line_end_code a.line)
appends_line_end o p q r = grows_at (λ l. bare l op.PUT ∷ []) (grows_at (λ l. bare l op.CHARS ∷ []) (grows_at (λ l. push l constant.LINE_END ∷ []) o p) q) r

pub appends_plain : {a b c d e : Code} (print : Print) (x : Expr) → Grows a b (output_code a.line ∷ []) → AppendsExpr b c x → Grows c d (plain_code c.line print) → Grows d e (bare d.line op.PUT ∷ []) → AppendsItem a e (Plain print x)
appends_plain {a = a} print x o p q r =
    let end = grows_at (λ l. bare l op.PUT ∷ []) q r in
    let after = grows_at (λ l. plain_code l print ++ bare l op.PUT ∷ []) p.grows end in
    record {
      code = output_code a.line ∷ (p.code ++ (plain_code a.line print ++ bare a.line op.PUT ∷ []));
      is_code = (p.code, part a.line (length a.instructions + 1) x o.line (grows_length o) p end, refl);
      grows = grows_at (λ l. p.code ++ (plain_code l print ++ bare l op.PUT ∷ [])) o after;
    }

pub appends_wide : {a b c d e f g : Code} (print : Print) (x w : Expr) → Grows a b (output_code a.line ∷ []) → AppendsExpr b c x → Grows c d (before_width c.line print) → AppendsExpr d e w → Grows e f (wide_code e.line print ∷ []) → Grows f g (bare f.line op.PUT ∷ []) → AppendsItem a g (Wide print x w)
appends_wide {a = a} {c = c} {d = d} print x w o p q r s t =
    let end = grows_at (λ l. bare l op.PUT ∷ []) s t in
    let width = grows_at (λ l. wide_code l print ∷ bare l op.PUT ∷ []) r.grows end in
    let before = grows_at (λ l. r.code ++ wide_code l print ∷ bare l op.PUT ∷ []) q width in
    let there : length (before_width c.line print) ≡ length (before_width a.line print) = ap (λ l. length (before_width l print)) (p.grows.line ∙ o.line) in
    let at_width : length d.instructions ≡ length a.instructions + 1 + length p.code + length (before_width a.line print) = omega (arith, grows_length o, grows_length p.grows, grows_length q, there) in
    let after = grows_at (λ l. before_width l print ++ (r.code ++ wide_code l print ∷ bare l op.PUT ∷ [])) p.grows before in
    record {
      code = output_code a.line ∷ (p.code ++ (before_width a.line print ++ (r.code ++ wide_code a.line print ∷ bare a.line op.PUT ∷ [])));
      is_code = (p.code, r.code, part a.line (length a.instructions + 1) x o.line (grows_length o) p before, part a.line (length a.instructions + 1 + length p.code + length (before_width a.line print)) w (q.line ∙ p.grows.line ∙ o.line) at_width r end, refl);
      grows = grows_at (λ l. p.code ++ (before_width l print ++ (r.code ++ wide_code l print ∷ bare l op.PUT ∷ []))) o after;
    }

module _ (ts : List (List ℕ)) (rs : List Reference) (line : ℕ) where
  items_snoc : (at : ℕ) (items : List Item) (i : Item) (xs ys : List Instr) → AreItemsCode ts rs line at items false xs → IsItemCode ts rs line (at + length xs) i ys → AreItemsCode ts rs line at (items ++ i ∷ []) false (xs ++ ys)
  items_snoc at [] i xs ys h k =
      let here : at + length xs ≡ at = omega (arith, ap length h) in
      (ys, [], subst (λ n. IsItemCode ts rs line n i ys) here k, refl, ap (λ l. l ++ ys) h ∙ sym (append-nil ys))
  items_snoc at (j ∷ items) i xs ys h k =
      let there : at + length xs ≡ at + length h.0 + length h.1 = omega (arith, ap length h.4, length-append h.0 h.1) in
      (h.0, h.1 ++ ys, h.2, items_snoc (at + length h.0) items i h.1 ys h.3 (subst (λ n. IsItemCode ts rs line n i ys) there k), ap (λ l. l ++ ys) h.4 ∙ append_assoc h.0 h.1 ys)

  items_ended : (at : ℕ) (items : List Item) (xs : List Instr) → AreItemsCode ts rs line at items false xs → AreItemsCode ts rs line at items true (xs ++ line_end_code line)
  items_ended at [] xs h = ap (λ l. l ++ line_end_code line) h
  items_ended at (j ∷ items) xs h = (h.0, h.1 ++ line_end_code line, h.2, items_ended (at + length h.0) items h.1 h.3, ap (λ l. l ++ line_end_code line) h.4 ∙ append_assoc h.0 h.1 (line_end_code line))

items_later : {a b : Code} (line at : ℕ) (items : List Item) (is : List Instr) → IsLater a b → AreItemsCode a.texts a.references line at items false is → AreItemsCode b.texts b.references line at items false is
items_later {a = a} {b = b} line at items is p h = items_code_stays a.texts b.texts a.references b.references p.texts.begins p.references.begins line at items false is h

pub items_none : (a : Code) → AppendsItems a a [] false
items_none a = record { code = []; is_code = refl; grows = grows_none a }

items_push : {a b c : Code} (items : List Item) (i : Item) → AppendsItems a b items false → AppendsItem b c i → AppendsItems a c (items ++ i ∷ []) false
items_push {a = a} {b = b} {c = c} items i p q = record {
  code = p.code ++ q.code;
  is_code = items_snoc c.texts c.references a.line (length a.instructions) items i p.code q.code (items_later a.line (length a.instructions) items p.code (later_grows q.grows) p.is_code)
      (subst (λ n. IsItemCode c.texts c.references a.line n i q.code) (grows_length p.grows) (subst (λ l. IsItemCode c.texts c.references l (length b.instructions) i q.code) p.grows.line q.is_code));
  grows = grows_then p.grows q.grows;
}

-- one more item of a slice
pub items_more : {X : Type 0} {a b c : Code} (view : X → Item) (xs : List X) (k : ℕ) (x : X) → k < length xs → x ≡ get_or xs k x → AppendsItems a b (map view (take k xs)) false → AppendsItem b c (view x) → AppendsItems a c (map view (take (k + 1) xs)) false
items_more {a = a} {c = c} view xs k x h e p q =
    subst (λ l. AppendsItems a c l false) (ap (λ y. map view (take k xs) ++ view y ∷ []) e ∙ sym (map_more view xs k x h)) (items_push (map view (take k xs)) (view x) p q)

pub items_end : {a b c : Code} (items : List Item) → AppendsItems a b items false → Grows b c (line_end_code b.line) → AppendsItems a c items true
items_end {a = a} {c = c} items p q = record {
  code = p.code ++ line_end_code a.line;
  is_code = items_ended c.texts c.references a.line (length a.instructions) items p.code (items_later a.line (length a.instructions) items p.code (later_grows q) p.is_code);
  grows = grows_at line_end_code p.grows q;
}
