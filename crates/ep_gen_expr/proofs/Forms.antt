-- The code of each form, from that of its parts.
use Rattle.std.proofs.Common.{◌≡◌, ℕ, ℤ, pos, ◌+◌, ◌<◌, ◌-◌, ◌^◌, length, slice_get, Some, arith, Bool, List, [], ◌∷◌, ◌++◌, refl, sym, ap, ◌∙◌, subst, append_assoc, append-nil, length-append}
use Rattle.ep_object.specs.declared.code.Instr.{Instr}
use Rattle.ep_object.specs.declared.code.Reference.{Reference}
use Rattle.ep_values.specs.Operations.{last_char}
use Rattle.ep_typed.specs.Trees.{Place, Variable, Own, Standard, Indexed, Field, Variant, Expr, Constant, Text, Read, One, Two, Short, Step, IndexedValue, FieldValue, VariantValue}
use Rattle.ep_values.specs.declared.operations.Unary.{Unary}
use Rattle.ep_values.specs.declared.operations.Unary.TheVariants as unary
use Rattle.ep_values.specs.declared.operations.Binary.{Binary}
use Rattle.ep_values.specs.declared.operations.ShortOperation.{ShortOperation}
use Rattle.ep_values.specs.declared.operations.ShortOperation.TheVariants as short
use Rattle.ep_typed.specs.declared.tree.Selection.{Selection}
use Rattle.ep_typed.specs.declared.tree.StandardFile.{StandardFile}
use Rattle.ep_gen_expr.specs.ExprCode.{IsPlaceCode, IsExprCode, standard_code, one_code, two_code, keep_code, count_code, step_code, variant_code, variant_part_code}
use Rattle.ep_gen_code.specs.Instructions.{instr, reference, push, bare}
use Rattle.ep_gen_code.specs.Growth.{IsNowhere, Grows}
use Rattle.ep_gen_expr.specs.Growth.{NumbersText, NumbersReference, KeepsOperand, AppendsPlace, AppendsExpr}
use Rattle.ep_gen_code.specs.Jumps.{LeavesHole, landed}
use Rattle.ep_gen_code.specs.declared.code.Code.{Code}
use Rattle.ep_gen_code.proofs.public.Landing.{grows_length, grows_landed}
use Rattle.ep_gen_code.proofs.public.Pushed.{table_same, table_pushed, get_later, get_last}
use Rattle.ep_gen_code.proofs.public.Growing.{after_parts, after_two, grows_at, grows_none, grows_then}
use Rattle.ep_gen_expr.proofs.public.Stays.{place_code_stays, expr_code_stays, place_code_short, expr_code_short}
use Rattle.ep_object.specs.declared.op.TheConstants as op
use Rattle.ep_values.specs.declared.run_error.TheConstants as run_error

-- what leaves a value as it is
pub grows_kept : {a b c : Code} → Grows a b (bare a.line op.DUP ∷ []) → Grows b c (bare b.line op.DROP ∷ []) → Grows a c (bare a.line op.DUP ∷ bare a.line op.DROP ∷ [])
grows_kept p q = grows_at (λ line. bare line op.DROP ∷ []) p q

-- what checks a char
pub grows_character : {a b c : Code} → Grows a b (push a.line (pos 0) ∷ push a.line (pos last_char) ∷ []) → Grows b c (instr op.CHECK (pos run_error.SUCCESSOR) 0 b.line ∷ []) → Grows a c (one_code a.line unary.Character)
grows_character p q = grows_at (λ line. instr op.CHECK (pos run_error.SUCCESSOR) 0 line ∷ []) p q

-- what steps
pub grows_step : {a b c d : Code} (down : Bool) (low high : ℤ) → Grows a b (count_code a.line down) → Grows b c (push b.line low ∷ push b.line high ∷ []) → Grows c d (bare c.line op.STEP ∷ []) → Grows a d (step_code a.line down low high)
grows_step down low high p q r = after_two (λ line. push line low ∷ push line high ∷ []) (λ line. bare line op.STEP ∷ []) p q r

-- the code of a part under the tables of the whole
place_part : {a b c : Code} {is : List Instr} (x : Place) (p : AppendsPlace a b x) → Grows b c is → IsPlaceCode c.texts c.references a.line (length a.instructions) x p.code
place_part {a = a} {b = b} {c = c} x p q = place_code_stays b.texts c.texts b.references c.references a.line q.texts.begins q.references.begins (length a.instructions) x p.code p.is_code

pub first_part : {a b c : Code} {is : List Instr} (x : Expr) (p : AppendsExpr a b x) → Grows b c is → IsExprCode c.texts c.references a.line (length a.instructions) x p.code
first_part {a = a} {b = b} {c = c} x p q = expr_code_stays b.texts c.texts b.references c.references a.line q.texts.begins q.references.begins (length a.instructions) x p.code p.is_code

pub second_part : {a b c d : Code} {is js : List Instr} (x : Expr) → Grows a b is → (p : AppendsExpr b c x) → Grows c d js → IsExprCode d.texts d.references a.line (length a.instructions + length is) x p.code
second_part {a = a} {b = b} {d = d} x g p q =
    subst (λ at. IsExprCode d.texts d.references a.line at x p.code) (grows_length g) (subst (λ line. IsExprCode d.texts d.references line (length b.instructions) x p.code) g.line (first_part x p q))

-- the code of an expression, which is short
pub whole_expr : {a b : Code} (x : Expr) (code : List Instr) → IsExprCode b.texts b.references a.line (length a.instructions) x code → Grows a b code → AppendsExpr a b x
whole_expr {a = a} {b = b} x code h g = record { code = code; is_code = h; grows = g; short = omega (arith, expr_code_short b.texts b.references a.line (length a.instructions) x code h) }

whole_place : {a b : Code} (x : Place) (code : List Instr) → IsPlaceCode b.texts b.references a.line (length a.instructions) x code → Grows a b code → AppendsPlace a b x
whole_place {a = a} {b = b} x code h g = record { code = code; is_code = h; grows = g; short = place_code_short b.texts b.references a.line (length a.instructions) x code h }

pub appends_variable : {a b c : Code} (unit : List ℕ) (number k : ℕ) → NumbersReference a b (reference unit number) k → Grows b c (instr op.UNIT (pos k) 0 b.line ∷ []) → AppendsPlace a c (Variable unit number)
appends_variable {a = a} unit number k p q =
    whole_place (Variable unit number) (instr op.UNIT (pos k) 0 a.line ∷ []) (k, get_later k (reference unit number) q.references.begins p.there, refl) (grows_at (λ line. instr op.UNIT (pos k) 0 line ∷ []) p.grows q)

pub appends_own : {a b : Code} (levels number : ℕ) → Grows a b (instr op.SLOT (pos number) levels a.line ∷ []) → AppendsPlace a b (Own levels number)
appends_own {a = a} levels number g = whole_place (Own levels number) (instr op.SLOT (pos number) levels a.line ∷ []) refl g

pub appends_standard : {a b : Code} (file : StandardFile) → Grows a b (standard_code a.line file ∷ []) → AppendsPlace a b (Standard file)
appends_standard {a = a} file g = whole_place (Standard file) (standard_code a.line file ∷ []) refl g

pub appends_constant : {a b : Code} (z : ℤ) → Grows a b (push a.line z ∷ []) → AppendsExpr a b (Constant z)
appends_constant {a = a} z g = whole_expr (Constant z) (push a.line z ∷ []) refl g

pub appends_text : {a b c : Code} (bytes : List ℕ) (k : ℕ) → NumbersText a b bytes k → Grows b c (instr op.TEXT (pos k) 0 b.line ∷ []) → AppendsExpr a c (Text bytes)
appends_text {a = a} bytes k p q =
    whole_expr (Text bytes) (instr op.TEXT (pos k) 0 a.line ∷ []) (k, get_later k bytes q.texts.begins p.there, refl) (grows_at (λ line. instr op.TEXT (pos k) 0 line ∷ []) p.grows q)

pub appends_read : {a b c : Code} (place : Place) → AppendsPlace a b place → Grows b c (bare b.line op.LOAD ∷ []) → AppendsExpr a c (Read place)
appends_read {a = a} place p q =
    whole_expr (Read place) (p.code ++ bare a.line op.LOAD ∷ []) (p.code, place_part place p q, refl) (grows_at (λ line. bare line op.LOAD ∷ []) p.grows q)

pub appends_one : {a b c : Code} (operation : Unary) (x : Expr) → AppendsExpr a b x → Grows b c (one_code b.line operation) → AppendsExpr a c (One operation x)
appends_one {a = a} operation x p q =
    whole_expr (One operation x) (p.code ++ one_code a.line operation) (p.code, first_part x p q, refl) (grows_at (λ line. one_code line operation) p.grows q)

pub appends_indexed : {a b c d : Code} (array : Place) (index : Expr) → AppendsPlace a b array → AppendsExpr b c index → Grows c d (bare c.line op.INDEX ∷ []) → AppendsPlace a d (Indexed array index)
appends_indexed {a = a} array index p q r =
    whole_place (Indexed array index) (p.code ++ (q.code ++ bare a.line op.INDEX ∷ [])) (p.code, q.code, place_part array p (grows_then q.grows r), second_part index p.grows q r, refl) (after_parts (λ line. bare line op.INDEX ∷ []) p.grows q.grows r)

pub appends_field : {a b c : Code} (p : Place) (number : ℕ) → AppendsPlace a b p → Grows b c (instr op.FIELD (pos number) 0 b.line ∷ []) → AppendsPlace a c (Field p number)
appends_field {a = a} x number p q =
    whole_place (Field x number) (p.code ++ instr op.FIELD (pos number) 0 a.line ∷ []) (p.code, place_part x p q, refl) (grows_at (λ line. instr op.FIELD (pos number) 0 line ∷ []) p.grows q)

pub appends_variant : {a b c : Code} (p : Place) (s : Selection) (number : ℕ) → AppendsPlace a b p → Grows b c (variant_code b.line (length b.instructions) s number) → AppendsPlace a c (Variant p s number)
appends_variant {a = a} {b = b} {c = c} x s number p q =
    whole_place (Variant x s number) (p.code ++ variant_code a.line (length a.instructions + length p.code) s number) (p.code, place_part x p q, refl)
    (subst (λ n. Grows a c (p.code ++ variant_code a.line n s number)) (grows_length p.grows) (grows_at (λ line. variant_code line (length b.instructions) s number) p.grows q))

pub appends_two : {a b c d : Code} (operation : Binary) (x y : Expr) → AppendsExpr a b x → AppendsExpr b c y → Grows c d (two_code c.line operation ∷ []) → AppendsExpr a d (Two operation x y)
appends_two {a = a} operation x y p q r =
    whole_expr (Two operation x y) (p.code ++ (q.code ++ two_code a.line operation ∷ [])) (p.code, q.code, first_part x p (grows_then q.grows r), second_part y p.grows q r, refl) (after_parts (λ line. two_code line operation ∷ []) p.grows q.grows r)

pub appends_indexed_value : {a b c d : Code} (array index : Expr) → AppendsExpr a b array → AppendsExpr b c index → Grows c d (bare c.line op.INDEX ∷ []) → AppendsExpr a d (IndexedValue array index)
appends_indexed_value {a = a} array index p q r =
    whole_expr (IndexedValue array index) (p.code ++ (q.code ++ bare a.line op.INDEX ∷ [])) (p.code, q.code, first_part array p (grows_then q.grows r), second_part index p.grows q r, refl) (after_parts (λ line. bare line op.INDEX ∷ []) p.grows q.grows r)

pub appends_field_value : {a b c : Code} (x : Expr) (number : ℕ) → AppendsExpr a b x → Grows b c (instr op.FIELD (pos number) 0 b.line ∷ []) → AppendsExpr a c (FieldValue x number)
appends_field_value {a = a} x number p q =
    whole_expr (FieldValue x number) (p.code ++ instr op.FIELD (pos number) 0 a.line ∷ []) (p.code, first_part x p q, refl) (grows_at (λ line. instr op.FIELD (pos number) 0 line ∷ []) p.grows q)

pub appends_variant_value : {a b c : Code} (x : Expr) (s : Selection) (number : ℕ) → AppendsExpr a b x → Grows b c (variant_part_code b.line (length b.instructions) s number) → AppendsExpr a c (VariantValue x s number)
appends_variant_value {a = a} {b = b} {c = c} x s number p q =
    whole_expr (VariantValue x s number) (p.code ++ variant_part_code a.line (length a.instructions + length p.code) s number) (p.code, first_part x p q, refl)
    (subst (λ n. Grows a c (p.code ++ variant_part_code a.line n s number)) (grows_length p.grows) (grows_at (λ line. variant_part_code line (length b.instructions) s number) p.grows q))

-- what gives an operand twice, the upper one negated
pub grows_twice : {a b c : Code} → Grows a b (bare a.line op.DUP ∷ []) → Grows b c (bare b.line op.NOT ∷ []) → Grows a c (keep_code a.line short.OrElse)
grows_twice p q = grows_at (λ line. bare line op.NOT ∷ []) p q

-- an operand is kept where it decides
pub keeps_operand : {a b c d : Code} (operation : ShortOperation) (k : ℕ) → Grows a b (keep_code a.line operation) → LeavesHole b c k → Grows c d (bare c.line op.DROP ∷ []) → KeepsOperand a d operation k
keeps_operand operation k p q r = record {
  filler = q.filler;
  grows = grows_at (λ line. q.filler ∷ bare line op.DROP ∷ []) p (grows_at (λ line. bare line op.DROP ∷ []) q.grows r);
  is_place = q.is_length ∙ grows_length p;
}

-- its filler is within the code that follows it
pub kept_within : {b c d : Code} (operation : ShortOperation) (k : ℕ) (y : Expr) → KeepsOperand b c operation k → AppendsExpr c d y → k < length d.instructions
kept_within {b = b} operation k y q r =
    omega (arith, q.is_place, grows_length q.grows, length-append (keep_code b.line operation) (q.filler ∷ bare b.line op.DROP ∷ []), grows_length r.grows)

-- what an operation has whose right operand may not be evaluated
abbrev short_body : ℕ → ShortOperation → List Instr → List Instr → ℕ → List Instr
short_body line operation xs ys end = xs ++ (keep_code line operation ++ instr op.JUMP_FALSE (pos end) 0 line ∷ bare line op.DROP ∷ ys)

-- the jump over the right operand lands
short_grows : {a b c d : Code} {xs ys : List Instr} (operation : ShortOperation) (k : ℕ) → Grows a b xs → KeepsOperand b c operation k → Grows c d ys → Grows a (landed d k op.JUMP_FALSE d.line) (short_body a.line operation xs ys (length d.instructions))
short_grows {a = a} {b = b} {c = c} {d = d} {xs = xs} {ys = ys} operation k p q r =
    let ks = keep_code a.line operation in
    let i = q.filler in
    let drop = bare a.line op.DROP in
    let jump = instr op.JUMP_FALSE (pos (length d.instructions)) 0 a.line in
    let to_d : Grows a d ((xs ++ (ks ++ i ∷ drop ∷ [])) ++ ys) = grows_then (grows_at (λ line. keep_code line operation ++ i ∷ bare line op.DROP ∷ []) p q.grows) r in
    let seam : (xs ++ (ks ++ i ∷ drop ∷ [])) ++ ys ≡ (xs ++ ks) ++ i ∷ drop ∷ ys =
    append_assoc xs (ks ++ i ∷ drop ∷ []) ys ∙ (ap (λ l. xs ++ l) (append_assoc ks (i ∷ drop ∷ []) ys) ∙ sym (append_assoc xs ks (i ∷ drop ∷ ys))) in
    let kept : length (keep_code b.line operation) ≡ length ks = ap (λ line. length (keep_code line operation)) p.line in
    let at : k ≡ length a.instructions + length (xs ++ ks) = omega (arith, q.is_place, grows_length p, kept, length-append xs ks) in
    let same : d.line ≡ a.line = r.line ∙ (q.grows.line ∙ p.line) in
    subst (λ l. Grows a (landed d k op.JUMP_FALSE d.line) l) (append_assoc xs ks (jump ∷ drop ∷ ys))
    (subst (λ line. Grows a (landed d k op.JUMP_FALSE d.line) ((xs ++ ks) ++ instr op.JUMP_FALSE (pos (length d.instructions)) 0 line ∷ drop ∷ ys)) same
    (grows_landed (xs ++ ks) i (drop ∷ ys) k op.JUMP_FALSE d.line (subst (λ l. Grows a d l) seam to_d) at))

pub appends_short : {a b c d e : Code} (operation : ShortOperation) (x y : Expr) (k : ℕ) → AppendsExpr a b x → KeepsOperand b c operation k → AppendsExpr c d y → e ≡ landed d k op.JUMP_FALSE d.line → AppendsExpr a e (Short operation x y)
appends_short {a = a} {b = b} {c = c} {d = d} operation x y k p q r l =
    let xs = p.code in
    let ys = r.code in
    let at = length a.instructions in
    let right = at + length xs + length (keep_code a.line operation) + 2 in
    let kept : length (keep_code b.line operation) ≡ length (keep_code a.line operation) = ap (λ line. length (keep_code line operation)) p.grows.line in
    let at_right : length c.instructions ≡ right =
    omega (arith, grows_length p.grows, grows_length q.grows, length-append (keep_code b.line operation) (q.filler ∷ bare b.line op.DROP ∷ []), kept) in
    let at_end : length d.instructions ≡ right + length ys = omega (arith, at_right, grows_length r.grows) in
    let same : c.line ≡ a.line = q.grows.line ∙ p.grows.line in
    subst (λ f. AppendsExpr a f (Short operation x y)) (sym l) (whole_expr {b = landed d k op.JUMP_FALSE d.line} (Short operation x y) (short_body a.line operation xs ys (right + length ys)) (
      xs,
      ys,
      first_part x p (grows_then q.grows r.grows),
      subst (λ n. IsExprCode d.texts d.references a.line n y ys) at_right (subst (λ line. IsExprCode d.texts d.references line (length c.instructions) y ys) same r.is_code),
      refl,
    )
    (subst (λ n. Grows a (landed d k op.JUMP_FALSE d.line) (short_body a.line operation xs ys n)) at_end (short_grows operation k p.grows q r.grows)))

pub appends_step : {a b c d : Code} (down : Bool) (low high : ℤ) (x n : Expr) → AppendsExpr a b x → AppendsExpr b c n → Grows c d (step_code c.line down low high) → AppendsExpr a d (Step down low high x n)
appends_step {a = a} down low high x n p q r =
    whole_expr (Step down low high x n) (p.code ++ (q.code ++ step_code a.line down low high)) (p.code, q.code, first_part x p (grows_then q.grows r), second_part n p.grows q r, refl) (after_parts (λ line. step_code line down low high) p.grows q.grows r)

-- a new text at the end of the table
pub new_text : (a : Code) (ts : List (List ℕ)) (bytes : List ℕ) (k : ℕ) → IsNowhere a.texts bytes → k ≡ length a.texts → k < 2 ^ 32 - 1 → ts ≡ a.texts ++ bytes ∷ [] → NumbersText a (record a { texts = ts }) bytes k
new_text a ts bytes k new at few e = record {
  there = ap (λ n. slice_get ts n) at ∙ ap (λ l. slice_get l (length a.texts)) e ∙ get_last a.texts bytes;
  grows = record { instructions = sym (append-nil a.instructions); texts = table_pushed new (omega arith) e; references = table_same a.references; constant_types = refl; line = refl };
}

-- and a new reference
pub new_reference : (a : Code) (rs : List Reference) (r : Reference) (k : ℕ) → IsNowhere a.references r → k ≡ length a.references → k < 2 ^ 32 - 1 → rs ≡ a.references ++ r ∷ [] → NumbersReference a (record a { references = rs }) r k
new_reference a rs r k new at few e = record {
  there = ap (λ n. slice_get rs n) at ∙ ap (λ l. slice_get l (length a.references)) e ∙ get_last a.references r;
  grows = record { instructions = sym (append-nil a.instructions); texts = table_same a.texts; references = table_pushed new (omega arith) e; constant_types = refl; line = refl };
}

-- one that is there
pub numbers_old_text : (a : Code) (bytes : List ℕ) (k : ℕ) → slice_get a.texts k ≡ Some bytes → NumbersText a a bytes k
numbers_old_text a bytes k there = record { there = there; grows = grows_none a }

pub numbers_old_reference : (a : Code) (r : Reference) (k : ℕ) → slice_get a.references k ≡ Some r → NumbersReference a a r k
numbers_old_reference a r k there = record { there = there; grows = grows_none a }

pub ruleset numbers = (numbers_old_text, numbers_old_reference)

pub ruleset forms = (appends_variable, appends_own, appends_standard, appends_indexed, appends_field, appends_variant, appends_constant, appends_text, appends_read, appends_one, appends_two, appends_step, appends_indexed_value, appends_field_value, appends_variant_value)
