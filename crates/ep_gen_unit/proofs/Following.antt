-- Code that follows code, and jumps that get their goals.
use Rattle.std.proofs.Common.{◌≡◌, ℕ, pos, ◌+◌, List, [], ◌∷◌, ◌++◌, length, slice_set, refl, sym, ap, ◌∙◌, subst, append_assoc, append-nil, length-append}
use Rattle.ep_object.specs.declared.code.Instr.{Instr}
use Rattle.ep_typed.specs.Trees.{Expr, Stmt}
use Rattle.ep_gen_expr.specs.ExprCode.{IsExprCode}
use Rattle.ep_gen_code.specs.Instructions.{instr}
use Rattle.ep_gen_code.specs.Growth.{TableGrows, Grows}
use Rattle.ep_gen_code.specs.Jumps.{landed}
use Rattle.ep_gen_code.specs.declared.code.Code.{Code}
use Rattle.ep_gen_code.proofs.public.Landing.{set_after, set_length}
use Rattle.ep_gen_code.proofs.public.Pushed.{table_same, table_then}
use Rattle.ep_gen_expr.proofs.public.Stays.{expr_code_stays}
use Rattle.ep_gen_unit.specs.StmtCode.{IsStmtCode}
use Rattle.ep_gen_unit.specs.StmtGrowth.{Follows}
use Rattle.ep_gen_unit.proofs.StmtStays.{stmt_code_stays}

-- the tables have new items at their ends
pub record IsLater (old new : Code) : Type 0 where
  pub texts : TableGrows old.texts new.texts
  pub references : TableGrows old.references new.references

pub later_then : {a b c : Code} → IsLater a b → IsLater b c → IsLater a c
later_then p q = record { texts = table_then p.texts q.texts; references = table_then p.references q.references }

pub later_grows : {a b : Code} {is : List Instr} → Grows a b is → IsLater a b
later_grows p = record { texts = p.texts; references = p.references }

pub later_follows : {a b : Code} {is : List Instr} → Follows a b is → IsLater a b
later_follows p = record { texts = p.texts; references = p.references }

pub later_landed : {a b : Code} (k op line : ℕ) → b ≡ landed a k op line → IsLater a b
later_landed {a = a} k op line e = subst (λ c. IsLater a c) (sym e) (record { texts = table_same a.texts; references = table_same a.references })

pub expr_later : {a b : Code} (line at : ℕ) (x : Expr) (is : List Instr) → IsLater a b → IsExprCode a.texts a.references line at x is → IsExprCode b.texts b.references line at x is
expr_later {a = a} {b = b} line at x is p h = expr_code_stays a.texts b.texts a.references b.references line p.texts.begins p.references.begins at x is h

pub stmt_later : {a b : Code} (at : ℕ) (s : Stmt) (is : List Instr) → IsLater a b → IsStmtCode a.texts a.references at s is → IsStmtCode b.texts b.references at s is
stmt_later {a = a} {b = b} at s is p h = stmt_code_stays a.texts b.texts a.references b.references p.texts.begins p.references.begins at s is h

pub follows_none : (a : Code) → Follows a a []
follows_none a = record { instructions = sym (append-nil a.instructions); texts = table_same a.texts; references = table_same a.references; constant_types = refl }

pub follows_grows : {a b : Code} {is : List Instr} → Grows a b is → Follows a b is
follows_grows p = record { instructions = p.instructions; texts = p.texts; references = p.references; constant_types = p.constant_types }

-- a line that is set changes nothing of that
pub follows_line : {b : Code} {is : List Instr} (a : Code) (line : ℕ) → Follows (record a { line = line }) b is → Follows a b is
follows_line a line p = record { instructions = p.instructions; texts = p.texts; references = p.references; constant_types = p.constant_types }

pub follows_then : {a b c : Code} {is js : List Instr} → Follows a b is → Follows b c js → Follows a c (is ++ js)
follows_then {a = a} {is = is} {js = js} p q = record {
  instructions = q.instructions ∙ ap (λ l. l ++ js) p.instructions ∙ append_assoc a.instructions is js;
  texts = table_then p.texts q.texts;
  references = table_then p.references q.references;
  constant_types = q.constant_types ∙ p.constant_types;
}

-- after an instruction in the middle
pub follows_middle : {a b c : Code} (xs : List Instr) (i : Instr) (ys zs : List Instr) → Follows a b (xs ++ i ∷ ys) → Follows b c zs → Follows a c (xs ++ i ∷ (ys ++ zs))
follows_middle {a = a} {c = c} xs i ys zs p q = subst (λ l. Follows a c l) (append_assoc xs (i ∷ ys) zs) (follows_then p q)

-- a jump lands: it stands in place of the filler
pub follows_landed : {a b c : Code} (xs : List Instr) (i : Instr) (ys : List Instr) (k op line : ℕ) → Follows a b (xs ++ i ∷ ys) → k ≡ length a.instructions + length xs → c ≡ landed b k op line → Follows a c (xs ++ instr op (pos (length b.instructions)) 0 line ∷ ys)
follows_landed {a = a} {b = b} {c = c} xs i ys k op line p at e =
    let j = instr op (pos (length b.instructions)) 0 line in
    subst (λ d. Follows a d (xs ++ j ∷ ys)) (sym e) (record {
      instructions = ap (λ l. slice_set l k j) p.instructions ∙ set_after a.instructions xs i j ys k at;
      texts = p.texts;
      references = p.references;
      constant_types = p.constant_types;
    })

-- how long code is
pub grown_length : {a b : Code} {is : List Instr} → Follows a b is → length b.instructions ≡ length a.instructions + length is
grown_length {a = a} {is = is} p = ap length p.instructions ∙ length-append a.instructions is

pub landed_length : {b : Code} (a : Code) (k op line : ℕ) → b ≡ landed a k op line → length b.instructions ≡ length a.instructions
landed_length a k op line e = ap (λ (c : Code). length c.instructions) e ∙ set_length a.instructions k (instr op (pos (length a.instructions)) 0 line)
