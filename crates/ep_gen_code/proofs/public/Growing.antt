-- Code that grows by parts, one after another.
use Rattle.std.proofs.Common.{ℕ, ℤ, Result, Ok, Err, OnOk, List, [], ◌∷◌, ◌++◌, refl, sym, ap, ◌∙◌, subst, append_assoc, append-nil}
use Rattle.ep_object.specs.declared.code.Instr.{Instr}
use Rattle.ep_gen_code.specs.Growth.{Grows}
use Rattle.ep_gen_code.specs.Instructions.{push}
use Rattle.ep_gen_code.specs.declared.code.Code.{Code}
use Rattle.ep_gen_code.proofs.public.Pushed.{table_same, table_then}

pub grows_none : (a : Code) → Grows a a []
grows_none a = record { instructions = sym (append-nil a.instructions); texts = table_same a.texts; references = table_same a.references; constant_types = refl; line = refl }

pub grows_then : {a b c : Code} {is js : List Instr} → Grows a b is → Grows b c js → Grows a c (is ++ js)
grows_then {a = a} {is = is} {js = js} p q = record {
  instructions = q.instructions ∙ ap (λ l. l ++ js) p.instructions ∙ append_assoc a.instructions is js;
  texts = table_then p.texts q.texts;
  references = table_then p.references q.references;
  constant_types = q.constant_types ∙ p.constant_types;
  line = q.line ∙ p.line;
}

-- instructions that are determined by the line
pub grows_at : (f : ℕ → List Instr) {a b c : Code} {is : List Instr} → Grows a b is → Grows b c (f b.line) → Grows a c (is ++ f a.line)
grows_at f {a = a} {b = b} {c = c} {is = is} p q = subst (λ line. Grows a c (is ++ f line)) p.line (grows_then p q)

-- two numbers
pub grows_pair : {a b c : Code} (low high : ℤ) → Grows a b (push a.line low ∷ []) → Grows b c (push b.line high ∷ []) → Grows a c (push a.line low ∷ push a.line high ∷ [])
grows_pair low high p q = grows_at (λ line. push line high ∷ []) p q

-- what comes after two parts
pub after_two : (f g : ℕ → List Instr) {a b c d : Code} {is : List Instr} → Grows a b is → Grows b c (f b.line) → Grows c d (g c.line) → Grows a d (is ++ (f a.line ++ g a.line))
after_two f g {a = a} {d = d} {is = is} p q r = subst (λ l. Grows a d l) (append_assoc is (f a.line) (g a.line)) (grows_at g (grows_at f p q) r)

-- what comes after two operands
pub after_parts : (f : ℕ → List Instr) {a b c d : Code} {is js : List Instr} → Grows a b is → Grows b c js → Grows c d (f c.line) → Grows a d (is ++ (js ++ f a.line))
after_parts f {a = a} {d = d} {is = is} {js = js} p q r = subst (λ l. Grows a d l) (append_assoc is js (f a.line)) (grows_at f (grows_then p q) r)

-- a consequence of what holds on success
pub on_ok : {T E : Type 0} {P Q : Type 0} (r : Result T E) → (P → Q) → OnOk r P → OnOk r Q
on_ok (Ok x) f h = f h
on_ok (Err e) f h = tt
