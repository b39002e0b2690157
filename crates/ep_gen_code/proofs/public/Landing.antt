-- Jumps ahead that get their goals, and how long code is.
use Rattle.std.proofs.Common.{◌≡◌, ℕ, zero, suc, pos, ◌+◌, List, [], ◌∷◌, ◌++◌, length, slice_set, refl, sym, ap, ◌∙◌, append_assoc, length-append}
use Rattle.ep_object.specs.declared.code.Instr.{Instr}
use Rattle.ep_gen_code.specs.Instructions.{instr}
use Rattle.ep_gen_code.specs.Growth.{Grows}
use Rattle.ep_gen_code.specs.Jumps.{landed}
use Rattle.ep_gen_code.specs.declared.code.Code.{Code}

set_middle : (xs : List Instr) (i j : Instr) (ys : List Instr) → slice_set (xs ++ i ∷ ys) (length xs) j ≡ xs ++ j ∷ ys
set_middle [] i j ys = refl
set_middle (x ∷ xs) i j ys = ap (λ l. x ∷ l) (set_middle xs i j ys)

-- an instruction behind others is set
pub set_after : (front xs : List Instr) (i j : Instr) (ys : List Instr) (k : ℕ) → k ≡ length front + length xs → slice_set (front ++ (xs ++ i ∷ ys)) k j ≡ front ++ (xs ++ j ∷ ys)
set_after front xs i j ys k e =
    let at : k ≡ length (front ++ xs) = e ∙ sym (length-append front xs) in
    ap (λ l. slice_set l k j) (sym (append_assoc front xs (i ∷ ys))) ∙ ap (λ n. slice_set ((front ++ xs) ++ i ∷ ys) n j) at ∙ set_middle (front ++ xs) i j ys ∙ append_assoc front xs (j ∷ ys)

pub set_length : (xs : List Instr) (k : ℕ) (i : Instr) → length (slice_set xs k i) ≡ length xs
set_length [] k i = refl
set_length (x ∷ xs) zero i = refl
set_length (x ∷ xs) (suc k) i = ap suc (set_length xs k i)

-- how long code is
pub grows_length : {a b : Code} {is : List Instr} → Grows a b is → length b.instructions ≡ length a.instructions + length is
grows_length {a = a} {is = is} p = ap length p.instructions ∙ length-append a.instructions is

-- a jump lands: it stands in place of the filler
pub grows_landed : {a b : Code} (xs : List Instr) (i : Instr) (ys : List Instr) (k op line : ℕ) → Grows a b (xs ++ i ∷ ys) → k ≡ length a.instructions + length xs → Grows a (landed b k op line) (xs ++ instr op (pos (length b.instructions)) 0 line ∷ ys)
grows_landed {a = a} {b = b} xs i ys k op line p at =
    let j = instr op (pos (length b.instructions)) 0 line in
    record {
      instructions = ap (λ l. slice_set l k j) p.instructions ∙ set_after a.instructions xs i j ys k at;
      texts = p.texts;
      references = p.references;
      constant_types = p.constant_types;
      line = p.line;
    }
