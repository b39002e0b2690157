-- What is written field by field is the row of these fields.
use Rattle.std.proofs.Common.{◌≡◌, ℕ, ℤ, List, ◌++◌, Result, Ok, Err, ap, ◌∙◌, append_assoc, to_z, of_z}
use Rattle.std.specs.Prelude.{OnOk, FitsSigned}
use Rattle.std.specs.Int.{w64}
use Rattle.std.proofs.lemmas.Int.{to_z-of_z}
use Rattle.ep_fields.specs.Fields.{integer}

-- a number that was written is the one that stands in the value
pub wrote : (w v : List ℕ) (z : ℤ) → FitsSigned w64 z → v ≡ w ++ integer (to_z w64 (of_z w64 z)) → v ≡ w ++ integer z
wrote w v z fits e = e ∙ ap (λ (y : ℤ). w ++ integer y) (to_z-of_z w64 z fits)

-- what follows from the answer, where there is one
pub on_ok : {A E : Type 0} (r : Result A E) {P Q : Type 0} → (P → Q) → OnOk r P → OnOk r Q
on_ok (Ok x) f p = f p
on_ok (Err e) f p = tt

pub three : (w a b c w1 w2 w3 : List ℕ) → w1 ≡ w ++ a → w2 ≡ w1 ++ b → w3 ≡ w2 ++ c → w3 ≡ w ++ (a ++ (b ++ c))
three w a b c w1 w2 w3 e1 e2 e3 =
    e3 ∙ ap (λ (x : List ℕ). x ++ c) (e2 ∙ ap (λ (x : List ℕ). x ++ b) e1) ∙ append_assoc (w ++ a) b c ∙ append_assoc w a (b ++ c)

pub four : (w a b c d w1 w2 w3 w4 : List ℕ) → w1 ≡ w ++ a → w2 ≡ w1 ++ b → w3 ≡ w2 ++ c → w4 ≡ w3 ++ d
    → w4 ≡ w ++ (a ++ (b ++ (c ++ d)))
four w a b c d w1 w2 w3 w4 e1 e2 e3 e4 =
    three (w ++ a) b c d w2 w3 w4 (e2 ∙ ap (λ (x : List ℕ). x ++ b) e1) e3 e4 ∙ append_assoc w a (b ++ (c ++ d))

pub five : (w a b c d e w1 w2 w3 w4 w5 : List ℕ) → w1 ≡ w ++ a → w2 ≡ w1 ++ b → w3 ≡ w2 ++ c → w4 ≡ w3 ++ d
    → w5 ≡ w4 ++ e → w5 ≡ w ++ (a ++ (b ++ (c ++ (d ++ e))))
five w a b c d e w1 w2 w3 w4 w5 e1 e2 e3 e4 e5 =
    four (w ++ a) b c d e w2 w3 w4 w5 (e2 ∙ ap (λ (x : List ℕ). x ++ b) e1) e3 e4 e5
    ∙ append_assoc w a (b ++ (c ++ (d ++ e)))
