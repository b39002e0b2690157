-- A front of what is left was copied into a buffer.
use Rattle.std.proofs.Common.{◌≡◌, ◌≤◌, ◌+◌, ℕ, List, ◌++◌, length, take, drop, sym, ap, ◌∙◌, arith, take-append-drop}
use Rattle.std.proofs.lemmas.Grind.{common_steps}

-- what is left is the copied front and the rest
pub taken_front : (held : List ℕ) (place count : ℕ) (copied after : List ℕ) → copied ≡ take count (drop place held) → count ≤ length (drop place held)
    → drop place held ≡ take count (copied ++ after) ++ drop (place + count) held
taken_front held place count copied after e h =
    let long : length copied ≡ count = grind (arith, common_steps) in
    let front : take count (copied ++ after) ≡ copied = grind (arith, common_steps) in
    let back : drop (place + count) held ≡ drop count (drop place held) = grind (arith, common_steps) in
    sym (take-append-drop count (drop place held)) ∙ ap (λ l. l ++ drop count (drop place held)) (sym e ∙ sym front) ∙ ap (λ l. take count (copied ++ after) ++ l) (sym back)
