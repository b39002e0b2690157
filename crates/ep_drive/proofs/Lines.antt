-- The line that reports a unit that is too large, put together from its pieces.
use Rattle.std.proofs.Common.{◌≡◌, ℕ, List, ◌++◌, sym, ap, ◌∙◌, append_assoc}

-- a front, a name behind it, and three pieces more
pub pieces : (file unit name words number end front named whole bytes known : List ℕ) → whole ≡ named ++ bytes → named ≡ front ++ known → known ≡ name → front ≡ file ++ unit → bytes ≡ words ++ number ++ end → whole ≡ file ++ unit ++ name ++ words ++ number ++ end
pieces file unit name words number end front named whole bytes known a b e c d =
    a ∙ (λ i. (b ∙ ap (λ n. front ++ n) e) i ++ d i) ∙ ap (λ f. f ++ name ++ (words ++ number ++ end)) c
    ∙ sym (append_assoc (file ++ unit ++ name) (words ++ number) end) ∙ ap (λ f. f ++ end) (sym (append_assoc (file ++ unit ++ name) words number))
