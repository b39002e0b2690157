-- Lists that others begin with, and what they have at their places.
use Rattle.std.proofs.Common.{◌≡◌, ℕ, suc, ◌≤◌, List, [], ◌∷◌, ◌++◌, length, Some, slice_get, refl, sym, ap, ◌∙◌, arith, append_assoc}
use Rattle.std.proofs.lemmas.List.{append-nil, length-append}
use Rattle.ep_outside.specs.Known.{IsPrefix}
use Rattle.ep_meaning.proofs.public.Lists.{get_front}

pub length_push : {A : Type 0} (xs : List A) (y : A) → length (xs ++ y ∷ []) ≡ suc (length xs)
length_push xs y = omega (arith, length-append xs (y ∷ []))

pub prefix_get : {A : Type 0} (xs ys : List A) (n : ℕ) (x : A) → IsPrefix xs ys → slice_get xs n ≡ Some x → slice_get ys n ≡ Some x
prefix_get xs ys n x p e = ap (λ l. slice_get l n) p.is ∙ get_front xs p.rest n x e

pub prefix_refl : {A : Type 0} (xs : List A) → IsPrefix xs xs
prefix_refl xs = record { rest = []; is = sym (append-nil xs) }

pub prefix_more : {A : Type 0} (xs ys : List A) → IsPrefix xs (xs ++ ys)
prefix_more xs ys = record { rest = ys; is = refl }

pub prefix_trans : {A : Type 0} (xs ys zs : List A) → IsPrefix xs ys → IsPrefix ys zs → IsPrefix xs zs
prefix_trans xs ys zs p q = record { rest = p.rest ++ q.rest; is = q.is ∙ (ap (λ l. l ++ q.rest) p.is ∙ append_assoc xs p.rest q.rest) }

pub prefix_front : {A : Type 0} (front xs ys : List A) → IsPrefix xs ys → IsPrefix (front ++ xs) (front ++ ys)
prefix_front front xs ys p = record { rest = p.rest; is = ap (λ l. front ++ l) p.is ∙ sym (append_assoc front xs p.rest) }

pub prefix_length : {A : Type 0} (xs ys : List A) → IsPrefix xs ys → length xs ≤ length ys
prefix_length xs ys p = omega (arith, ap length p.is, length-append xs p.rest)

seam : {A : Type 0} (xs : List A) (y : A) (rest : List A) → slice_get ((xs ++ y ∷ []) ++ rest) (length xs) ≡ Some y
seam [] y rest = refl
seam (x ∷ xs) y rest = seam xs y rest

-- what was added last is there, by its place
pub prefix_last : {A : Type 0} (xs : List A) (y : A) (zs : List A) → IsPrefix (xs ++ y ∷ []) zs → slice_get zs (length xs) ≡ Some y
prefix_last xs y zs p = ap (λ l. slice_get l (length xs)) p.is ∙ seam xs y p.rest
