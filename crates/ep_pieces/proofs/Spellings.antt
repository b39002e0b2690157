-- The spellings that have another, one by one.
use Rattle.std.proofs.Common.{◌≡◌, ℕ, true, false, List, [], ◌∷◌, refl}
use Rattle.std.specs.Str.{bytes_eq}
use Rattle.ep_token.specs.Symbols.{reference_spelling}

pub bracket : (text w : List ℕ) → w ≡ 40 ∷ 46 ∷ [] → bytes_eq text w ≡ true → reference_spelling text ≡ 91 ∷ []
unfolding reference_spelling
bracket text w e h = let k = rw e at h in rw k refl

pub close : (text w v : List ℕ) → w ≡ 40 ∷ 46 ∷ [] → v ≡ 46 ∷ 41 ∷ [] → bytes_eq text w ≡ false → bytes_eq text v ≡ true → reference_spelling text ≡ 93 ∷ []
unfolding reference_spelling
close text w v e f h g = let k = rw e at h in let l = rw f at g in rw (k, l) refl

pub caret : (text w v u : List ℕ) → w ≡ 40 ∷ 46 ∷ [] → v ≡ 46 ∷ 41 ∷ [] → u ≡ 64 ∷ [] → bytes_eq text w ≡ false → bytes_eq text v ≡ false → bytes_eq text u ≡ true → reference_spelling text ≡ 94 ∷ []
unfolding reference_spelling
caret text w v u e f d h g i = let k = rw e at h in let l = rw f at g in let m = rw d at i in rw (k, l, m) refl

pub first : (text w v u : List ℕ) → w ≡ 40 ∷ 46 ∷ [] → v ≡ 46 ∷ 41 ∷ [] → u ≡ 64 ∷ [] → bytes_eq text w ≡ false → bytes_eq text v ≡ false → bytes_eq text u ≡ false → reference_spelling text ≡ text
unfolding reference_spelling
first text w v u e f d h g i = let k = rw e at h in let l = rw f at g in let m = rw d at i in rw (k, l, m) refl
