-- The walk over a character string, byte by byte, and over what stands between its quotes.
use Rattle.std.proofs.Common.{◌≡◌, ◌≢◌, ℕ, ◌+◌, ◌<◌, ◌≤◌, Bool, true, false, ◌==◌, List, [], ◌∷◌, ◌++◌, length, drop, get_or, Option, Some, refl, sym, ap, ◌∙◌, append_assoc, append-nil, arith}
use Rattle.std.proofs.lemmas.Bool.Decides.{nat_tests}
use Rattle.ep_token.specs.Reading.{string_end, undoubled}
use Rattle.ep_token.proofs.Steps.{drop-at, drop-end, and-false}

pub string_end-line : (e : Option ℕ) (i b : ℕ) (bs : List ℕ) → (b == 10) ≡ true → string_end true e i (b ∷ bs) ≡ e
unfolding string_end
string_end-line e i b bs h = rw h refl

pub string_end-quote : (e : Option ℕ) (i b : ℕ) (bs : List ℕ) → (b == 10) ≡ false → (b == 39) ≡ true → string_end true e i (b ∷ bs) ≡ string_end false (Some (i + 1)) (i + 1) bs
unfolding string_end
string_end-quote e i b bs h p = rw (h, p) refl

pub string_end-other : (e : Option ℕ) (i b : ℕ) (bs : List ℕ) → (b == 10) ≡ false → (b == 39) ≡ false → string_end true e i (b ∷ bs) ≡ string_end true e (i + 1) bs
unfolding string_end
string_end-other e i b bs h p = rw (h, p) refl

pub string_end-again : (e : Option ℕ) (i b : ℕ) (bs : List ℕ) → (b == 39) ≡ true → string_end false e i (b ∷ bs) ≡ string_end true e (i + 1) bs
unfolding string_end
string_end-again e i b bs h = rw h refl

pub string_end-closed : (e : Option ℕ) (i b : ℕ) (bs : List ℕ) → (b == 39) ≡ false → string_end false e i (b ∷ bs) ≡ e
unfolding string_end
string_end-closed e i b bs h = rw h refl

pub string_end-nil : (o : Bool) (e : Option ℕ) (i : ℕ) → string_end o e i [] ≡ e
unfolding string_end
string_end-nil o e i = refl

pub string_at-line : (e : Option ℕ) (s : List ℕ) (i : ℕ) → i < length s → get_or s i 0 ≡ 10 → string_end true e i (drop i s) ≡ e
string_at-line e s i h p = rw (drop-at s i h) (string_end-line e i _ _ (grind (arith, nat_tests)))

pub string_at-quote : (e : Option ℕ) (s : List ℕ) (i : ℕ) → i < length s → get_or s i 0 ≢ 10 → get_or s i 0 ≡ 39 → string_end true e i (drop i s) ≡ string_end false (Some (i + 1)) (i + 1) (drop (i + 1) s)
string_at-quote e s i h p q = rw (drop-at s i h) (string_end-quote e i _ _ (grind (arith, nat_tests)) (grind (arith, nat_tests)))

pub string_at-other : (e : Option ℕ) (s : List ℕ) (i : ℕ) → i < length s → get_or s i 0 ≢ 10 → get_or s i 0 ≢ 39 → string_end true e i (drop i s) ≡ string_end true e (i + 1) (drop (i + 1) s)
string_at-other e s i h p q = rw (drop-at s i h) (string_end-other e i _ _ (grind (arith, nat_tests)) (grind (arith, nat_tests)))

pub string_at-again : (e : Option ℕ) (s : List ℕ) (i : ℕ) → i < length s → get_or s i 0 ≡ 39 → string_end false e i (drop i s) ≡ string_end true e (i + 1) (drop (i + 1) s)
string_at-again e s i h p = rw (drop-at s i h) (string_end-again e i _ _ (grind (arith, nat_tests)))

pub string_at-closed : (e : Option ℕ) (s : List ℕ) (i : ℕ) → i < length s → get_or s i 0 ≢ 39 → string_end false e i (drop i s) ≡ e
string_at-closed e s i h p = rw (drop-at s i h) (string_end-closed e i _ _ (grind (arith, nat_tests)))

pub string_at-end : (o : Bool) (e : Option ℕ) (s : List ℕ) (i : ℕ) → length s ≤ i → string_end o e i (drop i s) ≡ e
string_at-end o e s i h = rw (drop-end s i h) (string_end-nil o e i)

pub ruleset walk = (string_at-line, string_at-quote, string_at-other, string_at-again, string_at-closed, string_at-end)

pub undoubled-second : (b : ℕ) (bs : List ℕ) → (b == 39) ≡ true → undoubled true (b ∷ bs) ≡ undoubled false bs
unfolding undoubled
undoubled-second b bs h = rw h refl

pub undoubled-first : (b : ℕ) (bs : List ℕ) → undoubled false (b ∷ bs) ≡ b ∷ undoubled (b == 39) bs
unfolding undoubled
undoubled-first b bs = rw (and-false (b == 39)) refl

pub undoubled-other : (a : Bool) (b : ℕ) (bs : List ℕ) → (b == 39) ≡ false → undoubled a (b ∷ bs) ≡ b ∷ undoubled false bs
unfolding undoubled
undoubled-other a b bs h = rw h refl

pub undoubled_at-second : (s : List ℕ) (i : ℕ) → i < length s → get_or s i 0 ≡ 39 → undoubled true (drop i s) ≡ undoubled false (drop (i + 1) s)
undoubled_at-second s i h p = rw (drop-at s i h) (undoubled-second _ _ (grind (arith, nat_tests)))

pub undoubled_at-first : (s : List ℕ) (i : ℕ) → i < length s → get_or s i 0 ≡ 39 → undoubled false (drop i s) ≡ get_or s i 0 ∷ undoubled true (drop (i + 1) s)
undoubled_at-first s i h p = let t : (get_or s i 0 == 39) ≡ true = grind (arith, nat_tests) in rw (drop-at s i h, undoubled-first, t) refl

pub undoubled_at-other : (a : Bool) (s : List ℕ) (i : ℕ) → i < length s → get_or s i 0 ≢ 39 → undoubled a (drop i s) ≡ get_or s i 0 ∷ undoubled false (drop (i + 1) s)
undoubled_at-other a s i h p = rw (drop-at s i h) (undoubled-other a _ _ (grind (arith, nat_tests)))

pub undoubled_at-end : (a : Bool) (s : List ℕ) (i : ℕ) → length s ≤ i → undoubled a (drop i s) ≡ []
unfolding undoubled
undoubled_at-end a s i h = rw (drop-end s i h) refl

-- the same behind what was pushed
pub pushed-second : (out s : List ℕ) (i : ℕ) → i < length s → get_or s i 0 ≡ 39 → out ++ undoubled true (drop i s) ≡ out ++ undoubled false (drop (i + 1) s)
pushed-second out s i h p = ap (λ (l : List ℕ). out ++ l) (undoubled_at-second s i h p)

pub pushed-first : (out s : List ℕ) (i : ℕ) → i < length s → get_or s i 0 ≡ 39 → out ++ undoubled false (drop i s) ≡ (out ++ get_or s i 0 ∷ []) ++ undoubled true (drop (i + 1) s)
pushed-first out s i h p = ap (λ (l : List ℕ). out ++ l) (undoubled_at-first s i h p) ∙ sym (append_assoc out (get_or s i 0 ∷ []) (undoubled true (drop (i + 1) s)))

pub pushed-other : (out : List ℕ) (a : Bool) (s : List ℕ) (i : ℕ) → i < length s → get_or s i 0 ≢ 39 → out ++ undoubled a (drop i s) ≡ (out ++ get_or s i 0 ∷ []) ++ undoubled false (drop (i + 1) s)
pushed-other out a s i h p = ap (λ (l : List ℕ). out ++ l) (undoubled_at-other a s i h p) ∙ sym (append_assoc out (get_or s i 0 ∷ []) (undoubled false (drop (i + 1) s)))

pub pushed-end : (out : List ℕ) (a : Bool) (s : List ℕ) (i : ℕ) → length s ≤ i → out ++ undoubled a (drop i s) ≡ out
pushed-end out a s i h = ap (λ (l : List ℕ). out ++ l) (undoubled_at-end a s i h) ∙ append-nil out

pub ruleset body_walk = (pushed-second, pushed-first, pushed-other, pushed-end)
