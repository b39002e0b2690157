-- Loops that append to a list what each item of another one becomes.
use Rattle.std.proofs.Common.{◌≡◌, ℕ, ◌+◌, ◌<◌, ◌≤◌, List, [], ◌∷◌, ◌++◌, length, take, get_or, map, sym, ap, ◌∙◌}
use Rattle.std.proofs.Common.{append_assoc, append-nil, take_all, add-one, take-suc}
use Rattle.std.proofs.lemmas.List.{map_more}

-- nothing yet
pub appended-none : {A B : Type 0} (f : A → B) (old : List B) (xs : List A) → old ≡ old ++ map f (take 0 xs)
appended-none f old xs = sym (append-nil old)

-- one more item
pub appended-more : {A B : Type 0} (f : A → B) (old : List B) (xs : List A) (i : ℕ) (x : A) → i < length xs
    → x ≡ get_or xs i x → old ++ map f (take i xs) ++ f x ∷ [] ≡ old ++ map f (take (i + 1) xs)
appended-more f old xs i x h e =
    append_assoc old (map f (take i xs)) (f x ∷ [])
    ∙ ap (λ y. old ++ (map f (take i xs) ++ f y ∷ [])) e ∙ ap (λ ys. old ++ ys) (sym (map_more f xs i x h))

-- all of them
pub appended-all : {A B : Type 0} (f : A → B) (old : List B) (xs : List A) (i : ℕ) → length xs ≤ i
    → old ++ map f (take i xs) ≡ old ++ map f xs
appended-all f old xs i h = ap (λ ys. old ++ map f ys) (take_all i xs h)

-- the same where the list is empty before
pub mapped-more : {A B : Type 0} (f : A → B) (xs : List A) (i : ℕ) (x : A) → i < length xs → x ≡ get_or xs i x
    → map f (take i xs) ++ f x ∷ [] ≡ map f (take (i + 1) xs)
mapped-more f xs i x h e = ap (λ y. map f (take i xs) ++ f y ∷ []) e ∙ sym (map_more f xs i x h)

pub mapped-all : {A B : Type 0} (f : A → B) (xs : List A) (i : ℕ) → length xs ≤ i → map f (take i xs) ≡ map f xs
mapped-all f xs i h = ap (map f) (take_all i xs h)

-- the same where the items stay as they are
pub copied-more : {A : Type 0} (old xs : List A) (i : ℕ) (x : A) → i < length xs → x ≡ get_or xs i x
    → old ++ take i xs ++ x ∷ [] ≡ old ++ take (i + 1) xs
copied-more old xs i x h e =
    append_assoc old (take i xs) (x ∷ []) ∙ ap (λ y. old ++ (take i xs ++ y ∷ [])) e
    ∙ ap (λ ys. old ++ ys) (sym (rw (add-one) (take-suc xs i x h)))

pub copied-all : {A : Type 0} (old xs : List A) (i : ℕ) → length xs ≤ i → old ++ take i xs ≡ old ++ xs
copied-all old xs i h = ap (λ ys. old ++ ys) (take_all i xs h)

pub ruleset appended = (appended-none, appended-more, appended-all)

pub ruleset mapped = (mapped-more, mapped-all)

pub ruleset copied = (copied-more, copied-all)
