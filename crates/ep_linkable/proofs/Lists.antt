-- What lists have.
use Rattle.std.proofs.Common.{◌≡◌, ◌≢◌, ℕ, zero, suc, ◌<◌, List, [], ◌∷◌, length, map, get_or, slice_get}
use Rattle.std.proofs.Common.{Bool, true, false, cond, ◌||◌, Some, ◌⊎◌, inl, inr, refl, sym, subst, ap, ◌∙◌, arith}
use Rattle.std.specs.List.{All, Contains, filter, list_any}
use Rattle.std.proofs.lemmas.Option.{slice_get_within, get_or_from_slice_get, slice_get-get_or}
use Rattle.std.proofs.lemmas.List.Elements.{All-contains}

pub contains_none : {X : Type 0} (x : X) → Contains [] x → ⊥
contains_none x h = omega (arith, h.1)

pub contains_first : {X : Type 0} (x : X) (xs : List X) → Contains (x ∷ xs) x
contains_first x xs = (0, omega arith, refl)

pub contains_more : {X : Type 0} (x : X) (xs : List X) (y : X) → Contains xs y → Contains (x ∷ xs) y
contains_more x xs y h = (suc h.0, omega (arith, h.1), h.2)

pub contains_cases : {X : Type 0} (x : X) (xs : List X) (y : X) → Contains (x ∷ xs) y → (x ≡ y) ⊎ Contains xs y
contains_cases {X} x xs y h = go h.0 h.1 h.2
  where
    go : (k : ℕ) → k < length (x ∷ xs) → get_or (x ∷ xs) k y ≡ y → (x ≡ y) ⊎ Contains xs y
    go zero l e = inl e
    go (suc k) l e = inr (k, omega arith, e)

pub contains_map : {X Y : Type 0} (f : X → Y) (xs : List X) (x : X) → Contains xs x → Contains (map f xs) (f x)
contains_map f [] x h = absurd (contains_none x h)
contains_map f (z ∷ xs) x h = elim (contains_cases z xs x h) [
  | inl e ↦ subst (λ y. Contains (f z ∷ map f xs) (f y)) e (contains_first (f z) (map f xs))
  | inr c ↦ contains_more (f z) (map f xs) (f x) (contains_map f xs x c)
]

pub contains_map_back : {X Y : Type 0} (f : X → Y) (xs : List X) (y : Y) → Contains (map f xs) y
    → (x : X) × Contains xs x × (f x ≡ y)
contains_map_back f [] y h = absurd (contains_none y h)
contains_map_back f (z ∷ xs) y h = elim (contains_cases (f z) (map f xs) y h) [
  | inl e ↦ (z, contains_first z xs, e)
  | inr c ↦ let r = contains_map_back f xs y c in (r.0, contains_more z xs r.0 r.1, r.2)
]

-- an element that stands at a place is one of the list, and the other way round
pub contains_at : {X : Type 0} (xs : List X) (i : ℕ) (x : X) → slice_get xs i ≡ Some x → Contains xs x
contains_at xs i x h = (i, slice_get_within xs i x h, get_or_from_slice_get xs i x x h)

pub place_of : {X : Type 0} (xs : List X) (x : X) → Contains xs x → (i : ℕ) × (slice_get xs i ≡ Some x)
place_of xs x h = (h.0, slice_get-get_or xs h.0 x h.1 ∙ ap Some h.2)

pub all_at : {X : Type 0} (P : X → Type 0) (xs : List X) (i : ℕ) (x : X) → All P xs → slice_get xs i ≡ Some x → P x
all_at P xs i x all h = All-contains P xs x all (contains_at xs i x h)

pub all_from : {X : Type 0} (P : X → Type 0) (xs : List X) → ((x : X) → Contains xs x → P x) → All P xs
all_from P xs each k d within =
    each (get_or xs k d) (contains_at xs k (get_or xs k d) (slice_get-get_or xs k d within))

pub same_or_not : (m n : ℕ) → (m ≡ n) ⊎ (m ≢ n)
same_or_not zero zero = inl refl
same_or_not zero (suc n) = inr (λ e. absurd (omega arith))
same_or_not (suc m) zero = inr (λ e. absurd (omega arith))
same_or_not (suc m) (suc n) = elim (same_or_not m n) [ inl e ↦ inl (ap suc e) | inr h ↦ inr (λ e. h (omega arith)) ]

-- ---- tests of elements

pub true_or_false : (b : Bool) → (b ≡ true) ⊎ (b ≡ false)
true_or_false true = inl refl
true_or_false false = inr refl

pub any_found : {X : Type 0} (p : X → Bool) (xs : List X) → list_any p xs ≡ true
    → (x : X) × Contains xs x × (p x ≡ true)
any_found p [] h = cc
any_found {X} p (x ∷ xs) h = go (any_found p xs) (p x) refl h
  where
    go : (list_any p xs ≡ true → (y : X) × Contains xs y × (p y ≡ true)) → (b : Bool) → p x ≡ b
        → (b || list_any p xs) ≡ true → (y : X) × Contains (x ∷ xs) y × (p y ≡ true)
    go rest true e h = (x, contains_first x xs, e)
    go rest false e h = let r = rest h in (r.0, contains_more x xs r.0 r.1, r.2)

pub any_from : {X : Type 0} (p : X → Bool) (xs : List X) (x : X) → Contains xs x → p x ≡ true
    → list_any p xs ≡ true
any_from p [] x c h = absurd (contains_none x c)
any_from p (y ∷ ys) x c h = elim (contains_cases y ys x c) [
  | inl e ↦ ap (λ b. b || list_any p ys) (ap p e ∙ h)
  | inr d ↦ or_true (p y) (list_any p ys) (any_from p ys x d h)
]
  where
    or_true : (a b : Bool) → b ≡ true → (a || b) ≡ true
    or_true true b e = refl
    or_true false b e = e

pub filter_found : {X : Type 0} (p : X → Bool) (xs : List X) (x : X) → Contains (filter p xs) x
    → Contains xs x × (p x ≡ true)
filter_found p [] x h = absurd (contains_none x h)
filter_found {X} p (y ∷ ys) x h = go (filter_found p ys x) (p y) refl h
  where
    go : (Contains (filter p ys) x → Contains ys x × (p x ≡ true)) → (b : Bool) → p y ≡ b
        → Contains (cond b (y ∷ filter p ys) (filter p ys)) x → Contains (y ∷ ys) x × (p x ≡ true)
    go rest true e h = elim (contains_cases y (filter p ys) x h) [
      | inl s ↦ (subst (Contains (y ∷ ys)) s (contains_first y ys), sym (ap p s) ∙ e)
      | inr d ↦ let r = rest d in (contains_more y ys x r.0, r.1)
    ]
    go rest false e h = let r = rest h in (contains_more y ys x r.0, r.1)

pub filter_from : {X : Type 0} (p : X → Bool) (xs : List X) (x : X) → Contains xs x → p x ≡ true
    → Contains (filter p xs) x
filter_from p [] x c h = absurd (contains_none x c)
filter_from {X} p (y ∷ ys) x c h = elim (contains_cases y ys x c) [
  | inl e ↦ first (p y) (ap p e ∙ h) e
  | inr d ↦ behind (p y) (filter_from p ys x d h)
]
  where
    first : (b : Bool) → b ≡ true → y ≡ x → Contains (cond b (y ∷ filter p ys) (filter p ys)) x
    first true t e = subst (Contains (y ∷ filter p ys)) e (contains_first y (filter p ys))
    first false t e = cc

    behind : (b : Bool) → Contains (filter p ys) x → Contains (cond b (y ∷ filter p ys) (filter p ys)) x
    behind true d = contains_more y (filter p ys) x d
    behind false d = d
