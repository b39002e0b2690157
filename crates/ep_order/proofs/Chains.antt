-- Lists of which each element is in a relation to the next, such lists that are closed to a ring, and lists of which no
-- element stands twice.
use Rattle.std.proofs.Common.{◌≡◌, ℕ, ◌+◌, List, [], ◌∷◌, ◌++◌, map, reverse, take, drop, slice_get, Some, inl, inr, sym, subst, ◌∙◌, ap, append_assoc, append-nil}
use Rattle.std.specs.List.{Contains}
use Rattle.std.proofs.lemmas.List.{reverse-append, take-append-drop}
use Rattle.std.proofs.lemmas.List.Elements.{Contains-push_cases}
use Rattle.std.proofs.lemmas.List.Sorted.{Contains-permutation, IsPermutation-reverse, IsPermutation-sym}
use Rattle.ep_order.specs.Circles.{Follows, IsApart}
use Rattle.ep_order.proofs.Lists.{contains_none, contains_first, contains_more, contains_map_back, drop_at}

reverse_more : {X : Type 0} (x : X) (xs : List X) → reverse (x ∷ xs) ≡ reverse xs ++ x ∷ []
reverse_more x xs = reverse-append (x ∷ []) xs

follows_tail : {X : Type 0} (R : X → X → Type 0) (x : X) (xs : List X) → Follows R (x ∷ xs) → Follows R xs
follows_tail R x [] h = tt
follows_tail R x (y ∷ ys) h = h.1

-- two lists of which one ends with what the other begins with
pub follows_join : {X : Type 0} (R : X → X → Type 0) (xs : List X) (m : X) (ys : List X) → Follows R (xs ++ m ∷ []) → Follows R (m ∷ ys) → Follows R (xs ++ m ∷ ys)
follows_join R [] m ys h k = k
follows_join R (x ∷ []) m ys h k = (h.0, k)
follows_join R (x ∷ y ∷ xs) m ys h k = (h.0, follows_join R (y ∷ xs) m ys h.1 k)

follows_front : {X : Type 0} (R : X → X → Type 0) (xs : List X) (m : X) (ys : List X) → Follows R (xs ++ m ∷ ys) → Follows R (xs ++ m ∷ [])
follows_front R [] m ys h = tt
follows_front R (x ∷ []) m ys h = (h.0, tt)
follows_front R (x ∷ y ∷ xs) m ys h = (h.0, follows_front R (y ∷ xs) m ys h.1)

follows_behind : {X : Type 0} (R : X → X → Type 0) (xs ys : List X) → Follows R (xs ++ ys) → Follows R ys
follows_behind R [] ys h = h
follows_behind R (x ∷ xs) ys h = follows_behind R xs ys (follows_tail R x (xs ++ ys) h)

-- one more at the end
pub follows_more : {X : Type 0} (R : X → X → Type 0) (xs : List X) (a b : X) → Follows R (xs ++ a ∷ []) → R a b → Follows R ((xs ++ a ∷ []) ++ b ∷ [])
follows_more R xs a b h r = subst (Follows R) (sym (append_assoc xs (a ∷ []) (b ∷ []))) (follows_join R xs a (b ∷ []) h (r, tt))

-- from the end to the beginning
follows_reverse : {X : Type 0} (R : X → X → Type 0) (xs : List X) → Follows R xs → Follows (λ a b. R b a) (reverse xs)
follows_reverse R [] h = tt
follows_reverse R (x ∷ []) h = tt
follows_reverse R (x ∷ y ∷ ys) h =
    let back : Follows (λ a b. R b a) (reverse ys ++ y ∷ []) = subst (Follows (λ a b. R b a)) (reverse_more y ys) (follows_reverse R (y ∷ ys) h.1) in
    subst (Follows (λ a b. R b a)) (sym (ap (λ l. l ++ x ∷ []) (reverse_more y ys)) ∙ sym (reverse_more x (y ∷ ys))) (follows_more (λ a b. R b a) (reverse ys) y x back h.0)

-- what each one is in a relation to, under another name
pub follows_map : {X Y : Type 0} (R : X → X → Type 0) (S : Y → Y → Type 0) (f : X → Y) → ((a b : X) → R a b → S (f a) (f b)) → (xs : List X) → Follows R xs → Follows S (map f xs)
follows_map R S f into [] h = tt
follows_map R S f into (x ∷ []) h = tt
follows_map R S f into (x ∷ y ∷ ys) h = (into x y h.0, follows_map R S f into (y ∷ ys) h.1)

-- ---- rings

-- each is in the relation to the next, and the last to the first
abbrev pub IsRing : {X : Type 0} → (X → X → Type 0) → List X → Type 0
IsRing R [] = Unit {0}
IsRing R (x ∷ xs) = Follows R (x ∷ xs ++ x ∷ [])

-- a ring that is turned
pub ring_turn : {X : Type 0} (R : X → X → Type 0) (xs ys : List X) → IsRing R (xs ++ ys) → IsRing R (ys ++ xs)
ring_turn R [] ys h = subst (IsRing R) (sym (append-nil ys)) h
ring_turn R (x ∷ xs) [] h = subst (IsRing R) (append-nil (x ∷ xs)) h
ring_turn R (x ∷ xs) (y ∷ ys) h =
    let all : Follows R ((x ∷ xs) ++ y ∷ (ys ++ x ∷ [])) = subst (Follows R) (append_assoc (x ∷ xs) (y ∷ ys) (x ∷ [])) h in
    let left : Follows R ((x ∷ xs) ++ y ∷ []) = follows_front R (x ∷ xs) y (ys ++ x ∷ []) all in
    let right : Follows R ((y ∷ ys) ++ x ∷ []) = follows_behind R (x ∷ xs) (y ∷ (ys ++ x ∷ [])) all in
    subst (Follows R) (sym (append_assoc (y ∷ ys) (x ∷ xs) (y ∷ []))) (follows_join R (y ∷ ys) x (xs ++ y ∷ []) right left)

-- a ring from its end to its beginning
pub ring_reverse : {X : Type 0} (R : X → X → Type 0) (xs : List X) → IsRing R xs → IsRing (λ a b. R b a) (reverse xs)
ring_reverse R [] h = tt
ring_reverse R (x ∷ xs) h =
    let back = subst (Follows (λ a b. R b a)) (reverse-append (x ∷ xs) (x ∷ []) ∙ ap (λ l. x ∷ l) (reverse_more x xs)) (follows_reverse R (x ∷ xs ++ x ∷ []) h) in
    subst (IsRing (λ a b. R b a)) (sym (reverse_more x xs)) (ring_turn (λ a b. R b a) (x ∷ []) (reverse xs) back)

-- a ring is the end of a walk that comes again to where it was
pub ring_of_walk : {X : Type 0} (R : X → X → Type 0) (path : List X) (i : ℕ) (again : X) → Follows R (path ++ again ∷ []) → slice_get path i ≡ Some again → IsRing R (drop i path)
ring_of_walk R path i again h at =
    let rest = drop (i + 1) path in
    let is : drop i path ≡ again ∷ rest = drop_at path i again at in
    let whole : (take i path ++ drop i path) ++ again ∷ [] ≡ path ++ again ∷ [] = ap (λ l. l ++ again ∷ []) (take-append-drop i path) in
    let parted = subst (Follows R) (sym whole ∙ append_assoc (take i path) (drop i path) (again ∷ [])) h in
    let behind = follows_behind R (take i path) (drop i path ++ again ∷ []) parted in
    subst (IsRing R) (sym is) (subst (λ l. Follows R (l ++ again ∷ [])) is behind)

-- ---- no element twice

pub apart_push : {X : Type 0} (xs : List X) (x : X) → IsApart xs → ¬ Contains xs x → IsApart (xs ++ x ∷ [])
apart_push [] x h new = (contains_none x, tt)
apart_push (y ∷ ys) x h new = (
  λ has. elim (Contains-push_cases ys x y has) [ inl c ↦ h.0 c | inr e ↦ new (subst (λ z. Contains (y ∷ ys) z) (sym e) (contains_first y ys)) ],
  apart_push ys x h.1 (λ has. new (contains_more y ys x has)),
)

pub apart_behind : {X : Type 0} (xs ys : List X) → IsApart (xs ++ ys) → IsApart ys
apart_behind [] ys h = h
apart_behind (x ∷ xs) ys h = apart_behind xs ys h.1

pub apart_turn : {X : Type 0} (xs ys : List X) → IsApart (xs ++ ys) → IsApart (ys ++ xs)
apart_turn [] ys h = subst IsApart (sym (append-nil ys)) h
apart_turn (x ∷ xs) ys h =
    subst IsApart (append_assoc ys (x ∷ []) xs)
    (apart_turn xs (ys ++ x ∷ []) (subst IsApart (append_assoc xs ys (x ∷ [])) (apart_push (xs ++ ys) x h.1 h.0)))

pub apart_reverse : {X : Type 0} (xs : List X) → IsApart xs → IsApart (reverse xs)
apart_reverse [] h = tt
apart_reverse (x ∷ xs) h =
    subst IsApart (sym (reverse_more x xs))
    (apart_push (reverse xs) x (apart_reverse xs h.1) (λ has. h.0 (Contains-permutation (reverse xs) xs x (IsPermutation-sym xs (reverse xs) (IsPermutation-reverse xs)) has)))

-- names that are apart where what they name is
pub apart_map : {X Y : Type 0} (f : X → Y) (xs : List X) → ((a b : X) → Contains xs a → Contains xs b → f a ≡ f b → a ≡ b) → IsApart xs → IsApart (map f xs)
apart_map f [] one h = tt
apart_map f (x ∷ xs) one h = (
  λ has. let r = contains_map_back f xs (f x) has in h.0 (subst (λ y. Contains xs y) (one r.0 x (contains_more x xs r.0 r.1) (contains_first x xs) r.2) r.1),
  apart_map f xs (λ a b p q. one a b (contains_more x xs a p) (contains_more x xs b q)) h.1,
)
