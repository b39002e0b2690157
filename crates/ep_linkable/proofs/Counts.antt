-- How many of a list are so: where that is one at most, no two places have one.
use Rattle.std.proofs.Common.{◌≡◌, ◌≢◌, ℕ, zero, suc, ◌<◌, ◌≤◌, ◌+◌, List, [], ◌∷◌, map, slice_get}
use Rattle.std.proofs.Common.{Bool, true, false, cond, Some, ◌⊎◌, inl, inr, refl, sym, subst, ap, ◌∙◌, arith}
use Rattle.std.specs.List.{Contains, sum_by}
use Rattle.std.proofs.lemmas.Option.{same_Some, none-some}
use Rattle.std.proofs.lemmas.List.Sums.{sum_by-cons, get_or-le-sum_by}
use Rattle.ep_linkable.proofs.Lists.{contains_at, place_of}

-- ---- one or none

pub yes_share : (b : Bool) → b ≡ true → 0 < cond b 1 0
yes_share true e = omega arith
yes_share false e = cc

pub share_yes : (b : Bool) → 0 < cond b 1 0 → b ≡ true
share_yes true h = refl
share_yes false h = absurd (omega (arith, h))

pub share_low : (b : Bool) → cond b 1 0 < 2
share_low true = omega arith
share_low false = omega arith

pub few_or_two : (n : ℕ) → (n < 2) ⊎ (1 < n)
few_or_two zero = inl (omega arith)
few_or_two (suc zero) = inl (omega arith)
few_or_two (suc (suc n)) = inr (omega arith)

pub zero_if : (n : ℕ) → (0 < n → ⊥) → n ≡ 0
zero_if zero h = refl
zero_if (suc n) h = absurd (h (omega arith))

-- ---- sums of shares

pub sum_has : {X : Type 0} (f : X → ℕ) (xs : List X) (x : X) → Contains xs x → f x ≤ sum_by f xs
sum_has f xs x h = subst (λ y. f y ≤ sum_by f xs) h.2 (get_or-le-sum_by f xs h.0 x h.1)

-- where the sum is one at most, no two places have a share of it
pub one_place : {X : Type 0} (f : X → ℕ) (xs : List X) → sum_by f xs < 2 → (i k : ℕ) (a b : X)
    → slice_get xs i ≡ Some a → slice_get xs k ≡ Some b → 0 < f a → 0 < f b → i ≡ k
one_place f [] few i k a b at bt p q = absurd (none-some a at)
one_place f (x ∷ xs) few zero zero a b at bt p q = refl
one_place f (x ∷ xs) few zero (suc k) a b at bt p q =
    let all : f x + sum_by f xs < 2 = subst (λ n. n < 2) (sum_by-cons f x xs) few in
    let rest : f b ≤ sum_by f xs = sum_has f xs b (contains_at xs k b bt) in
    let first : f x ≡ f a = ap f (same_Some x a at) in
    absurd (omega (arith, all, rest, first, p, q))
one_place f (x ∷ xs) few (suc i) zero a b at bt p q =
    let all : f x + sum_by f xs < 2 = subst (λ n. n < 2) (sum_by-cons f x xs) few in
    let rest : f a ≤ sum_by f xs = sum_has f xs a (contains_at xs i a at) in
    let first : f x ≡ f b = ap f (same_Some x b bt) in
    absurd (omega (arith, all, rest, first, p, q))
one_place f (x ∷ xs) few (suc i) (suc k) a b at bt p q =
    let all : f x + sum_by f xs < 2 = subst (λ n. n < 2) (sum_by-cons f x xs) few in
    let rest : sum_by f xs < 2 = omega (arith, all) in
    ap suc (one_place f xs rest i k a b at bt p q)

pub one_of : {X : Type 0} (f : X → ℕ) (xs : List X) → sum_by f xs < 2 → (a b : X) → Contains xs a → Contains xs b
    → 0 < f a → 0 < f b → a ≡ b
one_of f xs few a b has_a has_b p q =
    let i = place_of xs a has_a in
    let k = place_of xs b has_b in
    let same = one_place f xs few i.0 k.0 a b i.1 k.1 p q in
    same_Some a b (sym i.1 ∙ subst (λ n. slice_get xs n ≡ Some b) (sym same) k.1)

-- where two places have a share, it is two at least
pub two_places : {X : Type 0} (f : X → ℕ) (xs : List X) (i k : ℕ) (a b : X) → i ≢ k → slice_get xs i ≡ Some a
    → slice_get xs k ≡ Some b → 0 < f a → 0 < f b → 1 < sum_by f xs
two_places f xs i k a b ne at bt p q = elim (few_or_two (sum_by f xs)) [
  | inl few ↦ absurd (ne (one_place f xs few i k a b at bt p q))
  | inr two ↦ two
]

none_share : {X : Type 0} (f : X → ℕ) (xs : List X) → ((j : ℕ) (x : X) → slice_get xs j ≡ Some x → f x ≡ 0)
    → sum_by f xs ≡ 0
none_share f [] none = refl
none_share f (x ∷ xs) none =
    let all = sum_by-cons f x xs in
    let first : f x ≡ 0 = none 0 x refl in
    let rest : sum_by f xs ≡ 0 = none_share f xs (λ j y e. none (suc j) y e) in
    let sum : f x + sum_by f xs ≡ 0 = omega (arith, first, rest) in
    all ∙ sum

-- where only one place has a share, of one at most, it is one at most
pub one_share : {X : Type 0} (f : X → ℕ) (xs : List X) (i : ℕ) → ((x : X) → f x < 2)
    → ((j : ℕ) (x : X) → slice_get xs j ≡ Some x → 0 < f x → j ≡ i) → sum_by f xs < 2
one_share f [] i low only = omega arith
one_share f (x ∷ xs) zero low only =
    let first : f x < 2 = low x in
    let rest : sum_by f xs ≡ 0 = none_share f xs (λ j y e. zero_if (f y) (λ p.
    let no : suc j ≡ zero = only (suc j) y e p in
    absurd (omega (arith, no)))) in
    let sum : f x + sum_by f xs < 2 = omega (arith, first, rest) in
    subst (λ n. n < 2) (sym (sum_by-cons f x xs)) sum
one_share f (x ∷ xs) (suc i) low only =
    let first : f x ≡ 0 = zero_if (f x) (λ p.
    let no : zero ≡ suc i = only zero x refl p in
    absurd (omega (arith, no))) in
    let rest : sum_by f xs < 2 = one_share f xs i low (λ j y e p.
    let same : suc j ≡ suc i = only (suc j) y e p in
    omega (arith, same)) in
    let sum : f x + sum_by f xs < 2 = omega (arith, first, rest) in
    subst (λ n. n < 2) (sym (sum_by-cons f x xs)) sum

-- a sum over what elements become
pub sum_map : {X Y : Type 0} (f : Y → ℕ) (g : X → Y) (xs : List X) → sum_by f (map g xs) ≡ sum_by (λ x. f (g x)) xs
sum_map f g [] = refl
sum_map f g (x ∷ xs) =
    sum_by-cons f (g x) (map g xs) ∙ ap (λ n. f (g x) + n) (sum_map f g xs) ∙ sym (sum_by-cons (λ y. f (g y)) x xs)
