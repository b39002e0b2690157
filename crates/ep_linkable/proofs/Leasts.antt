-- The least of those that are so, when one more is looked at.
use Rattle.std.proofs.Common.{◌≡◌, ℕ, ◌<◌, ◌+◌, List, Option, Some, None, inl, inr, sym, subst, arith, refl, ap, ◌∙◌}
use Rattle.std.specs.Bool.{MatchBool}
use Rattle.std.specs.Ordering.{is_gt, is_le, nat_cmp, ordering_reverse}
use Rattle.std.specs.declared.cmp.Ordering.{Ordering}
use Rattle.std.specs.declared.cmp.Ordering.TheVariants.{Less, Equal, Greater}
use Rattle.std.specs.Cmp.Lexicographic.{slice_cmp}
use Rattle.std.proofs.lemmas.Cmp.{nat_list_cmp_total}
use Rattle.std.specs.Option.{IfSome}
use Rattle.ep_order.specs.Systems.{IsUpTo}
use Rattle.ep_order.proofs.public.Laws.{upto_itself, upto_trans}
use Rattle.ep_linkable.specs.Least.{IsChosen, IsLeastAt}
use Rattle.ep_linkable.proofs.Lists.{same_or_not}

pub least_kept : (P : ℕ → Type 0) (name : ℕ → List ℕ) (n : ℕ) (least : Option ℕ) → IsLeastAt P name n least → ¬ P n
    → IsLeastAt P name (n + 1) least
least_kept P name n None h fails = λ k l p. elim (same_or_not k n) [
  | inl e ↦ fails (subst P e p)
  | inr ne ↦ h k (omega (arith, l, ne)) p
]
least_kept P name n (Some least) h fails = (
  omega (arith, h.0),
  h.1,
  λ k l p. elim (same_or_not k n) [ inl e ↦ absurd (fails (subst P e p)) | inr ne ↦ h.2 k (omega (arith, l, ne)) p ],
)

pub least_first : (P : ℕ → Type 0) (name : ℕ → List ℕ) (n : ℕ) → IsLeastAt P name n None → P n
    → IsLeastAt P name (n + 1) (Some n)
least_first P name n h is = (
  omega arith,
  is,
  λ k l p. elim (same_or_not k n) [
    | inl e ↦ subst (λ j. IsUpTo (name n) (name j)) (sym e) (upto_itself (name n))
    | inr ne ↦ absurd (h k (omega (arith, l, ne)) p)
  ],
)

pub least_new : (P : ℕ → Type 0) (name : ℕ → List ℕ) (n least : ℕ) → IsLeastAt P name n (Some least) → P n
    → IsUpTo (name n) (name least) → IsLeastAt P name (n + 1) (Some n)
least_new P name n least h is up = (
  omega arith,
  is,
  λ k l p. elim (same_or_not k n) [
    | inl e ↦ subst (λ j. IsUpTo (name n) (name j)) (sym e) (upto_itself (name n))
    | inr ne ↦ upto_trans (name n) (name least) (name k) up (h.2 k (omega (arith, l, ne)) p)
  ],
)

pub least_old : (P : ℕ → Type 0) (name : ℕ → List ℕ) (n least : ℕ) → IsLeastAt P name n (Some least)
    → IsUpTo (name least) (name n) → IsLeastAt P name (n + 1) (Some least)
least_old P name n least h up = (
  omega (arith, h.0),
  h.1,
  λ k l p. elim (same_or_not k n) [
    | inl e ↦ subst (λ j. IsUpTo (name least) (name j)) (sym e) up
    | inr ne ↦ h.2 k (omega (arith, l, ne)) p
  ],
)

pub least_chosen : (P : ℕ → Type 0) (name : ℕ → List ℕ) (n : ℕ) (least : Option ℕ) (chosen : ℕ)
    → IsLeastAt P name n least → P n → IsChosen name n least chosen → IsLeastAt P name (n + 1) (Some chosen)
least_chosen P name n None chosen h is e =
    subst (λ m. IsLeastAt P name (n + 1) (Some m)) (sym e) (least_first P name n h is)
least_chosen P name n (Some least) chosen h is (inl e) =
    subst (λ m. IsLeastAt P name (n + 1) (Some m)) (sym e.0) (least_old P name n least h e.1)
least_chosen P name n (Some least) chosen h is (inr e) =
    subst (λ m. IsLeastAt P name (n + 1) (Some m)) (sym e.0) (least_new P name n least h is e.1)

pub least_within : (P : ℕ → Type 0) (name : ℕ → List ℕ) (n m : ℕ) (least : Option ℕ) → n < m
    → IsLeastAt P name n least → IfSome least (λ other. other < m)
least_within P name n m None low h = tt
least_within P name n m (Some least) low h = omega (arith, low, h.0)

-- the first name is no greater than the second, or the second no greater than the first
pub up_or_back : (a b : List ℕ)
    → MatchBool (is_le (slice_cmp nat_cmp a b)) (IsUpTo a b) (IsUpTo b a)
up_or_back a b = go (slice_cmp nat_cmp a b) refl
  where
    go : (o : Ordering) → slice_cmp nat_cmp a b ≡ o → MatchBool (is_le o) (IsUpTo a b) (IsUpTo b a)
    go Less e = ap is_gt e
    go Equal e = ap is_gt e
    go Greater e = ap is_gt (nat_list_cmp_total.antisymm b a ∙ ap ordering_reverse e)
