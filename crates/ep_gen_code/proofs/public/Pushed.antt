-- Tables that grow at their ends.
use Rattle.std.proofs.Common.{◌≡◌, ℕ, zero, suc, ◌-◌, ◌^◌, ◌<◌, List, [], ◌∷◌, ◌++◌, length, Some, ◌⊎◌, inl, inr, refl, sym, ap, ◌∙◌, subst, append_assoc, append-nil, slice_get, arith, length-append}
use Rattle.ep_outside.specs.Known.{IsPrefix}
use Rattle.ep_gen_code.specs.Growth.{IsNowhere, AreDistinct, TableGrows}
use Rattle.ep_meaning.proofs.public.Lists.{get_front}
use Rattle.ep_object.proofs.public.Grows.{is_prefix, prefix_then}

pub get_later : {A : Type 0} {xs ys : List A} (k : ℕ) (x : A) → IsPrefix xs ys → slice_get xs k ≡ Some x → slice_get ys k ≡ Some x
get_later {xs = xs} k x p h = ap (λ l. slice_get l k) p.is ∙ get_front xs p.rest k x h

pub get_last : {A : Type 0} (xs : List A) (x : A) → slice_get (xs ++ x ∷ []) (length xs) ≡ Some x
get_last [] x = refl
get_last (z ∷ zs) x = get_last zs x

further : {A : Type 0} (zs : List A) (x y : A) (k : ℕ) → (slice_get zs k ≡ Some y) ⊎ ((k ≡ length zs) × (x ≡ y)) → (slice_get zs k ≡ Some y) ⊎ ((suc k ≡ suc (length zs)) × (x ≡ y))
further zs x y k (inl h) = inl h
further zs x y k (inr p) = inr (ap suc p.0, p.1)

get_pushed : {A : Type 0} (xs : List A) (x y : A) (k : ℕ) → slice_get (xs ++ x ∷ []) k ≡ Some y → (slice_get xs k ≡ Some y) ⊎ ((k ≡ length xs) × (x ≡ y))
get_pushed [] x y zero h = inr (refl, cc)
get_pushed [] x y (suc k) h = cc
get_pushed (z ∷ zs) x y zero h = inl h
get_pushed (z ∷ zs) x y (suc k) h = further zs x y k (get_pushed zs x y k h)

one_place : {A : Type 0} (xs : List A) (x y : A) (j k : ℕ) → IsNowhere xs x → AreDistinct xs → (slice_get xs j ≡ Some y) ⊎ ((j ≡ length xs) × (x ≡ y)) → (slice_get xs k ≡ Some y) ⊎ ((k ≡ length xs) × (x ≡ y)) → j ≡ k
one_place xs x y j k new distinct (inl p) (inl q) = distinct j k y p q
one_place xs x y j k new distinct (inl p) (inr q) = absurd (new j (p ∙ ap Some (sym q.1)))
one_place xs x y j k new distinct (inr p) (inl q) = absurd (new k (q ∙ ap Some (sym p.1)))
one_place xs x y j k new distinct (inr p) (inr q) = p.0 ∙ sym q.0

pushed_distinct : {A : Type 0} (xs : List A) (x : A) → IsNowhere xs x → AreDistinct xs → AreDistinct (xs ++ x ∷ [])
pushed_distinct xs x new distinct = λ j k y p q. one_place xs x y j k new distinct (get_pushed xs x y j p) (get_pushed xs x y k q)

pub table_same : {A : Type 0} (xs : List A) → TableGrows xs xs
table_same xs = record { begins = is_prefix xs; small = λ h. h; distinct = λ h. h }

pub table_then : {A : Type 0} {xs ys zs : List A} → TableGrows xs ys → TableGrows ys zs → TableGrows xs zs
table_then p q = record { begins = prefix_then p.begins q.begins; small = λ h. q.small (p.small h); distinct = λ h. q.distinct (p.distinct h) }

pushed : {A : Type 0} (xs : List A) (x : A) → IsNowhere xs x → length xs < 2 ^ 32 - 1 → TableGrows xs (xs ++ x ∷ [])
pushed xs x new few = record {
  begins = record { rest = x ∷ []; is = refl };
  small = λ h. omega (arith, length-append xs (x ∷ []));
  distinct = pushed_distinct xs x new;
}

pub table_pushed : {A : Type 0} {xs ys : List A} {x : A} → IsNowhere xs x → length xs < 2 ^ 32 - 1 → ys ≡ xs ++ x ∷ [] → TableGrows xs ys
table_pushed {xs = xs} {x = x} new few e = subst (λ l. TableGrows xs l) (sym e) (pushed xs x new few)
