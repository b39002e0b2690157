-- How many ordinals below a number pass, and the least member from a number on. The laws of sets are those of ep_typed.
use Rattle.std.proofs.Common.{◌≡◌, ℕ, ℤ, pos, negsuc, zero, suc, ◌+◌, ◌<◌, ◌≤◌, int_le, List, [], ◌∷◌, ◌++◌, length, Bool, true, false, cond, refl, sym, ap, ◌∙◌, arith, inl, inr}
use Rattle.std.proofs.lemmas.Bool.{cases_lt}
pub use Rattle.ep_values.proofs.public.Sets.{between_no, between_yes, has_members, has_no_more, members_none, members_same, passing_more, subset_no, subset_yes}
use Rattle.ep_object.specs.Sets.{member_limit, members, passing, put_where}
use Rattle.ep_object.specs.SetRows.{least_from}

-- ---- how many

-- how many there are below a number
unfoldable pub count_below : (ℕ → Bool) → ℕ → ℕ
count_below f n = length (passing f 0 n)

counted : (ns : List ℕ) (b : Bool) (n : ℕ) → length (ns ++ put_where b n []) ≡ length ns + cond b 1 0
counted [] true n = refl
counted [] false n = refl
counted (m ∷ ns) b n = ap suc (counted ns b n) ∙ omega arith

pub count_more : (f : ℕ → Bool) (n : ℕ) → count_below f (n + 1) ≡ count_below f n + cond (f n) 1 0
unfolding count_below
count_more f n =
    let one : n + 1 ≡ suc n = omega arith in
    let same : 0 + n ≡ n = omega arith in
    ap (λ k. length (passing f 0 k)) one ∙ (ap length (passing_more f 0 n) ∙ rw same (counted (passing f 0 n) (f n) n))

pub count_none : (f : ℕ → Bool) → count_below f 0 ≡ 0
unfolding count_below
count_none f = refl

pub count_all : (f : ℕ → Bool) → count_below f member_limit ≡ length (members f)
unfolding count_below members
count_all f = refl

-- ---- the least member from a number on

least_at : (f : ℕ → Bool) (z : ℤ) (n from count : ℕ) → from ≤ n → n < from + count → f n ≡ true → int_le z (pos n) ≡ true
    → ((m : ℕ) → m < n → int_le z (pos m) ≡ true → f m ≡ false) → least_from z (passing f from count) ≡ pos n
least_at f z n from zero le less passes above none = absurd (omega (arith, le, less))
least_at f z n from (suc count) le less passes above none =
    elim (cases_lt from n) [
      | inl lt ↦ later (least_at f z n (suc from) count (omega (arith, lt)) (omega (arith, less)) passes above none) (f from) (λ e. none from lt e) (int_le z (pos from)) refl
      | inr ge ↦ here (omega (arith, le, ge))
    ]
  where
    later : least_from z (passing f (suc from) count) ≡ pos n → (b : Bool) → (int_le z (pos from) ≡ true → b ≡ false) → (a : Bool) → int_le z (pos from) ≡ a
        → least_from z (put_where b from (passing f (suc from) count)) ≡ pos n
    later rest true missing true h = let e : true ≡ false = missing h in cc
    later rest true missing false h = rw h rest
    later rest false missing a h = rest

    here : n ≡ from → least_from z (passing f from (suc count)) ≡ pos n
    here e =
        let it : f from ≡ true = sym (ap f e) ∙ passes in
        let reached : int_le z (pos from) ≡ true = sym (ap (λ k. int_le z (pos k)) e) ∙ above in
        rw (it, reached) (ap pos (sym e))

pub least_is : (f : ℕ → Bool) (z : ℤ) (n : ℕ) → n < member_limit → f n ≡ true → int_le z (pos n) ≡ true
    → ((m : ℕ) → m < n → int_le z (pos m) ≡ true → f m ≡ false) → least_from z (members f) ≡ pos n
unfolding members
least_is f z n less passes above none = least_at f z n 0 member_limit (omega arith) (omega (arith, less)) passes above none

least_nowhere : (f : ℕ → Bool) (z : ℤ) (from count : ℕ) → ((m : ℕ) → m < from + count → int_le z (pos m) ≡ true → f m ≡ false)
    → least_from z (passing f from count) ≡ negsuc 0
least_nowhere f z from zero none = refl
least_nowhere f z from (suc count) none =
    by_test (least_nowhere f z (suc from) count (λ m less. none m (omega (arith, less)))) (f from) (none from (omega arith)) (int_le z (pos from)) refl
  where
    by_test : least_from z (passing f (suc from) count) ≡ negsuc 0 → (b : Bool) → (int_le z (pos from) ≡ true → b ≡ false) → (a : Bool) → int_le z (pos from) ≡ a
        → least_from z (put_where b from (passing f (suc from) count)) ≡ negsuc 0
    by_test rest true missing true h = let e : true ≡ false = missing h in cc
    by_test rest true missing false h = rw h rest
    by_test rest false missing a h = rest

pub least_none : (f : ℕ → Bool) (z : ℤ) → ((m : ℕ) → m < member_limit → int_le z (pos m) ≡ true → f m ≡ false) → least_from z (members f) ≡ negsuc 0
unfolding members
least_none f z none = least_nowhere f z 0 member_limit (λ m less. none m (omega (arith, less)))
