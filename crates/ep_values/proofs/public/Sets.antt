-- The laws of sets: which members there are of what is made of ordinals that pass, and when two sets are the same.
use Rattle.std.proofs.Common.{◌≡◌, ℕ, ℤ, pos, zero, suc, ◌+◌, ◌<◌, ◌≤◌, ◌==◌, ◌||◌, ◌&&◌, List, [], ◌∷◌, ◌++◌, length, Bool, true, false, refl, sym, ap, ◌∙◌, arith, inl, inr}
use Rattle.std.proofs.lemmas.Bool.Decides.{nat_tests}
use Rattle.std.proofs.lemmas.Bool.{cases_lt}
use Rattle.ep_values.specs.Sets.{IsSet, are_between, has, is_between, is_subset, member_limit, members, passing, put_where}

same_number : (n : ℕ) → (n == n) ≡ true
same_number n = grind (arith, nat_tests)

other_number : (m n : ℕ) → m < n → (m == n) ≡ false
other_number m n less = grind (arith, nat_tests)

-- what is put in front
has_put_other : (b : Bool) (m n : ℕ) (ms : List ℕ) → (m == n) ≡ false → has n (put_where b m ms) ≡ has n ms
has_put_other true m n ms e = rw e refl
has_put_other false m n ms e = refl

has_put_same : (b : Bool) (m : ℕ) (ms : List ℕ) → has m ms ≡ false → has m (put_where b m ms) ≡ b
has_put_same true m ms e = rw (same_number m) refl
has_put_same false m ms e = e

put_append : (b : Bool) (m : ℕ) (xs ys : List ℕ) → put_where b m (xs ++ ys) ≡ put_where b m xs ++ ys
put_append true m xs ys = refl
put_append false m xs ys = refl

-- none from one on is before it
has_before : (f : ℕ → Bool) (n from count : ℕ) → n < from → has n (passing f from count) ≡ false
has_before f n from zero less = refl
has_before f n from (suc count) less =
    let other : (from == n) ≡ false = grind (arith, nat_tests, less) in
    has_put_other (f from) from n (passing f (suc from) count) other ∙ has_before f n (suc from) count (omega (arith, less))

-- what passes is there
has_passing : (f : ℕ → Bool) (n from count : ℕ) → from ≤ n → n < from + count → has n (passing f from count) ≡ f n
has_passing f n from zero le less = absurd (omega (arith, le, less))
has_passing f n from (suc count) le less =
    elim (cases_lt from n) [
      | inl lt ↦ has_put_other (f from) from n (passing f (suc from) count) (other_number from n lt) ∙ has_passing f n (suc from) count (omega (arith, lt)) (omega (arith, less))
      | inr ge ↦
          let e : n ≡ from = omega (arith, le, ge) in
          ap (λ k. has k (passing f from (suc count))) e
          ∙ (has_put_same (f from) from (passing f (suc from) count) (has_before f from (suc from) count (omega arith)) ∙ ap f (sym e))
    ]

pub has_members : (f : ℕ → Bool) (n : ℕ) → n < member_limit → has n (members f) ≡ f n
unfolding members
has_members f n less = has_passing f n 0 member_limit (omega arith) (omega (arith, less))

-- and nothing past the last one
has_past : (f : ℕ → Bool) (n from count : ℕ) → from + count ≤ n → has n (passing f from count) ≡ false
has_past f n from zero past = refl
has_past f n from (suc count) past =
    has_put_other (f from) from n (passing f (suc from) count) (other_number from n (omega (arith, past))) ∙ has_past f n (suc from) count (omega (arith, past))

pub has_no_more : (f : ℕ → Bool) (n : ℕ) → member_limit ≤ n → has n (members f) ≡ false
unfolding members
has_no_more f n past = has_past f n 0 member_limit (omega (arith, past))

-- where the same pass it is the same set
passing_same : (f g : ℕ → Bool) (from count : ℕ) → ((n : ℕ) → from ≤ n → n < from + count → f n ≡ g n) → passing f from count ≡ passing g from count
passing_same f g from zero h = refl
passing_same f g from (suc count) h =
    rw (h from (omega arith) (omega arith)) (ap (put_where (g from) from) (passing_same f g (suc from) count (λ n le less. h n (omega (arith, le)) (omega (arith, less)))))

pub members_same : (f g : ℕ → Bool) → ((n : ℕ) → n < member_limit → f n ≡ g n) → members f ≡ members g
unfolding members
members_same f g h = passing_same f g 0 member_limit (λ n le less. h n (omega (arith, less)))

passing_none : (from count : ℕ) → passing (λ n. false) from count ≡ []
passing_none from zero = refl
passing_none from (suc count) = passing_none (suc from) count

-- where none passes it is empty
pub members_none : (f : ℕ → Bool) → ((n : ℕ) → n < member_limit → f n ≡ false) → members f ≡ []
unfolding members
members_none f h = members_same f (λ n. false) h ∙ passing_none 0 member_limit

-- ---- one more ordinal

pub passing_more : (f : ℕ → Bool) (from count : ℕ) → passing f from (suc count) ≡ passing f from count ++ put_where (f (from + count)) (from + count) []
passing_more f from zero = let same : from + 0 ≡ from = omega arith in rw same refl
passing_more f from (suc count) =
    let same : from + suc count ≡ suc from + count = omega arith in
    let rest : passing f (suc from) (suc count) ≡ passing f (suc from) count ++ put_where (f (from + suc count)) (from + suc count) [] = rw same (passing_more f (suc from) count) in
    ap (put_where (f from) from) rest ∙ put_append (f from) from (passing f (suc from) count) (put_where (f (from + suc count)) (from + suc count) [])

-- the ordinals below the limit that pass are the set
pub members_all : (f : ℕ → Bool) → passing f 0 member_limit ≡ members f
unfolding members
members_all f = refl

-- ---- inclusion

or_left : (a b : Bool) → a ≡ true → (a || b) ≡ true
or_left a b e = rw e refl

or_right : (a b : Bool) → b ≡ true → (a || b) ≡ true
or_right true b e = refl
or_right false b e = e

and_true : (a b : Bool) → a ≡ true → b ≡ true → (a && b) ≡ true
and_true a b e f = rw (e, f) refl

and_false : (a b : Bool) → b ≡ false → (a && b) ≡ false
and_false true b e = e
and_false false b e = refl

number_is : (m n : ℕ) → (m == n) ≡ true → m ≡ n
number_is m n h = grind (arith, nat_tests)

pub subset_yes : (ms ns : List ℕ) → ((n : ℕ) → has n ms ≡ true → has n ns ≡ true) → is_subset ms ns ≡ true
subset_yes [] ns h = refl
subset_yes (m ∷ ms) ns h =
    and_true (has m ns) (is_subset ms ns) (h m (or_left (m == m) (has m ms) (same_number m))) (subset_yes ms ns (λ n is. h n (or_right (m == n) (has n ms) is)))

pub subset_no : (ms ns : List ℕ) (n : ℕ) → has n ms ≡ true → has n ns ≡ false → is_subset ms ns ≡ false
subset_no [] ns n is lacks = cc
subset_no (m ∷ ms) ns n is lacks = by_test (λ there. subset_no ms ns n there lacks) (m == n) refl is
  where
    by_test : (has n ms ≡ true → is_subset ms ns ≡ false) → (b : Bool) → (m == n) ≡ b → (b || has n ms) ≡ true → (has m ns && is_subset ms ns) ≡ false
    by_test rest true e h = let none : has m ns ≡ false = ap (λ k. has k ns) (number_is m n e) ∙ lacks in rw none refl
    by_test rest false e h = and_false (has m ns) (is_subset ms ns) (rest h)

pub between_yes : (lo hi : ℤ) (ms : List ℕ) → ((n : ℕ) → has n ms ≡ true → is_between (pos n) lo hi ≡ true) → are_between lo hi ms ≡ true
between_yes lo hi [] h = refl
between_yes lo hi (m ∷ ms) h =
    and_true (is_between (pos m) lo hi) (are_between lo hi ms) (h m (or_left (m == m) (has m ms) (same_number m))) (between_yes lo hi ms (λ n is. h n (or_right (m == n) (has n ms) is)))

pub between_no : (lo hi : ℤ) (ms : List ℕ) (n : ℕ) → has n ms ≡ true → is_between (pos n) lo hi ≡ false → are_between lo hi ms ≡ false
between_no lo hi [] n is lacks = cc
between_no lo hi (m ∷ ms) n is lacks = by_test (λ there. between_no lo hi ms n there lacks) (m == n) refl is
  where
    by_test : (has n ms ≡ true → are_between lo hi ms ≡ false) → (b : Bool) → (m == n) ≡ b → (b || has n ms) ≡ true → (is_between (pos m) lo hi && are_between lo hi ms) ≡ false
    by_test rest true e h = let none : is_between (pos m) lo hi ≡ false = ap (λ k. is_between (pos k) lo hi) (number_is m n e) ∙ lacks in rw none refl
    by_test rest false e h = and_false (is_between (pos m) lo hi) (are_between lo hi ms) (rest h)

-- so each member lies there
pub between_at : (lo hi : ℤ) (ms : List ℕ) (n : ℕ) → are_between lo hi ms ≡ true → has n ms ≡ true → is_between (pos n) lo hi ≡ true
between_at lo hi ms n all there = by_test (is_between (pos n) lo hi) refl
  where
    by_test : (b : Bool) → is_between (pos n) lo hi ≡ b → b ≡ true
    by_test true e = refl
    by_test false e = let none : are_between lo hi ms ≡ false = between_no lo hi ms n there e in cc

-- ---- sets

-- what is made of ordinals that pass is a set
pub members_set : (f : ℕ → Bool) → IsSet (members f)
members_set f = members_same f (λ n. has n (members f)) (λ n less. sym (has_members f n less))

-- and so is the empty set
pub none_set : IsSet []
unfolding members
none_set = refl

-- there are no more members than may be
few : (f : ℕ → Bool) (n count : ℕ) → length (passing f n count) ≤ count
few f n zero = omega arith
few f n (suc count) = at_most (f n) (few f (suc n) count)
  where
    at_most : (b : Bool) → length (passing f (suc n) count) ≤ count → length (put_where b n (passing f (suc n) count)) ≤ suc count
    at_most true h = omega (arith, h)
    at_most false h = omega (arith, h)

pub few_members : (ms : List ℕ) → IsSet ms → length ms ≤ member_limit
unfolding members
few_members ms is = let many : length ms ≡ length (passing (λ n. has n ms) 0 member_limit) = ap length is in omega (arith, many, few (λ n. has n ms) 0 member_limit)
