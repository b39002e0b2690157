-- Sets that are made of ordinals one after another, from 0 on, of those that pass.
use Rattle.std.proofs.Common.{◌≡◌, ℕ, ℤ, pos, negsuc, suc, ◌+◌, ◌<◌, ◌≤◌, ◌==◌, ◌||◌, ◌&&◌, ltb, int_lt, List, [], ◌∷◌, ◌++◌, get_or, Bool, true, false, Option, Some, None, cond, refl, sym, ap, ◌∙◌, arith}
use Rattle.std.proofs.lemmas.Bool.Decides.{nat_tests}
use Rattle.std.proofs.lemmas.Int.{ints}
use Rattle.ep_values.specs.Sets.{has, is_between, is_member, is_ordinal, member_limit, members, passing, put_where, with_member, with_number, with_numbers, with_span}
use Rattle.ep_values.specs.declared.operations.SetOperation.{SetOperation}
use Rattle.ep_values.specs.declared.operations.SetOperation.TheVariants as set
use Rattle.ep_rules.specs.SetFolding.{combination, ordinal_at, takes_ordinal}
use Rattle.ep_values.proofs.public.Sets.{members_all, members_same, passing_more}

-- one ordinal more, where it passes and where it does not
next_passing : (f : ℕ → Bool) (n : ℕ) (b : Bool) → f n ≡ b → passing f 0 (n + 1) ≡ passing f 0 n ++ put_where b n []
next_passing f n b e =
    let one : n + 1 ≡ suc n = omega arith in
    let same : 0 + n ≡ n = omega arith in
    rw one (passing_more f 0 n ∙ rw same (ap (λ c. passing f 0 n ++ put_where c n []) e))

none_more : (ns : List ℕ) → ns ++ [] ≡ ns
none_more [] = refl
none_more (n ∷ ns) = ap (λ ms. n ∷ ms) (none_more ns)

pub taken_more : (f : ℕ → Bool) (n : ℕ) (ns : List ℕ) → ns ≡ passing f 0 n → f n ≡ true → ns ++ n ∷ [] ≡ passing f 0 (n + 1)
taken_more f n ns before e = ap (λ ms. ms ++ n ∷ []) before ∙ sym (next_passing f n true e)

pub left_out : (f : ℕ → Bool) (n : ℕ) (ns : List ℕ) → ns ≡ passing f 0 n → f n ≡ false → ns ≡ passing f 0 (n + 1)
left_out f n ns before e = before ∙ (sym (none_more (passing f 0 n)) ∙ sym (next_passing f n false e))

-- all that pass
pub all_taken : (f : ℕ → Bool) (n : ℕ) (ns : List ℕ) → ns ≡ passing f 0 n → n ≡ member_limit → ns ≡ members f
all_taken f n ns before e = before ∙ (ap (passing f 0) e ∙ members_all f)

-- what lies between two numbers is no member of the empty set besides
or_none : (b : Bool) → (b || false) ≡ b
or_none true = refl
or_none false = refl

pub spans : (low high : ℤ) (n : ℕ) (b : Bool) → is_between (pos n) low high ≡ b → (is_between (pos n) low high || has n []) ≡ b
spans low high n b e = or_none (is_between (pos n) low high) ∙ e

-- one number is a range
span_one : (n : ℕ) → with_span (pos n) (pos n) [] ≡ with_member n []
span_one n = members_same (λ k. is_between (pos k) (pos n) (pos n) || has k []) (λ k. n == k || has k []) (λ k less. ap (λ b. b || false) (same k))
  where
    same : (k : ℕ) → is_between (pos k) (pos n) (pos n) ≡ (n == k)
    same k = grind (arith, nat_tests, ints)

range_of_one : (a b c : Bool) (n : ℕ) → a ≡ false → b ≡ c → cond a (Some []) (cond (b && b) (Some (with_span (pos n) (pos n) [])) None) ≡ cond c (Some (with_member n [])) None
range_of_one true b c n e f = cc
range_of_one false true true n e f = ap (λ ms. Some ms) (span_one n)
range_of_one false true false n e f = cc
range_of_one false false true n e f = cc
range_of_one false false false n e f = refl

below_none : (a : Bool) → a ≡ false → ◌≡◌ {A = Option (List ℕ)} (cond a (Some []) None) None
below_none true e = cc
below_none false e = refl

pub single_range : (z : ℤ) → with_numbers z z [] ≡ with_number z []
single_range (pos n) =
    let ordered : int_lt (pos n) (pos n) ≡ false = grind (arith, nat_tests, ints) in
    let within : is_ordinal (pos n) ≡ ltb n member_limit = grind (arith, nat_tests, ints) in
    range_of_one (int_lt (pos n) (pos n)) (is_ordinal (pos n)) (ltb n member_limit) n ordered within
single_range (negsuc n) =
    let ordered : int_lt (negsuc n) (negsuc n) ≡ false = grind (arith, nat_tests, ints) in
    below_none (int_lt (negsuc n) (negsuc n)) ordered

-- what is taken of two sets is what the operation makes of them
pub combination_is : (operation : SetOperation) (ms ns : List ℕ) → members (takes_ordinal operation ms ns) ≡ combination operation ms ns
combination_is set.Union ms ns = refl
combination_is set.Difference ms ns = refl
combination_is set.Intersection ms ns = refl
combination_is set.SymmetricDifference ms ns = refl
combination_is set.Equal ms ns = refl
combination_is set.Unequal ms ns = refl
combination_is set.Subset ms ns = refl
combination_is set.Superset ms ns = refl
combination_is set.In ms ns = refl

-- ---- numbers as members

pub number_told : (z : ℤ) (ms : List ℕ) (n : ℕ) → Some n ≡ ordinal_at z → has n ms ≡ is_member z ms
number_told (negsuc k) ms n e = cc
number_told (pos k) ms n e = by_test (ltb k member_limit) e
  where
    by_test : (b : Bool) → Some n ≡ cond b (Some k) None → has n ms ≡ has k ms
    by_test true h = let same : n ≡ k = cc in ap (λ m. has m ms) same
    by_test false h = cc

-- bytes are ordinals that may be members
no_byte : (n : ℕ) (ms : List ℕ) → ((i : ℕ) → get_or ms i 0 < member_limit) → member_limit ≤ n → has n ms ≡ false
no_byte n [] bytes past = refl
no_byte n (m ∷ ms) bytes past =
    let first : m < member_limit = bytes 0 in
    let other : (m == n) ≡ false = grind (arith, nat_tests, first, past) in
    rw other (no_byte n ms (λ i. bytes (suc i)) past)

pub number_missing : (z : ℤ) (ms : List ℕ) → ((i : ℕ) → get_or ms i 0 < member_limit) → None ≡ ordinal_at z → false ≡ is_member z ms
number_missing (negsuc k) ms bytes e = refl
number_missing (pos k) ms bytes e = by_test (ltb k member_limit) refl e
  where
    by_test : (b : Bool) → ltb k member_limit ≡ b → ◌≡◌ {A = Option ℕ} None (cond b (Some k) None) → false ≡ has k ms
    by_test true less h = cc
    by_test false past h = sym (no_byte k ms bytes (grind (arith, nat_tests, past)))
