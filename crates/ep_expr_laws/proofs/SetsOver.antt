-- Sets over a host: what set constructors and the operations on sets give of values of the host and of sets over it.
use Rattle.std.proofs.Common.{◌≡◌, ℕ, ℤ, pos, negsuc, ◌<◌, ◌==◌, ◌||◌, ◌&&◌, ltb, int_lt, Bool, true, false, List, [], Option, Some, None, cond, IsTrue, refl, sym, ◌∙◌, subst, arith, inl, inr}
use Rattle.std.proofs.lemmas.Bool.{cases_lt}
use Rattle.std.proofs.lemmas.Bool.Decides.{nat_tests}
use Rattle.std.proofs.lemmas.Int.{ints}
use Rattle.ep_typed.specs.Hosts.{Host, greatest, is_of_host, least}
use Rattle.ep_values.specs.Sets.{has, is_between, is_ordinal, member_limit, members, with_member, with_number, with_numbers, with_span}
use Rattle.ep_values.specs.declared.operations.SetOperation.{SetOperation}
use Rattle.ep_values.specs.declared.operations.SetOperation.TheVariants as set
use Rattle.ep_values.proofs.public.Sets.{between_at, between_yes, has_members, has_no_more, members_set, none_set}
use Rattle.ep_expr_laws.specs.Agreement.{IsSetOver}
use Rattle.ep_rules.specs.SetFolding.{takes, takes_ordinal}

-- what is taken is in one of two sets
takes_within : {P : Type 0} (operation : SetOperation) (x y : Bool) → (x ≡ true → P) → (y ≡ true → P) → takes operation x y ≡ true → P
takes_within operation true y f g e = f refl
takes_within operation false true f g e = g refl
takes_within set.Union false false f g e = cc
takes_within set.Difference false false f g e = cc
takes_within set.Intersection false false f g e = cc
takes_within set.SymmetricDifference false false f g e = cc
takes_within set.Equal false false f g e = cc
takes_within set.Unequal false false f g e = cc
takes_within set.Subset false false f g e = cc
takes_within set.Superset false false f g e = cc
takes_within set.In false false f g e = cc

-- what lies between two numbers lies where these do
between_within : (a b lo hi z : ℤ) → is_between lo a b ≡ true → is_between hi a b ≡ true → is_between z lo hi ≡ true → is_between z a b ≡ true
between_within a b lo hi z p q r = grind (arith, nat_tests, ints)

or_none : (b : Bool) → (b || false) ≡ true → b ≡ true
or_none true e = refl
or_none false e = e

module _ (h : Host) where
  -- ordinals that pass are members over the host where they are values of it
  over : (f : ℕ → Bool) → ((n : ℕ) → n < member_limit → f n ≡ true → is_between (pos n) (least h) (greatest h) ≡ true) → IsSetOver h (members f)
  over f each = (
    members_set f,
    between_yes (least h) (greatest h) (members f) (λ n is. elim (cases_lt n member_limit) [
      | inl less ↦ each n less (sym (has_members f n less) ∙ is)
      | inr past ↦ let missing : has n (members f) ≡ false = has_no_more f n past in cc
    ]),
  )

  pub empty-over : IsSetOver h []
  empty-over = (none_set, refl)

  pub combined-over : (operation : SetOperation) (ms ns : List ℕ) → IsSetOver h ms → IsSetOver h ns → IsSetOver h (members (takes_ordinal operation ms ns))
  combined-over operation ms ns p q =
      over (takes_ordinal operation ms ns) (λ n less is. takes_within operation (has n ms) (has n ns) (between_at (least h) (greatest h) ms n p.1) (between_at (least h) (greatest h) ns n q.1) is)

  -- a set that is found is one over the host
  abbrev pub IsFound : Option (List ℕ) → Type 0
  IsFound (Some ms) = IsSetOver h ms
  IsFound None = Unit {0}

  member-over : (n : ℕ) → IsTrue (is_of_host h (pos n)) → IsSetOver h (with_member n [])
  member-over n value = over (λ k. n == k || has k []) (λ k less is. let same : n ≡ k = number_is n k (or_none (n == k) is) in subst (λ m. is_between (pos m) (least h) (greatest h) ≡ true) same value)
    where
      number_is : (m n : ℕ) → (m == n) ≡ true → m ≡ n
      number_is m n e = grind (arith, nat_tests)

  pub single-over : (z : ℤ) → IsTrue (is_of_host h z) → IsFound (with_number z [])
  single-over (pos n) value = by_test (ltb n member_limit)
    where
      by_test : (b : Bool) → IsFound (cond b (Some (with_member n [])) None)
      by_test true = member-over n value
      by_test false = tt
  single-over (negsuc n) value = tt

  span-over : (lo hi : ℤ) → IsTrue (is_of_host h lo) → IsTrue (is_of_host h hi) → IsSetOver h (with_span lo hi [])
  span-over lo hi p q = over (λ n. is_between (pos n) lo hi || has n []) (λ n less is. between_within (least h) (greatest h) lo hi (pos n) p q (or_none (is_between (pos n) lo hi) is))

  pub range-over : (lo hi : ℤ) → IsTrue (is_of_host h lo) → IsTrue (is_of_host h hi) → IsFound (with_numbers lo hi [])
  range-over lo hi p q = by_tests (int_lt hi lo) (is_ordinal lo && is_ordinal hi)
    where
      by_tests : (a b : Bool) → IsFound (cond a (Some []) (cond b (Some (with_span lo hi [])) None))
      by_tests true b = empty-over
      by_tests false true = span-over lo hi p q
      by_tests false false = tt
