-- The bits of the words of a set.
use Rattle.std.proofs.Common.{◌≡◌, ◌≢◌, ℕ, ℤ, pos, negsuc, zero, suc, ◌+◌, ◌*◌, ◌/◌, ◌%◌, ◌^◌, ◌<◌, ◌≤◌, ◌==◌, ◌||◌, ◌&&◌, not, leb, ltb, List, [], ◌∷◌, Some, None, Bool, true, false, cond, length, get_or, slice_get, slice_index, replicate, int_le, to_z, of_z, w64, SFits, nat_abs, slice_set, w32, bit_or, bit_and, bit_xor, min, max, add-zero, pow-suc, refl, sym, ap, ◌∙◌, subst, arith, inl, inr}
use Rattle.std.proofs.lemmas.Bool.{cases_eq, cases_lt}
use Rattle.std.proofs.lemmas.Bool.Decides.{nat_tests}
use Rattle.std.proofs.lemmas.List.{get_or-set_same, get_or-set_other}
use Rattle.std.proofs.lemmas.Nat.{shr_split}
use Rattle.std.proofs.lemmas.Nat.Bits.{bit_at-lt, bit_at-suc, bit_at-trailing_zeros, bit_at_cat_low, bit_at_lowest, bit_at-zero, bit_at_and, bit_at_or, bit_at_set_other, bit_at_set_same, bit_at_xor}
use Rattle.std.specs.Int.Signed.{rem_z}
use Rattle.std.specs.Int.{bit_at, trailing_zeros}
use Rattle.std.proofs.lemmas.Int.{ints, to_z-of_z}
use Rattle.ep_decode.specs.Operations.{combination_number}
use Rattle.ep_decode.specs.declared.op.Combination.{Combination}
use Rattle.ep_decode.specs.declared.op.Combination.TheVariants.{Union, Difference, Intersection, SymmetricDifference}
use Rattle.ep_object.specs.Effects.{index}
use Rattle.ep_object.specs.SetRows.{combined, is_member, least_from}
use Rattle.ep_object.specs.Sets.{are_between, with_member, with_span, bits_from, digit, has, is_subset, member_limit, members, set_in, tells, word_members, words_from, words_of_set}
use Rattle.ep_object.specs.WordRows.{is_between}
use Rattle.ep_object.proofs.public.Sets.{between_no, between_yes, has_members, has_no_more, least_is, least_none, members_none, members_same, subset_no, subset_yes}
use Rattle.ep_frames.specs.Members.{is_told, set_of}
use Rattle.ep_frames.specs.declared.members.Members.{Members}
use Rattle.ep_rows.specs.Members.{either, is_in_span, is_one, IsEmptiness, IsZero, Tells}

-- words that are 0 tell of none
zeros : (count k : ℕ) → slice_index (replicate count 0) k ≡ 0
zeros zero k = refl
zeros (suc count) zero = refl
zeros (suc count) (suc k) = zeros count k

pub none_told : set_of (record { words = replicate 8 0 }) ≡ []
none_told = members_none (is_told (replicate 8 0)) (λ n less. ap (λ w. is_one w (n % 32)) (zeros 8 (n / 32)) ∙ ap (λ b. b == 1) (bit_at-zero (n % 32)))

-- a set is told by what its members pass
pub told_set : (m : Members) (f : ℕ → Bool) → Tells m f → set_of m ≡ members f
told_set m f h = members_same (is_told m.words) f h

-- words that are replaced one after another
pub set_each : {A : Type 0} (P : ℕ → A → Type 0) (words : List A) (place : ℕ) (v d : A) → place < length words
    → ((k : ℕ) → k < place → P k (get_or words k d)) → P place v → (k : ℕ) → k < place + 1 → P k (get_or (slice_set words place v) k d)
set_each P words place v d there before here k less =
    elim (cases_lt k place) [
      | inl lt ↦ subst (P k) (sym (get_or-set_other words place k v d (λ e. absurd (omega (arith, lt, e))))) (before k lt)
      | inr ge ↦
          let e : k ≡ place = omega (arith, less, ge) in
          subst (λ j. P j (get_or (slice_set words place v) j d)) (sym e) (subst (P place) (sym (get_or-set_same words place v d there)) here)
    ]

-- ---- one member more

module _ (words : List ℕ) (member n : ℕ) (all : length words ≡ 8) (is_member : member < member_limit) where
  abbrev word : ℕ
  word = get_or words (member / 32) 0

  abbrev changed : ℕ
  changed = bit_or word (1 * 2 ^ (member % 32) % 4294967296)

  abbrev later : List ℕ
  later = slice_set words (member / 32) changed

  apart : member ≢ n → (member == n) ≡ false
  apart differ = grind (arith, nat_tests, differ)

  other : n / 32 ≢ member / 32 → is_told later n ≡ (member == n || is_told words n)
  other block =
      let no : (member == n) ≡ false = apart (λ e. block (sym (ap (λ k. k / 32) e))) in
      rw no (ap (λ w. is_one w (n % 32)) (get_or-set_other words (member / 32) (n / 32) changed 0 block))

  here : n / 32 ≡ member / 32 → get_or later (n / 32) 0 ≡ changed
  here block = ap (λ k. get_or later k 0) block ∙ get_or-set_same words (member / 32) changed 0 (omega (arith, all, is_member))

  beside : n / 32 ≡ member / 32 → n % 32 ≢ member % 32 → is_told later n ≡ (member == n || is_told words n)
  beside block place =
      let no : (member == n) ≡ false = apart (λ e. place (sym (ap (λ k. k % 32) e))) in
      rw no
      (ap (λ w. is_one w (n % 32)) (here block)
      ∙ (ap (λ b. b == 1) (bit_at_set_other w32 word (member % 32) (omega arith) (n % 32) place)
      ∙ ap (λ k. is_one (get_or words k 0) (n % 32)) (sym block)))

  it : n / 32 ≡ member / 32 → n % 32 ≡ member % 32 → is_told later n ≡ (member == n || is_told words n)
  it block place =
      let e : member ≡ n = omega (arith, block, place) in
      let yes : (member == n) ≡ true = grind (arith, nat_tests, e) in
      rw yes
      (ap (λ w. is_one w (n % 32)) (here block)
      ∙ (ap (is_one changed) place
      ∙ ap (λ b. b == 1) (bit_at_set_same w32 word (member % 32) (omega arith))))

  pub with_told : is_told later n ≡ (member == n || is_told words n)
  with_told =
      elim (cases_eq (n / 32) (member / 32)) [
        | inr block ↦ other block
        | inl block ↦ elim (cases_eq (n % 32) (member % 32)) [ inl place ↦ it block place | inr place ↦ beside block place ]
      ]

-- ---- two words

or_bits : (a b : ℕ) → a < 2 → b < 2 → (max a b == 1) ≡ (a == 1 || b == 1)
or_bits zero zero p q = refl
or_bits zero (suc zero) p q = refl
or_bits (suc zero) zero p q = refl
or_bits (suc zero) (suc zero) p q = refl
or_bits (suc (suc a)) b p q = absurd (omega (arith, p))
or_bits a (suc (suc b)) p q = absurd (omega (arith, q))

and_bits : (a b : ℕ) → a < 2 → b < 2 → (min a b == 1) ≡ (a == 1 && b == 1)
and_bits zero zero p q = refl
and_bits zero (suc zero) p q = refl
and_bits (suc zero) zero p q = refl
and_bits (suc zero) (suc zero) p q = refl
and_bits (suc (suc a)) b p q = absurd (omega (arith, p))
and_bits a (suc (suc b)) p q = absurd (omega (arith, q))

minus_bits : (a b : ℕ) → a < 2 → b < 2 → ((a + min a b) % 2 == 1) ≡ (a == 1 && not (b == 1))
minus_bits zero zero p q = refl
minus_bits zero (suc zero) p q = refl
minus_bits (suc zero) zero p q = refl
minus_bits (suc zero) (suc zero) p q = refl
minus_bits (suc (suc a)) b p q = absurd (omega (arith, p))
minus_bits a (suc (suc b)) p q = absurd (omega (arith, q))

xor_bits : (a b : ℕ) → a < 2 → b < 2 → ((a + b) % 2 == 1) ≡ (a == 1 && not (b == 1) || b == 1 && not (a == 1))
xor_bits zero zero p q = refl
xor_bits zero (suc zero) p q = refl
xor_bits (suc zero) zero p q = refl
xor_bits (suc zero) (suc zero) p q = refl
xor_bits (suc (suc a)) b p q = absurd (omega (arith, p))
xor_bits a (suc (suc b)) p q = absurd (omega (arith, q))

module _ (x y place : ℕ) where
  pub union_bit : is_one (bit_or x y) place ≡ (is_one x place || is_one y place)
  union_bit = ap (λ b. b == 1) (bit_at_or x y place) ∙ or_bits (bit_at x place) (bit_at y place) (bit_at-lt x place) (bit_at-lt y place)

  pub intersection_bit : is_one (bit_and x y) place ≡ (is_one x place && is_one y place)
  intersection_bit = ap (λ b. b == 1) (bit_at_and x y place) ∙ and_bits (bit_at x place) (bit_at y place) (bit_at-lt x place) (bit_at-lt y place)

  pub difference_bit : is_one (bit_xor x (bit_and x y)) place ≡ (is_one x place && not (is_one y place))
  difference_bit =
      ap (λ b. b == 1) (bit_at_xor x (bit_and x y) place ∙ ap (λ b. (bit_at x place + b) % 2) (bit_at_and x y place))
      ∙ minus_bits (bit_at x place) (bit_at y place) (bit_at-lt x place) (bit_at-lt y place)

  pub symmetric_bit : is_one (bit_xor x y) place ≡ (is_one x place && not (is_one y place) || is_one y place && not (is_one x place))
  symmetric_bit = ap (λ b. b == 1) (bit_at_xor x y place) ∙ xor_bits (bit_at x place) (bit_at y place) (bit_at-lt x place) (bit_at-lt y place)

-- ---- no member

-- a word that is not 0 has a bit that is 1
pub some_bit : (word : ℕ) → word < 2 ^ 32 → word ≢ 0 → (place : ℕ) × (place < 32) × (is_one word place ≡ true)
some_bit word fits some =
    let x = bit_at-trailing_zeros w32 word (omega (arith, some)) fits in
    (trailing_zeros w32 word, x.0, ap (λ b. b == 1) x.1)

-- the ordinal that it tells of
pub told_at : (words : List ℕ) (k place : ℕ) → k < 8 → place < 32 → is_one (get_or words k 0) place ≡ true
    → (n : ℕ) × (n < member_limit) × (is_told words n ≡ true)
told_at words k place less within is =
    let block : (32 * k + place) / 32 ≡ k = omega (arith, within) in
    let at : (32 * k + place) % 32 ≡ place = omega (arith, within) in
    (32 * k + place, omega (arith, less, within), ap (λ j. is_one (get_or words j 0) ((32 * k + place) % 32)) block ∙ (ap (is_one (get_or words k 0)) at ∙ is))

pub none_in : (words : List ℕ) → ((k : ℕ) → k < 8 → get_or words k 0 ≡ 0) → (n : ℕ) → n < member_limit → is_told words n ≡ false
none_in words none n less = ap (λ w. is_one w (n % 32)) (none (n / 32) (omega (arith, less))) ∙ ap (λ b. b == 1) (bit_at-zero (n % 32))

-- ---- a span of members

pub span_begins : (lo n : ℕ) (told : Bool) → told ≡ (leb lo n && ltb n lo || told)
span_begins lo n told = elim (cases_lt n lo) [ inl lt ↦ let no : leb lo n ≡ false = grind (arith, nat_tests, lt) in rw no refl | inr ge ↦ let no : ltb n lo ≡ false = grind (arith, nat_tests, ge) in by_test (leb lo n) (ltb n lo) no ]
  where
    by_test : (a b : Bool) → b ≡ false → told ≡ (a && b || told)
    by_test true b e = rw e refl
    by_test false b e = refl

pub span_goes_on : (lo m n : ℕ) (told : Bool) → lo ≤ m → (m == n || (leb lo n && ltb n m || told)) ≡ (leb lo n && ltb n (m + 1) || told)
span_goes_on lo m n told le =
    elim (cases_eq m n) [
      | inl e ↦
          let yes : (m == n) ≡ true = grind (arith, nat_tests, e) in
          let from : leb lo n ≡ true = grind (arith, nat_tests, e, le) in
          let before : ltb n (m + 1) ≡ true = grind (arith, nat_tests, e) in
          rw (yes, from, before) refl
      | inr differ ↦
          let other : (m == n) ≡ false = grind (arith, nat_tests, differ) in
          let same : ltb n m ≡ ltb n (m + 1) = grind (arith, nat_tests, differ) in
          rw (other, same) refl
    ]

-- ---- inclusion

pub subset_told : (ms ns all : Members) (b : Bool) → Tells all (λ n. is_told ms.words n && not (is_told ns.words n)) → IsEmptiness b all
    → b ≡ is_subset (set_of ms) (set_of ns)
subset_told ms ns all true tells none =
    sym (subset_yes (set_of ms) (set_of ns) (λ n is. elim (cases_lt n member_limit) [
      | inl less ↦ has_members (is_told ns.words) n less ∙ implied (is_told ms.words n) (is_told ns.words n) (sym (tells n less) ∙ none n less) (sym (has_members (is_told ms.words) n less) ∙ is)
      | inr past ↦ let missing : has n (set_of ms) ≡ false = has_no_more (is_told ms.words) n past in cc
    ]))
  where
    implied : (a b : Bool) → (a && not b) ≡ false → a ≡ true → b ≡ true
    implied true true e f = refl
    implied true false e f = sym e
    implied false b e f = cc
subset_told ms ns all false tells some =
    let n = some.0 in
    let x = parts (is_told ms.words n) (is_told ns.words n) (sym (tells n some.1) ∙ some.2) in
    sym (subset_no (set_of ms) (set_of ns) n (has_members (is_told ms.words) n some.1 ∙ x.0) (has_members (is_told ns.words) n some.1 ∙ x.1))
  where
    parts : (a b : Bool) → (a && not b) ≡ true → (a ≡ true) × (b ≡ false)
    parts true false e = (refl, refl)
    parts true true e = cc
    parts false b e = cc

both_of : (a b : Bool) → (a && not b) ≡ true → (a ≡ true) × (b ≡ false)
both_of true false e = (refl, refl)
both_of true true e = cc
both_of false b e = cc

pub outside_told : (lo hi : ℤ) (m : Members) (n : ℕ) → n < member_limit → (is_told m.words n && not (is_between (pos n) lo hi)) ≡ true → false ≡ are_between lo hi (set_of m)
outside_told lo hi m n less h =
    let x = both_of (is_told m.words n) (is_between (pos n) lo hi) h in
    sym (between_no lo hi (set_of m) n (has_members (is_told m.words) n less ∙ x.0) x.1)

pub inside_told : (lo hi : ℤ) (m : Members) → ((n : ℕ) → n < member_limit → (is_told m.words n && not (is_between (pos n) lo hi)) ≡ false) → true ≡ are_between lo hi (set_of m)
inside_told lo hi m h =
    sym (between_yes lo hi (set_of m) (λ n is. elim (cases_lt n member_limit) [
      | inl less ↦ implied (is_told m.words n) (is_between (pos n) lo hi) (h n less) (sym (has_members (is_told m.words) n less) ∙ is)
      | inr past ↦ let missing : has n (set_of m) ≡ false = has_no_more (is_told m.words) n past in cc
    ]))
  where
    implied : (a b : Bool) → (a && not b) ≡ false → a ≡ true → b ≡ true
    implied true true e f = refl
    implied true false e f = sym e
    implied false b e f = cc

-- ---- the least member

first_and : (a b : Bool) → (a && b) ≡ true → (a ≡ true) × (b ≡ true)
first_and true true e = (refl, refl)
first_and true false e = cc
first_and false b e = cc

if_first : (a b : Bool) → (a && b) ≡ false → a ≡ true → b ≡ false
if_first true b e f = e
if_first false b e f = cc

pub least_found : (from : ℤ) (m : Members) (n : ℕ) → n < member_limit → (int_le from (pos n) && is_told m.words n) ≡ true
    → ((k : ℕ) → k < n → (int_le from (pos k) && is_told m.words k) ≡ false) → pos n ≡ least_from from (set_of m)
least_found from m n less h before =
    let x = first_and (int_le from (pos n)) (is_told m.words n) h in
    sym (least_is (is_told m.words) from n less x.1 x.0 (λ k lt reached. if_first (int_le from (pos k)) (is_told m.words k) (before k lt) reached))

pub least_missing : (from : ℤ) (m : Members) → ((k : ℕ) → k < member_limit → (int_le from (pos k) && is_told m.words k) ≡ false) → negsuc 0 ≡ least_from from (set_of m)
least_missing from m before = sym (least_none (is_told m.words) from (λ k lt reached. if_first (int_le from (pos k)) (is_told m.words k) (before k lt) reached))

-- ---- one step more

pub next_zero : (words : List ℕ) (place : ℕ) → ((k : ℕ) → k < place → get_or words k 0 ≡ 0) → get_or words place 0 ≡ 0 → (k : ℕ) → k < place + 1 → get_or words k 0 ≡ 0
next_zero words place before here k less =
    elim (cases_lt k place) [
      | inl lt ↦ before k lt
      | inr ge ↦ let e : k ≡ place = omega (arith, less, ge) in ap (λ j. get_or words j 0) e ∙ here
    ]

pub next_false : (f : ℕ → Bool) (place : ℕ) → ((k : ℕ) → k < place → f k ≡ false) → f place ≡ false → (k : ℕ) → k < place + 1 → f k ≡ false
next_false f place before here k less =
    elim (cases_lt k place) [
      | inl lt ↦ before k lt
      | inr ge ↦ let e : k ≡ place = omega (arith, less, ge) in ap f e ∙ here
    ]

-- whether a word is 0
pub zero_told : (word : ℕ) → word < 2 ^ 32 → IsZero (word == 0) word
zero_told zero fits = refl
zero_told (suc n) fits = let no : (suc n == 0) ≡ false = grind (arith, nat_tests) in rw no (some_bit (suc n) fits (λ e. absurd (omega (arith, e))))

-- ---- words of the machine

-- the lowest bits of a word
pub low_bit : (w place : ℕ) → place < word_members → is_one (w % 4294967296) place ≡ is_one w place
low_bit w place less =
    let whole : w / 2 ^ 32 * 2 ^ 32 + w % 2 ^ 32 ≡ w = shr_split w 32 in
    ap (λ b. b == 1) (sym (bit_at_cat_low (w / 2 ^ 32) 32 (w % 2 ^ 32) place less) ∙ ap (λ v. bit_at v place) whole)

-- the bits of a number are told by those of a set
bits_are : (count n w : ℕ) (ms : List ℕ) → w < 2 ^ count → ((i : ℕ) → i < count → has (n + i) ms ≡ is_one w i) → bits_from count n ms ≡ w
bits_are zero n w ms fits h = omega (arith, fits)
bits_are (suc count) n w ms fits h =
    let first : digit (has n ms) ≡ w % 2 = ap (λ k. digit (has k ms)) (sym (add-zero n)) ∙ (ap digit (h 0 (omega arith) ∙ ap (λ b. b == 1) (bit_at_lowest w)) ∙ low_digit (w % 2) (omega arith)) in
    let rest : bits_from count (suc n) ms ≡ w / 2 = bits_are count (suc n) (w / 2) ms (omega (arith, fits, pow-suc 2 count)) (λ i less. ap (λ k. has k ms) (shift i) ∙ (h (suc i) (omega (arith, less)) ∙ ap (λ b. b == 1) (bit_at-suc w i))) in
    omega (arith, first, rest)
  where
    shift : (i : ℕ) → suc n + i ≡ n + suc i
    shift i = omega arith

    low_digit : (d : ℕ) → d < 2 → digit (d == 1) ≡ d
    low_digit zero less = refl
    low_digit (suc zero) less = refl
    low_digit (suc (suc d)) less = absurd (omega (arith, less))

words_are : (count n : ℕ) (ms : List ℕ) (words : List ℤ) → length words ≡ count
    → ((k : ℕ) → k < count → get_or words k (pos 0) ≡ pos (bits_from word_members (n + k * word_members) ms)) → words ≡ words_from count n ms
words_are zero n ms [] all h = refl
words_are zero n ms (w ∷ words) all h = absurd (omega (arith, all))
words_are (suc count) n ms [] all h = absurd (omega (arith, all))
words_are (suc count) n ms (w ∷ words) all h =
    let here : w ≡ pos (bits_from word_members n ms) = h 0 (omega arith) ∙ ap (λ k. pos (bits_from word_members k ms)) (add-zero n) in
    let rest : words ≡ words_from count (n + word_members) ms = words_are count (n + word_members) ms words (omega (arith, all)) (λ k less. h (suc k) (omega (arith, less)) ∙ ap (λ j. pos (bits_from word_members j ms)) (shift k)) in
    (λ i. here i ∷ rest i)
  where
    shift : (k : ℕ) → n + suc k * 32 ≡ n + 32 + k * 32
    shift k = omega arith

-- the words of a set
pub written_is : (m : Members) (words : List ℤ) → length words ≡ 8
    → ((k : ℕ) → k < 8 → (get_or words k (pos 0) ≡ pos (get_or m.words k 0)) × (get_or m.words k 0 < 2 ^ 32)) → words ≡ words_of_set (set_of m)
unfolding words_of_set
written_is m words all each =
    words_are 8 0 (set_of m) words all (λ k less.
    (each k less).0 ∙ ap pos (sym (bits_are 32 (0 + k * 32) (get_or m.words k 0) (set_of m) (each k less).1 (λ i within.
    has_members (is_told m.words) (0 + k * 32 + i) (omega (arith, less, within)) ∙ at k i within))))
  where
    at : (k i : ℕ) → i < 32 → is_told m.words (0 + k * 32 + i) ≡ is_one (get_or m.words k 0) i
    at k i within =
        let block : (0 + k * 32 + i) / 32 ≡ k = omega (arith, within) in
        let place : (0 + k * 32 + i) % 32 ≡ i = omega (arith, within) in
        ap (λ j. is_one (get_or m.words j 0) ((0 + k * 32 + i) % 32)) block ∙ ap (is_one (get_or m.words k 0)) place

-- and the set in words
pub read_is : (m : Members) (words : List ℤ) → ((k : ℕ) → k < 8 → (i : ℕ) → i < 32 → is_one (get_or m.words k 0) i ≡ tells i (slice_get words k)) → set_of m ≡ set_in words
read_is m words each = members_same (is_told m.words) (λ n. tells (n % word_members) (slice_get words (n / word_members))) (λ n less. each (n / 32) (omega (arith, less)) (n % 32) (omega arith))

-- ---- sets of the definition

pub with_set : (m all : Members) (member : ℕ) → Tells all (λ n. member == n || is_told m.words n) → set_of all ≡ with_member member (set_of m)
with_set m all member tells =
    members_same (is_told all.words) (λ n. member == n || has n (set_of m))
    (λ n less. tells n less ∙ ap (λ b. member == n || b) (sym (has_members (is_told m.words) n less)))

pub span_set : (m all : Members) (lo hi : ℕ) → Tells all (λ n. is_in_span lo (hi + 1) m.words n) → set_of all ≡ with_span (pos lo) (pos hi) (set_of m)
span_set m all lo hi tells =
    members_same (is_told all.words) (λ n. is_between (pos n) (pos lo) (pos hi) || has n (set_of m))
    (λ n less. tells n less ∙ (ap (λ b. b || is_told m.words n) (within n) ∙ ap (λ b. is_between (pos n) (pos lo) (pos hi) || b) (sym (has_members (is_told m.words) n less))))
  where
    within : (n : ℕ) → (leb lo n && ltb n (hi + 1)) ≡ is_between (pos n) (pos lo) (pos hi)
    within n = grind (arith, nat_tests, ints)

pub combined_set : (c : Combination) (a b all : Members) → Tells all (λ n. either c (is_told a.words n) (is_told b.words n))
    → combined (combination_number c) (set_of a) (set_of b) ≡ Some (set_of all)
combined_set c a b all tells = by_kind c tells
  where
    same : (f : Bool → Bool → Bool) → Tells all (λ n. f (is_told a.words n) (is_told b.words n)) → members (λ n. f (has n (set_of a)) (has n (set_of b))) ≡ set_of all
    same f h =
        members_same (λ n. f (has n (set_of a)) (has n (set_of b))) (is_told all.words)
        (λ n less. (λ i. f (has_members (is_told a.words) n less i) (has_members (is_told b.words) n less i)) ∙ sym (h n less))

    by_kind : (c : Combination) → Tells all (λ n. either c (is_told a.words n) (is_told b.words n)) → combined (combination_number c) (set_of a) (set_of b) ≡ Some (set_of all)
    by_kind Union h = ap (λ ms. Some ms) (same (λ x y. x || y) h)
    by_kind Difference h = ap (λ ms. Some ms) (same (λ x y. x && not y) h)
    by_kind Intersection h = ap (λ ms. Some ms) (same (λ x y. x && y) h)
    by_kind SymmetricDifference h = ap (λ ms. Some ms) (same (λ x y. x && not y || y && not x) h)

-- the lowest bits of a word that is not negative
pub low_word : (w : ℤ) → SFits w64 w → int_le (pos 0) (to_z w64 (of_z w64 w)) ≡ true → (place : ℕ) → place < word_members
    → is_one (nat_abs (to_z w64 (of_z w64 (rem_z (to_z w64 (of_z w64 w)) (pos 4294967296))))) place ≡ tells place (Some w)
low_word (pos n) fits positive place less =
    let whole : to_z w64 (of_z w64 (pos n)) ≡ pos n = to_z-of_z w64 (pos n) fits in
    let small : to_z w64 (of_z w64 (pos (n % 4294967296))) ≡ pos (n % 4294967296) = to_z-of_z w64 (pos (n % 4294967296)) (record { sfits = omega arith }) in
    rw whole (rw small (low_bit n place less))
low_word (negsuc n) fits positive place less =
    let whole : to_z w64 (of_z w64 (negsuc n)) ≡ negsuc n = to_z-of_z w64 (negsuc n) fits in
    let no : int_le (pos 0) (negsuc n) ≡ true = rw whole at positive in cc

-- whether a number is a member, where it is an ordinal and where it is none
pub number_told : (z : ℤ) (m : Members) (n : ℕ) → Some n ≡ index member_limit z → is_told m.words n ≡ is_member z (set_of m)
number_told (negsuc k) m n e = cc
number_told (pos k) m n e = by_test (ltb k member_limit) refl e
  where
    by_test : (b : Bool) → ltb k member_limit ≡ b → Some n ≡ cond b (Some k) None → is_told m.words n ≡ has k (set_of m)
    by_test true less h =
        let same : n ≡ k = cc in
        ap (is_told m.words) same ∙ sym (has_members (is_told m.words) k (grind (arith, nat_tests, less)))
    by_test false less h = cc

pub number_missing : (z : ℤ) (m : Members) → None ≡ index member_limit z → false ≡ is_member z (set_of m)
number_missing (negsuc k) m e = refl
number_missing (pos k) m e = by_test (ltb k member_limit) refl e
  where
    by_test : (b : Bool) → ltb k member_limit ≡ b → None ≡ cond b (Some k) None → false ≡ has k (set_of m)
    by_test true less h = cc
    by_test false past h = sym (has_no_more (is_told m.words) k (grind (arith, nat_tests, past)))
