-- The members that a word of a set tells of, all at once.
use Rattle.std.proofs.Common.{◌≡◌, ℕ, ℤ, pos, negsuc, zero, suc, ◌+◌, ◌-◌, ◌*◌, ◌/◌, ◌%◌, ◌^◌, ◌<◌, ◌≤◌, ◌==◌, ◌&&◌, not, int_le, int_lt, ltb, List, [], ◌∷◌, Bool, true, false, leb, Some, None, cond, count_ones, get_or, w32, add-zero, lt_of_lt_of_le, pow-suc, pow_pos, pow_mono, mod-eq_of_lt, refl, sym, ap, ◌∙◌, subst, arith, inl, inr}
use Rattle.std.proofs.lemmas.Bool.{cases_lt}
use Rattle.std.proofs.lemmas.Bool.Decides.{nat_tests}
use Rattle.std.proofs.lemmas.Int.{ints}
use Rattle.std.proofs.lemmas.Nat.{mod-pow-add, mod_below, ones_cat, ones_le_self, shr-shr, shr_high, zero_from_ones}
use Rattle.std.proofs.lemmas.Nat.Bits.{bit_at-lt, bit_at-trailing_zeros, bit_at-zero}
use Rattle.std.specs.Int.{bit_at, trailing_zeros}
use Rattle.ep_object.specs.Effects.{index}
use Rattle.ep_object.specs.SetRows.{least_from}
use Rattle.ep_object.specs.Sets.{are_between, member_limit}
use Rattle.ep_object.specs.WordRows.{is_between}
use Rattle.ep_object.proofs.public.Sets.{count_below, count_more}
use Rattle.ep_frames.specs.Members.{is_told, set_of}
use Rattle.ep_frames.specs.declared.members.Members.{Members}
use Rattle.ep_rows.specs.Members.{is_one, tells_from, tells_outside, AreInside, IsHighest, IsLeastIn, IsLowest}
use Rattle.ep_rows.proofs.SetBits.{inside_told, least_found, least_missing, outside_told}

-- ---- the ends of a word

pub lowest_is : (word : ℕ) → 0 < word → word < 2 ^ 32 → IsLowest (trailing_zeros w32 word) word
lowest_is word some fits =
    let x = bit_at-trailing_zeros w32 word some fits in
    (x.0, ap (λ b. b == 1) x.1, λ i less. ap (λ b. b == 1) (x.2 i less))

pub highest_is : (place word : ℕ) → place < 32 → 2 ^ place ≤ word → word < 2 * 2 ^ place → IsHighest place word
highest_is place word within reached less = (within, ap (λ b. b == 1) top, λ i more. ap (λ b. b == 1) (above i more))
  where
    top : bit_at word place ≡ 1
    top =
        let split : word ≡ 1 * 2 ^ place + (word - 2 ^ place) = omega (arith, reached) in
        let rest : word - 2 ^ place < 2 ^ place = omega (arith, reached, less) in
        ap (λ n. n / 2 ^ place % 2) split ∙ ap (λ n. n % 2) (shr_high 1 place (word - 2 ^ place) rest)

    above : (i : ℕ) → place < i → bit_at word i ≡ 0
    above i more =
        let grows : 2 ^ suc place ≤ 2 ^ i = pow_mono more in
        let below : word < 2 ^ i = omega (arith, less, grows, pow-suc 2 place) in
        let split : word ≡ 0 * 2 ^ i + word = omega arith in
        ap (λ n. n / 2 ^ i % 2) split ∙ ap (λ n. n % 2) (shr_high 0 i word below)

-- ---- between two numbers

le_more : (z : ℤ) (m n : ℕ) → m ≤ n → int_le z (pos m) ≡ true → int_le z (pos n) ≡ true
le_more (pos k) m n le h = grind (arith, nat_tests, ints, le, h)
le_more (negsuc k) m n le h = refl

le_less : (z : ℤ) (m n : ℕ) → m ≤ n → int_le (pos n) z ≡ true → int_le (pos m) z ≡ true
le_less (pos k) m n le h = grind (arith, nat_tests, ints, le, h)
le_less (negsuc k) m n le h = let no : false ≡ true = h in cc

pub inside_empty : (lo hi : ℤ) (place : ℕ) → AreInside true lo hi place 0
inside_empty lo hi place i less = ap (λ b. b == 1 && not (is_between (pos (place * 32 + i)) lo hi)) (bit_at-zero i)

module _ (lo hi : ℤ) (place word low high : ℕ) (lowest : IsLowest low word) (highest : IsHighest high word) where
  abbrev least : ℕ
  least = place * 32 + low

  abbrev greatest : ℕ
  greatest = place * 32 + high

  no_test : (a : Bool) → not (a && false) ≡ true
  no_test true = refl
  no_test false = refl

  inside : int_le lo (pos least) ≡ true → int_le (pos greatest) hi ≡ true → (i : ℕ) (told : Bool) → is_one word i ≡ told → tells_outside lo hi place word i ≡ false
  inside from to i false is = rw is refl
  inside from to i true is =
      let above : low ≤ i = elim (cases_lt i low) [ inl lt ↦ (let no : false ≡ true = sym (lowest.2 i lt) ∙ is in cc) | inr ge ↦ ge ] in
      let below : i ≤ high = elim (cases_lt high i) [ inl lt ↦ (let no : false ≡ true = sym (highest.2 i lt) ∙ is in cc) | inr ge ↦ ge ] in
      let first : int_le lo (pos (place * 32 + i)) ≡ true = le_more lo least (place * 32 + i) (omega (arith, above)) from in
      let last : int_le (pos (place * 32 + i)) hi ≡ true = le_less hi (place * 32 + i) greatest (omega (arith, below)) to in
      rw (is, first, last) refl

  by_tests : (a b : Bool) → int_le lo (pos least) ≡ a → int_le (pos greatest) hi ≡ b → AreInside (a && b) lo hi place word
  by_tests true true from to = λ i less. inside from to i (is_one word i) refl
  by_tests true false from to = (high, highest.0, rw (highest.1, to) (no_test (int_le lo (pos greatest))))
  by_tests false b from to = (low, lowest.0, rw (lowest.1, from) refl)

  pub inside_by : AreInside (int_le lo (pos (place * 32 + low)) && int_le (pos (place * 32 + high)) hi) lo hi place word
  inside_by = by_tests (int_le lo (pos least)) (int_le (pos greatest) hi) refl refl

-- one place more
pub next_place : (P : ℕ → Type 0) (place : ℕ) → ((k : ℕ) → k < place → P k) → P place → (k : ℕ) → k < place + 1 → P k
next_place P place before here k less =
    elim (cases_lt k place) [
      | inl lt ↦ before k lt
      | inr ge ↦ let e : k ≡ place = omega (arith, less, ge) in subst P (sym e) here
    ]

pub words_outside : (lo hi : ℤ) (m : Members) (k : ℕ) → k < 8 → AreInside false lo hi k (get_or m.words k 0) → false ≡ are_between lo hi (set_of m)
words_outside lo hi m k less some =
    let i = some.0 in
    let block : (k * 32 + i) / 32 ≡ k = omega (arith, some.1) in
    let at : (k * 32 + i) % 32 ≡ i = omega (arith, some.1) in
    let told : is_told m.words (k * 32 + i) ≡ is_one (get_or m.words k 0) i = ap (λ j. is_one (get_or m.words j 0) ((k * 32 + i) % 32)) block ∙ ap (is_one (get_or m.words k 0)) at in
    outside_told lo hi m (k * 32 + i) (omega (arith, less, some.1)) (ap (λ b. b && not (is_between (pos (k * 32 + i)) lo hi)) told ∙ some.2)

pub words_inside : (lo hi : ℤ) (m : Members) → ((k : ℕ) → k < 8 → AreInside true lo hi k (get_or m.words k 0)) → true ≡ are_between lo hi (set_of m)
words_inside lo hi m each =
    inside_told lo hi m (λ n less.
    let whole : n ≡ n / 32 * 32 + n % 32 = omega arith in
    ap (λ k. is_told m.words n && not (is_between (pos k) lo hi)) whole ∙ each (n / 32) (omega (arith, less)) (n % 32) (omega arith))

-- ---- how many

none_one : count_ones 0 ≡ 0
none_one = omega (arith, ones_le_self 0)

one_one : count_ones 1 ≡ 1
one_one = by_count (count_ones 1) (ones_le_self 1) (zero_from_ones 1)
  where
    by_count : (c : ℕ) → c ≤ 1 → (c ≡ zero → suc zero ≡ zero) → c ≡ 1
    by_count zero le some = absurd (omega (arith, some refl))
    by_count (suc zero) le some = refl
    by_count (suc (suc c)) le some = absurd (omega (arith, le))

bit_one : (b : ℕ) → b < 2 → count_ones b ≡ cond (b == 1) 1 0
bit_one zero less = none_one
bit_one (suc zero) less = one_one
bit_one (suc (suc b)) less = absurd (omega (arith, less))

-- the ordinals from one on that pass where a bit of the word is 1
module _ (f : ℕ → Bool) (w m : ℕ) (bits : (i : ℕ) → i < 32 → f (m + i) ≡ is_one w i) where
  low_bits : (j : ℕ) → count_ones (w % 2 ^ (1 + j)) ≡ cond (is_one w j) 1 0 + count_ones (w % 2 ^ j)
  low_bits j =
      ap count_ones (mod-pow-add w 1 j)
      ∙ (ones_cat j (bit_at w j) (w % 2 ^ j) (mod_below w (2 ^ j) (pow_pos j))
      ∙ ap (λ c. c + count_ones (w % 2 ^ j)) (bit_one (bit_at w j) (bit_at-lt w j)))

  counted : (j : ℕ) → j ≤ 32 → count_below f (m + j) ≡ count_below f m + count_ones (w % 2 ^ j)
  counted zero le =
      let none : count_ones (w % 2 ^ 0) ≡ 0 = (let e : w % 2 ^ 0 ≡ 0 = omega arith in ap count_ones e ∙ none_one) in
      ap (count_below f) (add-zero m) ∙ omega (arith, none)
  counted (suc j) le =
      let next : m + suc j ≡ m + j + 1 = omega arith in
      let one : suc j ≡ 1 + j = omega arith in
      let more : count_below f (m + j + 1) ≡ count_below f (m + j) + cond (is_one w j) 1 0 = count_more f (m + j) ∙ ap (λ b. count_below f (m + j) + cond b 1 0) (bits j (omega (arith, le))) in
      let before = counted j (omega (arith, le)) in
      let low = low_bits j in
      let same : count_ones (w % 2 ^ suc j) ≡ count_ones (w % 2 ^ (1 + j)) = ap (λ k. count_ones (w % 2 ^ k)) one in
      ap (count_below f) next ∙ omega (arith, more, before, low, same)

  pub word_counted : w < 2 ^ 32 → count_below f (m + 32) ≡ count_below f m + count_ones w
  word_counted fits = counted 32 (omega arith) ∙ ap (λ n. count_below f m + count_ones n) (mod-eq_of_lt fits)

pub words_counted : (words : List ℕ) (place : ℕ) → get_or words place 0 < 2 ^ 32
    → count_below (is_told words) ((place + 1) * 32) ≡ count_below (is_told words) (place * 32) + count_ones (get_or words place 0)
words_counted words place fits =
    let next : (place + 1) * 32 ≡ place * 32 + 32 = omega arith in
    ap (count_below (is_told words)) next ∙ word_counted (is_told words) (get_or words place 0) (place * 32) at fits
  where
    at : (i : ℕ) → i < 32 → is_told words (place * 32 + i) ≡ is_one (get_or words place 0) i
    at i less =
        let block : (place * 32 + i) / 32 ≡ place = omega (arith, less) in
        let rest : (place * 32 + i) % 32 ≡ i = omega (arith, less) in
        ap (λ j. is_one (get_or words j 0) ((place * 32 + i) % 32)) block ∙ ap (is_one (get_or words place 0)) rest

-- ---- the least member from a number on

no_more : (a : Bool) → (a && false) ≡ false
no_more true = refl
no_more false = refl

-- an ordinal of a word is reached where so many are passed
tests : (from place i : ℕ) → int_le (pos from) (pos (place * 32 + i)) ≡ leb (from - place * 32) i
tests from place i =
    elim (cases_lt i (from - place * 32)) [
      | inl lt ↦
          let less : place * 32 + i < from = omega (arith, lt) in
          let a : int_le (pos from) (pos (place * 32 + i)) ≡ false = grind (arith, nat_tests, ints, less) in
          let b : leb (from - place * 32) i ≡ false = grind (arith, nat_tests, lt) in
          a ∙ sym b
      | inr ge ↦
          let reached : from ≤ place * 32 + i = omega (arith, ge) in
          let a : int_le (pos from) (pos (place * 32 + i)) ≡ true = grind (arith, nat_tests, ints, reached) in
          let b : leb (from - place * 32) i ≡ true = grind (arith, nat_tests, ge) in
          a ∙ sym b
    ]

module _ (from place word passed : ℕ) (is : passed ≡ from - place * 32) where
  test : (i : ℕ) → int_le (pos from) (pos (place * 32 + i)) ≡ leb passed i
  test i = tests from place i ∙ ap (λ p. leb p i) (sym is)

  left_bit : (i : ℕ) → is_one (word / 2 ^ passed) i ≡ is_one word (passed + i)
  left_bit i = ap (λ n. n % 2 == 1) (shr-shr word passed i)

  below : (i : ℕ) → i < passed → tells_from (pos from) place word i ≡ false
  below i less = let no : leb passed i ≡ false = grind (arith, nat_tests, less) in ap (λ b. b && is_one word i) (test i ∙ no)

  pub none_passed : (passed < 32 → ⊥) → IsLeastIn (pos from) place word None
  none_passed all i less = elim (cases_lt i passed) [ inl lt ↦ below i lt | inr ge ↦ absurd (all (omega (arith, ge, less))) ]

  missing : (i : ℕ) → passed ≤ i → is_one (word / 2 ^ passed) (i - passed) ≡ false → tells_from (pos from) place word i ≡ false
  missing i reached none =
      let e : i ≡ passed + (i - passed) = omega (arith, reached) in
      ap (λ b. int_le (pos from) (pos (place * 32 + i)) && b) (ap (is_one word) e ∙ (sym (left_bit (i - passed)) ∙ none)) ∙ no_more (int_le (pos from) (pos (place * 32 + i)))

  pub none_left : word / 2 ^ passed ≡ 0 → IsLeastIn (pos from) place word None
  none_left none i less =
      elim (cases_lt i passed) [
        | inl lt ↦ below i lt
        | inr ge ↦ missing i ge (ap (λ n. is_one n (i - passed)) none ∙ ap (λ b. b == 1) (bit_at-zero (i - passed)))
      ]

  pub least_left : word < 2 ^ 32 → (low : ℕ) → IsLowest low (word / 2 ^ passed) → IsLeastIn (pos from) place word (Some (place * 32 + passed + low))
  least_left fits low lowest = (passed + low, bound, omega arith, rw (there, reached) refl, before)
    where
      there : is_one word (passed + low) ≡ true
      there = sym (left_bit low) ∙ lowest.1

      reached : int_le (pos from) (pos (place * 32 + (passed + low))) ≡ true
      reached = let yes : leb passed (passed + low) ≡ true = grind (arith, nat_tests) in test (passed + low) ∙ yes

      bound : passed + low < 32
      bound =
          elim (cases_lt (passed + low) 32) [
            | inl lt ↦ lt
            | inr ge ↦
                let grows : 2 ^ 32 ≤ 2 ^ (passed + low) = pow_mono ge in
                let split : word ≡ 0 * 2 ^ (passed + low) + word = omega arith in
                let none : bit_at word (passed + low) ≡ 0 = ap (λ n. n / 2 ^ (passed + low) % 2) split ∙ ap (λ n. n % 2) (shr_high 0 (passed + low) word (lt_of_lt_of_le fits grows)) in
                let no : false ≡ true = sym (ap (λ b. b == 1) none) ∙ there in
                cc
          ]

      before : (k : ℕ) → k < passed + low → tells_from (pos from) place word k ≡ false
      before k less =
          elim (cases_lt k passed) [
            | inl lt ↦ below k lt
            | inr ge ↦ missing k ge (lowest.2 (k - passed) (omega (arith, less, ge)))
          ]

-- and of a set
in_words : (from : ℤ) (words : List ℕ) (n : ℕ) → tells_from from (n / 32) (get_or words (n / 32) 0) (n % 32) ≡ false → (int_le from (pos n) && is_told words n) ≡ false
in_words from words n none =
    let whole : n ≡ n / 32 * 32 + n % 32 = omega arith in
    ap (λ k. int_le from (pos k) && is_told words n) whole ∙ none

pub words_least : (from : ℤ) (m : Members) (place n : ℕ) → place < 8 → ((k : ℕ) → k < place → IsLeastIn from k (get_or m.words k 0) None)
    → IsLeastIn from place (get_or m.words place 0) (Some n) → pos n ≡ least_from from (set_of m)
words_least from m place n less before some =
    let i = some.0 in
    let block : (place * 32 + i) / 32 ≡ place = omega (arith, some.1) in
    let at : (place * 32 + i) % 32 ≡ i = omega (arith, some.1) in
    let told : is_told m.words (place * 32 + i) ≡ is_one (get_or m.words place 0) i = ap (λ j. is_one (get_or m.words j 0) ((place * 32 + i) % 32)) block ∙ ap (is_one (get_or m.words place 0)) at in
    let found : (int_le from (pos (place * 32 + i)) && is_told m.words (place * 32 + i)) ≡ true = ap (λ b. int_le from (pos (place * 32 + i)) && b) told ∙ some.3 in
    ap pos some.2 ∙ least_found from m (place * 32 + i) (omega (arith, less, some.1)) found (λ k lt. in_words from m.words k (earlier k lt))
  where
    earlier : (k : ℕ) → k < place * 32 + some.0 → tells_from from (k / 32) (get_or m.words (k / 32) 0) (k % 32) ≡ false
    earlier k lt =
        elim (cases_lt (k / 32) place) [
          | inl below ↦ before (k / 32) below (k % 32) (omega arith)
          | inr reached ↦
              let block : k / 32 ≡ place = omega (arith, reached, lt, some.1) in
              ap (λ j. tells_from from j (get_or m.words j 0) (k % 32)) block ∙ some.4 (k % 32) (omega (arith, block, lt))
        ]

pub words_none : (from : ℤ) (m : Members) → ((k : ℕ) → k < 8 → IsLeastIn from k (get_or m.words k 0) None) → negsuc 0 ≡ least_from from (set_of m)
words_none from m each = least_missing from m (λ n less. in_words from m.words n (each (n / 32) (omega (arith, less)) (n % 32) (omega arith)))

-- a number that is no ordinal
pub least_below : (z : ℤ) (ms : List ℕ) → int_lt z (pos 0) ≡ true → least_from (pos 0) ms ≡ least_from z ms
least_below (pos n) ms less = let no : int_lt (pos n) (pos 0) ≡ false = grind (arith, nat_tests, ints) in cc
least_below (negsuc n) [] less = refl
least_below (negsuc n) (m ∷ ms) less = let reached : int_le (pos 0) (pos m) ≡ true = grind (arith, nat_tests, ints) in ap (λ b. cond b (pos m) (least_from (pos 0) ms)) reached

pub least_within : (z : ℤ) (n : ℕ) (ms : List ℕ) → Some n ≡ index member_limit z → least_from (pos n) ms ≡ least_from z ms
least_within (negsuc k) n ms e = cc
least_within (pos k) n ms e = by_test (ltb k member_limit) e
  where
    by_test : (b : Bool) → Some n ≡ cond b (Some k) None → least_from (pos n) ms ≡ least_from (pos k) ms
    by_test true h = let same : n ≡ k = cc in ap (λ j. least_from (pos j) ms) same
    by_test false h = cc

pub least_beyond : (z : ℤ) (m : Members) → None ≡ index member_limit z → int_le (pos 0) z ≡ true → negsuc 0 ≡ least_from z (set_of m)
least_beyond (negsuc k) m e reached = let no : false ≡ true = reached in cc
least_beyond (pos k) m e reached = by_test (ltb k member_limit) refl e
  where
    by_test : (b : Bool) → ltb k member_limit ≡ b → None ≡ cond b (Some k) None → negsuc 0 ≡ least_from (pos k) (set_of m)
    by_test true less h = cc
    by_test false past h =
        least_missing (pos k) m (λ n less.
        let no : int_le (pos k) (pos n) ≡ false = grind (arith, nat_tests, ints, past, less) in
        ap (λ b. b && is_told m.words n) no)
