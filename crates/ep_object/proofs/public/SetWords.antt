-- Sets in words: what the words of a set tell is the set.
use Rattle.std.proofs.Common.{◌≡◌, ℕ, pos, zero, suc, ◌+◌, ◌*◌, ◌/◌, ◌%◌, ◌<◌, ◌≤◌, ◌==◌, ◌||◌, Bool, true, false, List, [], ◌∷◌, length, Some, slice_get, refl, sym, ap, ◌∙◌, subst, arith}
use Rattle.std.specs.Prelude.{⊤}
use Rattle.std.specs.Int.{bit_at}
use Rattle.std.proofs.lemmas.Nat.Bits.{bit_at_lowest, bit_at-suc}
use Rattle.ep_object.specs.Effects.{Continues}
use Rattle.ep_object.specs.Operands.{Operand, Set}
use Rattle.ep_object.specs.Places.{set_loaded}
use Rattle.ep_object.specs.Sets.{IsSet, bits_from, digit, has, member_limit, members, passing, put_where, set_in, set_size, tells, word_members, with_member, words_from, words_of_set}
use Rattle.ep_object.proofs.public.Sets.{has_members, members_same}
pub use Rattle.ep_values.proofs.public.Sets.{few_members, members_set, none_set}

-- the lowest bit of a number that is made so, and the others
lowest : (b : Bool) (n : ℕ) → bit_at (digit b + 2 * n) 0 ≡ digit b
lowest true n = bit_at_lowest (1 + 2 * n) ∙ omega arith
lowest false n = bit_at_lowest (0 + 2 * n) ∙ omega arith

higher : (b : Bool) (n i : ℕ) → bit_at (digit b + 2 * n) (suc i) ≡ bit_at n i
higher true n i = let half : (1 + 2 * n) / 2 ≡ n = omega arith in bit_at-suc (1 + 2 * n) i ∙ ap (λ m. bit_at m i) half
higher false n i = let half : (0 + 2 * n) / 2 ≡ n = omega arith in bit_at-suc (0 + 2 * n) i ∙ ap (λ m. bit_at m i) half

-- each bit tells of one ordinal
bit_told : (count n : ℕ) (ms : List ℕ) (i : ℕ) → i < count → bit_at (bits_from count n ms) i ≡ digit (has (n + i) ms)
bit_told zero n ms i less = absurd (omega (arith, less))
bit_told (suc count) n ms zero less =
    let same : n ≡ n + 0 = omega arith in lowest (has n ms) (bits_from count (suc n) ms) ∙ ap (λ m. digit (has m ms)) same
bit_told (suc count) n ms (suc i) less =
    let same : suc n + i ≡ n + suc i = omega arith in
    higher (has n ms) (bits_from count (suc n) ms) i ∙ (bit_told count (suc n) ms i (omega (arith, less)) ∙ ap (λ m. digit (has m ms)) same)

-- each word tells of so many
word_there : (count n : ℕ) (ms : List ℕ) (i : ℕ) → i < count → slice_get (words_from count n ms) i ≡ Some (pos (bits_from word_members (n + i * word_members) ms))
word_there zero n ms i less = absurd (omega (arith, less))
word_there (suc count) n ms zero less =
    let same : n ≡ n + 0 * word_members = omega arith in ap (λ m. Some (pos (bits_from word_members m ms))) same
word_there (suc count) n ms (suc i) less =
    let same : n + word_members + i * word_members ≡ n + suc i * word_members = omega arith in
    word_there count (n + word_members) ms i (omega (arith, less)) ∙ ap (λ m. Some (pos (bits_from word_members m ms))) same

is_one : (b : Bool) → (digit b == 1) ≡ b
is_one true = refl
is_one false = refl

-- what the words of a set tell
told : (ms : List ℕ) (n : ℕ) → n < member_limit → tells (n % word_members) (slice_get (words_of_set ms) (n / word_members)) ≡ has n ms
unfolding words_of_set
told ms n less =
    let at_word : n / word_members < set_size = omega (arith, less) in
    let at_bit : n % word_members < word_members = omega arith in
    let whole : 0 + n / word_members * word_members + n % word_members ≡ n = omega arith in
    ap (λ w. tells (n % word_members) w) (word_there set_size 0 ms (n / word_members) at_word)
    ∙ (ap (λ b. b == 1) (bit_told word_members (0 + n / word_members * word_members) ms (n % word_members) at_bit)
    ∙ (is_one (has (0 + n / word_members * word_members + n % word_members) ms) ∙ ap (λ m. has m ms) whole))

-- the set in the words of a set is that one
pub set_in_words : (ms : List ℕ) → IsSet ms → set_in (words_of_set ms) ≡ ms
set_in_words ms is = members_same (λ n. tells (n % word_members) (slice_get (words_of_set ms) (n / word_members))) (λ n. has n ms) (told ms) ∙ sym is

-- there are eight words
pub words_many : (ms : List ℕ) → length (words_of_set ms) ≡ set_size
unfolding words_of_set
words_many ms = refl

-- the first of them is defined, so they are loaded
pub words_loaded : (ms : List ℕ) (st : List Operand) → IsSet ms → set_loaded (words_of_set ms) st ≡ Continues (Set ms ∷ st)
unfolding words_of_set
words_loaded ms st is = ap (λ ns. Continues (Set ns ∷ st)) (set_in_words ms is)

-- ---- members one after another

-- the set with all of these besides
abbrev pub with_members : List ℕ → List ℕ → List ℕ
with_members [] ns = ns
with_members (m ∷ ms) ns = with_members ms (with_member m ns)

-- all of them may be members
abbrev pub AreOrdinals : List ℕ → Type 0
AreOrdinals [] = ⊤
AreOrdinals (m ∷ ms) = (m < member_limit) × AreOrdinals ms

below_limit : (f : ℕ → Bool) (n count : ℕ) → n + count ≤ member_limit → AreOrdinals (passing f n count)
below_limit f n zero le = tt
below_limit f n (suc count) le = put (f n) (below_limit f (suc n) count (omega (arith, le)))
  where
    put : (b : Bool) → AreOrdinals (passing f (suc n) count) → AreOrdinals (put_where b n (passing f (suc n) count))
    put true h = (omega (arith, le), h)
    put false h = h

-- so it is with those of a set
pub set_ordinals : (ms : List ℕ) → IsSet ms → AreOrdinals ms
unfolding members
set_ordinals ms is = subst AreOrdinals (sym is) (below_limit (λ n. has n ms) 0 member_limit (omega arith))

with_set : (ms ns : List ℕ) → IsSet ns → IsSet (with_members ms ns)
with_set [] ns is = is
with_set (m ∷ ms) ns is = with_set ms (with_member m ns) (members_set (λ n. m == n || has n ns))

-- what is in it is one of these, or was in it
with_has : (ms ns : List ℕ) (n : ℕ) → n < member_limit → has n (with_members ms ns) ≡ (has n ms || has n ns)
with_has [] ns n less = refl
with_has (m ∷ ms) ns n less =
    with_has ms (with_member m ns) n less ∙ (ap (λ b. has n ms || b) (has_members (λ k. m == k || has k ns) n less) ∙ turned (has n ms) (m == n) (has n ns))
  where
    turned : (a b c : Bool) → (a || (b || c)) ≡ ((b || a) || c)
    turned true true c = refl
    turned true false c = refl
    turned false true c = refl
    turned false false c = refl

-- the set with all members of a set, one after another, is that set
pub all_members : (ms : List ℕ) → IsSet ms → with_members ms [] ≡ ms
all_members ms is =
    with_set ms [] none_set ∙ (members_same (λ n. has n (with_members ms [])) (λ n. has n ms) (λ n less. with_has ms [] n less ∙ right_false (has n ms)) ∙ sym is)
  where
    right_false : (b : Bool) → (b || false) ≡ b
    right_false true = refl
    right_false false = refl
