-- What words of a set come to.
use Rattle.std.specs.Prelude.{◌≡◌, ℕ, ℤ, pos, ◌+◌, ◌*◌, ◌<◌, ◌==◌, ◌&&◌, ◌||◌, not, int_le, leb, ltb}
use Rattle.std.specs.Prelude.{List, Option, Some, None, Bool, true, false}
use Rattle.std.specs.Int.{bit_at}
use Rattle.ep_object.specs.Sets.{member_limit, word_members}
use Rattle.ep_object.specs.WordRows.{is_between}
use Rattle.ep_decode.specs.declared.op.Combination.{Combination}
use Rattle.ep_decode.specs.declared.op.Combination.TheVariants.{Union, Difference, Intersection, SymmetricDifference}
use Rattle.ep_frames.specs.Members.{is_told}
use Rattle.ep_frames.specs.declared.members.Members.{Members}

-- whether a bit of a word is 1
abbrev pub is_one : ℕ → ℕ → Bool
is_one word place = bit_at word place == 1

-- the members are those that pass
abbrev pub Tells : Members → (ℕ → Bool) → Type 0
Tells m f = (n : ℕ) → n < member_limit → is_told m.words n ≡ f n

-- whether what is made of two sets has what is in the first and in the second so
abbrev pub either : Combination → Bool → Bool → Bool
either Union x y = x || y
either Difference x y = x && not y
either Intersection x y = x && y
either SymmetricDifference x y = x && not y || y && not x

-- an ordinal is from the first to the one before the last, or a member already
abbrev pub is_in_span : ℕ → ℕ → List ℕ → ℕ → Bool
is_in_span lo before words n = leb lo n && ltb n before || is_told words n

-- no word tells of a member, or one is told of
abbrev pub IsEmptiness : Bool → Members → Type 0
IsEmptiness true m = (n : ℕ) → n < member_limit → is_told m.words n ≡ false
IsEmptiness false m = (n : ℕ) × (n < member_limit) × (is_told m.words n ≡ true)

-- a word has no bit that is 1, or has one
abbrev pub IsZero : Bool → ℕ → Type 0
IsZero true word = word ≡ 0
IsZero false word = (place : ℕ) × (place < word_members) × (is_one word place ≡ true)

-- the lowest bit of a word that is 1
abbrev pub IsLowest : ℕ → ℕ → Type 0
IsLowest place word =
    (place < word_members) × (is_one word place ≡ true) × ((i : ℕ) → i < place → is_one word i ≡ false)

-- the highest one
abbrev pub IsHighest : ℕ → ℕ → Type 0
IsHighest place word =
    (place < word_members) × (is_one word place ≡ true) × ((i : ℕ) → place < i → is_one word i ≡ false)

-- a bit of the word at a place tells of an ordinal that does not lie from one number to another
abbrev pub tells_outside : ℤ → ℤ → ℕ → ℕ → ℕ → Bool
tells_outside lo hi place word i = is_one word i && not (is_between (pos (place * word_members + i)) lo hi)

-- no bit of the word at a place tells of such an ordinal, or one does
abbrev pub AreInside : Bool → ℤ → ℤ → ℕ → ℕ → Type 0
AreInside true lo hi place word = (i : ℕ) → i < word_members → tells_outside lo hi place word i ≡ false
AreInside false lo hi place word = (i : ℕ) × (i < word_members) × (tells_outside lo hi place word i ≡ true)

-- a bit of the word at a place tells of an ordinal from a number on
abbrev pub tells_from : ℤ → ℕ → ℕ → ℕ → Bool
tells_from from place word i = int_le from (pos (place * word_members + i)) && is_one word i

-- the least of these ordinals, or that there is none
abbrev pub IsLeastIn : ℤ → ℕ → ℕ → Option ℕ → Type 0
IsLeastIn from place word None = (i : ℕ) → i < word_members → tells_from from place word i ≡ false
IsLeastIn from place word (Some n) =
    (i : ℕ)
    × (i < word_members)
    × (n ≡ place * word_members + i)
    × (tells_from from place word i ≡ true)
    × ((k : ℕ) → k < i → tells_from from place word k ≡ false)
