-- What is counted where a type is met, and that room is lost where the machine meets a limit.
use Rattle.std.proofs.Common.{leb, ltb, ◌≡◌, ℕ, suc, ◌+◌, ◌*◌, ◌≤◌, ◌<◌, Bool, true, false, IsTrue, ◌∷◌, length, refl, sym, ap, ◌∙◌, arith}
use Rattle.std.specs.Prelude.{◌&&◌, ◌||◌, not, nat_le, if◌then◌else◌}
use Rattle.std.specs.List.{list_any}
use Rattle.std.proofs.lemmas.Bool.Decides.{nat_tests}
use Rattle.ep_simulation.specs.Matching.{Injection, MatchesCounts}
use Rattle.ep_object.specs.State.{Segments, TypeTable, live_limit, size_limit, type_limit}
use Rattle.ep_meaning.specs.Steps.{Resources, held, words_of_type, met, watched, sized}
use Rattle.ep_values.specs.TypeValues.{size_of, same_type}
use Rattle.ep_meaning.specs.Steps as meaning
use Rattle.ep_meaning.specs.Steps.{Allocation}
use Rattle.ep_values.specs.TypeValues.{TypeValue}

-- the words of type values only rise
pub met-typed : (t : TypeValue) (r : Resources) → r.typed ≤ (met t r).typed
met-typed t r = go (list_any (same_type t) r.types)
  where
    go : (b : Bool)
        → r.typed ≤ (sized t (watched (if b then r else record r { types = t ∷ r.types; typed = r.typed + words_of_type t }))).typed
    go true = omega arith
    go false = omega arith

-- what is held stays the same where a type is met
pub met-held : (t : TypeValue) (r : Resources)
    → ((met t r).allocated ≡ r.allocated) × ((met t r).reserved ≡ r.reserved)
met-held t r = go (list_any (same_type t) r.types)
  where
    go : (b : Bool)
        → ((sized t (watched (if b then r else record r { types = t ∷ r.types; typed = r.typed + words_of_type t }))).allocated ≡ r.allocated) × ((sized t (watched (if b then r else record r { types = t ∷ r.types; typed = r.typed + words_of_type t }))).reserved ≡ r.reserved)
    go true = (refl, refl)
    go false = (refl, refl)

-- no fewer types are counted
pub met_types-le : (t : TypeValue) (r : Resources) → length r.types ≤ length (met t r).types
met_types-le t r = go (list_any (same_type t) r.types)
  where
    go : (b : Bool)
        → length r.types ≤ length (sized t (watched (if b then r else record r { types = t ∷ r.types; typed = r.typed + words_of_type t }))).types
    go true = omega arith
    go false = omega arith

-- a type that is not among them is counted
pub met_new : (t : TypeValue) (r : Resources) → (IsTrue (list_any (same_type t) r.types) → ⊥)
    → (suc (length r.types) ≤ length (met t r).types) × (r.typed + words_of_type t ≤ (met t r).typed)
met_new t r n = go (list_any (same_type t) r.types) n
  where
    go : (b : Bool) → (IsTrue b → ⊥)
        → (suc (length r.types) ≤ length (sized t (watched (if b then r else record r { types = t ∷ r.types; typed = r.typed + words_of_type t }))).types) × (r.typed + words_of_type t ≤ (sized t (watched (if b then r else record r { types = t ∷ r.types; typed = r.typed + words_of_type t }))).typed)
    go true f = absurd (f refl)
    go false f = (omega arith, omega arith)

-- room is lost where so many words live, or so many types are counted
pub lost_words : (r : Resources) → 4194305 ≤ held r + r.typed → IsTrue (watched r).lost
lost_words r h = let full : nat_le (held r + r.typed) meaning.room_for_words ≡ false = grind (arith, nat_tests) in go r.lost (nat_le (held r + r.typed) meaning.room_for_words) (nat_le (length r.types) meaning.room_for_types) full
  where
    go : (lost a b : Bool) → a ≡ false → IsTrue (lost || not (a && b))
    go true a b e = refl
    go false true b e = cc
    go false false b e = refl

pub lost_types : (r : Resources) → 262001 ≤ length r.types → IsTrue (watched r).lost
lost_types r h = let full : nat_le (length r.types) meaning.room_for_types ≡ false = grind (arith, nat_tests) in go r.lost (nat_le (held r + r.typed) meaning.room_for_words) (nat_le (length r.types) meaning.room_for_types) full
  where
    go : (lost a b : Bool) → b ≡ false → IsTrue (lost || not (a && b))
    go true a b e = refl
    go false true true e = cc
    go false true false e = refl
    go false false b e = refl

-- Where more words would live than may at most, the meaning has passed what every run has: a word of a type value counts
-- 4, and the limit is 4 times as high.
pub past_limit : (live : ℕ) (r : Resources) → live_limit < live → live ≤ held r + 4 * r.typed
    → 4194305 ≤ held r + r.typed
past_limit live r full bounded = omega (arith, full, bounded)

-- no more words live than what is held and 4 for each word of a type value
pub live_bounded : {injection : Injection} {r : Resources} {segments : Segments} {types : TypeTable} {live : ℕ}
    → MatchesCounts injection r segments types live → live ≤ held r + 4 * r.typed
live_bounded c = omega (arith, c.words, c.hidden)

-- the limits are not met, or room is lost
pub full_lost : (a b : ℕ) (r : Resources) → (ltb a type_limit && leb b live_limit) ≡ false
    → a ≤ 2 * length r.types + 5 → b ≤ held r + 4 * r.typed → IsTrue (watched r).lost
full_lost a b r full few live = go (ltb a type_limit) refl
  where
    go : (x : Bool) → ltb a type_limit ≡ x → IsTrue (watched r).lost
    go true e = lost_words r (let f : leb b live_limit ≡ false = sym (ap (λ y. y && leb b live_limit) e) ∙ full in past_limit b r (grind (arith, nat_tests)) live)
    go false e = lost_types r (grind (arith, nat_tests))

-- room that was lost stays lost
sized_lost : (t : TypeValue) (r : Resources) → IsTrue r.lost → IsTrue (sized t r).lost
sized_lost t r h = rw h refl

-- room is lost where a new type or its bare form passes a limit, which counts so many words
pub met_lost : (a b w : ℕ) (t : TypeValue) (r : Resources) → (IsTrue (list_any (same_type t) r.types) → ⊥)
    → (ltb a type_limit && leb (b + w) live_limit) ≡ false → a ≤ 2 * length r.types + 6 → b + w ≤ held r + 4 * r.typed + 2 * words_of_type t
    → IsTrue (met t r).lost
met_lost a b w t r new full few live = go (list_any (same_type t) r.types) new
  where
    go : (x : Bool) → (IsTrue x → ⊥)
        → IsTrue (sized t (watched (if x then r else record r { types = t ∷ r.types; typed = r.typed + words_of_type t }))).lost
    go true n = absurd (n refl)
    go false n =
        sized_lost t (watched (record r { types = t ∷ r.types; typed = r.typed + words_of_type t }))
        (full_lost a (b + w) (record r { types = t ∷ r.types; typed = r.typed + words_of_type t }) full (omega (arith, few)) (omega (arith, live)))

-- and where a variable of the type would have too many words
pub met_large : (t : TypeValue) (r : Resources) → size_limit < size_of t → IsTrue (met t r).lost
met_large t r large = go (watched (if list_any (same_type t) r.types then r else record r { types = t ∷ r.types; typed = r.typed + words_of_type t }))
  where
    past : nat_le (size_of t) meaning.room_for_words ≡ false
    past = grind (arith, nat_tests)

    go : (x : Resources) → IsTrue (sized t x).lost
    go x = by_flag x.lost (nat_le (size_of t) meaning.room_for_words) past
      where
        by_flag : (lost b : Bool) → b ≡ false → IsTrue (lost || not b)
        by_flag true b e = refl
        by_flag false true e = cc
        by_flag false false e = refl
