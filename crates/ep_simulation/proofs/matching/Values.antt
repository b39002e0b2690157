-- Words that are taken out of others, and that are put among others: what they hold.
use Rattle.std.proofs.Common.{◌≡◌, ℕ, ℤ, pos, negsuc, zero, suc, ◌+◌, ◌-◌, ◌*◌, ◌≤◌, ◌<◌, inl, inr, true, List, [], ◌∷◌, ◌++◌, length, length-append, take, drop, leb, Some, slice_get, refl, sym, ap, ◌∙◌, subst, arith}
use Rattle.std.specs.Prelude.{int_le, nat_eq}
use Rattle.std.proofs.lemmas.Bool.Decides.{nat_tests}
use Rattle.std.proofs.lemmas.List.{length-take-le}
use Rattle.std.proofs.lemmas.Slice.Eq.{bytes_eq-Decides}
use Rattle.ep_simulation.specs.Matching.{Injection, Words, SetAt, HasAt, HaveAt, TypePart, part_along, all_of}
use Rattle.ep_object.specs.Places.{words_at, words_replaced}
use Rattle.ep_object.proofs.public.Elements.{slice_get-drop}
use Rattle.ep_simulation.proofs.matching.Words.{AreSameBut, has_at-same, part_within}
use Rattle.ep_values.specs.Values.{Value, Undefined, component_of}
use Rattle.ep_meaning.specs.Steps as meaning
use Rattle.ep_values.specs.TypeValues.{ComponentTypes, Start, Starts, TypeValue, next_start, no_start, parts_start, same_bounds, same_start, same_starts, same_type, same_types, set_start, simple_start, size_of, undefined_start}
use Rattle.ep_values.specs.TypeValues as type

-- ---- elements

-- the first elements are those of the list
slice_get-take : {A : Type 0} (n : ℕ) (xs : List A) (i : ℕ) → i < n → slice_get (take n xs) i ≡ slice_get xs i
slice_get-take zero xs i less = absurd (omega (arith, less))
slice_get-take (suc n) [] i less = refl
slice_get-take (suc n) (x ∷ xs) zero less = refl
slice_get-take (suc n) (x ∷ xs) (suc i) less = slice_get-take n xs i (omega (arith, less))

-- the elements of the first of two lists stand first
pub slice_get-front : {A : Type 0} (xs ys : List A) (i : ℕ) → i < length xs → slice_get (xs ++ ys) i ≡ slice_get xs i
slice_get-front [] ys i less = absurd (omega (arith, less))
slice_get-front (x ∷ xs) ys zero less = refl
slice_get-front (x ∷ xs) ys (suc i) less = slice_get-front xs ys i (omega (arith, less))

-- and behind them those of the other one
pub slice_get-behind : {A : Type 0} (xs ys : List A) (i : ℕ) → slice_get (xs ++ ys) (length xs + i) ≡ slice_get ys i
slice_get-behind [] ys i = ap (slice_get ys) {x = 0 + i} {y = i} (omega arith)
slice_get-behind (x ∷ xs) ys i = ap (slice_get (x ∷ (xs ++ ys))) {x = suc (length xs) + i} {y = suc (length xs + i)} (omega arith) ∙ slice_get-behind xs ys i

-- ---- words from elsewhere

-- Words that are the same behind so many words hold the same value there.
set_at-moved : (low high : ℤ) (value : Value) (words : Words) (by offset : ℕ) → SetAt low high value words (by + offset) → SetAt low high value (λ i. words (by + i)) offset
set_at-moved low high Undefined words by offset h = λ k less. ap words {x = by + (offset + k)} {y = by + offset + k} (omega arith) ∙ h k less
set_at-moved low high (meaning.Word w) words by offset h = h
set_at-moved low high (meaning.Components of) words by offset h = h
set_at-moved low high (meaning.Members ms) words by offset h =
    record { is_set = h.is_set; within = h.within; told = λ k less. ap words {x = by + (offset + k)} {y = by + offset + k} (omega arith) ∙ h.told k less }

mutual
  pub has_at-moved : (injection : Injection) (t : TypeValue) (value : Value) (words : Words) (by offset : ℕ)
      → HasAt injection t value words (by + offset) → HasAt injection t value (λ i. words (by + i)) offset
  has_at-moved injection (type.Ordinal low high) value words by offset h = h
  has_at-moved injection type.Text value words by offset h = h
  has_at-moved injection (type.Array low high of) value words by offset h =
      λ k less.
      has_at-moved injection of (component_of value k) words by (offset + k * size_of of)
      (subst (HasAt injection of (component_of value k) words) {x = by + offset + k * size_of of} {y = by + (offset + k * size_of of)} (omega arith) (h k less))
  has_at-moved injection (type.Record ts) value words by offset h = have_at-moved injection ts (component_of value) words by offset h
  has_at-moved injection (type.Set low high) value words by offset h = set_at-moved low high value words by offset h
  has_at-moved injection (type.Initial of start) value words by offset h = has_at-moved injection of value words by offset h

  have_at-moved : (injection : Injection) (ts : ComponentTypes) (values : ℕ → Value) (words : Words) (by offset : ℕ)
      → HaveAt injection ts values words (by + offset) → HaveAt injection ts values (λ i. words (by + i)) offset
  have_at-moved injection type.no_component values words by offset h = tt
  have_at-moved injection (type.next_component t ts) values words by offset h = (
    has_at-moved injection t (values 0) words by offset h.0,
    have_at-moved injection ts (λ k. values (suc k)) words by (offset + size_of t)
        (subst (HaveAt injection ts (λ k. values (suc k)) words) {x = by + offset + size_of t} {y = by + (offset + size_of t)} (omega arith) h.1),
  )

-- the other way round
set_at-back : (low high : ℤ) (value : Value) (words : Words) (by offset : ℕ) → SetAt low high value (λ i. words (by + i)) offset → SetAt low high value words (by + offset)
set_at-back low high Undefined words by offset h = λ k less. ap words {x = by + offset + k} {y = by + (offset + k)} (omega arith) ∙ h k less
set_at-back low high (meaning.Word w) words by offset h = h
set_at-back low high (meaning.Components of) words by offset h = h
set_at-back low high (meaning.Members ms) words by offset h =
    record { is_set = h.is_set; within = h.within; told = λ k less. ap words {x = by + offset + k} {y = by + (offset + k)} (omega arith) ∙ h.told k less }

mutual
  pub has_at-back : (injection : Injection) (t : TypeValue) (value : Value) (words : Words) (by offset : ℕ)
      → HasAt injection t value (λ i. words (by + i)) offset → HasAt injection t value words (by + offset)
  has_at-back injection (type.Ordinal low high) value words by offset h = h
  has_at-back injection type.Text value words by offset h = h
  has_at-back injection (type.Array low high of) value words by offset h =
      λ k less.
      subst (HasAt injection of (component_of value k) words) {x = by + (offset + k * size_of of)} {y = by + offset + k * size_of of} (omega arith)
      (has_at-back injection of (component_of value k) words by (offset + k * size_of of) (h k less))
  has_at-back injection (type.Record ts) value words by offset h = have_at-back injection ts (component_of value) words by offset h
  has_at-back injection (type.Set low high) value words by offset h = set_at-back low high value words by offset h
  has_at-back injection (type.Initial of start) value words by offset h = has_at-back injection of value words by offset h

  have_at-back : (injection : Injection) (ts : ComponentTypes) (values : ℕ → Value) (words : Words) (by offset : ℕ)
      → HaveAt injection ts values (λ i. words (by + i)) offset → HaveAt injection ts values words (by + offset)
  have_at-back injection type.no_component values words by offset h = tt
  have_at-back injection (type.next_component t ts) values words by offset h = (
    has_at-back injection t (values 0) words by offset h.0,
    subst (HaveAt injection ts (λ k. values (suc k)) words) {x = by + (offset + size_of t)} {y = by + offset + size_of t} (omega arith)
        (have_at-back injection ts (λ k. values (suc k)) words by (offset + size_of t) h.1),
  )

-- ---- words that are taken out

module _ (words : List ℤ) (offset size : ℕ) (within : offset + size ≤ length words) where
  abbrev pub taken : List ℤ
  taken = take size (drop offset words)

  -- there are so many
  pub taken_length : length taken ≡ size
  taken_length = length-take-le size (drop offset words) (omega (arith, within, dropped words offset))
    where
      dropped : (ws : List ℤ) (n : ℕ) → length ws ≤ length (drop n ws) + n
      dropped ws zero = omega arith
      dropped [] (suc n) = omega arith
      dropped (w ∷ ws) (suc n) = let rest = dropped ws n in omega (arith, rest)

  pub taken_there : words_at words offset size ≡ Some taken
  taken_there = let yes : leb (offset + size) (length words) ≡ true = grind (arith, nat_tests, within) in rw yes refl

  -- they hold what the words held
  pub taken_holds : (injection : Injection) (t : TypeValue) (value : Value) → size ≡ size_of t
      → HasAt injection t value (slice_get words) offset → HasAt injection t value (slice_get taken) 0
  taken_holds injection t value is h =
      has_at-same injection t value (λ i. slice_get words (offset + i)) (slice_get taken) 0
      (λ i from less. slice_get-take size (drop offset words) i (omega (arith, less, is)) ∙ slice_get-drop words offset i)
      (has_at-moved injection t value (slice_get words) offset 0 (subst (HasAt injection t value (slice_get words)) {x = offset} {y = offset + 0} (omega arith) h))

-- ---- words that are put

module _ (words ws : List ℤ) (offset : ℕ) (within : offset + length ws ≤ length words) where
  front_length : length (take offset words) ≡ offset
  front_length = length-take-le offset words (omega (arith, within))

  -- there are as many as before
  pub replaced_length : length (words_replaced words offset ws) ≡ length words
  replaced_length =
      omega (arith, length-append (take offset words) (ws ++ drop (offset + length ws) words), length-append ws (drop (offset + length ws) words), front_length, dropped words (offset + length ws) within)
    where
      dropped : (us : List ℤ) (n : ℕ) → n ≤ length us → length (drop n us) + n ≡ length us
      dropped us zero le = omega arith
      dropped [] (suc n) le = absurd (omega (arith, le))
      dropped (u ∷ us) (suc n) le = let rest = dropped us n (omega (arith, le)) in omega (arith, rest)

  -- they stand where they were put
  replaced_there : (i : ℕ) → i < length ws → slice_get (words_replaced words offset ws) (offset + i) ≡ slice_get ws i
  replaced_there i less =
      ap (λ n. slice_get (words_replaced words offset ws) (n + i)) (sym front_length)
      ∙ (slice_get-behind (take offset words) (ws ++ drop (offset + length ws) words) i ∙ slice_get-front ws (drop (offset + length ws) words) i less)

  -- and the others stay
  replaced_before : (i : ℕ) → i < offset → slice_get (words_replaced words offset ws) i ≡ slice_get words i
  replaced_before i less =
      slice_get-front (take offset words) (ws ++ drop (offset + length ws) words) i (omega (arith, less, front_length)) ∙ slice_get-take offset words i less

  replaced_behind : (i : ℕ) → offset + length ws ≤ i → slice_get (words_replaced words offset ws) i ≡ slice_get words i
  replaced_behind i from = go (split i from)
    where
      split : (i : ℕ) → offset + length ws ≤ i → (k : ℕ) × (i ≡ offset + length ws + k)
      split i from = (i - (offset + length ws), omega (arith, from))

      go : (k : ℕ) × (i ≡ offset + length ws + k) → slice_get (words_replaced words offset ws) i ≡ slice_get words i
      go (k, is) =
          ap (slice_get (words_replaced words offset ws)) {x = i} {y = length (take offset words) + (length ws + k)} (omega (arith, is, front_length))
          ∙ (slice_get-behind (take offset words) (ws ++ drop (offset + length ws) words) (length ws + k)
          ∙ (slice_get-behind ws (drop (offset + length ws) words) k
          ∙ (slice_get-drop words (offset + length ws) k ∙ ap (slice_get words) (sym is))))

  -- where they hold a value it is held there
  pub replaced_holds : (injection : Injection) (t : TypeValue) (value : Value) → length ws ≡ size_of t
      → HasAt injection t value (slice_get ws) 0 → HasAt injection t value (slice_get (words_replaced words offset ws)) offset
  replaced_holds injection t value is h =
      subst (HasAt injection t value (slice_get (words_replaced words offset ws))) {x = offset + 0} {y = offset} (omega arith)
      (has_at-back injection t value (slice_get (words_replaced words offset ws)) offset 0
      (has_at-same injection t value (slice_get ws) (λ i. slice_get (words_replaced words offset ws) (offset + i)) 0
      (λ i from less. replaced_there i (omega (arith, less, is))) h))

  -- and all else is as before
  pub replaced_same : (t : TypeValue) → length ws ≡ size_of t
      → AreSameBut (slice_get words) (slice_get (words_replaced words offset ws)) (record { offset = offset; type_value = t })
  replaced_same t is i (inl before) = replaced_before i before
  replaced_same t is i (inr behind) = replaced_behind i (omega (arith, behind, is))

-- the words of a part are within those of all
pub part_fits : (t : TypeValue) (path : List ℕ) (p : TypePart) → part_along (Some (all_of t)) path ≡ Some p → p.offset + size_of p.type_value ≤ size_of t
part_fits t path p leads = let x = part_within path t 0 p leads in omega (arith, x.1)

-- ---- a type value is the same as itself

int_le-same : (z : ℤ) → int_le z z ≡ true
int_le-same (pos n) = grind (arith, nat_tests)
int_le-same (negsuc n) = grind (arith, nat_tests)

bounds_are : (low high : ℤ) → same_bounds low high low high ≡ true
bounds_are low high = rw (int_le-same low, int_le-same high) refl

nat_eq-same : (n : ℕ) → nat_eq n n ≡ true
nat_eq-same n = grind (arith, nat_tests)

mutual
  start_is_same : (start : Start) → same_start start start ≡ true
  start_is_same (undefined_start size) = nat_eq-same size
  start_is_same (simple_start w) = rw (int_le-same w) refl
  start_is_same (set_start ms) = (let d = bytes_eq-Decides ms ms in d.1 refl)
  start_is_same (parts_start ss) = starts_are_same ss

  starts_are_same : (ss : Starts) → same_starts ss ss ≡ true
  starts_are_same no_start = refl
  starts_are_same (next_start s ss) = rw (start_is_same s, starts_are_same ss) refl

mutual
  pub type_is_same : (t : TypeValue) → same_type t t ≡ true
  type_is_same (type.Ordinal low high) = bounds_are low high
  type_is_same type.Text = refl
  type_is_same (type.Array low high of) = rw (bounds_are low high, type_is_same of) refl
  type_is_same (type.Record ts) = types_are_same ts
  type_is_same (type.Set low high) = bounds_are low high
  type_is_same (type.Initial of start) = rw (type_is_same of, start_is_same start) refl

  types_are_same : (ts : ComponentTypes) → same_types ts ts ≡ true
  types_are_same type.no_component = refl
  types_are_same (type.next_component t ts) = rw (type_is_same t, types_are_same ts) refl
