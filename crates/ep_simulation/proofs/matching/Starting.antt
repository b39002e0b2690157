-- The words with which variables of a type value begin hold its initial state.
use Rattle.std.proofs.Common.{length-append, ◌≡◌, ℕ, ℤ, zero, suc, ◌+◌, ◌*◌, ◌-◌, ◌≤◌, ◌<◌, true, false, Bool, cond, List, [], ◌∷◌, ◌++◌, length, Some, None, slice_get, refl, sym, ap, ◌∙◌, subst, arith}
use Rattle.std.proofs.lemmas.Bool.Decides.{nat_tests}
use Rattle.std.proofs.lemmas.Option.{same_Some}
use Rattle.std.specs.Prelude.{ltb, replicate}
use Rattle.ep_simulation.specs.Matching.{HasAt, HaveAt, Injection, OrdinalAt, SetAt, Words}
use Rattle.ep_object.specs.Sets.{set_size}
use Rattle.ep_simulation.specs.Starts.{AllStarts, AreStarts, AreStartsOf, AreStartsOfEach, IsStartOf, start_words, start_words_of_each, words_kept, words_of_start, words_of_starts}
use Rattle.ep_object.specs.State.{undefined, words_begun}
use Rattle.ep_object.specs.Types.{repeated}
use Rattle.ep_object.proofs.public.SetWords.{words_many}
use Rattle.ep_simulation.proofs.matching.Values.{slice_get-behind, slice_get-front}
use Rattle.ep_simulation.proofs.matching.Words.{ends_before, has_undefined}
use Rattle.ep_values.specs.Bounds.{count_of}
use Rattle.ep_meaning.specs.Results.{all_starts, start_in, starts_in}
use Rattle.ep_values.specs.Values.{Undefined, Value, component_of, start_of, started_as, started_each, starts_of}
use Rattle.ep_meaning.specs.Steps as meaning
use Rattle.ep_values.specs.TypeValues as type
use Rattle.ep_values.specs.TypeValues.{ComponentTypes, Start, Starts, TypeValue, are_started, bare_each, bare_of, is_started, next_start, no_start, parts_start, set_start, simple_start, size_of, sizes_of, undefined_start}
use Rattle.ep_meaning.proofs.public.Bares.{neither}
use Rattle.ep_meaning.specs.Valid.{AreTypeValues, IsTypeValue}

-- ---- how many words

length-replicated : {A : Type 0} (n : ℕ) (x : A) → length (replicate n x) ≡ n
length-replicated zero x = refl
length-replicated (suc n) x = ap suc (length-replicated n x)

length-repeated : (n : ℕ) (ws : List ℤ) → length (repeated n ws) ≡ n * length ws
length-repeated zero ws = omega arith
length-repeated (suc n) ws = length-append ws (repeated n ws) ∙ omega (arith, length-repeated n ws)

mutual
  pub start_length : (t : TypeValue) (start : Start) → IsStartOf t start → length (words_of_start start) ≡ size_of t
  start_length (type.Ordinal low high) (undefined_start size) h = length-replicated size undefined ∙ h
  start_length (type.Ordinal low high) (simple_start w) h = refl
  start_length (type.Ordinal low high) (set_start ms) h = absurd h
  start_length (type.Ordinal low high) (parts_start ss) h = absurd h
  start_length type.Text start h = absurd h
  start_length (type.Array low high of) (undefined_start size) h = absurd h
  start_length (type.Array low high of) (simple_start w) h = absurd h
  start_length (type.Array low high of) (set_start ms) h = absurd h
  start_length (type.Array low high of) (parts_start ss) h = all_length of (count_of low high) ss h
  start_length (type.Record ts) (undefined_start size) h = absurd h
  start_length (type.Record ts) (simple_start w) h = absurd h
  start_length (type.Record ts) (set_start ms) h = absurd h
  start_length (type.Record ts) (parts_start ss) h = each_length ts ss h
  start_length (type.Set low high) (undefined_start size) h = length-replicated size undefined ∙ h
  start_length (type.Set low high) (simple_start w) h = absurd h
  start_length (type.Set low high) (set_start ms) h = words_many ms
  start_length (type.Set low high) (parts_start ss) h = absurd h
  start_length (type.Initial of other) start h = start_length of start h

  all_length : (of : TypeValue) (n : ℕ) (ss : Starts) → AllStarts (λ s. IsStartOf of s) n ss → length (words_of_starts ss) ≡ n * size_of of
  all_length of zero no_start h = omega arith
  all_length of zero (next_start s ss) h = absurd h
  all_length of (suc n) no_start h = absurd h
  all_length of (suc n) (next_start s ss) h =
      length-append (words_of_start s) (words_of_starts ss) ∙ omega (arith, start_length of s h.0, all_length of n ss h.1)

  each_length : (ts : ComponentTypes) (ss : Starts) → AreStartsOf ts ss → length (words_of_starts ss) ≡ sizes_of ts
  each_length type.no_component no_start h = refl
  each_length type.no_component (next_start s ss) h = absurd h
  each_length (type.next_component t ts) no_start h = absurd h
  each_length (type.next_component t ts) (next_start s ss) h =
      length-append (words_of_start s) (words_of_starts ss) ∙ (let first = start_length t s h.0 in let rest = each_length ts ss h.1 in λ i. first i + rest i)

mutual
  -- as many as a variable has
  pub starts_length : (t : TypeValue) → AreStarts t → length (start_words t) ≡ size_of t
  starts_length (type.Ordinal low high) h = refl
  starts_length type.Text h = refl
  starts_length (type.Array low high of) h = length-repeated (count_of low high) (start_words of) ∙ ap (λ n. count_of low high * n) (starts_length of h)
  starts_length (type.Record ts) h = starts_length_of_each ts h
  starts_length (type.Set low high) h = length-replicated set_size undefined
  starts_length (type.Initial of start) h = start_length of start h.0

  starts_length_of_each : (ts : ComponentTypes) → AreStartsOfEach ts → length (start_words_of_each ts) ≡ sizes_of ts
  starts_length_of_each type.no_component h = refl
  starts_length_of_each (type.next_component t ts) h =
      length-append (start_words t) (start_words_of_each ts) ∙ (let first = starts_length t h.0 in let rest = starts_length_of_each ts h.1 in λ i. first i + rest i)

-- ---- what begins undefined

joined : (m n : ℕ) → replicate m undefined ++ replicate n undefined ≡ replicate (m + n) undefined
joined zero n = ap (λ k. replicate k undefined) {x = n} {y = 0 + n} (omega arith)
joined (suc m) n = ap (λ l. undefined ∷ l) (joined m n) ∙ ap (λ k. replicate k undefined) {x = suc (m + n)} {y = suc m + n} (omega arith)

-- what begins undefined has undefined words
mutual
  unstarted_words : (t : TypeValue) → is_started t ≡ false → start_words t ≡ replicate (size_of t) undefined
  unstarted_words (type.Ordinal low high) own = refl
  unstarted_words type.Text own = refl
  unstarted_words (type.Array low high of) own =
      ap (repeated (count_of low high)) (unstarted_words of own) ∙ all_replicated (count_of low high) (size_of of)
    where
      all_replicated : (n m : ℕ) → repeated n (replicate m undefined) ≡ replicate (n * m) undefined
      all_replicated zero m = ap (λ k. replicate k undefined) {x = 0} {y = 0 * m} (omega arith)
      all_replicated (suc n) m = ap (λ l. replicate m undefined ++ l) (all_replicated n m) ∙ (joined m (n * m) ∙ ap (λ k. replicate k undefined) {x = m + n * m} {y = suc n * m} (omega arith))
  unstarted_words (type.Record ts) own = unstarted_words_of_each ts own
  unstarted_words (type.Set low high) own = refl
  unstarted_words (type.Initial of start) own = cc

  unstarted_words_of_each : (ts : ComponentTypes) → are_started ts ≡ false → start_words_of_each ts ≡ replicate (sizes_of ts) undefined
  unstarted_words_of_each type.no_component own = refl
  unstarted_words_of_each (type.next_component t ts) own =
      let e = neither (is_started t) (are_started ts) own in
      (let first = unstarted_words t e.0 in let rest = unstarted_words_of_each ts e.1 in λ i. first i ++ rest i) ∙ joined (size_of t) (sizes_of ts)

-- so what a type keeps, or else undefined words, are the ones with which its variables begin
pub begun_words : (t : TypeValue) → words_begun (size_of t) (words_kept t) ≡ start_words t
begun_words t = go (is_started t) refl
  where
    go : (b : Bool) → is_started t ≡ b → words_begun (size_of t) (cond b (Some (start_words t)) None) ≡ start_words t
    go true e = refl
    go false e = sym (unstarted_words t e)

-- ---- what they hold

-- each time the same words
repeated_at : (n k i : ℕ) (ws : List ℤ) → k < n → i < length ws → slice_get (repeated n ws) (k * length ws + i) ≡ slice_get ws i
repeated_at zero k i ws less within = absurd (omega (arith, less))
repeated_at (suc n) zero i ws less within = let same : 0 * length ws + i ≡ i = omega arith in ap (slice_get (ws ++ repeated n ws)) same ∙ slice_get-front ws (repeated n ws) i within
repeated_at (suc n) (suc k) i ws less within =
    let same : suc k * length ws + i ≡ length ws + (k * length ws + i) = omega arith in
    ap (slice_get (ws ++ repeated n ws)) same ∙ (slice_get-behind ws (repeated n ws) (k * length ws + i) ∙ repeated_at n k i ws (omega (arith, less)) within)

replicated_at : {A : Type 0} (n : ℕ) (x : A) (i : ℕ) → i < n → slice_get (replicate n x) i ≡ Some x
replicated_at zero x i h = absurd (omega (arith, h))
replicated_at (suc n) x zero h = refl
replicated_at (suc n) x (suc i) h = replicated_at n x i (omega (arith, h))

-- undefined words hold the undefined value
pub undefined_hold : (injection : Injection) (t : TypeValue) → IsTypeValue t → HasAt injection t Undefined (slice_get (replicate (size_of t) undefined)) 0
undefined_hold injection t valid =
    has_undefined injection t (slice_get (replicate (size_of t) undefined)) 0 valid (λ i from before. replicated_at (size_of t) undefined i (omega (arith, before)))

-- words from an offset on that are those of one list, and then those of another
words_join : (words : Words) (offset m n : ℕ) (xs ys : List ℤ) → length xs ≡ m → ((i : ℕ) → i < m → words (offset + i) ≡ slice_get xs i)
    → ((i : ℕ) → i < n → words (offset + m + i) ≡ slice_get ys i) → (i : ℕ) → i < m + n → words (offset + i) ≡ slice_get (xs ++ ys) i
words_join words offset m n xs ys long first rest i within = go (ltb i m) refl
  where
    go : (b : Bool) → ltb i m ≡ b → words (offset + i) ≡ slice_get (xs ++ ys) i
    go true e =
        let less : i < m = grind (arith, nat_tests) in
        first i less ∙ sym (slice_get-front xs ys i (omega (arith, less, long)))
    go false e =
        let least : m ≤ i = grind (arith, nat_tests) in
        let here : offset + i ≡ offset + m + (i - m) = omega (arith, least) in
        let there : length xs + (i - m) ≡ i = omega (arith, least, long) in
        ap words here ∙ (rest (i - m) (omega (arith, within, least)) ∙ (sym (slice_get-behind xs ys (i - m)) ∙ ap (slice_get (xs ++ ys)) there))

-- the words of the second of two lists
words_second : (words : Words) (offset m n : ℕ) (xs ys : List ℤ) → length xs ≡ m → ((i : ℕ) → i < m + n → words (offset + i) ≡ slice_get (xs ++ ys) i)
    → (i : ℕ) → i < n → words (offset + m + i) ≡ slice_get ys i
words_second words offset m n xs ys long same i within =
    let there : offset + m + i ≡ offset + (m + i) = omega arith in
    ap words there ∙ (same (m + i) (omega (arith, within)) ∙ (ap (λ k. slice_get (xs ++ ys) (k + i)) (sym long) ∙ slice_get-behind xs ys i))

module _ (injection : Injection) where
  mutual
    -- words that are those of an initial state hold it
    start_has : (t : TypeValue) (start : Start) (words : Words) (offset : ℕ) → IsTypeValue t → IsStartOf t start
        → ((i : ℕ) → i < size_of t → words (offset + i) ≡ slice_get (words_of_start start) i) → HasAt injection t (started_as start) words offset
    start_has (type.Ordinal low high) (undefined_start size) words offset valid h same =
        let here : offset + 0 ≡ offset = omega arith in
        record { low_fits = valid.1; high_fits = valid.2; is = ap words (sym here) ∙ (same 0 (omega arith) ∙ ap (λ n. slice_get (replicate n undefined) 0) h) }
    start_has (type.Ordinal low high) (simple_start w) words offset valid h same =
        let here : offset + 0 ≡ offset = omega arith in
        record { low_fits = valid.1; high_fits = valid.2; is = (ap words (sym here) ∙ same 0 (omega arith), h) }
    start_has (type.Ordinal low high) (set_start ms) words offset valid h same = absurd h
    start_has (type.Ordinal low high) (parts_start ss) words offset valid h same = absurd h
    start_has type.Text start words offset valid h same = absurd valid
    start_has (type.Array low high of) (undefined_start size) words offset valid h same = absurd h
    start_has (type.Array low high of) (simple_start w) words offset valid h same = absurd h
    start_has (type.Array low high of) (set_start ms) words offset valid h same = absurd h
    start_has (type.Array low high of) (parts_start ss) words offset valid h same = λ k less. all_have of (count_of low high) ss words offset valid.1 h same k less
    start_has (type.Record ts) (undefined_start size) words offset valid h same = absurd h
    start_has (type.Record ts) (simple_start w) words offset valid h same = absurd h
    start_has (type.Record ts) (set_start ms) words offset valid h same = absurd h
    start_has (type.Record ts) (parts_start ss) words offset valid h same = each_have ts ss words offset valid h same
    start_has (type.Set low high) (undefined_start size) words offset valid h same = λ k less. same k less ∙ replicated_at size undefined k (omega (arith, less, h))
    start_has (type.Set low high) (simple_start w) words offset valid h same = absurd h
    start_has (type.Set low high) (set_start ms) words offset valid h same = record { is_set = h.0; within = h.1; told = same }
    start_has (type.Set low high) (parts_start ss) words offset valid h same = absurd h
    start_has (type.Initial of other) start words offset valid h same = start_has of start words offset valid h same

    all_have : (of : TypeValue) (n : ℕ) (ss : Starts) (words : Words) (offset : ℕ) → IsTypeValue of → AllStarts (λ s. IsStartOf of s) n ss
        → ((i : ℕ) → i < n * size_of of → words (offset + i) ≡ slice_get (words_of_starts ss) i)
        → (k : ℕ) → k < n → HasAt injection of (started_each ss k) words (offset + k * size_of of)
    all_have of zero ss words offset valid h same k less = absurd (omega (arith, less))
    all_have of (suc n) no_start words offset valid h same k less = absurd h
    all_have of (suc n) (next_start s ss) words offset valid h same zero less =
        subst (λ o. HasAt injection of (started_as s) words o) {x = offset} {y = offset + 0 * size_of of} (omega arith)
        (start_has of s words offset valid h.0 (λ i within. same i (omega (arith, within)) ∙ slice_get-front (words_of_start s) (words_of_starts ss) i (omega (arith, within, start_length of s h.0))))
    all_have of (suc n) (next_start s ss) words offset valid h same (suc k) less =
        subst (λ o. HasAt injection of (started_each ss k) words o) {x = offset + size_of of + k * size_of of} {y = offset + suc k * size_of of} (omega arith)
        (all_have of n ss words (offset + size_of of) valid h.1
        (words_second words offset (size_of of) (n * size_of of) (words_of_start s) (words_of_starts ss) (start_length of s h.0) (λ i within. same i (omega (arith, within))))
        k (omega (arith, less)))

    each_have : (ts : ComponentTypes) (ss : Starts) (words : Words) (offset : ℕ) → AreTypeValues ts → AreStartsOf ts ss
        → ((i : ℕ) → i < sizes_of ts → words (offset + i) ≡ slice_get (words_of_starts ss) i) → HaveAt injection ts (started_each ss) words offset
    each_have type.no_component ss words offset valid h same = tt
    each_have (type.next_component t ts) no_start words offset valid h same = absurd h
    each_have (type.next_component t ts) (next_start s ss) words offset valid h same = (
      start_has t s words offset valid.0 h.0 (λ i within. same i (omega (arith, within)) ∙ slice_get-front (words_of_start s) (words_of_starts ss) i (omega (arith, within, start_length t s h.0))),
      each_have ts ss words (offset + size_of t) valid.1 h.1 (words_second words offset (size_of t) (sizes_of ts) (words_of_start s) (words_of_starts ss) (start_length t s h.0) same),
    )

  mutual
    -- words that are those of a type value's initial state hold it
    pub starts_hold : (t : TypeValue) (words : Words) (offset : ℕ) → IsTypeValue t → AreStarts t
        → ((i : ℕ) → i < size_of t → words (offset + i) ≡ slice_get (start_words t) i) → HasAt injection t (start_of t) words offset
    starts_hold (type.Ordinal low high) words offset valid h same =
        let here : offset + 0 ≡ offset = omega arith in
        record { low_fits = valid.1; high_fits = valid.2; is = ap words (sym here) ∙ same 0 (omega arith) }
    starts_hold type.Text words offset valid h same = absurd valid
    starts_hold (type.Array low high of) words offset valid h same =
        λ k less. starts_hold of words (offset + k * size_of of) valid.1 h (λ i within.
        let ends = ends_before k (count_of low high) (size_of of) less in
        let long : length (start_words of) ≡ size_of of = starts_length of h in
        let there : offset + k * size_of of + i ≡ offset + (k * size_of of + i) = omega arith in
        ap words there ∙ (same (k * size_of of + i) (omega (arith, within, ends)) ∙ (ap (λ n. slice_get (repeated (count_of low high) (start_words of)) (k * n + i)) (sym long) ∙ repeated_at (count_of low high) k i (start_words of) less (omega (arith, within, long)))))
    starts_hold (type.Record ts) words offset valid h same = starts_have ts words offset valid h same
    starts_hold (type.Set low high) words offset valid h same = λ k less. same k less ∙ replicated_at set_size undefined k less
    starts_hold (type.Initial of start) words offset valid h same = start_has of start words offset valid h.0 same

    starts_have : (ts : ComponentTypes) (words : Words) (offset : ℕ) → AreTypeValues ts → AreStartsOfEach ts
        → ((i : ℕ) → i < sizes_of ts → words (offset + i) ≡ slice_get (start_words_of_each ts) i) → HaveAt injection ts (starts_of ts) words offset
    starts_have type.no_component words offset valid h same = tt
    starts_have (type.next_component t ts) words offset valid h same =
        let long : length (start_words t) ≡ size_of t = starts_length t h.0 in (
          starts_hold t words offset valid.0 h.0 (λ i within. same i (omega (arith, within)) ∙ slice_get-front (start_words t) (start_words_of_each ts) i (omega (arith, within, long))),
          starts_have ts words (offset + size_of t) valid.1 h.1 (λ i within.
              let there : offset + size_of t + i ≡ offset + (size_of t + i) = omega arith in
              ap words there ∙ (same (size_of t + i) (omega (arith, within)) ∙ (ap (λ n. slice_get (start_words t ++ start_words_of_each ts) (n + i)) (sym long) ∙ slice_get-behind (start_words t) (start_words_of_each ts) i))),
        )

-- ---- values as initial states

-- The words from an offset on are those of the initial state that a value of the type is, and a variable of it may begin so.
pub record IsBegun (u : TypeValue) (v : Value) (words : Words) (offset : ℕ) : Type 0 where
  pub is : IsStartOf u (start_in u v)
  pub same : (i : ℕ) → i < size_of u → words (offset + i) ≡ slice_get (words_of_start (start_in u v)) i

-- one word
one_word : (words : Words) (offset : ℕ) (w : ℤ) → words offset ≡ Some w → (i : ℕ) → i < 1 → words (offset + i) ≡ slice_get (w ∷ []) i
one_word words offset w is zero within = let here : offset + 0 ≡ offset = omega arith in ap words here ∙ is
one_word words offset w is (suc i) within = absurd (omega (arith, within))

ordinal_begun : (low high : ℤ) (v : Value) (words : Words) (offset : ℕ) → OrdinalAt low high v (words offset) → IsBegun (type.Ordinal low high) v words offset
ordinal_begun low high Undefined words offset h = record { is = refl; same = one_word words offset undefined h.is }
ordinal_begun low high (meaning.Word w) words offset h = record { is = (h.is).1; same = one_word words offset w (h.is).0 }
ordinal_begun low high (meaning.Components of) words offset h = absurd h.is
ordinal_begun low high (meaning.Members ms) words offset h = absurd h.is

set_begun : (low high : ℤ) (v : Value) (words : Words) (offset : ℕ) → SetAt low high v words offset → IsBegun (type.Set low high) v words offset
set_begun low high Undefined words offset h = record { is = refl; same = λ k less. h k less ∙ sym (replicated_at set_size undefined k less) }
set_begun low high (meaning.Word w) words offset h = absurd h
set_begun low high (meaning.Components of) words offset h = absurd h
set_begun low high (meaning.Members ms) words offset h = record { is = (h.is_set, h.within); same = h.told }

-- the words of so many components
record AllBegun (of : TypeValue) (n : ℕ) (values : ℕ → Value) (words : Words) (offset : ℕ) : Type 0 where
  are : AllStarts (λ s. IsStartOf of s) n (all_starts n (λ k. start_in of (values k)))
  same : (i : ℕ) → i < n * size_of of → words (offset + i) ≡ slice_get (words_of_starts (all_starts n (λ k. start_in of (values k)))) i

all_begun : (of : TypeValue) (n : ℕ) (values : ℕ → Value) (words : Words) (offset : ℕ) → ((k : ℕ) → k < n → IsBegun of (values k) words (offset + k * size_of of)) → AllBegun of n values words offset
all_begun of zero values words offset each = record { are = tt; same = λ i less. absurd (omega (arith, less)) }
all_begun of (suc n) values words offset each =
    let first : IsBegun of (values 0) words offset = subst (λ o. IsBegun of (values 0) words o) {x = offset + 0 * size_of of} {y = offset} (omega arith) (each 0 (omega arith)) in
    let rest : AllBegun of n (λ k. values (suc k)) words (offset + size_of of) =
    all_begun of n (λ k. values (suc k)) words (offset + size_of of) (λ k less. subst (λ o. IsBegun of (values (suc k)) words o) {x = offset + suc k * size_of of} {y = offset + size_of of + k * size_of of} (omega arith) (each (suc k) (omega (arith, less)))) in
    record {
      are = (first.is, rest.are);
      same = λ i less. words_join words offset (size_of of) (n * size_of of) (words_of_start (start_in of (values 0))) (words_of_starts (all_starts n (λ k. start_in of (values (suc k))))) (start_length of (start_in of (values 0)) first.is) first.same rest.same i (omega (arith, less));
    }

-- those of components of these types
record EachBegun (ts : ComponentTypes) (values : ℕ → Value) (words : Words) (offset : ℕ) : Type 0 where
  are : AreStartsOf ts (starts_in ts values)
  same : (i : ℕ) → i < sizes_of ts → words (offset + i) ≡ slice_get (words_of_starts (starts_in ts values)) i

module _ (injection : Injection) where
  mutual
    -- words that hold a value are those of the initial state that it is
    pub value_begun : (u : TypeValue) (v : Value) (words : Words) (offset : ℕ) → IsTypeValue u → HasAt injection u v words offset → IsBegun u v words offset
    value_begun (type.Ordinal low high) v words offset valid h = ordinal_begun low high v words offset h
    value_begun type.Text v words offset valid h = absurd valid
    value_begun (type.Array low high of) v words offset valid h =
        let all = all_begun of (count_of low high) (component_of v) words offset (λ k less. value_begun of (component_of v k) words (offset + k * size_of of) valid.1 (h k less)) in
        record { is = all.are; same = all.same }
    value_begun (type.Record ts) v words offset valid h =
        let all = each_begun ts (component_of v) words offset valid h in
        record { is = all.are; same = all.same }
    value_begun (type.Set low high) v words offset valid h = set_begun low high v words offset h
    value_begun (type.Initial of start) v words offset valid h =
        let x = value_begun of v words offset valid h in
        record { is = x.is; same = x.same }

    each_begun : (ts : ComponentTypes) (values : ℕ → Value) (words : Words) (offset : ℕ) → AreTypeValues ts → HaveAt injection ts values words offset → EachBegun ts values words offset
    each_begun type.no_component values words offset valid h = record { are = tt; same = λ i less. absurd (omega (arith, less)) }
    each_begun (type.next_component t ts) values words offset valid h =
        let first = value_begun t (values 0) words offset valid.0 h.0 in
        let rest = each_begun ts (λ k. values (suc k)) words (offset + size_of t) valid.1 h.1 in
        record {
          are = (first.is, rest.are);
          same = words_join words offset (size_of t) (sizes_of ts) (words_of_start (start_in t (values 0))) (words_of_starts (starts_in ts (λ k. values (suc k)))) (start_length t (start_in t (values 0)) first.is) first.same rest.same;
        }

-- lists with the same elements are the same
same_list : (xs ys : List ℤ) → length xs ≡ length ys → ((i : ℕ) → i < length xs → slice_get xs i ≡ slice_get ys i) → xs ≡ ys
same_list [] [] long each = refl
same_list [] (y ∷ ys) long each = absurd (omega (arith, long))
same_list (x ∷ xs) [] long each = absurd (omega (arith, long))
same_list (x ∷ xs) (y ∷ ys) long each =
    let first : x ≡ y = same_Some x y (each 0 (omega arith)) in
    let rest : xs ≡ ys = same_list xs ys (omega (arith, long)) (λ i less. each (suc i) (omega (arith, less))) in
    λ i. first i ∷ rest i

-- so are those of a value that are as many as a variable has
pub value_words : (injection : Injection) (u : TypeValue) (v : Value) (ws : List ℤ) → IsTypeValue u → length ws ≡ size_of u → HasAt injection u v (slice_get ws) 0
    → IsStartOf u (start_in u v) × (ws ≡ words_of_start (start_in u v))
value_words injection u v ws valid long holds =
    let begun = value_begun injection u v (slice_get ws) 0 valid holds in
    (begun.is, same_list ws (words_of_start (start_in u v)) (long ∙ sym (start_length u (start_in u v) begun.is)) (λ i less. let here : i ≡ 0 + i = omega arith in ap (slice_get ws) here ∙ begun.same i (omega (arith, less, long))))

-- ---- initial states play no part in what a variable may begin with

all_weaker : (P Q : Start → Type 0) → ((s : Start) → P s → Q s) → (n : ℕ) (ss : Starts) → AllStarts P n ss → AllStarts Q n ss
all_weaker P Q weaker zero no_start h = tt
all_weaker P Q weaker zero (next_start s ss) h = absurd h
all_weaker P Q weaker (suc n) no_start h = absurd h
all_weaker P Q weaker (suc n) (next_start s ss) h = (weaker s h.0, all_weaker P Q weaker n ss h.1)

mutual
  pub start_bare : (t : TypeValue) (start : Start) → IsStartOf (bare_of t) start → IsStartOf t start
  start_bare (type.Ordinal low high) start h = h
  start_bare type.Text start h = h
  start_bare (type.Array low high of) (undefined_start size) h = absurd h
  start_bare (type.Array low high of) (simple_start w) h = absurd h
  start_bare (type.Array low high of) (set_start ms) h = absurd h
  start_bare (type.Array low high of) (parts_start ss) h = all_weaker (λ s. IsStartOf (bare_of of) s) (λ s. IsStartOf of s) (start_bare of) (count_of low high) ss h
  start_bare (type.Record ts) (undefined_start size) h = absurd h
  start_bare (type.Record ts) (simple_start w) h = absurd h
  start_bare (type.Record ts) (set_start ms) h = absurd h
  start_bare (type.Record ts) (parts_start ss) h = starts_bare ts ss h
  start_bare (type.Set low high) start h = h
  start_bare (type.Initial of other) start h = start_bare of start h

  starts_bare : (ts : ComponentTypes) (ss : Starts) → AreStartsOf (bare_each ts) ss → AreStartsOf ts ss
  starts_bare type.no_component ss h = h
  starts_bare (type.next_component t ts) no_start h = absurd h
  starts_bare (type.next_component t ts) (next_start s ss) h = (start_bare t s h.0, starts_bare ts ss h.1)
