-- For `ApartRanges`: whether a range has no value of others, told by the last one that begins no later than it ends, and
-- what is found by its ends when one more is added.
use Rattle.std.proofs.Common.{◌≡◌, ℤ, int_lt, int_le, int_cmp, is_eq, is_lt, is_gt, Less, Equal, Greater, Bool, true, false, cond, not, ◌&&◌, ◌||◌, IsTrue, List, [], ◌∷◌, ◌++◌, Option, Some, None, IsSome, MatchOption, Result, Ok, Err, is_err, OnOk, OnErr, ◌⊎◌, inl, inr, refl, sym, ap, ◌∙◌, subst, arith}
use Rattle.std.proofs.lemmas.Int.{ints}
use Rattle.std.proofs.lemmas.Option.{same_Some}
use Rattle.std.proofs.lemmas.List.{same_from_push}
use Rattle.std.proofs.lemmas.List.Elements.{All-contains, All-weaker, All-contains_itself, Contains-append_left, Contains-push, Contains-push_cases}
use Rattle.std.proofs.lemmas.List.Folds.{list_all_at}
use Rattle.std.proofs.lemmas.List.Sums.{list_all-from_AllPass, AllPass-from_list_all}
use Rattle.std.specs.List.{Contains, list_all}
use Rattle.std.specs.BTreeMap.{BTreeMap, get}
use Rattle.std.specs.Map.{lookup}
use Rattle.std.specs.BTreeMap.Range.{IsInRange, IsEntryInRange}
use Rattle.std.specs.declared.ops.Bound.TheVariants.{Included, Unbounded}
use Rattle.ep_typed.specs.CaseRanges.{is_apart}
use Rattle.ep_typed.specs.declared.tree.CaseRange.{CaseRange}
use Rattle.ep_rules.specs.ApartRanges.{AreFoundByEnds, IsByEnds}
use Rattle.ep_rules.specs.ConstantAccesses.{has_index}

-- ---- what `cmp` tells of two numbers

not_above : (a b : ℤ) → is_gt (int_cmp a b) ≡ false → int_lt b a ≡ false
not_above a b h = go (int_lt a b) (int_lt b a) refl refl h
  where
    go : (x y : Bool) → int_lt a b ≡ x → int_lt b a ≡ y → is_gt (cond x Less (cond y Greater Equal)) ≡ false → int_lt b a ≡ false
    go true y p q h = grind (arith, ints, p)
    go false true p q h = cc
    go false false p q h = q

up_to : (a b : ℤ) → int_lt b a ≡ false → is_gt (int_cmp a b) ≡ false
up_to a b h = go (int_lt a b) (int_lt b a) refl h
  where
    go : (x y : Bool) → int_lt a b ≡ x → y ≡ false → is_gt (cond x Less (cond y Greater Equal)) ≡ false
    go true y p h = refl
    go false true p h = cc
    go false false p h = refl

not_below : (a b : ℤ) → is_lt (int_cmp a b) ≡ false → int_lt a b ≡ false
not_below a b h = go (int_lt a b) (int_lt b a) h
  where
    go : (x y : Bool) → is_lt (cond x Less (cond y Greater Equal)) ≡ false → x ≡ false
    go true y h = cc
    go false y h = refl

same : (a b : ℤ) → int_lt a b ≡ false → int_lt b a ≡ false → a ≡ b
same a b p q = grind (arith, ints, p, q)

equal_same : (a b : ℤ) → is_eq (int_cmp a b) ≡ true → a ≡ b
equal_same a b h = go (int_lt a b) (int_lt b a) refl refl h
  where
    go : (x y : Bool) → int_lt a b ≡ x → int_lt b a ≡ y → is_eq (cond x Less (cond y Greater Equal)) ≡ true → a ≡ b
    go true y p q h = cc
    go false true p q h = cc
    go false false p q h = same a b p q

same_equal : (a : ℤ) → is_eq (int_cmp a a) ≡ true
same_equal a = go (int_lt a a) (grind (arith, ints))
  where
    go : (x : Bool) → x ≡ false → is_eq (cond x Less (cond x Greater Equal)) ≡ true
    go true h = cc
    go false h = refl

unlike_equal : (a b : ℤ) → (a ≡ b → ⊥) → is_eq (int_cmp a b) ≡ false
unlike_equal a b apart = go (is_eq (int_cmp a b)) refl
  where
    go : (x : Bool) → is_eq (int_cmp a b) ≡ x → x ≡ false
    go true h = absurd (apart (equal_same a b h))
    go false h = refl

or_true : (b : Bool) → (b || true) ≡ true
or_true true = refl
or_true false = refl

is_there : {A : Type 0} (o : Option A) (a : A) → o ≡ Some a → IsSome o
is_there None a e = cc
is_there (Some x) a e = refl

-- ---- whether a range has no value of others

all_apart : (range : CaseRange) (ranges : List CaseRange) → ((r : CaseRange) → Contains ranges r → is_apart r range ≡ true)
    → list_all (λ s. is_apart s range) ranges ≡ true
all_apart range ranges each =
    list_all-from_AllPass (λ s. is_apart s range) ranges
    (All-weaker (Contains ranges) (λ s. is_apart s range ≡ true) each ranges (All-contains_itself ranges))

one_apart : (range r : CaseRange) (ranges : List CaseRange) → list_all (λ s. is_apart s range) ranges ≡ true
    → Contains ranges r → is_apart r range ≡ true
one_apart range r ranges all held =
    All-contains (λ s. is_apart s range ≡ true) ranges r (AllPass-from_list_all (λ s. is_apart s range) ranges all) held

one_shared : (range r : CaseRange) (ranges : List CaseRange) → Contains ranges r → is_apart r range ≡ false
    → list_all (λ s. is_apart s range) ranges ≡ false
one_shared range r ranges (k, less, here) shared =
    list_all_at (λ s. is_apart s range) ranges k r less (subst (λ s. is_apart s range ≡ false) (sym here) shared)

module _ (ends : BTreeMap ℤ ℤ) (range : CaseRange) where
  -- where none begins no later than the range ends
  none_begins : ((q : ℤ) → IsInRange int_cmp Unbounded (Included range.high) q → get int_cmp ends q ≡ None)
      → (ranges : List CaseRange) → IsByEnds ends ranges → true ≡ list_all (λ s. is_apart s range) ranges
  none_begins none ranges by = sym (all_apart range ranges each)
    where
      each : (r : CaseRange) → Contains ranges r → is_apart r range ≡ true
      each r held = go (int_lt range.high r.low) refl
        where
          no_entry : int_lt range.high r.low ≡ false → ⊥
          no_entry f =
              let there = by.there r held in
              let missing = none r.low (tt, up_to r.low range.high f) in
              cc

          go : (b : Bool) → int_lt range.high r.low ≡ b → (int_lt r.high range.low || int_lt range.high r.low) ≡ true
          go true e = rw e (or_true (int_lt r.high range.low))
          go false e = absurd (no_entry e)

  -- the last one that does
  last_tells : (low high : ℤ) → IsEntryInRange int_cmp Unbounded (Included range.high) ends (low, high)
      → ((q : ℤ) → IsInRange int_cmp Unbounded (Included range.high) q → IsSome (get int_cmp ends q) → is_lt (int_cmp low q) ≡ false)
      → (ranges : List CaseRange) → IsByEnds ends ranges → int_lt high range.low ≡ list_all (λ s. is_apart s range) ranges
  last_tells low high entry greatest ranges by = go (int_lt high range.low) refl
    where
      begins : int_lt range.high low ≡ false
      begins = not_above low range.high entry.0.1

      each : int_lt high range.low ≡ true → (r : CaseRange) → Contains ranges r → is_apart r range ≡ true
      each e r held = by_begin (int_lt range.high r.low) refl
        where
          there : get int_cmp ends r.low ≡ Some r.high
          there = by.there r held

          filled : IsTrue (int_le low high)
          filled = by.filled low high entry.1

          ends_before : int_lt low r.low ≡ false → (b : Bool) → int_lt r.low low ≡ b → int_lt r.high range.low ≡ true
          ends_before f true g =
              let before = by.apart r.low r.high low high there entry.1 g in
              grind (arith, ints, before, filled, e)
          ends_before f false g =
              let begin : r.low ≡ low = same r.low low g f in
              let end : r.high ≡ high = same_Some r.high high (sym there ∙ (ap (get int_cmp ends) begin ∙ entry.1)) in
              rw end e

          by_begin : (b : Bool) → int_lt range.high r.low ≡ b → (int_lt r.high range.low || int_lt range.high r.low) ≡ true
          by_begin true f = rw f (or_true (int_lt r.high range.low))
          by_begin false f =
              let later = not_below low r.low (greatest r.low (tt, up_to r.low range.high f) (is_there (get int_cmp ends r.low) r.high there)) in
              rw (ends_before later (int_lt r.low low) refl) refl

      shared : int_lt high range.low ≡ false → (int_lt high range.low || int_lt range.high low) ≡ false
      shared e = rw (e, begins) refl

      go : (b : Bool) → int_lt high range.low ≡ b → b ≡ list_all (λ s. is_apart s range) ranges
      go true e = sym (all_apart range ranges (each e))
      go false e = sym (one_shared range (record { low = low; high = high }) ranges (by.listed low high entry.1) (shared e))

  -- alike, of numbers that are those of the ranges
  pub none_before : (until : ℤ) → until ≡ range.high
      → ((q : ℤ) → IsInRange int_cmp Unbounded (Included until) q → get int_cmp ends q ≡ None)
      → (ranges : List CaseRange) → IsByEnds ends ranges → true ≡ list_all (λ s. is_apart s range) ranges
  none_before until e none =
      none_begins (subst (λ z. (q : ℤ) → IsInRange int_cmp Unbounded (Included z) q → get int_cmp ends q ≡ None) e none)

  pub last_before : (until low high last from : ℤ) → until ≡ range.high → last ≡ high → from ≡ range.low
      → IsEntryInRange int_cmp Unbounded (Included until) ends (low, high)
      → ((q : ℤ) → IsInRange int_cmp Unbounded (Included until) q → IsSome (get int_cmp ends q) → is_lt (int_cmp low q) ≡ false)
      → (ranges : List CaseRange) → IsByEnds ends ranges → int_lt last from ≡ list_all (λ s. is_apart s range) ranges
  last_before until low high last from e f g entry greatest ranges by =
      rw (f, g)
      (last_tells low high
      (subst (λ z. IsEntryInRange int_cmp Unbounded (Included z) ends (low, high)) e entry)
      (subst (λ z. (q : ℤ) → IsInRange int_cmp Unbounded (Included z) q → IsSome (get int_cmp ends q) → is_lt (int_cmp low q) ≡ false) e greatest)
      ranges by)

-- ---- one more range

module _ (ends more : BTreeMap ℤ ℤ) (ranges : List CaseRange) (range : CaseRange) (by : IsByEnds ends ranges)
    (apart : list_all (λ s. is_apart s range) ranges ≡ true) (not_empty : int_lt range.high range.low ≡ false)
    (puts : (q : ℤ) → get int_cmp more q ≡ cond (is_eq (int_cmp range.low q)) (Some range.high) (get int_cmp ends q)) where
  -- what is found is the range that was added, or one of those before
  entry_of : (low high : ℤ) → get int_cmp more low ≡ Some high
      → ((range.low ≡ low) × (range.high ≡ high)) ⊎ (get int_cmp ends low ≡ Some high)
  entry_of low high e = go (is_eq (int_cmp range.low low)) refl (sym (puts low) ∙ e)
    where
      go : (b : Bool) → is_eq (int_cmp range.low low) ≡ b → cond b (Some range.high) (get int_cmp ends low) ≡ Some high
          → ((range.low ≡ low) × (range.high ≡ high)) ⊎ (get int_cmp ends low ≡ Some high)
      go true p h = inl (equal_same range.low low p, same_Some range.high high h)
      go false p h = inr h

  -- one of those before is apart
  ends_apart : (low high : ℤ) → get int_cmp ends low ≡ Some high → (int_lt high range.low || int_lt range.high low) ≡ true
  ends_apart low high e = one_apart range (record { low = low; high = high }) ranges apart (by.listed low high e)

  either_side : (low high : ℤ) → (int_lt high range.low || int_lt range.high low) ≡ true
      → (int_lt high range.low ≡ true) ⊎ (int_lt range.high low ≡ true)
  either_side low high h = go (int_lt high range.low) refl h
    where
      go : (b : Bool) → int_lt high range.low ≡ b → (b || int_lt range.high low) ≡ true
          → (int_lt high range.low ≡ true) ⊎ (int_lt range.high low ≡ true)
      go true p h = inl p
      go false p h = inr h

  begins_apart : (low high : ℤ) → get int_cmp ends low ≡ Some high → range.low ≡ low → ⊥
  begins_apart low high e p = go (either_side low high (ends_apart low high e))
    where
      filled : IsTrue (int_le low high)
      filled = by.filled low high e

      go : (int_lt high range.low ≡ true) ⊎ (int_lt range.high low ≡ true) → ⊥
      go (inl h) = grind (arith, ints, h, p, filled)
      go (inr h) = grind (arith, ints, h, p, not_empty)

  there_more : (r : CaseRange) → Contains (ranges ++ range ∷ []) r → get int_cmp more r.low ≡ Some r.high
  there_more r held = go (Contains-push_cases ranges range r held)
    where
      go : Contains ranges r ⊎ (range ≡ r) → get int_cmp more r.low ≡ Some r.high
      go (inl before) =
          let there = by.there r before in
          let other = unlike_equal range.low r.low (begins_apart r.low r.high there) in
          puts r.low ∙ rw other there
      go (inr now) = subst (λ s. get int_cmp more s.low ≡ Some s.high) now (puts range.low ∙ rw (same_equal range.low) refl)

  listed_more : (low high : ℤ) → get int_cmp more low ≡ Some high → Contains (ranges ++ range ∷ []) (record { low = low; high = high })
  listed_more low high e = go (entry_of low high e)
    where
      go : ((range.low ≡ low) × (range.high ≡ high)) ⊎ (get int_cmp ends low ≡ Some high)
          → Contains (ranges ++ range ∷ []) (record { low = low; high = high })
      go (inl (p, q)) = rw (sym p, sym q) (Contains-push ranges range)
      go (inr h) = Contains-append_left ranges (range ∷ []) (record { low = low; high = high }) (by.listed low high h)

  filled_more : (low high : ℤ) → get int_cmp more low ≡ Some high → IsTrue (int_le low high)
  filled_more low high e = go (entry_of low high e)
    where
      go : ((range.low ≡ low) × (range.high ≡ high)) ⊎ (get int_cmp ends low ≡ Some high) → IsTrue (int_le low high)
      go (inl (p, q)) = rw (sym p, sym q) (grind (arith, ints, not_empty))
      go (inr h) = by.filled low high h

  apart_more : (low high next last : ℤ) → get int_cmp more low ≡ Some high → get int_cmp more next ≡ Some last
      → IsTrue (int_lt low next) → IsTrue (int_lt high next)
  apart_more low high next last e f less = go (entry_of low high e) (entry_of next last f)
    where
      go : ((range.low ≡ low) × (range.high ≡ high)) ⊎ (get int_cmp ends low ≡ Some high)
          → ((range.low ≡ next) × (range.high ≡ last)) ⊎ (get int_cmp ends next ≡ Some last) → IsTrue (int_lt high next)
      go (inl (p, q)) (inl (r, s)) = grind (arith, ints, p, r, less)
      go (inl (p, q)) (inr h) = side (either_side next last (ends_apart next last h))
        where
          filled : IsTrue (int_le next last)
          filled = by.filled next last h

          side : (int_lt last range.low ≡ true) ⊎ (int_lt range.high next ≡ true) → IsTrue (int_lt high next)
          side (inl t) = grind (arith, ints, t, p, less, filled)
          side (inr t) = rw (sym q) t
      go (inr h) (inl (r, s)) = side (either_side low high (ends_apart low high h))
        where
          side : (int_lt high range.low ≡ true) ⊎ (int_lt range.high low ≡ true) → IsTrue (int_lt high next)
          side (inl t) = rw (sym r) t
          side (inr t) = grind (arith, ints, t, r, less, not_empty)
      go (inr h) (inr k) = by.apart low high next last h k less

  more_by_ends : IsByEnds more (ranges ++ range ∷ [])
  more_by_ends = record { there = there_more; listed = listed_more; filled = filled_more; apart = apart_more }

-- where the map has one entry more
pub found_more : (has_empty : Bool) (ends more : BTreeMap ℤ ℤ) (ranges now : List CaseRange) (range : CaseRange) (key value : ℤ)
    → AreFoundByEnds has_empty ends ranges → list_all (λ s. is_apart s range) ranges ≡ true → int_lt range.high range.low ≡ false
    → key ≡ range.low → value ≡ range.high
    → ((q : ℤ) → get int_cmp more q ≡ cond (is_eq (int_cmp key q)) (Some value) (get int_cmp ends q))
    → now ≡ ranges ++ range ∷ [] → AreFoundByEnds has_empty more now
found_more has_empty ends more ranges now range key value found apart not_empty k v puts pushed whole =
    subst (IsByEnds more) (sym pushed) (more_by_ends ends more ranges range (found whole) apart not_empty puts_own)
  where
    puts_own : (q : ℤ) → get int_cmp more q ≡ cond (is_eq (int_cmp range.low q)) (Some range.high) (get int_cmp ends q)
    puts_own q = puts q ∙ rw (k, v) refl

-- where it has the same ones, and the range that was pushed is taken off again
pub found_again : (has_empty : Bool) (ends more : BTreeMap ℤ ℤ) (ranges pushed now : List CaseRange) (range : CaseRange) (o : Option CaseRange)
    → AreFoundByEnds has_empty ends ranges → more.entries ≡ ends.entries → pushed ≡ ranges ++ range ∷ []
    → MatchOption o ((pushed ≡ []) × (now ≡ [])) (λ last. pushed ≡ now ++ last ∷ []) → AreFoundByEnds has_empty more now
found_again has_empty ends more ranges pushed now range o found same_entries was popped whole =
    subst (IsByEnds more) (sym (same_ranges o popped)) by_more
  where
    same_ranges : (o : Option CaseRange) → MatchOption o ((pushed ≡ []) × (now ≡ [])) (λ last. pushed ≡ now ++ last ∷ []) → now ≡ ranges
    same_ranges None h = absurd (some_left ranges (sym was ∙ h.0))
      where
        some_left : (rs : List CaseRange) → rs ++ range ∷ [] ≡ [] → ⊥
        some_left [] e = cc
        some_left (r ∷ rs) e = cc
    same_ranges (Some last) h = (same_from_push now ranges last range (sym h ∙ was)).0

    gives : (q : ℤ) → get int_cmp more q ≡ get int_cmp ends q
    gives q = ap (λ es. lookup (λ k. is_eq (int_cmp q k)) es) same_entries

    by : IsByEnds ends ranges
    by = found whole

    by_more : IsByEnds more ranges
    by_more =
        record {
          there = λ r held. gives r.low ∙ by.there r held;
          listed = λ low high e. by.listed low high (sym (gives low) ∙ e);
          filled = λ low high e. by.filled low high (sym (gives low) ∙ e);
          apart = λ low high next last e f less. by.apart low high next last (sym (gives low) ∙ e) (sym (gives next) ∙ f) less;
        }

-- what a call says where it fails, and where it does not
pub on_err : {A E : Type 0} (r : Result A E) (P : Type 0) → is_err r ≡ true → OnErr r P → P
on_err (Ok a) P e h = cc
on_err (Err a) P e h = h

pub on_ok : {A E : Type 0} (r : Result A E) (P : Type 0) → is_err r ≡ false → OnOk r P → P
on_ok (Ok a) P e h = h
on_ok (Err a) P e h = cc

-- ---- values

not_lt : (a b : ℤ) → not (int_lt a b) ≡ int_le b a
not_lt a b = grind (arith, ints)

one_value : (s : CaseRange) (z : ℤ) → not (int_lt s.high z || int_lt z s.low) ≡ (int_le s.low z && int_le z s.high)
one_value s z = go (int_lt s.high z) (int_lt z s.low) ∙ rw (not_lt z s.low, not_lt s.high z) refl
  where
    go : (x y : Bool) → not (x || y) ≡ (not y && not x)
    go true true = refl
    go true false = refl
    go false true = refl
    go false false = refl

-- no range of one value is apart from all where the value is in one of them
has_value : (ranges : List CaseRange) (z : ℤ) → not (list_all (λ s. int_lt s.high z || int_lt z s.low) ranges) ≡ has_index ranges z
has_value [] z = refl
has_value (r ∷ rs) z = go (int_lt r.high z || int_lt z r.low) (list_all (λ s. int_lt s.high z || int_lt z s.low) rs) ∙ rw (one_value r z, has_value rs z) refl
  where
    go : (x y : Bool) → not (x && y) ≡ (not x || not y)
    go true y = refl
    go false y = refl

-- alike, of numbers that are that value
pub value_told : (result : Bool) (low high value : ℤ) (ranges : List CaseRange)
    → result ≡ list_all (λ s. is_apart s (record { low = low; high = high })) ranges → low ≡ value → high ≡ value
    → not result ≡ has_index ranges value
value_told result low high value ranges told e f = rw (told, e, f) (has_value ranges value)
