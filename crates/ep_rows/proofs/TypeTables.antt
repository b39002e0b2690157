-- Which number a type has, for src/type_table.rt.
use Rattle.std.proofs.Common.{◌≡◌, ℕ, zero, suc, ◌+◌, Bool, true, false, List, [], ◌∷◌, ◌++◌, length, take, ◌<◌, Option, None, Some, cond, position, slice_get, get_or, subst, ℤ, refl, sym, ap, ◌∙◌, arith}
use Rattle.std.specs.Prelude.{IfSome, nat_lt, if◌then◌else◌}
use Rattle.std.specs.List.{list_any, position_or_len}
use Rattle.std.proofs.lemmas.Bool.Decides.{nat_tests}
use Rattle.ep_object.specs.State.{TypeTable}
use Rattle.ep_object.specs.Types.{same_entry, entry_number, ordinal_entry}
use Rattle.ep_object.specs.declared.state.TypeEntry.{TypeEntry}
use Rattle.ep_rows.specs.Notes.{AllNoted}
use Rattle.ep_rows.specs.declared.type_table.Note.{Note}

less_by_one : (m n : ℕ) → nat_lt (1 + m) (suc n) ≡ false → nat_lt m n ≡ false
less_by_one m n h = grind (arith, nat_tests)

none_less : (n : ℕ) → nat_lt 0 (suc n) ≡ false → ⊥
none_less n h = grind (arith, nat_tests)

-- ---- the first of the same types among the first ones is the first of all

-- what is the first to pass among the first n is the first of all
first_below : {A : Type 0} (p : A → Bool) (n : ℕ) (xs : List A) → position_or_len p (take n xs) < length (take n xs)
    → (position_or_len p xs ≡ position_or_len p (take n xs)) × (position_or_len p (take n xs) < length xs)
first_below p zero xs h = absurd (omega arith)
first_below p (suc n) [] h = absurd (omega arith)
first_below p (suc n) (x ∷ xs) h = by (p x) refl (first_below p n xs)
  where
    by : (b : Bool) → p x ≡ b
        → (position_or_len p (take n xs) < length (take n xs) → (position_or_len p xs ≡ position_or_len p (take n xs)) × (position_or_len p (take n xs) < length xs))
        → (position_or_len p (x ∷ xs) ≡ position_or_len p (x ∷ take n xs)) × (position_or_len p (x ∷ take n xs) < suc (length xs))
    by true e rest = rw e (refl, omega arith)
    by false e rest =
        let less : 1 + position_or_len p (take n xs) < suc (length (take n xs)) = rw e at h in
        let r = rest (omega (arith, less)) in
        rw e (ap (λ k. 1 + k) r.0, omega (arith, r.1))

-- what a place that was found says
position_says : (b : Bool) (k n : ℕ) → cond b (Some k) None ≡ Some n → (b ≡ true) × (k ≡ n)
position_says true k n h = (refl, cc)
position_says false k n h = cc

first_in : {A : Type 0} (p : A → Bool) (n k : ℕ) (xs : List A) → position p (take n xs) ≡ Some k → position p xs ≡ Some k
first_in p n k xs h =
    let w = position_says (nat_lt (position_or_len p (take n xs)) (length (take n xs))) (position_or_len p (take n xs)) k h in
    let test : nat_lt (position_or_len p (take n xs)) (length (take n xs)) ≡ true = w.0 in
    let less : position_or_len p (take n xs) < length (take n xs) = grind (arith, nat_tests) in
    let r = first_below p n xs less in
    let below : position_or_len p (take n xs) < length xs = r.1 in
    let within : nat_lt (position_or_len p (take n xs)) (length xs) ≡ true = grind (arith, nat_tests) in
    let here : nat_lt (position_or_len p xs) (length xs) ≡ true = ap (λ i. nat_lt i (length xs)) r.0 ∙ within in
    let first : position p xs ≡ Some (position_or_len p xs) = ap (λ b. cond b (Some (position_or_len p xs)) None) here in
    first ∙ ap Some (r.0 ∙ w.1)

-- the number of a type among the first n types is its number, for `number_in_front`
pub first_in_front : (types : TypeTable) (e : TypeEntry) (n : ℕ) (o : Option ℕ) → o ≡ entry_number e (take n types) → IfSome o (λ number. entry_number e types ≡ Some number)
first_in_front types e n None h = tt
first_in_front types e n (Some number) h = first_in (same_entry e) n number types (sym h)

-- ---- a type that has no number is not there

-- where none is the first to pass, none passes
none_passes : {A : Type 0} (p : A → Bool) (xs : List A) → nat_lt (position_or_len p xs) (length xs) ≡ false → list_any p xs ≡ false
none_passes p [] h = refl
none_passes p (x ∷ xs) h = by (p x) refl (none_passes p xs)
  where
    by : (b : Bool) → p x ≡ b → (nat_lt (position_or_len p xs) (length xs) ≡ false → list_any p xs ≡ false) → list_any p (x ∷ xs) ≡ false
    by true e rest = absurd (none_less (length xs) (rw e at h))
    by false e rest = rw e (rest (less_by_one (position_or_len p xs) (length xs) (rw e at h)))

absent : {A : Type 0} (p : A → Bool) (xs : List A) → position p xs ≡ None → list_any p xs ≡ false
absent p xs h = by (nat_lt (position_or_len p xs) (length xs)) refl
  where
    by : (b : Bool) → nat_lt (position_or_len p xs) (length xs) ≡ b → list_any p xs ≡ false
    by true e = cc
    by false e = none_passes p xs e

-- it is entered at the end
pub entered : (types : TypeTable) (e : TypeEntry) → entry_number e types ≡ None
    → (if list_any (same_entry e) types then types else types ++ e ∷ []) ≡ types ++ e ∷ []
entered types e h = ap (λ c. if c then types else types ++ e ∷ []) (absent (same_entry e) types h)

-- ---- what a note says

found : (notes : List Note) (i : ℕ) (d : Note) → i < length notes → slice_get notes i ≡ Some (get_or notes i d)
found [] i d h = absurd (omega (arith, h))
found (x ∷ xs) zero d h = refl
found (x ∷ xs) (suc i) d h = found xs i d (omega (arith, h))

pub noted_at : (notes : List Note) (types : TypeTable) (i : ℕ) (d x : Note) (lo hi : ℤ) → AllNoted notes types → i < length notes → x ≡ get_or notes i d → x.low ≡ lo → x.high ≡ hi
    → x.number < 4294967295 → entry_number (ordinal_entry lo hi) types ≡ Some x.number
noted_at notes types i d x lo hi all within is low high less =
    let has : slice_get notes i ≡ Some x = found notes i d within ∙ ap (λ n. Some n) (sym is) in
    let number : entry_number (ordinal_entry x.low x.high) types ≡ Some x.number = all i x has less in
    subst (λ l. entry_number (ordinal_entry l hi) types ≡ Some x.number) low (subst (λ h. entry_number (ordinal_entry x.low h) types ≡ Some x.number) high number)
