-- The words of hidden segments: they stay as many where an allocation gets a new segment and where a segment gets other
-- words, and are no more where memory grows.
use Rattle.std.proofs.Common.{◌≡◌, ℕ, zero, suc, ◌+◌, ◌≤◌, ◌<◌, ◌==◌, ◌||◌, ◌⊎◌, inl, inr, Bool, true, false, [], ◌∷◌, ◌++◌, length, Option, Some, None, option_map, slice_get, slice_set, refl, sym, ap, ◌∙◌, subst, arith}
use Rattle.std.specs.Prelude.{if◌then◌else◌}
use Rattle.std.specs.List.{list_any}
use Rattle.std.proofs.lemmas.Bool.Decides.{nat_tests}
use Rattle.ep_simulation.specs.Matching.{MachineMemory, Mapped, Injection, is_at, IsIn, IsHidden, Slots, Grown, hidden_from, hidden_words}
use Rattle.ep_simulation.proofs.public.matching.MoreMemory.{before_or_not, is_in-longer}
use Rattle.ep_object.specs.State.{Segments}
use Rattle.ep_values.specs.TypeValues.{TypeValue}
use Rattle.ep_object.specs.declared.state.Segment.{Segment}

-- another segment in an injection does not make this one an item
any_before : (injection : Injection) (k : ℕ) (new : Mapped) → k < new.segment
    → list_any (is_at k) (injection ++ new ∷ []) ≡ list_any (is_at k) injection
any_before [] k new le = let e : (new.segment == k) ≡ false = grind (arith, nat_tests) in rw e refl
any_before (j ∷ injection) k new le = ap (λ b. (j.segment == k) || b) (any_before injection k new le)

-- and makes itself one
any_last : (injection : Injection) (new : Mapped) → list_any (is_at new.segment) (injection ++ new ∷ []) ≡ true
any_last [] new = let e : (new.segment == new.segment) ≡ true = grind (arith, nat_tests) in rw e refl
any_last (j ∷ injection) new = or_true (j.segment == new.segment) (any_last injection new)
  where
    or_true : (a : Bool) {b : Bool} → b ≡ true → (a || b) ≡ true
    or_true true e = refl
    or_true false e = e

-- a new segment of an allocation, behind the others
hidden_pushed : (injection : Injection) (x : Segment) (k : ℕ) (segments : Segments) (new : Mapped)
    → new.segment ≡ k + length segments
    → hidden_from (injection ++ new ∷ []) k (segments ++ Some x ∷ []) ≡ hidden_from injection k segments
hidden_pushed injection x k [] new e = here (any_last injection new) (omega (arith, e))
  where
    here : list_any (is_at new.segment) (injection ++ new ∷ []) ≡ true → k ≡ new.segment
        → (if list_any (is_at k) (injection ++ new ∷ []) then 0 else length x.words + 1) + 0 ≡ 0
    here t same = ap (λ i. (if list_any (is_at i) (injection ++ new ∷ []) then 0 else length x.words + 1) + 0) same ∙ ap (λ b. (if b then 0 else length x.words + 1) + 0) t
hidden_pushed injection x k (None ∷ segments) new e = hidden_pushed injection x (suc k) segments new (omega (arith, e))
hidden_pushed injection x k (Some y ∷ segments) new e =
    let before : k < new.segment = omega (arith, e) in
    let here : list_any (is_at k) (injection ++ new ∷ []) ≡ list_any (is_at k) injection = any_before injection k new before in
    let rest : hidden_from (injection ++ new ∷ []) (suc k) (segments ++ Some x ∷ []) ≡ hidden_from injection (suc k) segments = hidden_pushed injection x (suc k) segments new (omega (arith, e)) in
    ap (λ b. (if b then 0 else length y.words + 1) + hidden_from (injection ++ new ∷ []) (suc k) (segments ++ Some x ∷ [])) here
    ∙ ap (λ n. (if list_any (is_at k) injection then 0 else length y.words + 1) + n) rest

-- an allocation gets the next segment
pub hidden_words-pushed : (injection : Injection) (segments : Segments) (x : Segment) (t : TypeValue)
    → hidden_words (injection ++ record { segment = length segments; type_value = t } ∷ []) (segments ++ Some x ∷ []) ≡ hidden_words injection segments
hidden_words-pushed injection segments x t = hidden_pushed injection x 0 segments (record { segment = length segments; type_value = t }) (omega arith)

-- a segment gets other words, as many
hidden_set : (injection : Injection) (x y : Segment) → length y.words ≡ length x.words
    → (k : ℕ) (segments : Segments) (n : ℕ) → slice_get segments n ≡ Some (Some x)
    → hidden_from injection k (slice_set segments n (Some y)) ≡ hidden_from injection k segments
hidden_set injection x y same k [] n h = cc
hidden_set injection x y same k (o ∷ segments) zero h = go o (first o h)
  where
    first : (o : Option Segment) → ◌≡◌ {A = Option (Option Segment)} (Some o) (Some (Some x)) → o ≡ Some x
    first o h = cc

    go : (o : Option Segment) → o ≡ Some x
        → hidden_from injection k (Some y ∷ segments) ≡ hidden_from injection k (o ∷ segments)
    go o e = ap (λ n. (if list_any (is_at k) injection then 0 else n + 1) + hidden_from injection (suc k) segments) same ∙ ap (λ z. hidden_from injection k (z ∷ segments)) (sym e)
hidden_set injection x y same k (None ∷ segments) (suc n) h = hidden_set injection x y same (suc k) segments n h
hidden_set injection x y same k (Some z ∷ segments) (suc n) h = ap (λ m. (if list_any (is_at k) injection then 0 else length z.words + 1) + m) (hidden_set injection x y same (suc k) segments n h)

-- the words of one segment change, and not their number
pub hidden_words-set : (injection : Injection) (segments : Segments) (n : ℕ) (x y : Segment)
    → length y.words ≡ length x.words → slice_get segments n ≡ Some (Some x)
    → hidden_words injection (slice_set segments n (Some y)) ≡ hidden_words injection segments
hidden_words-set injection segments n x y same h = hidden_set injection x y same 0 segments n h

-- ---- where memory grows

-- a segment of an allocation is an item of the injection
any_in : (injection : Injection) (n k : ℕ) → option_map (λ m. m.segment) (slice_get injection n) ≡ Some k
    → list_any (is_at k) injection ≡ true
any_in [] n k h = cc
any_in (j ∷ injection) zero k h =
    let same : j.segment ≡ k = cc in
    let e : (j.segment == k) ≡ true = grind (arith, nat_tests) in
    ap (λ b. b || list_any (is_at k) injection) e
any_in (j ∷ injection) (suc n) k h = or_true (j.segment == k) (any_in injection n k h)
  where
    or_true : (a : Bool) {b : Bool} → b ≡ true → (a || b) ≡ true
    or_true true e = refl
    or_true false e = e

pub is_item : (injection : Injection) (n k : ℕ) → IsIn injection n k → list_any (is_at k) injection ≡ true
is_item injection zero k h = absurd h
is_item injection (suc n) k h = any_in injection n k h

-- an item of the injection ends, which is no hidden segment
hidden_ended : (injection : Injection) (k : ℕ) (segments : Segments) (n m : ℕ) → m ≡ k + n
    → list_any (is_at m) injection ≡ true
    → hidden_from injection k (slice_set segments n None) ≡ hidden_from injection k segments
hidden_ended injection k [] n m at item = refl
hidden_ended injection k (None ∷ segments) zero m at item = refl
hidden_ended injection k (Some x ∷ segments) zero m at item =
    let here : list_any (is_at k) injection ≡ true = subst (λ i. list_any (is_at i) injection ≡ true) {x = m} {y = k} (omega (arith, at)) item in
    omega (arith, ap (λ b. (if b then 0 else length x.words + 1) + hidden_from injection (suc k) segments) here)
hidden_ended injection k (None ∷ segments) (suc n) m at item = hidden_ended injection (suc k) segments n m (omega (arith, at)) item
hidden_ended injection k (Some x ∷ segments) (suc n) m at item =
    ap (λ i. (if list_any (is_at k) injection then 0 else length x.words + 1) + i) (hidden_ended injection (suc k) segments n m (omega (arith, at)) item)

pub hidden_words-ended : (injection : Injection) (segments : Segments) (n k : ℕ) → IsIn injection n k
    → hidden_words injection (slice_set segments k None) ≡ hidden_words injection segments
hidden_words-ended injection segments n k h = hidden_ended injection 0 segments k k (omega arith) (is_item injection n k h)

-- and an item is the segment of an allocation
in_any : (injection : Injection) (k : ℕ) → list_any (is_at k) injection ≡ true
    → (n : ℕ) × IsIn injection n k
in_any [] k h = absurd cc
in_any (j ∷ injection) k h = go (j.segment == k) refl (in_any injection k) h
  where
    later : (n : ℕ) → IsIn injection n k → (m : ℕ) × IsIn (j ∷ injection) m k
    later zero p = absurd p
    later (suc n) p = (suc (suc n), p)

    go : (b : Bool) → (j.segment == k) ≡ b → (list_any (is_at k) injection ≡ true → (n : ℕ) × IsIn injection n k)
        → (b || list_any (is_at k) injection) ≡ true → (n : ℕ) × IsIn (j ∷ injection) n k
    go true e rest t = let same : j.segment ≡ k = grind (arith, nat_tests) in (1, ap Some same)
    go false e rest t = let x = rest t in later x.0 x.1

-- what each living segment of the later list is: an allocation's, or a hidden one that was there before
abbrev StaysHidden : Injection → Injection → ℕ → Segments → Segments → Type 0
StaysHidden injection longer k before after =
    (i : ℕ) (y : Segment) → slice_get after i ≡ Some (Some y)
    → (list_any (is_at (k + i)) longer ≡ true) ⊎ ((slice_get before i ≡ Some (Some y)) × (list_any (is_at (k + i)) injection ≡ false))

-- the same of the rest of both lists
rest_stays : (injection longer : Injection) (k : ℕ) (x : Option Segment) (before : Segments) (o : Option Segment) (after : Segments)
    → StaysHidden injection longer k (x ∷ before) (o ∷ after)
    → StaysHidden injection longer (suc k) before after
rest_stays injection longer k x before o after h i y is =
    let one : k + suc i ≡ suc k + i = omega arith in
    subst (λ m. (list_any (is_at m) longer ≡ true) ⊎ ((slice_get before i ≡ Some (Some y)) × (list_any (is_at m) injection ≡ false))) one (h (suc i) y is)

-- all that live are segments of allocations
abbrev AreItems : Injection → ℕ → Segments → Type 0
AreItems longer k after = (i : ℕ) (y : Segment) → slice_get after i ≡ Some (Some y)
    → list_any (is_at (k + i)) longer ≡ true

rest_items : (longer : Injection) (k : ℕ) (o : Option Segment) (after : Segments)
    → AreItems longer k (o ∷ after) → AreItems longer (suc k) after
rest_items longer k o after h i y is =
    let one : k + suc i ≡ suc k + i = omega arith in
    subst (λ m. list_any (is_at m) longer ≡ true) one (h (suc i) y is)

-- a segment of an allocation has no hidden words
item_counts : (longer : Injection) (k : ℕ) (y : Segment) (after : Segments)
    → list_any (is_at (k + 0)) longer ≡ true
    → hidden_from longer k (Some y ∷ after) ≡ hidden_from longer (suc k) after
item_counts longer k y after p =
    let same : k + 0 ≡ k = omega arith in
    let item : list_any (is_at k) longer ≡ true = subst (λ m. list_any (is_at m) longer ≡ true) same p in
    let nothing : 0 + hidden_from longer (suc k) after ≡ hidden_from longer (suc k) after = omega arith in
    ap (λ b. (if b then 0 else length y.words + 1) + hidden_from longer (suc k) after) item ∙ nothing

-- and then none is hidden
items_none : (longer : Injection) (k : ℕ) (after : Segments) → AreItems longer k after
    → hidden_from longer k after ≤ 0
items_none longer k [] h = omega arith
items_none longer k (None ∷ after) h = items_none longer (suc k) after (rest_items longer k None after h)
items_none longer k (Some y ∷ after) h = omega (arith, item_counts longer k y after (h 0 y refl), items_none longer (suc k) after (rest_items longer k (Some y) after h))

-- the words of what stands behind a segment are among those from it on
among : (injection : Injection) (k : ℕ) (x : Option Segment) (before : Segments)
    → hidden_from injection (suc k) before ≤ hidden_from injection k (x ∷ before)
among injection k None before = omega arith
among injection k (Some x) before = omega arith

no_more : (injection longer : Injection) (k : ℕ) (before after : Segments)
    → StaysHidden injection longer k before after
    → hidden_from longer k after ≤ hidden_from injection k before
no_more injection longer k [] after h = items_none longer k after (λ i y is. nowhere i y (h i y is))
  where
    nowhere : (i : ℕ) (y : Segment)
        → (list_any (is_at (k + i)) longer ≡ true) ⊎ ((◌≡◌ {A = Option (Option Segment)} None (Some (Some y))) × (list_any (is_at (k + i)) injection ≡ false))
        → list_any (is_at (k + i)) longer ≡ true
    nowhere i y (inl p) = p
    nowhere i y (inr p) = let none : ◌≡◌ {A = Option (Option Segment)} None (Some (Some y)) = p.0 in absurd cc
no_more injection longer k (x ∷ before) [] h = omega arith
no_more injection longer k (x ∷ before) (None ∷ after) h = omega (arith, no_more injection longer (suc k) before after (rest_stays injection longer k x before None after h), among injection k x before)
no_more injection longer k (x ∷ before) (Some y ∷ after) h = here (no_more injection longer (suc k) before after (rest_stays injection longer k x before (Some y) after h)) (h 0 y refl)
  where
    first : ◌≡◌ {A = Option (Option Segment)} (Some x) (Some (Some y)) → Some y ≡ x
    first e = cc

    at_most : (b : Bool) → (if b then 0 else length y.words + 1) ≤ length y.words + 1
    at_most true = omega arith
    at_most false = omega arith

    here : hidden_from longer (suc k) after ≤ hidden_from injection (suc k) before
        → (list_any (is_at (k + 0)) longer ≡ true) ⊎ ((◌≡◌ {A = Option (Option Segment)} (Some x) (Some (Some y))) × (list_any (is_at (k + 0)) injection ≡ false))
        → hidden_from longer k (Some y ∷ after) ≤ hidden_from injection k (x ∷ before)
    here rest (inl p) = omega (arith, item_counts longer k y after p, rest, among injection k x before)
    here rest (inr p) =
        let same : k + 0 ≡ k = omega arith in
        let hidden : list_any (is_at k) injection ≡ false = subst (λ m. list_any (is_at m) injection ≡ false) same p.1 in
        let words : hidden_from injection k (Some y ∷ before) ≡ length y.words + 1 + hidden_from injection (suc k) before = ap (λ b. (if b then 0 else length y.words + 1) + hidden_from injection (suc k) before) hidden in
        subst (λ o. hidden_from longer k (Some y ∷ after) ≤ hidden_from injection k (o ∷ before)) (first p.0) (omega (arith, words, rest, at_most (list_any (is_at k) longer)))

-- Hidden segments have no more words than before where memory has grown. So what was set aside for them can be given back.
pub hidden_words-grown : {untouched : Slots} {injection longer : Injection} {memory after : MachineMemory}
    → Grown untouched injection memory longer after
    → hidden_words longer after.segments ≤ hidden_words injection memory.segments
hidden_words-grown {injection = injection} {longer = longer} {memory = memory} {after = after} g = no_more injection longer 0 memory.segments after.segments (λ i y is. subst (λ m. (list_any (is_at m) longer ≡ true) ⊎ ((slice_get memory.segments i ≡ Some (Some y)) × (list_any (is_at m) injection ≡ false))) {x = i} {y = 0 + i} (omega arith) (stays i y is (before_or_not (length memory.segments) i)))
  where
    -- an item stays one
    longer_item : (i : ℕ) → list_any (is_at i) injection ≡ true → list_any (is_at i) longer ≡ true
    longer_item i e = let x = in_any injection i e in is_item longer x.0 i (is_in-longer injection longer x.0 i g.larger x.1)

    hidden_one : (i : ℕ) → list_any (is_at i) injection ≡ false → IsHidden injection i
    hidden_one i e = λ n is_in. let t = is_item injection n i is_in in absurd cc

    old : (i : ℕ) (y : Segment) → slice_get after.segments i ≡ Some (Some y) → i < length memory.segments
        → (b : Bool) → list_any (is_at i) injection ≡ b
        → (list_any (is_at i) longer ≡ true) ⊎ ((slice_get memory.segments i ≡ Some (Some y)) × (list_any (is_at i) injection ≡ false))
    old i y is less true e = inl (longer_item i e)
    old i y is less false e = inr (sym (g.others i less (hidden_one i e)) ∙ is, e)

    stays : (i : ℕ) (y : Segment) → slice_get after.segments i ≡ Some (Some y)
        → (length memory.segments ≤ i) ⊎ (i < length memory.segments)
        → (list_any (is_at i) longer ≡ true) ⊎ ((slice_get memory.segments i ≡ Some (Some y)) × (list_any (is_at i) injection ≡ false))
    stays i y is (inl new) = let x = g.allocated i y new is in inl (is_item longer x.0 i x.1)
    stays i y is (inr less) = old i y is less (list_any (is_at i) injection) refl
