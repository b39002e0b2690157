-- What a variable keeps when components of it get values.
use Rattle.std.proofs.Common.{◌≡◌, ℕ, zero, suc, ◌⊎◌, inl, inr, List, [], ◌∷◌, ◌++◌, Option, Some, None, slice_get, slice_set, refl, sym, ap, ◌∙◌, subst}
use Rattle.ep_simulation.proofs.matching.Changes.{same_or_not}
use Rattle.ep_object.proofs.public.Elements.{slice_get-set-same, slice_get-set-other}
use Rattle.ep_simulation.proofs.matching.Words.{with-same}
use Rattle.ep_meaning.specs.Steps.{Allocation, Component, State, allocation_at, assigned, assigned_at, changed_at, component, ended_in, has_ended, value_at, value_in}
use Rattle.ep_values.specs.Values.{Value, component_of, value_along, value_with, values_with}

-- ---- values

-- a component that has a value keeps it where any component gets the same one
values_keep : (of : ℕ → Value) (k j : ℕ) (value : Value) → of j ≡ value → values_with of k value j ≡ value
values_keep of zero zero value h = refl
values_keep of zero (suc j) value h = h
values_keep of (suc k) zero value h = h
values_keep of (suc k) (suc j) value h = values_keep (λ i. of (suc i)) k j value h

along_keeps : (v : Value) (path : List ℕ) (k j : ℕ) (value : Value) → value_along v (path ++ j ∷ []) ≡ value → value_along (value_with v (path ++ k ∷ []) value) (path ++ j ∷ []) ≡ value
along_keeps v [] k j value h = values_keep (component_of v) k j value h
along_keeps v (i ∷ path) k j value h =
    ap (λ u. value_along u (path ++ j ∷ [])) (with-same (component_of v) i (value_with (component_of v i) (path ++ k ∷ []) value)) ∙ along_keeps (component_of v i) path k j value h

-- what gets a value has it
along_gets : (v : Value) (path : List ℕ) (value : Value) → value_along (value_with v path value) path ≡ value
along_gets v [] value = refl
along_gets v (i ∷ path) value = ap (λ u. value_along u path) (with-same (component_of v) i (value_with (component_of v i) path value)) ∙ along_gets (component_of v i) path value

-- ---- variables

-- a component of a variable likewise
pub value_keeps : (c : Component) (k j : ℕ) (value : Value) (s : State) → value_at (component c j) s ≡ value → value_at (component c j) (assigned (component c k) value s) ≡ value
value_keeps c k j value s h = go c.allocation h
  where
    later : (n : ℕ) (o : Option Allocation) → slice_get s.allocations n ≡ o → value_in o (c.path ++ j ∷ []) ≡ value
        → value_in (slice_get (changed_at n (c.path ++ k ∷ []) value s.allocations o) n) (c.path ++ j ∷ []) ≡ value
    later n None is old = ap (λ o. value_in o (c.path ++ j ∷ [])) is ∙ old
    later n (Some a) is old =
        ap (λ o. value_in o (c.path ++ j ∷ [])) (slice_get-set-same s.allocations n (record a { value = value_with a.value (c.path ++ k ∷ []) value }) a is) ∙ along_keeps a.value c.path k j value old

    go : (n : ℕ) → value_in (allocation_at s.allocations n) (c.path ++ j ∷ []) ≡ value
        → value_in (allocation_at (assigned_at n (c.path ++ k ∷ []) value s.allocations) n) (c.path ++ j ∷ []) ≡ value
    go zero old = old
    go (suc n) old = later n (slice_get s.allocations n) refl old

-- a variable of an allocation that there is has the value that it gets
pub value_got : (c : Component) (value : Value) (s : State) (a : Allocation) → allocation_at s.allocations c.allocation ≡ Some a → value_at c (assigned c value s) ≡ value
value_got c value s a is = go c.allocation is
  where
    go : (n : ℕ) → allocation_at s.allocations n ≡ Some a → value_in (allocation_at (assigned_at n c.path value s.allocations) n) c.path ≡ value
    go zero there = cc
    go (suc n) there = rw there (ap (λ o. value_in o c.path) (slice_get-set-same s.allocations n (record a { value = value_with a.value c.path value }) a there) ∙ along_gets a.value c.path value)

-- no allocation ends
pub ended_keeps : (c : Component) (value : Value) (s : State) (n : ℕ) → has_ended n (assigned c value s) ≡ has_ended n s
ended_keeps c value s n = go c.allocation n
  where
    later : (m i : ℕ) (o : Option Allocation) → slice_get s.allocations m ≡ o → (m ≡ i) ⊎ (m ≡ i → ⊥)
        → ended_in (slice_get (changed_at m c.path value s.allocations o) i) ≡ ended_in (slice_get s.allocations i)
    later m i None is either = refl
    later m i (Some a) is (inl same) =
        subst (λ j. ended_in (slice_get (slice_set s.allocations m (record a { value = value_with a.value c.path value })) j) ≡ ended_in (slice_get s.allocations j)) same
        (ap ended_in (slice_get-set-same s.allocations m (record a { value = value_with a.value c.path value }) a is) ∙ sym (ap ended_in is))
    later m i (Some a) is (inr other) = ap ended_in (slice_get-set-other s.allocations m i (record a { value = value_with a.value c.path value }) other)

    go : (m i : ℕ) → ended_in (allocation_at (assigned_at m c.path value s.allocations) i) ≡ ended_in (allocation_at s.allocations i)
    go zero i = refl
    go (suc m) zero = refl
    go (suc m) (suc i) = later m i (slice_get s.allocations m) refl (same_or_not m i)
