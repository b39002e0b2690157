-- Words that hold values.
use Rattle.std.proofs.Common.{◌≡◌, ℕ, ℤ, zero, suc, ◌+◌, ◌*◌, ◌≤◌, ◌<◌, ◌⊎◌, inl, inr, Bool, true, false, cond, ltb, List, [], ◌∷◌, ◌++◌, Option, Some, None, slice_get, slice_set, refl, sym, ap, ◌∙◌, subst, arith}
use Rattle.std.proofs.Math.Nat.{mul-le-mul_right}
use Rattle.std.proofs.lemmas.Bool.Decides.{nat_tests}
use Rattle.std.proofs.lemmas.Option.{same_Some}
use native.Mathlib.Decide.{ℕ_discrete}
use Rattle.ep_outside.specs.Known.{IsPrefix}
use Rattle.ep_simulation.specs.Matching.{Injection, TypePart, part_among, part_behind, part_of, part_along, all_of, Words, OrdinalAt, SetAt, HasAt, HaveAt}
use Rattle.ep_object.specs.Sets.{set_size}
use Rattle.ep_object.specs.State.{undefined}
use Rattle.ep_object.proofs.public.Elements.{slice_get-set-same, slice_get-set-other}
use Rattle.ep_values.specs.Bounds.{count_of}
use Rattle.ep_values.specs.Values.{Value, Undefined, component_of, values_with, with_component, value_along, value_with}
use Rattle.ep_meaning.specs.Steps.{type_along}
use Rattle.ep_meaning.specs.Steps as meaning
use Rattle.ep_values.specs.TypeValues as type
use Rattle.ep_values.specs.TypeValues.{ComponentTypes, TypeValue, component_type, is_within, size_of, sizes_of, type_among}
use Rattle.ep_meaning.specs.Valid.{AreTypeValues, IsTypeValue}

-- ---- components that stand side by side

-- one of so many components ends where the next one begins, or before
pub ends_before : (k n size : ℕ) → k < n → k * size + size ≤ n * size
ends_before k n size less = omega (arith, mul-le-mul_right size less)

-- a test of numbers
less_is : (k n : ℕ) → ltb k n ≡ true → k < n
less_is k n e = grind (arith, nat_tests)

pub less_true : (k n : ℕ) → k < n → ltb k n ≡ true
less_true k n h = grind (arith, nat_tests)

-- where a part is that a component is
pub record IsComponent (low high : ℤ) (of : TypeValue) (k : ℕ) (p : TypePart) : Type 0 where
  pub less : k < count_of low high
  pub is : p ≡ record { offset = k * size_of of; type_value = of }

-- a component of an array
pub array_part : (low high : ℤ) (of : TypeValue) (k : ℕ) (p : TypePart) → part_of (type.Array low high of) k ≡ Some p
    → IsComponent low high of k p
array_part low high of k p h = go (ltb k (count_of low high)) refl h
  where
    go : (b : Bool) → ltb k (count_of low high) ≡ b → cond b (Some (record { offset = k * size_of of; type_value = of })) None ≡ Some p
        → IsComponent low high of k p
    go true e found = record { less = less_is k (count_of low high) e; is = sym (same_Some (record { offset = k * size_of of; type_value = of }) p found) }
    go false e found = cc

-- ---- paths

-- nothing is at a path behind no part
nowhere : (path : List ℕ) {p : TypePart} → part_along None path ≡ Some p → ⊥
nowhere [] h = cc
nowhere (k ∷ path) h = cc

-- the first step of a path leads to a component
pub record Steps (t : TypeValue) (offset k : ℕ) (path : List ℕ) (p : TypePart) : Type 0 where
  pub part : TypePart
  pub is : part_of t k ≡ Some part
  pub rest : part_along (Some (record { offset = offset + part.offset; type_value = part.type_value })) path ≡ Some p

pub first_step : (t : TypeValue) (offset k : ℕ) (path : List ℕ) (p : TypePart)
    → part_along (Some (record { offset = offset; type_value = t })) (k ∷ path) ≡ Some p → Steps t offset k path p
first_step t offset k path p h = go (part_of t k) refl h
  where
    go : (o : Option TypePart) → part_of t k ≡ o → part_along (part_behind offset o) path ≡ Some p → Steps t offset k path p
    go None e found = absurd (nowhere path found)
    go (Some part) e found = record { part = part; is = e; rest = found }

-- a component of a record lies behind those before it and within all of them
pub among_within : (before : ℕ) (ts : ComponentTypes) (k : ℕ) (p : TypePart) → part_among before ts k ≡ Some p
    → (before ≤ p.offset) × (p.offset + size_of p.type_value ≤ before + sizes_of ts)
among_within before type.no_component k p h = cc
among_within before (type.next_component t ts) zero p h =
    subst (λ (q : TypePart). (before ≤ q.offset) × (q.offset + size_of q.type_value ≤ before + (size_of t + sizes_of ts))) (same_Some (record { offset = before; type_value = t }) p h) (omega arith, omega arith)
among_within before (type.next_component t ts) (suc k) p h =
    let x = among_within (before + size_of t) ts k p h in (omega (arith, x.0), omega (arith, x.1))

-- a component lies within its type
pub component_within : (t : TypeValue) (k : ℕ) (p : TypePart) → part_of t k ≡ Some p → p.offset + size_of p.type_value ≤ size_of t
component_within (type.Ordinal low high) k p h = cc
component_within type.Text k p h = cc
component_within (type.Array low high of) k p h =
    let c = array_part low high of k p h in
    subst (λ (q : TypePart). q.offset + size_of q.type_value ≤ count_of low high * size_of of) (sym c.is) (ends_before k (count_of low high) (size_of of) c.less)
component_within (type.Set low high) k p h = cc
component_within (type.Record ts) k p h = let x = among_within 0 ts k p h in omega (arith, x.1)
component_within (type.Initial of start) k p h = component_within of k p h

-- a part lies within that in which it is
pub part_within : (path : List ℕ) (t : TypeValue) (offset : ℕ) (p : TypePart)
    → part_along (Some (record { offset = offset; type_value = t })) path ≡ Some p
    → (offset ≤ p.offset) × (p.offset + size_of p.type_value ≤ offset + size_of t)
part_within [] t offset p leads =
    subst (λ (q : TypePart). (offset ≤ q.offset) × (q.offset + size_of q.type_value ≤ offset + size_of t)) (same_Some (record { offset = offset; type_value = t }) p leads) (omega arith, omega arith)
part_within (k ∷ path) t offset p leads =
    let x = first_step t offset k path p leads in
    let part : TypePart = x.part in
    let inner = part_within path part.type_value (offset + part.offset) p x.rest in
    let outer = component_within t k part x.is in
    (omega (arith, inner.0), omega (arith, inner.1, outer))

-- a path that leads on from where another one leads
pub part_along-on : (path : List ℕ) (o : Option TypePart) (k : ℕ) (p : TypePart) → part_along o path ≡ Some p
    → part_along o (path ++ k ∷ []) ≡ part_behind p.offset (part_of p.type_value k)
part_along-on [] o k p leads = ap (λ (q : Option TypePart). part_along q (k ∷ [])) leads
part_along-on (i ∷ path) None k p leads = cc
part_along-on (i ∷ path) (Some q) k p leads = part_along-on path (part_behind q.offset (part_of q.type_value i)) k p leads

-- the type of a component of a record
among_type : (before : ℕ) (ts : ComponentTypes) (k : ℕ) (p : TypePart) → part_among before ts k ≡ Some p → type_among ts k ≡ Some p.type_value
among_type before type.no_component k p h = cc
among_type before (type.next_component t ts) zero p h = ap (λ (q : TypePart). Some q.type_value) (same_Some (record { offset = before; type_value = t }) p h)
among_type before (type.next_component t ts) (suc k) p h = among_type (before + size_of t) ts k p h

-- the type of a component
pub component_type-is : (t : TypeValue) (k : ℕ) (p : TypePart) → part_of t k ≡ Some p → component_type t k ≡ Some p.type_value
component_type-is (type.Ordinal low high) k p h = cc
component_type-is type.Text k p h = cc
component_type-is (type.Array low high of) k p h =
    let c = array_part low high of k p h in
    ap (λ b. cond b (Some of) None) (less_true k (count_of low high) c.less) ∙ ap (λ (q : TypePart). Some q.type_value) (sym c.is)
component_type-is (type.Record ts) k p h = among_type 0 ts k p h
component_type-is (type.Set low high) k p h = cc
component_type-is (type.Initial of start) k p h = component_type-is of k p h

-- the type at a path is that of the part
type_is-from : (path : List ℕ) (t : TypeValue) (offset : ℕ) (p : TypePart)
    → part_along (Some (record { offset = offset; type_value = t })) path ≡ Some p → type_along (Some t) path ≡ Some p.type_value
type_is-from [] t offset p leads = ap (λ (q : TypePart). Some q.type_value) (same_Some (record { offset = offset; type_value = t }) p leads)
type_is-from (k ∷ path) t offset p leads =
    let x = first_step t offset k path p leads in
    let part : TypePart = x.part in
    ap (λ o. type_along o path) (component_type-is t k part x.is) ∙ type_is-from path part.type_value (offset + part.offset) p x.rest

pub type_is-along : (t : TypeValue) (path : List ℕ) (p : TypePart) → part_along (Some (all_of t)) path ≡ Some p
    → type_along (Some t) path ≡ Some p.type_value
type_is-along t path p leads = type_is-from path t 0 p leads

-- ---- words that go on holding a value

mutual
  -- where more allocations are made
  pub has_at-longer : {injection longer : Injection} → IsPrefix injection longer
      → (t : TypeValue) (value : Value) (words : Words) (offset : ℕ)
      → HasAt injection t value words offset → HasAt longer t value words offset
  has_at-longer larger (type.Ordinal low high) value words offset h = h
  has_at-longer larger type.Text value words offset h = h
  has_at-longer larger (type.Array low high of) value words offset h =
      λ k less. has_at-longer larger of (component_of value k) words (offset + k * size_of of) (h k less)
  has_at-longer larger (type.Record ts) value words offset h = have_at-longer larger ts (component_of value) words offset h
  has_at-longer larger (type.Set low high) value words offset h = h
  has_at-longer larger (type.Initial of start) value words offset h = has_at-longer larger of value words offset h

  have_at-longer : {injection longer : Injection} → IsPrefix injection longer
      → (ts : ComponentTypes) (values : ℕ → Value) (words : Words) (offset : ℕ)
      → HaveAt injection ts values words offset → HaveAt longer ts values words offset
  have_at-longer larger type.no_component values words offset h = tt
  have_at-longer larger (type.next_component t ts) values words offset h =
      (has_at-longer larger t (values 0) words offset h.0, have_at-longer larger ts (λ k. values (suc k)) words (offset + size_of t) h.1)

-- words from an offset on that are the same as others
abbrev pub AreSame : Words → Words → ℕ → ℕ → Type 0
AreSame words later offset size = (i : ℕ) → offset ≤ i → i < offset + size → later i ≡ words i

-- a set, where they are the same
set_at-same : (low high : ℤ) (value : Value) (words later : Words) (offset : ℕ) → AreSame words later offset set_size → SetAt low high value words offset → SetAt low high value later offset
set_at-same low high Undefined words later offset same h = λ k less. same (offset + k) (omega arith) (omega (arith, less)) ∙ h k less
set_at-same low high (meaning.Word w) words later offset same h = h
set_at-same low high (meaning.Components of) words later offset same h = h
set_at-same low high (meaning.Members ms) words later offset same h =
    record { is_set = h.is_set; within = h.within; told = λ k less. same (offset + k) (omega arith) (omega (arith, less)) ∙ h.told k less }

mutual
  -- where they are the same
  pub has_at-same : (injection : Injection) (t : TypeValue) (value : Value) (words later : Words) (offset : ℕ)
      → AreSame words later offset (size_of t) → HasAt injection t value words offset → HasAt injection t value later offset
  has_at-same injection (type.Ordinal low high) value words later offset same h =
      subst (λ w. OrdinalAt low high value w) (sym (same offset (omega arith) (omega arith))) h
  has_at-same injection type.Text value words later offset same h =
      subst (λ w. HasAt injection type.Text value (λ i. w) 0) (sym (same offset (omega arith) (omega arith))) h
  has_at-same injection (type.Array low high of) value words later offset same h =
      λ k less.
      let ends = ends_before k (count_of low high) (size_of of) less in
      has_at-same injection of (component_of value k) words later (offset + k * size_of of) (λ i from before. same i (omega (arith, from)) (omega (arith, before, ends))) (h k less)
  has_at-same injection (type.Record ts) value words later offset same h = have_at-same injection ts (component_of value) words later offset same h
  has_at-same injection (type.Set low high) value words later offset same h = set_at-same low high value words later offset same h
  has_at-same injection (type.Initial of start) value words later offset same h = has_at-same injection of value words later offset same h

  pub have_at-same : (injection : Injection) (ts : ComponentTypes) (values : ℕ → Value) (words later : Words) (offset : ℕ)
      → AreSame words later offset (sizes_of ts) → HaveAt injection ts values words offset → HaveAt injection ts values later offset
  have_at-same injection type.no_component values words later offset same h = tt
  have_at-same injection (type.next_component t ts) values words later offset same h = (
    has_at-same injection t (values 0) words later offset (λ i from before. same i from (omega (arith, before))) h.0,
    have_at-same injection ts (λ k. values (suc k)) words later (offset + size_of t) (λ i from before. same i (omega (arith, from)) (omega (arith, before))) h.1,
  )

mutual
  -- words of which each is the undefined one hold the undefined value
  pub has_undefined : (injection : Injection) (t : TypeValue) (words : Words) (offset : ℕ) → IsTypeValue t
      → ((i : ℕ) → offset ≤ i → i < offset + size_of t → words i ≡ Some undefined) → HasAt injection t Undefined words offset
  has_undefined injection (type.Ordinal low high) words offset valid each =
      record { low_fits = valid.1; high_fits = valid.2; is = each offset (omega arith) (omega arith) }
  has_undefined injection type.Text words offset valid each = absurd valid
  has_undefined injection (type.Array low high of) words offset valid each =
      λ k less.
      let ends = ends_before k (count_of low high) (size_of of) less in
      has_undefined injection of words (offset + k * size_of of) valid.1 (λ i from before. each i (omega (arith, from)) (omega (arith, before, ends)))
  has_undefined injection (type.Record ts) words offset valid each = have_undefined injection ts words offset valid each
  has_undefined injection (type.Set low high) words offset valid each = λ k less. each (offset + k) (omega arith) (omega (arith, less))
  has_undefined injection (type.Initial of start) words offset valid each = has_undefined injection of words offset valid each

  have_undefined : (injection : Injection) (ts : ComponentTypes) (words : Words) (offset : ℕ) → AreTypeValues ts
      → ((i : ℕ) → offset ≤ i → i < offset + sizes_of ts → words i ≡ Some undefined) → HaveAt injection ts (λ k. Undefined) words offset
  have_undefined injection type.no_component words offset valid each = tt
  have_undefined injection (type.next_component t ts) words offset valid each = (
    has_undefined injection t words offset valid.0 (λ i from before. each i from (omega (arith, before))),
    have_undefined injection ts words (offset + size_of t) valid.1 (λ i from before. each i (omega (arith, from)) (omega (arith, before))),
  )

-- ---- words of one type

-- a value of an ordinal type has a word
pub ordinal_word : {low high : ℤ} (value : Value) {word : Option ℤ} → OrdinalAt low high value word
    → (w : ℤ) × (word ≡ Some w)
ordinal_word Undefined h = (undefined, h.is)
ordinal_word (meaning.Word w) h = let x = h.is in (w, x.0)
ordinal_word (meaning.Components of) h = absurd h.is
ordinal_word (meaning.Members ms) h = absurd h.is

-- a file variable has a word
pub file_word : (injection : Injection) (value : Value) (words : Words) (offset : ℕ)
    → HasAt injection type.Text value words offset → (w : ℤ) × (words offset ≡ Some w)
file_word injection Undefined words offset h = (undefined, h)
file_word injection (meaning.Word w) words offset h = absurd h
file_word injection (meaning.Components of) words offset h = absurd h
file_word injection (meaning.Members ms) words offset h = absurd h

-- ---- what is stored over a value of an ordinal type

-- a word of the type takes its place
pub ordinal-stored : {low high : ℤ} (z : ℤ) (value : Value) (words : List ℤ) (offset : ℕ)
    → OrdinalAt low high value (slice_get words offset) → is_within (type.Ordinal low high) z ≡ true
    → OrdinalAt low high (meaning.Word z) (slice_get (slice_set words offset z) offset)
ordinal-stored z value words offset h within =
    let old = ordinal_word value h in
    record { low_fits = h.low_fits; high_fits = h.high_fits; is = (slice_get-set-same words offset z old.0 old.1, within) }

-- and so does the undefined word
pub ordinal-undefined : {low high : ℤ} (value : Value) (words : List ℤ) (offset : ℕ)
    → OrdinalAt low high value (slice_get words offset)
    → OrdinalAt low high Undefined (slice_get (slice_set words offset undefined) offset)
ordinal-undefined value words offset h =
    let old = ordinal_word value h in
    record { low_fits = h.low_fits; high_fits = h.high_fits; is = slice_get-set-same words offset undefined old.0 old.1 }

-- ---- parts of what words hold

-- the words of a component of a record hold it
have_among : (injection : Injection) (before : ℕ) (ts : ComponentTypes) (k : ℕ) (values : ℕ → Value) (words : Words) (offset : ℕ) (p : TypePart)
    → part_among before ts k ≡ Some p → HaveAt injection ts values words (offset + before)
    → HasAt injection p.type_value (values k) words (offset + p.offset)
have_among injection before type.no_component k values words offset p is h = cc
have_among injection before (type.next_component t ts) zero values words offset p is h =
    subst (λ (q : TypePart). HasAt injection q.type_value (values 0) words (offset + q.offset)) (same_Some (record { offset = before; type_value = t }) p is) h.0
have_among injection before (type.next_component t ts) (suc k) values words offset p is h =
    let next : offset + before + size_of t ≡ offset + (before + size_of t) = omega arith in
    have_among injection (before + size_of t) ts k (λ i. values (suc i)) words offset p is (subst (HaveAt injection ts (λ i. values (suc i)) words) next h.1)

-- where a record begins
from_start : (injection : Injection) (ts : ComponentTypes) (values : ℕ → Value) (words : Words) (offset : ℕ) → HaveAt injection ts values words offset → HaveAt injection ts values words (offset + 0)
from_start injection ts values words offset h = let same : offset ≡ offset + 0 = omega arith in subst (HaveAt injection ts values words) same h

to_start : (injection : Injection) (ts : ComponentTypes) (values : ℕ → Value) (words : Words) (offset : ℕ) → HaveAt injection ts values words (offset + 0) → HaveAt injection ts values words offset
to_start injection ts values words offset h = let same : offset + 0 ≡ offset = omega arith in subst (HaveAt injection ts values words) same h

-- the words of a component hold it
pub component_has : (injection : Injection) (t : TypeValue) (k : ℕ) (value : Value) (words : Words) (offset : ℕ) (p : TypePart)
    → part_of t k ≡ Some p → HasAt injection t value words offset
    → HasAt injection p.type_value (component_of value k) words (offset + p.offset)
component_has injection (type.Ordinal low high) k value words offset p is h = cc
component_has injection type.Text k value words offset p is h = cc
component_has injection (type.Array low high of) k value words offset p is h =
    let c = array_part low high of k p is in
    subst (λ (q : TypePart). HasAt injection q.type_value (component_of value k) words (offset + q.offset)) (sym c.is) (h k c.less)
component_has injection (type.Set low high) k value words offset p is h = cc
component_has injection (type.Initial of start) k value words offset p is h = component_has injection of k value words offset p is h
component_has injection (type.Record ts) k value words offset p is h = have_among injection 0 ts k (component_of value) words offset p is (from_start injection ts (component_of value) words offset h)

-- the words at a path hold the value there
has_from : (injection : Injection) (path : List ℕ) (t : TypeValue) (value : Value) (words : Words) (offset : ℕ) (p : TypePart)
    → part_along (Some (record { offset = offset; type_value = t })) path ≡ Some p → HasAt injection t value words offset
    → HasAt injection p.type_value (value_along value path) words p.offset
has_from injection [] t value words offset p leads h =
    subst (λ (q : TypePart). HasAt injection q.type_value value words q.offset) (same_Some (record { offset = offset; type_value = t }) p leads) h
has_from injection (k ∷ path) t value words offset p leads h =
    let x = first_step t offset k path p leads in
    let part : TypePart = x.part in
    has_from injection path part.type_value (component_of value k) words (offset + part.offset) p x.rest (component_has injection t k value words offset part x.is h)

pub has_along : (injection : Injection) (t : TypeValue) (path : List ℕ) (value : Value) (words : Words) (p : TypePart)
    → part_along (Some (all_of t)) path ≡ Some p → HasAt injection t value words 0
    → HasAt injection p.type_value (value_along value path) words p.offset
has_along injection t path value words p leads h = has_from injection path t value words 0 p leads h

-- ---- words with other ones for a part

-- the value that is put for a number is found there, and for another number what was there
pub with-same : (of : ℕ → Value) (k : ℕ) (value : Value) → values_with of k value k ≡ value
with-same of zero value = refl
with-same of (suc k) value = with-same (λ j. of (suc j)) k value

with-other : (of : ℕ → Value) (k : ℕ) (value : Value) (i : ℕ) → (k ≡ i → ⊥) → values_with of k value i ≡ of i
with-other of zero value zero other = absurd (other refl)
with-other of zero value (suc i) other = refl
with-other of (suc k) value zero other = refl
with-other of (suc k) value (suc i) other = with-other (λ j. of (suc j)) k value i (λ e. other (ap suc e))

-- the words outside of a part are the same
abbrev pub AreSameBut : Words → Words → TypePart → Type 0
AreSameBut words later p = (i : ℕ) → (i < p.offset) ⊎ (p.offset + size_of p.type_value ≤ i) → later i ≡ words i

-- a component of an array that is another one is apart from it
apart : (i k size : ℕ) → (k ≡ i → ⊥) → (i * size + size ≤ k * size) ⊎ (k * size + size ≤ i * size)
apart i k size other = go (ltb i k) refl
  where
    go : (b : Bool) → ltb i k ≡ b → (i * size + size ≤ k * size) ⊎ (k * size + size ≤ i * size)
    go true e = inl (ends_before i k size (less_is i k e))
    go false e = inr (ends_before k i size (let not_less : k ≤ i = grind (arith, nat_tests) in omega (arith, not_less, other)))

-- words that hold another value of a component of an array, and else what they were, hold the array with that one
array_with : (injection : Injection) (low high : ℤ) (of : TypeValue) (k : ℕ) (value changed : Value) (words later : Words) (offset : ℕ) (p : TypePart)
    → AreSameBut words later p → (offset + k * size_of of ≤ p.offset) × (p.offset + size_of p.type_value ≤ offset + k * size_of of + size_of of)
    → HasAt injection (type.Array low high of) value words offset → HasAt injection of changed later (offset + k * size_of of)
    → HasAt injection (type.Array low high of) (with_component value k changed) later offset
array_with injection low high of k value changed words later offset p same inside h this = each
  where
    outside : (i j : ℕ) → offset + i * size_of of ≤ j → j < offset + i * size_of of + size_of of
        → (i * size_of of + size_of of ≤ k * size_of of) ⊎ (k * size_of of + size_of of ≤ i * size_of of)
        → (j < p.offset) ⊎ (p.offset + size_of p.type_value ≤ j)
    outside i j from before (inl b) = inl (omega (arith, before, b, inside.0))
    outside i j from before (inr b) = inr (omega (arith, from, b, inside.1))

    own : (i : ℕ) → k ≡ i → HasAt injection of (values_with (component_of value) k changed i) later (offset + i * size_of of)
    own i e =
        subst (λ j. HasAt injection of (values_with (component_of value) k changed j) later (offset + j * size_of of)) e
        (subst (λ v. HasAt injection of v later (offset + k * size_of of)) (sym (with-same (component_of value) k changed)) this)

    others : (i : ℕ) → i < count_of low high → (k ≡ i → ⊥)
        → HasAt injection of (values_with (component_of value) k changed i) later (offset + i * size_of of)
    others i less e =
        subst (λ v. HasAt injection of v later (offset + i * size_of of)) (sym (with-other (component_of value) k changed i e))
        (has_at-same injection of (component_of value i) words later (offset + i * size_of of) (λ j from before. same j (outside i j from before (apart i k (size_of of) e))) (h i less))

    each : (i : ℕ) → i < count_of low high → HasAt injection of (values_with (component_of value) k changed i) later (offset + i * size_of of)
    each i less = elim (ℕ_discrete k i) [ yes e ↦ own i e | no e ↦ others i less e ]

-- words that hold another value of a component of a record, and else what they were, hold the record with that one
have_with : (injection : Injection) (before : ℕ) (ts : ComponentTypes) (k : ℕ) (values : ℕ → Value) (changed : Value) (words later : Words) (offset : ℕ) (q p : TypePart)
    → part_among before ts k ≡ Some q → AreSameBut words later p → (offset + q.offset ≤ p.offset) × (p.offset + size_of p.type_value ≤ offset + q.offset + size_of q.type_value)
    → HaveAt injection ts values words (offset + before) → HasAt injection q.type_value changed later (offset + q.offset)
    → HaveAt injection ts (values_with values k changed) later (offset + before)
have_with injection before type.no_component k values changed words later offset q p is same inside h this = cc
have_with injection before (type.next_component t ts) zero values changed words later offset q p is same inside h this =
    let part : record { offset = before; type_value = t } ≡ q = same_Some (record { offset = before; type_value = t }) q is in
    let ends : p.offset + size_of p.type_value ≤ offset + before + size_of t = subst (λ (r : TypePart). p.offset + size_of p.type_value ≤ offset + r.offset + size_of r.type_value) (sym part) inside.1 in (
      subst (λ (r : TypePart). HasAt injection r.type_value changed later (offset + r.offset)) (sym part) this,
      have_at-same injection ts (λ i. values (suc i)) words later (offset + before + size_of t) (λ i from behind. same i (inr (omega (arith, from, ends)))) h.1,
    )
have_with injection before (type.next_component t ts) (suc k) values changed words later offset q p is same inside h this =
    let next : offset + before + size_of t ≡ offset + (before + size_of t) = omega arith in
    let behind = among_within (before + size_of t) ts k q is in (
      has_at-same injection t (values 0) words later (offset + before) (λ i from ahead. same i (inl (omega (arith, ahead, behind.0, inside.0)))) h.0,
      subst (HaveAt injection ts (values_with (λ i. values (suc i)) k changed) later) (sym next)
          (have_with injection (before + size_of t) ts k (λ i. values (suc i)) changed words later offset q p is same inside (subst (HaveAt injection ts (λ i. values (suc i)) words) next h.1) this),
    )

no_part : {q : TypePart} → ◌≡◌ {A = Option TypePart} None (Some q) → ⊥
no_part e = cc

-- where words are put that hold another value of the part, all of them hold the value with that one
has_with-from : (injection : Injection) (path : List ℕ) (t : TypeValue) (value other : Value) (words later : Words) (offset : ℕ) (p : TypePart)
    → part_along (Some (record { offset = offset; type_value = t })) path ≡ Some p → AreSameBut words later p
    → HasAt injection t value words offset → HasAt injection p.type_value other later p.offset
    → HasAt injection t (value_with value path other) later offset
has_with-from injection [] t value other words later offset p leads same h new =
    subst (λ (q : TypePart). HasAt injection q.type_value other later q.offset) (sym (same_Some (record { offset = offset; type_value = t }) p leads)) new
has_with-from injection (k ∷ path) (type.Ordinal low high) value other words later offset p leads same h new =
    let x = first_step (type.Ordinal low high) offset k path p leads in absurd (no_part x.is)
has_with-from injection (k ∷ path) type.Text value other words later offset p leads same h new =
    let x = first_step type.Text offset k path p leads in absurd (no_part x.is)
has_with-from injection (k ∷ path) (type.Initial of start) value other words later offset p leads same h new =
    has_with-from injection (k ∷ path) of value other words later offset p leads same h new
has_with-from injection (k ∷ path) (type.Set low high) value other words later offset p leads same h new =
    let x = first_step (type.Set low high) offset k path p leads in absurd (no_part x.is)
has_with-from injection (k ∷ path) (type.Array low high of) value other words later offset p leads same h new =
    let x = first_step (type.Array low high of) offset k path p leads in
    let here = array_part low high of k x.part x.is in
    let rest : part_along (Some (record { offset = offset + k * size_of of; type_value = of })) path ≡ Some p = subst (λ (q : TypePart). part_along (Some (record { offset = offset + q.offset; type_value = q.type_value })) path ≡ Some p) here.is x.rest in
    array_with injection low high of k value (value_with (component_of value k) path other) words later offset p same (part_within path of (offset + k * size_of of) p rest) h
    (has_with-from injection path of (component_of value k) other words later (offset + k * size_of of) p rest same (h k here.less) new)
has_with-from injection (k ∷ path) (type.Record ts) value other words later offset p leads same h new =
    let x = first_step (type.Record ts) offset k path p leads in
    let part : TypePart = x.part in
    let of : TypeValue = part.type_value in
    to_start injection ts (values_with (component_of value) k (value_with (component_of value k) path other)) later offset
    (have_with injection 0 ts k (component_of value) (value_with (component_of value k) path other) words later offset part p x.is same (part_within path of (offset + part.offset) p x.rest) (from_start injection ts (component_of value) words offset h)
    (has_with-from injection path of (component_of value k) other words later (offset + part.offset) p x.rest same (component_has injection (type.Record ts) k value words offset part x.is h) new))

pub has_with : (injection : Injection) (t : TypeValue) (path : List ℕ) (value other : Value) (words later : Words) (p : TypePart)
    → part_along (Some (all_of t)) path ≡ Some p → AreSameBut words later p → HasAt injection t value words 0
    → HasAt injection p.type_value other later p.offset
    → HasAt injection t (value_with value path other) later 0
has_with injection t path value other words later p leads same h new = has_with-from injection path t value other words later 0 p leads same h new

-- a word that is put somewhere leaves the others as they were
pub set-same_but : (words : List ℤ) (z : ℤ) (p : TypePart) → size_of p.type_value ≡ 1
    → AreSameBut (slice_get words) (slice_get (slice_set words p.offset z)) p
set-same_but words z p one i (inl before) = slice_get-set-other words p.offset i z (λ e. absurd (omega (arith, before, e)))
set-same_but words z p one i (inr behind) = slice_get-set-other words p.offset i z (λ e. absurd (omega (arith, behind, one, e)))
