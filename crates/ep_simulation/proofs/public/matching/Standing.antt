-- What stands in the store where a state of the machine matches.
use Rattle.std.proofs.Common.{◌≡◌, ℕ, ℤ, pos, negsuc, zero, suc, ◌<◌, Bool, true, false, ◌&&◌, IsTrue, List, [], ◌∷◌, length, Option, Some, None, option_map, slice_get, refl, sym, ap, ◌∙◌, subst, arith}
use Rattle.std.proofs.lemmas.Bool.Decides.{nat_tests}
use Rattle.std.proofs.lemmas.Option.{slice_get_within, same_Some}
use Rattle.std.specs.Prelude.{int_le, int_lt, neg_ℤ}
use Rattle.ep_simulation.specs.Layouts.{Layout}
use Rattle.ep_simulation.specs.Matching.{MachineMemory, Injection, part_along, all_of, HasTypeUnder, IsIn, IsLike, IsSpot, OrdinalAt, HasAt, Represents, IsRepresentedWhere, IsRepresented, Matches}
use Rattle.ep_object.specs.State.{Segments, TypeTable, undefined}
use Rattle.ep_object.specs.declared.code.Image.{Image}
use Rattle.ep_object.specs.declared.state.Place.{Place}
use Rattle.ep_simulation.proofs.public.matching.BareValues.{has_bare}
use Rattle.ep_simulation.proofs.matching.Likes.{like_one}
use Rattle.ep_simulation.proofs.matching.Words.{has_at-longer, has_along, type_is-along}
use Rattle.ep_outside.specs.Known.{IsPrefix}
use Rattle.ep_meaning.proofs.public.Bares.{bare_along}
use Rattle.ep_typed.proofs.public.Denoters.{instances_are_one}
use Rattle.ep_typed.specs.Denoters.{IsInstance}
use Rattle.ep_values.specs.Operations.{is_integer, maxint}
use Rattle.ep_meaning.specs.Steps.{Component, Allocation, allocation_at, type_in}
use Rattle.ep_values.specs.TypeValues.{is_within}
use Rattle.ep_values.specs.Values.{value_along}
use Rattle.ep_meaning.specs.Steps as meaning
use Rattle.ep_meaning.specs.Valid.{IsTypeOf}
use Rattle.ep_typed.specs.Hosts.{Host, is_of_host, least, greatest}
use Rattle.ep_typed.specs.Trees.{Denoter}
use Rattle.ep_typed.specs.declared.unit.UnitType.{UnitType}
use Rattle.ep_values.specs.TypeValues.{TypeValue, bare_of}
use Rattle.ep_typed.specs.declared.unit.UnitVariable.{UnitVariable}
use Rattle.ep_values.specs.TypeValues as type

-- an element that is there
pub slice_get-some : {A : Type 0} (xs : List A) (k : ℕ) → k < length xs → (x : A) × (slice_get xs k ≡ Some x)
slice_get-some [] k h = absurd (omega arith)
slice_get-some (x ∷ xs) zero h = (x, refl)
slice_get-some (x ∷ xs) (suc k) h = slice_get-some xs k (omega arith)

-- what a segment represents it goes on representing where it stays what it is
pub represented-same : (injection : Injection) (segments later : Segments) (types : TypeTable) (segment : ℕ) (a : Allocation)
    → slice_get later segment ≡ slice_get segments segment → IsRepresented injection segments types segment a
    → IsRepresented injection later types segment a
represented-same injection segments later types segment a same h = go a.ended h
  where
    go : (b : Bool) → IsRepresentedWhere b injection segments types segment a
        → IsRepresentedWhere b injection later types segment a
    go true stands = same ∙ stands
    go false r = record { type_number = r.type_number; words = r.words; stands = same ∙ r.stands; described = r.described; sized = r.sized; holds = r.holds }

-- and where more allocations are made
pub represented-longer : (injection longer : Injection) (segments : Segments) (types : TypeTable) (segment : ℕ) (a : Allocation)
    → IsPrefix injection longer → IsRepresented injection segments types segment a
    → IsRepresented longer segments types segment a
represented-longer injection longer segments types segment a larger h = go a.ended h
  where
    go : (b : Bool) → IsRepresentedWhere b injection segments types segment a
        → IsRepresentedWhere b longer segments types segment a
    go true stands = stands
    go false r = record { type_number = r.type_number; words = r.words; stands = r.stands; described = r.described; sized = r.sized; holds = has_at-longer larger a.type_value a.value (slice_get r.words) 0 r.holds }

-- what is represented and lives, the segment represents
pub represents_living : (injection : Injection) (segments : Segments) (types : TypeTable) (segment : ℕ) (a : Allocation)
    → a.ended ≡ false → IsRepresented injection segments types segment a → Represents injection segments types segment a
represents_living injection segments types segment a living h = subst (λ b. IsRepresentedWhere b injection segments types segment a) living h

-- the segment of what has ended has ended
pub represents_ended : (injection : Injection) (segments : Segments) (types : TypeTable) (segment : ℕ) (a : Allocation)
    → a.ended ≡ true → IsRepresented injection segments types segment a → slice_get segments segment ≡ Some None
represents_ended injection segments types segment a ended h = subst (λ b. IsRepresentedWhere b injection segments types segment a) ended h

-- an allocation that lives is represented by what represents it
pub living_represented : (injection : Injection) (segments : Segments) (types : TypeTable) (segment : ℕ) (a : Allocation)
    → a.ended ≡ false → Represents injection segments types segment a → IsRepresented injection segments types segment a
living_represented injection segments types segment a living h = subst (λ b. IsRepresentedWhere b injection segments types segment a) (sym living) h

-- the allocation at a place, which lives, and what the segment has of it
pub record Stands (injection : Injection) (s : meaning.State) (memory : MachineMemory) (v : Component) (place : Place) : Type 0 where
  pub allocation : Allocation
  pub is : allocation_at s.allocations v.allocation ≡ Some allocation
  pub lives : allocation.ended ≡ false
  pub represents : Represents injection memory.segments memory.types place.segment allocation
  pub type_value : TypeValue
  pub leads : part_along (Some (all_of (bare_of allocation.type_value))) v.path ≡ Some (record { offset = place.offset; type_value = type_value })
  pub described : IsLike memory.types place.type_number type_value
  pub holds : HasAt injection type_value (value_along allocation.value v.path) (slice_get represents.words) place.offset

-- what is told of an element is of one that is there
pub mapped_within : {A B : Type 0} (f : A → B) (xs : List A) (i : ℕ) (y : B) → option_map f (slice_get xs i) ≡ Some y
    → i < length xs
mapped_within {A = A} f xs i y h = go (slice_get xs i) refl h
  where
    go : (o : Option A) → slice_get xs i ≡ o → option_map f o ≡ Some y → i < length xs
    go None e k = cc
    go (Some x) e k = slice_get_within xs i x e

-- an allocation that is somewhere has been made
pub allocated : (injection : Injection) (s : meaning.State) (n segment : ℕ)
    → length injection ≡ length s.allocations → IsIn injection n segment
    → (a : Allocation) × (allocation_at s.allocations n ≡ Some a)
allocated injection s zero segment made h = absurd h
allocated injection s (suc n) segment made h =
    let w : n < length injection = mapped_within (λ m. m.segment) injection n segment h in
    slice_get-some s.allocations n (omega arith)

-- at the place of a variable of an allocation that lives stands that variable
pub place_stands : {layout : Layout} {G : Image} {injection : Injection} {s : meaning.State} {memory : MachineMemory} {v : Component} {place : Place}
    → Matches layout G injection s memory → IsSpot injection memory.types v place
    → meaning.has_ended v.allocation s ≡ false → Stands injection s memory v place
place_stands {injection = injection} {s = s} {memory = memory} {v = v} {place = place} matches spot living =
    let injected = matches.injected in
    let store = matches.store in
    let a = allocated injection s v.allocation place.segment injected.made spot.is_in in
    let lives : (a.0).ended ≡ false = sym (ap meaning.ended_in a.1) ∙ living in
    let r : Represents injection memory.segments memory.types place.segment a.0 = represents_living injection memory.segments memory.types place.segment a.0 lives (store.represented v.allocation place.segment a.0 spot.is_in a.1) in
    let root : bare_of (a.0).type_value ≡ spot.root = same_Some (bare_of (a.0).type_value) spot.root (sym (ap (λ o. option_map bare_of (type_in o)) a.1) ∙ injected.typed v.allocation spot.root spot.is_of) in
    let leads : part_along (Some (all_of (bare_of (a.0).type_value))) v.path ≡ Some (record { offset = place.offset; type_value = spot.type_value }) = ap (λ t. part_along (Some (all_of t)) v.path) root ∙ spot.leads in
    record {
      allocation = a.0;
      is = a.1;
      lives = lives;
      represents = r;
      type_value = spot.type_value;
      leads = leads;
      described = spot.described;
      holds = has_along injection (bare_of (a.0).type_value) v.path (a.0).value (slice_get r.words) (record { offset = place.offset; type_value = spot.type_value }) leads (has_bare injection (a.0).type_value (a.0).value (slice_get r.words) 0 r.holds);
    }

-- the segment at the place of a variable whose allocation has ended has ended
pub place_ended : {layout : Layout} {G : Image} {injection : Injection} {s : meaning.State} {memory : MachineMemory} {v : Component} {place : Place}
    → Matches layout G injection s memory → IsSpot injection memory.types v place
    → meaning.has_ended v.allocation s ≡ true → slice_get memory.segments place.segment ≡ Some None
place_ended {injection = injection} {s = s} {memory = memory} {v = v} {place = place} matches spot ended =
    let injected = matches.injected in
    let store = matches.store in
    let a = allocated injection s v.allocation place.segment injected.made spot.is_in in
    represents_ended injection memory.segments memory.types place.segment a.0 (sym (ap meaning.ended_in a.1) ∙ ended) (store.represented v.allocation place.segment a.0 spot.is_in a.1)

-- the type of a variable, without its initial states
pub type_of_variable : (t : TypeValue) (v : Component) (offset : ℕ) (s : meaning.State) (a : Allocation)
    → allocation_at s.allocations v.allocation ≡ Some a → part_along (Some (all_of (bare_of a.type_value))) v.path ≡ Some (record { offset = offset; type_value = t })
    → option_map bare_of (meaning.type_at v s) ≡ Some t
type_of_variable t v offset s a is leads =
    ap (λ o. option_map bare_of (meaning.type_along (type_in o) v.path)) is
    ∙ (sym (bare_along (Some a.type_value) v.path) ∙ type_is-along (bare_of a.type_value) v.path (record { offset = offset; type_value = t }) leads)

-- the variable of an ordinal type at a place, whose allocation lives, and the word that is its value
pub record StandsOrdinal (injection : Injection) (s : meaning.State) (memory : MachineMemory) (v : Component) (place : Place)
    (low high : ℤ) : Type 0 where
  pub allocation : Allocation
  pub is : allocation_at s.allocations v.allocation ≡ Some allocation
  pub lives : allocation.ended ≡ false
  pub represents : Represents injection memory.segments memory.types place.segment allocation
  pub leads : part_along (Some (all_of (bare_of allocation.type_value))) v.path ≡ Some (record { offset = place.offset; type_value = type.Ordinal low high })
  pub word : OrdinalAt low high (value_along allocation.value v.path) (slice_get represents.words place.offset)

pub ordinal_stands : {layout : Layout} {G : Image} {injection : Injection} {s : meaning.State} {memory : MachineMemory} {v : Component} {place : Place} (low high : ℤ)
    → Matches layout G injection s memory → IsSpot injection memory.types v place
    → IsLike memory.types place.type_number (type.Ordinal low high)
    → meaning.has_ended v.allocation s ≡ false → StandsOrdinal injection s memory v place low high
ordinal_stands {injection = injection} {s = s} {memory = memory} {v = v} {place = place} low high matches spot described living =
    let x : Stands injection s memory v place = place_stands matches spot living in
    let a : Allocation = x.allocation in
    let r : Represents injection memory.segments memory.types place.segment a = x.represents in
    let its_type : x.type_value ≡ type.Ordinal low high = like_one memory.types place.type_number x.type_value (type.Ordinal low high) x.described described in
    record {
      allocation = a;
      is = x.is;
      lives = x.lives;
      represents = r;
      leads = subst (λ t. part_along (Some (all_of (bare_of a.type_value))) v.path ≡ Some (record { offset = place.offset; type_value = t })) its_type x.leads;
      word = subst (λ t. HasAt injection t (value_along a.value v.path) (slice_get r.words) place.offset) its_type x.holds;
    }

-- ---- values of types

-- numbers that are at most one after another
pub int_le-trans : (a b c : ℤ) → IsTrue (int_le a b) → IsTrue (int_le b c) → IsTrue (int_le a c)
int_le-trans (pos a) (pos b) (pos c) p q = grind (arith, nat_tests)
int_le-trans (pos a) (pos b) (negsuc c) p q = grind (arith, nat_tests)
int_le-trans (pos a) (negsuc b) c p q = cc
int_le-trans (negsuc a) b (pos c) p q = refl
int_le-trans (negsuc a) (pos b) (negsuc c) p q = cc
int_le-trans (negsuc a) (negsuc b) (negsuc c) p q = grind (arith, nat_tests)

-- both of two tests
pub both : (a b : Bool) → IsTrue (a && b) → IsTrue a × IsTrue b
both true true h = (refl, refl)
both true false h = cc
both false b h = cc

-- a denoter has at most one type value
pub one_type : {types : List UnitType} {d : Denoter} {t u : TypeValue} → IsInstance types d t
    → IsInstance types d u → t ≡ u
one_type {types = types} {d = d} {t = t} {u = u} p q = instances_are_one types d t u p q

-- and a variable one type, but for initial states
pub one_type_of : {types : List UnitType} (v : UnitVariable) {t u : TypeValue} → HasTypeUnder types v t → HasTypeUnder types v u → t ≡ u
one_type_of v p q = sym p.2 ∙ (ap bare_of (one_type p.1 q.1) ∙ q.2)

-- a value of a type is one of its host
pub within_host : (h : Host) (low high w : ℤ) → IsTypeOf h (type.Ordinal low high)
    → IsTrue (is_within (type.Ordinal low high) w) → IsTrue (is_of_host h w)
within_host h low high w t p =
    let x = both (int_le low w) (int_le w high) p in
    let l = both (int_le (least h) low) (int_le low (greatest h)) t.1 in
    let g = both (int_le (least h) high) (int_le high (greatest h)) t.2 in
    rw (int_le-trans (least h) low w l.0 x.0, int_le-trans w high (greatest h) x.1 g.1) refl

-- a word of a type is not the undefined one
pub word_defined : (low high w : ℤ) → IsTrue (is_integer low) → IsTrue (is_within (type.Ordinal low high) w)
    → int_lt undefined w ≡ true
word_defined low high (pos n) i p = refl
word_defined low high (negsuc n) i p =
    let x = both (int_le low (negsuc n)) (int_le (negsuc n) high) p in
    let y = both (int_le (neg_ℤ (pos maxint)) low) (int_le low (pos maxint)) i in
    above n (int_le-trans (neg_ℤ (pos maxint)) low (negsuc n) y.0 x.0)
  where
    above : (n : ℕ) → IsTrue (int_le (neg_ℤ (pos maxint)) (negsuc n)) → int_lt undefined (negsuc n) ≡ true
    above n h = grind (arith, nat_tests)
