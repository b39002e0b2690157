-- Which routines are under way in a block, by their numbers: what is declared in the block of a routine has a greater number than it, and no routine that is under way has its body.
use Rattle.std.proofs.Common.{◌≡◌, ℕ, suc, ◌<◌, ◌≤◌, Bool, true, false, ◌||◌, nat_eq, List, [], ◌∷◌, ◌++◌, length, Option, Some, None, slice_get, refl, sym, ap, subst, arith}
use Rattle.std.proofs.lemmas.Bool.Decides.{nat_tests}
use Rattle.std.specs.Prelude.{⊤, if◌then◌else◌}
use Rattle.std.specs.Str.{bytes_eq}
use Rattle.ep_scope.specs.Required.{look_up}
use Rattle.ep_scope.specs.Scopes.{Entries, Region, depth_in}
use Rattle.ep_scope.specs.declared.thing.Declaration.{Declaration}
use Rattle.ep_scope.specs.declared.thing.Declaration.TheVariants as declaration
use Rattle.ep_scope.specs.declared.thing.Declared.{Declared}
use Rattle.ep_scope.specs.declared.thing.Thing.{Thing}
use Rattle.ep_scope.specs.declared.thing.Thing.TheVariants as thing
use Rattle.ep_check_unit.specs.Blocks.{Block, RoutineForm}
use Rattle.ep_unit_rules.specs.Numbers.{has_number}
use Rattle.ep_unit_rules.specs.declared.own.Enclosing.{Enclosing}

-- the numbers of the routines that are declared in the innermost of these blocks begin here
abbrev pub floor : List Enclosing → ℕ
floor [] = 0
floor (e ∷ es) = suc e.number

-- a routine that is declared there, among so many
pub record IsNumbered (es : List Enclosing) (count level number : ℕ) : Type 0 where
  pub level_is : level ≡ length es
  pub above : floor es ≤ number
  pub below : number < count

abbrev pub IsNumberedAs : List Enclosing → ℕ → Declared → Declaration → Type 0
IsNumberedAs es count d (declaration.Constant k v deep) = ⊤
IsNumberedAs es count d (declaration.«Type» of h nodes) = ⊤
IsNumberedAs es count d (declaration.Variable of k guarded) = ⊤
IsNumberedAs es count d (declaration.Own of k guarded) = ⊤
IsNumberedAs es count d (declaration.Procedure ps) = IsNumbered es count d.level d.number
IsNumberedAs es count d (declaration.Function ps of h) = IsNumbered es count d.level d.number

-- a thing that is no routine, or one of those
abbrev pub IsThingOf : List Enclosing → ℕ → Thing → Type 0
IsThingOf es count (thing.Declared d) = IsNumberedAs es count d d.what
IsThingOf es count (thing.Standard file) = ⊤

abbrev pub AreThingsOf : List Enclosing → ℕ → Entries → Type 0
AreThingsOf es count [] = ⊤
AreThingsOf es count (x ∷ xs) = IsThingOf es count x.1 × AreThingsOf es count xs

-- the scopes around, one for each routine that is under way, and the last one, which is around the block of the unit
abbrev pub AreAround : List Enclosing → ℕ → List Region → Type 0
AreAround [] count [] = ⊥
AreAround [] count (r ∷ []) = ⊤
AreAround [] count (r ∷ s ∷ rs) = ⊥
AreAround (e ∷ es) count [] = ⊥
AreAround (e ∷ es) count (r ∷ rs) = AreThingsOf es count r.entries × AreAround es count rs

-- a routine that is under way in the blocks of these
pub record IsUnderWay (es : List Enclosing) (count : ℕ) (bodies : List ℕ) (number : ℕ) : Type 0 where
  pub above : floor es ≤ number
  pub below : number < count
  pub bodiless : has_number number bodies ≡ false

abbrev pub AreUnderWay : List Enclosing → ℕ → List ℕ → Type 0
AreUnderWay [] count bodies = ⊤
AreUnderWay (e ∷ es) count bodies = IsUnderWay es count bodies e.number × AreUnderWay es count bodies

abbrev pub AreBelow : ℕ → List ℕ → Type 0
AreBelow count [] = ⊤
AreBelow count (n ∷ ns) = (n < count) × AreBelow count ns

pub record IsOpenBy (names : Entries) (outer : List Region) (es : List Enclosing) (count : ℕ) (bodies : List ℕ) : Type 0 where
  pub things : AreThingsOf es count names
  pub around : AreAround es count outer
  pub under_way : AreUnderWay es count bodies
  pub below : AreBelow count bodies

abbrev pub IsOpen : Block → Type 0
IsOpen b = IsOpenBy b.scopes.inner.entries b.scopes.outer b.own.enclosing (length b.routines) b.bodies

-- what has its body stays as it is
abbrev pub KeepsBodies : Block → Block → Type 0
KeepsBodies b c = (n : ℕ) (r : RoutineForm) → has_number n b.bodies ≡ true → slice_get b.routines n ≡ Some r → (has_number n c.bodies ≡ true) × (slice_get c.routines n ≡ Some r)

-- ---- numbers

-- a number more at the end
pub pushed_kept : (n m : ℕ) (ns : List ℕ) → has_number n ns ≡ true → has_number n (ns ++ m ∷ []) ≡ true
pushed_kept n m [] e = cc
pushed_kept n m (k ∷ ns) e = first (nat_eq k n) (pushed_kept n m ns) e
  where
    first : (b : Bool) → (has_number n ns ≡ true → has_number n (ns ++ m ∷ []) ≡ true) → (b || has_number n ns) ≡ true → (b || has_number n (ns ++ m ∷ [])) ≡ true
    first true others e = refl
    first false others e = others e

pub pushed_there : (n : ℕ) (ns : List ℕ) → has_number n (ns ++ n ∷ []) ≡ true
pushed_there n [] = last (nat_eq n n) (grind (arith, nat_tests))
  where
    last : (b : Bool) → b ≡ true → (b || false) ≡ true
    last true e = refl
    last false e = e
pushed_there n (k ∷ ns) = first (nat_eq k n) (pushed_there n ns)
  where
    first : (b : Bool) → has_number n (ns ++ n ∷ []) ≡ true → (b || has_number n (ns ++ n ∷ [])) ≡ true
    first true e = refl
    first false e = e

pub pushed_other : (n m : ℕ) (ns : List ℕ) → nat_eq m n ≡ false → has_number n ns ≡ false → has_number n (ns ++ m ∷ []) ≡ false
pushed_other n m [] other e = last (nat_eq m n) other
  where
    last : (b : Bool) → b ≡ false → (b || false) ≡ false
    last true e = e
    last false e = refl
pushed_other n m (k ∷ ns) other e = first (nat_eq k n) (pushed_other n m ns other) e
  where
    first : (b : Bool) → (has_number n ns ≡ false → has_number n (ns ++ m ∷ []) ≡ false) → (b || has_number n ns) ≡ false → (b || has_number n (ns ++ m ∷ [])) ≡ false
    first true others e = e
    first false others e = others e

-- one that is not below is not there
pub not_below : (count n : ℕ) (ns : List ℕ) → AreBelow count ns → count ≤ n → has_number n ns ≡ false
not_below count n [] all le = refl
not_below count n (k ∷ ns) all le = first (nat_eq k n) (grind (arith, nat_tests, all.0, le)) (not_below count n ns all.1 le)
  where
    first : (b : Bool) → b ≡ false → has_number n ns ≡ false → (b || has_number n ns) ≡ false
    first true e f = e
    first false e f = f

pub below_push : (count n : ℕ) (ns : List ℕ) → AreBelow count ns → n < count → AreBelow count (ns ++ n ∷ [])
below_push count n [] all lt = (lt, tt)
below_push count n (k ∷ ns) all lt = (all.0, below_push count n ns all.1 lt)

-- ---- among more routines

below_more : (few many : ℕ) (ns : List ℕ) → few ≤ many → AreBelow few ns → AreBelow many ns
below_more few many [] le x = tt
below_more few many (n ∷ ns) le x = (omega (arith, le, x.0), below_more few many ns le x.1)

numbered_more : (es : List Enclosing) (few many level number : ℕ) → few ≤ many → IsNumbered es few level number → IsNumbered es many level number
numbered_more es few many level number le x = record { level_is = x.level_is; above = x.above; below = omega (arith, le, x.below) }

numbered_as_more : (es : List Enclosing) (few many : ℕ) (d : Declared) (what : Declaration) → few ≤ many → IsNumberedAs es few d what → IsNumberedAs es many d what
numbered_as_more es few many d (declaration.Constant k v deep) le x = tt
numbered_as_more es few many d (declaration.«Type» of h nodes) le x = tt
numbered_as_more es few many d (declaration.Variable of k guarded) le x = tt
numbered_as_more es few many d (declaration.Own of k guarded) le x = tt
numbered_as_more es few many d (declaration.Procedure ps) le x = numbered_more es few many d.level d.number le x
numbered_as_more es few many d (declaration.Function ps of h) le x = numbered_more es few many d.level d.number le x

thing_more : (es : List Enclosing) (few many : ℕ) (t : Thing) → few ≤ many → IsThingOf es few t → IsThingOf es many t
thing_more es few many (thing.Declared d) le x = numbered_as_more es few many d d.what le x
thing_more es few many (thing.Standard file) le x = tt

things_more : (es : List Enclosing) (few many : ℕ) (xs : Entries) → few ≤ many → AreThingsOf es few xs → AreThingsOf es many xs
things_more es few many [] le x = tt
things_more es few many (y ∷ ys) le x = (thing_more es few many y.1 le x.0, things_more es few many ys le x.1)

around_more : (es : List Enclosing) (few many : ℕ) (rs : List Region) → few ≤ many → AreAround es few rs → AreAround es many rs
around_more [] few many [] le x = x
around_more [] few many (r ∷ []) le x = tt
around_more [] few many (r ∷ s ∷ rs) le x = x
around_more (e ∷ es) few many [] le x = x
around_more (e ∷ es) few many (r ∷ rs) le x = (things_more es few many r.entries le x.0, around_more es few many rs le x.1)

under_way_more : (es : List Enclosing) (few many : ℕ) (bodies : List ℕ) → few ≤ many → AreUnderWay es few bodies → AreUnderWay es many bodies
under_way_more [] few many bodies le x = tt
under_way_more (e ∷ es) few many bodies le x = (record { above = x.0.above; below = omega (arith, le, x.0.below); bodiless = x.0.bodiless }, under_way_more es few many bodies le x.1)

pub open_more : (names : Entries) (outer : List Region) (es : List Enclosing) (few many : ℕ) (bodies : List ℕ) → few ≤ many → IsOpenBy names outer es few bodies → IsOpenBy names outer es many bodies
open_more names outer es few many bodies le x = record { things = things_more es few many names le x.things; around = around_more es few many outer le x.around; under_way = under_way_more es few many bodies le x.under_way; below = below_more few many bodies le x.below }

-- ---- one thing more

things_push : (es : List Enclosing) (count : ℕ) (xs : Entries) (name : List ℕ) (t : Thing) → AreThingsOf es count xs → IsThingOf es count t → AreThingsOf es count (xs ++ (name, t) ∷ [])
things_push es count [] name t x y = (y, tt)
things_push es count (z ∷ zs) name t x y = (x.0, things_push es count zs name t x.1 y)

pub open_push : (names : Entries) (outer : List Region) (es : List Enclosing) (count : ℕ) (bodies : List ℕ) (name : List ℕ) (t : Thing) → IsThingOf es count t → IsOpenBy names outer es count bodies → IsOpenBy (names ++ (name, t) ∷ []) outer es count bodies
open_push names outer es count bodies name t y x = record { things = things_push es count names name t x.things y; around = x.around; under_way = x.under_way; below = x.below }

-- what is found is such a thing
abbrev pub IsThingIf : List Enclosing → ℕ → Option Thing → Type 0
IsThingIf es count None = ⊤
IsThingIf es count (Some t) = IsThingOf es count t

found : (es : List Enclosing) (count : ℕ) (b : Bool) (t : Thing) (other : Option Thing) → IsThingOf es count t → IsThingIf es count other → IsThingIf es count (if b then Some t else other)
found es count true t other x y = x
found es count false t other x y = y

pub look_up_numbered : (es : List Enclosing) (count : ℕ) (xs : Entries) (name : List ℕ) → AreThingsOf es count xs → IsThingIf es count (look_up xs name)
look_up_numbered es count [] name x = tt
look_up_numbered es count (y ∷ ys) name x = found es count (bytes_eq name y.0) y.1 (look_up ys name) x.0 (look_up_numbered es count ys name x.1)

-- ---- blocks in blocks

-- one scope more is around than routines are under way
around_length : (es : List Enclosing) (count : ℕ) (rs : List Region) → AreAround es count rs → length rs ≡ suc (length es)
around_length [] count [] x = absurd x
around_length [] count (r ∷ []) x = refl
around_length [] count (r ∷ s ∷ rs) x = absurd x
around_length (e ∷ es) count [] x = absurd x
around_length (e ∷ es) count (r ∷ rs) x = ap suc (around_length es count rs x.1)

-- so the code there is as deep as these are
pub around_depth : (es : List Enclosing) (count : ℕ) (inner : Region) (rs : List Region) → AreAround es count rs → depth_in (inner ∷ rs) ≡ length es
around_depth es count inner rs x = let more = around_length es count rs x in omega (arith, more)

-- the next number is one of the innermost block
pub floor_below : (es : List Enclosing) (count : ℕ) (bodies : List ℕ) → AreUnderWay es count bodies → floor es ≤ count
floor_below [] count bodies x = omega arith
floor_below (e ∷ es) count bodies x = x.0.below

-- the block of a routine that is declared there and has no body
pub opened : (names : Entries) (outer : List Region) (es : List Enclosing) (count : ℕ) (bodies : List ℕ) (level : ℕ) (e : Enclosing) (r : Region) → r.entries ≡ names → IsNumbered es count level e.number → has_number e.number bodies ≡ false
    → IsOpenBy names outer es count bodies → IsOpenBy [] (r ∷ outer) (e ∷ es) count bodies
opened names outer es count bodies level e r same n bodiless x = record {
  things = tt;
  around = (subst (AreThingsOf es count) (sym same) x.things, x.around);
  under_way = (record { above = n.above; below = n.below; bodiless = bodiless }, x.under_way);
  below = x.below;
}

-- those around a routine stay without a body when it has its own
still_under_way : (es : List Enclosing) (count : ℕ) (bodies : List ℕ) (number : ℕ) → floor es ≤ number → AreUnderWay es count bodies → AreUnderWay es count (bodies ++ number ∷ [])
still_under_way [] count bodies number le x = tt
still_under_way (e ∷ es) count bodies number le x = (
  record { above = x.0.above; below = x.0.below; bodiless = pushed_other e.number number bodies (grind (arith, nat_tests, le)) x.0.bodiless },
  still_under_way es count bodies number (omega (arith, le, x.0.above)) x.1,
)

-- behind the end of its block
pub closed : (names : Entries) (outer : List Region) (es : List Enclosing) (count : ℕ) (bodies : List ℕ) (e : Enclosing) (r : Region) → IsOpenBy names (r ∷ outer) (e ∷ es) count bodies → IsOpenBy r.entries outer es count (bodies ++ e.number ∷ [])
closed names outer es count bodies e r x = record {
  things = x.around.0;
  around = x.around.1;
  under_way = still_under_way es count bodies e.number x.under_way.0.above x.under_way.1;
  below = below_push count e.number bodies x.below x.under_way.0.below;
}
