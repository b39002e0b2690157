-- Where the routines in a routine stand among those of a unit.
use Rattle.std.proofs.Common.{◌≡◌, ◌==◌, ◌≤◌, ◌<◌, ◌+◌, ℕ, zero, suc, nat_eq, Bool, true, false, true≢false, cond, ◌||◌, List, [], ◌∷◌, ◌++◌, map, take, drop, length, Option, Some, None, ◌⊎◌, inl, inr, get_or, slice_get, slice_set, position, refl, sym, ap, subst, ◌∙◌, arith}
use Rattle.std.specs.List.{list_any, position_from}
use Rattle.std.specs.Map.{lookup}
use Rattle.std.specs.Cmp.{unsigned_Decides}
use Rattle.std.proofs.lemmas.Iterator.Adapters.{position_from-zero}
use Rattle.std.proofs.lemmas.List.{take-append-drop, take-map}
use Rattle.ep_typed.specs.declared.interface.Interface.{Interface}
use Rattle.ep_typed.specs.declared.unit.UnitRoutine.{UnitRoutine}
use Rattle.ep_typed.specs.declared.unit.UnitVariable.{UnitVariable}
use Rattle.ep_typed.specs.Trees.{Stmt}
use Rattle.ep_threats.specs.Inner.{AreBehind, AreNoted, ArePlaces, IsNotBehind, IsNoted, KeepsNoted, NoneIsIn, all_around, noted}
use Rattle.ep_threats.specs.Threats.{inner_threatens, some_threaten, threatens_from}
use Rattle.ep_threats.specs.RoutineForms.{RoutineForm, block_set, routine_form, set_to, with_its_block}
use Rattle.ep_threats.specs.Callees.{callees_in}

-- ---- places that are noted

-- a place that is noted behind one comes behind what that one comes behind
less : (first place p : ℕ) → (first ≤ place → ⊥) → first ≤ p → place ≤ p
less zero place p late up = absurd (late (omega arith))
less (suc first) zero p late up = omega arith
less (suc first) (suc place) zero late up = absurd (omega (arith, up))
less (suc first) (suc place) (suc p) late up =
    let rest : place ≤ p = less first place p (λ h. late (omega (arith, h))) (omega (arith, up)) in
    omega (arith, rest)

not-behind : (o : Option ℕ) (place p : ℕ) → (IsNotBehind o place → ⊥) → IsNotBehind o p → place ≤ p
not-behind None place p late up = absurd up
not-behind (Some first) place p late up = less first place p late up

-- where none is noted further in front, the new one keeps what is noted
pub noted-kept : (old new : List (ℕ × ℕ)) (number place : ℕ) → (IsNoted old number place → ⊥)
    → ((q : ℕ) → noted new q ≡ cond (number == q) (Some place) (noted old q)) → KeepsNoted old new
noted-kept old new number place late put n p h =
    at (number == n) refl
  where
    at : (b : Bool) → (number == n) ≡ b → IsNoted new n p
    at false is = subst (λ o. IsNotBehind o p) (sym (put n ∙ ap (λ b. cond b (Some place) (noted old n)) is)) h
    at true is =
        let same : number ≡ n = (unsigned_Decides number n).0 is in
        let up : IsNotBehind (noted old number) p = subst (λ m. IsNotBehind (noted old m) p) (sym same) h in
        subst (λ o. IsNotBehind o p) (sym (put n ∙ ap (λ b. cond b (Some place) (noted old n)) is)) (not-behind (noted old number) place p late up)

-- ---- routines one after another

-- the last of some items, or one before it
pushed : {A : Type 0} (xs : List A) (x y : A) (k : ℕ) → slice_get (xs ++ x ∷ []) k ≡ Some y → (slice_get xs k ≡ Some y) ⊎ ((length xs ≡ k) × (x ≡ y))
pushed [] x y zero is = inr (refl, cc)
pushed [] x y (suc k) is = cc
pushed (z ∷ zs) x y zero is = inl is
pushed (z ∷ zs) x y (suc k) is = at (pushed zs x y k is)
  where
    at : (slice_get zs k ≡ Some y) ⊎ ((length zs ≡ k) × (x ≡ y)) → (slice_get (z ∷ zs) (suc k) ≡ Some y) ⊎ ((length (z ∷ zs) ≡ suc k) × (x ≡ y))
    at (inl h) = inl h
    at (inr h) = inr (ap suc h.0, h.1)

around-more : (rs : List UnitRoutine) (r : UnitRoutine) → all_around (rs ++ r ∷ []) ≡ all_around rs ++ r.around ∷ []
around-more [] r = refl
around-more (x ∷ rs) r = ap (λ l. x.around ∷ l) (around-more rs r)

length-around : (rs : List UnitRoutine) → length (all_around rs) ≡ length rs
length-around [] = refl
length-around (r ∷ rs) = ap suc (length-around rs)

-- one routine more, of which the place is noted for those around it
pub places-more : (old new : List (ℕ × ℕ)) (rs after : List UnitRoutine) (r : UnitRoutine) (place : ℕ) → ArePlaces old (all_around rs) → KeepsNoted old new
    → AreNoted new r.around place → place ≡ length rs → after ≡ rs ++ r ∷ [] → ArePlaces new (all_around after)
places-more old new rs after r place are keeps noted_now at_end is =
    subst (λ l. ArePlaces new (all_around l)) (sym is) (subst (ArePlaces new) (sym (around-more rs r)) both)
  where
    both : ArePlaces new (all_around rs ++ r.around ∷ [])
    both k around there n inside = at (pushed (all_around rs) r.around around k there)
      where
        at : (slice_get (all_around rs) k ≡ Some around) ⊎ ((length (all_around rs) ≡ k) × (r.around ≡ around)) → IsNoted new n k
        at (inl h) = keeps n k (are k around h n inside)
        at (inr h) =
            let count : place ≡ k = at_end ∙ sym (length-around rs) ∙ h.0 in
            subst (IsNoted new n) count (noted_now n (subst (λ l. list_any (nat_eq n) l ≡ true) (sym h.1) inside))

-- what is noted is kept for the same routines
pub places-kept : (old new : List (ℕ × ℕ)) (arounds : List (List ℕ)) → ArePlaces old arounds → KeepsNoted old new → ArePlaces new arounds
places-kept old new arounds are keeps k around there n inside = keeps n k (are k around there n inside)

-- ---- a routine gets its block

-- the routines around a routine form
abbrev around_of : List RoutineForm → List (List ℕ)
around_of forms = map (λ f. f.around) forms

around_forms : (rs : List UnitRoutine) → around_of (map routine_form rs) ≡ all_around rs
around_forms [] = refl
around_forms (r ∷ rs) = ap (λ l. r.around ∷ l) (around_forms rs)

around_set : (f : RoutineForm → RoutineForm) → ((x : RoutineForm) → (f x).around ≡ x.around) → (forms : List RoutineForm) (n : ℕ)
    → around_of (set_to forms n f (slice_get forms n)) ≡ around_of forms
around_set f same [] n = refl
around_set f same (x ∷ xs) zero = ap (λ a. a ∷ around_of xs) (same x)
around_set f same (x ∷ xs) (suc n) = at (slice_get xs n) (around_set f same xs n)
  where
    at : (o : Option RoutineForm) → around_of (set_to xs n f o) ≡ around_of xs → around_of (set_to (x ∷ xs) (suc n) f o) ≡ x.around ∷ around_of xs
    at None is = refl
    at (Some y) is = ap (λ l. x.around ∷ l) is

-- it is in the same routines as before
pub places-set : (places : List (ℕ × ℕ)) (old new : List UnitRoutine) (number line : ℕ) (variables : List UnitVariable) (s : Stmt) → ArePlaces places (all_around old)
    → map routine_form new ≡ block_set number line variables s (map routine_form old) → ArePlaces places (all_around new)
places-set places old new number line variables s are set =
    subst (ArePlaces places) (sym same) are
  where
    same : all_around new ≡ all_around old
    same =
        sym (around_forms new) ∙ ap around_of set
        ∙ around_set (with_its_block line variables s) (λ x. refl) (map routine_form old) number ∙ around_forms old

-- an item that is read is there
pub there : {X : Type 0} (xs : List X) (n : ℕ) (x : X) → n < length xs → ((d : X) → x ≡ get_or xs n d) → slice_get xs n ≡ Some x
there [] n x lt h = absurd (omega (arith, lt))
there (y ∷ ys) zero x lt h = ap Some (sym (h x))
there (y ∷ ys) (suc n) x lt h = there ys n x (omega (arith, lt)) h

module _ (f : RoutineForm → RoutineForm) where
  -- one routine in another form
  pub form_set : (rs : List UnitRoutine) (n : ℕ) (r new : UnitRoutine) → slice_get rs n ≡ Some r → routine_form new ≡ f (routine_form r)
      → map routine_form (slice_set rs n new) ≡ set_to (map routine_form rs) n f (slice_get (map routine_form rs) n)
  form_set [] n r new h e = cc
  form_set (x ∷ rs) zero r new h e = let same : x ≡ r = cc in rw same (ap (λ y. y ∷ map routine_form rs) e)
  form_set (x ∷ rs) (suc n) r new h e = at (slice_get (map routine_form rs) n) (form_set rs n r new h e)
    where
      at : (o : Option RoutineForm) → map routine_form (slice_set rs n new) ≡ set_to (map routine_form rs) n f o
          → routine_form x ∷ map routine_form (slice_set rs n new) ≡ set_to (routine_form x ∷ map routine_form rs) (suc n) f o
      at None e = ap (λ xs. routine_form x ∷ xs) e
      at (Some y) e = ap (λ xs. routine_form x ∷ xs) e

  -- and none, where there is none
  pub none_set : (rs : List UnitRoutine) (n : ℕ) → length rs ≤ n → map routine_form rs ≡ set_to (map routine_form rs) n f (slice_get (map routine_form rs) n)
  none_set [] n past = refl
  none_set (x ∷ rs) zero past = absurd (omega (arith, past))
  none_set (x ∷ rs) (suc n) past = at (slice_get (map routine_form rs) n) (none_set rs n (omega (arith, past)))
    where
      at : (o : Option RoutineForm) → map routine_form rs ≡ set_to (map routine_form rs) n f o → routine_form x ∷ map routine_form rs ≡ set_to (routine_form x ∷ map routine_form rs) (suc n) f o
      at None e = refl
      at (Some y) e = ap (λ xs. routine_form x ∷ xs) e

-- ---- routines in a routine

-- what is no true is false
false-unless : (b : Bool) → (b ≡ true → ⊥) → b ≡ false
false-unless true h = absurd (h refl)
false-unless false h = refl

-- one of the first items is an item
front-item : {A : Type 0} (first : ℕ) (xs : List A) (k : ℕ) (x : A) → slice_get (take first xs) k ≡ Some x → (k < first) × (slice_get xs k ≡ Some x)
front-item zero xs k x is = cc
front-item (suc first) [] k x is = cc
front-item (suc first) (y ∷ ys) zero x is = (omega arith, is)
front-item (suc first) (y ∷ ys) (suc k) x is =
    let rest : (k < first) × (slice_get ys k ≡ Some x) = front-item first ys k x is in
    (omega (arith, rest.0), rest.1)

front-around : (first : ℕ) (rs : List UnitRoutine) → all_around (take first rs) ≡ take first (all_around rs)
front-around first rs = sym (take-map (λ r. r.around) first rs)

-- none is in it of those in front of which no place is noted
none-before : (places : List (ℕ × ℕ)) (routine first : ℕ) (rs : List UnitRoutine) → ArePlaces places (all_around rs) → ((place : ℕ) → place < first → IsNoted places routine place → ⊥) → NoneIsIn routine (take first rs)
none-before places routine first rs are late k around there =
    let item : (k < first) × (slice_get (all_around rs) k ≡ Some around) =
    front-item first (all_around rs) k around (subst (λ l. slice_get l k ≡ Some around) (front-around first rs) there) in
    false-unless (list_any (nat_eq routine) around) (λ inside. late k item.0 (are k around item.1 routine inside))

-- so those behind have all that are
pub some-behind : (places : List (ℕ × ℕ)) (routine first : ℕ) (rs behind : List UnitRoutine) → ArePlaces places (all_around rs)
    → ((place : ℕ) → place < first → IsNoted places routine place → ⊥) → behind ≡ drop first rs → AreBehind routine rs behind
some-behind places routine first rs behind are late is =
    record {
      front = take first rs;
      whole = sym (ap (λ l. take first rs ++ l) is ∙ take-append-drop first rs);
      none = none-before places routine first rs are late;
    }

-- ---- what is asked of the routines in a routine

-- a number that is none of these has no place
place-none : (p : ℕ → Bool) (xs : List ℕ) (n : ℕ) → list_any p xs ≡ false → position_from p n xs ≡ None
place-none p [] n none = refl
place-none p (x ∷ xs) n none = at (p x) refl none (place-none p xs (n + 1))
  where
    at : (b : Bool) → p x ≡ b → (b || list_any p xs) ≡ false → (list_any p xs ≡ false → position_from p (n + 1) xs ≡ None) → cond (p x) (Some n) (position_from p (n + 1) xs) ≡ None
    at true is h rest = absurd (true≢false h)
    at false is h rest = rw is (rest h)

pub outside : (routine : ℕ) (around : List ℕ) → list_any (nat_eq routine) around ≡ false → position (nat_eq routine) around ≡ None
outside routine around none = position_from-zero (nat_eq routine) around ∙ place-none (nat_eq routine) around 0 none

-- what none has that is not in it, one of those behind has exactly where one of all does
pub any-behind : (routine : ℕ) (all behind : List UnitRoutine) (f : RoutineForm → Bool) → AreBehind routine all behind
    → ((r : RoutineForm) → position (nat_eq routine) r.around ≡ None → f r ≡ false) → list_any f (map routine_form all) ≡ list_any f (map routine_form behind)
any-behind routine all behind f are none =
    ap (λ l. list_any f (map routine_form l)) are.whole ∙ skip are.front are.none
  where
    skip : (front : List UnitRoutine) → NoneIsIn routine front → list_any f (map routine_form (front ++ behind)) ≡ list_any f (map routine_form behind)
    skip [] h = refl
    skip (r ∷ rs) h =
        rw (none (routine_form r) (outside routine r.around (h 0 r.around refl))) (skip rs (λ k around there. h (suc k) around there))

-- so threats are asked of those behind alone
pub inner-behind : (routine : ℕ) (all behind : List UnitRoutine) (given : List Interface) (number : ℕ) → AreBehind routine all behind
    → some_threaten routine (callees_in all given) number (map routine_form behind) ≡ inner_threatens routine (callees_in all given) number
inner-behind routine all behind given number are =
    sym (any-behind routine all behind (λ r. threatens_from (callees_in all given) number r.block (position (nat_eq routine) r.around)) are
    (λ r none. ap (threatens_from (callees_in all given) number r.block) none))
