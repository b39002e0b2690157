-- The image to which objects are linked implements the units that they implement.
use Rattle.std.proofs.Common.{◌≡◌, ℕ, zero, suc, ◌+◌, ◌<◌, false, inl, List, [], ◌∷◌, ◌++◌, append_assoc, drop, length, length-append, map, reverse, Some, slice_get, refl, sym, ap, ◌∙◌, subst, arith}
use Rattle.std.proofs.lemmas.List.{length-reverse, reverse-append, reverse-reverse}
use Rattle.std.proofs.lemmas.Option.{slice_get_within}
use Rattle.ep_compose.proofs.Activations.{turn_ends, turn_starts, turn_stops}
use Rattle.ep_compose.proofs.Turns.{Anywhere, Turn, Turns, done, follows_turns}
use Rattle.ep_compose.specs.Laws.{AreObjectsOf, LinkedImplement, LinkedSpend, LinkedTellAtEnd}
use Rattle.ep_link.proofs.public.Linked.{linked_distinct, linked_stand, linked_units}
use Rattle.ep_link.specs.Linking.{AreDistinct, StandsAt}
use Rattle.ep_meaning.proofs.public.Lists.{get_within}
use Rattle.ep_meaning.proofs.public.Steady.{steady_handler_of, steady_start_of, steady_stop_of}
use Rattle.ep_meaning.specs.Calls.{Handler}
use Rattle.ep_meaning.specs.Meaning.{handler_of, meaning as meaning_of, start_of, starts_of, stop_of, stopped_units, stops_of}
use Rattle.ep_meaning.specs.Steps.{Computation, bind}
use Rattle.ep_meaning.specs.Steps as meaning
use Rattle.ep_object.specs.Laws.{EndsAt}
use Rattle.ep_object.specs.Placing.{Placement, linked, moved, placed_object_unit, placements}
use Rattle.ep_object.specs.Runs.{Activation, activation, begin, entering, entering_next, run_from}
use Rattle.ep_object.specs.State.{End, Frames, Running, State, first_frames, first_state}
use Rattle.ep_object.specs.declared.code.Image.{Image}
use Rattle.ep_object.specs.declared.code.Object.{Object}
use Rattle.ep_simulation.proofs.public.Tells.{Never, tells, tells_at_end, tells_close}
use Rattle.ep_simulation.proofs.public.matching.Beginning.{first_injection, first_matches, first_memory}
use Rattle.ep_simulation.specs.Follows.{Bare, Follows}
use Rattle.ep_simulation.specs.Implements.{Implements}
use Rattle.ep_simulation.proofs.public.Joined.{slots_stand}
use Rattle.ep_simulation.specs.Joined.{AreJoined, HeadingsAreKept, ObjectImplements, SlotsStand, StandsAmong}
use Rattle.ep_simulation.specs.Layouts.{Layout, layout_of}
use Rattle.ep_simulation.specs.Matching.{at as standing}
use Rattle.ep_simulation.specs.Simulates.{Enters, Simulates}
use Rattle.ep_simulation.specs.Tells.{AreClose, Tells, TellsAtEnd, spare_ticks}
use Rattle.ep_typed.specs.declared.unit.Unit.{Unit as TypedUnit}
use Rattle.ep_values.specs.Events.{Trace}

-- ---- lists

-- what stands behind a list
behind : {A : Type 0} (xs : List A) (x : A) (ys : List A) → slice_get (xs ++ x ∷ ys) (length xs) ≡ Some x
behind [] x ys = refl
behind (y ∷ xs) x ys = behind xs x ys

-- one more in front
longer : {A : Type 0} (xs : List A) (x : A) → length (xs ++ x ∷ []) ≡ length xs + 1
longer xs x = length-append xs (x ∷ [])

-- what stands in the reverse of a list, with so many behind it, stands at that place of the list
in_reverse : {A : Type 0} (all xs : List A) (x : A) (ys : List A) → reverse all ≡ xs ++ x ∷ ys → slice_get all (length ys) ≡ Some x
in_reverse all xs x ys e =
    let there : all ≡ (reverse ys ++ x ∷ []) ++ reverse xs = sym (reverse-reverse all) ∙ (ap reverse e ∙ (reverse-append xs (x ∷ ys) ∙ ap (λ l. l ++ reverse xs) (reverse-append (x ∷ []) ys))) in
    ap (λ l. slice_get l (length ys)) (there ∙ append_assoc (reverse ys) (x ∷ []) (reverse xs))
    ∙ (ap (slice_get (reverse ys ++ x ∷ reverse xs)) (sym (length-reverse ys)) ∙ behind (reverse ys) x (reverse xs))

-- ---- the meaning as a row of starts and stops

module _ (call : Handler) (n : ℕ) where
  stops_done : (vs : List TypedUnit) → done (map (stop_of call n) vs) ≡ stops_of call n vs
  stops_done [] = refl
  stops_done (v ∷ vs) = ap (λ c. bind (stop_of call n v) (λ _. c)) (stops_done vs)

  starts_done : (us vs : List TypedUnit) → done (map (start_of call n) us ++ map (stop_of call n) vs) ≡ starts_of call n us (stops_of call n vs)
  starts_done [] vs = stops_done vs
  starts_done (u ∷ us) vs = ap (λ c. bind (start_of call n u) (λ _. c)) (starts_done us vs)

-- ---- objects that implement the units

module _ (units : List TypedUnit) (os : List Object) (joined : AreJoined units) (are : AreObjectsOf units os) where
  abbrev G : Image
  G = linked os

  abbrev ps : List Placement
  ps = placements os

  abbrev layout : Layout
  layout = layout_of units

  -- the object of a unit
  object_at : (k : ℕ) (u : TypedUnit) → slice_get units k ≡ Some u → (o : Object) × (slice_get os k ≡ Some o)
  object_at k u there = get_within os k (omega (arith, are.count, slice_get_within units k u there))

  -- and the unit of an object
  unit_at : (k : ℕ) (o : Object) → slice_get os k ≡ Some o → (u : TypedUnit) × (slice_get units k ≡ Some u)
  unit_at k o there = get_within units k (omega (arith, are.count, slice_get_within os k o there))

  its_name : (k : ℕ) (u : TypedUnit) (o : Object) → slice_get units k ≡ Some u → slice_get os k ≡ Some o → o.name ≡ u.name
  its_name k u o p q = let implements = are.each k u o p q in implements.name

  distinct : AreDistinct os
  distinct i j a b p q same =
      let u = unit_at i a p in
      let v = unit_at j b q in
      joined.named i j u.0 v.0 u.1 v.1 (sym (its_name i u.0 a u.1 p) ∙ (same ∙ its_name j v.0 b v.1 q))

  module _ (k : ℕ) (u : TypedUnit) (there : slice_get units k ≡ Some u) where
    abbrev o : Object
    o = (object_at k u there).0

    implements : ObjectImplements u o
    implements = are.each k u o there (object_at k u there).1

    stands : StandsAt os k o
    stands = linked_stand os distinct k o (object_at k u there).1

    slots : SlotsStand G ps u
    slots = slots_stand u o G ps stands.placement stands.stands implements.name implements.slots

    unit_there : slice_get G.units k ≡ Some (placed_object_unit stands.placement o)
    unit_there = let its = stands.stands in subst (λ i. slice_get G.units i ≡ Some (placed_object_unit stands.placement o)) stands.unit its.unit

  among : (k : ℕ) (u : TypedUnit) (there : slice_get units k ≡ Some u) → StandsAmong units k u G ps (stands k u there).placement (o k u there)
  among k u there = let its = stands k u there in record { joined = joined; there = there; stands = its.stands; distinct = linked_distinct os distinct; slots = slots }

  -- ---- the headings, by induction on the steps over all units at once

  kept_at : (n : ℕ) → ((m : ℕ) → m < n → HeadingsAreKept units G ps m) → HeadingsAreKept units G ps n
  kept_at n below k u there =
      let its = implements k u there in
      let s = stands k u there in
      its.heading units k G ps s.placement (among k u there) n below

  kept_below : (n m : ℕ) → m < n → HeadingsAreKept units G ps m
  kept_below zero m less = absurd (omega (arith, less))
  kept_below (suc n) m less = kept_at m (λ i l. kept_below n i (omega (arith, l, less)))

  headings_kept : (n : ℕ) → HeadingsAreKept units G ps n
  headings_kept n = kept_at n (kept_below n)

  -- ---- the turns

  counted : length G.units ≡ length units
  counted = linked_units os ∙ are.count

  -- the start of a unit, at the turn of its number
  abbrev start_at : (k : ℕ) (u : TypedUnit) → slice_get units k ≡ Some u → Activation
  start_at k u there = record { unit = k; routine = moved ((stands k u there).placement).routines (o k u there).start }

  start_comes : (k : ℕ) (u : TypedUnit) (there : slice_get units k ≡ Some u) → activation G k ≡ Some (start_at k u there)
  start_comes k u there = turn_starts G k (placed_object_unit (stands k u there).placement (o k u there)) (unit_there k u there)

  module _ (n : ℕ) where
    abbrev call : Handler
    call = handler_of units n

    abbrev start : TypedUnit → Computation (Unit {0})
    start = start_of call n

    abbrev stop : TypedUnit → Computation (Unit {0})
    stop = stop_of call n

    start_simulates : (k : ℕ) (u : TypedUnit) (there : slice_get units k ≡ Some u) → Simulates layout G k (start_at k u there).routine n (start u) Bare
    start_simulates k u there =
        let its = implements k u there in
        let s = stands k u there in
        subst (λ i. Simulates layout G i (start_at k u there).routine n (start u) Bare) s.unit (its.start units k G ps s.placement (among k u there) n (λ m le. headings_kept m))

    start_turn : (k : ℕ) (u : TypedUnit) → slice_get units k ≡ Some u → Turn layout G n k (start u)
    start_turn k u there = record { next = start_at k u there; is = start_comes k u there; simulates = start_simulates k u there; steady = steady_start_of call (steady_handler_of units n) n u }

    stop_turn : (j k : ℕ) (u : TypedUnit) → suc (suc (j + k)) ≡ length units → slice_get units k ≡ Some u → Turn layout G n (length units + j) (stop u)
    stop_turn j k u sum there =
        let its = implements k u there in
        let s = stands k u there in
        record {
          next = record { unit = k; routine = moved (s.placement).routines (o k u there).stop };
          is = ap (λ c. activation G (c + j)) (sym counted) ∙ turn_stops G j k (placed_object_unit s.placement (o k u there)) (sum ∙ sym counted) (unit_there k u there);
          simulates = subst (λ i. Simulates layout G i (moved (s.placement).routines (o k u there).stop) n (stop u) Bare) s.unit (its.stop units k G ps s.placement (among k u there) n (λ m le. headings_kept m));
          steady = steady_stop_of call (steady_handler_of units n) n u;
        }

    -- the stops of those that stand in the reverse of the units behind the last one
    stop_turns : (w : TypedUnit) (front rest : List TypedUnit) → reverse units ≡ w ∷ (front ++ rest) → Turns layout G n (length units + length front) (map stop rest)
    stop_turns w front [] e =
        let many : length units ≡ suc (length front) = sym (length-reverse units) ∙ (ap length e ∙ omega (arith, length-append front [])) in
        ap (λ c. activation G (c + length front)) (sym counted) ∙ turn_ends G (length front) (sym many ∙ sym counted)
    stop_turns w front (v ∷ rest) e =
        let many : suc (suc (length front + length rest)) ≡ length units = sym (sym (length-reverse units) ∙ (ap length e ∙ omega (arith, length-append front (v ∷ rest)))) in (
          stop_turn (length front) (length rest) v many (in_reverse units (w ∷ front) v rest e),
          subst (λ m. Turns layout G n m (map stop rest)) {x = length units + length (front ++ v ∷ [])} {y = length units + length front + 1} (omega (arith, longer front v))
              (stop_turns w (front ++ v ∷ []) rest (e ∙ ap (λ l. w ∷ l) (sym (append_assoc front (v ∷ []) rest)))),
        )

    all_stops : (l : List TypedUnit) → reverse units ≡ l → 0 < length units → Turns layout G n (length units) (map stop (drop 1 l))
    all_stops [] e some = absurd (omega (arith, some, length-reverse units, ap length e))
    all_stops (w ∷ rest) e some = subst (λ m. Turns layout G n m (map stop rest)) {x = length units + 0} {y = length units} (omega arith) (stop_turns w [] rest e)

    -- and the starts before them
    start_turns : (front rest : List TypedUnit) (stops : List (Computation (Unit {0}))) → units ≡ front ++ rest → Turns layout G n (length units) stops → Turns layout G n (length front) (map start rest ++ stops)
    start_turns front [] stops e h = subst (λ m. Turns layout G n m stops) {x = length units} {y = length front} (ap length e ∙ omega (arith, length-append front [])) h
    start_turns front (u ∷ rest) stops e h = (
      start_turn (length front) u (ap (λ l. slice_get l (length front)) e ∙ behind front u rest),
      subst (λ m. Turns layout G n m (map start rest ++ stops)) (longer front u) (start_turns (front ++ u ∷ []) rest stops (e ∙ sym (append_assoc front (u ∷ []) rest)) h),
    )

  -- ---- the whole run

  module _ (u : TypedUnit) (us : List TypedUnit) (e : units ≡ u ∷ us) where
    some : 0 < length units
    some = omega (arith, ap length e)

    first_there : slice_get units 0 ≡ Some u
    first_there = ap (λ l. slice_get l 0) e

    abbrev x : Activation
    x = start_at 0 u first_there

    -- the first start
    first : Simulates layout G 0 x.routine 0 (start_of (handler_of units 0) 0 u) Bare
    first = start_simulates 0 0 u first_there

    -- the frames when it begins, and the state
    abbrev start_frames : Frames
    start_frames = record (first_frames G) { turn = 0; routine = x.routine; unit = 0 }

    abbrev start_state : State
    start_state = standing (first.image_routine).entry [] (first_memory start_frames) []

    begins : begin G ≡ Running 0 start_state
    begins = ap (λ y. entering_next G 0 y (first_state G)) (start_comes 0 u first_there) ∙ ap (λ r. entering 0 x r (first_state G)) first.there

    enters : Enters layout G 0 x.routine first_injection (first_memory start_frames) [] meaning.first_state start_state
    enters = record { image_routine = first.image_routine; there = first.there; is = refl; runs = refl; in_unit = refl; without_calls = refl; matches = first_matches layout G start_frames refl refl }

    -- the machine follows the meaning of the units
    follows : (n : ℕ) → Follows Anywhere G n start_state meaning.first_state (starts_of (handler_of units n) n units (stops_of (handler_of units n) n (stopped_units units))) Never spare_ticks (λ a. 41)
    follows n =
        subst (λ c. Follows Anywhere G n start_state meaning.first_state c Never spare_ticks (λ a. 41))
        (starts_done (handler_of units n) n (u ∷ us) (stopped_units units) ∙ ap (λ l. starts_of (handler_of units n) n l (stops_of (handler_of units n) n (stopped_units units))) (sym e))
        (follows_turns layout G n (map (start n) us ++ map (stop n) (stopped_units units)) (start n u) 0 x (start_simulates n 0 u first_there)
        (start_turns n (u ∷ []) us (map (stop n) (stopped_units units)) e (all_stops n (reverse units) refl some)) first_injection (first_memory start_frames) meaning.first_state start_state enters refl)

    -- what a run of the image tells of the meaning of the units
    tells_whole : Implements G units
    tells_whole t =
        subst (λ g. Tells (meaning_of units) t (run_from G t g)) (sym begins)
        (tells Anywhere G start_state (meaning_of units) (λ a. 41) (λ m. let f = follows m in f.by m (omega arith)) t)

    -- what it tells at its end
    tells_whole_at_end : (t : ℕ) (end : End) (trace : Trace) → EndsAt G (begin G) 0 t end trace → TellsAtEnd (meaning_of units) t end trace
    tells_whole_at_end t end trace at =
        tells_at_end Anywhere G start_state (meaning_of units) (λ a. 41) (λ m. let f = follows m in f.by m (omega arith)) t end trace (subst (λ g. EndsAt G g 0 t end trace) begins at)

    -- its ticks, where it ends, and the steps of the meaning bound one another
    whole_spends : (t : ℕ) (end : End) (trace : Trace) → EndsAt G (begin G) 0 t end trace
        → (steps left : ℕ) (its_end : meaning.End) (s : meaning.State) → meaning_of units (left + steps) ≡ meaning.Ends left its_end s → s.resources.lost ≡ false → AreClose steps t
    whole_spends t end trace at steps left its_end s is kept =
        tells_close Anywhere G start_state (meaning_of units) (λ a. 41) (λ m. let f = follows m in f.by m (omega arith)) t steps left its_end s end trace (subst (λ g. EndsAt G g 0 t end trace) begins at) is kept

-- no units at all: the run has ended before it begins
tells_none : Implements (linked []) []
tells_none t = inl (record { steps = 0; few = omega arith; left = 0; its_end = meaning.Normal; state = meaning.first_state; is = refl; same_end = refl; same_trace = refl })

none_ends : (t : ℕ) (end : End) (trace : Trace) → EndsAt (linked []) (begin (linked [])) 0 t end trace → ⊥
none_ends t end trace at = at.runs

none_objects : (o : Object) (os : List Object) → AreObjectsOf [] (o ∷ os) → ⊥
none_objects o os are = omega (arith, are.count)

pub linked_implement : LinkedImplement
linked_implement [] [] joined are = tells_none
linked_implement [] (o ∷ os) joined are = absurd (none_objects o os are)
linked_implement (u ∷ us) os joined are = tells_whole (u ∷ us) os joined are u us refl

pub linked_tell_at_end : LinkedTellAtEnd
linked_tell_at_end [] [] joined are t end trace at = absurd (none_ends t end trace at)
linked_tell_at_end [] (o ∷ os) joined are t end trace at = absurd (none_objects o os are)
linked_tell_at_end (u ∷ us) os joined are t end trace at = tells_whole_at_end (u ∷ us) os joined are u us refl t end trace at

pub linked_spend : LinkedSpend
linked_spend [] [] joined are t end trace at steps left its_end s is kept = absurd (none_ends t end trace at)
linked_spend [] (o ∷ os) joined are t end trace at steps left its_end s is kept = absurd (none_objects o os are)
linked_spend (u ∷ us) os joined are t end trace at steps left its_end s is kept = whole_spends (u ∷ us) os joined are u us refl t end trace at steps left its_end s is kept
