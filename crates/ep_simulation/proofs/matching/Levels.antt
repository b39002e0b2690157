-- The frames around the one of the innermost call, and what a routine knows of them.
use Rattle.std.proofs.Common.{◌≡◌, ℕ, zero, suc, ◌+◌, List, [], ◌∷◌, ◌++◌, Option, Some, None, length, reverse, option_map, slice_get, refl, sym, ap, ◌∙◌, subst, arith}
use Rattle.std.proofs.lemmas.Grind.{reverse_onto}
use Rattle.std.proofs.lemmas.List.{length-reverse}
use Rattle.ep_simulation.specs.Activations.{LevelSlot, LevelMatches, MatchesAround}
use Rattle.ep_object.specs.Calls.{parent_by}
use Rattle.ep_simulation.specs.Follows.{IsSameCall, HasGrown, Lasts}
use Rattle.ep_object.specs.Frames.{call_at, parent_of, frame_above, frame_up, found_by, call_slots, level_slots, slots_at, slots_up}
use Rattle.ep_simulation.specs.Matching.{MachineMemory, Injection, Slots, Grown}
use Rattle.ep_object.specs.State.{Frame, Frames}
use Rattle.ep_object.specs.declared.code.ImageRoutine.{ImageRoutine}
use Rattle.ep_object.specs.declared.state.FrameNumber.{FrameNumber}
use Rattle.ep_object.specs.declared.state.FrameNumber.TheVariants as number
use Rattle.ep_object.specs.declared.state.Place.{Place}
use Rattle.ep_simulation.proofs.matching.Changes.{slot-grown}
use Rattle.ep_object.proofs.public.Elements.{slice_get-pushed}
use Rattle.ep_simulation.proofs.public.matching.MoreMemory.{slice_get-prefix, describes-grown}
use Rattle.ep_meaning.specs.Steps.{Call, named_in}
use Rattle.ep_meaning.specs.Steps as meaning
use Rattle.ep_meaning.specs.Valid.{Declarations, Level}
use Rattle.ep_typed.specs.declared.unit.UnitType.{UnitType}
use Rattle.ep_typed.specs.declared.unit.UnitVariable.{UnitVariable}

-- ---- frames over frames

-- the frames in the order of their numbers
numbered : (c : Frame) (calls : List Frame) → reverse (c ∷ calls) ≡ reverse calls ++ c ∷ []
numbered c calls = reverse_onto calls c []

-- a frame keeps its number when a call is made
call_at-more : (c : Frame) (calls : List Frame) (n : ℕ) (x : Frame) → call_at calls n ≡ Some x → call_at (c ∷ calls) n ≡ Some x
call_at-more c calls n x h = slice_get-prefix (reverse calls) (reverse (c ∷ calls)) n x (record { rest = c ∷ []; is = numbered c calls }) h

-- the innermost call has the number of those below it
call_at-innermost : (c : Frame) (calls : List Frame) → call_at (c ∷ calls) (length calls) ≡ Some c
call_at-innermost c calls =
    ap (λ l. slice_get l (length calls)) (numbered c calls)
    ∙ (ap (λ n. slice_get (reverse calls ++ c ∷ []) n) (sym (length-reverse calls)) ∙ slice_get-pushed (reverse calls) c)

mapped : {A B : Type 0} (f : A → B) (o : Option A) (b : B) → option_map f o ≡ Some b → (a : A) × ((o ≡ Some a) × (f a ≡ b))
mapped f None b e = cc
mapped f (Some a) b e = (a, (refl, cc))

parent_of-more : (c : Frame) (calls : List Frame) (x y : FrameNumber) → parent_of calls x ≡ Some y → parent_of (c ∷ calls) x ≡ Some y
parent_of-more c calls (number.Unit n) y h = cc
parent_of-more c calls (number.Call n) y h =
    let m = mapped (λ (d : Frame). d.parent) (call_at calls n) y h in
    ap (option_map (λ (d : Frame). d.parent)) (call_at-more c calls n m.0 m.1.0) ∙ ap Some m.1.1

-- the frames above a frame are the same when a call is made
pub frame_above-more : (c : Frame) (calls : List Frame) (n : ℕ) (x y : FrameNumber) → frame_above calls n x ≡ Some y → frame_above (c ∷ calls) n x ≡ Some y
frame_above-more c calls zero x y h = h
frame_above-more c calls (suc n) x y h = go (λ p. frame_above-more c calls n p y) (parent_of calls x) refl h
  where
    go : ((p : FrameNumber) → frame_above calls n p ≡ Some y → frame_above (c ∷ calls) n p ≡ Some y)
        → (o : Option FrameNumber) → parent_of calls x ≡ o → found_by o (frame_above calls n) ≡ Some y → frame_above (c ∷ calls) (suc n) x ≡ Some y
    go more None e q = cc
    go more (Some p) e q = ap (λ o. found_by o (frame_above (c ∷ calls) n)) (parent_of-more c calls x p e) ∙ more p q

call_slots-more : (c : Frame) (calls : List Frame) (x : FrameNumber) (slots : List (Option Place)) → call_slots calls x ≡ Some slots → call_slots (c ∷ calls) x ≡ Some slots
call_slots-more c calls (number.Unit n) slots h = cc
call_slots-more c calls (number.Call n) slots h =
    let m = mapped (λ (d : Frame). d.slots) (call_at calls n) slots h in
    ap (option_map (λ (d : Frame). d.slots)) (call_at-more c calls n m.0 m.1.0) ∙ ap Some m.1.1

-- so many levels up from the frame above one
frame_above-then : (calls : List Frame) (n : ℕ) (x y : FrameNumber) (m : ℕ) → frame_above calls n x ≡ Some y → frame_above calls (n + m) x ≡ frame_above calls m y
frame_above-then calls zero x y m h = ap (λ k. frame_above calls k x) {x = 0 + m} {y = m} (omega arith) ∙ ap (λ (o : Option FrameNumber). found_by o (frame_above calls m)) h
frame_above-then calls (suc n) x y m h = ap (λ k. frame_above calls k x) {x = suc n + m} {y = suc (n + m)} (omega arith) ∙ go (λ p. frame_above-then calls n p y m) (parent_of calls x) h
  where
    go : ((p : FrameNumber) → frame_above calls n p ≡ Some y → frame_above calls (n + m) p ≡ frame_above calls m y)
        → (o : Option FrameNumber) → found_by o (frame_above calls n) ≡ Some y → found_by o (frame_above calls (n + m)) ≡ frame_above calls m y
    go so None q = cc
    go so (Some p) q = so p q

-- the number of the frame so many levels up from the innermost call
abbrev level_number : List Frame → ℕ → Option FrameNumber
level_number [] up = None
level_number (c ∷ below) zero = Some (number.Call (length below))
level_number (c ∷ below) (suc up) = frame_above (c ∷ below) up c.parent

-- and so many levels up from that one
level_number-then : (c : Frame) (below : List Frame) (up n : ℕ) (p : FrameNumber) → level_number (c ∷ below) up ≡ Some p
    → level_number (c ∷ below) (up + n) ≡ frame_above (c ∷ below) n p
level_number-then c below zero n p h = ap (λ k. level_number (c ∷ below) k) {x = 0 + n} {y = n} (omega arith) ∙ (from n ∙ ap (λ x. frame_above (c ∷ below) n x) same)
  where
    same : number.Call (length below) ≡ p
    same = cc

    from : (n : ℕ) → level_number (c ∷ below) n ≡ frame_above (c ∷ below) n (number.Call (length below))
    from zero = refl
    from (suc n) = sym (ap (λ o. found_by (option_map (λ (d : Frame). d.parent) o) (frame_above (c ∷ below) n)) (call_at-innermost c below))
level_number-then c below (suc up) n p h =
    ap (λ k. level_number (c ∷ below) k) {x = suc up + n} {y = suc (up + n)} (omega arith) ∙ frame_above-then (c ∷ below) up c.parent p n h

-- where a level has slots it has a frame
record LevelFrame (calls : List Frame) (up : ℕ) (slots : List (Option Place)) : Type 0 where
  x : FrameNumber
  has_number : level_number calls up ≡ Some x
  slots_are : call_slots calls x ≡ Some slots

level_frame : (calls : List Frame) (up : ℕ) (slots : List (Option Place)) → level_slots calls up ≡ Some slots → LevelFrame calls up slots
level_frame [] up slots h = cc
level_frame (c ∷ below) zero slots h =
    record { x = number.Call (length below); has_number = refl; slots_are = ap (option_map (λ (d : Frame). d.slots)) (call_at-innermost c below) ∙ h }
level_frame (c ∷ below) (suc up) slots h = go (frame_above below up c.parent) refl h
  where
    go : (o : Option FrameNumber) → frame_above below up c.parent ≡ o → found_by o (call_slots below) ≡ Some slots → LevelFrame (c ∷ below) (suc up) slots
    go None e q = cc
    go (Some y) e q = record { x = y; has_number = frame_above-more c below up c.parent y e; slots_are = call_slots-more c below y slots q }

-- the machine finds the frame and the slots of a level
frame_up-level : (f : Frames) (up : ℕ) (x : FrameNumber) → level_number f.calls up ≡ Some x → frame_up f up ≡ Some x
frame_up-level f up x h = go f.calls refl up h
  where
    go : (calls : List Frame) → f.calls ≡ calls → (up : ℕ) → level_number calls up ≡ Some x → frame_up f up ≡ Some x
    go [] e up q = cc
    go (c ∷ below) e zero q = rw e q
    go (c ∷ below) e (suc up) q = rw e q

pub level_up : (f : Frames) (up : ℕ) (slots : List (Option Place)) → level_slots f.calls up ≡ Some slots → slots_up f up ≡ Some slots
level_up f up slots h = go f.calls refl up h
  where
    at_call : (x : FrameNumber) → call_slots f.calls x ≡ Some slots → slots_at f x ≡ Some slots
    at_call (number.Unit n) q = cc
    at_call (number.Call n) q = q

    go : (calls : List Frame) → f.calls ≡ calls → (up : ℕ) → level_slots calls up ≡ Some slots → slots_up f up ≡ Some slots
    go [] e up q = cc
    go (c ∷ below) e zero q = rw e q
    go (c ∷ below) e (suc up) q =
        let l = level_frame (c ∷ below) (suc up) slots q in
        let above : frame_up f (suc up) ≡ Some l.x = frame_up-level f (suc up) l.x (subst (λ cs. level_number cs (suc up) ≡ Some l.x) (sym e) l.has_number) in
        ap (λ o. found_by o (slots_at f)) above ∙ at_call l.x (subst (λ cs. call_slots cs l.x ≡ Some slots) (sym e) l.slots_are)

-- a routine that is declared at a level that has slots has a parent
pub parent_there : (f : Frames) (r : ImageRoutine) (up : ℕ) (slots : List (Option Place)) → level_slots f.calls up ≡ Some slots
    → (p : FrameNumber) × (parent_by f r (suc up) ≡ Some p)
parent_there f r up slots h = let l = level_frame f.calls up slots h in (l.x, frame_up-level f up l.x l.has_number)

-- its levels are those of the caller from there on
pub level_called : (f : Frames) (r : ImageRoutine) (up n : ℕ) (p : FrameNumber) (first slots : List (Option Place)) (new : Frame)
    → parent_by f r (suc up) ≡ Some p → new.parent ≡ p → level_slots f.calls up ≡ Some first → level_slots f.calls (up + n) ≡ Some slots
    → level_slots (new ∷ f.calls) (suc n) ≡ Some slots
level_called f r up n p first slots new parent is there h =
    let base = level_frame f.calls up first there in
    let same : base.x ≡ p = (let its : frame_up f up ≡ Some base.x = frame_up-level f up base.x base.has_number in cc) in
    let l = level_frame f.calls (up + n) slots h in
    ap (λ x. found_by (frame_above f.calls n x) (call_slots f.calls)) (is ∙ sym same)
    ∙ (ap (λ o. found_by o (call_slots f.calls)) (above f.calls base.x base.has_number l.x l.has_number) ∙ l.slots_are)
  where
    above : (calls : List Frame) (x : FrameNumber) → level_number calls up ≡ Some x → (y : FrameNumber) → level_number calls (up + n) ≡ Some y → frame_above calls n x ≡ Some y
    above [] x e y q = cc
    above (c ∷ below) x e y q = sym (level_number-then c below up n x e) ∙ q

-- ---- what is known of the routines around

-- the innermost call may change but for its parent, and so may the call of the meaning but for what is around it
pub level-same : {untouched : Slots} {types : List UnitType} {level : Level} {injection longer : Injection} {calls later : List Call} {memory after : MachineMemory} (c d : Frame) (below : List Frame) (up : ℕ)
    → memory.frames.calls ≡ c ∷ below → after.frames.calls ≡ d ∷ below → d.parent ≡ c.parent → slice_get (named_in later) (suc up) ≡ slice_get (named_in calls) (suc up)
    → Grown untouched injection memory longer after
    → LevelMatches types level injection calls memory (suc up) → LevelMatches types level longer later after (suc up)
level-same {types = types} {level = level} {injection = injection} {longer = longer} {memory = memory} {after = after} c d below up before_is after_is parent named grown h =
    record {
      slots = h.slots;
      are = ap (λ cs. level_slots cs (suc up)) after_is ∙ (ap (λ x. found_by (frame_above below up x) (call_slots below)) parent ∙ (sym (ap (λ cs. level_slots cs (suc up)) before_is) ∙ h.are));
      variables = h.variables;
      named = named ∙ h.named;
      holds = λ k v is. slot k v (h.holds k v is);
    }
  where
    slot : (k : ℕ) (v : UnitVariable) → LevelSlot types injection h.variables h.slots memory k v → LevelSlot types longer h.variables h.slots after k v
    slot k v x =
        record {
          slot = x.slot;
          is = x.is;
          matches = slot-grown (h.variables k) x.slot grown x.matches;
          described = λ place t is has_type. describes-grown place.type_number t grown (x.described place t is has_type);
        }

-- it lasts
pub around-lasts : {untouched : Slots} (declared : Declarations) → Lasts untouched (MatchesAround declared)
around-lasts {untouched = untouched} declared = record { by = λ injection longer s t memory after g h up level is. go injection longer s t memory after g up level (h up level is) }
  where
    go : (injection longer : Injection) (s t : meaning.State) (memory after : MachineMemory) → HasGrown untouched injection s memory longer t after
        → (up : ℕ) (level : Level) → LevelMatches declared.types level injection s.calls memory (suc up) → LevelMatches declared.types level longer t.calls after (suc up)
    go injection longer s t memory after g up level h = let r = g.routine in by_calls memory.frames.calls after.frames.calls refl refl r.calls h.are
      where
        by_calls : (before later : List Frame) → memory.frames.calls ≡ before → after.frames.calls ≡ later → IsSameCall before later → level_slots memory.frames.calls (suc up) ≡ Some h.slots
            → LevelMatches declared.types level longer t.calls after (suc up)
        by_calls [] later e l same are = absurd (let none : level_slots memory.frames.calls (suc up) ≡ None = ap (λ cs. level_slots cs (suc up)) e in cc)
        by_calls (c ∷ below) [] e l same are = absurd same
        by_calls (c ∷ below) (d ∷ more) e l same are =
            level-same c d below up e (l ∙ ap (λ ds. d ∷ ds) same.3) same.1 (ap (λ cs. slice_get (named_in cs) (suc up)) g.calls) g.grown h
