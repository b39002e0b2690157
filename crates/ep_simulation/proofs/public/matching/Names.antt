-- What code of a routine knows of the variables that it names: it lasts, and by it a call finds what is around its routine.
use Rattle.std.proofs.Common.{◌≡◌, ℕ, zero, suc, ◌+◌, ◌<◌, List, [], ◌∷◌, None, Some, length, length-drop, drop, slice_get, refl, sym, ap, ◌∙◌, subst, arith}
use Rattle.ep_simulation.specs.Activations.{OwnSlot, LevelSlot, LevelMatches, IsUnderWay, MatchesNames, KnowsNames, IsCallable, InActivation}
use Rattle.ep_simulation.specs.Follows.{IsSameCall, HasGrown, Lasts, Since}
use Rattle.ep_object.specs.Frames.{slots_over}
use Rattle.ep_simulation.specs.Matching.{MachineMemory, Injection, Slots, MatchesSlot, slot_of_frame}
use Rattle.ep_object.specs.State.{Frame}
use Rattle.ep_object.proofs.public.Elements.{slice_get-drop}
use Rattle.ep_simulation.proofs.matching.Levels.{around-lasts}
use Rattle.ep_simulation.proofs.public.matching.OwnVariables.{matches_own-lasts}
use Rattle.ep_meaning.specs.Steps.{own_in}
use Rattle.ep_meaning.specs.Steps as meaning
use Rattle.ep_typed.specs.Trees.{Callee}
use Rattle.ep_meaning.specs.Valid.{Declarations, Level, variables_at, IsDeclaredUp}
use Rattle.ep_typed.specs.declared.unit.UnitVariable.{UnitVariable}

-- a call that is under way stays so
under_way-lasts : {untouched : Slots} {injection longer : Injection} {s t : meaning.State} {memory after : MachineMemory}
    → HasGrown untouched injection s memory longer t after → IsUnderWay s memory → IsUnderWay t after
under_way-lasts {s = s} {t = t} {memory = memory} {after = after} g h =
    let r = g.routine in
    by_calls memory.frames.calls after.frames.calls refl refl r.calls
  where
    by_calls : (before later : List Frame) → memory.frames.calls ≡ before → after.frames.calls ≡ later → IsSameCall before later → IsUnderWay t after
    by_calls [] later e l same = let none : h.frame ∷ h.below ≡ [] = sym h.frames ∙ e in cc
    by_calls (c ∷ below) [] e l same = absurd same
    by_calls (c ∷ below) (d ∷ more) e l same = record { frame = d; below = more; frames = l; call = h.call; others = h.others; calls = g.calls ∙ h.calls }

pub names-last : {untouched : Slots} (declared : Declarations) → Lasts untouched (MatchesNames declared)
names-last {untouched = untouched} declared =
    let own = matches_own-lasts {untouched = untouched} {declared = declared} in
    let around = around-lasts {untouched = untouched} declared in
    record {
      by = λ injection longer s t memory after g h. record {
        own = own.by injection longer s t memory after g h.own;
        around = around.by injection longer s t memory after g h.around;
        under_way = λ level is. under_way-lasts g (h.under_way level is);
      };
    }

-- where memory has grown since they matched, they match
pub since_knows-names : {untouched : Slots} (declared : Declarations) {injection : Injection} {s : meaning.State} {memory : MachineMemory}
    → MatchesNames declared injection s memory → KnowsNames declared (Since untouched injection s memory)
since_knows-names {untouched = untouched} declared {injection = injection} {s = s} {memory = memory} names longer t after since =
    let lasts = names-last {untouched = untouched} declared in
    lasts.by injection longer s t memory after since names

-- a routine knows so much in its activation
pub activation_knows : (declared : Declarations) (untouched : Slots) (first : Injection) (start : MachineMemory) → KnowsNames declared (InActivation declared untouched first start)
activation_knows declared untouched first start injection s memory h =
    record { own = h.own; around = h.around; under_way = λ level is. record { frame = h.frame; below = h.below; frames = h.frames; call = h.call; others = h.others; calls = h.calls } }

-- code of no routine names no variable of one
pub none_named : (declared : Declarations) → declared.levels ≡ [] → (injection : Injection) (s : meaning.State) (memory : MachineMemory) → MatchesNames declared injection s memory
none_named declared none injection s memory =
    record {
      own = λ k v is. absurd (let at : slice_get {X = UnitVariable} [] k ≡ Some v = sym (ap (λ ls. slice_get (variables_at (slice_get ls 0)) k) none) ∙ is in cc);
      around = λ up level is. absurd (let at : slice_get {X = Level} [] (suc up) ≡ Some level = sym (ap (λ ls. slice_get ls (suc up)) none) ∙ is in cc);
      under_way = λ level is. absurd (let at : slice_get {X = Level} [] 0 ≡ Some level = sym (ap (λ ls. slice_get ls 0) none) ∙ is in cc);
    }

-- ---- a call

module _ {declared : Declarations} {injection : Injection} {s : meaning.State} {memory : MachineMemory} (names : MatchesNames declared injection s memory) where
  -- the activation that runs is one that a routine in it has around it
  level_here : (level : Level) → slice_get declared.levels 0 ≡ Some level → LevelMatches declared.types level injection s.calls memory 0
  level_here level is =
      let w = names.under_way level is in
      record {
        slots = (w.frame).slots;
        are = rw w.frames refl;
        variables = (w.call).variables;
        named = rw w.calls refl;
        holds = λ k v at. slot w k v (names.own k v (ap (λ o. slice_get (variables_at o) k) is ∙ at));
      }
    where
      slot : (w : IsUnderWay s memory) (k : ℕ) (v : UnitVariable) → OwnSlot declared injection s memory k v → LevelSlot declared.types injection (w.call).variables (w.frame).slots memory k v
      slot w k v x =
          record {
            slot = x.slot;
            is = sym (ap (λ cs. slot_of_frame (slots_over cs None) k) w.frames) ∙ x.is;
            matches = subst (λ o. MatchesSlot injection memory.types o x.slot) (ap (λ cs. own_in cs 0 k) w.calls) x.matches;
            described = x.described;
          }

  -- and so is each one around it
  level_there : (n : ℕ) (level : Level) → slice_get declared.levels n ≡ Some level → LevelMatches declared.types level injection s.calls memory n
  level_there zero level is = level_here level is
  level_there (suc n) level is = names.around n level is

  -- A call of a routine that is declared so many levels up finds the routines around that one.
  pub callable : (callee : Callee) (levels : ℕ) → IsDeclaredUp declared callee levels
      → IsCallable declared.types levels (declared.around callee.unit callee.number) injection s.calls memory
  callable callee zero is = is
  callable callee (suc up) (unit_is, within, around_is) =
      let some : 0 < length (drop up declared.levels) = omega (arith, within, length-drop up declared.levels) in
      subst (λ ls. IsCallable declared.types (suc up) ls injection s.calls memory) (sym around_is)
      (some, (λ n level at. level_there (up + n) level (sym (slice_get-drop declared.levels up n) ∙ at)))
