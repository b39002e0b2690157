-- The machine follows a whole program.
use Rattle.std.proofs.Common.{◌≡◌, ℕ, zero, suc, ◌+◌, ◌<◌, Bool, true, false, if◌then◌else◌, bytes_eq, map, slice_get, [], ◌∷◌, ◌++◌, length, length-append, Some, refl, sym, ap, ◌∙◌, subst, arith}
use Rattle.std.proofs.lemmas.Bool.{lt-ltb}
use Rattle.ep_gen_unit.specs.StmtCode.{make_all_code, return_code}
use Rattle.ep_gen_unit.specs.UnitCode.{IsUnitCode, plain_at}
use Rattle.ep_gen_unit.proofs.Declared.{same_name}
use Rattle.ep_gen_unit.proofs.Routines.{routines_kept}
use Rattle.ep_gen_unit.proofs.Units.{start_is, unit_simulates, routine_there as routine_of_object}
use Rattle.ep_simulation.specs.Layouts.{layout_of}
use Rattle.ep_simulation.specs.Joined.{HaveOwnNames, IsFound}
use Rattle.ep_simulation.specs.Promises.{OthersAreKept, RoutineKeeps}
use Rattle.ep_simulation.specs.Scene.{AreLaidOut, GivenStand}
use Rattle.ep_simulation.proofs.public.Joined.{among_alone}
use Rattle.ep_simulation.proofs.public.matching.LaidOut.{laid_among}
use Rattle.ep_simulation.proofs.public.Alone.{placements_alone, stands-alone, distinct-alone}
use Rattle.ep_simulation.proofs.public.matching.Beginning.{first_memory, first_injection, first_matches}
use Rattle.ep_simulation.proofs.public.following.Bind.{follows_bind, follows_stop}
use Rattle.ep_simulation.proofs.public.matching.MoreMemory.{not_left-same}
use Rattle.ep_simulation.proofs.public.following.Simulating.{simulation_follows, leaves_enters}
use Rattle.ep_simulation.proofs.public.Tells.{Never, tells, tells_at_end, tells_close}
use Rattle.ep_simulation.specs.Follows.{Follows, Bare, SameRoutine, IsNotLeft}
use Rattle.ep_object.specs.Laws.{EndsAt}
use Rattle.ep_simulation.specs.Matching.{kept_slots, at as standing}
use Rattle.ep_object.specs.Placing.{alone, first_placement, moved, placed_routine}
use Rattle.ep_object.specs.Routines.{routine_of as routine_there}
use Rattle.ep_object.specs.Runs.{begin, outcome, enter, run_from}
use Rattle.ep_simulation.specs.Simulates.{Enters, Leaves}
use Rattle.ep_object.specs.State.{State, Frames, End, Running, Stopped, Normal, first_frames}
use Rattle.ep_simulation.specs.Tells.{Tells, TellsAtEnd, AreClose, spare_ticks}
use Rattle.ep_object.specs.declared.code.Object.{Object}
use Rattle.ep_meaning.proofs.public.Steady.{steady_stop, steady_handler_of}
use Rattle.ep_typed.specs.Routines.{heading_of, made_by_unit}
use Rattle.ep_values.specs.Events.{Trace}
use Rattle.ep_meaning.specs.Meaning.{handler_of, starts_of, meaning as meaning_of}
use Rattle.ep_meaning.specs.Steps as meaning
use Rattle.ep_meaning.specs.Steps.{stop}
use Rattle.ep_meaning.specs.Units.{GivenUnit, IsValid, own}
use Rattle.ep_typed.specs.declared.unit.Unit.{Unit as TypedUnit}

module _ (u : TypedUnit) (o : Object) (is : IsUnitCode u o) where
  -- the frames when the start of the program begins
  abbrev pub start_frames : Frames
  start_frames = record (first_frames (alone o)) { turn = 0; routine = moved (first_placement o).routines o.start; unit = 0 }

  -- the state then
  abbrev pub start_state : State
  start_state = standing 0 [] (first_memory start_frames) []

  not_empty : 0 < length o.instructions
  not_empty = omega (arith, ap length is.instructions, length-append (make_all_code 0 (made_by_unit u)) (is.code ++ return_code ∷ (is.stop_code ++ return_code ∷ is.others)), length-append is.code (return_code ∷ (is.stop_code ++ return_code ∷ is.others)))

  -- its start routine is there
  start_there : routine_there (alone o) (moved (first_placement o).routines o.start) ≡ Some (placed_routine (first_placement o) (plain_at 0))
  start_there = routine_of_object u o is (alone o) (placements_alone o) (first_placement o) (stands-alone o) o.start (plain_at 0) (start_is u o is (alone o) (placements_alone o) (first_placement o) (stands-alone o))

  -- a run begins with the start of the program
  pub begins : begin (alone o) ≡ Running 0 start_state
  begins = rw (start_there, lt-ltb 0 (length o.instructions) not_empty) refl

  -- the machine enters the start routine
  enters : Enters (layout_of (u ∷ [])) (alone o) 0 (moved (first_placement o).routines o.start) first_injection (first_memory start_frames) [] meaning.first_state start_state
  enters =
      record {
        image_routine = placed_routine (first_placement o) (plain_at 0);
        there = start_there;
        is = rw (lt-ltb 0 (length o.instructions) not_empty) refl;
        runs = refl;
        in_unit = refl;
        without_calls = refl;
        matches = first_matches (layout_of (u ∷ [])) (alone o) start_frames refl refl;
      }

  -- after the start of the only unit the run ends
  ends : (s : meaning.State) (k : State) → Leaves (layout_of (u ∷ [])) (alone o) first_injection meaning.first_state (first_memory start_frames) (Bare [] tt) s k → outcome (alone o) k ≡ record { weight = 0; to = Stopped Normal s.trace }
  ends s k leaves =
      let lands = leaves.lands in
      let inside = lands.post in
      let routine : SameRoutine (kept_slots (layout_of (u ∷ [])) (alone o)) start_frames lands.memory.frames = inside.routine in
      let turn : k.frames.turn ≡ 0 = ap (λ (l : State). l.frames.turn) lands.is ∙ routine.turn in
      leaves_enters leaves ∙ (ap (λ n. record { weight = 0; to = enter (alone o) (n + 1) k }) turn ∙ ap (λ (l : State). record { weight = 0; to = Stopped Normal l.trace }) lands.is)

  -- nothing is given to it
  none_given : (i : ℕ) (g : GivenUnit) → slice_get {X = GivenUnit} [] i ≡ Some g → IsFound (u ∷ []) u.types g
  none_given i g at = cc

  none_stand : GivenStand (alone o) (placements_alone o) []
  none_stand unit k v h = cc

  own_names : HaveOwnNames (u ∷ [])
  own_names zero zero a b p q same = refl
  own_names zero (suc j) a b p q same = cc
  own_names (suc i) j a b p q same = cc

  none_else : (m : ℕ) → OthersAreKept (own u) (layout_of (u ∷ [])) (alone o) (placements_alone o) (handler_of (u ∷ []) m) m
  none_else m unit different number r h = go (bytes_eq u.name unit) refl h
    where
      go : (b : Bool) → bytes_eq u.name unit ≡ b → slice_get (if b then map heading_of u.routines else []) number ≡ Some r
          → RoutineKeeps (layout_of (u ∷ [])) (alone o) (placements_alone o) (handler_of (u ∷ []) m) m u.types ((own u).around unit number) unit number r
      go true e h = absurd (different (sym (same_name u.name unit e)))
      go false e h = cc

  -- the only unit is laid out as it declares
  laid : AreLaidOut (own u) (layout_of (u ∷ []))
  laid = laid_among (u ∷ []) own_names u 0 refl [] none_given

  module _ (valid : IsValid [] u) where
    -- the machine follows the meaning of the program
    pub program_follows : (n : ℕ) → Follows (λ k. IsNotLeft start_frames k.frames) (alone o) n start_state meaning.first_state (starts_of (handler_of (u ∷ []) n) n (u ∷ []) (stop meaning.Normal)) Never spare_ticks (λ a. 41)
    program_follows n =
        follows_bind {e = λ a. 41} (λ a. steady_stop meaning.Normal)
        (simulation_follows (unit_simulates u o is (alone o) (placements_alone o) (first_placement o) (stands-alone o) [] valid none_stand (distinct-alone o) (layout_of (u ∷ [])) laid (handler_of (u ∷ []) n) (steady_handler_of (u ∷ []) n) n (routines_kept [] u o is valid (alone o) (placements_alone o) (first_placement o) (stands-alone o) (distinct-alone o) (u ∷ []) (among_alone u) none_stand (layout_of (u ∷ [])) laid n (λ m le. none_else m))) first_injection (first_memory start_frames) [] meaning.first_state start_state enters)
        (λ a s k leaves. let lands = leaves.lands in let inside = lands.post in follows_stop {v = 0} (subst (λ (l : State). IsNotLeft start_frames l.frames) (sym lands.is) (not_left-same inside.routine)) (ends s k leaves) (omega arith))

    -- What a run of the program's image tells of the meaning of the program.
    pub program_tells : (t : ℕ) → Tells (meaning_of (u ∷ [])) t (run_from (alone o) t (begin (alone o)))
    program_tells t =
        subst (λ g. Tells (meaning_of (u ∷ [])) t (run_from (alone o) t g)) (sym begins)
        (tells (λ k. IsNotLeft start_frames k.frames) (alone o) start_state (meaning_of (u ∷ [])) (λ a. 41) (λ m. let f = program_follows m in f.by m (omega arith)) t)

    -- What it tells at its end.
    pub program_tells_at_end : (t : ℕ) (end : End) (trace : Trace) → EndsAt (alone o) (begin (alone o)) 0 t end trace → TellsAtEnd (meaning_of (u ∷ [])) t end trace
    program_tells_at_end t end trace at =
        tells_at_end (λ k. IsNotLeft start_frames k.frames) (alone o) start_state (meaning_of (u ∷ [])) (λ a. 41) (λ m. let f = program_follows m in f.by m (omega arith)) t end trace (subst (λ g. EndsAt (alone o) g 0 t end trace) begins at)

    -- The ticks of a run of the program's image that ends and the steps of its meaning bound one another.
    pub program_spends : (t : ℕ) (end : End) (trace : Trace) → EndsAt (alone o) (begin (alone o)) 0 t end trace
        → (steps left : ℕ) (its_end : meaning.End) (s : meaning.State) → meaning_of (u ∷ []) (left + steps) ≡ meaning.Ends left its_end s → s.resources.lost ≡ false → AreClose steps t
    program_spends t end trace at steps left its_end s is kept =
        tells_close (λ k. IsNotLeft start_frames k.frames) (alone o) start_state (meaning_of (u ∷ [])) (λ a. 41) (λ m. let f = program_follows m in f.by m (omega arith)) t steps left its_end s end trace (subst (λ g. EndsAt (alone o) g 0 t end trace) begins at) is kept
