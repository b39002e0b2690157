-- A routine that gives the value of a component of an array to others.
use Rattle.std.proofs.Common.{◌≡◌, ℕ, ℤ, pos, zero, suc, ◌+◌, ◌*◌, ◌≤◌, ◌<◌, inr, Bool, true, false, cond, ltb, leb, IsTrue, List, [], ◌∷◌, ◌++◌, Option, Some, None, length, slice_get, refl, sym, ap, ◌∙◌, subst, append_assoc, suc-add, arith}
use Rattle.std.proofs.lemmas.Bool.Decides.{nat_tests}
use Rattle.std.proofs.lemmas.Option.{slice_get_within}
use Rattle.std.specs.Prelude.{⊤, ◌+ℤ◌, if◌then◌else◌, int_lt}
use Rattle.ep_object.specs.Calls.{call_limit, top_of}
use Rattle.ep_simulation.specs.Follows.{Bare, Facts, Follows, HasGrown, Inside, IsNotLeft, IsSameCall, IsStillCall, Lasts, SameRoutine}
use Rattle.ep_object.specs.Frames.{slots_over}
use Rattle.ep_simulation.specs.Layouts.{Layout}
use Rattle.ep_simulation.specs.Matching.{AreAmong, Grown, Injection, IsLike, IsSpot, Matches, MachineMemory, Slots, at, every_slot, slot_of_frame}
use Rattle.ep_object.specs.Operands.{Operand, Word}
use Rattle.ep_object.specs.Operands as operand
use Rattle.ep_simulation.specs.Promises.{CallsAt, IsFill, IsShuffle, IsValueOf, StandFrom, filling_code, turning_code}
use Rattle.ep_object.specs.Runs.{outcome, unit_in}
use Rattle.ep_object.specs.State.{Error, Frame, Frames, Running, State, Stopped}
use Rattle.ep_object.specs.declared.code.Image.{Image}
use Rattle.ep_object.specs.declared.code.ImageRoutine.{ImageRoutine}
use Rattle.ep_object.specs.declared.op.TheConstants as op
use Rattle.ep_object.specs.declared.state.Place.{Place as PlaceOf}
use Rattle.ep_object.proofs.public.Grows.{is_prefix}
use Rattle.ep_simulation.proofs.following.Shuffling as shuffling
use Rattle.ep_simulation.proofs.public.following.Bind.{Met, follows_changed, follows_counted, follows_credit, follows_gives_up, follows_less, follows_paid, follows_waits, gives_up}
use Rattle.ep_simulation.proofs.public.following.Choices.{going_of}
use Rattle.ep_simulation.proofs.public.following.Fragments.{Does}
use Rattle.ep_simulation.proofs.public.following.Routines.{leaves, left_memory, lost_calls}
use Rattle.ep_simulation.proofs.public.following.Swapping.{swap_follows, swap_ticks}
use Rattle.ep_simulation.proofs.public.matching.Assigned.{ended_keeps, value_keeps}
use Rattle.ep_simulation.proofs.public.matching.BareValues.{result_by, structure_given, suits_bare}
use Rattle.ep_simulation.proofs.public.matching.MoreMemory.{describes-grown, grown_refl, grown_trans, is_spot-grown, not_left-here, same_call-refl}
use Rattle.ep_simulation.proofs.public.matching.Indexes.{component_far, gap_less, gap_nearer, gap_next, gap_same, integer_next}
use Rattle.ep_simulation.proofs.public.rows.ChangeRows.{may_take, value_does, variable_type}
use Rattle.ep_simulation.proofs.rows.FrameRows.{own_slots, slot_pushes}
use Rattle.ep_simulation.proofs.public.rows.IndexRow.{array, component_place, component_spot, index_leads, is_within_count}
use Rattle.ep_simulation.proofs.public.rows.NamelessRows.{matches_depth}
use Rattle.ep_simulation.proofs.public.rows.PlaceRows.{value_loads}
use Rattle.ep_simulation.proofs.public.rows.Rows.{add_answers, in_one, instr, jump_false_jumps, jump_jumps, less_answers, outcome_at, push_pushes}
use Rattle.ep_meaning.proofs.public.Bares.{bare_number}
use Rattle.ep_meaning.proofs.public.Steady.{grows_range, steady_change, steady_spend}
use Rattle.ep_values.specs.Bounds.{component_at, count_of, gap, one_more}
use Rattle.ep_meaning.specs.Meaning.{activation}
use Rattle.ep_meaning.specs.Nameless.{all_assigned, assigned_from, fills, range_assigned, range_count, with_depth}
use Rattle.ep_values.specs.Operations.{Fault, Number, is_integer, ordinal_of}
use Rattle.ep_values.specs.Printing.{Result, Structure}
use Rattle.ep_meaning.specs.Results.{given_by, result_of, suits, value_of, weight_of}
use Rattle.ep_meaning.specs.Steady.{Steady}
use Rattle.ep_meaning.specs.Steps.{Component, Computation, assigned, change, component, component_number, has_ended, spend, type_at, value_at}
use Rattle.ep_values.specs.Values.{Value}
use Rattle.ep_meaning.specs.Steps as meaning
use Rattle.ep_values.specs.TypeValues.{TypeValue}
use Rattle.ep_values.specs.TypeValues as type
use Rattle.ep_meaning.specs.Valid.{IsTypeOfKind, ValueKind}
use Rattle.ep_meaning.specs.Valid as kind
use Rattle.ep_values.specs.declared.run_error.TheConstants as run_error
use Rattle.ep_typed.specs.declared.tree.CaseRange.{CaseRange}

-- ---- steps

-- so many steps and then others are as many as both
spend_both : {A : Type 0} (c : Computation A) (a b m : ℕ) (s : meaning.State) → spend a (spend b c) m s ≡ spend (a + b) c m s
spend_both c zero b m s = ap (λ n. spend n c m s) {x = b} {y = zero + b} (omega arith)
spend_both c (suc a) b zero s = rw suc-add refl
spend_both c (suc a) b (suc m) s = rw suc-add (spend_both c a b m s)

-- what is followed with some steps and then others is followed with both
pub follows_both : {A : Type 0} {Within : State → Type 0} {G : Image} {n : ℕ} {k : State} {s : meaning.State} (c : Computation A) {P : A → meaning.State → State → Type 0} {d : ℕ} {e : A → ℕ} (a b : ℕ)
    → Follows Within G n k s (spend a (spend b c)) P d e → Follows Within G n k s (spend (a + b) c) P d e
follows_both {Within = Within} {G = G} {k = k} {s = s} c {P = P} {d = d} {e = e} a b h = record { by = λ m l. subst (λ o. Met Within G k m P d e o) (spend_both c a b m s) (h.by m l) }

-- ---- values

-- what a variable has been given it gives
pub gives_back : (k : ValueKind) (t : TypeValue) → IsTypeOfKind k t → (injection : Injection) (memory : MachineMemory) (r : Result) (o : Operand) → IsValueOf injection memory k r o → given_by (Some t) (value_of r) ≡ Some r
gives_back (kind.Ordinal h) (type.Ordinal low high) of_kind injection memory r o (z, r_is, of_host, o_is) = rw r_is refl
gives_back (kind.Ordinal h) type.Text of_kind injection memory r o is = absurd of_kind
gives_back (kind.Ordinal h) (type.Array low high of) of_kind injection memory r o is = absurd of_kind
gives_back (kind.Ordinal h) (type.Record ts) of_kind injection memory r o is = absurd of_kind
gives_back (kind.Ordinal h) (type.Set low high) of_kind injection memory r o is = absurd of_kind
gives_back (kind.Ordinal h) (type.Initial of start) of_kind injection memory r o is = absurd of_kind
gives_back (kind.Set h) (type.Set low high) of_kind injection memory r o (ms, r_is, is_set, o_is) = rw r_is refl
gives_back (kind.Set h) (type.Ordinal low high) of_kind injection memory r o is = absurd of_kind
gives_back (kind.Set h) type.Text of_kind injection memory r o is = absurd of_kind
gives_back (kind.Set h) (type.Array low high of) of_kind injection memory r o is = absurd of_kind
gives_back (kind.Set h) (type.Record ts) of_kind injection memory r o is = absurd of_kind
gives_back (kind.Set h) (type.Initial of start) of_kind injection memory r o is = absurd of_kind
gives_back kind.Bytes t of_kind injection memory r o is = absurd of_kind
gives_back (kind.Structured u) t (same, structured) injection memory r o is =
    rw is.is_structure (subst (λ w. given_by (Some w) is.value ≡ Some (Structure u is.value)) same (structure_given u is.value structured ∙ ap (λ w. Some (Structure w is.value)) is.bare))

-- ---- while the routine runs

-- the state of the meaning with a call besides, which is none of the meaning
abbrev under : meaning.State → meaning.State
under s = record s { calls = activation [] [] 0 ∷ s.calls }

-- nothing is known of the activation
abbrev nothing : Facts
nothing injection s memory = ⊤

nothing_lasts : Lasts every_slot nothing
nothing_lasts = record { by = λ injection longer s t memory after grown known. tt }

pub among_every : {some : Slots} → AreAmong some every_slot
among_every = record { of_units = λ unit k h. refl; own = λ k h. refl }

-- the same calls are under way
still_calls : (calls : List Frame) → IsStillCall calls calls
still_calls [] = tt
still_calls (c ∷ calls) = (refl, refl, refl, refl)

-- while calls run over the one that a routine made, the routine is not left
not_left-over : (before now f : Frames) (c : Frame) → now.turn ≡ before.turn → now.routine ≡ before.routine → now.unit ≡ before.unit → now.calls ≡ c ∷ before.calls
    → IsNotLeft now f → IsNotLeft before f
not_left-over before now f c turn routine unit frames h = go h.own h.is (let runs = h.runs in subst (λ cs. IsStillCall cs h.own) frames runs.calls)
  where
    go : (own : List Frame) → f.calls ≡ h.over ++ own → IsStillCall (c ∷ before.calls) own → IsNotLeft before f
    go [] is still = absurd still
    go (d ∷ later) is still =
        let runs = h.runs in
        record {
          over = h.over ++ d ∷ [];
          own = before.calls;
          is = is ∙ (ap (λ l. h.over ++ d ∷ l) still.3 ∙ sym (append_assoc h.over (d ∷ []) before.calls));
          runs = record { turn = runs.turn ∙ turn; routine = runs.routine ∙ routine; unit = runs.unit ∙ unit; calls = still_calls before.calls };
        }

-- Components of a variable have got the value that one of them has, and the machine matches in a memory that has grown.
pub record Filled (layout : Layout) (G : Image) (v : Component) (f : ℕ) (value : Value) (injection : Injection) (s : meaning.State) (memory : MachineMemory)
    (t : meaning.State) (longer : Injection) (after : MachineMemory) : Type 0 where
  pub matches : Matches layout G longer t after
  pub since : HasGrown every_slot injection s memory longer t after
  pub living : has_ended v.allocation t ≡ false
  pub has : value_at (component v f) t ≡ value

-- so it does at a place of the code
pub record FilledAt (layout : Layout) (G : Image) (v : Component) (f : ℕ) (value : Value) (injection : Injection) (s : meaning.State) (memory : MachineMemory)
    (place : ℕ) (below : List Operand) (t : meaning.State) (l : State) : Type 0 where
  pub longer : Injection
  pub after : MachineMemory
  pub is : l ≡ at place below after t.trace
  pub filled : Filled layout G v f value injection s memory t longer after

module _ (layout : Layout) (G : Image) (routine : ℕ) (fill : IsFill G routine) (place line : ℕ) (calls : CallsAt G place routine 0 line)
    (low high : ℤ) (of : TypeValue) (k : ValueKind) (of_kind : IsTypeOfKind k of) (v : Component) (p : PlaceOf) (from first last : ℤ) (f : ℕ) (at_from : component_at low high from ≡ Some f)
    (r : Result) (suited : suits (Some of) r ≡ true) (gives : given_by (Some of) (value_of r) ≡ Some r)
    (injection : Injection) (memory : MachineMemory) (other : Operand) (value : IsValueOf injection memory k r other)
    (spot : IsSpot injection memory.types v p) (described : IsLike memory.types p.type_number (type.Array low high of)) (below : List Operand)
    (s : meaning.State) (matches : Matches layout G injection s memory) where
  -- it with its code
  abbrev shuffle : IsShuffle G routine 4 1 (λ entry. filling_code entry fill.swap)
  shuffle = fill.shuffles

  abbrev its : ImageRoutine
  its = shuffle.its

  -- the state of the meaning, which knows of the call
  abbrev now_known : meaning.State
  now_known = with_depth s

  -- ---- the places of the code

  abbrev head : ℕ
  head = its.entry + 1 + 1 + 1

  abbrev to_swap : ℕ
  to_swap = head + 1 + 1

  abbrev to_load : ℕ
  to_load = to_swap + 1 + 1 + 1 + 1 + 1

  abbrev behind : ℕ
  behind = to_load + 1 + 1

  abbrev to_jump : ℕ
  to_jump = behind + 1 + 1 + 1

  abbrev to_drop : ℕ
  to_drop = to_jump + 1 + 1 + 1 + 1

  -- ---- what stays while it runs

  record Turning (sh : meaning.State) (longer : Injection) (now : MachineMemory) : Type 0 where
    grown : Grown every_slot injection memory longer now
    turn : now.frames.turn ≡ memory.frames.turn
    routine_is : now.frames.routine ≡ memory.frames.routine
    unit_is : now.frames.unit ≡ memory.frames.unit
    frame : Frame
    frames : now.frames.calls ≡ frame ∷ memory.frames.calls
    arguments : frame.arguments ≡ Some (Word last) ∷ Some (Word first) ∷ Some (Word from) ∷ None ∷ []
    slot : slice_get frame.slots 0 ≡ Some (Some p)
    back : frame.back ≡ place + 1
    made : frame.made ≡ []
    is : Matches layout G longer (under sh) now
    calls_are : sh.calls ≡ s.calls
    living : has_ended v.allocation sh ≡ false
    same : sh.trace ≡ s.trace
    has : value_at (component v f) sh ≡ value_of r

  module _ (sh : meaning.State) (longer : Injection) (now : MachineMemory) (t : Turning sh longer now) where
    now_spot : IsSpot longer now.types v p
    now_spot = is_spot-grown t.grown spot

    now_described : IsLike now.types p.type_number (type.Array low high of)
    now_described = describes-grown p.type_number (type.Array low high of) t.grown described

    stays : (there : ℕ) (ops : List Operand) → IsNotLeft memory.frames (at there ops now sh.trace).frames
    stays there ops = record { over = t.frame ∷ []; own = memory.frames.calls; is = t.frames; runs = record { turn = t.turn; routine = t.routine_is; unit = t.unit_is; calls = still_calls memory.frames.calls } }

    -- `Slot`, which gives the place of the array
    place_pushed : (there : ℕ) (ops : List Operand) → slice_get G.instructions there ≡ Some (instr op.SLOT (pos 0) 0 shuffle.line)
        → outcome G (at there ops now sh.trace) ≡ in_one (Running 0 (at (there + 1) (operand.Place p ∷ ops) now sh.trace))
    place_pushed there ops has = slot_pushes G there shuffle.line 0 0 ops (t.frame).slots now sh.trace has (own_slots now t.frame memory.frames.calls t.frames) p t.slot

    -- `Peek` of an index
    from_pushed : (there : ℕ) (ops : List Operand) → slice_get G.instructions there ≡ Some (instr op.PEEK (pos 1) 0 shuffle.line)
        → outcome G (at there ops now sh.trace) ≡ in_one (Running 0 (at (there + 1) (Word from ∷ ops) now sh.trace))
    from_pushed there ops has = outcome_at G (instr op.PEEK (pos 1) 0 shuffle.line) there ops now sh.trace has ∙ rw (t.frames, t.arguments) refl

    last_pushed : (there : ℕ) (ops : List Operand) → slice_get G.instructions there ≡ Some (instr op.PEEK (pos 3) 0 shuffle.line)
        → outcome G (at there ops now sh.trace) ≡ in_one (Running 0 (at (there + 1) (Word last ∷ ops) now sh.trace))
    last_pushed there ops has = outcome_at G (instr op.PEEK (pos 3) 0 shuffle.line) there ops now sh.trace has ∙ rw (t.frames, t.arguments) refl

    -- `Dup` of an index
    doubled : (there : ℕ) (z : ℤ) → slice_get G.instructions there ≡ Some (instr op.DUP (pos 0) 0 shuffle.line)
        → outcome G (at there (Word z ∷ below) now sh.trace) ≡ in_one (Running 0 (at (there + 1) (Word z ∷ Word z ∷ below) now sh.trace))
    doubled there z has = outcome_at G (instr op.DUP (pos 0) 0 shuffle.line) there (Word z ∷ below) now sh.trace has

  -- ---- a turn

  -- memory and the state go on so
  kept : (sh : meaning.State) (longer : Injection) (now : MachineMemory) (t : Turning sh longer now) (i : ℕ) (longest : Injection) (later : MachineMemory)
      → Grown every_slot longer now longest later → SameRoutine every_slot now.frames later.frames → Matches layout G longest (assigned (component v i) (value_of r) (under sh)) later
      → Turning (assigned (component v i) (value_of r) sh) longest later
  kept sh longer now t i longest later more still now_is = go later.frames.calls refl (subst (λ cs. IsSameCall cs later.frames.calls) t.frames still.calls)
    where
      go : (cs : List Frame) → later.frames.calls ≡ cs → IsSameCall (t.frame ∷ memory.frames.calls) cs → Turning (assigned (component v i) (value_of r) sh) longest later
      go [] e same = absurd same
      go (c ∷ others) e same =
          record {
            grown = grown_trans t.grown more;
            turn = still.turn ∙ t.turn;
            routine_is = still.routine ∙ t.routine_is;
            unit_is = still.unit ∙ t.unit_is;
            frame = c;
            frames = e ∙ ap (λ l. c ∷ l) same.3;
            arguments = same.4 ∙ t.arguments;
            slot = sym (ap (λ cs. slot_of_frame (slots_over cs None) 0) e) ∙ (still.slots 0 refl ∙ (ap (λ cs. slot_of_frame (slots_over cs None) 0) t.frames ∙ t.slot));
            back = same.2 ∙ t.back;
            made = same.5 ∙ t.made;
            is = now_is;
            calls_are = t.calls_are;
            living = ended_keeps (component v i) (value_of r) sh v.allocation ∙ t.living;
            same = t.same;
            has = value_keeps v i f (value_of r) sh t.has;
          }

  -- the code from the head of a turn on
  body : StandFrom G head (turning_code its.entry fill.swap shuffle.line)
  body = shuffle.stands.1.1.1

  module _ (sh : meaning.State) (longer : Injection) (now : MachineMemory) (t : Turning sh longer now) (z : ℤ) (i : ℕ) (at_index : component_at low high z ≡ Some i) where
    -- the place of the component that gets the value
    abbrev target : PlaceOf
    target = component_place layout G (to_swap + 1) shuffle.line (Word z ∷ below) low high of z v p body.1.1.1.0 longer now (now_spot sh longer now t) (now_described sh longer now t) i

    -- and that of the one that has it
    abbrev source : PlaceOf
    source = component_place layout G (to_swap + 1 + 1 + 1 + 1) shuffle.line (operand.Place target ∷ Word z ∷ below) low high of from v p body.1.1.1.1.1.1.0 longer now (now_spot sh longer now t) (now_described sh longer now t) f

    target_spot : IsSpot longer now.types (component v i) target
    target_spot = component_spot layout G (to_swap + 1) shuffle.line (Word z ∷ below) low high of z v p body.1.1.1.0 longer now (now_spot sh longer now t) (now_described sh longer now t) i (is_within_count (count_of low high) (gap low z) i at_index)

    source_spot : IsSpot longer now.types (component v f) source
    source_spot = component_spot layout G (to_swap + 1 + 1 + 1 + 1) shuffle.line (operand.Place target ∷ Word z ∷ below) low high of from v p body.1.1.1.1.1.1.0 longer now (now_spot sh longer now t) (now_described sh longer now t) f (is_within_count (count_of low high) (gap low from) f at_from)

    target_like : IsLike now.types target.type_number of
    target_like = let a = array layout G (to_swap + 1) shuffle.line (Word z ∷ below) low high of z v p body.1.1.1.0 longer now (now_spot sh longer now t) (now_described sh longer now t) in a.like

    source_like : IsLike now.types source.type_number of
    source_like = let a = array layout G (to_swap + 1 + 1 + 1 + 1) shuffle.line (operand.Place target ∷ Word z ∷ below) low high of from v p body.1.1.1.1.1.1.0 longer now (now_spot sh longer now t) (now_described sh longer now t) in a.like

    target_found : outcome G (at (to_swap + 1) (Word z ∷ operand.Place p ∷ Word z ∷ below) now sh.trace) ≡ in_one (Running 0 (at (to_swap + 1 + 1) (operand.Place target ∷ Word z ∷ below) now sh.trace))
    target_found = index_leads layout G (to_swap + 1) shuffle.line (Word z ∷ below) low high of z v p body.1.1.1.0 longer now (now_spot sh longer now t) (now_described sh longer now t) (under sh) t.is t.living i at_index

    source_found : outcome G (at (to_swap + 1 + 1 + 1 + 1) (Word from ∷ operand.Place p ∷ operand.Place target ∷ Word z ∷ below) now sh.trace) ≡ in_one (Running 0 (at to_load (operand.Place source ∷ operand.Place target ∷ Word z ∷ below) now sh.trace))
    source_found = index_leads layout G (to_swap + 1 + 1 + 1 + 1) shuffle.line (operand.Place target ∷ Word z ∷ below) low high of from v p body.1.1.1.1.1.1.0 longer now (now_spot sh longer now t) (now_described sh longer now t) (under sh) t.is t.living f at_from

    -- it gives the result
    result_is : result_of (component v f) (under sh) ≡ Some r
    result_is =
        result_by of (component v f) (under sh) (variable_type layout G to_load shuffle.line below of (component v f) source longer now source_spot source_like (under sh) t.is t.living)
        ∙ (ap (given_by (Some of)) t.has ∙ gives)

    loaded : (o : Operand) × IsValueOf longer now k r o × (outcome G (at to_load (operand.Place source ∷ operand.Place target ∷ Word z ∷ below) now sh.trace) ≡ record { weight = weight_of r; to = Running 0 (at (to_load + 1) (o ∷ operand.Place target ∷ Word z ∷ below) now sh.trace) })
    loaded = value_loads layout G to_load shuffle.line (operand.Place target ∷ Word z ∷ below) k of (component v f) source of_kind body.1.1.1.1.1.1.1.0 longer now source_spot source_like (under sh) t.is t.living r injection memory other value result_is

    -- which suits the other one
    suits_it : suits (type_at (component v i) (under sh)) r ≡ true
    suits_it =
        sym (suits_bare (type_at (component v i) (under sh)) r)
        ∙ (ap (λ o. suits o r) (variable_type layout G to_load shuffle.line below of (component v i) target longer now target_spot target_like (under sh) t.is t.living) ∙ suited)

  abbrev Within : State → Type 0
  Within l = IsNotLeft memory.frames l.frames

  swap_calls : CallsAt G to_swap fill.swap 0 shuffle.line
  swap_calls = record { instruction = instr op.CALL (pos fill.swap) 0 shuffle.line; stands = body.1.1.0; is_call = refl; names = refl; parent = refl; at_line = refl }

  -- The value is given to one more component, whose steps are spent.
  turn_follows : {A : Type 0} {P : A → meaning.State → State → Type 0} {e : A → ℕ} (n d : ℕ) (c : Computation A) → Steady c
      → (sh : meaning.State) (longer : Injection) (now : MachineMemory) (t : Turning sh longer now) (z : ℤ) (i : ℕ) → component_at low high z ≡ Some i
      → ((longest : Injection) (later : MachineMemory) → Turning (assigned (component v i) (value_of r) sh) longest later → Follows Within G n (at behind (Word z ∷ below) later sh.trace) now_known c P (20 + d) e)
      → Follows Within G n (at head (Word z ∷ below) now sh.trace) now_known (spend (suc (weight_of r)) c) P (10 + d) e
  turn_follows {A = A} {P = P} {e = e} n d c steady sh longer now t z i at_index next =
      follows_credit {d = 1 + (1 + (swap_ticks (Word z) (operand.Place p) + (1 + (1 + (1 + (1 + d))))))} {e = e} (omega arith) (λ a. omega arith)
      (follows_waits (stays sh longer now t head (Word z ∷ below)) (doubled sh longer now t head z body.0)
      (follows_waits (stays sh longer now t (head + 1) (Word z ∷ Word z ∷ below)) (place_pushed sh longer now t (head + 1) (Word z ∷ Word z ∷ below) body.1.0)
      (swap_follows G fill.swap fill.swaps to_swap shuffle.line swap_calls (Word z) (operand.Place p) (Word z ∷ below) now sh.trace s (sym t.same) (steady_spend (suc (weight_of r)) steady)
      (omega (arith, matches.depth, ap length t.frames)) (λ l. not_left-over memory.frames now.frames l.frames t.frame t.turn t.routine_is t.unit_is t.frames)
      (follows_waits (stays sh longer now t (to_swap + 1) (Word z ∷ operand.Place p ∷ Word z ∷ below)) (target_found sh longer now t z i at_index)
      (follows_waits (stays sh longer now t (to_swap + 1 + 1) (operand.Place place_of ∷ Word z ∷ below)) (place_pushed sh longer now t (to_swap + 1 + 1) (operand.Place place_of ∷ Word z ∷ below) body.1.1.1.1.0)
      (follows_waits (stays sh longer now t (to_swap + 1 + 1 + 1) (operand.Place p ∷ operand.Place place_of ∷ Word z ∷ below)) (from_pushed sh longer now t (to_swap + 1 + 1 + 1) (operand.Place p ∷ operand.Place place_of ∷ Word z ∷ below) body.1.1.1.1.1.0)
      (follows_waits (stays sh longer now t (to_swap + 1 + 1 + 1 + 1) (Word from ∷ operand.Place p ∷ operand.Place place_of ∷ Word z ∷ below)) (source_found sh longer now t z i at_index)
      (follows_less {n = suc n} (omega arith)
      (follows_paid {v = weight_of r} {w = weight_of r} {d1 = d + 63 * suc (weight_of r)} (stays sh longer now t to_load (operand.Place (source sh longer now t z i at_index) ∷ operand.Place place_of ∷ Word z ∷ below)) t.same its_value.2 (omega arith) (omega arith) (omega arith)
      (follows_credit {d = suc (weight_of r) + (20 + d)} {e = e} (omega arith) (λ a. omega arith)
      (follows_waits (stays sh longer now t (to_load + 1) (its_value.0 ∷ operand.Place place_of ∷ Word z ∷ below)) stored.does
      (subst (λ ops. Follows Within G n (at behind ops stored.memory sh.trace) now_known c P (20 + d) e) (sym post.operands_are) (next stored.injection stored.memory (kept sh longer now t i stored.injection stored.memory post.grown post.routine stored.matches))))))))))))))
    where
      place_of : PlaceOf
      place_of = target sh longer now t z i at_index

      its_value : (o : Operand) × IsValueOf longer now k r o × (outcome G (at to_load (operand.Place (source sh longer now t z i at_index) ∷ operand.Place place_of ∷ Word z ∷ below) now sh.trace) ≡ record { weight = weight_of r; to = Running 0 (at (to_load + 1) (o ∷ operand.Place place_of ∷ Word z ∷ below) now sh.trace) })
      its_value = loaded sh longer now t z i at_index

      stored : Does layout G nothing (at (to_load + 1) (its_value.0 ∷ operand.Place place_of ∷ Word z ∷ below) now sh.trace) (weight_of r) behind (Inside every_slot longer now (Bare (Word z ∷ below) tt)) (assigned (component v i) (value_of r) (under sh))
      stored =
          value_does layout G (to_load + 1) shuffle.line (Word z ∷ below) k of r its_value.0 (component v i) place_of (may_take k of of_kind) body.1.1.1.1.1.1.1.1.0 longer now its_value.1
          (target_spot sh longer now t z i at_index) (target_like sh longer now t z i at_index) (under sh) t.is t.living nothing_lasts tt (suits_it sh longer now t z i at_index)

      post : Inside every_slot longer now (Bare (Word z ∷ below) tt) stored.injection stored.memory stored.operands
      post = stored.post

  -- ---- how it goes on

  -- the index of the last component
  drop_place : its.entry + 19 ≡ to_drop
  drop_place = omega arith

  head_place : its.entry + 3 ≡ head
  head_place = omega arith

  -- whether the index is below it
  compared : (sh : meaning.State) (now : MachineMemory) (z : ℤ) (b : Bool) → int_lt z last ≡ b
      → outcome G (at (behind + 1 + 1) (Word last ∷ Word z ∷ Word z ∷ below) now sh.trace) ≡ in_one (Running 0 (at to_jump (Word (ordinal_of b) ∷ Word z ∷ below) now sh.trace))
  compared sh now z b is =
      less_answers G (behind + 1 + 1) shuffle.line (Word z ∷ below) z last body.1.1.1.1.1.1.1.1.1.1.1.0 now sh.trace ∙ ap (λ x. in_one (Running 0 (at to_jump (Word (ordinal_of x) ∷ Word z ∷ below) now sh.trace))) is

  -- After the last component it returns.
  leads_out : {A : Type 0} {P : A → meaning.State → State → Type 0} {e : A → ℕ} (n d : ℕ) (c : Computation A) (sh : meaning.State) (longer : Injection) (now : MachineMemory) (t : Turning sh longer now) (z : ℤ) → gap z last ≡ Some 0
      → Follows Within G n (at (place + 1) below (left_memory [] memory.frames.calls now) sh.trace) now_known c P d e
      → Follows Within G n (at behind (Word z ∷ below) now sh.trace) now_known c P (20 + d) e
  leads_out {e = e} n d c sh longer now t z is next =
      follows_credit {d = 1 + (1 + (1 + (1 + (1 + (1 + d)))))} {e = e} (omega arith) (λ a. omega arith)
      (follows_waits (stays sh longer now t behind (Word z ∷ below)) (doubled sh longer now t behind z body.1.1.1.1.1.1.1.1.1.0)
      (follows_waits (stays sh longer now t (behind + 1) (Word z ∷ Word z ∷ below)) (last_pushed sh longer now t (behind + 1) (Word z ∷ Word z ∷ below) body.1.1.1.1.1.1.1.1.1.1.0)
      (follows_waits (stays sh longer now t (behind + 1 + 1) (Word last ∷ Word z ∷ Word z ∷ below)) (compared sh now z false (gap_same z last is))
      (follows_waits (stays sh longer now t to_jump (Word (pos 0) ∷ Word z ∷ below)) jumps
      (follows_waits (stays sh longer now t to_drop (Word z ∷ below)) (outcome_at G (instr op.DROP (pos 0) 0 shuffle.line) to_drop (Word z ∷ below) now sh.trace drops)
      (follows_waits (stays sh longer now t (to_drop + 1) below) returns next))))))
    where
      drops : slice_get G.instructions to_drop ≡ Some (instr op.DROP (pos 0) 0 shuffle.line)
      drops = body.1.1.1.1.1.1.1.1.1.1.1.1.1.1.1.1.0

      jumps : outcome G (at to_jump (Word (pos 0) ∷ Word z ∷ below) now sh.trace) ≡ in_one (Running 0 (at to_drop (Word z ∷ below) now sh.trace))
      jumps =
          let inside : its.entry + 19 < length G.instructions = omega (arith, slice_get_within G.instructions to_drop (instr op.DROP (pos 0) 0 shuffle.line) drops) in
          jump_false_jumps G to_jump shuffle.line (Word z ∷ below) (pos 0) (its.entry + 19) inside body.1.1.1.1.1.1.1.1.1.1.1.1.0 now sh.trace ∙ ap (λ q. in_one (Running 0 (at q (Word z ∷ below) now sh.trace))) drop_place

      returns : outcome G (at (to_drop + 1) below now sh.trace) ≡ in_one (Running 0 (at (place + 1) below (left_memory [] memory.frames.calls now) sh.trace))
      returns =
          leaves G (to_drop + 1) (instr op.RETURN (pos 0) 0 shuffle.line) below now sh.trace t.frame memory.frames.calls body.1.1.1.1.1.1.1.1.1.1.1.1.1.1.1.1.1.0 refl refl refl t.frames
          ∙ (ap (λ q. in_one (Running 0 (at q below (left_memory (t.frame).made memory.frames.calls now) sh.trace))) t.back
          ∙ ap (λ ns. in_one (Running 0 (at (place + 1) below (left_memory ns memory.frames.calls now) sh.trace))) t.made)

  -- Before, it goes on with the next one.
  leads_on : {A : Type 0} {P : A → meaning.State → State → Type 0} {e : A → ℕ} (n d : ℕ) (c : Computation A) (sh : meaning.State) (longer : Injection) (now : MachineMemory) (t : Turning sh longer now) (z : ℤ) (left : ℕ) → gap z last ≡ Some (suc left) → IsTrue (is_integer z) → IsTrue (is_integer last)
      → Follows Within G n (at head (Word (z +ℤ pos 1) ∷ below) now sh.trace) now_known c P (10 + d) e
      → Follows Within G n (at behind (Word z ∷ below) now sh.trace) now_known c P (20 + d) e
  leads_on {e = e} n d c sh longer now t z left is small large next =
      follows_credit {d = 1 + (1 + (1 + (1 + (1 + (1 + (1 + (10 + d)))))))} {e = e} (omega arith) (λ a. omega arith)
      (follows_waits (stays sh longer now t behind (Word z ∷ below)) (doubled sh longer now t behind z body.1.1.1.1.1.1.1.1.1.0)
      (follows_waits (stays sh longer now t (behind + 1) (Word z ∷ Word z ∷ below)) (last_pushed sh longer now t (behind + 1) (Word z ∷ Word z ∷ below) body.1.1.1.1.1.1.1.1.1.1.0)
      (follows_waits (stays sh longer now t (behind + 1 + 1) (Word last ∷ Word z ∷ Word z ∷ below)) (compared sh now z true (gap_less z last left is))
      (follows_waits (stays sh longer now t to_jump (Word (pos 1) ∷ Word z ∷ below)) goes_on
      (follows_waits (stays sh longer now t (to_jump + 1) (Word z ∷ below)) (push_pushes G (to_jump + 1) shuffle.line (Word z ∷ below) (pos 1) body.1.1.1.1.1.1.1.1.1.1.1.1.1.0 now sh.trace)
      (follows_waits (stays sh longer now t (to_jump + 1 + 1) (Word (pos 1) ∷ Word z ∷ below)) added
      (follows_waits (stays sh longer now t (to_jump + 1 + 1 + 1) (Word (z +ℤ pos 1) ∷ below)) jumps next)))))))
    where
      goes_on : outcome G (at to_jump (Word (pos 1) ∷ Word z ∷ below) now sh.trace) ≡ in_one (Running 0 (at (to_jump + 1) (Word z ∷ below) now sh.trace))
      goes_on =
          let inside : its.entry + 19 < length G.instructions = omega (arith, slice_get_within G.instructions to_drop (instr op.DROP (pos 0) 0 shuffle.line) body.1.1.1.1.1.1.1.1.1.1.1.1.1.1.1.1.0) in
          jump_false_jumps G to_jump shuffle.line (Word z ∷ below) (pos 1) (its.entry + 19) inside body.1.1.1.1.1.1.1.1.1.1.1.1.0 now sh.trace

      added : outcome G (at (to_jump + 1 + 1) (Word (pos 1) ∷ Word z ∷ below) now sh.trace) ≡ in_one (Running 0 (at (to_jump + 1 + 1 + 1) (Word (z +ℤ pos 1) ∷ below) now sh.trace))
      added =
          add_answers G (to_jump + 1 + 1) shuffle.line below z (pos 1) body.1.1.1.1.1.1.1.1.1.1.1.1.1.1.0 now sh.trace
          ∙ ap (λ b. in_one (going_of (to_jump + 1 + 1 + 1) below now (unit_in G now.frames) shuffle.line sh.trace (if b then Number (z +ℤ pos 1) else Fault run_error.OVERFLOW))) (integer_next z last left is small large)

      jumps : outcome G (at (to_jump + 1 + 1 + 1) (Word (z +ℤ pos 1) ∷ below) now sh.trace) ≡ in_one (Running 0 (at head (Word (z +ℤ pos 1) ∷ below) now sh.trace))
      jumps =
          let inside : its.entry + 3 < length G.instructions = omega (arith, slice_get_within G.instructions head (instr op.DUP (pos 0) 0 shuffle.line) body.0) in
          jump_jumps G (to_jump + 1 + 1 + 1) shuffle.line (Word (z +ℤ pos 1) ∷ below) (its.entry + 3) inside body.1.1.1.1.1.1.1.1.1.1.1.1.1.1.1.0 now sh.trace ∙ ap (λ q. in_one (Running 0 (at q (Word (z +ℤ pos 1) ∷ below) now sh.trace))) head_place

  -- So many more components than one get the value, in as many turns.
  turns_follow : {A : Type 0} {P : A → meaning.State → State → Type 0} {e : A → ℕ} (n d : ℕ) (c : Computation A) → Steady c
      → (left : ℕ) (sh : meaning.State) (longer : Injection) (now : MachineMemory) → Turning sh longer now → (z : ℤ) (i : ℕ) → gap low z ≡ Some i → gap z last ≡ Some left → i + left < count_of low high → IsTrue (is_integer z) → IsTrue (is_integer last)
      → ((longest : Injection) (later : MachineMemory) → Turning (all_assigned v i (suc left) (value_of r) sh) longest later → Follows Within G n (at (place + 1) below (left_memory [] memory.frames.calls later) (all_assigned v i (suc left) (value_of r) sh).trace) now_known c P d e)
      → Follows Within G n (at head (Word z ∷ below) now sh.trace) now_known (spend (suc left * suc (weight_of r)) c) P (10 + d) e
  turns_follow {P = P} {e = e} n d c steady zero sh longer now t z i far near within small large next =
      subst (λ m. Follows Within G n (at head (Word z ∷ below) now sh.trace) now_known (spend m c) P (10 + d) e) {x = suc (weight_of r) + 0} {y = 1 * suc (weight_of r)} (omega arith)
      (follows_both c (suc (weight_of r)) 0 (turn_follows n d c steady sh longer now t z i (component_far low high z i far (omega (arith, within))) (λ longest later kept_so.
      leads_out n d c (assigned (component v i) (value_of r) sh) longest later kept_so z near (next longest later kept_so))))
  turns_follow {P = P} {e = e} n d c steady (suc left) sh longer now t z i far near within small large next =
      subst (λ m. Follows Within G n (at head (Word z ∷ below) now sh.trace) now_known (spend m c) P (10 + d) e) {x = suc (weight_of r) + suc left * suc (weight_of r)} {y = suc (suc left) * suc (weight_of r)} (omega arith)
      (follows_both c (suc (weight_of r)) (suc left * suc (weight_of r)) (turn_follows n d (spend (suc left * suc (weight_of r)) c) (steady_spend (suc left * suc (weight_of r)) steady) sh longer now t z i (component_far low high z i far (omega (arith, within))) (λ longest later kept_so.
      leads_on n d (spend (suc left * suc (weight_of r)) c) (assigned (component v i) (value_of r) sh) longest later kept_so z left near small large
      (turns_follow n d c steady left (assigned (component v i) (value_of r) sh) longest later kept_so (z +ℤ pos 1) (suc i) (gap_next low z i far) (gap_nearer z last left near) (omega (arith, within)) (integer_next z last left near small large) large next))))

  -- ---- the call

  -- with all arguments, and without the first one
  abbrev all_left : List (Option Operand)
  all_left = Some (Word last) ∷ Some (Word first) ∷ Some (Word from) ∷ Some (operand.Place p) ∷ []

  abbrev indexes_left : List (Option Operand)
  indexes_left = Some (Word last) ∷ Some (Word first) ∷ Some (Word from) ∷ None ∷ []

  abbrev over : List Operand
  over = Word last ∷ Word first ∷ Word from ∷ operand.Place p ∷ below

  abbrev arguments : List Operand
  arguments = Word last ∷ Word first ∷ Word from ∷ operand.Place p ∷ []

  taken : top_of 4 over ≡ Some (arguments, below)
  taken = let enough : leb 4 (length over) ≡ true = grind (arith, nat_tests) in rw enough refl

  abbrev its_frame : List (Option Operand) → List (Option PlaceOf) → Frame
  its_frame left slots = shuffling.its_frame G routine 4 1 (λ entry. filling_code entry fill.swap) shuffle place line calls arguments over below taken memory s.trace left slots

  abbrev within : List (Option Operand) → List (Option PlaceOf) → MachineMemory
  within left slots = shuffling.within G routine 4 1 (λ entry. filling_code entry fill.swap) shuffle place line calls arguments over below taken memory s.trace left slots

  calls_it : (b : Bool) → ltb (length memory.frames.calls) call_limit ≡ b
      → outcome G (at place over memory s.trace) ≡ in_one (cond b (Running 0 (at its.entry below (within all_left (None ∷ [])) s.trace)) (Stopped (Error run_error.CALL_DEPTH (unit_in G memory.frames) calls.instruction.line) s.trace))
  calls_it true e = shuffling.calls_it G routine 4 1 (λ entry. filling_code entry fill.swap) shuffle place line calls arguments over below taken memory s.trace true e
  calls_it false e = shuffling.calls_it G routine 4 1 (λ entry. filling_code entry fill.swap) shuffle place line calls arguments over below taken memory s.trace false e

  -- while it is under way the caller is not left
  called : (left : List (Option Operand)) (slots : List (Option PlaceOf)) (there : ℕ) (ops : List Operand) → Within (at there ops (within left slots) s.trace)
  called left slots there ops = shuffling.called G routine 4 1 (λ entry. filling_code entry fill.swap) shuffle place line calls arguments over below taken memory s.trace {Within = Within} (λ l stays. stays) left slots there ops

  takes_place : outcome G (at its.entry below (within all_left (None ∷ [])) s.trace) ≡ in_one (Running 0 (at (its.entry + 1) (operand.Place p ∷ below) (within indexes_left (None ∷ [])) s.trace))
  takes_place = outcome_at G (instr op.ARG (pos 0) 0 shuffle.line) its.entry below (within all_left (None ∷ [])) s.trace shuffle.stands.0

  binds_it : outcome G (at (its.entry + 1) (operand.Place p ∷ below) (within indexes_left (None ∷ [])) s.trace) ≡ in_one (Running 0 (at (its.entry + 1 + 1) below (within indexes_left (Some p ∷ [])) s.trace))
  binds_it = outcome_at G (instr op.BIND (pos 0) 0 shuffle.line) (its.entry + 1) (operand.Place p ∷ below) (within indexes_left (None ∷ [])) s.trace shuffle.stands.1.0

  first_pushed : outcome G (at (its.entry + 1 + 1) below (within indexes_left (Some p ∷ [])) s.trace) ≡ in_one (Running 0 (at head (Word first ∷ below) (within indexes_left (Some p ∷ [])) s.trace))
  first_pushed = outcome_at G (instr op.PEEK (pos 2) 0 shuffle.line) (its.entry + 1 + 1) below (within indexes_left (Some p ∷ [])) s.trace shuffle.stands.1.1.0

  module _ (living : has_ended v.allocation s ≡ false) (has : value_at (component v f) s ≡ value_of r) where
    begun : Turning now_known injection (within indexes_left (Some p ∷ []))
    begun =
        let g = grown_refl {untouched = every_slot} injection memory in
        let h = matches_depth matches in
        record {
          grown = record { larger = g.larger; types = g.types; segments = g.segments; hidden = g.hidden; others = g.others; allocated = g.allocated; slots = g.slots; typed = g.typed; ended = g.ended };
          turn = refl;
          routine_is = refl;
          unit_is = refl;
          frame = its_frame indexes_left (Some p ∷ []);
          frames = refl;
          arguments = refl;
          slot = refl;
          back = refl;
          made = refl;
          is = record { injected = h.injected; store = h.store; types = h.types; units = h.units; outside = h.outside; counts = h.counts; depth = omega (arith, matches.depth) };
          calls_are = refl;
          living = living;
          same = refl;
          has = has;
        }

    -- what it leaves
    filled : (t : meaning.State) (longer : Injection) (now : MachineMemory) → Turning t longer now → Filled layout G v f (value_of r) injection s memory t longer (left_memory [] memory.frames.calls now)
    filled t longer now x =
        let h = x.is in
        let g = x.grown in
        let c = h.counts in
        record {
          matches = record { injected = h.injected; store = h.store; types = h.types; units = h.units; outside = h.outside; counts = record { words = omega (arith, c.words); hidden = c.hidden; number = c.number }; depth = omega (arith, matches.depth, ap length x.calls_are) };
          since = record {
            grown = record { larger = g.larger; types = g.types; segments = g.segments; hidden = g.hidden; others = g.others; allocated = g.allocated; slots = g.slots; typed = g.typed; ended = g.ended };
            routine = record { turn = x.turn; routine = x.routine_is; unit = x.unit_is; calls = same_call-refl memory.frames.calls; slots = λ j kept. refl };
            own = λ j. refl;
            calls = x.calls_are;
          };
          living = x.living;
          has = x.has;
        }

    abbrev range : CaseRange
    range = record { low = first; high = last }

    abbrev change_it : meaning.State → meaning.State
    change_it = range_assigned v range (value_of r)

    abbrev Post : Unit {0} → meaning.State → State → Type 0
    Post u = FilledAt layout G v f (value_of r) injection s memory (place + 1) below

    -- The components with the indexes of a range get the value.
    pub fills_follow : (n d b left : ℕ) → gap low first ≡ Some b → gap first last ≡ Some left → b + left < count_of low high → IsTrue (is_integer first) → IsTrue (is_integer last)
        → Follows Within G n (at place over memory s.trace) s (fills v r range) Post (1 + d) (λ u. 20 + d)
    fills_follow n d b left far near inside small large = follows_counted with_depth (by_test (ltb (length memory.frames.calls) call_limit) refl)
      where
        count_is : range_count range ≡ suc left
        count_is = ap one_more near

        number_is : component_number (type_at v now_known) first ≡ Some b
        number_is =
            sym (bare_number (type_at v s) first)
            ∙ (ap (λ o. component_number o first) (variable_type layout G place line below (type.Array low high of) v p injection memory spot described s matches living)
            ∙ component_far low high first b far (omega (arith, inside)))

        changes_so : change_it now_known ≡ all_assigned v b (suc left) (value_of r) now_known
        changes_so = ap (λ o. assigned_from v o (range_count range) (value_of r) now_known) number_is ∙ ap (λ m. all_assigned v b m (value_of r) now_known) count_is

        ends_so : (longer : Injection) (now : MachineMemory) → Turning (all_assigned v b (suc left) (value_of r) now_known) longer now
            → Follows Within G n (at (place + 1) below (left_memory [] memory.frames.calls now) (all_assigned v b (suc left) (value_of r) now_known).trace) now_known (change change_it) Post (20 + d) (λ u. 20 + d)
        ends_so longer now x =
            follows_changed change_it (omega arith)
            (subst (λ t. FilledAt layout G v f (value_of r) injection s memory (place + 1) below t (at (place + 1) below (left_memory [] memory.frames.calls now) (all_assigned v b (suc left) (value_of r) now_known).trace)) (sym changes_so)
            (record { longer = longer; after = left_memory [] memory.frames.calls now; is = refl; filled = filled (all_assigned v b (suc left) (value_of r) now_known) longer now x }))

        from_head : Follows Within G n (at head (Word first ∷ below) (within indexes_left (Some p ∷ [])) s.trace) now_known (spend (range_count range * suc (weight_of r)) (change change_it)) Post (30 + d) (λ u. 20 + d)
        from_head =
            subst (λ m. Follows Within G n (at head (Word first ∷ below) (within indexes_left (Some p ∷ [])) s.trace) now_known (spend (m * suc (weight_of r)) (change change_it)) Post (30 + d) (λ u. 20 + d)) (sym count_is)
            (follows_credit {d = 10 + (20 + d)} {e = λ u. 20 + d} (omega arith) (λ u. omega arith)
            (turns_follow n (20 + d) (change change_it) (steady_change (grows_range v range (value_of r))) left now_known injection (within indexes_left (Some p ∷ [])) begun first b far near inside small large ends_so))

        by_test : (t : Bool) → ltb (length memory.frames.calls) call_limit ≡ t
            → Follows Within G n (at place over memory s.trace) now_known (spend (suc (range_count range * suc (weight_of r))) (change change_it)) Post (1 + d) (λ u. 20 + d)
        by_test true t =
            subst (λ m. Follows Within G n (at place over memory s.trace) now_known (spend m (change change_it)) Post (1 + d) (λ u. 20 + d)) {x = 1 + range_count range * suc (weight_of r)} {y = suc (range_count range * suc (weight_of r))} (omega arith)
            (follows_both (change change_it) 1 (range_count range * suc (weight_of r))
            (follows_less {n = suc n} (omega arith)
            (follows_paid {v = 0} {w = 0} {d1 = 1 + (1 + (1 + (30 + d)))} (not_left-here memory.frames) refl (calls_it true t) (omega arith) (omega arith) (omega arith)
            (follows_waits (called all_left (None ∷ []) its.entry below) takes_place
            (follows_waits (called indexes_left (None ∷ []) (its.entry + 1) (operand.Place p ∷ below)) binds_it
            (follows_waits (called indexes_left (Some p ∷ []) (its.entry + 1 + 1) below) first_pushed from_head))))))
        by_test false t =
            let full : 10000 ≤ length memory.frames.calls = grind (arith, nat_tests, t) in
            follows_gives_up (steady_spend (suc (range_count range * suc (weight_of r))) (steady_change (grows_range v range (value_of r)))) (omega arith)
            (gives_up (calls_it false t) (inr refl) (is_prefix s.trace) (lost_calls (length s.calls) s.resources (omega (arith, full, matches.depth))))
