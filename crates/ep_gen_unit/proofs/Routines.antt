-- The routines of a unit keep their promises, by induction on the steps: a call spends one.
use Rattle.std.proofs.Common.{◌⊎◌, inl, inr, append-nil, ◌≡◌, ℕ, zero, suc, pos, ◌+◌, ◌≤◌, ◌<◌, false, if◌then◌else◌, List, [], ◌∷◌, ◌++◌, map, option_map, length, length-append, Option, Some, None, slice_get, refl, sym, ap, ◌∙◌, subst, arith, ◌*◌, IsTrue}
use Rattle.std.proofs.lemmas.Option.{same_Some, slice_get_within, slice_get-map, get_or_from_slice_get}
use Rattle.std.proofs.lemmas.List.{length-map}
use Rattle.ep_gen_code.specs.Instructions.{bare}
use Rattle.ep_gen_expr.proofs.public.Following.{place_follows, expression_follows, call_then}
use Rattle.ep_gen_expr.proofs.public.PlaceTypes.{has_bare_type}
use Rattle.ep_gen_code.proofs.public.Placed.{instr_at}
use Rattle.ep_meaning.proofs.public.Auxiliaries.{withs_denoted}
use Rattle.ep_meaning.proofs.public.Bares.{bare_size}
use Rattle.ep_meaning.proofs.public.Typed.{typed_of_host}
use Rattle.ep_gen_unit.specs.StmtCode.{IsStmtCode, make_all_code, take_all_code, return_code, result_code, structure_code, function_end, end_code}
use Rattle.ep_gen_unit.specs.UnitCode.{IsUnitCode, own_code, its_end, entry_of, plain_at}
use Rattle.ep_gen_unit.proofs.Declared.{name_same, slice_get-either, variables_valid}
use Rattle.ep_gen_unit.proofs.OwnMakes.{make_all_own_moves, make_sized_moves, takes_all_moves}
use Rattle.ep_gen_unit.proofs.Parts.{code_stands-parts}
use Rattle.ep_gen_unit.proofs.Results.{result_moves, set_moves, structure_moves}
use Rattle.ep_gen_code.specs.Referring.{AreReferred}
use Rattle.ep_gen_unit.proofs.StmtMoves.{statement_moves}
use Rattle.ep_gen_unit.proofs.Referred.{arrays_referred, swap_referred, types_referred}
use Rattle.ep_gen_unit.proofs.StructureRoutines.{arrays_there, swap_there}
use Rattle.ep_gen_unit.proofs.TypeRoutines.{call_placed, types_keep, types_none}
use Rattle.ep_gen_unit.proofs.WithMoves.{own_binds_follow}
use Rattle.ep_gen_unit.proofs.Units.{of_object, room, routine_there, scene_of, moved_own}
use Rattle.ep_simulation.specs.Joined.{IsAmong}
use Rattle.ep_simulation.specs.Layouts.{Layout}
use Rattle.ep_simulation.proofs.public.following.Fragments.{fragment_bind, fragment_credit, fragment_cut, fragment_from, fragment_give, fragment_to}
use Rattle.ep_simulation.proofs.public.following.Promising.{lasts_own}
use Rattle.ep_simulation.proofs.public.following.Routines.{begun_memory, grown_begun, parent_of_call, routine_keeps}
use Rattle.ep_simulation.proofs.public.matching.Awaiting.{AreAwaited, Handed, arguments_in, awaited-grown, handed}
use Rattle.ep_simulation.proofs.public.matching.MoreMemory.{among_same, slice_get-prefix, still_routine, unit_in-same, unit_in-still}
use Rattle.ep_simulation.proofs.public.matching.Names.{activation_knows}
use Rattle.ep_simulation.proofs.public.matching.OwnVariables.{in_activation-lasts}
use Rattle.ep_simulation.specs.Activations.{KnowsNames, IsCallable, InActivation}
use Rattle.ep_simulation.specs.Follows.{Facts, Lasts, Since, Fragment, Inside, Bare, point}
use Rattle.ep_simulation.specs.Matching.{AreAmong, MachineMemory, Injection, Slots, kept_slots}
use Rattle.ep_object.specs.Operands.{Operand}
use Rattle.ep_object.specs.Placing.{Placement, CodeStands, Stands, HasDistinctNames, moved, placed_routine}
use Rattle.ep_simulation.specs.Promises.{Passing, ByValue, ByReference, IsPassed, ArePassed, CallsAt, AreArguments, AreResults, ResultsOnTop, RoutineKeeps, CallsAreKept, OthersAreKept, credit_of}
use Rattle.ep_object.specs.Routines.{routine_of as routine_there_in}
use Rattle.ep_object.specs.Runs.{unit_in}
use Rattle.ep_simulation.specs.Scene.{AreLaidOut, GivenStand, Scene, HaveValidOwnTypes}
use Rattle.ep_object.specs.Table as table
use Rattle.ep_object.specs.Table.{op_of}
use Rattle.ep_object.specs.declared.code.CodeRoutine.{CodeRoutine}
use Rattle.ep_object.specs.declared.code.Image.{Image}
use Rattle.ep_object.specs.declared.code.ImageRoutine.{ImageRoutine}
use Rattle.ep_object.specs.declared.code.Instr.{Instr}
use Rattle.ep_object.specs.declared.code.Object.{Object}
use Rattle.ep_object.specs.declared.state.FrameNumber.{FrameNumber}
use Rattle.ep_object.specs.declared.state.FrameNumber.TheVariants as frame
use Rattle.ep_object.specs.declared.op.TheConstants as op
use Rattle.ep_meaning.proofs.public.Steady.{steady_bind, steady_handler_of, steady_runs_routine, steady_results_given, steady_make_all_own, steady_exec}
use Rattle.ep_typed.specs.Auxiliaries.{block_auxiliaries, with_variables}
use Rattle.ep_meaning.specs.Calls.{Argument, Handler}
use Rattle.ep_meaning.specs.Meaning.{weights_of, exec, make_all_own, results_given, routine_in, runs_routine, routine_does, handler_of}
use Rattle.ep_values.specs.Printing.{Result}
use Rattle.ep_typed.specs.Routines.{made_variables, result_name, result_variable}
use Rattle.ep_meaning.specs.Steps.{Computation, bind}
use Rattle.ep_typed.specs.Denoters.{bare_type_of, host_of}
use Rattle.ep_typed.specs.Hosts.{Host}
use Rattle.ep_values.specs.TypeValues as type
use Rattle.ep_values.specs.TypeValues.{TypeValue, bare_of, size_of}
use Rattle.ep_meaning.proofs.public.ValueKinds.{kinds_are_one, typed_of_kind}
use Rattle.ep_simulation.proofs.public.rows.OwnRows.{StillBare}
use Rattle.ep_meaning.specs.Steps as meaning
use Rattle.ep_typed.specs.Trees.{Callee, Denoter}
use Rattle.ep_meaning.specs.Valid as kind
use Rattle.ep_meaning.specs.Units.{in_block, levels_of, around_in, variables_in, IsResult, IsFormal, IsFormalBy, IsValid, IsRoutine, GivenUnit, declared_of, routines_given}
use Rattle.ep_meaning.specs.Valid.{Declarations, IsOfKind, IsSetOf, IsStructured, ValueKind, variables_at, variables_up, IsDenoter}
use Rattle.ep_typed.specs.Routines.{formal_variable, variables_of, heading_of}
use Rattle.ep_meaning.specs.Steady.{Steady, IsSteadyHandler}
use Rattle.ep_typed.specs.Viewed.{denoter_of, stmt_of}
use Rattle.ep_typed.specs.declared.interface.Formal.{Formal}
use Rattle.ep_typed.specs.declared.interface.FormalMode.{FormalMode}
use Rattle.ep_typed.specs.declared.interface.FormalMode.TheVariants as mode
use Rattle.ep_typed.specs.declared.unit.UnitType.{UnitType}
use Rattle.ep_typed.specs.declared.interface.RoutineEntry.{RoutineEntry}
use Rattle.ep_typed.specs.declared.interface.RoutineResult.{RoutineResult}
use Rattle.ep_typed.specs.declared.unit.Unit.{Unit as TypedUnit}
use Rattle.ep_typed.specs.declared.unit.UnitRoutine.{UnitRoutine}
use Rattle.ep_typed.specs.declared.unit.UnitVariable.{UnitVariable}
use Rattle.ep_meaning.proofs.public.Lists.{get_behind, get_within}

-- a routine that a unit declares as its own is one of its list
record OwnRoutine (u : TypedUnit) (number : ℕ) (r : RoutineEntry) : Type 0 where
  routine : UnitRoutine
  there : slice_get u.routines number ≡ Some routine
  heading : heading_of routine ≡ r

own_routine : (given : List GivenUnit) (u : TypedUnit) (number : ℕ) (r : RoutineEntry) → slice_get ((declared_of given u).routines u.name) number ≡ Some r → OwnRoutine u number r
own_routine given u number r h =
    found_in (slice_get u.routines number) refl
    (sym (slice_get-map heading_of u.routines number) ∙ (sym (ap (λ b. slice_get (if b then map heading_of u.routines else routines_given given u.name) number) (name_same u.name u.name refl)) ∙ h))
  where
    found_in : (x : Option UnitRoutine) → slice_get u.routines number ≡ x → option_map heading_of x ≡ Some r → OwnRoutine u number r
    found_in None e q = cc
    found_in (Some x) e q = record { routine = x; there = e; heading = same_Some (heading_of x) r q }

-- a routine ends with an instruction at least
function_length : (o : Option Host) (line number at : ℕ) → 1 ≤ length (function_end o line number at)
function_length None line number at = omega arith
function_length (Some h) line number at = omega arith

end_length : (types : List UnitType) (line number at : ℕ) (y : Option RoutineResult) → 1 ≤ length (end_code types line number at y)
end_length types line number at None = omega arith
end_length types line number at (Some y) = function_length (host_of types (denoter_of y.denoter)) line number at

-- a formal parameter has a valid denoter
formal_denoter : (w : FormalMode) (types : List UnitType) (d : Denoter) → IsFormalBy w types d → IsDenoter types d
formal_denoter mode.Value types d valid = valid.denoter
formal_denoter mode.ProtectedValue types d valid = valid.denoter
formal_denoter mode.Variable types d valid = valid
formal_denoter mode.ProtectedVariable types d valid = valid

module _ (given : List GivenUnit) (u : TypedUnit) (o : Object) (is : IsUnitCode u o) (valid : IsValid given u) (G : Image) (ps : List Placement) (p : Placement) (stands : Stands G ps p o) (distinct : HasDistinctNames G) (us : List TypedUnit) (among : IsAmong us u) (given_stand : GivenStand G ps given) where
  -- where a routine of the unit stands in the image
  record Placed (number : ℕ) (r : UnitRoutine) : Type 0 where
    entry : CodeRoutine
    in_object : slice_get o.routines number ≡ Some entry
    plain : entry ≡ entry_of entry.entry r
    code : List Instr
    is_code : IsStmtCode o.texts o.references (entry.entry + length (own_code r)) (stmt_of r.block) code
    makes_stand : CodeStands G ps p o.references entry.entry (own_code r)
    code_stands : CodeStands G ps p o.references (entry.entry + length (own_code r)) code
    end_stands : CodeStands G ps p o.references (entry.entry + length (own_code r) + length code) (its_end u.types (entry.entry + length (own_code r) + length code) r)
    room_for : entry.entry + length (own_code r) + length code + length (its_end u.types (entry.entry + length (own_code r) + length code) r) ≤ p.instructions.own

  placed_at : (number : ℕ) (r : UnitRoutine) → slice_get u.routines number ≡ Some r → Placed number r
  placed_at number r there =
      let blocks = is.blocks in
      let object = of_object u o is G ps p stands in
      let x = get_within is.entries number (omega (arith, blocks.count, slice_get_within u.routines number r there)) in
      let h = blocks.each number r x.0 there x.1 in
      let s = h.stands in
      let makes : List Instr = own_code r in
      let ends : List Instr = its_end u.types (x.0.entry + length makes + length h.code) r in
      let whole : CodeStands G ps p o.references 0 (s.before ++ ((makes ++ (h.code ++ ends)) ++ s.after)) = subst (λ k. CodeStands G ps p o.references 0 k) s.is stands.code in
      let first = code_stands-parts G ps p o.references 0 s.before ((makes ++ (h.code ++ ends)) ++ s.after) whole in
      let second = code_stands-parts G ps p o.references (0 + length s.before) (makes ++ (h.code ++ ends)) s.after first.1 in
      let third = code_stands-parts G ps p o.references (0 + length s.before) makes (h.code ++ ends) second.0 in
      let fourth = code_stands-parts G ps p o.references (0 + length s.before + length makes) h.code ends third.1 in
      let at : 0 + length s.before ≡ x.0.entry = omega (arith, s.from) in
      record {
        entry = x.0;
        in_object = ap (λ l. slice_get l number) is.routines ∙ slice_get-prefix is.entries (is.entries ++ plain_at 0 ∷ plain_at _ ∷ is.swapping ∷ is.filling ∷ is.ranging ∷ is.spreading ∷ is.elaborating) number x.0 (record { rest = plain_at 0 ∷ plain_at _ ∷ is.swapping ∷ is.filling ∷ is.ranging ∷ is.spreading ∷ is.elaborating; is = refl }) x.1;
        plain = h.plain;
        code = h.code;
        is_code = h.is_code;
        makes_stand = subst (λ k. CodeStands G ps p o.references k makes) at third.0;
        code_stands = subst (λ k. CodeStands G ps p o.references (k + length makes) h.code) at fourth.0;
        end_stands = subst (λ k. CodeStands G ps p o.references (k + length makes + length h.code) ends) at fourth.1;
        room_for = omega (arith, object.instructions, ap length s.is, length-append s.before ((makes ++ (h.code ++ ends)) ++ s.after), length-append (makes ++ (h.code ++ ends)) s.after, length-append makes (h.code ++ ends), length-append h.code ends, s.from);
      }

  -- how a formal parameter of a valid denoter takes its argument
  passing_of : (f : Formal) → IsFormal u.types f → (q : Passing) × IsPassed u.types f.mode f q
  passing_of f valid = by_mode f.mode valid.denoter
    where
      by_mode : (w : FormalMode) → IsFormalBy w u.types (denoter_of f.denoter) → (q : Passing) × IsPassed u.types w f q
      by_mode mode.Value d = (ByValue d.kind, d.of_kind)
      by_mode mode.ProtectedValue d = (ByValue d.kind, d.of_kind)
      by_mode mode.Variable d = (ByReference (bare_of d.type_value), ap (option_map bare_of) d.has_type)
      by_mode mode.ProtectedVariable d = (ByReference (bare_of d.type_value), ap (option_map bare_of) d.has_type)

  -- and how all of them do
  passings_of : (fs : List Formal) → ((k : ℕ) (f : Formal) → slice_get fs k ≡ Some f → IsFormal u.types f) → (qs : List Passing) × ArePassed u.types fs qs × (length qs ≡ length fs)
  passings_of [] valid = ([], tt, refl)
  passings_of (f ∷ fs) valid =
      let first = passing_of f (valid 0 f refl) in
      let rest = passings_of fs (λ k w e. valid (suc k) w e) in
      (first.0 ∷ rest.0, (first.1, rest.1), ap suc rest.2)

  -- the kinds of what a routine gives
  abbrev kinds_of : (y : Option RoutineResult) → IsResult u.types y → (ks : List ValueKind) × AreResults u.types y ks
  kinds_of None valid = ([], tt)
  kinds_of (Some y) valid = (valid.kind ∷ [], valid.of_kind)

  -- the variables that a routine makes have valid denoters
  made_valid : (name : List ℕ) (line : ℕ) (y : Option RoutineResult) → IsResult u.types y → (vs : List UnitVariable) → ((k : ℕ) (v : UnitVariable) → slice_get vs k ≡ Some v → IsDenoter u.types (denoter_of v.denoter))
      → (k : ℕ) (v : UnitVariable) → slice_get (result_variable name line y ++ vs) k ≡ Some v → IsDenoter u.types (denoter_of v.denoter)
  made_valid name line None valid vs each k v e = each k v e
  made_valid name line (Some y) valid vs each zero v e = subst (λ (w : UnitVariable). IsDenoter u.types (denoter_of w.denoter)) (same_Some (record { name = result_name name y.name; line = line; declaration = 0; denoter = y.denoter; tuple = []; parameter = false }) v e) valid.denoter
  made_valid name line (Some y) valid vs each (suc k) v e = each k v e

  -- the variables of a routine have valid denoters
  variables_typed : (number : ℕ) (r : UnitRoutine) → slice_get u.routines number ≡ Some r → (k : ℕ) (v : UnitVariable) → slice_get (variables_of r) k ≡ Some v → IsDenoter u.types (denoter_of v.denoter)
  variables_typed number r there k v e = either (slice_get-either (map (formal_variable r.line) r.formals) (made_variables r ++ with_variables (stmt_of r.block)) k v e)
    where
      its : IsRoutine given u number r
      its = valid.routines number r there

      made_typed : (j : ℕ) (w : UnitVariable) → slice_get (made_variables r) j ≡ Some w → IsDenoter u.types (denoter_of w.denoter)
      made_typed = made_valid r.name r.line r.result its.result (r.variables ++ block_auxiliaries (stmt_of r.block))
          (λ j w q. (variables_valid u.types r.variables (stmt_of r.block) its.variables j w q).denoter)

      behind_typed : (j : ℕ) (w : UnitVariable) → (slice_get (made_variables r) j ≡ Some w) ⊎ ((i : ℕ) × (slice_get (with_variables (stmt_of r.block)) i ≡ Some w)) → IsDenoter u.types (denoter_of w.denoter)
      behind_typed j w (inl q) = made_typed j w q
      behind_typed j w (inr q) = withs_denoted (in_block given u number r) u.types refl valid.types (stmt_of r.block) its.block q.0 w q.1

      either : (slice_get (map (formal_variable r.line) r.formals) k ≡ Some v) ⊎ ((j : ℕ) × (slice_get (made_variables r ++ with_variables (stmt_of r.block)) j ≡ Some v)) → IsDenoter u.types (denoter_of v.denoter)
      either (inl at) = of_formal (slice_get r.formals k) refl (sym (slice_get-map (formal_variable r.line) r.formals k) ∙ at)
        where
          of_formal : (y : Option Formal) → slice_get r.formals k ≡ y → option_map (formal_variable r.line) y ≡ Some v → IsDenoter u.types (denoter_of v.denoter)
          of_formal None q is = cc
          of_formal (Some f) q is =
              let valid_formal : IsFormal u.types f = subst (λ w. IsFormal u.types w) (get_or_from_slice_get r.formals k f f q) (its.formals k f (slice_get_within r.formals k f q)) in
              subst (λ (w : UnitVariable). IsDenoter u.types (denoter_of w.denoter)) (same_Some (formal_variable r.line f) v is) (formal_denoter f.mode u.types (denoter_of f.denoter) valid_formal.denoter)
      either (inr at) = behind_typed at.0 v (slice_get-either (made_variables r) (with_variables (stmt_of r.block)) at.0 v at.1)

  -- and so have those of the routines around one
  around_typed : (ns : List ℕ) (up k : ℕ) (v : UnitVariable) → slice_get (variables_at (slice_get (levels_of u.routines ns) up)) k ≡ Some v → IsDenoter u.types (denoter_of v.denoter)
  around_typed [] up k v e = cc
  around_typed (n ∷ ns) (suc up) k v e = around_typed ns up k v e
  around_typed (n ∷ ns) zero k v e = of_routine (slice_get u.routines n) refl e
    where
      of_routine : (y : Option UnitRoutine) → slice_get u.routines n ≡ y → slice_get (variables_in y) k ≡ Some v → IsDenoter u.types (denoter_of v.denoter)
      of_routine None q is = cc
      of_routine (Some r) q is = variables_typed n r q k v is

  module _ (layout : Layout) (laid : AreLaidOut (declared_of given u) layout) (m : ℕ) (kept : CallsAreKept (declared_of given u) layout G ps (handler_of us m) m) (number : ℕ) (r : UnitRoutine) (there : slice_get u.routines number ≡ Some r) where
    x : Placed number r
    x = placed_at number r there

    abbrev formals : List Formal
    formals = r.formals

    its : IsRoutine given u number r
    its = valid.routines number r there

    passings : (qs : List Passing) × ArePassed u.types formals qs × (length qs ≡ length formals)
    passings = passings_of formals (λ k f e. subst (λ w. IsFormal u.types w) (get_or_from_slice_get formals k f f e) (its.formals k f (slice_get_within formals k f e)))

    abbrev call : Handler
    call = handler_of us m

    steady_call : IsSteadyHandler call
    steady_call = steady_handler_of us m

    abbrev image_routine : ImageRoutine
    image_routine = placed_routine p x.entry

    place_among : moved p.routines number ≡ p.routines.before + number
    place_among =
        let object = of_object u o is G ps p stands in
        moved_own p.routines number (omega (arith, object.routines, slice_get_within o.routines number x.entry x.in_object))

    exists : routine_there_in G (moved p.routines number) ≡ Some image_routine
    exists = routine_there u o is G ps p stands number x.entry x.in_object

    numbered : moved p.routines number < length G.routines
    numbered = omega (arith, place_among, slice_get_within G.routines (p.routines.before + number) image_routine (stands.routines number x.entry x.in_object))

    takes : image_routine.arguments ≡ length formals
    takes = ap (λ (c : CodeRoutine). c.arguments) x.plain

    entry : image_routine.entry ≡ p.instructions.before + x.entry.entry
    entry = moved_own p.instructions x.entry.entry (omega (arith, x.room_for, end_length u.types r.line (length formals) (x.entry.entry + length (own_code r) + length x.code) r.result))

    abbrev variables : List UnitVariable
    variables = variables_of r

    -- the declarations in its block
    abbrev within : Declarations
    within = in_block given u number r

    enough_slots : length (variables_up within 0) ≤ image_routine.slots
    enough_slots = omega (arith, ap (λ (c : CodeRoutine). c.slots) x.plain)

    abbrev body : List Argument → Computation (List Result)
    body xs = runs_routine call m u.name r xs

    -- a formal parameter is the variable of its number, and the others stand behind them
    formal_is : (k : ℕ) (f : Formal) → slice_get formals k ≡ Some f → slice_get variables (0 + k) ≡ Some (formal_variable r.line f)
    formal_is k f e =
        let mapped : slice_get (map (formal_variable r.line) formals) k ≡ Some (formal_variable r.line f) = slice_get-map (formal_variable r.line) formals k ∙ ap (option_map (formal_variable r.line)) e in
        subst (λ i. slice_get variables i ≡ Some (formal_variable r.line f)) {x = k} {y = 0 + k} (omega arith)
        (slice_get-prefix (map (formal_variable r.line) formals) variables k (formal_variable r.line f) (record { rest = made_variables r ++ with_variables (stmt_of r.block); is = refl }) mapped)

    variable_is : (k : ℕ) (v : UnitVariable) → slice_get (made_variables r) k ≡ Some v → slice_get variables (length formals + k) ≡ Some v
    variable_is k v e =
        ap (λ i. slice_get variables (i + k)) (sym (length-map formals (formal_variable r.line)))
        ∙ (get_behind (map (formal_variable r.line) formals) (made_variables r ++ with_variables (stmt_of r.block)) k
        ∙ slice_get-prefix (made_variables r) (made_variables r ++ with_variables (stmt_of r.block)) k v (record { rest = with_variables (stmt_of r.block); is = refl }) e)

    own_types_valid : HaveValidOwnTypes within
    own_types_valid zero k v e = variables_typed number r there k v e
    own_types_valid (suc up) k v e = around_typed r.around up k v e

    scene : Scene within layout G ps p o.texts
    scene =
        let outer = scene_of u o is G ps p stands given valid given_stand layout laid in
        record { texts_stand = outer.texts_stand; variables_stand = outer.variables_stand; types_valid = outer.types_valid; own_types_valid = own_types_valid; laid_out = laid }

    in_code : p.instructions.before + p.instructions.own ≤ length G.instructions
    in_code = room u o is G ps p stands

    abbrev untouched : Slots
    untouched = kept_slots layout G

    -- those that the block leaves as they were: its `with` statements change slots of the call
    abbrev left : Slots
    left = record untouched { own = λ k. false }

    left_among : AreAmong left untouched
    left_among = record { of_units = λ unit k h. h; own = λ k h. cc }

    none_left : (k : ℕ) → IsTrue (left.own k) → ⊥
    none_left k h = cc

    some_level : within.levels ≡ [] → ⊥
    some_level h = cc

    kept_inside : CallsAreKept within layout G ps call m
    kept_inside = record { routines = kept.routines; others = kept.others; types = kept.types; swaps = kept.swaps; of_arrays = kept.of_arrays }

    -- each type has a reference of its number
    referred : AreReferred within u.name u.types o.references
    referred = types_referred within u o is refl

    abbrev end : ℕ
    end = x.entry.entry + length (own_code r) + length x.code

    abbrev line_of : ℕ
    line_of = r.line

    abbrev takes_code : List Instr
    takes_code = take_all_code line_of 0 formals

    abbrev makes_code : List Instr
    makes_code = make_all_code (length formals) (made_variables r)

    -- the results that it gives
    abbrev results : List ValueKind
    results = (kinds_of r.result its.result).0

    -- the credit that the making of the result leaves for giving it
    abbrev spare : (y : Option RoutineResult) → IsResult u.types y → ℕ
    spare None valid_result = 0
    spare (Some y) valid_result = 3 * size_of (valid_result.denoter).type_value

    -- where a routine with this result leaves its call, from where its block ends
    record Ends (y : Option RoutineResult) (ks : List ValueKind) (more : ℕ) : Type 1 where
      place : ℕ
      instruction : Instr
      stands_there : slice_get G.instructions place ≡ Some instruction
      returns : op_of instruction.op ≡ Some table.Return
      first_field : instruction.a ≡ pos 0
      second_field : instruction.b ≡ 0
      moves : {Here : Facts} → KnowsNames within Here → (longer : Injection) (after : MachineMemory) (below : List Operand) → unit_in G after.frames ≡ u.name
          → Fragment layout G Here m (point longer after (p.instructions.before + end) below) (results_given u.name line_of (length formals) y) place (λ rs. ResultsOnTop ks below rs) (63 + more) (λ rs. 1 + credit_of rs)

    abbrev result_of_name : RoutineResult → UnitVariable
    result_of_name y = record { name = result_name r.name y.name; line = line_of; declaration = 0; denoter = y.denoter; tuple = []; parameter = false }

    -- the variable of the result is the first one that the routine makes
    result_is : (y : RoutineResult) → r.result ≡ Some y → slice_get variables (length formals) ≡ Some (result_of_name y)
    result_is y is_some =
        let first : slice_get (made_variables r) 0 ≡ Some (result_of_name y) = ap (λ z. slice_get (result_variable r.name line_of z ++ (r.variables ++ block_auxiliaries (stmt_of r.block))) 0) is_some in
        ap (slice_get variables) {x = length formals} {y = length formals + 0} (omega arith) ∙ variable_is 0 (result_of_name y) first

    -- the end of a function whose result is of an ordinal type
    ordinal_ends : (y : RoutineResult) (h : Host) → host_of u.types (denoter_of y.denoter) ≡ Some h → (d : IsDenoter u.types (denoter_of y.denoter)) → r.result ≡ Some y
        → CodeStands G ps p o.references end (result_code line_of (length formals) end) → end + 7 ≤ p.instructions.own → Ends (Some y) (kind.Ordinal h ∷ []) (3 * size_of d.type_value)
    ordinal_ends y h has_host d is_some end_stands room_for =
        record {
          place = p.instructions.before + end + 5;
          instruction = bare line_of op.RETURN;
          stands_there = instr_at G (omega arith) end_stands.1.1.1.1.1.0;
          returns = refl;
          first_field = refl;
          second_field = refl;
          moves = λ knows longer after below home.
              fragment_credit {d = 63} {e = λ rs. 1 + credit_of rs} (omega arith) (λ rs. omega arith)
              (result_moves untouched knows ps p o.references m u.name in_code (length formals) line_of end h (bare_of d.type_value) (typed_of_host u.types (denoter_of y.denoter) d.type_value h d.typed has_host) end_stands (omega (arith, room_for))
              (result_of_name y) (result_is y is_some) (has_bare_type u.types (result_of_name y) (bare_of d.type_value) (ap (option_map bare_of) d.has_type)) longer after below 63 (omega arith) home);
        }

    -- of one whose result is an array or a record
    structure_ends : (y : RoutineResult) (t : TypeValue) → bare_type_of u.types (denoter_of y.denoter) ≡ Some t → IsStructured t → (d : IsDenoter u.types (denoter_of y.denoter)) → r.result ≡ Some y
        → CodeStands G ps p o.references end (structure_code line_of (length formals)) → Ends (Some y) (kind.Structured t ∷ []) (3 * size_of d.type_value)
    structure_ends y t has_type structured d is_some end_stands =
        let same : size_of t ≡ size_of d.type_value = ap size_of (same_Some t (bare_of d.type_value) (sym has_type ∙ ap (option_map bare_of) d.has_type)) ∙ bare_size d.type_value in
        record {
          place = p.instructions.before + end + 2;
          instruction = bare line_of op.RETURN;
          stands_there = instr_at G (omega arith) end_stands.1.1.0;
          returns = refl;
          first_field = refl;
          second_field = refl;
          moves = λ knows longer after below home.
              fragment_credit {d = 63 + 3 * size_of t} {e = λ rs. 1 + credit_of rs} (omega (arith, same)) (λ rs. omega (arith, same))
              (structure_moves untouched knows ps p o.references m u.name (length formals) line_of end t structured end_stands
              (result_of_name y) (result_is y is_some) (has_bare_type u.types (result_of_name y) t has_type) longer after below 63 (omega arith) home);
        }

    -- of one whose result is a set
    set_ends : (y : RoutineResult) (h : Host) (d : IsDenoter u.types (denoter_of y.denoter)) (t : TypeValue) → bare_of d.type_value ≡ t → IsSetOf h t → r.result ≡ Some y
        → CodeStands G ps p o.references end (structure_code line_of (length formals)) → Ends (Some y) (kind.Set h ∷ []) (3 * size_of d.type_value)
    set_ends y h d (type.Ordinal low high) is of_host is_some end_stands = absurd of_host
    set_ends y h d type.Text is of_host is_some end_stands = absurd of_host
    set_ends y h d (type.Array low high of) is of_host is_some end_stands = absurd of_host
    set_ends y h d (type.Record ts) is of_host is_some end_stands = absurd of_host
    set_ends y h d (type.Initial of start) is of_host is_some end_stands = absurd of_host
    set_ends y h d (type.Set low high) is of_host is_some end_stands =
        record {
          place = p.instructions.before + end + 2;
          instruction = bare line_of op.RETURN;
          stands_there = instr_at G (omega arith) end_stands.1.1.0;
          returns = refl;
          first_field = refl;
          second_field = refl;
          moves = λ knows longer after below home.
              fragment_credit {d = 63} {e = λ rs. 1 + credit_of rs} (omega arith) (λ rs. omega arith)
              (set_moves untouched knows ps p o.references m u.name (length formals) line_of end h low high of_host end_stands
              (result_of_name y) (result_is y is_some) (has_bare_type u.types (result_of_name y) (type.Set low high) (ap (option_map bare_of) d.has_type ∙ ap Some is)) longer after below 63 (omega arith) home);
        }

    function_ends : (y : RoutineResult) (k : ValueKind) → IsOfKind k u.types (denoter_of y.denoter) → (d : IsDenoter u.types (denoter_of y.denoter)) → r.result ≡ Some y → (w : Option Host) → host_of u.types (denoter_of y.denoter) ≡ w
        → CodeStands G ps p o.references end (function_end w line_of (length formals) end) → end + length (function_end w line_of (length formals) end) ≤ p.instructions.own → Ends (Some y) (k ∷ []) (3 * size_of d.type_value)
    function_ends y (kind.Ordinal h) of_kind d is_some None has end_stands room_for = absurd (let e : ◌≡◌ {A = Option Host} None (Some h) = sym has ∙ of_kind in cc)
    function_ends y (kind.Ordinal h) of_kind d is_some (Some i) has end_stands room_for = ordinal_ends y h of_kind d is_some end_stands (omega (arith, room_for))
    function_ends y kind.Bytes of_kind d is_some w has end_stands room_for = absurd of_kind
    function_ends y (kind.Set h) of_kind d is_some None has end_stands room_for =
        set_ends y h d (bare_of d.type_value) refl (typed_of_kind u.types (denoter_of y.denoter) d.type_value (kind.Set h) d.typed of_kind) is_some end_stands
    function_ends y (kind.Set h) of_kind d is_some (Some i) has end_stands room_for =
        absurd (let e : kind.Ordinal i ≡ kind.Set h = kinds_are_one u.types (denoter_of y.denoter) (kind.Ordinal i) (kind.Set h) has of_kind in cc)
    function_ends y (kind.Structured t) of_kind d is_some None has end_stands room_for = structure_ends y t of_kind.0 of_kind.1 d is_some end_stands
    function_ends y (kind.Structured t) of_kind d is_some (Some i) has end_stands room_for =
        absurd (let e : kind.Ordinal i ≡ kind.Structured t = kinds_are_one u.types (denoter_of y.denoter) (kind.Ordinal i) (kind.Structured t) has of_kind in cc)

    ends_of : (y : Option RoutineResult) (valid_result : IsResult u.types y) → r.result ≡ y → CodeStands G ps p o.references end (end_code u.types line_of (length formals) end y)
        → end + length (end_code u.types line_of (length formals) end y) ≤ p.instructions.own → Ends y (kinds_of y valid_result).0 (spare y valid_result)
    ends_of None valid_result is_none end_stands room_for =
        record {
          place = p.instructions.before + end;
          instruction = return_code;
          stands_there = end_stands.0;
          returns = refl;
          first_field = refl;
          second_field = refl;
          moves = λ knows longer after below home. fragment_give (omega arith) refl;
        }
    ends_of (Some y) valid_result is_some end_stands room_for =
        function_ends y valid_result.kind valid_result.of_kind valid_result.denoter is_some (host_of u.types (denoter_of y.denoter)) refl end_stands room_for

    abbrev more : ℕ
    more = spare r.result its.result

    ends : Ends r.result results more
    ends = ends_of r.result its.result refl x.end_stands x.room_for

    -- a call that hands over such operands
    module _ (place : ℕ) (parent : FrameNumber) (injection : Injection) (memory : MachineMemory) (below operands : List Operand) (xs : List Argument) (hands : Handed injection memory passings.0 xs below operands) where
      counted : length hands.top ≡ image_routine.arguments
      counted = hands.many ∙ (passings.2 ∙ sym takes)

      abbrev begun : MachineMemory
      begun = begun_memory layout G (moved p.routines number) image_routine exists numbered hands.top counted (weights_of xs) hands.weigh parent place memory

      home : unit_in G begun.frames ≡ u.name
      home = rw (place_among, stands.routines number x.entry x.in_object, stands.unit) is.name

      abbrev Here : Facts
      Here = InActivation within untouched injection begun

      lasts : Lasts untouched Here
      lasts = in_activation-lasts

      lasts_left : Lasts left Here
      lasts_left = lasts_own (λ k. false) lasts

      knows : KnowsNames within Here
      knows = activation_knows within untouched injection begun

      -- the arguments lie in the frame
      awaited : AreAwaited injection begun passings.0 xs 0 (arguments_in begun.frames.calls)
      awaited =
          let none : hands.top ++ [] ≡ hands.top = append-nil hands.top in
          awaited-grown (grown_begun layout G (moved p.routines number) image_routine exists numbered hands.top counted (weights_of xs) hands.weigh {untouched = untouched} parent place injection memory) passings.0 xs 0 (map Some hands.top) (subst (λ l. AreAwaited injection memory passings.0 xs 0 (map Some l)) none (hands.awaited 0 [] refl))

      -- the block, once the arguments are taken and the variables are made
      runs_block : (longer : Injection) (after : MachineMemory) (pushed : List Operand) → unit_in G after.frames ≡ u.name → pushed ≡ below
          → Fragment layout G Here m (point longer after (p.instructions.before + (x.entry.entry + length (own_code r))) pushed) (exec call m u.name (stmt_of r.block)) (p.instructions.before + end) (λ b. Inside left longer after (Bare below b)) (63 + more) (λ b. 63 + more)
      runs_block longer after pushed at_home is_below =
          subst (λ o. Fragment layout G Here m (point longer after (p.instructions.before + (x.entry.entry + length (own_code r))) o) (exec call m u.name (stmt_of r.block)) (p.instructions.before + end) (λ b. Inside left longer after (Bare below b)) (63 + more) (λ b. 63 + more)) (sym is_below)
          (statement_moves lasts_left ps p o.texts o.references call steady_call m u.name in_code scene
          (λ x_kind e is_x line at code is_code x_stands inside v1 m1 operands d enough x_home. expression_follows {untouched = left} ps p o.texts o.references scene knows call steady_call m u.name in_code lasts_left left_among m kept_inside refl referred (swap_referred within u o is refl) (arrays_referred within u o is refl) x_kind e is_x line at code is_code x_stands inside v1 m1 operands d (omega arith) x_home)
          (λ q q_valid t has_type line at code is_code x_stands inside v1 m1 operands d enough x_home. place_follows {untouched = left} ps p o.texts o.references scene knows call steady_call m u.name in_code lasts_left left_among m kept_inside refl referred (swap_referred within u o is refl) (arrays_referred within u o is refl) q q_valid t has_type line at code is_code x_stands inside v1 m1 operands d (omega arith) x_home)
          (λ line at to callee k given xs r keeps given_valid is_code is_declared named xs_stands xs_inside v1 m1 operands d enough x_home rest steady behind. call_then {untouched = left} ps p o.texts o.references scene knows call steady_call m u.name in_code lasts_left left_among m kept_inside refl referred (swap_referred within u o is refl) (arrays_referred within u o is refl) {to = to} line at callee k given xs r keeps given_valid is_code is_declared named xs_stands xs_inside v1 m1 operands d enough x_home rest steady (λ rs longer after pushed grown routine top. fragment_credit {d = d} {e = λ b. d} (omega arith) (λ b. omega arith) (behind rs longer after pushed grown routine top)))
          kept_inside (own_binds_follow ps p o.references call m u.name some_level none_left) (stmt_of r.block) (x.entry.entry + length (own_code r)) x.code its.block x.is_code x.code_stands (omega (arith, x.room_for, end_length u.types line_of (length formals) end r.result)) longer after below (63 + more) (omega arith) at_home)

      abbrev gives : Computation (List Result)
      gives = results_given u.name line_of (length formals) r.result

      steady_gives : Steady gives
      steady_gives = steady_results_given u.name line_of (length formals) r.result

      -- and then what it gives
      blocks : (longer : Injection) (after : MachineMemory) (pushed : List Operand) → unit_in G after.frames ≡ u.name → pushed ≡ below
          → Fragment layout G Here m (point longer after (p.instructions.before + (x.entry.entry + length (own_code r))) pushed) (bind (exec call m u.name (stmt_of r.block)) (λ b. gives)) ends.place (λ rs. ResultsOnTop results below rs) (63 + more) (λ rs. 1 + credit_of rs)
      blocks longer after pushed at_home is_below =
          fragment_bind {middle = p.instructions.before + end} {P = λ b. Inside left longer after (Bare below b)} {e = λ b. 63 + more} (λ b. steady_gives)
          (runs_block longer after pushed at_home is_below)
          (λ b last final above i. (still_routine i.routine, subst (λ st. Fragment layout G Here m (point last final (p.instructions.before + end) st) gives ends.place (λ rs. ResultsOnTop results below rs) (63 + more) (λ rs. 1 + credit_of rs)) (sym i.operands_are) (ends.moves knows last final below (unit_in-same G i.routine ∙ at_home))))

      -- the making of the variables, of which that of the result leaves a credit
      makes_all : (y : Option RoutineResult) (valid_result : IsResult u.types y) (at : ℕ) → ((i : ℕ) (v : UnitVariable) → slice_get (result_variable r.name line_of y ++ (r.variables ++ block_auxiliaries (stmt_of r.block))) i ≡ Some v → slice_get (variables_up within 0) (length formals + i) ≡ Some v)
          → CodeStands G ps p o.references at (make_all_code (length formals) (result_variable r.name line_of y ++ (r.variables ++ block_auxiliaries (stmt_of r.block))))
          → (longer : Injection) (after : MachineMemory) (below : List Operand) → unit_in G after.frames ≡ u.name
          → Fragment layout G Here m (point longer after (p.instructions.before + at) below) (make_all_own call m u.name (length formals) (result_variable r.name line_of y ++ (r.variables ++ block_auxiliaries (stmt_of r.block)))) (p.instructions.before + (at + length (make_all_code (length formals) (result_variable r.name line_of y ++ (r.variables ++ block_auxiliaries (stmt_of r.block)))))) (λ a. StillBare after below) 63 (λ a. 63 + spare y valid_result)
      makes_all None valid_result at are_declared at_stands longer after below at_home =
          fragment_credit {d = 63} {e = λ a. 63} (omega arith) (λ a. omega arith)
          (make_all_own_moves within layout G untouched injection begun lasts ps p o.references call steady_call m u.name scene.own_types_valid (refl, refl) among_same kept_inside referred (swap_referred within u o is refl) (arrays_referred within u o is refl) m (length formals) at (r.variables ++ block_auxiliaries (stmt_of r.block)) are_declared at_stands longer after below 63 (omega arith) at_home)
      makes_all (Some y) valid_result at are_declared at_stands longer after below at_home =
          make_sized_moves within layout G untouched injection begun lasts ps p o.references call steady_call m u.name scene.own_types_valid (refl, refl) among_same kept_inside referred (swap_referred within u o is refl) (arrays_referred within u o is refl) m (length formals) at (result_of_name y) (r.variables ++ block_auxiliaries (stmt_of r.block)) (valid_result.denoter).type_value (valid_result.denoter).has_type are_declared at_stands longer after below 63 (omega arith) at_home

      -- the making of the variables, and then the block
      makes : (longer : Injection) (after : MachineMemory) (pushed : List Operand) → unit_in G after.frames ≡ u.name → pushed ≡ below
          → Fragment layout G Here m (point longer after (p.instructions.before + (x.entry.entry + length takes_code)) pushed) (bind (make_all_own call m u.name (length formals) (made_variables r)) (λ a. bind (exec call m u.name (stmt_of r.block)) (λ b. gives))) ends.place (λ rs. ResultsOnTop results below rs) 63 (λ rs. 1 + credit_of rs)
      makes longer after pushed at_home is_below =
          let parts = code_stands-parts G ps p o.references x.entry.entry takes_code makes_code x.makes_stand in
          let size : x.entry.entry + length takes_code + length makes_code ≡ x.entry.entry + length (own_code r) = omega (arith, length-append takes_code makes_code) in
          subst (λ st. Fragment layout G Here m (point longer after (p.instructions.before + (x.entry.entry + length takes_code)) st) (bind (make_all_own call m u.name (length formals) (made_variables r)) (λ a. bind (exec call m u.name (stmt_of r.block)) (λ b. gives))) ends.place (λ rs. ResultsOnTop results below rs) 63 (λ rs. 1 + credit_of rs)) (sym is_below)
          (fragment_bind {middle = p.instructions.before + (x.entry.entry + length (own_code r))} {e = λ a. 63 + more} (λ a. steady_bind (steady_exec call steady_call m u.name (stmt_of r.block)) (λ b. steady_gives))
          (fragment_to (ap (λ k. p.instructions.before + k) size) (makes_all r.result its.result (x.entry.entry + length takes_code) variable_is parts.1 longer after below at_home))
          (λ a last final above still. (still.runs, blocks last final above (unit_in-still G still.runs ∙ at_home) still.operands_are)))

      -- the machine follows the routine, in any activation of it
      follows : Fragment layout G Here m (point injection begun image_routine.entry below) (body xs) ends.place (λ rs. ResultsOnTop results below rs) 63 (λ rs. 1 + credit_of rs)
      follows =
          let parts = code_stands-parts G ps p o.references x.entry.entry takes_code makes_code x.makes_stand in
          fragment_from entry
          (fragment_bind {middle = p.instructions.before + (x.entry.entry + length takes_code)} {e = λ a. 63} (λ a. steady_bind (steady_make_all_own call steady_call m u.name (length formals) (made_variables r)) (λ b. steady_bind (steady_exec call steady_call m u.name (stmt_of r.block)) (λ c. steady_gives)))
          (takes_all_moves within layout G untouched injection begun lasts ps p o.references call steady_call m u.name scene.own_types_valid (refl, refl) among_same kept_inside referred (swap_referred within u o is refl) (arrays_referred within u o is refl) m line_of 0 x.entry.entry formals passings.0 xs passings.1 formal_is parts.0 injection begun below 63 (omega arith) home awaited)
          (λ a longer after pushed still. (still.runs, makes longer after pushed (unit_in-still G still.runs ∙ home) still.operands_are)))

    -- what a call of it does
    found : routine_in us u.name number ≡ Some r
    found = among.routines number ∙ there

    -- the routines around it are the levels in its block but the first
    around_is : (declared_of given u).around u.name number ≡ levels_of u.routines r.around
    around_is = ap (λ b. if b then around_in u.routines (slice_get u.routines number) else []) (name_same u.name u.name refl) ∙ ap (around_in u.routines) there

    -- a call of it
    abbrev callee : ℕ → Callee
    callee levels = record { unit = u.name; number = number; levels = levels }

    go : (place levels line : ℕ) → CallsAt G place (moved p.routines number) levels line
        → (injection : Injection) (began : meaning.State) (memory : MachineMemory)
        → IsCallable u.types levels ((declared_of given u).around u.name number) injection began.calls memory
        → (below operands : List Operand) (arguments : List Argument)
        → AreArguments injection memory passings.0 arguments below operands
        → Fragment layout G (Since (kept_slots layout G) injection began memory) (suc m) (point injection memory place operands) ((handler_of us (suc m)).routine (unit_in G memory.frames) line (callee levels) arguments) (place + 1) (λ rs. Inside (kept_slots layout G) injection memory (ResultsOnTop results below rs)) 0 credit_of
    go place levels line calls injection began memory callable below operands xs are =
        let hands : Handed injection memory passings.0 xs below operands = handed injection memory passings.0 xs below operands are in
        let does : Option UnitRoutine → Type 0 = λ y. Fragment layout G (Since (kept_slots layout G) injection began memory) (suc m) (point injection memory place (hands.top ++ below)) (routine_does call m (unit_in G memory.frames) line (callee levels) y xs) (place + 1) (λ rs. Inside (kept_slots layout G) injection memory (ResultsOnTop results below rs)) 0 credit_of in
        let counts = counted place (frame.Unit 0) injection memory below operands xs hands in
        let parent = parent_of_call layout G (moved p.routines number) image_routine exists numbered hands.top counts (weights_of xs) hands.weigh u.types levels ((declared_of given u).around u.name number) injection began.calls memory callable in
        let keeps : does (Some r) =
        routine_keeps layout G (moved p.routines number) image_routine exists numbered hands.top counts (weights_of xs) hands.weigh ends.place ends.instruction ends.stands_there ends.returns ends.first_field ends.second_field within enough_slots ((declared_of given u).around u.name number) (λ k. ap (λ ls. slice_get ls k) (sym around_is)) m place levels line calls parent.0 injection began memory below parent.1 callable r.name (unit_in G memory.frames) results (body xs) (steady_runs_routine call steady_call m u.name r xs) (kept_slots layout G)
        (follows place parent.0 injection memory below operands xs hands) in
        let meant : does (routine_in us u.name number) = subst does (sym found) keeps in
        subst (λ st. Fragment layout G (Since (kept_slots layout G) injection began memory) (suc m) (point injection memory place st) ((handler_of us (suc m)).routine (unit_in G memory.frames) line (callee levels) xs) (place + 1) (λ rs. Inside (kept_slots layout G) injection memory (ResultsOnTop results below rs)) 0 credit_of) (sym hands.is) meant

    -- with one step more than the routines keep theirs
    keeps_own : RoutineKeeps layout G ps (handler_of us (suc m)) (suc m) u.types ((declared_of given u).around u.name number) u.name number (heading_of r)
    keeps_own =
        record {
          routine = moved p.routines number;
          formals = passings.0;
          passed = passings.1;
          results = results;
          given = (kinds_of r.result its.result).1;
          placed = call_placed u o is G ps p stands number;
          promise = record { by = λ place levels line calls injection began memory callable below operands arguments are. go place levels line calls injection began memory callable below operands arguments are };
        }

  -- with no step there is nothing to keep
  keeps_none : (layout : Layout) (number : ℕ) (r : UnitRoutine) → slice_get u.routines number ≡ Some r
      → RoutineKeeps layout G ps (handler_of us 0) 0 u.types ((declared_of given u).around u.name number) u.name number (heading_of r)
  keeps_none layout number r there =
      let formals : List Formal = r.formals in
      let its : IsRoutine given u number r = valid.routines number r there in
      let passings = passings_of formals (λ k f e. subst (λ w. IsFormal u.types w) (get_or_from_slice_get formals k f f e) (its.formals k f (slice_get_within formals k f e))) in
      record {
        routine = moved p.routines number;
        formals = passings.0;
        passed = passings.1;
        results = (kinds_of r.result its.result).0;
        given = (kinds_of r.result its.result).1;
        placed = call_placed u o is G ps p stands number;
        promise = record { by = λ place levels line calls injection began memory callable below operands arguments are. fragment_cut };
      }

  -- what the routines of other units keep with so many steps
  abbrev pub OthersKeep : Layout → ℕ → Type 0
  OthersKeep layout n = OthersAreKept (declared_of given u) layout G ps (handler_of us n) n

  -- Where they do with up to so many, the routines keep their promises with as many.
  pub routines_kept : (layout : Layout) → AreLaidOut (declared_of given u) layout → (n : ℕ) → ((m : ℕ) → m ≤ n → OthersKeep layout m) → CallsAreKept (declared_of given u) layout G ps (handler_of us n) n
  routines_kept layout laid zero others =
      record {
        routines = λ number r h.
            let one = own_routine given u number r h in
            subst (λ x. RoutineKeeps layout G ps (handler_of us 0) 0 u.types ((declared_of given u).around u.name number) u.name number x) one.heading (keeps_none layout number one.routine one.there);
        others = others 0 (omega arith);
        types = λ index t typed. types_none u o is G ps p stands us layout index t;
        swaps = λ some. swap_there u o is G ps p stands;
        of_arrays = λ some. arrays_there u o is G ps p stands;
      }
  routines_kept layout laid (suc m) others =
      let below = routines_kept layout laid m (λ k le. others k (omega (arith, le))) in
      record {
        routines = λ number r h.
            let one = own_routine given u number r h in
            subst (λ x. RoutineKeeps layout G ps (handler_of us (suc m)) (suc m) u.types ((declared_of given u).around u.name number) u.name number x) one.heading (keeps_own layout laid m below number one.routine one.there);
        others = others (suc m) (omega arith);
        types = types_keep u o is G ps p stands given us among layout m below;
        swaps = λ some. swap_there u o is G ps p stands;
        of_arrays = λ some. arrays_there u o is G ps p stands;
      }

  -- Where they do with fewer steps, a routine of the unit keeps its promise with so many: a call of it spends one.
  pub routine_kept_behind : (layout : Layout) → AreLaidOut (declared_of given u) layout → (n : ℕ) → ((m : ℕ) → m < n → OthersKeep layout m) → (number : ℕ) (r : UnitRoutine) → slice_get u.routines number ≡ Some r
      → RoutineKeeps layout G ps (handler_of us n) n u.types ((declared_of given u).around u.name number) u.name number (heading_of r)
  routine_kept_behind layout laid zero others number r there = keeps_none layout number r there
  routine_kept_behind layout laid (suc m) others number r there = keeps_own layout laid m (routines_kept layout laid m (λ k le. others k (omega (arith, le)))) number r there
