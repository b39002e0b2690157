-- The machine follows how a routine takes its arguments and makes its variables, in its activation.
use Rattle.std.proofs.Common.{◌≡◌, ℕ, pos, suc, ◌+◌, ◌-◌, ◌*◌, ◌≤◌, List, [], ◌∷◌, ◌++◌, length, length-append, Option, Some, slice_get, refl, sym, ap, ◌∙◌, subst, arith}
use Rattle.std.proofs.lemmas.Option.{same_Some}
use Rattle.ep_gen_code.specs.Credit.{least_credit}
use Rattle.ep_gen_code.specs.Instructions.{instr, bare}
use Rattle.ep_gen_code.proofs.public.Placed.{instr_at}
use Rattle.ep_gen_expr.proofs.public.PlaceTypes.{has_bare_type}
use Rattle.ep_gen_unit.specs.StmtCode.{make_code, make_all_code, value_code, place_taken, take_code, take_all_code}
use Rattle.ep_gen_type.specs.TypeCode.{type_code}
use Rattle.ep_gen_code.specs.Referring.{AreReferred, AreArraysReferred, IsSwapReferred}
use Rattle.ep_gen_type.proofs.public.Elaborating.{elaborates}
use Rattle.ep_gen_unit.proofs.Sized.{fragment_sized}
use Rattle.ep_gen_unit.proofs.Parts.{code_stands-parts}
use Rattle.ep_simulation.proofs.public.following.Kept.{IsHome}
use Rattle.ep_simulation.specs.Activations.{InActivation}
use Rattle.ep_simulation.specs.Follows.{point, Fragment, Lasts, StillRuns, Inside, TypeOnTop}
use Rattle.ep_simulation.specs.Layouts.{Layout}
use Rattle.ep_simulation.specs.Matching.{AreAmong, Slots, MachineMemory, Injection, IsSpot, Describes, IsLike, HasOwnType, kept_slots}
use Rattle.ep_object.specs.Calls.{argument_at}
use Rattle.ep_object.specs.Operands.{Operand, Word}
use Rattle.ep_object.specs.Operands as operand
use Rattle.ep_simulation.specs.Promises.{CallsAreKept, Passing, ByValue, ByReference, IsPassed, ArePassed, IsArgument, IsValueOf}
use Rattle.ep_object.specs.Runs.{unit_in}
use Rattle.ep_object.specs.State.{Frame}
use Rattle.ep_object.specs.declared.code.Instr.{Instr}
use Rattle.ep_object.specs.declared.state.Place.{Place as PlaceOf}
use Rattle.ep_object.specs.Placing.{Placement, CodeStands}
use Rattle.ep_simulation.specs.Scene.{HaveValidOwnTypes}
use Rattle.ep_object.specs.declared.code.Image.{Image}
use Rattle.ep_object.specs.declared.code.Reference.{Reference}
use Rattle.ep_simulation.proofs.public.following.Fragments.{fragment_bind, fragment_credit, fragment_weaken, fragment_post, fragment_give, fragment_from, fragment_to, fragment_less}
use Rattle.ep_simulation.proofs.public.matching.MoreMemory.{same_routine-refl, still_routine, still_runs-trans, unit_in-still}
use Rattle.ep_simulation.specs.Starts.{AreStarts}
use Rattle.ep_simulation.proofs.public.matching.Awaiting.{arguments_in, AreAwaited, awaited-grown, awaited-taken, value-grown, without_argument}
use Rattle.ep_simulation.proofs.public.rows.ArgumentRows.{Taken, taken-later, same_arguments, value_taken, variable_taken}
use Rattle.ep_simulation.proofs.public.rows.OwnRows.{StillBare, MadeOwn, in_frame, make_own_does}
use Rattle.ep_meaning.specs.Steady.{IsSteadyHandler}
use Rattle.ep_meaning.specs.Calls.{Argument, Value, Handler}
use Rattle.ep_meaning.specs.Calls as argument_is
use Rattle.ep_meaning.proofs.public.Bares.{bare_size}
use Rattle.ep_typed.specs.Denoters.{bare_type_of, type_of}
use Rattle.ep_values.specs.Printing.{Result}
use Rattle.ep_meaning.specs.Results.{weight_of}
use Rattle.ep_meaning.proofs.public.ValueKinds.{typed_of_kind}
use Rattle.ep_typed.specs.declared.interface.Formal.{Formal}
use Rattle.ep_typed.specs.declared.interface.FormalMode.{FormalMode}
use Rattle.ep_typed.specs.declared.interface.FormalMode.TheVariants as mode
use Rattle.ep_typed.proofs.public.Denoters.{types_are_instances}
use Rattle.ep_meaning.proofs.public.Bares.{value_bare}
use Rattle.ep_meaning.proofs.public.Typed.{typed_bare, typed_value}
use Rattle.ep_meaning.proofs.public.Steady.{grows_made_own, steady_bind, steady_allocate_own, steady_make_all_own, steady_initialized, steady_takes_all}
use Rattle.ep_meaning.specs.Meaning.{elaborate, make_own, make_all_own, initialized, takes_by, takes_all}
use Rattle.ep_meaning.specs.Steps.{Component, Computation, bind, spend, change, with_own_bound, counted, made_own, allocate_own}
use Rattle.ep_values.specs.TypeValues.{size_of}
use Rattle.ep_meaning.specs.Valid.{variables_up, Declarations, IsOfKind, IsTypeOfKind, ValueKind, IsTypeValue, IsDenoter}
use Rattle.ep_typed.specs.Routines.{formal_variable}
use Rattle.ep_meaning.specs.Valid as kind
use Rattle.ep_typed.specs.Viewed.{denoter_of}
use Rattle.ep_values.specs.TypeValues.{TypeValue, bare_of}
use Rattle.ep_typed.specs.declared.unit.UnitVariable.{UnitVariable}
use Rattle.ep_object.specs.declared.op.TheConstants as op

-- From a place of the object to another one, the machine follows the computation in the activation of a routine of the unit,
-- and leaves the operands as they were.
abbrev pub MovesOwn : Declarations → Layout → Image → Slots → Injection → MachineMemory → Placement → ℕ → List ℕ → ℕ → ℕ → Computation (Unit {0}) → Type 0
MovesOwn declared layout G untouched first start p n unit at to c =
    (injection : Injection) (memory : MachineMemory) (below : List Operand) (d : ℕ) → least_credit ≤ d → unit_in G memory.frames ≡ unit
    → Fragment layout G (InActivation declared untouched first start) n (point injection memory (p.instructions.before + at) below) c (p.instructions.before + to) (λ a. StillBare memory below) d (λ a. d)

-- a value has at most as much weight as a variable of its type has words
value_fits : (injection : Injection) (memory : MachineMemory) (k : ValueKind) (t : TypeValue) (r : Result) (o : Operand) → IsTypeOfKind k (bare_of t) → IsValueOf injection memory k r o → weight_of r ≤ size_of t
value_fits injection memory (kind.Ordinal h) t r o of_kind (z, r_is, of_host, o_is) = let none : weight_of r ≡ 0 = ap weight_of r_is in omega (arith, none)
value_fits injection memory kind.Bytes t r o of_kind v = absurd of_kind
value_fits injection memory (kind.Set h) t r o of_kind (ms, r_is, is_set, o_is) = let none : weight_of r ≡ 0 = ap weight_of r_is in omega (arith, none)
value_fits injection memory (kind.Structured u) t r o of_kind v = let same : weight_of r ≡ size_of t = ap weight_of v.is_structure ∙ (ap size_of of_kind.0 ∙ bare_size t) in omega (arith, same)

credit_fits : (t : TypeValue) (w d : ℕ) → w ≤ size_of t → d + 3 + 2 * w ≤ d + 3 + 3 * size_of t
credit_fits t w d le = omega (arith, le)

credit_left : (t : TypeValue) (w d : ℕ) → w ≤ size_of t → d + 3 + 2 * w + d ≤ d + 3 + 3 * size_of t + (d + 3 + 2 * w - (3 + 2 * w))
credit_left t w d le = omega (arith, le)

-- what is so after a later memory is so after an earlier one
still_later : {before memory : MachineMemory} {below : List Operand} → StillRuns before.frames memory.frames → (longer : Injection) (after : MachineMemory) (operands : List Operand)
    → StillBare memory below longer after operands → StillBare before below longer after operands
still_later runs longer after operands h = record { runs = still_runs-trans runs h.runs; operands_are = h.operands_are }

module _ (declared : Declarations) (layout : Layout) (G : Image) (untouched : Slots) (first : Injection) (start : MachineMemory) (lasts : Lasts untouched (InActivation declared untouched first start)) (ps : List Placement) (p : Placement) (references : List Reference) (call : Handler) (steady_call : IsSteadyHandler call) (n : ℕ) (unit : List ℕ) (own_valid : HaveValidOwnTypes declared)
    (at_home : IsHome declared unit declared.types) (among : AreAmong untouched (kept_slots layout G)) (kept : CallsAreKept declared layout G ps call n) (referred : AreReferred declared unit declared.types references) (swap_referred : IsSwapReferred declared unit references) (arrays_referred : AreArraysReferred declared unit references) where
  module _ (number line at : ℕ) (v : UnitVariable) (is_declared : slice_get (variables_up declared 0) number ≡ Some v) where
    -- `Make`, over the number of the type
    make_row_moves : (t : TypeValue) (type_number : ℕ) → IsTypeValue t → AreStarts t
        → ((w : UnitVariable) → slice_get (variables_up declared 0) number ≡ Some w → HasOwnType declared w (bare_of t))
        → (place : ℕ) → slice_get G.instructions place ≡ Some (instr op.MAKE (pos number) 0 line)
        → (injection : Injection) (memory : MachineMemory) (below : List Operand) (d left : ℕ) → 1 ≤ d → suc left ≤ d + 63 * size_of t
        → Describes memory.types type_number t
        → Fragment layout G (InActivation declared untouched first start) n (point injection memory place (Word (pos type_number) ∷ below)) (allocate_own number t) (place + 1) (λ a. MadeOwn untouched number t injection memory below) d (λ a. left)
    make_row_moves t type_number valid starts declared_so place has injection memory below d left enough gains described =
        fragment_sized (counted t) (made_own number t) (λ s. refl) (grows_made_own number t) enough (size_of t) gains (λ s matches here. make_own_does declared layout G place line below t type_number number v has valid starts is_declared declared_so injection memory s described matches here)

  -- A variable is made in its slot. Each of its words leaves a credit.
  pub sized_moves : (g number at : ℕ) (v : UnitVariable) (is_declared : slice_get (variables_up declared 0) number ≡ Some v)
      → CodeStands G ps p references at (make_code number v)
      → (injection : Injection) (memory : MachineMemory) (below : List Operand) (d : ℕ) → least_credit ≤ d → unit_in G memory.frames ≡ unit
      → Fragment layout G (InActivation declared untouched first start) n (point injection memory (p.instructions.before + at) below) (make_own call g unit number v) (p.instructions.before + (at + length (make_code number v))) (λ a. StillBare memory below) d (λ a. d + 3 * size_of (own_valid 0 number v is_declared).type_value)
  sized_moves g number at v is_declared stands injection memory below d enough home =
      let types = declared.types in
      let valid : IsDenoter types (denoter_of v.denoter) = own_valid 0 number v is_declared in
      let t : TypeValue = valid.type_value in
      let code : List Instr = type_code v.line (denoter_of v.denoter) in
      let parts = code_stands-parts G ps p references at code (instr op.MAKE (pos number) 0 v.line ∷ []) stands in
      let ends : p.instructions.before + (at + length code) + 1 ≡ p.instructions.before + (at + length (code ++ instr op.MAKE (pos number) 0 v.line ∷ [])) = omega (arith, length-append code (instr op.MAKE (pos number) 0 v.line ∷ [])) in
      let own : bare_of t ≡ t = typed_bare types (denoter_of v.denoter) t valid.typed in
      let has_type : (a : TypeValue) → bare_of a ≡ t → (w : UnitVariable) → slice_get (variables_up declared 0) number ≡ Some w → HasOwnType declared w (bare_of a) =
      λ a is w e. subst (λ (u : UnitVariable). HasOwnType declared u (bare_of a)) (same_Some v w (sym is_declared ∙ e)) (t, types_are_instances types (denoter_of v.denoter) t valid.has_type, own ∙ sym is) in
      fragment_bind {P = λ a. Inside untouched injection memory (TypeOnTop t below a)} {e = λ a. d + 4} (λ a. steady_allocate_own number a)
      (elaborates declared layout G untouched (InActivation declared untouched first start) lasts ps p references call steady_call n g unit v.line types at_home among kept referred swap_referred arrays_referred at (denoter_of v.denoter) t valid.typed parts.0 injection memory below d enough home)
      (λ a longer after pushed inside.
      let top = inside.operands_are in
      let size : size_of a ≡ size_of t = sym (bare_size a) ∙ ap size_of top.type_is in
      let is_type : IsTypeValue a = value_bare a (subst IsTypeValue (sym top.type_is) (typed_value types (denoter_of v.denoter) t valid.typed)) in
      let runs : StillRuns memory.frames after.frames = still_routine inside.routine in (
        runs,
        subst (λ o. Fragment layout G (InActivation declared untouched first start) n (point longer after (p.instructions.before + (at + length code)) o) (allocate_own number a) (p.instructions.before + (at + length (code ++ instr op.MAKE (pos number) 0 v.line ∷ []))) (λ b. StillBare memory below) (d + 4) (λ b. d + 3 * size_of t)) (sym top.is)
            (fragment_to ends (fragment_weaken {d = d + 4} {e = λ b. d + 3 * size_of a} (omega arith) (λ b. omega (arith, size)) (λ b last final operands made. record { runs = still_runs-trans runs made.runs; operands_are = made.operands_are })
            (make_row_moves number v.line at v is_declared a top.number is_type top.starts (has_type a top.type_is) (p.instructions.before + (at + length code)) parts.1.0 longer after below (d + 4) (d + 3 * size_of a) (omega arith) (omega arith) top.described))),
      ))

  one_moves : (g number at : ℕ) (v : UnitVariable) → slice_get (variables_up declared 0) number ≡ Some v
      → CodeStands G ps p references at (make_code number v)
      → MovesOwn declared layout G untouched first start p n unit at (at + length (make_code number v)) (make_own call g unit number v)
  one_moves g number at v is_declared stands injection memory below d enough home =
      fragment_credit {d = d} {e = λ a. d + 3 * size_of (own_valid 0 number v is_declared).type_value} (omega arith) (λ a. omega arith) (sized_moves g number at v is_declared stands injection memory below d enough home)

  -- and so are the variables from this number on
  pub make_all_own_moves : (g number at : ℕ) (vs : List UnitVariable) → ((i : ℕ) (v : UnitVariable) → slice_get vs i ≡ Some v → slice_get (variables_up declared 0) (number + i) ≡ Some v)
      → CodeStands G ps p references at (make_all_code number vs)
      → MovesOwn declared layout G untouched first start p n unit at (at + length (make_all_code number vs)) (make_all_own call g unit number vs)
  make_all_own_moves g number at [] are_declared stands injection memory below d enough home =
      fragment_to (omega arith) (fragment_give (omega arith) (record { runs = still_routine (same_routine-refl {untouched = untouched} memory.frames); operands_are = refl }))
  make_all_own_moves g number at (v ∷ vs) are_declared stands injection memory below d enough home =
      let types = declared.types in
      let parts = code_stands-parts G ps p references at (make_code number v) (make_all_code (suc number) vs) stands in
      let ends : at + length (make_code number v) + length (make_all_code (suc number) vs) ≡ at + length (make_code number v ++ make_all_code (suc number) vs) = omega (arith, length-append (make_code number v) (make_all_code (suc number) vs)) in
      let this : slice_get (variables_up declared 0) number ≡ Some v = subst (λ k. slice_get (variables_up declared 0) k ≡ Some v) (omega arith) (are_declared 0 v refl) in
      fragment_to (ap (λ k. p.instructions.before + k) ends)
      (fragment_bind {e = λ a. d} (λ a. steady_make_all_own call steady_call g unit (suc number) vs) (one_moves g number at v this parts.0 injection memory below d enough home) (λ a longer after pushed still. (
        still.runs,
        subst (λ o. Fragment layout G (InActivation declared untouched first start) n (point longer after (p.instructions.before + (at + length (make_code number v))) o) (make_all_own call g unit (suc number) vs) (p.instructions.before + (at + length (make_code number v) + length (make_all_code (suc number) vs))) (λ b. StillBare memory below) d (λ b. d)) (sym still.operands_are)
            (fragment_post (λ b. still_later still.runs) (make_all_own_moves g (suc number) (at + length (make_code number v)) vs (λ i w e. subst (λ k. slice_get (variables_up declared 0) k ≡ Some w) (omega arith) (are_declared (suc i) w e)) parts.1 longer after below d enough (unit_in-still G still.runs ∙ home))),
      )))

  -- The same, where the first one is of a type whose words leave a credit.
  pub make_sized_moves : (g number at : ℕ) (v : UnitVariable) (vs : List UnitVariable) (t : TypeValue) → type_of declared.types (denoter_of v.denoter) ≡ Some t
      → ((i : ℕ) (w : UnitVariable) → slice_get (v ∷ vs) i ≡ Some w → slice_get (variables_up declared 0) (number + i) ≡ Some w)
      → CodeStands G ps p references at (make_all_code number (v ∷ vs))
      → (injection : Injection) (memory : MachineMemory) (below : List Operand) (d : ℕ) → least_credit ≤ d → unit_in G memory.frames ≡ unit
      → Fragment layout G (InActivation declared untouched first start) n (point injection memory (p.instructions.before + at) below) (make_all_own call g unit number (v ∷ vs)) (p.instructions.before + (at + length (make_all_code number (v ∷ vs)))) (λ a. StillBare memory below) d (λ a. d + 3 * size_of t)
  make_sized_moves g number at v vs t has_type are_declared stands injection memory below d enough home =
      let types = declared.types in
      let parts = code_stands-parts G ps p references at (make_code number v) (make_all_code (suc number) vs) stands in
      let ends : at + length (make_code number v) + length (make_all_code (suc number) vs) ≡ at + length (make_code number v ++ make_all_code (suc number) vs) = omega (arith, length-append (make_code number v) (make_all_code (suc number) vs)) in
      let this : slice_get (variables_up declared 0) number ≡ Some v = subst (λ k. slice_get (variables_up declared 0) k ≡ Some v) (omega arith) (are_declared 0 v refl) in
      let valid : IsDenoter types (denoter_of v.denoter) = own_valid 0 number v this in
      let same : size_of valid.type_value ≡ size_of t = ap size_of (same_Some valid.type_value t (sym valid.has_type ∙ has_type)) in
      fragment_to (ap (λ k. p.instructions.before + k) ends)
      (fragment_bind {e = λ a. d + 3 * size_of t} (λ a. steady_make_all_own call steady_call g unit (suc number) vs)
      (fragment_credit {d = d} {e = λ a. d + 3 * size_of valid.type_value} (omega arith) (λ a. omega (arith, same)) (sized_moves g number at v this parts.0 injection memory below d enough home)) (λ a longer after pushed still. (
        still.runs,
        subst (λ o. Fragment layout G (InActivation declared untouched first start) n (point longer after (p.instructions.before + (at + length (make_code number v))) o) (make_all_own call g unit (suc number) vs) (p.instructions.before + (at + length (make_code number v) + length (make_all_code (suc number) vs))) (λ b. StillBare memory below) (d + 3 * size_of t) (λ b. d + 3 * size_of t)) (sym still.operands_are)
            (fragment_post (λ b. still_later still.runs) (make_all_own_moves g (suc number) (at + length (make_code number v)) vs (λ i w e. subst (λ k. slice_get (variables_up declared 0) k ≡ Some w) (omega arith) (are_declared (suc i) w e)) parts.1 longer after below (d + 3 * size_of t) (omega (arith, enough)) (unit_in-still G still.runs ∙ home))),
      )))

  -- ---- formal parameters

  module _ (g line number at : ℕ) (f : Formal) (is_declared : slice_get (variables_up declared 0) number ≡ Some (formal_variable line f)) where
    its : IsDenoter declared.types (denoter_of f.denoter)
    its = own_valid 0 number (formal_variable line f) is_declared

    -- what is given of its type but for initial states
    has_its_type : (a : TypeValue) → bare_of a ≡ its.type_value → (w : UnitVariable) → slice_get (variables_up declared 0) number ≡ Some w → HasOwnType declared w (bare_of a)
    has_its_type a is w e =
        subst (λ (u : UnitVariable). HasOwnType declared u (bare_of a)) (same_Some (formal_variable line f) w (sym is_declared ∙ e))
        (its.type_value, types_are_instances declared.types (denoter_of f.denoter) its.type_value its.has_type, typed_bare declared.types (denoter_of f.denoter) its.type_value its.typed ∙ sym is)

    -- a value formal takes a value of its kind
    value_moves : (kind : ValueKind) (r : Result) (o : Operand) → IsOfKind kind declared.types (denoter_of f.denoter)
        → CodeStands G ps p references at (value_code line number f)
        → (injection : Injection) (memory : MachineMemory) (below : List Operand) (d : ℕ) → least_credit ≤ d → unit_in G memory.frames ≡ unit
        → argument_at (arguments_in memory.frames.calls) number ≡ Some o → suc number ≤ length (arguments_in memory.frames.calls) → IsValueOf injection memory kind r o
        → Fragment layout G (InActivation declared untouched first start) n (point injection memory (p.instructions.before + at) below) (bind (elaborate call g unit line (denoter_of f.denoter)) (λ a. bind (allocate_own number a) (λ _. initialized unit line a r))) (p.instructions.before + (at + length (value_code line number f))) (λ a. Taken untouched injection memory (without_argument number (arguments_in memory.frames.calls)) below) d (λ a. d)
    value_moves kind r o is_kind stands injection memory below d enough home there within value =
        let types = declared.types in
        let t : TypeValue = its.type_value in
        let own : bare_of t ≡ t = typed_bare types (denoter_of f.denoter) t its.typed in
        let of_its_kind : IsTypeOfKind kind t = subst (IsTypeOfKind kind) own (typed_of_kind types (denoter_of f.denoter) t kind its.typed is_kind) in
        let code : List Instr = type_code line (denoter_of f.denoter) in
        let k : ℕ = at + length code in
        let rest : List Instr = instr op.MAKE (pos number) 0 line ∷ instr op.SLOT (pos number) 0 line ∷ instr op.ARG (pos number) 0 line ∷ bare line op.STORE ∷ [] in
        let ends : p.instructions.before + (k + 4) ≡ p.instructions.before + (at + length (code ++ rest)) = omega (arith, length-append code rest) in
        let inside_args : List (Option Operand) = arguments_in memory.frames.calls in
        let parts = code_stands-parts G ps p references at code rest stands in
        fragment_to ends
        (fragment_bind {middle = p.instructions.before + k} {P = λ a. Inside untouched injection memory (TypeOnTop t below a)} {e = λ a. d + 4} (λ a. steady_bind (steady_allocate_own number a) (λ u. steady_initialized unit line a r))
        (elaborates declared layout G untouched (InActivation declared untouched first start) lasts ps p references call steady_call n g unit line types at_home among kept referred swap_referred arrays_referred at (denoter_of f.denoter) t its.typed parts.0 injection memory below d enough home)
        (λ a longer after pushed inside.
        let top = inside.operands_are in
        let runs : StillRuns memory.frames after.frames = still_routine inside.routine in
        let of_kind : IsTypeOfKind kind (bare_of a) = subst (IsTypeOfKind kind) (sym top.type_is) of_its_kind in
        let valid : IsTypeValue a = value_bare a (subst IsTypeValue (sym top.type_is) (typed_value types (denoter_of f.denoter) t its.typed)) in
        let weighs : weight_of r ≤ size_of a = value_fits injection memory kind a r o of_kind value in
        let routine = inside.routine in
        let same : arguments_in after.frames.calls ≡ inside_args = same_arguments memory.frames.calls after.frames.calls routine.calls in (
          runs,
          (subst (λ o. Fragment layout G (InActivation declared untouched first start) n (point longer after (p.instructions.before + k) o) (bind (allocate_own number a) (λ _. initialized unit line a r)) (p.instructions.before + (k + 4)) (λ b. Taken untouched injection memory (without_argument number inside_args) below) (d + 4) (λ b. d)) (sym top.is)
              (fragment_post (λ b. taken-later inside.grown runs) (fragment_bind {P = λ u. MadeOwn untouched number a longer after below} {e = λ u. d + 3 + 3 * size_of a} (λ u. steady_initialized unit line a r)
              (make_row_moves number line at (formal_variable line f) is_declared a top.number valid top.starts (has_its_type a top.type_is) (p.instructions.before + k) parts.1.0 longer after below (d + 4) (d + 3 + 3 * size_of a) (omega arith) (omega arith) top.described)
              (λ u last final above made.
              let x = in_frame final number (Some made.place) made.slot in
              let args : (x.frame).arguments ≡ inside_args = sym (ap arguments_in x.frames) ∙ (made.left_are ∙ same) in (
                made.runs,
                subst (λ o. Fragment layout G (InActivation declared untouched first start) n (point last final (p.instructions.before + k + 1) o) (initialized unit line a r) (p.instructions.before + (k + 4)) (λ b. Taken untouched longer after (without_argument number inside_args) below) (d + 3 + 3 * size_of a) (λ b. d)) (sym made.operands_are)
                    (fragment_post (λ b. taken-later made.grown made.runs) (subst (λ l. Fragment layout G (InActivation declared untouched first start) n (point last final (p.instructions.before + k + 1) below) (initialized unit line a r) (p.instructions.before + (k + 4)) (λ b. Taken untouched last final (without_argument number l) below) (d + 3 + 3 * size_of a) (λ b. d)) args
                    (fragment_credit {d = d + 3 + 2 * weight_of r} {e = λ b. d + 3 + 2 * weight_of r - (3 + 2 * weight_of r)} (credit_fits a (weight_of r) d weighs) (λ b. credit_left a (weight_of r) d weighs) (fragment_from {place = p.instructions.before + (k + 1) + 1 - 1} (omega arith) (fragment_to {to = p.instructions.before + (k + 1) + 1 + 1 + 1} (omega arith)
                    (value_taken declared layout G untouched first start lasts (p.instructions.before + (k + 1) + 1) line number unit below last final x.frame x.below x.frames (unit_in-still G made.runs ∙ (unit_in-still G runs ∙ home)) (omega (arith, within, ap length args)) n (d + 3 + 2 * weight_of r) kind a r o made.number made.place of_kind
                    (instr_at G {other = p.instructions.before + (k + 1)} (omega arith) parts.1.1.0) (omega arith) (instr_at G {other = p.instructions.before + (k + 1 + 1)} (omega arith) parts.1.1.1.0) (instr_at G {other = p.instructions.before + (k + 1 + 1 + 1)} (omega arith) parts.1.1.1.1.0)
                    (ap (λ l. argument_at l number) args ∙ there) (value-grown kind r o made.grown (value-grown kind r o inside.grown value)) made.slot made.spot made.stands made.described (omega arith))))))),
              ))))),
        )))

    -- a variable formal takes a variable
    reference_moves : CodeStands G ps p references at (place_taken line number)
        → (m : Component) (t : TypeValue) (q : PlaceOf) → bare_type_of declared.types (denoter_of f.denoter) ≡ Some t
        → (injection : Injection) (memory : MachineMemory) (below : List Operand) (d : ℕ) → least_credit ≤ d → unit_in G memory.frames ≡ unit
        → argument_at (arguments_in memory.frames.calls) number ≡ Some (operand.Place q) → suc number ≤ length (arguments_in memory.frames.calls)
        → IsSpot injection memory.types m q → IsLike memory.types q.type_number t
        → Fragment layout G (InActivation declared untouched first start) n (point injection memory (p.instructions.before + at) below) (spend 1 (change (with_own_bound number m))) (p.instructions.before + (at + 2)) (λ a. Taken untouched injection memory (without_argument number (arguments_in memory.frames.calls)) below) d (λ a. d)
    reference_moves stands m t q has_type injection memory below d enough home there within spot described =
        by_calls memory.frames.calls refl there within
      where
        typed : (w : UnitVariable) → slice_get (variables_up declared 0) number ≡ Some w → HasOwnType declared w t
        typed w e = subst (λ (u : UnitVariable). HasOwnType declared u t) (same_Some (formal_variable line f) w (sym is_declared ∙ e)) (has_bare_type declared.types (formal_variable line f) t has_type)

        by_calls : (calls : List Frame) → memory.frames.calls ≡ calls → argument_at (arguments_in calls) number ≡ Some (operand.Place q) → suc number ≤ length (arguments_in calls)
            → Fragment layout G (InActivation declared untouched first start) n (point injection memory (p.instructions.before + at) below) (spend 1 (change (with_own_bound number m))) (p.instructions.before + (at + 2)) (λ a. Taken untouched injection memory (without_argument number (arguments_in memory.frames.calls)) below) d (λ a. d)
        by_calls [] e there within = absurd (omega (arith, within))
        by_calls (c ∷ calls) e there within =
            subst (λ l. Fragment layout G (InActivation declared untouched first start) n (point injection memory (p.instructions.before + at) below) (spend 1 (change (with_own_bound number m))) (p.instructions.before + (at + 2)) (λ a. Taken untouched injection memory (without_argument number l) below) d (λ a. d)) (sym (ap arguments_in e))
            (fragment_less {n = suc n} (omega arith) (fragment_to {to = p.instructions.before + at + 1 + 1} (omega arith)
            (variable_taken declared layout G untouched first start lasts (p.instructions.before + at) line number unit below injection memory c calls e home within n m d q t (formal_variable line f) stands.0 (instr_at G {other = p.instructions.before + (at + 1)} (omega arith) stands.1.0) there spot described is_declared typed (omega (arith, enough)))))

    -- a formal parameter takes its argument
    take_moves : (w : FormalMode) (q : Passing) (x : Argument) → IsPassed declared.types w f q
        → CodeStands G ps p references at (take_code line number w f)
        → (o : Operand) (injection : Injection) (memory : MachineMemory) (below : List Operand) (d : ℕ) → least_credit ≤ d → unit_in G memory.frames ≡ unit
        → argument_at (arguments_in memory.frames.calls) number ≡ Some o → suc number ≤ length (arguments_in memory.frames.calls) → IsArgument injection memory q x o
        → Fragment layout G (InActivation declared untouched first start) n (point injection memory (p.instructions.before + at) below) (takes_by call g unit w line number f x) (p.instructions.before + (at + length (take_code line number w f))) (λ a. Taken untouched injection memory (without_argument number (arguments_in memory.frames.calls)) below) d (λ a. d)
    take_moves mode.Value (ByValue k) (Value r) is_kind stands o injection memory below d enough home there within is =
        value_moves k r o is_kind stands injection memory below d enough home there within is
    take_moves mode.Value (ByValue k) (argument_is.Variable m) passed stands o injection memory below d enough home there within is = absurd is
    take_moves mode.Value (ByReference t) x passed stands o injection memory below d enough home there within is = absurd passed
    take_moves mode.ProtectedValue (ByValue k) (Value r) is_kind stands o injection memory below d enough home there within is =
        value_moves k r o is_kind stands injection memory below d enough home there within is
    take_moves mode.ProtectedValue (ByValue k) (argument_is.Variable m) passed stands o injection memory below d enough home there within is = absurd is
    take_moves mode.ProtectedValue (ByReference t) x passed stands o injection memory below d enough home there within is = absurd passed
    take_moves mode.Variable (ByValue k) x passed stands o injection memory below d enough home there within is = absurd passed
    take_moves mode.Variable (ByReference t) (Value r) passed stands o injection memory below d enough home there within is = absurd is
    take_moves mode.Variable (ByReference t) (argument_is.Variable m) passed stands o injection memory below d enough home there within (q, q_is, spot, described) =
        reference_moves stands m t q passed injection memory below d enough home (there ∙ ap Some q_is) within spot described
    take_moves mode.ProtectedVariable (ByValue k) x passed stands o injection memory below d enough home there within is = absurd passed
    take_moves mode.ProtectedVariable (ByReference t) (Value r) passed stands o injection memory below d enough home there within is = absurd is
    take_moves mode.ProtectedVariable (ByReference t) (argument_is.Variable m) passed stands o injection memory below d enough home there within (q, q_is, spot, described) =
        reference_moves stands m t q passed injection memory below d enough home (there ∙ ap Some q_is) within spot described

  -- the formal parameters take their arguments, from this number on
  pub takes_all_moves : (g line number at : ℕ) (fs : List Formal) (qs : List Passing) (xs : List Argument) → ArePassed declared.types fs qs
      → ((i : ℕ) (f : Formal) → slice_get fs i ≡ Some f → slice_get (variables_up declared 0) (number + i) ≡ Some (formal_variable line f))
      → CodeStands G ps p references at (take_all_code line number fs)
      → (injection : Injection) (memory : MachineMemory) (below : List Operand) (d : ℕ) → least_credit ≤ d → unit_in G memory.frames ≡ unit
      → AreAwaited injection memory qs xs number (arguments_in memory.frames.calls)
      → Fragment layout G (InActivation declared untouched first start) n (point injection memory (p.instructions.before + at) below) (takes_all call g unit line number fs xs) (p.instructions.before + (at + length (take_all_code line number fs))) (λ a. StillBare memory below) d (λ a. d)
  takes_all_moves g line number at [] [] [] passed are_declared stands injection memory below d enough home awaited =
      fragment_to (omega arith) (fragment_give (omega arith) (record { runs = still_routine (same_routine-refl {untouched = untouched} memory.frames); operands_are = refl }))
  takes_all_moves g line number at [] [] (x ∷ xs) passed are_declared stands injection memory below d enough home awaited = absurd awaited
  takes_all_moves g line number at [] (q ∷ qs) xs passed are_declared stands injection memory below d enough home awaited = absurd passed
  takes_all_moves g line number at (f ∷ fs) [] xs passed are_declared stands injection memory below d enough home awaited = absurd passed
  takes_all_moves g line number at (f ∷ fs) (q ∷ qs) [] passed are_declared stands injection memory below d enough home awaited = absurd awaited
  takes_all_moves g line number at (f ∷ fs) (q ∷ qs) (x ∷ xs) passed are_declared stands injection memory below d enough home (o, there, within, is, rest) =
      let types = declared.types in
      let code : List Instr = take_code line number f.mode f in
      let more : List Instr = take_all_code line (suc number) fs in
      let inside : List (Option Operand) = arguments_in memory.frames.calls in
      let parts = code_stands-parts G ps p references at code more stands in
      let ends : at + length code + length more ≡ at + length (code ++ more) = omega (arith, length-append code more) in
      let this : slice_get (variables_up declared 0) number ≡ Some (formal_variable line f) = subst (λ k. slice_get (variables_up declared 0) k ≡ Some (formal_variable line f)) (omega arith) (are_declared 0 f refl) in
      fragment_to (ap (λ k. p.instructions.before + k) ends)
      (fragment_bind {P = λ a. Taken untouched injection memory (without_argument number inside) below} {e = λ a. d} (λ a. steady_takes_all call steady_call g unit line (suc number) fs xs)
      (take_moves g line number at f this f.mode q x passed.0 parts.0 o injection memory below d enough home there within is)
      (λ a longer after pushed taken. (
        taken.runs,
        subst (λ st. Fragment layout G (InActivation declared untouched first start) n (point longer after (p.instructions.before + (at + length code)) st) (takes_all call g unit line (suc number) fs xs) (p.instructions.before + (at + length code + length more)) (λ b. StillBare memory below) d (λ b. d)) (sym taken.operands_are)
            (fragment_post (λ b. still_later taken.runs) (takes_all_moves g line (suc number) (at + length code) fs qs xs passed.1 (λ i w e. subst (λ k. slice_get (variables_up declared 0) k ≡ Some (formal_variable line w)) (omega arith) (are_declared (suc i) w e)) parts.1 longer after below d enough (unit_in-still G taken.runs ∙ home)
            (subst (λ l. AreAwaited longer after qs xs (suc number) l) (sym taken.left_are) (awaited-grown taken.grown qs xs (suc number) (without_argument number inside) (awaited-taken injection memory number inside within qs xs (suc number) (omega arith) rest))))),
      )))
