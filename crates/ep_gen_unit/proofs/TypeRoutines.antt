-- The routines that elaborate the types of a unit keep their promises, where with a step less all routines keep theirs.
use Rattle.std.proofs.Common.{◌≡◌, ℕ, suc, pos, ◌+◌, ◌≤◌, ◌<◌, List, [], ◌∷◌, ◌++◌, length, length-append, Some, slice_get, refl, sym, ap, ◌∙◌, subst, arith}
use Rattle.std.proofs.lemmas.Option.{slice_get_within}
use Rattle.ep_gen_code.proofs.public.Placed.{instr_at}
use Rattle.ep_gen_code.specs.Instructions.{bare}
use Rattle.ep_gen_type.proofs.public.Elaborating.{elaborates}
use Rattle.ep_gen_type.specs.TypeCode.{type_code}
use Rattle.ep_gen_unit.specs.UnitCode.{IsUnitCode, plain_at}
use Rattle.ep_gen_unit.proofs.Parts.{code_stands-parts}
use Rattle.ep_gen_unit.proofs.Referred.{arrays_referred, swap_referred, types_referred}
use Rattle.ep_gen_unit.proofs.Units.{moved_own, of_object, routine_there}
use Rattle.ep_simulation.specs.Joined.{IsAmong}
use Rattle.ep_simulation.specs.Layouts.{Layout}
use Rattle.ep_simulation.proofs.public.following.Fragments.{fragment_credit, fragment_cut, fragment_from, fragment_post}
use Rattle.ep_simulation.proofs.public.following.Routines.{begun_memory, type_keeps}
use Rattle.ep_simulation.proofs.public.matching.MoreMemory.{among_same}
use Rattle.ep_simulation.proofs.public.matching.OwnVariables.{in_activation-lasts}
use Rattle.ep_simulation.specs.Activations.{InActivation}
use Rattle.ep_simulation.specs.Follows.{Facts, Fragment, Inside, Since, TypeOnTop, point}
use Rattle.ep_simulation.specs.Matching.{Injection, MachineMemory, Slots, kept_slots}
use Rattle.ep_object.specs.Operands.{Operand}
use Rattle.ep_object.specs.Placing.{CodeStands, Placement, Stands, moved, placed_call, placed_routine, placement_of}
use Rattle.ep_simulation.specs.Promises.{CallsAreKept, CallsAt, TypeKeeps, type_credit, type_routine}
use Rattle.ep_object.specs.Routines.{routine_of as routine_there_in}
use Rattle.ep_object.specs.Runs.{unit_in}
use Rattle.ep_object.specs.declared.code.CodeRoutine.{CodeRoutine}
use Rattle.ep_object.specs.declared.code.Image.{Image}
use Rattle.ep_object.specs.declared.code.ImageRoutine.{ImageRoutine}
use Rattle.ep_object.specs.declared.code.Instr.{Instr}
use Rattle.ep_object.specs.declared.code.Object.{Object}
use Rattle.ep_object.specs.declared.op.TheConstants as op
use Rattle.ep_object.specs.declared.state.FrameNumber.TheVariants as frame
use Rattle.ep_meaning.proofs.public.Steady.{steady_elaborate, steady_handler_of}
use Rattle.ep_meaning.specs.Calls.{Handler}
use Rattle.ep_typed.specs.Denoters.{definition_of}
use Rattle.ep_meaning.specs.Meaning.{elaborate, handler_of, line_where, type_does, type_in}
use Rattle.ep_meaning.specs.Steady.{IsSteadyHandler}
use Rattle.ep_meaning.specs.Steps.{Computation}
use Rattle.ep_meaning.specs.Steps as meaning
use Rattle.ep_typed.specs.Trees.{Named}
use Rattle.ep_values.specs.TypeValues.{TypeValue}
use Rattle.ep_meaning.specs.Units.{GivenUnit, declared_of}
use Rattle.ep_meaning.specs.Valid.{IsTyped, named}
use Rattle.ep_typed.specs.Routines.{first_private}
use Rattle.ep_typed.specs.declared.unit.Unit.{Unit as TypedUnit}
use Rattle.ep_typed.specs.declared.unit.UnitType.{UnitType}
use Rattle.ep_meaning.proofs.public.Lists.{get_within}

-- what stands behind a list
pub behind_list : {A : Type 0} (xs ys : List A) (k : ℕ) → slice_get (xs ++ ys) (length xs + k) ≡ slice_get ys k
behind_list [] ys k = ap (slice_get ys) {x = 0 + k} {y = k} (omega arith)
behind_list (x ∷ xs) ys k = ap (slice_get (x ∷ (xs ++ ys))) {x = suc (length xs) + k} {y = suc (length xs + k)} (omega arith) ∙ behind_list xs ys k

module _ (u : TypedUnit) (o : Object) (is : IsUnitCode u o) (G : Image) (ps : List Placement) (p : Placement) (stands : Stands G ps p o) where
  -- a call that names a routine of the unit is placed so
  pub call_placed : (number : ℕ) (i : Instr) → placed_call ps (Some (record { unit = u.name; number = number })) i ≡ record i { a = pos (moved p.routines number) }
  call_placed number i =
      let listed : placement_of ps u.name ≡ Some p = subst (λ n. placement_of ps n ≡ Some p) is.name stands.listed in
      rw listed refl

  -- the number of the routine that elaborates a type
  abbrev number_of : ℕ → ℕ
  number_of index = type_routine (first_private u) index

  -- where the routine that elaborates a type stands in the image
  record Placed (index : ℕ) (t : UnitType) : Type 0 where
    entry : CodeRoutine
    in_object : slice_get o.routines (number_of index) ≡ Some entry
    plain : entry ≡ plain_at entry.entry
    code_stands : CodeStands G ps p o.references entry.entry (type_code (line_where t.line) (definition_of t))
    end_stands : CodeStands G ps p o.references (entry.entry + length (type_code (line_where t.line) (definition_of t))) (bare (line_where t.line) op.RETURN ∷ [])
    room_for : entry.entry + length (type_code (line_where t.line) (definition_of t)) + 1 ≤ p.instructions.own

  placed_at : (index : ℕ) (t : UnitType) → slice_get u.types index ≡ Some t → Placed index t
  placed_at index t there =
      let all = is.types in
      let blocks = is.blocks in
      let object = of_object u o is G ps p stands in
      let x = get_within is.elaborating index (omega (arith, all.count, slice_get_within u.types index t there)) in
      let h = all.each index t x.0 there x.1 in
      let s = h.stands in
      let code : List Instr = type_code (line_where t.line) (definition_of t) in
      let last : List Instr = bare (line_where t.line) op.RETURN ∷ [] in
      let whole : CodeStands G ps p o.references 0 (s.before ++ ((code ++ last) ++ s.after)) = subst (λ k. CodeStands G ps p o.references 0 k) s.is stands.code in
      let first = code_stands-parts G ps p o.references 0 s.before ((code ++ last) ++ s.after) whole in
      let second = code_stands-parts G ps p o.references (0 + length s.before) (code ++ last) s.after first.1 in
      let third = code_stands-parts G ps p o.references (0 + length s.before) code last second.0 in
      let at : 0 + length s.before ≡ x.0.entry = omega (arith, s.from) in
      let behind : slice_get o.routines (length is.entries + suc (suc (suc (suc (suc (suc index)))))) ≡ slice_get is.elaborating index = ap (λ l. slice_get l (length is.entries + suc (suc (suc (suc (suc (suc index))))))) is.routines ∙ behind_list is.entries (plain_at 0 ∷ plain_at _ ∷ is.swapping ∷ is.filling ∷ is.ranging ∷ is.spreading ∷ is.elaborating) (suc (suc (suc (suc (suc (suc index)))))) in
      record {
        entry = x.0;
        in_object = subst (λ k. slice_get o.routines k ≡ Some x.0) {x = length is.entries + suc (suc (suc (suc (suc (suc index)))))} {y = length u.routines + 6 + index} (omega (arith, blocks.count)) (behind ∙ x.1);
        plain = h.plain;
        code_stands = subst (λ k. CodeStands G ps p o.references k code) at third.0;
        end_stands = subst (λ k. CodeStands G ps p o.references (k + length code) last) at third.1;
        room_for = omega (arith, object.instructions, ap length s.is, length-append s.before ((code ++ last) ++ s.after), length-append (code ++ last) s.after, length-append code last, s.from);
      }

  module _ (given : List GivenUnit) (us : List TypedUnit) (among : IsAmong us u) (layout : Layout) (m : ℕ) (kept : CallsAreKept (declared_of given u) layout G ps (handler_of us m) m) (index : ℕ) (t : UnitType) (v : TypeValue) (there : slice_get u.types index ≡ Some t) (typed : IsTyped u.types (definition_of t) v) where
    x : Placed index t
    x = placed_at index t there

    abbrev line_of : ℕ
    line_of = line_where t.line

    abbrev code : List Instr
    code = type_code line_of (definition_of t)

    abbrev call : Handler
    call = handler_of us m

    steady_call : IsSteadyHandler call
    steady_call = steady_handler_of us m

    abbrev image_routine : ImageRoutine
    image_routine = placed_routine p x.entry

    place_among : moved p.routines (number_of index) ≡ p.routines.before + number_of index
    place_among =
        let object = of_object u o is G ps p stands in
        moved_own p.routines (number_of index) (omega (arith, object.routines, slice_get_within o.routines (number_of index) x.entry x.in_object))

    exists : routine_there_in G (moved p.routines (number_of index)) ≡ Some image_routine
    exists = routine_there u o is G ps p stands (number_of index) x.entry x.in_object

    numbered : moved p.routines (number_of index) < length G.routines
    numbered = omega (arith, place_among, slice_get_within G.routines (p.routines.before + number_of index) image_routine (stands.routines (number_of index) x.entry x.in_object))

    takes_none : 0 ≡ image_routine.arguments
    takes_none = sym (ap (λ (c : CodeRoutine). c.arguments) x.plain)

    entry : image_routine.entry ≡ p.instructions.before + x.entry.entry
    entry = moved_own p.instructions x.entry.entry (omega (arith, x.room_for))

    abbrev untouched : Slots
    untouched = kept_slots layout G

    abbrev body : Computation TypeValue
    body = elaborate call m u.name line_of (definition_of t)

    -- where it returns
    abbrev end : ℕ
    end = p.instructions.before + (x.entry.entry + length code)

    module _ (place : ℕ) (injection : Injection) (memory : MachineMemory) (below : List Operand) where
      abbrev begun : MachineMemory
      begun = begun_memory layout G (moved p.routines (number_of index)) image_routine exists numbered [] takes_none 0 refl (frame.Unit image_routine.unit) place memory

      home : unit_in G begun.frames ≡ u.name
      home = rw (place_among, stands.routines (number_of index) x.entry x.in_object, stands.unit) is.name

      abbrev Here : Facts
      Here = InActivation (declared_of given u) untouched injection begun

      -- the machine follows the elaboration, in any activation of the routine
      follows : Fragment layout G Here m (point injection begun image_routine.entry below) body end (λ a. TypeOnTop v below a) 63 (λ a. 1 + type_credit)
      follows =
          fragment_from entry (fragment_post (λ a longer after pushed i. i.operands_are) (fragment_credit {d = 63} {e = λ a. 63 + 4} (omega arith) (λ a. omega arith)
          (elaborates (declared_of given u) layout G untouched Here in_activation-lasts ps p o.references call steady_call m m u.name line_of u.types (refl, refl) among_same kept
          (types_referred (declared_of given u) u o is refl) (swap_referred (declared_of given u) u o is refl) (arrays_referred (declared_of given u) u o is refl) x.entry.entry (definition_of t) v typed x.code_stands injection begun below 63 (omega arith) home)))

    -- what a call of it does
    found : type_in us u.name index ≡ Some t
    found = among.types index ∙ there

    -- the machine follows a call of it
    pub type_follows_call : (place line : ℕ) → CallsAt G place (moved p.routines (number_of index)) 0 line → (injection : Injection) (began : meaning.State) (memory : MachineMemory) (below : List Operand)
        → Fragment layout G (Since untouched injection began memory) (suc m) (point injection memory place below) (type_does call m u.name line (type_in us u.name index)) (place + 1) (λ a. Inside untouched injection memory (TypeOnTop v below a)) 0 (λ a. type_credit)
    type_follows_call place line calls injection began memory below =
        subst (λ y. Fragment layout G (Since untouched injection began memory) (suc m) (point injection memory place below) (type_does call m u.name line y) (place + 1) (λ a. Inside untouched injection memory (TypeOnTop v below a)) 0 (λ a. type_credit)) (sym found)
        (type_keeps layout G (moved p.routines (number_of index)) image_routine exists numbered [] takes_none 0 refl end (bare line_of op.RETURN) (instr_at G (omega arith) x.end_stands.0) refl refl refl
        (declared_of given u) (omega arith) (λ k. refl) m place line calls injection began memory below [] u.name v body (steady_elaborate call steady_call m u.name line_of (definition_of t)) untouched
        (follows place injection memory below))

  -- a call of the routine is placed so
  type_placed : (index : ℕ) (i : Instr) → placed_call ps (Some (record { unit = u.name; number = type_routine (first_private u) index })) i ≡ record i { a = pos (moved p.routines (number_of index)) }
  type_placed index i = call_placed (number_of index) i

  -- with no step there is nothing to keep
  pub types_none : (us : List TypedUnit) (layout : Layout) (index : ℕ) (v : TypeValue) → TypeKeeps layout G ps (handler_of us 0) 0 (first_private u) u.name index v
  types_none us layout index v =
      record { routine = moved p.routines (number_of index); placed = type_placed index; promise = λ place line calls injection begun memory below home. fragment_cut }

  -- and with one more step than all routines keep theirs
  pub types_keep : (given : List GivenUnit) (us : List TypedUnit) → IsAmong us u → (layout : Layout) (m : ℕ) → CallsAreKept (declared_of given u) layout G ps (handler_of us m) m
      → (index : ℕ) (v : TypeValue) → IsTyped u.types (Named index []) v → TypeKeeps layout G ps (handler_of us (suc m)) (suc m) (first_private u) u.name index v
  types_keep given us among layout m kept index v (named k t there inner) =
      record {
        routine = moved p.routines (number_of index);
        placed = type_placed index;
        promise = λ place line calls injection begun memory below home. type_follows_call given us among layout m kept index t v there inner place line calls injection begun memory below;
      }
