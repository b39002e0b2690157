-- The machine follows the meaning of an expression through the code of the expression.
use Rattle.std.proofs.Common.{◌≡◌, ℕ, ℤ, pos, zero, suc, Option, None, ◌+◌, ◌*◌, ◌<◌, ◌≤◌, Bool, IsTrue, List, [], ◌∷◌, ◌++◌, length, Some, slice_get, refl, sym, ap, ◌∙◌, subst, arith, append_assoc, length-append, true, false}
use Rattle.std.specs.Bool.{⊤}
use Rattle.ep_simulation.proofs.public.following.Kept.{arrays_kept, routine_kept, swap_kept}
use Rattle.ep_simulation.specs.Activations.{KnowsNames}
use Rattle.ep_simulation.specs.Follows.{point, Facts, Lasts, Fragment, SameRoutine, Operands, OnTop, PlaceOnTop, Inside}
use Rattle.ep_simulation.specs.Layouts.{Layout}
use Rattle.ep_simulation.specs.Matching.{Slots, AreAmong, Grown, kept_slots, MachineMemory, at, Injection, IsLike, IsSpot, HasType, HasTypeUnder, HasOwnType, Matches}
use Rattle.ep_simulation.specs.Matching.{at as standing}
use Rattle.ep_object.specs.Operands.{Operand}
use Rattle.ep_object.specs.Operands as operand
use Rattle.ep_object.specs.Placing.{Placement, CodeStands}
use Rattle.ep_simulation.specs.Promises.{Passing, ByValue, ByReference, ArePassed, CallsAreKept, ArrayRoutinesStand, ResultsOnTop, RoutineKeeps, SwapStands, credit_of}
use Rattle.ep_simulation.specs.Scene.{IsLaidOut, Scene, TextStands, VariableStands}
use Rattle.ep_object.specs.Runs.{unit_in}
use Rattle.ep_object.specs.declared.code.Image.{Image}
use Rattle.ep_object.specs.declared.code.Instr.{Instr}
use Rattle.ep_object.specs.declared.code.Reference.{Reference}
use Rattle.ep_object.specs.declared.state.Place.{Place as PlaceOf}
use Rattle.ep_simulation.proofs.public.following.Choices.{Reads, fragment_fetch, follows_fetch, fragment_using}
use Rattle.ep_simulation.proofs.public.following.Fragments.{FailsWith, fragment_less, fragment_post, fragment_to, fragment_paid, fragment_give, fragment_credit, fragment_bind_place, fragment_bind_number}
use Rattle.ep_simulation.proofs.public.matching.LaidOut.{laid_type}
use Rattle.ep_simulation.proofs.public.matching.MoreMemory.{unit_in-same, inside_here, is_spot-grown, describes-grown}
use Rattle.ep_simulation.proofs.public.rows.IndexRow.{index_fails, index_reads}
use Rattle.ep_simulation.proofs.public.rows.OwnRows.{own_reads, level_reads}
use Rattle.ep_simulation.proofs.public.rows.PlaceRows.{unit_reads}
use Rattle.ep_simulation.proofs.public.rows.TextRows.{text_pushes}
use Rattle.ep_meaning.specs.Steady.{Steady, IsSteadyHandler}
use Rattle.ep_meaning.specs.Calls.{Handler}
use Rattle.ep_meaning.proofs.public.Steady.{steady_bind, steady_if, steady_spend, steady_give, steady_answered, steady_eval, steady_read, steady_active, steady_indexed, steady_selected}
use Rattle.ep_meaning.specs.Meaning.{eval, arguments, place}
use Rattle.ep_meaning.specs.Results.{weight_of}
use Rattle.ep_typed.specs.Nodes.{designators_count}
use Rattle.ep_values.specs.Operations.{decides, is_integer}
use Rattle.ep_values.specs.Printing.{Result, number_of}
use Rattle.ep_values.specs.Printing as result
use Rattle.ep_typed.specs.Denoters.{bare_type_of}
use Rattle.ep_meaning.specs.Steps.{Component, Computation, bind, component, component_number, type_at, own_variable, has_ended}
use Rattle.ep_typed.specs.Selections.{variant_number}
use Rattle.ep_meaning.specs.Steps as meaning
use Rattle.ep_typed.specs.Trees as tree
use Rattle.ep_typed.specs.Trees.{Element, AtIndex, AtField, SameField, AtRanges, AtIndexes, Elements, no_element, next_element, Callee, Place, Variable, Own, Standard, Indexed, Field, Variant, Expr, Constant, Text, Read, One, Two, Short, Step, Function, IndexedValue, FieldValue, VariantValue, SetConstant, SetOf, OnSets, Card, Designator, Single, Range, Designators, no_member, next_member, Actual, Evaluated, Accessed, Actuals, no_actual, next_actual}
use Rattle.ep_meaning.specs.Valid.{Declarations, ValueKind, Ordinal, Bytes, Structured, Set, IsUnary, IsBinary, IsTypeOfKind, IsExpr, IsElement, AreElements, AreDesignators, AreGiven, IsDesignator, IsDeclaredUp, Level, variables_at, variables_up, tag_type}
use Rattle.ep_typed.specs.declared.interface.Formal.{Formal}
use Rattle.ep_typed.specs.declared.interface.RoutineEntry.{RoutineEntry}
use Rattle.ep_typed.specs.declared.unit.UnitType.{UnitType}
use Rattle.ep_values.specs.declared.operations.Binary.{Binary}
use Rattle.ep_values.specs.declared.operations.ShortOperation.{ShortOperation}
use Rattle.ep_values.specs.declared.operations.Unary.{Unary}
use Rattle.ep_typed.specs.Hosts.{Host, least, greatest}
use Rattle.ep_typed.specs.Hosts as host
use Rattle.ep_values.specs.TypeValues.{ComponentTypes, TypeValue, bare_of, type_among}
use Rattle.ep_values.specs.TypeValues as type
use Rattle.ep_typed.specs.declared.tree.Selection.{Selection}
use Rattle.ep_typed.specs.declared.unit.UnitVariable.{UnitVariable}
use Rattle.ep_gen_code.specs.Credit.{least_credit}
use Rattle.ep_gen_code.specs.Referring.{AreReferred, AreArraysReferred, IsSwapReferred}
use Rattle.ep_gen_expr.specs.Following.{HasPlaceType, IsValidPlace}
use Rattle.ep_gen_expr.specs.ExprCode.{IsPlaceCode, IsExprCode, IsElementCode, AreElementsCode, IsRangeCode, AreIndexesCode, spreads_code, tested_code, begin_code, end_code, IsActualCode, AreActualsCode, IsDesignatorCode, AreDesignatorsCode, one_code, set_code, two_code, keep_code, step_code, variant_code, reach_code, first_code, ranges_code, bad_place, variant_part_code}
use Rattle.ep_gen_code.specs.Instructions.{reference, instr, push, bare, members_code}
use Rattle.ep_gen_expr.proofs.public.Answering.{Evaluates, IsFollowed, IsPlaceFollowed}
use Rattle.ep_gen_expr.proofs.Arguments.{Fits, fits, IsArgumentFollowed, AreArgumentsFollowed, value_follows, accessed_follows, none_follows, next_follows}
use Rattle.ep_gen_expr.proofs.public.Calls.{passed_then, function_follows}
use Rattle.ep_gen_code.proofs.public.Constants.{set_follows, word_follows}
use Rattle.ep_gen_expr.proofs.ShortCircuit.{kept_follows}
use Rattle.ep_gen_expr.proofs.OneOperand.{UnaryFollows, unary_follows}
use Rattle.ep_gen_code.proofs.public.Placed.{code_front, code_back, instr_at, text_at, variable_at}
use Rattle.ep_gen_expr.proofs.public.VariantMoves.{active_follows}
use Rattle.ep_gen_expr.proofs.VariantValues.{variant_value_follows}
use Rattle.ep_gen_expr.proofs.public.Stays.{variant_length}
use Rattle.ep_gen_expr.proofs.public.PlaceTypes.{IsArrayWhere, IsRecordWhere, IsVariantWhere, valid_place, typed_place, kind_place, variable_type}
use Rattle.ep_gen_expr.proofs.Sets.{IsDesignatorFollowed, AreDesignatorsFollowed, card_follows, constructor_follows, next_member_follows, no_member_follows, on_sets_follows, range_follows, single_follows}
use Rattle.ep_gen_expr.proofs.Stepping.{step_follows}
use Rattle.ep_gen_expr.proofs.public.WholeStructures.{named_within, structured_follows}
use Rattle.ep_gen_expr.proofs.Components.{loaded_follows, selected_follows}
use Rattle.ep_gen_expr.proofs.public.FilledRanges.{at_ranges_follow}
use Rattle.ep_gen_expr.proofs.GivenRanges.{AreRangesFollowed, IsRangeFollowed, all_given, at_indexes_follow, pair_follows, single_follows as alone_follows, value_alone}
use Rattle.ep_gen_expr.proofs.public.Stays.{spreads_length}
use Rattle.ep_gen_expr.proofs.public.SameFields.{same_field_follows}
use Rattle.ep_gen_expr.proofs.public.StructuredValues.{AreElementsFollowed, IsElementFollowed, at_field_follows, at_index_follows, next_element_follows, no_element_follows}
use Rattle.ep_gen_expr.proofs.TwoOperands.{BinaryFollows, binary_follows}
use Rattle.ep_gen_expr.proofs.ValueParts.{field_value_follows, indexed_value_follows}
use Rattle.ep_object.specs.declared.op.TheConstants as op
use Rattle.ep_values.specs.declared.run_error.TheConstants as run_error

-- `Index` of a variable that has ended, where the routine is one of the unit
index_ends : (layout : Layout) (G : Image) (unit : List ℕ) (at_place line : ℕ) (low high : ℤ) (of : TypeValue) (z : ℤ)
    → slice_get G.instructions at_place ≡ Some (instr op.INDEX (pos 0) 0 line)
    → (injection : Injection) (memory : MachineMemory) (below : List Operand) (a : Component) (q : PlaceOf)
    → IsSpot injection memory.types a q → IsLike memory.types q.type_number (type.Array low high of)
    → unit_in G memory.frames ≡ unit → (s : meaning.State) → Matches layout G injection s memory
    → has_ended a.allocation s ≡ true
    → FailsWith G (at at_place (operand.Word z ∷ operand.Place q ∷ below) memory s.trace) 0 run_error.DISPOSED unit line s
index_ends layout G unit at_place line low high of z has injection memory below a q spot described unit_is s matches ended =
    subst (λ u. FailsWith G (at at_place (operand.Word z ∷ operand.Place q ∷ below) memory s.trace) 0 run_error.DISPOSED u line s) unit_is (index_fails layout G at_place line below low high of z a q has injection memory spot described s matches ended)

module _ {declared : Declarations} {layout : Layout} {G : Image} {untouched : Slots} {Here : Facts} (ps : List Placement) (p : Placement) (texts : List (List ℕ)) (references : List Reference) (scene : Scene declared layout G ps p texts) (knows : KnowsNames declared Here) (call : Handler) (steady_call : IsSteadyHandler call) (g : ℕ) (unit : List ℕ) where
  -- a text, by `Text`, which spends its length
  text_follows : (n k : ℕ) (bytes : List ℕ) → slice_get texts k ≡ Some bytes → (line at : ℕ) → CodeStands G ps p references at (instr op.TEXT (pos k) 0 line ∷ []) → (injection : Injection) (memory : MachineMemory) (below : List Operand) (d : ℕ) → Fragment layout G Here n (point injection memory (p.instructions.before + at) below) (eval call g unit line (Text bytes)) (p.instructions.before + (at + 1)) (λ r. Inside untouched injection memory (OnTop Bytes below r)) d (λ r. d + 8 + weight_of r)
  text_follows n k bytes there line at stands injection memory below d =
      let text : TextStands G p k bytes = scene.texts_stand k bytes there in
      fragment_less {n = suc n} (omega arith) (fragment_to (omega arith) (fragment_paid {n = n} {d1 = d + 8 + length bytes} {weight = length bytes} {w = length bytes} (λ s matches. text_pushes G (p.instructions.before + at) line below (p.texts.before + k) bytes text.there (text_at G ps p references line k (p.instructions.before + at) bytes text stands.0) memory s.trace) (omega arith) (omega arith) (omega arith)
      (fragment_give (omega arith) (inside_here (record { bytes = bytes; is_text = refl; is = refl })))))

  -- what `Unit` finds of a variable of a unit, where the routine is one of the unit
  unit_finds : (place line number : ℕ) (of_unit : List ℕ) (v : UnitVariable) (t : TypeValue) → layout.variables of_unit number ≡ Some v → HasType layout of_unit v t → (variable : VariableStands G ps of_unit number) → slice_get G.instructions place ≡ Some (instr op.UNIT (pos variable.number) number line) → (injection : Injection) (memory : MachineMemory) (below : List Operand) → unit_in G memory.frames ≡ unit → (s : meaning.State) → Matches layout G injection s memory → Here injection s memory → Reads layout G Here (at place below memory s.trace) 1 unit line (place + 1) (λ n. Inside untouched injection memory (PlaceOnTop t below n)) s (s.variables of_unit number)
  unit_finds place line number of_unit v t is_declared has_type variable has injection memory below unit_is s matches here =
      subst (λ u. Reads layout G Here (at place below memory s.trace) 1 u line (place + 1) (λ n. Inside untouched injection memory (PlaceOnTop t below n)) s (s.variables of_unit number)) unit_is
      (subst (λ u. Reads layout G Here (at place below memory s.trace) 1 (unit_in G memory.frames) line (place + 1) (λ n. Inside untouched injection memory (PlaceOnTop t below n)) s (s.variables u number)) variable.named
      (unit_reads layout G place line below variable.number number variable.image_unit v t has variable.there variable.within (ap (λ u. layout.variables u number) variable.named ∙ is_declared) (subst (λ u. HasType layout u v t) (sym variable.named) has_type) injection memory s matches here))

  -- the place of a variable that is declared, by `Unit`
  variable_follows : (n : ℕ) (of_unit : List ℕ) (k : ℕ) (v : UnitVariable) (t : TypeValue) → declared.variables of_unit k ≡ Some v → HasTypeUnder declared.types v t → (line at : ℕ) (code : List Instr) → IsPlaceCode texts references line at (Variable of_unit k) code → CodeStands G ps p references at code → IsPlaceFollowed layout G untouched Here p call g unit n t (Variable of_unit k) line at code
  variable_follows n of_unit k v t is_declared has_type line at code (r, there, is) stands injection memory below d le unit_is =
      let variable : VariableStands G ps of_unit k = scene.variables_stand of_unit k v is_declared in
      let laid : IsLaidOut layout declared.types of_unit k v = scene.laid_out of_unit k v is_declared in
      let has : CodeStands G ps p references at (instr op.UNIT (pos r) 0 line ∷ []) = subst (λ c. CodeStands G ps p references at c) is stands in
      fragment_less {n = suc n} (omega arith) (fragment_to (omega (arith, ap length is)) (fragment_fetch {n = n} (λ s. s.variables of_unit k) (λ m. m) (λ s matches here. unit_finds (p.instructions.before + at) line k of_unit laid.variable t laid.there (laid_type laid t has_type) variable (variable_at G ps p references line r (p.instructions.before + at) k of_unit variable there has.0) injection memory below unit_is s matches here) (omega (arith, le)) (λ m. omega arith)))

  -- what `Slot` finds of a variable of the routine or of one around it
  slot_finds : (at_place line : ℕ) (up k : ℕ) (v : UnitVariable) (t : TypeValue) → slice_get (variables_up declared up) k ≡ Some v → HasOwnType declared v t → slice_get G.instructions at_place ≡ Some (instr op.SLOT (pos k) up line)
      → (injection : Injection) (memory : MachineMemory) (below : List Operand) (s : meaning.State) → Matches layout G injection s memory → Here injection s memory
      → Reads layout G Here (standing at_place below memory s.trace) 1 (unit_in G memory.frames) line (at_place + 1) (λ n. Inside untouched injection memory (PlaceOnTop t below n)) s (own_variable up k s)
  slot_finds at_place line zero k v t is_declared has_type has injection memory below s matches here =
      let names = knows injection s memory here in
      own_reads declared layout G at_place line below k v t has has_type injection memory s matches (names.own k v is_declared) here
  slot_finds at_place line (suc up) k v t is_declared has_type has injection memory below s matches here = at_level (slice_get declared.levels (suc up)) refl is_declared
    where
      at_level : (o : Option Level) → slice_get declared.levels (suc up) ≡ o → slice_get (variables_at o) k ≡ Some v
          → Reads layout G Here (standing at_place below memory s.trace) 1 (unit_in G memory.frames) line (at_place + 1) (λ n. Inside untouched injection memory (PlaceOnTop t below n)) s (own_variable (suc up) k s)
      at_level None e is = cc
      at_level (Some level) e is =
          let names = knows injection s memory here in
          level_reads declared layout G at_place line below (suc up) k level v t has has_type is injection memory s matches (names.around up level e) here

  -- the place of a variable of the routine or of one around it, by `Slot`
  own_follows : (n up k : ℕ) (v : UnitVariable) (t : TypeValue) → slice_get (variables_up declared up) k ≡ Some v → HasOwnType declared v t → (line at : ℕ) (code : List Instr) → IsPlaceCode texts references line at (Own up k) code → CodeStands G ps p references at code → IsPlaceFollowed layout G untouched Here p call g unit n t (Own up k) line at code
  own_follows n up k v t is_declared has_type line at code is stands injection memory below d le unit_is =
      let has : CodeStands G ps p references at (instr op.SLOT (pos k) up line ∷ []) = subst (λ c. CodeStands G ps p references at c) is stands in
      fragment_less {n = suc n} (omega arith) (fragment_to (omega (arith, ap length is)) (fragment_fetch {n = n} (own_variable up k) (λ m. m) (λ s matches here.
      subst (λ u. Reads layout G Here (standing (p.instructions.before + at) below memory s.trace) 1 u line (p.instructions.before + at + 1) (λ n. Inside untouched injection memory (PlaceOnTop t below n)) s (own_variable up k s)) unit_is
      (slot_finds (p.instructions.before + at) line up k v t is_declared has_type has.0 injection memory below s matches here)) (omega (arith, le)) (λ m. omega arith)))

  -- what `Index` finds of a variable of an array type
  index_finds : (at_place line : ℕ) (low high : ℤ) (of : TypeValue) (z : ℤ) → slice_get G.instructions at_place ≡ Some (instr op.INDEX (pos 0) 0 line)
      → (injection : Injection) (memory : MachineMemory) (below : List Operand) (a : Component) (q : PlaceOf)
      → IsSpot injection memory.types a q → IsLike memory.types q.type_number (type.Array low high of)
      → unit_in G memory.frames ≡ unit → (s : meaning.State) → Matches layout G injection s memory → Here injection s memory → has_ended a.allocation s ≡ false
      → Reads layout G Here (standing at_place (operand.Word z ∷ operand.Place q ∷ below) memory s.trace) run_error.INDEX unit line (at_place + 1) (λ k. Inside untouched injection memory (PlaceOnTop of below (component a k))) s (component_number (type_at a s) z)
  index_finds at_place line low high of z has injection memory below a q spot described unit_is s matches here living =
      subst (λ u. Reads layout G Here (standing at_place (operand.Word z ∷ operand.Place q ∷ below) memory s.trace) run_error.INDEX u line (at_place + 1) (λ k. Inside untouched injection memory (PlaceOnTop of below (component a k))) s (component_number (type_at a s) z)) unit_is
      (index_reads layout G at_place line below low high of z a q has injection memory spot described s matches living here)

  -- the component of an array at an index, by the array, the index and `Index`
  indexed_follows : (n : ℕ) (h : Host) (low high : ℤ) (t : TypeValue) (q : Place) (x : Expr) (line at : ℕ) (xs ys : List Instr)
      → IsPlaceFollowed layout G untouched Here p call g unit n (type.Array low high t) q line at xs
      → IsFollowed layout G untouched Here p call g unit n (Ordinal h) x line (at + length xs) ys
      → CodeStands G ps p references (at + length xs + length ys) (bare line op.INDEX ∷ [])
      → IsPlaceFollowed layout G untouched Here p call g unit n t (Indexed q x) line at (xs ++ (ys ++ bare line op.INDEX ∷ []))
  indexed_follows n h low high t q x line at xs ys array index has injection memory below d le unit_is =
      let last : ℕ = p.instructions.before + (at + length xs + length ys) in
      fragment_bind_place (λ a. steady_bind (steady_eval call steady_call g unit line x) (λ r. steady_indexed call steady_call g unit line a (number_of r))) (array injection memory below d le unit_is) (λ a b v1 m1 grown1 routine1 spot described.
      fragment_bind_number {host = h} {e = λ r. d + 8 + 8 + weight_of r} (λ r. steady_indexed call steady_call g unit line a (number_of r)) (index v1 m1 (operand.Place b ∷ below) (d + 8) (omega (arith, le)) (unit_in-same G routine1 ∙ unit_is)) (λ z v2 m2 of_z grown2 routine2.
      let home : unit_in G m2.frames ≡ unit = unit_in-same G routine2 ∙ (unit_in-same G routine1 ∙ unit_is) in
      let spot2 : IsSpot v2 m2.types a b = is_spot-grown grown2 spot in
      let described2 : IsLike m2.types b.type_number (type.Array low high t) = describes-grown b.type_number (type.Array low high t) grown2 described in
      fragment_less {n = suc n} (omega arith) (fragment_to (omega (arith, length-append xs (ys ++ bare line op.INDEX ∷ []), length-append ys (bare line op.INDEX ∷ []))) (fragment_using {n = suc n} {e = λ c. d + 8} a.allocation
      (λ s matches ended. index_ends layout G unit last line low high t z has.0 v2 m2 below a b spot2 described2 home s matches ended) (omega arith)
      (λ s matches here living. follows_fetch {e = λ c. d + 8} (point v2 m2 last (operand.Word z ∷ operand.Place b ∷ below)) (λ s. component_number (type_at a s) z) (λ k. component a k) s (index_finds last line low high t z has.0 v2 m2 below a b spot2 described2 home s matches here living) (omega arith) (λ k. omega arith))))))

  -- the component of a record, by the record and `Field`
  field_follows : (n : ℕ) (ts : ComponentTypes) (k : ℕ) (t : TypeValue) → type_among ts k ≡ Some t → (q : Place) (line at : ℕ) (xs : List Instr)
      → IsPlaceFollowed layout G untouched Here p call g unit n (type.Record ts) q line at xs
      → CodeStands G ps p references (at + length xs) (instr op.FIELD (pos k) 0 line ∷ [])
      → IsPlaceFollowed layout G untouched Here p call g unit n t (Field q k) line at (xs ++ instr op.FIELD (pos k) 0 line ∷ [])
  field_follows n ts k t is q line at xs follows has injection memory below d le unit_is =
      fragment_bind_place (λ a. steady_selected call steady_call g unit line a k) (follows injection memory below d le unit_is) (λ a b longer after grown routine spot described.
      fragment_to (omega (arith, length-append xs (instr op.FIELD (pos k) 0 line ∷ [])))
      (selected_follows call g unit line n (p.instructions.before + (at + length xs)) ts k t is has.0 longer after below a b (d + 8) (omega arith) (unit_in-same G routine ∙ unit_is) spot described))

  -- the value of a variable, by its place and `Load`
  read_follows : (n : ℕ) (kind : ValueKind) (t : TypeValue) → IsTypeOfKind kind t → (q : Place) (line at : ℕ) (xs : List Instr) → IsPlaceFollowed layout G untouched Here p call g unit n t q line at xs → CodeStands G ps p references (at + length xs) (bare line op.LOAD ∷ []) → IsFollowed layout G untouched Here p call g unit n kind (Read q) line at (xs ++ bare line op.LOAD ∷ [])
  read_follows n kind t of_kind q line at xs follows has injection memory below d le unit_is =
      fragment_bind_place (steady_read call steady_call g unit line) (follows injection memory below d le unit_is) (λ a q longer after grown routine spot described.
      fragment_to (omega (arith, length-append xs (bare line op.LOAD ∷ [])))
      (fragment_credit {d = d + 8} (omega arith) (λ r. omega arith) (loaded_follows call g unit line n (p.instructions.before + (at + length xs)) kind t of_kind has.0 longer after below a q (d + 8) (omega arith) (unit_in-same G routine ∙ unit_is) spot described)))

  -- an operation with one operand
  one_follows : (n : ℕ) (operation : Unary) (x : Expr) (k kind : ValueKind) → IsUnary operation k kind → (line at : ℕ) (xs : List Instr) → IsFollowed layout G untouched Here p call g unit n k x line at xs → CodeStands G ps p references at (xs ++ one_code line operation) → IsFollowed layout G untouched Here p call g unit n kind (One operation x) line at (xs ++ one_code line operation)
  one_follows n operation x k kind kinds line at xs first stands injection memory below d le unit_is =
      let o : UnaryFollows layout G untouched Here ps p references call g unit line n (at + length xs) operation k kind = unary_follows layout G untouched Here ps p references call g unit line n (at + length xs) operation k kind kinds (code_back G ps p references at xs (one_code line operation) stands) in
      let end : ℕ = p.instructions.before + (at + length (xs ++ one_code line operation)) in
      subst (λ q. Evaluates layout G untouched Here n injection memory (p.instructions.before + at) below (eval call g unit line (One operation x)) end q below d (d + 8)) (sym o.result_is)
      (fragment_bind_number {e = λ r. d + 8} (λ a. steady_bind (steady_answered call steady_call g unit line _) (λ z. steady_spend 1 (steady_give (result.Number z))))
      (fragment_credit {d = d} (omega arith) (λ r. omega arith) (subst (λ q. Evaluates layout G untouched Here n injection memory (p.instructions.before + at) below (eval call g unit line x) (p.instructions.before + (at + length xs)) q below d (d + 8)) o.operand_is (first injection memory below d le unit_is)))
      (λ z longer after of_host grown routine. fragment_to (omega (arith, length-append xs (one_code line operation))) (o.follows z of_host longer after below d (unit_in-same G routine ∙ unit_is))))

  -- an operation with two operands
  two_follows : (n : ℕ) (operation : Binary) (x y : Expr) (k l kind : ValueKind) → IsBinary operation k l kind → (line at : ℕ) (xs ys : List Instr) → IsFollowed layout G untouched Here p call g unit n k x line at xs → IsFollowed layout G untouched Here p call g unit n l y line (at + length xs) ys → CodeStands G ps p references (at + length xs + length ys) (two_code line operation ∷ []) → IsFollowed layout G untouched Here p call g unit n kind (Two operation x y) line at (xs ++ (ys ++ two_code line operation ∷ []))
  two_follows n operation x y k l kind kinds line at xs ys first second stands injection memory below d le unit_is =
      let middle : ℕ = p.instructions.before + (at + length xs) in
      let last : ℕ = p.instructions.before + (at + length xs + length ys) in
      let end : ℕ = p.instructions.before + (at + length (xs ++ (ys ++ two_code line operation ∷ []))) in
      let o : BinaryFollows layout G untouched Here ps p references call g unit line n (at + length xs + length ys) operation k l kind = binary_follows layout G untouched Here ps p references call g unit line n (at + length xs + length ys) operation k l kind kinds stands in
      subst (λ q. Evaluates layout G untouched Here n injection memory (p.instructions.before + at) below (eval call g unit line (Two operation x y)) end q below d (d + 8)) (sym o.result_is)
      (fragment_bind_number {e = λ r. d + 8} (λ a. steady_bind (steady_eval call steady_call g unit line y) (λ b. steady_bind (steady_answered call steady_call g unit line _) (λ z. steady_spend 1 (steady_give (result.Number z)))))
      (fragment_credit {d = d} (omega arith) (λ r. omega arith) (subst (λ q. Evaluates layout G untouched Here n injection memory (p.instructions.before + at) below (eval call g unit line x) middle q below d (d + 8)) o.left_is (first injection memory below d le unit_is)))
      (λ z v1 m1 of_z grown1 routine1.
      fragment_bind_number {e = λ r. d + 16} (λ b. steady_bind (steady_answered call steady_call g unit line _) (λ w. steady_spend 1 (steady_give (result.Number w))))
      (fragment_credit {d = d + 8} (omega arith) (λ r. omega arith) (subst (λ q. Evaluates layout G untouched Here n v1 m1 middle (operand.Word z ∷ below) (eval call g unit line y) last q (operand.Word z ∷ below) (d + 8) (d + 8 + 8)) o.right_is (second v1 m1 (operand.Word z ∷ below) (d + 8) (omega arith) (unit_in-same G routine1 ∙ unit_is))))
      (λ w v2 m2 of_w grown2 routine2. fragment_to (omega (arith, length-append xs (ys ++ two_code line operation ∷ []), length-append ys (two_code line operation ∷ []))) (o.follows z w of_z of_w v2 m2 below d (unit_in-same G routine2 ∙ (unit_in-same G routine1 ∙ unit_is))))))

  -- `succ` and `pred`
  stepped_follows : (n : ℕ) (h : Host) (down : Bool) (low high : ℤ) → low ≡ least h → high ≡ greatest h → (x y : Expr) (line at : ℕ) (xs ys : List Instr) → IsFollowed layout G untouched Here p call g unit n (Ordinal h) x line at xs → IsFollowed layout G untouched Here p call g unit n (Ordinal host.Integer) y line (at + length xs) ys → CodeStands G ps p references (at + length xs + length ys) (step_code line down low high) → IsFollowed layout G untouched Here p call g unit n (Ordinal h) (Step down low high x y) line at (xs ++ (ys ++ step_code line down low high))
  stepped_follows n h down low high is_low is_high x y line at xs ys first second stands injection memory below d le unit_is =
      fragment_bind_number {e = λ r. d + 8} (λ a. steady_bind (steady_eval call steady_call g unit line y) (λ b. steady_bind (steady_answered call steady_call g unit line _) (λ z. steady_spend 1 (steady_give (result.Number z))))) (fragment_credit {d = d} (omega arith) (λ r. omega arith) (first injection memory below d le unit_is)) (λ z v1 m1 of_z grown1 routine1.
      fragment_bind_number {e = λ r. d + 16} (λ b. steady_bind (steady_answered call steady_call g unit line _) (λ w. steady_spend 1 (steady_give (result.Number w)))) (fragment_credit {d = d + 8} (omega arith) (λ r. omega arith) (second v1 m1 (operand.Word z ∷ below) (d + 8) (omega arith) (unit_in-same G routine1 ∙ unit_is))) (λ w v2 m2 of_w grown2 routine2.
      fragment_to (omega (arith, length-append xs (ys ++ step_code line down low high), length-append ys (step_code line down low high))) (step_follows layout G untouched Here ps p references call g unit line n (at + length xs + length ys) h down low high is_low is_high stands z w of_w v2 m2 below d (unit_in-same G routine2 ∙ (unit_in-same G routine1 ∙ unit_is)))))

  -- of a kind and a code that are those
  followed_as : (n : ℕ) (kind kind2 : ValueKind) (x : Expr) (line at : ℕ) (code code2 : List Instr) → kind ≡ kind2 → code ≡ code2 → IsFollowed layout G untouched Here p call g unit n kind2 x line at code2 → IsFollowed layout G untouched Here p call g unit n kind x line at code
  followed_as n kind kind2 x line at code code2 e f h =
      subst (λ k. IsFollowed layout G untouched Here p call g unit n k x line at code) (sym e) (subst (λ c. IsFollowed layout G untouched Here p call g unit n kind2 x line at c) (sym f) h)

  module _ (room : p.instructions.before + p.instructions.own ≤ length G.instructions) where
    -- `and_then` and `or_else`
    short_follows : (n : ℕ) (operation : ShortOperation) (x y : Expr) (line at : ℕ) (xs ys : List Instr) → IsFollowed layout G untouched Here p call g unit n (Ordinal host.Boolean) x line at xs → IsFollowed layout G untouched Here p call g unit n (Ordinal host.Boolean) y line (at + length xs + length (keep_code line operation) + 2) ys
        → at + length xs + length (keep_code line operation) + 2 + length ys < p.instructions.own → CodeStands G ps p references (at + length xs) (keep_code line operation ++ instr op.JUMP_FALSE (pos (at + length xs + length (keep_code line operation) + 2 + length ys)) 0 line ∷ bare line op.DROP ∷ [])
        → IsFollowed layout G untouched Here p call g unit n (Ordinal host.Boolean) (Short operation x y) line at (xs ++ (keep_code line operation ++ instr op.JUMP_FALSE (pos (at + length xs + length (keep_code line operation) + 2 + length ys)) 0 line ∷ bare line op.DROP ∷ ys))
    short_follows n operation x y line at xs ys first second inside stands injection memory below d le unit_is =
        let ks : List Instr = keep_code line operation in
        let end : ℕ = at + length xs + length ks + 2 + length ys in
        let jump : Instr = instr op.JUMP_FALSE (pos end) 0 line in
        let ends : end ≡ at + length (xs ++ (ks ++ jump ∷ bare line op.DROP ∷ ys)) = omega (arith, length-append xs (ks ++ jump ∷ bare line op.DROP ∷ ys), length-append ks (jump ∷ bare line op.DROP ∷ ys)) in
        fragment_to (ap (λ k. p.instructions.before + k) ends)
        (fragment_bind_number {host = host.Boolean} {e = λ r. d + 8} (λ a. steady_if (decides operation (number_of a)) (steady_spend 1 (steady_give a)) (steady_bind (steady_eval call steady_call g unit line y) (λ b. steady_spend 1 (steady_give b))))
        (fragment_credit {d = d} (omega arith) (λ r. omega arith) (first injection memory below d le unit_is)) (λ z longer after of_z grown routine.
        kept_follows ps p references call steady_call g unit line room n (at + length xs) (at + length xs + length ks + 2) end operation y ys second refl refl inside stands z of_z longer after below d le (unit_in-same G routine ∙ unit_is)))

    -- the variant of a record, by the record and the tests of its tag
    variant_follows : (n : ℕ) (s : Selection) (k : ℕ) (ts : ComponentTypes) (t : TypeValue) (low high : ℤ) → type_among ts s.tag ≡ Some (tag_type low high) → type_among ts (variant_number s k) ≡ Some t → (q : Place) (line at : ℕ) (xs : List Instr)
        → IsPlaceFollowed layout G untouched Here p call g unit n (type.Record ts) q line at xs
        → CodeStands G ps p references (at + length xs) (variant_code line (at + length xs) s k)
        → at + length xs + length (variant_code line (at + length xs) s k) < p.instructions.own
        → IsPlaceFollowed layout G untouched Here p call g unit n t (Variant q s k) line at (xs ++ variant_code line (at + length xs) s k)
    variant_follows n s k ts t low high has_tag has_variant q line at xs follows has inside injection memory below d le unit_is =
        let ends : at + length (xs ++ variant_code line (at + length xs) s k) ≡ bad_place (at + length xs + 7) s + 3 = omega (arith, length-append xs (variant_code line (at + length xs) s k), variant_length line (at + length xs) s k) in
        fragment_bind_place (λ a. steady_active call steady_call g unit line a s k) (follows injection memory below d le unit_is) (λ a b longer after grown routine spot described.
        fragment_to (ap (λ m. p.instructions.before + m) (sym ends))
        (active_follows layout G untouched Here ps p references call g unit room line (at + length xs) k s ts t low high has_tag has_variant has inside n longer after below a b spot described (unit_in-same G routine ∙ unit_is) d le))

    module _ (lasts : Lasts untouched Here) (among : AreAmong untouched (kept_slots layout G)) (n : ℕ) (kept : CallsAreKept declared layout G ps call n) (unit_is : unit ≡ declared.home) (referred : AreReferred declared unit declared.types references) (swap_referred : IsSwapReferred declared unit references) (arrays_referred : AreArraysReferred declared unit references) where
      mutual
        -- What the machine does from the code of a place follows the meaning of the place.
        pub place_follows : (q : Place) → IsValidPlace declared q → (t : TypeValue) → HasPlaceType declared q t → (line at : ℕ) (code : List Instr) → IsPlaceCode texts references line at q code → CodeStands G ps p references at code → at + length code < p.instructions.own → IsPlaceFollowed layout G untouched Here p call g unit n t q line at code
        place_follows (Variable of_unit k) valid t (v, is_declared, has_type) line at code is stands inside = variable_follows n of_unit k v t is_declared has_type line at code is stands
        place_follows (Own up k) valid t (v, is_declared, has_type) line at code is stands inside = own_follows n up k v t is_declared has_type line at code is stands
        place_follows (Standard file) valid t has_type line at code is stands inside = absurd has_type
        place_follows (Indexed q x) valid t (low, high, has_type) line at code (xs, ys, q_code, x_code, is) stands inside =
            let index : Instr = bare line op.INDEX in
            let all : CodeStands G ps p references at (xs ++ (ys ++ index ∷ [])) = subst (λ c. CodeStands G ps p references at c) is stands in
            let rest : CodeStands G ps p references (at + length xs) (ys ++ index ∷ []) = code_back G ps p references at xs (ys ++ index ∷ []) all in
            let ends : length code ≡ length xs + length ys + 1 = omega (arith, ap length is, length-append xs (ys ++ index ∷ []), length-append ys (index ∷ [])) in
            let v = typed_place declared scene.types_valid scene.own_types_valid (IsArrayWhere declared (λ types d. ⊤) x) q valid in
            let element : IsArrayWhere declared (λ types d. ⊤) x v.types v.denoter = v.holds in
            let h : Host = (element.3).0 in
            subst (λ c. IsPlaceFollowed layout G untouched Here p call g unit n t (Indexed q x) line at c) (sym is)
            (indexed_follows n h low high t q x line at xs ys
            (place_follows q v.valid (type.Array low high t) has_type line at xs q_code (code_front G ps p references at xs (ys ++ index ∷ []) all) (omega (arith, ends, inside)))
            (expression_follows (Ordinal h) x (element.3).2 line (at + length xs) ys x_code (code_front G ps p references (at + length xs) ys (index ∷ []) rest) (omega (arith, ends, inside)))
            (code_back G ps p references (at + length xs) ys (index ∷ []) rest))
        place_follows (Field q k) valid t (ts, has_type, among) line at code (xs, q_code, is) stands inside =
            let field : Instr = instr op.FIELD (pos k) 0 line in
            let all : CodeStands G ps p references at (xs ++ field ∷ []) = subst (λ c. CodeStands G ps p references at c) is stands in
            let ends : length code ≡ length xs + 1 = omega (arith, ap length is, length-append xs (field ∷ [])) in
            subst (λ c. IsPlaceFollowed layout G untouched Here p call g unit n t (Field q k) line at c) (sym is)
            (field_follows n ts k t among q line at xs
            (place_follows q (valid_place declared (IsRecordWhere (λ types d. ⊤) k) q valid) (type.Record ts) has_type line at xs q_code (code_front G ps p references at xs (field ∷ []) all) (omega (arith, ends, inside)))
            (code_back G ps p references at xs (field ∷ []) all))
        place_follows (Variant q s k) valid t (ts, low, high, has_type, has_tag, has_variant) line at code (xs, q_code, is) stands inside =
            let rest : List Instr = variant_code line (at + length xs) s k in
            let all : CodeStands G ps p references at (xs ++ rest) = subst (λ c. CodeStands G ps p references at c) is stands in
            let ends : length code ≡ length xs + length rest = omega (arith, ap length is, length-append xs rest) in
            subst (λ c. IsPlaceFollowed layout G untouched Here p call g unit n t (Variant q s k) line at c) (sym is)
            (variant_follows n s k ts t low high has_tag has_variant q line at xs
            (place_follows q (valid_place declared (IsVariantWhere declared (λ types d. ⊤) s k) q valid) (type.Record ts) has_type line at xs q_code (code_front G ps p references at xs rest all) (omega (arith, ends, inside)))
            (code_back G ps p references at xs rest all) (omega (arith, ends, inside)))

        -- What the machine does from the code of an expression follows the meaning of the expression.
        pub expression_follows : (kind : ValueKind) (x : Expr) → IsExpr declared kind x → (line at : ℕ) (code : List Instr) → IsExprCode texts references line at x code → CodeStands G ps p references at code → at + length code < p.instructions.own → (injection : Injection) (memory : MachineMemory) (below : List Operand) (d : ℕ) → least_credit ≤ d → unit_in G memory.frames ≡ unit → Fragment layout G Here n (point injection memory (p.instructions.before + at) below) (eval call g unit line x) (p.instructions.before + (at + length code)) (λ r. Inside untouched injection memory (OnTop kind below r)) d (λ r. d + 8 + weight_of r)
        expression_follows kind (Constant z) (h, is_kind, of_host) line at code is stands inside =
            followed_as n kind (Ordinal h) (Constant z) line at code (push line z ∷ []) is_kind is (λ injection memory below d le unit_is.
            fragment_post (λ r longer after pushed i. record { grown = i.grown; routine = i.routine; operands_are = record { number = z; is_number = (i.operands_are).0; of_host = of_host; is = (i.operands_are).1 } })
            (word_follows ps p references call g unit line n z at (subst (λ c. CodeStands G ps p references at c) is stands) injection memory below d))
        expression_follows kind (Text bytes) is_kind line at code (k, there, is) stands inside =
            followed_as n kind Bytes (Text bytes) line at code (instr op.TEXT (pos k) 0 line ∷ []) is_kind is (λ injection memory below d le unit_is. text_follows n k bytes there line at (subst (λ c. CodeStands G ps p references at c) is stands) injection memory below d)
        expression_follows kind (Read q) is_place line at code (xs, q_code, is) stands inside =
            let all : CodeStands G ps p references at (xs ++ bare line op.LOAD ∷ []) = subst (λ c. CodeStands G ps p references at c) is stands in
            let ends : length code ≡ length xs + 1 = omega (arith, ap length is, length-append xs (bare line op.LOAD ∷ [])) in
            let v = kind_place declared scene.types_valid scene.own_types_valid kind q is_place in
            followed_as n kind kind (Read q) line at code (xs ++ bare line op.LOAD ∷ []) refl is
            (read_follows n kind v.type_value v.of_kind q line at xs
            (place_follows q v.valid v.type_value v.has_type line at xs q_code (code_front G ps p references at xs (bare line op.LOAD ∷ []) all) (omega (arith, ends, inside)))
            (code_back G ps p references at xs (bare line op.LOAD ∷ []) all))
        expression_follows kind (One operation x) (k, kinds, is_x) line at code (xs, x_code, is) stands inside =
            let all : CodeStands G ps p references at (xs ++ one_code line operation) = subst (λ c. CodeStands G ps p references at c) is stands in
            followed_as n kind kind (One operation x) line at code (xs ++ one_code line operation) refl is
            (one_follows n operation x k kind kinds line at xs (expression_follows k x is_x line at xs x_code (code_front G ps p references at xs (one_code line operation) all) (omega (arith, ap length is, length-append xs (one_code line operation), inside))) all)
        expression_follows kind (Two operation x y) (k, l, kinds, is_x, is_y) line at code (xs, ys, x_code, y_code, is) stands inside =
            let all : CodeStands G ps p references at (xs ++ (ys ++ two_code line operation ∷ [])) = subst (λ c. CodeStands G ps p references at c) is stands in
            let rest : CodeStands G ps p references (at + length xs) (ys ++ two_code line operation ∷ []) = code_back G ps p references at xs (ys ++ two_code line operation ∷ []) all in
            let ends : length code ≡ length xs + length ys + 1 = omega (arith, ap length is, length-append xs (ys ++ two_code line operation ∷ []), length-append ys (two_code line operation ∷ [])) in
            followed_as n kind kind (Two operation x y) line at code (xs ++ (ys ++ two_code line operation ∷ [])) refl is
            (two_follows n operation x y k l kind kinds line at xs ys
            (expression_follows k x is_x line at xs x_code (code_front G ps p references at xs (ys ++ two_code line operation ∷ []) all) (omega (arith, ends, inside)))
            (expression_follows l y is_y line (at + length xs) ys y_code (code_front G ps p references (at + length xs) ys (two_code line operation ∷ []) rest) (omega (arith, ends, inside)))
            (code_back G ps p references (at + length xs) ys (two_code line operation ∷ []) rest))
        expression_follows kind (Short operation x y) (is_kind, is_x, is_y) line at code (xs, ys, x_code, y_code, is) stands inside =
            let ks : List Instr = keep_code line operation in
            let right : ℕ = at + length xs + length ks + 2 in
            let end : ℕ = right + length ys in
            let jump : Instr = instr op.JUMP_FALSE (pos end) 0 line in
            let drop : Instr = bare line op.DROP in
            let all : CodeStands G ps p references at (xs ++ (ks ++ jump ∷ drop ∷ ys)) = subst (λ c. CodeStands G ps p references at c) is stands in
            let kept : CodeStands G ps p references (at + length xs) ((ks ++ jump ∷ drop ∷ []) ++ ys) = subst (λ c. CodeStands G ps p references (at + length xs) c) (sym (append_assoc ks (jump ∷ drop ∷ []) ys)) (code_back G ps p references at xs (ks ++ jump ∷ drop ∷ ys) all) in
            let between : length (ks ++ jump ∷ drop ∷ []) ≡ length ks + 2 = omega (arith, length-append ks (jump ∷ drop ∷ [])) in
            let at_right : at + length xs + length (ks ++ jump ∷ drop ∷ []) ≡ right = omega (arith, between) in
            let ends : at + length code ≡ end = omega (arith, ap length is, length-append xs (ks ++ jump ∷ drop ∷ ys), length-append ks (jump ∷ drop ∷ ys)) in
            followed_as n kind (Ordinal host.Boolean) (Short operation x y) line at code (xs ++ (ks ++ jump ∷ drop ∷ ys)) is_kind is
            (short_follows n operation x y line at xs ys
            (expression_follows (Ordinal host.Boolean) x is_x line at xs x_code (code_front G ps p references at xs (ks ++ jump ∷ drop ∷ ys) all) (omega (arith, ends, inside)))
            (expression_follows (Ordinal host.Boolean) y is_y line right ys y_code (subst (λ k. CodeStands G ps p references k ys) at_right (code_back G ps p references (at + length xs) (ks ++ jump ∷ drop ∷ []) ys kept)) (omega (arith, ends, inside)))
            (omega (arith, ends, inside)) (code_front G ps p references (at + length xs) (ks ++ jump ∷ drop ∷ []) ys kept))
        expression_follows kind (Step down low high x y) (h, is_kind, is_low, is_high, is_x, is_y) line at code (xs, ys, x_code, y_code, is) stands inside =
            let all : CodeStands G ps p references at (xs ++ (ys ++ step_code line down low high)) = subst (λ c. CodeStands G ps p references at c) is stands in
            let rest : CodeStands G ps p references (at + length xs) (ys ++ step_code line down low high) = code_back G ps p references at xs (ys ++ step_code line down low high) all in
            let ends : length code ≡ length xs + length ys + length (step_code line down low high) = omega (arith, ap length is, length-append xs (ys ++ step_code line down low high), length-append ys (step_code line down low high)) in
            followed_as n kind (Ordinal h) (Step down low high x y) line at code (xs ++ (ys ++ step_code line down low high)) is_kind is
            (stepped_follows n h down low high is_low is_high x y line at xs ys
            (expression_follows (Ordinal h) x is_x line at xs x_code (code_front G ps p references at xs (ys ++ step_code line down low high) all) (omega (arith, ends, inside)))
            (expression_follows (Ordinal host.Integer) y is_y line (at + length xs) ys y_code (code_front G ps p references (at + length xs) ys (step_code line down low high) rest) (omega (arith, ends, inside)))
            (code_back G ps p references (at + length xs) ys (step_code line down low high) rest))
        expression_follows kind (Function callee given) (r, is_callee, is_function, are_given) line at code (xs, k, given_code, named, is) stands inside =
            let all : CodeStands G ps p references at (xs ++ instr op.CALL (pos k) callee.levels line ∷ instr op.JUMP (pos (at + length xs + 2)) 0 line ∷ []) = subst (λ c. CodeStands G ps p references at c) is stands in
            let ends : length code ≡ length xs + 2 = omega (arith, ap length is, length-append xs (instr op.CALL (pos k) callee.levels line ∷ instr op.JUMP (pos (at + length xs + 2)) 0 line ∷ [])) in
            let keeps : RoutineKeeps layout G ps call n declared.types (declared.around callee.unit callee.number) callee.unit callee.number r = routine_kept kept callee.unit callee.number r is_callee.there in
            followed_as n kind kind (Function callee given) line at code (xs ++ instr op.CALL (pos k) callee.levels line ∷ instr op.JUMP (pos (at + length xs + 2)) 0 line ∷ []) refl is
            (function_follows ps p references room knows lasts among call steady_call g unit n kind line at callee k given xs r keeps is_function
            (arguments_follow declared.types r.formals keeps.formals given keeps.passed are_given line at xs given_code (code_front G ps p references at xs (instr op.CALL (pos k) callee.levels line ∷ instr op.JUMP (pos (at + length xs + 2)) 0 line ∷ []) all) (omega (arith, ends, inside)))
            is_callee.declared_up named all (omega (arith, ends, inside)))
        expression_follows kind (IndexedValue x y) (low, high, of, is_x, of_kind, (h, of_host, is_y)) line at code (xs, ys, x_code, y_code, is) stands inside =
            let index : Instr = bare line op.INDEX in
            let all : CodeStands G ps p references at (xs ++ (ys ++ index ∷ [])) = subst (λ c. CodeStands G ps p references at c) is stands in
            let rest : CodeStands G ps p references (at + length xs) (ys ++ index ∷ []) = code_back G ps p references at xs (ys ++ index ∷ []) all in
            let ends : length code ≡ length xs + length ys + 1 = omega (arith, ap length is, length-append xs (ys ++ index ∷ []), length-append ys (index ∷ [])) in
            followed_as n kind kind (IndexedValue x y) line at code (xs ++ (ys ++ index ∷ [])) refl is
            (indexed_value_follows ps p references call steady_call g unit line n kind h low high of of_kind x y at xs ys
            (expression_follows (Structured (type.Array low high of)) x is_x line at xs x_code (code_front G ps p references at xs (ys ++ index ∷ []) all) (omega (arith, ends, inside)))
            (expression_follows (Ordinal h) y is_y line (at + length xs) ys y_code (code_front G ps p references (at + length xs) ys (index ∷ []) rest) (omega (arith, ends, inside)))
            (code_back G ps p references (at + length xs) ys (index ∷ []) rest))
        expression_follows kind (FieldValue x k) (ts, of, is_x, among_types, of_kind) line at code (xs, x_code, is) stands inside =
            let field : Instr = instr op.FIELD (pos k) 0 line in
            let all : CodeStands G ps p references at (xs ++ field ∷ []) = subst (λ c. CodeStands G ps p references at c) is stands in
            let ends : length code ≡ length xs + 1 = omega (arith, ap length is, length-append xs (field ∷ [])) in
            followed_as n kind kind (FieldValue x k) line at code (xs ++ field ∷ []) refl is
            (field_value_follows ps p references call steady_call g unit line n kind ts k of among_types of_kind x at xs
            (expression_follows (Structured (type.Record ts)) x is_x line at xs x_code (code_front G ps p references at xs (field ∷ []) all) (omega (arith, ends, inside)))
            (code_back G ps p references at xs (field ∷ []) all))
        expression_follows kind (VariantValue x s k) (ts, inner, low, high, is_x, has_tag, has_variant, is_kind, (h, of_host)) line at code (xs, x_code, is) stands inside =
            let rest : List Instr = variant_part_code line (at + length xs) s k in
            let all : CodeStands G ps p references at (xs ++ rest) = subst (λ c. CodeStands G ps p references at c) is stands in
            let ends : length code ≡ length xs + length rest = omega (arith, ap length is, length-append xs rest) in
            followed_as n kind (Structured (type.Record inner)) (VariantValue x s k) line at code (xs ++ rest) is_kind is
            (variant_value_follows layout G untouched Here ps p references call steady_call g unit room n line k s ts inner low high has_tag has_variant h of_host x at xs
            (expression_follows (Structured (type.Record ts)) x is_x line at xs x_code (code_front G ps p references at xs rest all) (omega (arith, ends, inside)))
            (code_back G ps p references at xs rest all) (omega (arith, ends, inside)))
        expression_follows kind (SetConstant ms) (h, is_kind, is_set, of_host) line at code is stands inside =
            followed_as n kind (Set h) (SetConstant ms) line at code (bare line op.SET_NONE ∷ members_code line ms) is_kind is
            (λ injection memory below d le unit_is.
            fragment_post (λ r longer after pushed i. record { grown = i.grown; routine = i.routine; operands_are = record { members = ms; is_members = (i.operands_are).0; is_set = is_set; is = (i.operands_are).1 } })
            (fragment_to (omega arith) (set_follows ps p references call g unit line n ms is_set at (subst (λ c. CodeStands G ps p references at c) is stands) injection memory below d)))
        expression_follows kind (tree.Structured number es) (d, is_kind, structured, are) line at code (xs, es_code, is) stands inside =
            let all : CodeStands G ps p references at (begin_code line number ++ (xs ++ end_code line)) = subst (λ c. CodeStands G ps p references at c) is stands in
            let ends : length code ≡ 7 + length xs = omega (arith, ap length is, length-append xs (end_code line)) in
            let some : 0 < length declared.types = omega (arith, named_within declared.types number d.type_value d.typed) in
            let here : CodeStands G ps p references (at + 4) (xs ++ end_code line) = subst (λ i. CodeStands G ps p references i (xs ++ end_code line)) {x = at + 1 + 1 + 1 + 1} {y = at + 4} (omega arith) all.1.1.1.1 in
            followed_as n kind (Structured (bare_of d.type_value)) (tree.Structured number es) line at code (begin_code line number ++ (xs ++ end_code line)) is_kind is
            (structured_follows declared layout G untouched Here lasts among ps p references call steady_call n kept g unit line declared.types (unit_is, refl) referred swap_referred number d.type_value d.typed structured es at xs
            (elements_follow (swap_kept kept unit declared.types (unit_is, refl) some) (arrays_kept kept unit declared.types (unit_is, refl) some) (bare_of d.type_value) es are line (at + 4) xs es_code (code_front G ps p references (at + 4) xs (end_code line) here) (omega (arith, ends, inside))) all)
        expression_follows kind (SetOf ds) (h, is_kind, are) line at code (xs, members, is) stands inside =
            let none : Instr = bare line op.SET_NONE in
            let all : CodeStands G ps p references at (none ∷ xs) = subst (λ c. CodeStands G ps p references at c) is stands in
            let ends : length code ≡ 1 + length xs = omega (arith, ap length is) in
            followed_as n kind (Set h) (SetOf ds) line at code (none ∷ xs) is_kind is
            (constructor_follows ps p references call steady_call g unit line n h ds at xs all.0
            (designators_follow h ds are line (at + 1) xs members all.1 (omega (arith, ends, inside))))
        expression_follows kind (OnSets operation x y) (k, l, kinds, is_x, is_y) line at code (xs, ys, x_code, y_code, is) stands inside =
            let operate : Instr = set_code line operation in
            let all : CodeStands G ps p references at (xs ++ (ys ++ operate ∷ [])) = subst (λ c. CodeStands G ps p references at c) is stands in
            let rest : CodeStands G ps p references (at + length xs) (ys ++ operate ∷ []) = code_back G ps p references at xs (ys ++ operate ∷ []) all in
            let ends : length code ≡ length xs + length ys + 1 = omega (arith, ap length is, length-append xs (ys ++ operate ∷ []), length-append ys (operate ∷ [])) in
            followed_as n kind kind (OnSets operation x y) line at code (xs ++ (ys ++ operate ∷ [])) refl is
            (on_sets_follows ps p references call steady_call g unit line n operation x y k l kind kinds at xs ys
            (expression_follows k x is_x line at xs x_code (code_front G ps p references at xs (ys ++ operate ∷ []) all) (omega (arith, ends, inside)))
            (expression_follows l y is_y line (at + length xs) ys y_code (code_front G ps p references (at + length xs) ys (operate ∷ []) rest) (omega (arith, ends, inside)))
            (code_back G ps p references (at + length xs) ys (operate ∷ []) rest))
        expression_follows kind (Card x) (h, is_kind, is_x) line at code (xs, x_code, is) stands inside =
            let card : Instr = bare line op.CARD in
            let all : CodeStands G ps p references at (xs ++ card ∷ []) = subst (λ c. CodeStands G ps p references at c) is stands in
            let ends : length code ≡ length xs + 1 = omega (arith, ap length is, length-append xs (card ∷ [])) in
            let last : CodeStands G ps p references (at + length xs) (card ∷ []) = code_back G ps p references at xs (card ∷ []) all in
            followed_as n kind (Ordinal host.Integer) (Card x) line at code (xs ++ card ∷ []) is_kind is
            (card_follows ps p references call steady_call g unit line n h x at xs
            (expression_follows (Set h) x is_x line at xs x_code (code_front G ps p references at xs (card ∷ []) all) (omega (arith, ends, inside))) last.0)

        -- What a component of a structured value is given, where the unit has the routines that it calls.
        element_follows : SwapStands G ps unit declared.first_private → ArrayRoutinesStand G ps unit declared.first_private → (t : TypeValue) (e : Element) → IsElement declared t e → (line at : ℕ) (is : List Instr) → IsElementCode texts references line at e is → CodeStands G ps p references at is → at + length is < p.instructions.own
            → IsElementFollowed layout G untouched Here lasts ps p references call steady_call g unit line n t e at is
        element_follows swap arrays (type.Ordinal low high) e valid line at code is stands inside = absurd valid
        element_follows swap arrays type.Text e valid line at code is stands inside = absurd valid
        element_follows swap arrays (type.Set low high) e valid line at code is stands inside = absurd valid
        element_follows swap arrays (type.Initial of start) e valid line at code is stands inside = absurd valid
        element_follows swap arrays (type.Array low high of) (AtField steps x) valid line at code is stands inside = absurd valid
        element_follows swap arrays (type.Array low high of) (SameField from to) valid line at code is stands inside = absurd valid
        element_follows swap arrays (type.Record ts) (AtIndex x y) valid line at code is stands inside = absurd valid
        element_follows swap arrays (type.Record ts) (AtRanges ranges x) valid line at code is stands inside = absurd valid
        element_follows swap arrays (type.Record ts) (AtIndexes ds x) valid line at code is stands inside = absurd valid
        element_follows swap arrays (type.Array low high of) (AtIndexes ds x) ((h, bounds, are), (k, of_kind, is_x)) line at code (xs, ys, ds_code, x_code, is) stands inside =
            let here : ℕ = at + length xs + length ys in
            let count : ℕ = designators_count ds in
            let spreads : List Instr = spreads_code line here count in
            let last : List Instr = bare line op.DROP ∷ [] in
            let all : CodeStands G ps p references at (xs ++ (ys ++ (spreads ++ last))) = subst (λ c. CodeStands G ps p references at c) is stands in
            let long = spreads_length line here count in
            let ends : length code ≡ length xs + length ys + 15 * count + 1 = omega (arith, ap length is, length-append xs (ys ++ (spreads ++ last)), length-append ys (spreads ++ last), length-append spreads last, long) in
            let behind : CodeStands G ps p references (at + length xs) (ys ++ (spreads ++ last)) = code_back G ps p references at xs (ys ++ (spreads ++ last)) all in
            let rest : CodeStands G ps p references here (spreads ++ last) = code_back G ps p references (at + length xs) ys (spreads ++ last) behind in
            let drop = code_back G ps p references here spreads last rest in
            at_indexes_follow declared layout G untouched Here lasts ps p references call steady_call g unit line n room swap swap_referred arrays arrays_referred low high bounds.3 bounds.4 of k of_kind ds x at (here + 15 * count) code
            (all_given declared layout G untouched Here lasts ps p references call steady_call g unit line n room swap swap_referred arrays arrays_referred low high bounds.3 bounds.4 of k of_kind ds (eval call g unit line x) (steady_eval call steady_call g unit line x) at here xs
            (ranges_follow swap arrays low high bounds.3 bounds.4 of k of_kind h ds are line at xs ds_code (code_front G ps p references at xs (ys ++ (spreads ++ last)) all) (omega (arith, ends, inside)))
            (value_alone declared layout G untouched Here lasts ps p references call steady_call g unit line n room swap swap_referred arrays arrays_referred low high bounds.3 bounds.4 of k of_kind x (at + length xs) ys
            (expression_follows k x is_x line (at + length xs) ys x_code (code_front G ps p references (at + length xs) ys (spreads ++ last) behind) (omega (arith, ends, inside))))
            (code_front G ps p references here spreads last rest) (omega (arith, ends, inside)))
            (instr_at G (omega (arith, long)) drop.0) (omega (arith, ends))
        element_follows swap arrays (type.Array low high of) (AtRanges [] x) (bounds, some, within, its) line at code is stands inside = absurd some
        element_follows swap arrays (type.Array low high of) (AtRanges (r ∷ more) x) ((h, bounds), some, within, (k, of_kind, is_x)) line at code (xs, x_code, is) stands inside =
            let first : List Instr = first_code line (r ∷ more) in
            let behind : List Instr = bare line op.STORE ∷ ranges_code line r.low (r ∷ more) in
            let all : CodeStands G ps p references at (first ++ (xs ++ behind)) = subst (λ c. CodeStands G ps p references at c) is stands in
            let ends : length code ≡ 3 + length xs + length behind = omega (arith, ap length is, length-append first (xs ++ behind), length-append xs behind) in
            let here : CodeStands G ps p references (at + 3) (xs ++ behind) = code_back G ps p references at first (xs ++ behind) all in
            subst (λ c. IsElementFollowed layout G untouched Here lasts ps p references call steady_call g unit line n (type.Array low high of) (AtRanges (r ∷ more) x) at c) (sym is)
            (at_ranges_follow declared layout G untouched Here lasts ps p references call steady_call g unit line n arrays.fill arrays_referred.fill low high bounds.3 bounds.4 of k of_kind r more within x at xs
            (expression_follows k x is_x line (at + 3) xs x_code (code_front G ps p references (at + 3) xs behind here) (omega (arith, ends, inside))) all)
        element_follows swap arrays (type.Array low high of) (AtIndex x y) ((h, index_of, is_x), (k, of_kind, is_y)) line at code (xs, ys, x_code, y_code, is) stands inside =
            let store : List Instr = bare line op.STORE ∷ [] in
            let behind : List Instr = bare line op.INDEX ∷ (ys ++ store) in
            let all : CodeStands G ps p references at (bare line op.DUP ∷ (xs ++ behind)) = subst (λ c. CodeStands G ps p references at c) is stands in
            let ends : length code ≡ length xs + length ys + 3 = omega (arith, ap length is, length-append xs behind, length-append ys store) in
            let rest = code_back G ps p references (at + 1) xs behind all.1 in
            subst (λ c. IsElementFollowed layout G untouched Here lasts ps p references call steady_call g unit line n (type.Array low high of) (AtIndex x y) at c) (sym is)
            (at_index_follows layout G untouched Here lasts ps p references call steady_call g unit line n low high of h k x y of_kind at xs ys
            (expression_follows (Ordinal h) x is_x line (at + 1) xs x_code (code_front G ps p references (at + 1) xs behind all.1) (omega (arith, ends, inside)))
            (expression_follows k y is_y line (at + 1 + length xs + 1) ys y_code (code_front G ps p references (at + 1 + length xs + 1) ys store rest.1) (omega (arith, ends, inside))) all)
        element_follows swap arrays (type.Record ts) (AtField steps x) (k, (of, leads, of_kind), is_x) line at code (xs, x_code, is) stands inside =
            let store : List Instr = bare line op.STORE ∷ [] in
            let reach : List Instr = reach_code line steps in
            let all : CodeStands G ps p references at (reach ++ (xs ++ store)) = subst (λ c. CodeStands G ps p references at c) is stands in
            let ends : length code ≡ length reach + length xs + 1 = omega (arith, ap length is, length-append reach (xs ++ store), length-append xs store) in
            let here : CodeStands G ps p references (at + length reach) (xs ++ store) = code_back G ps p references at reach (xs ++ store) all in
            subst (λ c. IsElementFollowed layout G untouched Here lasts ps p references call steady_call g unit line n (type.Record ts) (AtField steps x) at c) (sym is)
            (at_field_follows layout G untouched Here lasts ps p references call steady_call g unit line n ts of k steps x leads of_kind at xs
            (expression_follows k x is_x line (at + length reach) xs x_code (code_front G ps p references (at + length reach) xs store here) (omega (arith, ends, inside))) all)
        element_follows swap arrays (type.Record ts) (SameField from to) (k, source, goal) line at code is stands inside =
            subst (λ c. IsElementFollowed layout G untouched Here lasts ps p references call steady_call g unit line n (type.Record ts) (SameField from to) at c) (sym is)
            (same_field_follows declared layout G untouched Here lasts ps p references call steady_call g unit line n swap swap_referred ts from to k source goal at (subst (λ c. CodeStands G ps p references at c) is stands))

        -- The indexes of ranges, in order.
        ranges_follow : SwapStands G ps unit declared.first_private → (arrays : ArrayRoutinesStand G ps unit declared.first_private) → (low high : ℤ) → IsTrue (is_integer low) → IsTrue (is_integer high) → (of : TypeValue) (k : ValueKind) → IsTypeOfKind k of
            → (h : Host) (ds : Designators) → AreDesignators declared h ds → (line at : ℕ) (is : List Instr) → AreIndexesCode texts references line at ds is → CodeStands G ps p references at is → at + length is < p.instructions.own
            → AreRangesFollowed layout G untouched Here p call g unit line n low high of ds at is
        ranges_follow swap arrays low high small large of k of_kind h no_member are line at is code stands inside = code
        ranges_follow swap arrays low high small large of k of_kind h (next_member d more) (valid, others) line at is (xs, ys, d_code, more_code, parts) stands inside =
            let all : CodeStands G ps p references at (xs ++ ys) = subst (λ c. CodeStands G ps p references at c) parts stands in
            let ends : length is ≡ length xs + length ys = omega (arith, ap length parts, length-append xs ys) in (
              xs,
              ys,
              span_follows swap arrays low high small large of k of_kind h d valid line at xs d_code (code_front G ps p references at xs ys all) (omega (arith, ends, inside)),
              ranges_follow swap arrays low high small large of k of_kind h more others line (at + length xs) ys more_code (code_back G ps p references at xs ys all) (omega (arith, ends, inside)),
              parts,
            )

        -- The indexes of one.
        span_follows : SwapStands G ps unit declared.first_private → (arrays : ArrayRoutinesStand G ps unit declared.first_private) → (low high : ℤ) → IsTrue (is_integer low) → IsTrue (is_integer high) → (of : TypeValue) (k : ValueKind) → IsTypeOfKind k of
            → (h : Host) (d : Designator) → IsDesignator declared h d → (line at : ℕ) (is : List Instr) → IsRangeCode texts references line at d is → CodeStands G ps p references at is → at + length is < p.instructions.own
            → IsRangeFollowed layout G untouched Here p call g unit line n low high of d at is
        span_follows swap arrays low high small large of k of_kind h (Single x) is_x line at code (xs, x_code, is) stands inside =
            let last : List Instr = bare line op.DUP ∷ tested_code line in
            let all : CodeStands G ps p references at (xs ++ last) = subst (λ c. CodeStands G ps p references at c) is stands in
            let ends : length code ≡ length xs + length last = omega (arith, ap length is, length-append xs last) in
            subst (λ c. IsRangeFollowed layout G untouched Here p call g unit line n low high of (Single x) at c) (sym is)
            (alone_follows declared layout G untouched Here lasts ps p references call steady_call g unit line n room swap swap_referred arrays arrays_referred low high small large of k of_kind h x at xs
            (expression_follows (Ordinal h) x is_x line at xs x_code (code_front G ps p references at xs last all) (omega (arith, ends, inside))) all)
        span_follows swap arrays low high small large of k of_kind h (Range x y) (is_x, is_y) line at code (xs, ys, x_code, y_code, is) stands inside =
            let last : List Instr = tested_code line in
            let all : CodeStands G ps p references at (xs ++ (ys ++ last)) = subst (λ c. CodeStands G ps p references at c) is stands in
            let ends : length code ≡ length xs + length ys + length last = omega (arith, ap length is, length-append xs (ys ++ last), length-append ys last) in
            subst (λ c. IsRangeFollowed layout G untouched Here p call g unit line n low high of (Range x y) at c) (sym is)
            (pair_follows declared layout G untouched Here lasts ps p references call steady_call g unit line n room swap swap_referred arrays arrays_referred low high small large of k of_kind h x y at xs ys
            (expression_follows (Ordinal h) x is_x line at xs x_code (code_front G ps p references at xs (ys ++ last) all) (omega (arith, ends, inside)))
            (expression_follows (Ordinal h) y is_y line (at + length xs) ys y_code (code_front G ps p references (at + length xs) ys last (code_back G ps p references at xs (ys ++ last) all)) (omega (arith, ends, inside))) all)

        -- What components are given, in order.
        elements_follow : SwapStands G ps unit declared.first_private → ArrayRoutinesStand G ps unit declared.first_private → (t : TypeValue) (es : Elements) → AreElements declared t es → (line at : ℕ) (is : List Instr) → AreElementsCode texts references line at es is → CodeStands G ps p references at is → at + length is < p.instructions.own
            → AreElementsFollowed layout G untouched Here lasts ps p references call steady_call g unit line n t es at is
        elements_follow swap arrays t no_element valid line at is code stands inside = no_element_follows layout G untouched Here lasts ps p references call steady_call g unit line n t at is code
        elements_follow swap arrays t (next_element e es) (valid, others) line at is (xs, ys, e_code, es_code, parts) stands inside =
            let all : CodeStands G ps p references at (xs ++ ys) = subst (λ c. CodeStands G ps p references at c) parts stands in
            let ends : length is ≡ length xs + length ys = omega (arith, ap length parts, length-append xs ys) in
            next_element_follows layout G untouched Here lasts ps p references call steady_call g unit line n t e es at xs ys is parts
            (element_follows swap arrays t e valid line at xs e_code (code_front G ps p references at xs ys all) (omega (arith, ends, inside)))
            (elements_follow swap arrays t es others line (at + length xs) ys es_code (code_back G ps p references at xs ys all) (omega (arith, ends, inside)))

        -- a member designator
        designator_follows : (h : Host) (d : Designator) → IsDesignator declared h d → (line at : ℕ) (is : List Instr) → IsDesignatorCode texts references line at d is → CodeStands G ps p references at is → at + length is < p.instructions.own
            → IsDesignatorFollowed layout G untouched Here p call g unit line n d at is
        designator_follows h (Single x) is_x line at code (xs, x_code, is) stands inside =
            let add : Instr = bare line op.SET_ADD in
            let all : CodeStands G ps p references at (xs ++ add ∷ []) = subst (λ c. CodeStands G ps p references at c) is stands in
            let ends : length code ≡ length xs + 1 = omega (arith, ap length is, length-append xs (add ∷ [])) in
            let last : CodeStands G ps p references (at + length xs) (add ∷ []) = code_back G ps p references at xs (add ∷ []) all in
            subst (λ c. IsDesignatorFollowed layout G untouched Here p call g unit line n (Single x) at c) (sym is)
            (single_follows ps p references call steady_call g unit line n h x at xs
            (expression_follows (Ordinal h) x is_x line at xs x_code (code_front G ps p references at xs (add ∷ []) all) (omega (arith, ends, inside))) last.0)
        designator_follows h (Range x y) (is_x, is_y) line at code (xs, ys, x_code, y_code, is) stands inside =
            let span : Instr = bare line op.SET_SPAN in
            let all : CodeStands G ps p references at (xs ++ (ys ++ span ∷ [])) = subst (λ c. CodeStands G ps p references at c) is stands in
            let rest : CodeStands G ps p references (at + length xs) (ys ++ span ∷ []) = code_back G ps p references at xs (ys ++ span ∷ []) all in
            let ends : length code ≡ length xs + length ys + 1 = omega (arith, ap length is, length-append xs (ys ++ span ∷ []), length-append ys (span ∷ [])) in
            let last : CodeStands G ps p references (at + length xs + length ys) (span ∷ []) = code_back G ps p references (at + length xs) ys (span ∷ []) rest in
            subst (λ c. IsDesignatorFollowed layout G untouched Here p call g unit line n (Range x y) at c) (sym is)
            (range_follows ps p references call steady_call g unit line n h x y at xs ys
            (expression_follows (Ordinal h) x is_x line at xs x_code (code_front G ps p references at xs (ys ++ span ∷ []) all) (omega (arith, ends, inside)))
            (expression_follows (Ordinal h) y is_y line (at + length xs) ys y_code (code_front G ps p references (at + length xs) ys (span ∷ []) rest) (omega (arith, ends, inside))) last.0)

        -- member designators, from left to right
        designators_follow : (h : Host) (ds : Designators) → AreDesignators declared h ds → (line at : ℕ) (is : List Instr) → AreDesignatorsCode texts references line at ds is → CodeStands G ps p references at is → at + length is < p.instructions.own
            → AreDesignatorsFollowed layout G untouched Here p call g unit line n ds at is
        designators_follow h no_member valid line at is code stands inside = no_member_follows ps p references call steady_call g unit line n at is code
        designators_follow h (next_member d ds) (valid, others) line at is (xs, ys, d_code, ds_code, parts) stands inside =
            let all : CodeStands G ps p references at (xs ++ ys) = subst (λ c. CodeStands G ps p references at c) parts stands in
            let ends : length is ≡ length xs + length ys = omega (arith, ap length parts, length-append xs ys) in
            next_member_follows ps p references call steady_call g unit line n d ds at xs ys is parts
            (designator_follows h d valid line at xs d_code (code_front G ps p references at xs ys all) (omega (arith, ends, inside)))
            (designators_follow h ds others line (at + length xs) ys ds_code (code_back G ps p references at xs ys all) (omega (arith, ends, inside)))

        -- an actual parameter
        argument_follows : (k : Passing) (a : Actual) → Fits declared k a → (line at : ℕ) (is : List Instr) → IsActualCode texts references line at a is → CodeStands G ps p references at is → at + length is < p.instructions.own → IsArgumentFollowed layout G untouched Here p call g unit n k a line at is
        argument_follows (ByValue k) (Accessed q) fit line at is h stands inside = absurd fit
        argument_follows (ByReference t) (Evaluated x) fit line at is h stands inside = absurd fit
        argument_follows (ByValue k) (Evaluated x) fit line at is h stands inside =
            value_follows p call steady_call g unit n k x line at is (expression_follows k x fit line at is h stands inside)
        argument_follows (ByReference t) (Accessed q) fit line at is h stands inside =
            accessed_follows p call steady_call g unit n t q line at is (place_follows q (valid_place declared (λ types d. bare_type_of types d ≡ Some t) q fit) t (variable_type declared scene.types_valid scene.own_types_valid t q fit) line at is h stands inside)

        -- Actual parameters, from left to right: the machine leaves what the formal ones take on the operands below.
        pub arguments_follow : (types : List UnitType) (fs : List Formal) (formals : List Passing) (given : Actuals) → ArePassed types fs formals → AreGiven declared types fs given → (line at : ℕ) (is : List Instr) → AreActualsCode texts references line at given is → CodeStands G ps p references at is → at + length is < p.instructions.own
            → AreArgumentsFollowed layout G untouched Here p call g unit n formals given line at is
        arguments_follow types [] [] no_actual passed valid line at is h stands inside = none_follows p call steady_call g unit n line at is h
        arguments_follow types [] [] (next_actual a given) passed valid line at is h stands inside = absurd valid
        arguments_follow types [] (k ∷ formals) given passed valid line at is h stands inside = absurd passed
        arguments_follow types (f ∷ fs) [] given passed valid line at is h stands inside = absurd passed
        arguments_follow types (f ∷ fs) (k ∷ formals) no_actual passed valid line at is h stands inside = absurd valid
        arguments_follow types (f ∷ fs) (k ∷ formals) (next_actual a given) passed valid line at is h stands inside =
            let all : CodeStands G ps p references at (h.0 ++ h.1) = subst (λ c. CodeStands G ps p references at c) h.4 stands in
            let ends : length is ≡ length h.0 + length h.1 = omega (arith, ap length h.4, length-append h.0 h.1) in
            next_follows p call steady_call g unit n k formals a given line at h.0 h.1 is h.4
            (argument_follows k a (fits declared types f.mode f k a passed.0 valid.0) line at h.0 h.2 (code_front G ps p references at h.0 h.1 all) (omega (arith, ends, inside)))
            (arguments_follow types fs formals given passed.1 valid.1 line (at + length h.0) h.1 h.3 (code_back G ps p references at h.0 h.1 all) (omega (arith, ends, inside)))

      -- The actual parameters, the call, and what comes after it. Where the results lie on the operands behind the call, in a memory that has grown, what comes after it is followed from there.
      pub call_then : {B : Type 0} {Then : B → Operands} {e : B → ℕ} {to : ℕ} (line at : ℕ) (callee : Callee) (k : ℕ) (given : Actuals) (xs : List Instr) (r : RoutineEntry) (keeps : RoutineKeeps layout G ps call n declared.types (declared.around callee.unit callee.number) callee.unit callee.number r)
          → AreGiven declared declared.types r.formals given → AreActualsCode texts references line at given xs → IsDeclaredUp declared callee callee.levels → slice_get references k ≡ Some (reference callee.unit callee.number)
          → CodeStands G ps p references at (xs ++ instr op.CALL (pos k) callee.levels line ∷ instr op.JUMP (pos (at + length xs + 2)) 0 line ∷ []) → at + length xs + 2 < p.instructions.own
          → (injection : Injection) (memory : MachineMemory) (below : List Operand) (d : ℕ) → least_credit ≤ d → unit_in G memory.frames ≡ unit
          → (rest : List Result → Computation B) → ((rs : List Result) → Steady (rest rs))
          → ((rs : List Result) (longer : Injection) (after : MachineMemory) (pushed : List Operand) → Grown untouched injection memory longer after → SameRoutine untouched memory.frames after.frames → ResultsOnTop keeps.results below rs longer after pushed → Fragment layout G Here n (point longer after (p.instructions.before + (at + length xs + 1)) pushed) (rest rs) to (λ b. Inside untouched longer after (Then b)) (d + credit_of rs) e)
          → Fragment layout G Here n (point injection memory (p.instructions.before + at) below) (bind (arguments call g unit line given) (λ vs. bind (call.routine unit line callee vs) rest)) to (λ b. Inside untouched injection memory (Then b)) d e
      call_then line at callee k given xs r keeps valid is_code is_declared named stands inside injection memory below d enough home rest steady behind =
          passed_then ps p references room knows lasts among call steady_call g unit n line at callee k given xs r keeps
          (arguments_follow declared.types r.formals keeps.formals given keeps.passed valid line at xs is_code (code_front G ps p references at xs (instr op.CALL (pos k) callee.levels line ∷ instr op.JUMP (pos (at + length xs + 2)) 0 line ∷ []) stands) (omega (arith, inside)))
          is_declared named (instr op.JUMP (pos (at + length xs + 2)) 0 line ∷ []) stands injection memory below d enough home rest steady behind
