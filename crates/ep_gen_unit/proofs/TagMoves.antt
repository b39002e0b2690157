-- The machine follows assignments to tags.
use Rattle.std.proofs.Common.{◌≡◌, ℕ, ℤ, pos, zero, suc, ◌+◌, ◌*◌, ◌-◌, ◌≤◌, ◌<◌, Bool, true, false, ◌&&◌, not, List, [], ◌∷◌, ◌++◌, length, length-append, Option, Some, None, option_map, slice_get, refl, sym, ap, ◌∙◌, subst, arith}
use Rattle.std.proofs.lemmas.Option.{same_Some}
use Rattle.std.specs.Prelude.{All, if◌then◌else◌, is_some, int_le}
use Rattle.ep_gen_code.specs.Instructions.{bare, instr, push}
use Rattle.ep_gen_expr.specs.ExprCode.{tests_code, two_code, IsPlaceCode}
use Rattle.ep_gen_code.proofs.public.Waiting.{row_waits}
use Rattle.ep_gen_expr.proofs.public.PlaceTypes.{IsTypedPlace, among_bare, bare_instance, tag_alone, typed_place}
use Rattle.ep_gen_code.proofs.public.Placed.{code_front, code_back, instr_at, jump_has, jump_false_has}
use Rattle.ep_gen_expr.proofs.public.RangeMoves.{tests_follow, true_ordinal}
use Rattle.ep_gen_expr.proofs.public.Stays.{tests_length}
use Rattle.ep_gen_expr.proofs.public.VariantMoves.{follows_found}
use Rattle.ep_gen_unit.specs.StmtCode.{IsAssignCode}
use Rattle.ep_gen_unit.specs.TagCode.{IsTriedCode, IsChangeCode, IsTakenCode, clear_code, clears_code, none_before, none_now, number_code, number_length, rest_number, selected_code, selected_length, selection_length, selections_code, selections_length, variants_code}
use Rattle.ep_gen_unit.proofs.Parts.{code_stands-parts, Moves, ExpressionsFollow, PlacesFollow, statement_credit}
use Rattle.ep_gen_unit.proofs.Simple.{assigned_moves, store_moves}
use Rattle.ep_gen_unit.proofs.TagLengths.{number_code_length, selected_code_length, selections_code_length}
use Rattle.ep_simulation.specs.Follows.{point, Facts, After, Lasts, Follows, Fragment, Inside, Bare, IsNotLeft, Lands, Operands, PlaceOnTop}
use Rattle.ep_simulation.specs.Layouts.{Layout}
use Rattle.ep_simulation.specs.Matching.{MachineMemory, Injection, IsLike, IsSpot, Matches, Slots, at as standing}
use Rattle.ep_object.specs.Operands.{Operand, Word}
use Rattle.ep_object.specs.Operands as operand
use Rattle.ep_object.specs.Placing.{Placement, CodeStands}
use Rattle.ep_object.specs.Runs.{outcome, unit_in}
use Rattle.ep_simulation.specs.Scene.{Scene}
use Rattle.ep_object.specs.State.{State, Going, Running, Stopped, Error}
use Rattle.ep_object.specs.WordRows.{bit}
use Rattle.ep_object.specs.declared.code.Image.{Image}
use Rattle.ep_object.specs.declared.code.Instr.{Instr}
use Rattle.ep_object.specs.declared.code.Reference.{Reference}
use Rattle.ep_object.specs.declared.op.TheConstants as op
use Rattle.ep_object.specs.declared.state.Place.{Place as PlaceOf}
use Rattle.ep_simulation.proofs.public.following.Bind.{follows_changed, follows_credit, follows_from, follows_give, follows_paid, follows_waits}
use Rattle.ep_simulation.proofs.public.following.Choices.{fragment_branch, fragment_using, going_of}
use Rattle.ep_simulation.proofs.public.following.Fragments.{Does, FailsWith, landed, fragment_bind_bare, fragment_bind_number, fragment_bind_place, fragment_credit, fragment_from, fragment_give, fragment_less, fragment_stop, fragment_to, fragment_waits, inside_bind}
use Rattle.ep_simulation.proofs.public.matching.MoreMemory.{describes-grown, inside_here, is_spot-grown, not_left-here, unit_in-same}
use Rattle.ep_simulation.proofs.public.rows.ChangeRows.{ordinal_takes, undefine_does_any, variable_type}
use Rattle.ep_simulation.proofs.public.rows.FieldRow.{IsAmong, LeadsTo, among_there, field_does, field_fails, field_leads_to}
use Rattle.ep_simulation.proofs.public.rows.PlaceRows.{defined_fails, defined_tells, load_leads}
use Rattle.ep_simulation.proofs.public.rows.Rows.{check_answers, jump_false_jumps, jump_jumps, push_pushes, unequal_answers}
use Rattle.ep_simulation.proofs.public.rows.TextRows.{drop_drops, dup_place}
use Rattle.ep_meaning.proofs.public.Bares.{bare_size, bare_value}
use Rattle.ep_meaning.proofs.public.Typed.{HasComponents, typed_among, typed_components, typed_value}
use Rattle.ep_typed.specs.declared.unit.UnitType.{UnitType}
use Rattle.ep_meaning.proofs.public.Steady.{steady_assign, steady_assigns, steady_bind, steady_changes_variant, steady_clearing, steady_clears_all, steady_eval, steady_give, steady_if, steady_selected, steady_selected_by, steady_selected_now, steady_sets_tag, steady_stop, steady_tag_tested}
use Rattle.ep_meaning.specs.Calls.{Handler}
use Rattle.ep_typed.specs.Denoters.{denoters_count}
use Rattle.ep_typed.specs.Hosts as host
use Rattle.ep_typed.specs.Hosts.{Host, is_of_host}
use Rattle.ep_meaning.specs.Meaning.{changes_variant, clears, clears_all, exec, is_another, looks, selected, selected_by, selected_now, selecting, selects, sets_tag, tag_tested}
use Rattle.ep_values.specs.Events.{Trace}
use Rattle.ep_values.specs.Operations.{Number, Fault, is_same, is_true, ordinal_of}
use Rattle.ep_values.specs.Printing as result
use Rattle.ep_values.specs.Printing.{Result, number_of}
use Rattle.ep_meaning.specs.Results.{result_of, weight_of}
use Rattle.ep_meaning.specs.Steady.{Steady, IsSteadyHandler}
use Rattle.ep_meaning.specs.Steps as meaning
use Rattle.ep_meaning.specs.Steps.{Component, Computation, assigned, bind, change, component, fetch, give, has_ended, is_number, spend, stop, tag_of, type_at}
use Rattle.ep_values.specs.Values.{Undefined}
use Rattle.ep_typed.specs.Selections.{variant_number, variants_count}
use Rattle.ep_typed.specs.Trees.{Denoter, Denoters, Expr, Place, Read, Record, Tagging, AssignTag, entire, next_denoter, no_denoter}
use Rattle.ep_values.specs.TypeValues as type
use Rattle.ep_values.specs.TypeValues.{ComponentTypes, TypeValue, bare_each, bare_of, is_within, size_of, type_among}
use Rattle.ep_meaning.specs.Valid as kind
use Rattle.ep_meaning.specs.Valid.{AreTyped, Declarations, HasRange, IsExpr, IsPlace, IsTagged, IsTagging, IsTyped, IsTypeValue, next_typed, none_typed, tag_type}
use Rattle.ep_values.specs.declared.operations.Binary.TheVariants as binary
use Rattle.ep_values.specs.declared.run_error.TheConstants as run_error
use Rattle.ep_typed.specs.declared.tree.CaseRange.{CaseRange}
use Rattle.ep_typed.specs.declared.tree.Selection.{Selection}

-- ---- numbers of variants

-- what stands for the variant that is selected, where it is another thing if there is none
abbrev pub number_for : ℤ → Option ℕ → ℤ
number_for none None = none
number_for none (Some j) = pos j

-- that number on top
abbrev pub Numbered : ℤ → List Operand → Option ℕ → Operands
Numbered none below o injection memory operands = operands ≡ Word (number_for none o) ∷ below

-- two numbers differ exactly if another variant is selected
another_is : (before now : Option ℕ) → not (is_same (number_for none_before before) (number_for none_now now)) ≡ is_another before now
another_is None None = refl
another_is None (Some k) = refl
another_is (Some j) None = refl
another_is (Some j) (Some k) = refl

module _ {A : Type 0} {layout : Layout} {G : Image} {Here : Facts} (ps : List Placement) (p : Placement) (references : List Reference) (call : Handler) (n : ℕ) (unit : List ℕ) (room : p.instructions.before + p.instructions.own ≤ length G.instructions) where
  -- The tests of the labels of variants, and the number of the one of which a label has the value.
  selections_follow : (line leave k at : ℕ) (labels : List (List CaseRange)) (z : ℤ) → CodeStands G ps p references at (selections_code line leave k at labels) → leave < p.instructions.own → at + selections_length labels < p.instructions.own
      → (injection : Injection) (memory : MachineMemory) (below : List Operand) {to d : ℕ} {chosen : ℕ → Computation A} {fails : Computation A} {P : A → After} {e : A → ℕ} → 8 ≤ d
      → ((j : ℕ) → Fragment layout G Here n (point injection memory (p.instructions.before + leave) (Word (pos j) ∷ below)) (chosen j) to P (d + 6) e)
      → Fragment layout G Here n (point injection memory (p.instructions.before + (at + selections_length labels)) (Word z ∷ below)) fails to P d e
      → Fragment layout G Here n (point injection memory (p.instructions.before + at) (Word z ∷ below)) (selecting call n unit z labels k chosen fails) to P d e
  selections_follow line leave k at [] z stands inside inside_end injection memory below enough finds misses = fragment_from (omega arith) misses
  selections_follow line leave k at ([] ∷ more) z stands inside inside_end injection memory below enough finds misses =
      let here : at + 0 ≡ at = omega arith in
      fragment_from (omega arith) (selections_follow line leave (suc k) (at + 0) more z (subst (λ m. CodeStands G ps p references m (selections_code line leave (suc k) (at + 0) more)) (sym here) stands) inside (omega (arith, inside_end)) injection memory below enough finds (fragment_from (omega arith) misses))
  selections_follow line leave k at ((r ∷ rs) ∷ more) z stands inside inside_end injection memory below {d = d} enough finds misses =
      let count : ℕ = 6 * length (r ∷ rs) in
      let ts : List Instr = tests_code line (at + 6 * length (r ∷ rs) + 1) at (r ∷ rs) in
      let arm : List Instr = instr op.JUMP (pos (at + selection_length (r ∷ rs))) 0 line ∷ bare line op.DROP ∷ push line (pos k) ∷ instr op.JUMP (pos leave) 0 line ∷ [] in
      let others : List Instr = selections_code line leave (suc k) (at + selection_length (r ∷ rs)) more in
      let long : length ts ≡ 6 * length (r ∷ rs) = tests_length line (at + 6 * length (r ∷ rs) + 1) at (r ∷ rs) in
      let whole : length (ts ++ arm) ≡ 6 * length (r ∷ rs) + 4 = omega (arith, long, length-append ts arm) in
      let first = code_front G ps p references at (ts ++ arm) others stands in
      let rest : CodeStands G ps p references (at + selection_length (r ∷ rs)) others = subst (λ m. CodeStands G ps p references m others) (omega (arith, whole)) (code_back G ps p references at (ts ++ arm) others stands) in
      let arm_stands : CodeStands G ps p references (at + 6 * length (r ∷ rs)) arm = subst (λ m. CodeStands G ps p references m arm) (omega (arith, long)) (code_back G ps p references at ts arm first) in
      let over : ℕ = p.instructions.before + (at + 6 * length (r ∷ rs)) in
      let body : ℕ = p.instructions.before + (at + 6 * length (r ∷ rs) + 1) in
      tests_follow ps p references call n unit room n line (at + 6 * length (r ∷ rs) + 1) at r rs z (code_front G ps p references at ts arm first) (omega (arith, inside_end)) (omega (arith, inside_end)) injection memory below enough
      (row_waits {d1 = d + 8} (drop_drops G body line below (Word z) (instr_at G (omega arith) arm_stands.1.0)) (omega arith)
      (row_waits {d1 = d + 7} (push_pushes G (body + 1) line below (pos k) (instr_at G (omega arith) arm_stands.1.1.0)) (omega arith)
      (fragment_waits {place1 = p.instructions.before + leave} {d1 = d + 6} (λ s matches. jump_jumps G (body + 1 + 1) line (Word (pos k) ∷ below) (p.instructions.before + leave) (omega (arith, room, inside)) (instr_at G (omega arith) (jump_has G ps p references line (at + 6 * length (r ∷ rs) + 1 + 1 + 1) leave [] inside arm_stands.1.1.1)) memory s.trace) (omega arith) (finds k))))
      (fragment_waits {place1 = p.instructions.before + (at + selection_length (r ∷ rs))} {d1 = d + 8} (λ s matches. jump_jumps G over line (Word z ∷ below) (p.instructions.before + (at + selection_length (r ∷ rs))) (omega (arith, room, inside_end)) (jump_has G ps p references line (at + 6 * length (r ∷ rs)) (at + selection_length (r ∷ rs)) (bare line op.DROP ∷ push line (pos k) ∷ instr op.JUMP (pos leave) 0 line ∷ []) (omega (arith, inside_end)) arm_stands) memory s.trace) (omega arith)
      (fragment_credit {d = d} (omega arith) (λ a. omega arith) (selections_follow line leave (suc k) (at + selection_length (r ∷ rs)) more z rest inside (omega (arith, inside_end)) injection memory below enough finds (fragment_from (omega arith) misses))))

  -- With a value on top, the number of the variant that it selects takes its place, or what stands for none.
  pub number_follows : (line at : ℕ) (s : Selection) (none z : ℤ) → CodeStands G ps p references at (number_code line at s none) → at + number_length s < p.instructions.own
      → (injection : Injection) (memory : MachineMemory) (below : List Operand) {to d : ℕ} {chosen : ℕ → Computation A} {fails : Computation A} {P : A → After} {e : A → ℕ} → 8 ≤ d
      → ((j : ℕ) → Fragment layout G Here n (point injection memory (p.instructions.before + (at + number_length s)) (Word (pos j) ∷ below)) (chosen j) to P d e)
      → Fragment layout G Here n (point injection memory (p.instructions.before + (at + number_length s)) (Word none ∷ below)) fails to P d e
      → Fragment layout G Here n (point injection memory (p.instructions.before + at) (Word z ∷ below)) (selects call n unit s z chosen fails) to P (d + 2) e
  number_follows line at s none z stands inside injection memory below {to = to} {d = d} {chosen = chosen} {fails = fails} {P = P} {e = e} enough finds misses =
      let tests : List Instr = selections_code line (at + number_length s) 0 at s.labels in
      let ends : List Instr = bare line op.DROP ∷ push line (rest_number s none) ∷ [] in
      let long : length tests ≡ selections_length s.labels = selections_code_length line (at + number_length s) 0 at s.labels in
      let behind : CodeStands G ps p references (at + selections_length s.labels) ends = subst (λ m. CodeStands G ps p references m ends) (omega (arith, long)) (code_back G ps p references at tests ends stands) in
      let place : ℕ = p.instructions.before + (at + selections_length s.labels) in
      selections_follow line (at + number_length s) 0 at s.labels z (code_front G ps p references at tests ends stands) inside (omega (arith, inside)) injection memory below (omega (arith, enough))
      (λ j. fragment_credit {d = d} (omega arith) (λ a. omega arith) (finds j))
      (row_waits {d1 = d + 1} (drop_drops G place line below (Word z) (instr_at G (omega arith) behind.0)) (omega arith)
      (row_waits {d1 = d} (push_pushes G (place + 1) line below (rest_number s none) (instr_at G (omega arith) behind.1.0)) (omega arith)
      (fragment_from {place = p.instructions.before + (at + number_length s)} (omega arith) (rest s.completed))))
    where
      rest : (completed : Bool) → Fragment layout G Here n (point injection memory (p.instructions.before + (at + number_length s)) (Word (if completed then pos (length s.labels) else none) ∷ below)) (if completed then chosen (length s.labels) else fails) to P d e
      rest true = finds (length s.labels)
      rest false = misses

-- a variable whose type has a bare form has a type
with_bare : (o : Option TypeValue) (t : TypeValue) → option_map bare_of o ≡ Some t → (u : TypeValue) × (o ≡ Some u) × (bare_of u ≡ t)
with_bare None t e = cc
with_bare (Some u) t e = (u, refl, same_Some (bare_of u) t e)

-- a component of a record is of a type that variables may have
abbrev IsCleared : ComponentTypes → ℕ → Type 0
IsCleared ts k = (t : TypeValue) × (type_among ts k ≡ Some t) × IsTypeValue t

module _ (declared : Declarations) (layout : Layout) (G : Image) (untouched : Slots) (Here : Facts) (lasts : Lasts untouched Here) (ps : List Placement) (p : Placement) (texts : List (List ℕ)) (references : List Reference) (call : Handler) (steady_call : IsSteadyHandler call) (n : ℕ) (unit : List ℕ) (room : p.instructions.before + p.instructions.own ≤ length G.instructions) where
  -- ---- components of the record

  -- over the place of a record, `Field` leaves that of a component
  component_moves : (line at k : ℕ) (ts : ComponentTypes) (t : TypeValue) (r : Component) (b : PlaceOf) → type_among ts k ≡ Some t → slice_get G.instructions (p.instructions.before + at) ≡ Some (instr op.FIELD (pos k) 0 line)
      → (injection : Injection) (memory : MachineMemory) (below : List Operand) (d : ℕ) → 8 ≤ d → unit_in G memory.frames ≡ unit → IsSpot injection memory.types r b → IsLike memory.types b.type_number (type.Record ts)
      → Fragment layout G Here n (point injection memory (p.instructions.before + at) (operand.Place b ∷ below)) (selected call n unit line r k) (p.instructions.before + at + 1) (λ a. Inside untouched injection memory (PlaceOnTop t below a)) d (λ a. d + 8)
  component_moves line at k ts t r b has_type has injection memory below d enough home spot described =
      let place : ℕ = p.instructions.before + at in
      let among : IsAmong 0 ts k t = among_there 0 ts k t has_type in
      fragment_less {n = suc n} (omega arith) (fragment_using {n = suc n} {d = d} {e = λ a. d + 8} r.allocation
      (λ st matches ended. subst (λ u. FailsWith G (standing place (operand.Place b ∷ below) memory st.trace) 0 run_error.DISPOSED u line st) home (field_fails layout G place line below ts k t r b has injection memory spot described among st matches ended)) (omega (arith, enough))
      (λ st matches here living.
      let does = field_does layout G place line below ts k t r b has injection memory spot described among {untouched = untouched} {Here = Here} st matches here living in
      follows_paid {v = 0} {w = 0} {d1 = d + 8} (not_left-here memory.frames) refl does.does (omega arith) (omega arith) (omega arith) (follows_give (component r k) (omega arith) (landed does))))

  -- a change of the state that spends so many steps, by an instruction of that weight
  follows_sized : {k : State} {s : meaning.State} {to : ℕ} {Post : Unit {0} → After} (w : ℕ) (memory : MachineMemory) (f : meaning.State → meaning.State) (d : ℕ)
      → IsNotLeft memory.frames k.frames → k.trace ≡ s.trace → Does layout G Here k w to (Post tt) (f s)
      → Follows (λ j. IsNotLeft memory.frames j.frames) G n k s (spend w (change f)) (λ a. Lands layout G Here to (Post a)) (d + 1) (λ a. d)
  follows_sized {to = to} {Post = Post} zero memory f d within same does =
      follows_credit {d = 1 + d} {e = λ a. d} (omega arith) (λ a. omega arith) (follows_waits within does.does (follows_changed {n = n} f {P = λ a. Lands layout G Here to (Post a)} {d = d} {e = λ a. d} (omega arith) (landed does)))
  follows_sized {k = k} {s = s} {to = to} {Post = Post} (suc w) memory f d within same does =
      less (follows_paid {n = n} {v = suc w} {w = w} {d = d + 1} {d1 = d} within same does.does (omega arith) (omega arith) (omega arith) (follows_changed {n = n} f {P = λ a. Lands layout G Here to (Post a)} {d = d} {e = λ a. d} (omega arith) (landed does)))
    where
      less : Follows (λ j. IsNotLeft memory.frames j.frames) G (suc n) k s (spend (suc w) (change f)) (λ a. Lands layout G Here to (Post a)) (d + 1) (λ a. d)
          → Follows (λ j. IsNotLeft memory.frames j.frames) G n k s (spend (suc w) (change f)) (λ a. Lands layout G Here to (Post a)) (d + 1) (λ a. d)
      less h = record { by = λ m l. h.by m (omega (arith, l)) }

  -- a component of a record becomes undefined
  clear_moves : (line at k : ℕ) (ts : ComponentTypes) (t : TypeValue) (r : Component) (b : PlaceOf) → type_among ts k ≡ Some t → IsTypeValue t → CodeStands G ps p references at (clear_code line k)
      → (injection : Injection) (memory : MachineMemory) (below : List Operand) (d : ℕ) → 8 ≤ d → unit_in G memory.frames ≡ unit → IsSpot injection memory.types r b → IsLike memory.types b.type_number (type.Record ts)
      → Fragment layout G Here n (point injection memory (p.instructions.before + at) (operand.Place b ∷ below)) (clears call n unit line r k) (p.instructions.before + (at + 3)) (λ a. Inside untouched injection memory (Bare (operand.Place b ∷ below) a)) d (λ a. d)
  clear_moves line at k ts t r b has_type valid stands injection memory below d enough home spot described =
      let place : ℕ = p.instructions.before + at in
      let top : List Operand = operand.Place b ∷ below in
      let among : IsAmong 0 ts k t = among_there 0 ts k t has_type in
      let has : slice_get G.instructions (place + 1) ≡ Some (instr op.FIELD (pos k) 0 line) = instr_at G (omega arith) stands.1.0 in
      let leads : LeadsTo layout G (place + 1) top k t r b injection memory = field_leads_to layout G (place + 1) line top ts k t r b has injection memory spot described among in
      row_waits {d1 = d - 1} (dup_place G place line below b stands.0) (omega (arith, enough))
      (fragment_less {n = suc n} (omega arith) (fragment_using {n = suc n} {d = d - 1} {e = λ a. d} r.allocation
      (λ st matches ended. subst (λ u. FailsWith G (standing (place + 1) (operand.Place b ∷ top) memory st.trace) 0 run_error.DISPOSED u line st) home (field_fails layout G (place + 1) line top ts k t r b has injection memory spot described among st matches ended)) (omega (arith, enough))
      (λ st matches here living.
      let does = undefine_does_any layout G (place + 1 + 1) line top {untouched = untouched} {Here = Here} t (component r k) leads.its_place valid (instr_at G (omega arith) stands.1.1.0) injection memory leads.spot leads.described st matches living lasts here in
      let has_bare : option_map bare_of (type_at (component r k) st) ≡ Some t = variable_type layout G (place + 1 + 1) line top t (component r k) leads.its_place injection memory leads.spot leads.described st matches living in
      let its = with_bare (type_at (component r k) st) t has_bare in
      let same : size_of t ≡ size_of its.0 = ap size_of (sym its.2) ∙ bare_size its.0 in
      follows_paid {n = n} {v = 0} {w = 0} {d = d - 1} {d1 = d + 1} (not_left-here memory.frames) refl (leads.leads st matches living) (omega arith) (omega (arith, enough)) (omega arith)
      (follows_found (λ u. meaning.Error run_error.UNDEFINED_VALUE unit line) (type_at (component r k)) (λ u. spend (size_of u) (change (assigned (component r k) Undefined))) (meaning.Error run_error.UNDEFINED_VALUE unit line) (Some its.0) refl its.1
      (to_end (follows_sized (size_of its.0) memory (assigned (component r k) Undefined) d (not_left-here memory.frames) refl (subst (λ w. Does layout G Here (standing (place + 1 + 1) (operand.Place leads.its_place ∷ top) memory st.trace) w (place + 1 + 1 + 1) (Inside untouched injection memory (Bare top tt)) (assigned (component r k) Undefined st)) same does)))))))
    where
      to_end : {k1 : State} {s : meaning.State} {c : Computation (Unit {0})} {d1 : ℕ} {e : Unit {0} → ℕ}
          → Follows (λ j. IsNotLeft memory.frames j.frames) G n k1 s c (λ a. Lands layout G Here (p.instructions.before + at + 1 + 1 + 1) (Inside untouched injection memory (Bare (operand.Place b ∷ below) a))) d1 e
          → Follows (λ j. IsNotLeft memory.frames j.frames) G n k1 s c (λ a. Lands layout G Here (p.instructions.before + (at + 3)) (Inside untouched injection memory (Bare (operand.Place b ∷ below) a))) d1 e
      to_end {k1 = k1} {s = s} {c = c} {d1 = d1} {e = e} h =
          subst (λ to. Follows (λ j. IsNotLeft memory.frames j.frames) G n k1 s c (λ a. Lands layout G Here to (Inside untouched injection memory (Bare (operand.Place b ∷ below) a))) d1 e) {x = p.instructions.before + at + 1 + 1 + 1} {y = p.instructions.before + (at + 3)} (omega arith) h

  -- ---- all variants

  module _ (line : ℕ) (s : Selection) (ts : ComponentTypes) (r : Component) (b : PlaceOf) where
    -- what is followed over the place of the record
    abbrev Clearing : (from to k m : ℕ) → Injection → MachineMemory → List Operand → ℕ → Type 0
    Clearing from to k m injection memory below d =
        Fragment layout G Here n (point injection memory (p.instructions.before + from) (operand.Place b ∷ below)) (clears_all call n unit line r k m) (p.instructions.before + to) (λ a. Inside untouched injection memory (Bare (operand.Place b ∷ below) a)) d (λ a. d)

    -- the variants with these labels become undefined, and then others
    clears_follow : (labels : List (List CaseRange)) (k m at to : ℕ) → All HasRange labels → CodeStands G ps p references at (clears_code line k labels) → ((i : ℕ) → i < length labels → IsCleared ts (k + i))
        → (injection : Injection) (memory : MachineMemory) (below : List Operand) (d : ℕ) → 8 ≤ d → unit_in G memory.frames ≡ unit → IsSpot injection memory.types r b → IsLike memory.types b.type_number (type.Record ts)
        → ((longer : Injection) (after : MachineMemory) → unit_in G after.frames ≡ unit → IsSpot longer after.types r b → IsLike after.types b.type_number (type.Record ts) → Clearing (at + length (clears_code line k labels)) to (k + length labels) m longer after below d)
        → Clearing at to k (length labels + m) injection memory below d
    clears_follow [] k m at to each stands types injection memory below d enough home spot described rest =
        let same : k + 0 ≡ k = omega arith in
        let here : at + 0 ≡ at = omega arith in
        let none : m ≡ 0 + m = omega arith in
        subst (λ i. Clearing at to k i injection memory below d) none (subst (λ i. Clearing i to k m injection memory below d) here (subst (λ i. Clearing (at + 0) to i m injection memory below d) same (rest injection memory home spot described)))
    clears_follow ([] ∷ more) k m at to each stands types injection memory below d enough home spot described rest = absurd (each 0 [] (omega arith))
    clears_follow ((x ∷ xs) ∷ more) k m at to each stands types injection memory below d enough home spot described rest =
        let first = types 0 (omega arith) in
        let here : k + 0 ≡ k = omega arith in
        let has_type : type_among ts k ≡ Some first.0 = subst (λ i. type_among ts i ≡ Some first.0) here first.1 in
        let parts = code_stands-parts G ps p references at (clear_code line k) (clears_code line (suc k) more) stands in
        let many : suc (length more + m) ≡ length ((x ∷ xs) ∷ more) + m = omega arith in
        subst (λ i. Clearing at to k i injection memory below d) many
        (fragment_bind_bare {e = λ a. d} (λ a. steady_clears_all call steady_call n unit line r (suc k) (length more + m))
        (clear_moves line at k ts first.0 r b has_type first.2 parts.0 injection memory below d enough home spot described) (λ a longer after grown routine.
        clears_follow more (suc k) m (at + 3) to (λ i e less. each (suc i) e (omega (arith, less))) parts.1 (λ i less. subst (λ j. IsCleared ts j) {x = k + suc i} {y = suc k + i} (omega arith) (types (suc i) (omega (arith, less)))) longer after below d enough (unit_in-same G routine ∙ home) (is_spot-grown grown spot) (describes-grown b.type_number (type.Record ts) grown described)
        (λ last final home2 spot2 described2. subst (λ i. Clearing i to (suc k + length more) m last final below d) {x = at + length (clears_code line k ((x ∷ xs) ∷ more))} {y = at + 3 + length (clears_code line (suc k) more)} (omega arith)
        (subst (λ i. Clearing (at + length (clears_code line k ((x ∷ xs) ∷ more))) to i m last final below d) {x = k + length ((x ∷ xs) ∷ more)} {y = suc k + length more} (omega arith) (rest last final home2 spot2 described2)))))

    -- all of them
    variants_follow : (at : ℕ) → All HasRange s.labels → CodeStands G ps p references at (variants_code line s) → ((i : ℕ) → i < variants_count s → IsCleared ts (variant_number s i))
        → (injection : Injection) (memory : MachineMemory) (below : List Operand) (d : ℕ) → 8 ≤ d → unit_in G memory.frames ≡ unit → IsSpot injection memory.types r b → IsLike memory.types b.type_number (type.Record ts)
        → Clearing at (at + length (variants_code line s)) (variant_number s 0) (variants_count s) injection memory below d
    variants_follow at each stands types injection memory below d enough home spot described =
        clears_follow s.labels (variant_number s 0) (if s.completed then 1 else 0) at (at + length (variants_code line s)) each parts.0 (λ i less. subst (λ j. IsCleared ts j) {x = variant_number s i} {y = variant_number s 0 + i} (omega arith) (types i (omega (arith, less)))) injection memory below d enough home spot described
        (λ longer after home2 spot2 described2. last s.completed parts.1 (omega (arith, long)) (λ is. types (length s.labels) (counted s.completed is)) longer after home2 spot2 described2)
      where
        labelled : List Instr
        labelled = clears_code line (variant_number s 0) s.labels

        completing : Bool → List Instr
        completing c = if c then clear_code line (variant_number s (length s.labels)) else []

        parts : CodeStands G ps p references at labelled × CodeStands G ps p references (at + length labelled) (completing s.completed)
        parts = code_stands-parts G ps p references at labelled (completing s.completed) stands

        long : length (variants_code line s) ≡ length labelled + length (completing s.completed)
        long = length-append labelled (completing s.completed)

        counted : (c : Bool) → c ≡ true → length s.labels < length s.labels + (if c then 1 else 0)
        counted true is = omega arith
        counted false is = cc

        last : (c : Bool) → CodeStands G ps p references (at + length labelled) (completing c) → at + length (variants_code line s) ≡ at + length labelled + length (completing c) → (c ≡ true → IsCleared ts (variant_number s (length s.labels)))
            → (longer : Injection) (after : MachineMemory) → unit_in G after.frames ≡ unit → IsSpot longer after.types r b → IsLike after.types b.type_number (type.Record ts) → Clearing (at + length labelled) (at + length (variants_code line s)) (variant_number s 0 + length s.labels) (if c then 1 else 0) longer after below d
        last true code_stands ends there longer after home2 spot2 described2 =
            let one = there refl in
            let number : variant_number s (length s.labels) ≡ variant_number s 0 + length s.labels = omega arith in
            subst (λ k. Clearing (at + length labelled) (at + length (variants_code line s)) k 1 longer after below d) number
            (fragment_bind_bare {e = λ a. d} (λ a. steady_give tt)
            (clear_moves line (at + length labelled) (variant_number s (length s.labels)) ts one.0 r b one.1 one.2 code_stands longer after below d enough home2 spot2 described2) (λ a last final grown routine.
            fragment_to {to = p.instructions.before + (at + length labelled + 3)} (omega (arith, ends)) (fragment_give (omega arith) (inside_here refl))))
        last false code_stands ends there longer after home2 spot2 described2 = fragment_to {to = p.instructions.before + (at + length labelled)} (omega (arith, ends)) (fragment_give (omega arith) (inside_here refl))

  -- ---- the variant that is selected before

  module _ (line at : ℕ) (s : Selection) (low high : ℤ) (v : Component) (q : PlaceOf) (stands : CodeStands G ps p references at (selected_code line at s)) (inside : at + selected_length s < p.instructions.own) where
    abbrev undefined_at : ℕ
    undefined_at = at + 4 + number_length s + 1

    number_parts : CodeStands G ps p references (at + 4) (number_code line (at + 4) s none_before) × CodeStands G ps p references (at + 4 + number_length s) (instr op.JUMP (pos (at + 4 + number_length s + 3)) 0 line ∷ bare line op.DROP ∷ push line none_before ∷ [])
    number_parts =
        let ends : List Instr = instr op.JUMP (pos (at + 4 + number_length s + 3)) 0 line ∷ bare line op.DROP ∷ push line none_before ∷ [] in
        let number : List Instr = number_code line (at + 4) s none_before in
        let behind : CodeStands G ps p references (at + 4) (number ++ ends) = subst (λ k. CodeStands G ps p references k (number ++ ends)) {x = at + 1 + 1 + 1 + 1} {y = at + 4} (omega arith) stands.1.1.1.1 in
        let parts = code_stands-parts G ps p references (at + 4) number ends behind in
        (parts.0, subst (λ k. CodeStands G ps p references k ends) {x = at + 4 + length number} {y = at + 4 + number_length s} (omega (arith, number_code_length line (at + 4) s none_before)) parts.1)

    pub selected_now_moves : (injection : Injection) (memory : MachineMemory) (below : List Operand) (d : ℕ) → 8 ≤ d → unit_in G memory.frames ≡ unit → IsSpot injection memory.types v q → IsLike memory.types q.type_number (type.Ordinal low high)
        → Fragment layout G Here n (point injection memory (p.instructions.before + at) (operand.Place q ∷ below)) (selected_now call n unit line v s) (p.instructions.before + (at + selected_length s)) (λ o. Inside untouched injection memory (Numbered none_before below o)) (d + 7) (λ o. d)
    selected_now_moves injection memory below d enough home spot described =
        row_waits {d1 = d + 6} (dup_place G place line below q stands.0) (omega arith)
        (fragment_using {d = d + 6} {e = λ o. d} v.allocation
        (λ st matches ended. subst (λ u. FailsWith G (standing (place + 1) (operand.Place q ∷ operand.Place q ∷ below) memory st.trace) 0 run_error.DISPOSED u line st) home (defined_fails layout G (place + 1) line (operand.Place q ∷ below) low high v q at_defined injection memory spot described st matches ended)) (omega arith)
        (λ st matches here living. looked st (told st matches here living (result_of v st) refl)))
      where
        place : ℕ
        place = p.instructions.before + at

        end : ℕ
        end = p.instructions.before + (at + selected_length s)

        at_defined : slice_get G.instructions (place + 1) ≡ Some (instr op.DEFINED (pos 0) 0 line)
        at_defined = instr_at G (omega arith) stands.1.0

        In : State → Type 0
        In k = IsNotLeft memory.frames k.frames

        After_it : Option ℕ → meaning.State → State → Type 0
        After_it o = Lands layout G Here end (Inside untouched injection memory (Numbered none_before below o))

        -- what is looked at is there at once
        looked : (st : meaning.State) → Follows In G n (standing (place + 1) (operand.Place q ∷ operand.Place q ∷ below) memory st.trace) st (selected_by call n unit s (result_of v st)) After_it (d + 6) (λ o. d)
            → Follows In G n (standing (place + 1) (operand.Place q ∷ operand.Place q ∷ below) memory st.trace) st (bind (looks v) (selected_by call n unit s)) After_it (d + 6) (λ o. d)
        looked st h = record { by = λ m l. h.by m l }

        told : (st : meaning.State) → Matches layout G injection st memory → Here injection st memory → has_ended v.allocation st ≡ false → (o : Option Result) → result_of v st ≡ o
            → Follows In G n (standing (place + 1) (operand.Place q ∷ operand.Place q ∷ below) memory st.trace) st (selected_by call n unit s o) After_it (d + 6) (λ o. d)
        told st matches here living = by
          where
            asked : outcome G (standing (place + 1) (operand.Place q ∷ operand.Place q ∷ below) memory st.trace) ≡ record { weight = 0; to = Running 0 (standing (place + 1 + 1) (Word (bit (is_some (result_of v st))) ∷ operand.Place q ∷ below) memory st.trace) }
            asked = defined_tells layout G (place + 1) line (operand.Place q ∷ below) low high v q at_defined injection memory spot described st matches living

            jumped : (z : ℤ) → outcome G (standing (place + 1 + 1) (Word z ∷ operand.Place q ∷ below) memory st.trace) ≡ record { weight = 0; to = Running 0 (standing (if is_true z then place + 1 + 1 + 1 else p.instructions.before + undefined_at) (operand.Place q ∷ below) memory st.trace) }
            jumped z =
                jump_false_jumps G (place + 1 + 1) line (operand.Place q ∷ below) z (p.instructions.before + undefined_at) (omega (arith, room, inside))
                (instr_at G (omega arith) (jump_false_has G ps p references line (at + 1 + 1) undefined_at (bare line op.LOAD ∷ (number_code line (at + 4) s none_before ++ instr op.JUMP (pos (at + 4 + number_length s + 3)) 0 line ∷ bare line op.DROP ∷ push line none_before ∷ [])) (omega (arith, inside)) stands.1.1)) memory st.trace

            -- up to where it is known
            reached : {x : Computation (Option ℕ)} (w : ℤ) → outcome G (standing (place + 1) (operand.Place q ∷ operand.Place q ∷ below) memory st.trace) ≡ record { weight = 0; to = Running 0 (standing (place + 1 + 1) (Word w ∷ operand.Place q ∷ below) memory st.trace) }
                → Follows In G n (standing (if is_true w then place + 1 + 1 + 1 else p.instructions.before + undefined_at) (operand.Place q ∷ below) memory st.trace) st x After_it (d + 4) (λ o. d)
                → Follows In G n (standing (place + 1) (operand.Place q ∷ operand.Place q ∷ below) memory st.trace) st x After_it (d + 6) (λ o. d)
            reached w tells h =
                follows_credit {d = 1 + (1 + (d + 4))} {e = λ o. d} (omega arith) (λ o. omega arith) (follows_waits (not_left-here memory.frames) tells (follows_waits (not_left-here memory.frames) (jumped w) h))

            by : (o : Option Result) → result_of v st ≡ o → Follows In G n (standing (place + 1) (operand.Place q ∷ operand.Place q ∷ below) memory st.trace) st (selected_by call n unit s o) After_it (d + 6) (λ o. d)
            by None none =
                let at_none : ℕ = p.instructions.before + undefined_at in
                let rest : Fragment layout G Here n (point injection memory at_none (operand.Place q ∷ below)) (give None) end (λ o. Inside untouched injection memory (Numbered none_before below o)) (d + 4) (λ o. d) =
                row_waits {d1 = d + 3} (drop_drops G at_none line below (operand.Place q) (instr_at G (omega arith) number_parts.1.1.0)) (omega arith)
                (row_waits {d1 = d + 2} (push_pushes G (at_none + 1) line below none_before (instr_at G (omega arith) number_parts.1.1.1.0)) (omega arith)
                (fragment_to {to = at_none + 1 + 1} (omega arith) (fragment_give (omega arith) (inside_here refl))))
                in
                reached (pos 0) (asked ∙ ap (λ o. record { weight = 0; to = Running 0 (standing (place + 1 + 1) (Word (bit (is_some o)) ∷ operand.Place q ∷ below) memory st.trace) }) none) (rest.by st matches here)
            by (Some x) some =
                let loads = load_leads layout G (place + 1 + 1 + 1) line below low high v q (instr_at G (omega arith) stands.1.1.1.0) injection memory spot described st matches living x some in
                let goes : (o : Option ℕ) → Fragment layout G Here n (point injection memory (p.instructions.before + (at + 4 + number_length s)) (Word (number_for none_before o) ∷ below)) (give o) end (λ o. Inside untouched injection memory (Numbered none_before below o)) (d + 1) (λ o. d) =
                λ o. fragment_waits {place1 = p.instructions.before + (at + 4 + number_length s + 3)} {d1 = d} (λ u same. jump_jumps G (p.instructions.before + (at + 4 + number_length s)) line (Word (number_for none_before o) ∷ below) (p.instructions.before + (at + 4 + number_length s + 3)) (omega (arith, room, inside)) (jump_has G ps p references line (at + 4 + number_length s) (at + 4 + number_length s + 3) (bare line op.DROP ∷ push line none_before ∷ []) (omega (arith, inside)) number_parts.1) memory u.trace) (omega arith)
                (fragment_to {to = p.instructions.before + (at + 4 + number_length s + 3)} (omega arith) (fragment_give (omega arith) (inside_here refl)))
                in
                let rest : Fragment layout G Here n (point injection memory (p.instructions.before + (at + 4)) (Word loads.0 ∷ below)) (selects call n unit s loads.0 (λ j. give (Some j)) (give None)) end (λ o. Inside untouched injection memory (Numbered none_before below o)) (d + 1 + 2) (λ o. d) =
                number_follows ps p references call n unit room line (at + 4) s none_before loads.0 number_parts.0 (omega (arith, inside)) injection memory below {d = d + 1} (omega (arith, enough)) (λ j. goes (Some j)) (goes None)
                in
                let told_number : Follows In G n (standing (p.instructions.before + (at + 4)) (Word loads.0 ∷ below) memory st.trace) st (selected_by call n unit s (Some x)) After_it (d + 1 + 2) (λ o. d) =
                subst (λ w. Follows In G n (standing (p.instructions.before + (at + 4)) (Word loads.0 ∷ below) memory st.trace) st (selects call n unit s w (λ j. give (Some j)) (give None)) After_it (d + 1 + 2) (λ o. d)) (sym (ap number_of loads.1)) (rest.by st matches here)
                in
                reached (pos 1) (asked ∙ ap (λ o. record { weight = 0; to = Running 0 (standing (place + 1 + 1) (Word (bit (is_some o)) ∷ operand.Place q ∷ below) memory st.trace) }) some)
                (follows_credit {d = 1 + (d + 1 + 2)} {e = λ o. d} (omega arith) (λ o. omega arith)
                (follows_waits (not_left-here memory.frames) loads.2
                (follows_from (ap (λ k. standing k (Word loads.0 ∷ below) memory st.trace) {x = place + 1 + 1 + 1 + 1} {y = p.instructions.before + (at + 4)} (omega arith)) told_number)))

  module _ (expressions : ExpressionsFollow declared layout G untouched Here ps p texts references call n unit) where
    -- ---- the value is tried

    tried_moves : (line at : ℕ) (c : Tagging) (s : Selection) (ts : ComponentTypes) (r : Component) (b : PlaceOf) (is : List Instr) → IsPlace declared host.Integer (entire c.value) → IsTriedCode texts references line at c s is → CodeStands G ps p references at is → at + length is < p.instructions.own
        → type_among ts s.tag ≡ Some (tag_type c.low c.high)
        → (injection : Injection) (memory : MachineMemory) (below : List Operand) (d : ℕ) → statement_credit ≤ d → unit_in G memory.frames ≡ unit → IsSpot injection memory.types r b → IsLike memory.types b.type_number (type.Record ts)
        → Fragment layout G Here n (point injection memory (p.instructions.before + at) (operand.Place b ∷ below)) (tag_tested call n unit line c r s) (p.instructions.before + (at + length is)) (λ v. Inside untouched injection memory (PlaceOnTop (type.Ordinal c.low c.high) (operand.Place b ∷ below) v)) d (λ v. d + 8)
    tried_moves line at c s ts r b is value code stands_is inside has_tag injection memory below d enough home spot described =
        row_waits {d1 = d - 1} (dup_place G (p.instructions.before + at) line below b stands.0) (omega (arith, enough))
        (fragment_from {place = p.instructions.before + (at + 1)} (omega arith)
        (fragment_bind_place {type = tag_type c.low c.high} {e = λ a. d - 1 + 8} (λ t. steady_bind (steady_selected call steady_call n unit line t 0) (λ v. steady_bind (steady_eval call steady_call n unit line (Read (entire c.value))) (λ z. steady_checked v z)))
        (fragment_to {to2 = p.instructions.before + (at + 2)} (omega arith) (component_moves line (at + 1) s.tag ts (tag_type c.low c.high) r b has_tag (instr_at G (omega arith) stands.1.0) injection memory (operand.Place b ∷ below) (d - 1) (omega (arith, enough)) home spot described)) (λ t its v1 m1 grown1 routine1 spot1 described1.
        fragment_bind_place {type = type.Ordinal c.low c.high} {e = λ a. d - 1 + 8 + 8} (λ v. steady_bind (steady_eval call steady_call n unit line (Read (entire c.value))) (λ z. steady_checked v z))
        (fragment_to {to2 = p.instructions.before + (at + 3)} (omega arith) (component_moves line (at + 2) 0 (type.next_component (type.Ordinal c.low c.high) type.no_component) (type.Ordinal c.low c.high) t its refl (instr_at G (omega arith) stands.1.1.0) v1 m1 (operand.Place b ∷ below) (d - 1 + 8) (omega (arith, enough)) (unit_in-same G routine1 ∙ home) spot1 described1)) (λ v q v2 m2 grown2 routine2 spot2 described2.
        fragment_bind_number {host = host.Integer} {e = λ x. d - 1 + 8 + 8 + 8 + weight_of x} (λ z. steady_checked v z)
        (expressions (kind.Ordinal host.Integer) (Read (entire c.value)) value line (at + 3) rs code.1 reads.0 (omega (arith, ends, inside)) v2 m2 (operand.Place q ∷ operand.Place b ∷ below) (d - 1 + 8 + 8) (omega (arith, enough)) (unit_in-same G routine2 ∙ (unit_in-same G routine1 ∙ home))) (λ z v3 m3 of_host grown3 routine3.
        row_waits {d1 = d + 22} (push_pushes G (p.instructions.before + tests_at) line (Word z ∷ operand.Place q ∷ operand.Place b ∷ below) c.low reads.1.0) (omega (arith, enough))
        (row_waits {d1 = d + 21} (push_pushes G (p.instructions.before + tests_at + 1) line (Word c.low ∷ Word z ∷ operand.Place q ∷ operand.Place b ∷ below) c.high (instr_at G (omega arith) reads.1.1.0)) (omega arith)
        (checks v q z v3 m3 (unit_in-same G routine3 ∙ (unit_in-same G routine2 ∙ (unit_in-same G routine1 ∙ home))) (is_spot-grown grown3 spot2) (describes-grown q.type_number (type.Ordinal c.low c.high) grown3 described2) (int_le c.low z && int_le z c.high) refl)))))))
      where
        rs : List Instr
        rs = code.0

        tail : List Instr
        tail = push line c.low ∷ push line c.high ∷ instr op.CHECK (pos run_error.OUTSIDE_TYPE) 0 line ∷ bare line op.DROP ∷ []

        stands : CodeStands G ps p references at (bare line op.DUP ∷ instr op.FIELD (pos s.tag) 0 line ∷ instr op.FIELD (pos 0) 0 line ∷ (rs ++ tail))
        stands = subst (λ k. CodeStands G ps p references at k) code.2 stands_is

        ends : at + length is ≡ at + 3 + length rs + 4
        ends = omega (arith, ap length code.2, length-append rs tail)

        reads : CodeStands G ps p references (at + 3) rs × CodeStands G ps p references (at + 3 + length rs) tail
        reads = code_stands-parts G ps p references (at + 3) rs tail (subst (λ k. CodeStands G ps p references k (rs ++ tail)) {x = at + 1 + 1 + 1} {y = at + 3} (omega arith) stands.1.1.1)

        tests_at : ℕ
        tests_at = at + 3 + length rs

        steady_checked : (v : Component) (z : Result) → Steady (if is_within (type.Ordinal c.low c.high) (number_of z) then give v else stop (meaning.Error run_error.OUTSIDE_TYPE unit line))
        steady_checked v z = steady_if (is_within (type.Ordinal c.low c.high) (number_of z)) (steady_give v) (steady_stop (meaning.Error run_error.OUTSIDE_TYPE unit line))

        checks : (v : Component) (q : PlaceOf) (z : ℤ) (injection : Injection) (memory : MachineMemory) → unit_in G memory.frames ≡ unit → IsSpot injection memory.types v q → IsLike memory.types q.type_number (type.Ordinal c.low c.high) → (x : Bool) → (int_le c.low z && int_le z c.high) ≡ x
            → Fragment layout G Here n (point injection memory (p.instructions.before + tests_at + 1 + 1) (Word c.high ∷ Word c.low ∷ Word z ∷ operand.Place q ∷ operand.Place b ∷ below)) (if x then give v else stop (meaning.Error run_error.OUTSIDE_TYPE unit line)) (p.instructions.before + (at + length is)) (λ v. Inside untouched injection memory (PlaceOnTop (type.Ordinal c.low c.high) (operand.Place b ∷ below) v)) (d + 21) (λ v. d + 8)
        checks v q z injection memory home spot described x is_x = by x is_x
          where
            top : List Operand
            top = operand.Place q ∷ operand.Place b ∷ below

            here : ℕ
            here = p.instructions.before + tests_at + 1 + 1

            has : slice_get G.instructions here ≡ Some (instr op.CHECK (pos run_error.OUTSIDE_TYPE) 0 line)
            has = instr_at G (omega arith) reads.1.1.1.0

            by : (x : Bool) → (int_le c.low z && int_le z c.high) ≡ x
                → Fragment layout G Here n (point injection memory here (Word c.high ∷ Word c.low ∷ Word z ∷ top)) (if x then give v else stop (meaning.Error run_error.OUTSIDE_TYPE unit line)) (p.instructions.before + (at + length is)) (λ v. Inside untouched injection memory (PlaceOnTop (type.Ordinal c.low c.high) (operand.Place b ∷ below) v)) (d + 21) (λ v. d + 8)
            by true within =
                fragment_waits {place1 = here + 1} {d1 = d + 20} {operands1 = Word z ∷ top} (λ u same. check_answers G here line top run_error.OUTSIDE_TYPE z c.low c.high refl has memory u.trace ∙ ap (λ w. record { weight = 0; to = checked_to u.trace w }) within) (omega arith)
                (row_waits {d1 = d + 19} (drop_drops G (here + 1) line top (Word z) (instr_at G (omega arith) reads.1.1.1.1.0)) (omega arith)
                (fragment_to {to = here + 1 + 1} (omega (arith, ends)) (fragment_give (omega arith) (inside_here (record { place = q; is = refl; spot = spot; described = described })))))
              where
                checked_to : Trace → Bool → Going
                checked_to trace w = going_of (here + 1) top memory (unit_in G memory.frames) line trace (if w then Number z else Fault run_error.OUTSIDE_TYPE)
            by false within =
                fragment_stop {weight = 0} (λ u same. check_answers G here line top run_error.OUTSIDE_TYPE z c.low c.high refl has memory u.trace ∙ ap (λ w. record { weight = 0; to = checked_to u.trace w }) within
                ∙ ap (λ i. record { weight = 0; to = Stopped (Error run_error.OUTSIDE_TYPE i line) u.trace }) home) (omega arith)
              where
                checked_to : Trace → Bool → Going
                checked_to trace w = going_of (here + 1) top memory (unit_in G memory.frames) line trace (if w then Number z else Fault run_error.OUTSIDE_TYPE)

    -- ---- the variants where another one is selected

    change_moves : (line at : ℕ) (c : Tagging) (s : Selection) (ts : ComponentTypes) (r : Component) (b : PlaceOf) (before : Option ℕ) (is : List Instr) → IsPlace declared host.Integer (entire c.value) → IsChangeCode texts references line at c s is → CodeStands G ps p references at is → at + length is < p.instructions.own
        → All HasRange s.labels → ((i : ℕ) → i < variants_count s → IsCleared ts (variant_number s i))
        → (injection : Injection) (memory : MachineMemory) (below : List Operand) (d : ℕ) → statement_credit ≤ d → unit_in G memory.frames ≡ unit → IsSpot injection memory.types r b → IsLike memory.types b.type_number (type.Record ts)
        → Fragment layout G Here n (point injection memory (p.instructions.before + at) (Word (number_for none_before before) ∷ operand.Place b ∷ below)) (changes_variant call n unit line c r s before) (p.instructions.before + (at + length is)) (λ a. Inside untouched injection memory (Bare (operand.Place b ∷ below) a)) d (λ a. d)
    change_moves line at c s ts r b before is value code stands_is inside each types injection memory below d enough home spot described =
        fragment_bind_number {host = host.Integer} {e = λ x. d + 8 + weight_of x} (λ z. steady_bind (steady_selected_by call steady_call n unit s (Some z)) (λ now. steady_clearing call steady_call n unit line r s (is_another before now)))
        (expressions (kind.Ordinal host.Integer) (Read (entire c.value)) value line at rs code.1 first.0 (omega (arith, ends, inside)) injection memory (Word old ∷ operand.Place b ∷ below) d (omega (arith, enough)) home) (λ z v1 m1 of_host grown1 routine1.
        inside_bind {First = Numbered none_now (Word old ∷ operand.Place b ∷ below)} {e = λ o. d + 6} (λ now. steady_clearing call steady_call n unit line r s (is_another before now))
        (fragment_credit {d = d + 6 + 2} {e = λ o. d + 6} (omega arith) (λ o. omega arith)
        (number_follows ps p references call n unit room line (at + length rs) s none_now z second.0 (omega (arith, ends, inside)) v1 m1 (Word old ∷ operand.Place b ∷ below) {to = p.instructions.before + compare_at} {d = d + 6} (omega (arith, enough)) (λ j. fragment_give (omega arith) (inside_here refl)) (fragment_give (omega arith) (inside_here refl)))) (λ now v2 m2 pushed grown2 routine2 top.
        let new : ℤ = number_for none_now now in
        let home2 = unit_in-same G routine2 ∙ (unit_in-same G routine1 ∙ home) in
        let spot2 = is_spot-grown grown2 (is_spot-grown grown1 spot) in
        let described2 = describes-grown b.type_number (type.Record ts) grown2 (describes-grown b.type_number (type.Record ts) grown1 described) in
        subst (λ st. Fragment layout G Here n (point v2 m2 (p.instructions.before + compare_at) st) (if is_another before now then clears_all call n unit line r (variant_number s 0) (variants_count s) else give tt) (p.instructions.before + (at + length is)) (λ a. Inside untouched v2 m2 (Bare (operand.Place b ∷ below) a)) (d + 6) (λ a. d)) (sym top)
        (fragment_waits {place1 = p.instructions.before + compare_at + 1} {d1 = d + 5} {operands1 = Word (ordinal_of (not (is_same old new))) ∷ operand.Place b ∷ below} (λ u same. unequal_answers G (p.instructions.before + compare_at) line (operand.Place b ∷ below) old new tests.0 m2 u.trace) (omega arith)
        (fragment_branch {then_place = p.instructions.before + compare_at + 1 + 1} {else_place = p.instructions.before + (compare_at + 2 + length (variants_code line s))} {operands1 = operand.Place b ∷ below} {d1 = d + 4} (is_another before now)
        (λ u same. jump_false_jumps G (p.instructions.before + compare_at + 1) line (operand.Place b ∷ below) (ordinal_of (not (is_same old new))) (p.instructions.before + (compare_at + 2 + length (variants_code line s))) (omega (arith, room, ends, inside)) (instr_at G (omega arith) skips) m2 u.trace
        ∙ ap (λ x. record { weight = 0; to = Running 0 (standing (if x then p.instructions.before + compare_at + 1 + 1 else p.instructions.before + (compare_at + 2 + length (variants_code line s))) (operand.Place b ∷ below) m2 u.trace) }) (true_ordinal (not (is_same old new)) ∙ another_is before now))
        (omega arith)
        (λ another. fragment_from {place = p.instructions.before + (compare_at + 2)} (omega arith) (fragment_to {to = p.instructions.before + (compare_at + 2 + length (variants_code line s))} (omega (arith, ends)) (fragment_credit {d = d} {e = λ a. d} (omega arith) (λ a. omega arith)
        (variants_follow line s ts r b (compare_at + 2) each variants_stand types v2 m2 below d (omega (arith, enough)) home2 spot2 described2))))
        (λ same. fragment_to {to = p.instructions.before + (compare_at + 2 + length (variants_code line s))} (omega (arith, ends)) (fragment_give (omega arith) (inside_here refl)))))))
      where
        rs : List Instr
        rs = code.0

        old : ℤ
        old = number_for none_before before

        skip : Instr
        skip = instr op.JUMP_FALSE (pos (at + length rs + number_length s + 2 + length (variants_code line s))) 0 line

        number : List Instr
        number = number_code line (at + length rs) s none_now

        compare_at : ℕ
        compare_at = at + length rs + number_length s

        first : CodeStands G ps p references at rs × CodeStands G ps p references (at + length rs) (number ++ two_code line binary.Unequal ∷ skip ∷ variants_code line s)
        first = code_stands-parts G ps p references at rs (number ++ two_code line binary.Unequal ∷ skip ∷ variants_code line s) (subst (λ k. CodeStands G ps p references at k) code.2 stands_is)

        second : CodeStands G ps p references (at + length rs) number × CodeStands G ps p references (at + length rs + length number) (two_code line binary.Unequal ∷ skip ∷ variants_code line s)
        second = code_stands-parts G ps p references (at + length rs) number (two_code line binary.Unequal ∷ skip ∷ variants_code line s) first.1

        tests : CodeStands G ps p references compare_at (two_code line binary.Unequal ∷ skip ∷ variants_code line s)
        tests = subst (λ k. CodeStands G ps p references k (two_code line binary.Unequal ∷ skip ∷ variants_code line s)) {x = at + length rs + length number} {y = compare_at} (omega (arith, number_code_length line (at + length rs) s none_now)) second.1

        ends : at + length is ≡ compare_at + 2 + length (variants_code line s)
        ends = omega (arith, ap length code.2, length-append rs (number ++ two_code line binary.Unequal ∷ skip ∷ variants_code line s), length-append number (two_code line binary.Unequal ∷ skip ∷ variants_code line s), number_code_length line (at + length rs) s none_now)

        skips : slice_get G.instructions (p.instructions.before + (compare_at + 1)) ≡ Some (instr op.JUMP_FALSE (pos (p.instructions.before + (compare_at + 2 + length (variants_code line s)))) 0 line)
        skips = jump_false_has G ps p references line (compare_at + 1) (compare_at + 2 + length (variants_code line s)) (variants_code line s) (omega (arith, ends, inside)) tests.1

        variants_stand : CodeStands G ps p references (compare_at + 2) (variants_code line s)
        variants_stand = subst (λ k. CodeStands G ps p references k (variants_code line s)) {x = compare_at + 1 + 1} {y = compare_at + 2} (omega arith) tests.1.1

    -- ---- the tag gets the value

    taken_moves : (line at : ℕ) (c : Tagging) (s : Selection) (ts : ComponentTypes) (r : Component) (b : PlaceOf) (is : List Instr) → IsPlace declared host.Integer (entire c.value) → IsTakenCode texts references line at c s is → CodeStands G ps p references at is → at + length is < p.instructions.own
        → type_among ts s.tag ≡ Some (tag_type c.low c.high)
        → (injection : Injection) (memory : MachineMemory) (below : List Operand) (d : ℕ) → statement_credit ≤ d → unit_in G memory.frames ≡ unit → IsSpot injection memory.types r b → IsLike memory.types b.type_number (type.Record ts)
        → Fragment layout G Here n (point injection memory (p.instructions.before + at) (operand.Place b ∷ below)) (sets_tag call n unit line c r s) (p.instructions.before + (at + length is)) (λ a. Inside untouched injection memory (Bare below a)) d (λ a. d)
    taken_moves line at c s ts r b is value code stands_is inside has_tag injection memory below d enough home spot described =
        fragment_bind_place {type = tag_type c.low c.high} {e = λ a. d + 8} (λ t. steady_bind (steady_selected call steady_call n unit line t 0) (λ v. steady_bind (steady_eval call steady_call n unit line (Read (entire c.value))) (λ z. steady_assign call steady_call n unit line v z)))
        (fragment_to {to2 = p.instructions.before + (at + 1)} (omega arith) (component_moves line at s.tag ts (tag_type c.low c.high) r b has_tag stands.0 injection memory below d (omega (arith, enough)) home spot described)) (λ t its v1 m1 grown1 routine1 spot1 described1.
        fragment_bind_place {type = type.Ordinal c.low c.high} {e = λ a. d + 8 + 8} (λ v. steady_bind (steady_eval call steady_call n unit line (Read (entire c.value))) (λ z. steady_assign call steady_call n unit line v z))
        (fragment_to {to2 = p.instructions.before + (at + 2)} (omega arith) (component_moves line (at + 1) 0 (type.next_component (type.Ordinal c.low c.high) type.no_component) (type.Ordinal c.low c.high) t its refl (instr_at G (omega arith) stands.1.0) v1 m1 below (d + 8) (omega (arith, enough)) (unit_in-same G routine1 ∙ home) spot1 described1)) (λ v q v2 m2 grown2 routine2 spot2 described2.
        fragment_bind_number {host = host.Integer} {e = λ x. d + 8 + 8 + 8 + weight_of x} (λ z. steady_assign call steady_call n unit line v z)
        (expressions (kind.Ordinal host.Integer) (Read (entire c.value)) value line (at + 2) rs code.1 reads.0 (omega (arith, ends, inside)) v2 m2 (operand.Place q ∷ below) (d + 8 + 8) (omega (arith, enough)) (unit_in-same G routine2 ∙ (unit_in-same G routine1 ∙ home))) (λ z v3 m3 of_host grown3 routine3.
        fragment_to {to = p.instructions.before + (at + 2 + length rs) + 1} (omega (arith, ends)) (fragment_credit {d = d + 8 + 8 + 0} {e = λ a. d + 8 + 8} (omega arith) (λ a. omega arith)
        (store_moves lasts ps p texts references call steady_call n unit (kind.Ordinal host.Integer) (type.Ordinal c.low c.high) (result.Number z) (Word z) v q tt line (at + 2 + length rs) reads.1 v3 m3 (z, refl, of_host, refl) below (d + 8 + 8) (omega (arith, enough)) (unit_in-same G routine3 ∙ (unit_in-same G routine2 ∙ (unit_in-same G routine1 ∙ home))) (is_spot-grown grown3 spot2) (describes-grown q.type_number (type.Ordinal c.low c.high) grown3 described2))))))
      where
        rs : List Instr
        rs = code.0

        stands : CodeStands G ps p references at (instr op.FIELD (pos s.tag) 0 line ∷ instr op.FIELD (pos 0) 0 line ∷ (rs ++ bare line op.STORE ∷ []))
        stands = subst (λ k. CodeStands G ps p references at k) code.2 stands_is

        ends : at + length is ≡ at + 2 + length rs + 1
        ends = omega (arith, ap length code.2, length-append rs (bare line op.STORE ∷ []))

        reads : CodeStands G ps p references (at + 2) rs × CodeStands G ps p references (at + 2 + length rs) (bare line op.STORE ∷ [])
        reads = code_stands-parts G ps p references (at + 2) rs (bare line op.STORE ∷ []) (subst (λ k. CodeStands G ps p references k (rs ++ bare line op.STORE ∷ [])) {x = at + 1 + 1} {y = at + 2} (omega arith) stands.1.1)

-- ---- what is known of the record

-- the type values of the record with variants, but for initial states
pub record IsTagRecord (c : Tagging) (s : Selection) (t : TypeValue) : Type 0 where
  pub types_of : ComponentTypes
  pub is : bare_of t ≡ type.Record types_of
  pub tag : type_among types_of s.tag ≡ Some (tag_type c.low c.high)
  pub variants : (i : ℕ) → i < variants_count s → (u : TypeValue) × (type_among types_of (variant_number s i) ≡ Some u) × IsTypeValue u

-- each component of a record has a type value
component_there : (types : List UnitType) (ds : Denoters) (ts : ComponentTypes) → AreTyped types ds ts → (i : ℕ) → i < denoters_count ds → (t : TypeValue) × (type_among ts i ≡ Some t) × IsTypeValue t
component_there types ds ts none_typed i less = absurd (omega (arith, less))
component_there types ds ts (next_typed d es t us x xs) zero less = (t, refl, typed_value types d t x)
component_there types ds ts (next_typed d es t us x xs) (suc i) less = component_there types es us xs i (omega (arith, less))

pub tag_record_is : (declared : Declarations) (h : Host) (c : Tagging) (s : Selection) (types : List UnitType) (d : Denoter) (t : TypeValue) → IsTagged declared h c.low c.high s types d → IsTyped types d t → IsTagRecord c s t
tag_record_is declared h c s types d t (ds, is_record, (selection, host_is, type_is)) typed =
    let all : HasComponents types ds t = typed_components types d t ds typed is_record in
    let tag = typed_among types ds all.types_of s.tag (Record (next_denoter selection.tag no_denoter)) all.all selection.has_tag in
    let alone = tag_alone types selection.tag tag.0 tag.2 in
    let same : bare_of alone.0 ≡ type.Ordinal c.low c.high = bare_instance types selection.tag alone.0 (type.Ordinal c.low c.high) alone.2 type_is in
    record {
      types_of = bare_each all.types_of;
      is = all.is;
      tag = among_bare all.types_of s.tag tag.0 tag.1 ∙ ap Some (alone.1 ∙ ap (λ u. type.Record (type.next_component u type.no_component)) same);
      variants = λ i less.
          let there = component_there types ds all.types_of all.all (variant_number s i) (omega (arith, less, selection.all)) in
          (bare_of there.0, among_bare all.types_of (variant_number s i) there.0 there.1, bare_value there.0 there.2);
    }

module _ {declared : Declarations} {layout : Layout} {G : Image} {untouched : Slots} {Here : Facts} (lasts : Lasts untouched Here) (ps : List Placement) (p : Placement) (texts : List (List ℕ)) (references : List Reference) (call : Handler) (steady_call : IsSteadyHandler call) (n : ℕ) (unit : List ℕ) (room : p.instructions.before + p.instructions.own ≤ length G.instructions)
    (scene : Scene declared layout G ps p texts) (expressions : ExpressionsFollow declared layout G untouched Here ps p texts references call n unit) (places : PlacesFollow declared layout G untouched Here ps p texts references call n unit) where
  -- the whole assignment
  pub tag_parts : (line at : ℕ) (c : Tagging) (q : Place) (s : Selection) (x : Expr) (h : Host) (rs vs ts cs ls : List Instr) → IsTagging declared h c q s → IsExpr declared (kind.Ordinal h) x
      → IsPlaceCode texts references line at q rs → IsAssignCode texts references line (at + length rs) (entire c.value) x vs → IsTriedCode texts references line (at + length rs + length vs) c s ts → IsChangeCode texts references line (at + length rs + length vs + length ts + selected_length s) c s cs → IsTakenCode texts references line (at + length rs + length vs + length ts + selected_length s + length cs) c s ls
      → CodeStands G ps p references at (rs ++ (vs ++ (ts ++ (selected_code line (at + length rs + length vs + length ts) s ++ (cs ++ ls))))) → at + length rs + length vs + length ts + selected_length s + length cs + length ls < p.instructions.own
      → Moves layout G untouched Here ps p texts references call n unit at (at + length rs + length vs + length ts + selected_length s + length cs + length ls) (exec call n unit (AssignTag line c q s x))
  tag_parts line at c q s x h rs vs ts cs ls tagging valid is_place is_value is_tried is_change is_taken stands inside injection memory below d enough home =
      fragment_bind_place {type = bare_of whole.type_value} {e = λ r. d + 8} (λ r. steady_bind (steady_assigns call steady_call n unit line (entire c.value) x) (λ a. steady_rest r))
      (places q whole.valid (bare_of whole.type_value) whole.has_type line at rs is_place one.0 (omega (arith, inside)) injection memory below d (omega (arith, enough)) home) (λ r b v1 m1 grown1 routine1 spot1 described1.
      let of : IsLike m1.types b.type_number (type.Record known.types_of) = subst (λ t. IsLike m1.types b.type_number t) known.is described1 in
      let home1 = unit_in-same G routine1 ∙ home in
      fragment_bind_bare {e = λ a. d + 8} (λ a. steady_rest r)
      (assigned_moves lasts ps p texts references call steady_call n unit scene expressions places line (at + length rs) (entire c.value) (kind.Ordinal host.Integer) (kind.Ordinal h) (ordinal_takes host.Integer h) x vs tagging.value valid is_value (omega (arith, inside)) two.0 v1 m1 (operand.Place b ∷ below) (d + 8) (omega (arith, enough)) home1) (λ a v2 m2 grown2 routine2.
      let home2 = unit_in-same G routine2 ∙ home1 in
      let spot2 = is_spot-grown grown2 spot1 in
      let of2 = describes-grown b.type_number (type.Record known.types_of) grown2 of in
      fragment_bind_place {type = type.Ordinal c.low c.high} {e = λ v. d + 8 + 8} (λ v. steady_bind (steady_selected_now call steady_call n unit line v s) (λ before. steady_end r before))
      (tried_moves declared layout G untouched Here lasts ps p texts references call steady_call n unit room expressions line tried_at c s known.types_of r b ts tagging.value is_tried three.0 (omega (arith, inside)) known.tag v2 m2 below (d + 8) (omega (arith, enough)) home2 spot2 of2) (λ v y v3 m3 grown3 routine3 spot_tag described_tag.
      let home3 = unit_in-same G routine3 ∙ home2 in
      let spot3 = is_spot-grown grown3 spot2 in
      let of3 = describes-grown b.type_number (type.Record known.types_of) grown3 of2 in
      inside_bind {First = Numbered none_before (operand.Place b ∷ below)} {e = λ o. d + 9} (λ before. steady_end r before)
      (fragment_credit {d = d + 9 + 7} {e = λ o. d + 9} (omega arith) (λ o. omega arith) (selected_now_moves declared layout G untouched Here lasts ps p texts references call steady_call n unit room line selected_at s c.low c.high v y four.0 (omega (arith, inside)) v3 m3 (operand.Place b ∷ below) (d + 9) (omega (arith, enough)) home3 spot_tag described_tag)) (λ before v4 m4 pushed grown4 routine4 top.
      let home4 = unit_in-same G routine4 ∙ home3 in
      let spot4 = is_spot-grown grown4 spot3 in
      let of4 = describes-grown b.type_number (type.Record known.types_of) grown4 of3 in
      subst (λ st. Fragment layout G Here n (point v4 m4 (p.instructions.before + change_at) st) (bind (changes_variant call n unit line c r s before) (λ a. sets_tag call n unit line c r s)) (p.instructions.before + (taken_at + length ls)) (λ a. Inside untouched v4 m4 (Bare below a)) (d + 9) (λ a. d)) (sym top)
      (fragment_bind_bare {e = λ a. d + 9} (λ a. steady_sets_tag call steady_call n unit line c r s)
      (change_moves declared layout G untouched Here lasts ps p texts references call steady_call n unit room expressions line change_at c s known.types_of r b before cs tagging.value is_change five.0 (omega (arith, inside)) (selection_of whole.holds) known.variants v4 m4 below (d + 9) (omega (arith, enough)) home4 spot4 of4) (λ a v5 m5 grown5 routine5.
      fragment_credit {d = d + 9} {e = λ a. d + 9} (omega arith) (λ a. omega arith)
      (taken_moves declared layout G untouched Here lasts ps p texts references call steady_call n unit room expressions line taken_at c s known.types_of r b ls tagging.value is_taken five.1 inside known.tag v5 m5 below (d + 9) (omega (arith, enough)) (unit_in-same G routine5 ∙ home4) (is_spot-grown grown5 spot4) (describes-grown b.type_number (type.Record known.types_of) grown5 of4))))))))
    where
      whole : IsTypedPlace declared (IsTagged declared h c.low c.high s) q
      whole = typed_place declared scene.types_valid scene.own_types_valid (IsTagged declared h c.low c.high s) q tagging.record_is

      known : IsTagRecord c s whole.type_value
      known = tag_record_is declared h c s whole.types whole.denoter whole.type_value whole.holds whole.typed

      selection_of : IsTagged declared h c.low c.high s whole.types whole.denoter → All HasRange s.labels
      selection_of (ds, is_record, (selection, host_is, type_is)) = selection.each

      tried_at : ℕ
      tried_at = at + length rs + length vs

      selected_at : ℕ
      selected_at = tried_at + length ts

      change_at : ℕ
      change_at = selected_at + selected_length s

      taken_at : ℕ
      taken_at = change_at + length cs

      choice : List Instr
      choice = selected_code line selected_at s

      one : CodeStands G ps p references at rs × CodeStands G ps p references (at + length rs) (vs ++ (ts ++ (choice ++ (cs ++ ls))))
      one = code_stands-parts G ps p references at rs (vs ++ (ts ++ (choice ++ (cs ++ ls)))) stands

      two : CodeStands G ps p references (at + length rs) vs × CodeStands G ps p references tried_at (ts ++ (choice ++ (cs ++ ls)))
      two = code_stands-parts G ps p references (at + length rs) vs (ts ++ (choice ++ (cs ++ ls))) one.1

      three : CodeStands G ps p references tried_at ts × CodeStands G ps p references selected_at (choice ++ (cs ++ ls))
      three = code_stands-parts G ps p references tried_at ts (choice ++ (cs ++ ls)) two.1

      four : CodeStands G ps p references selected_at choice × CodeStands G ps p references change_at (cs ++ ls)
      four =
          let parts = code_stands-parts G ps p references selected_at choice (cs ++ ls) three.1 in
          (parts.0, subst (λ k. CodeStands G ps p references k (cs ++ ls)) {x = selected_at + length choice} {y = change_at} (omega (arith, selected_code_length line selected_at s)) parts.1)

      five : CodeStands G ps p references change_at cs × CodeStands G ps p references taken_at ls
      five = code_stands-parts G ps p references change_at cs ls four.1

      steady_end : (r : Component) (before : Option ℕ) → Steady (bind (changes_variant call n unit line c r s before) (λ a. sets_tag call n unit line c r s))
      steady_end r before = steady_bind (steady_changes_variant call steady_call n unit line c r s before) (λ a. steady_sets_tag call steady_call n unit line c r s)

      steady_rest : (r : Component) → Steady (bind (tag_tested call n unit line c r s) (λ v. bind (selected_now call n unit line v s) (λ before. bind (changes_variant call n unit line c r s before) (λ a. sets_tag call n unit line c r s))))
      steady_rest r = steady_bind (steady_tag_tested call steady_call n unit line c r s) (λ v. steady_bind (steady_selected_now call steady_call n unit line v s) (λ before. steady_end r before))
