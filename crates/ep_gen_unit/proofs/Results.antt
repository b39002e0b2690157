-- The machine follows the end of a function: it leaves the value of the variable that has the result.
use Rattle.std.proofs.Common.{◌≡◌, ℕ, ℤ, pos, suc, ◌+◌, ◌*◌, ◌-◌, ◌≤◌, ◌<◌, List, [], ◌∷◌, length, Option, Some, None, option_map, slice_get, false, refl, sym, ap, ◌∙◌, subst, arith}
use Rattle.std.specs.Prelude.{if◌then◌else◌, is_some}
use Rattle.ep_gen_code.specs.Instructions.{instr, bare}
use Rattle.ep_gen_code.proofs.public.Placed.{instr_at, jump_false_has}
use Rattle.ep_gen_unit.specs.StmtCode.{result_code, structure_code}
use Rattle.ep_simulation.proofs.public.following.Bind.{follows_credit, follows_give, follows_stop, follows_waits}
use Rattle.ep_simulation.proofs.public.following.Choices.{Reads, ReadsResult, Nothing, Result_of, fragment_fetched, fragment_using}
use Rattle.ep_simulation.proofs.public.following.Fragments.{FailsWith, fragment_bind, fragment_from, fragment_waits}
use Rattle.ep_simulation.proofs.public.matching.Awaiting.{value_on_top}
use Rattle.ep_simulation.proofs.public.matching.MoreMemory.{not_left-here, still_routine, unit_in-same}
use Rattle.ep_simulation.proofs.public.rows.ChangeRows.{variable_type}
use Rattle.ep_simulation.proofs.public.rows.OwnRows.{own_reads}
use Rattle.ep_simulation.proofs.public.rows.TextRows.{dup_place}
use Rattle.ep_gen_expr.proofs.public.VariantMoves.{follows_found}
use Rattle.ep_simulation.proofs.public.rows.PlaceRows.{defined_fails, defined_tells, load_fails, load_reads, structure_found}
use Rattle.ep_simulation.proofs.public.rows.Rows.{fail_fails, jump_false_jumps}
use Rattle.ep_simulation.specs.Activations.{KnowsNames}
use Rattle.ep_simulation.specs.Follows.{Facts, Follows, Fragment, Lands, Inside, OnTop, PlaceOnTop, IsNotLeft, point}
use Rattle.ep_simulation.specs.Layouts.{Layout}
use Rattle.ep_simulation.specs.Matching.{MachineMemory, Injection, Matches, Slots, HasOwnType, IsLike, IsSpot, at as standing}
use Rattle.ep_object.specs.Operands.{Operand, Word}
use Rattle.ep_object.specs.Operands as operand
use Rattle.ep_object.specs.Placing.{Placement, CodeStands}
use Rattle.ep_simulation.specs.Promises.{ResultsOnTop, credit_of}
use Rattle.ep_object.specs.Runs.{outcome, unit_in}
use Rattle.ep_object.specs.State.{State, Running, Stopped, Error}
use Rattle.ep_object.specs.WordRows.{bit}
use Rattle.ep_object.specs.declared.code.Image.{Image}
use Rattle.ep_object.specs.declared.code.Reference.{Reference}
use Rattle.ep_object.specs.declared.op.TheConstants as op
use Rattle.ep_object.specs.declared.state.Place.{Place as PlaceOf}
use Rattle.ep_meaning.proofs.public.Bares.{bare_unresulting}
use Rattle.ep_meaning.proofs.public.Steady.{steady_bind, steady_fetch_or, steady_give, steady_using}
use Rattle.ep_typed.specs.Hosts.{Host}
use Rattle.ep_meaning.specs.Meaning.{result_at}
use Rattle.ep_values.specs.Operations.{is_true}
use Rattle.ep_values.specs.Printing.{Result}
use Rattle.ep_meaning.specs.Results.{result_of, unresulting, weight_of}
use Rattle.ep_values.specs.Printing as result
use Rattle.ep_meaning.specs.Steps.{Component, Computation, bind, fetch_or, found, give, using, own_variable, has_ended, type_at}
use Rattle.ep_meaning.specs.Steps as meaning
use Rattle.ep_meaning.specs.Valid as kind
use Rattle.ep_meaning.specs.Valid.{variables_up, Declarations, IsSetOf, IsStructured, IsTypeOf}
use Rattle.ep_values.specs.declared.run_error.TheConstants as run_error
use Rattle.ep_typed.specs.declared.unit.UnitVariable.{UnitVariable}
use Rattle.ep_values.specs.TypeValues.{TypeValue, bare_of, size_of}
use Rattle.ep_values.specs.TypeValues as type

-- the value of the variable that has the result, or the error where it has none
abbrev gives_result : List ℕ → ℕ → Component → Computation (List Result)
gives_result unit line a = bind (fetch_or (λ s. meaning.Error (unresulting (type_at a s)) unit line) (result_of a)) (λ r. give (r ∷ []))

-- the error of a variable is that of its type without initial states
ends_so : (unit : List ℕ) (line : ℕ) (o : Option TypeValue) (t : TypeValue) → option_map bare_of o ≡ Some t
    → meaning.Error (unresulting o) unit line ≡ meaning.Error (unresulting (Some t)) unit line
ends_so unit line o t is = ap (λ number. meaning.Error number unit line) (sym (bare_unresulting o) ∙ ap unresulting is)

module _ {declared : Declarations} {layout : Layout} {G : Image} {Here : Facts} (untouched : Slots) (knows : KnowsNames declared Here) (ps : List Placement) (p : Placement) (references : List Reference) (n : ℕ) (unit : List ℕ) (room : p.instructions.before + p.instructions.own ≤ length G.instructions)
    (number line at : ℕ) (h : Host) (low high : ℤ) (of_host : IsTypeOf h (type.Ordinal low high)) (stands : CodeStands G ps p references at (result_code line number at)) (inside : at + 6 < p.instructions.own) where
  -- from the instruction that tells whether the variable has a value, where it lives
  given_follows : (injection : Injection) (memory : MachineMemory) (below : List Operand) (a : Component) (q : PlaceOf) → IsSpot injection memory.types a q → IsLike memory.types q.type_number (type.Ordinal low high) → (d : ℕ) → 8 ≤ d → unit_in G memory.frames ≡ unit
      → (s : meaning.State) → Matches layout G injection s memory → Here injection s memory → has_ended a.allocation s ≡ false
      → Follows (λ k. IsNotLeft memory.frames k.frames) G n (standing ((p.instructions.before + at) + 2) (operand.Place q ∷ operand.Place q ∷ below) memory s.trace) s (gives_result unit line a) (λ rs. Lands layout G Here ((p.instructions.before + at) + 5) (ResultsOnTop (kind.Ordinal h ∷ []) below rs)) d (λ rs. 1 + credit_of rs)
  given_follows injection memory below a q spot described d enough home s matches here living =
      by_value (load_reads layout G ((p.instructions.before + at) + 4) line below {untouched = untouched} (kind.Ordinal h) (type.Ordinal low high) a q of_host (instr_at G (omega arith) stands.1.1.1.1.0) injection memory spot described s matches here living)
    where
      In : State → Type 0
      In k = IsNotLeft memory.frames k.frames

      ends : meaning.Error (unresulting (type_at a s)) unit line ≡ meaning.Error run_error.RESULT_UNDEFINED unit line
      ends = ends_so unit line (type_at a s) (type.Ordinal low high) (variable_type layout G ((p.instructions.before + at) + 2) line below (type.Ordinal low high) a q injection memory spot described s matches living)

      -- whether it has a value, and on to what that is for
      asked : outcome G (standing ((p.instructions.before + at) + 2) (operand.Place q ∷ operand.Place q ∷ below) memory s.trace) ≡ record { weight = 0; to = Running 0 (standing ((p.instructions.before + at) + 2 + 1) (Word (bit (is_some (result_of a s))) ∷ operand.Place q ∷ below) memory s.trace) }
      asked = defined_tells layout G ((p.instructions.before + at) + 2) line (operand.Place q ∷ below) low high a q (instr_at G (omega arith) stands.1.1.0) injection memory spot described s matches living

      jumped : (z : ℤ) → outcome G (standing ((p.instructions.before + at) + 2 + 1) (Word z ∷ operand.Place q ∷ below) memory s.trace) ≡ record { weight = 0; to = Running 0 (standing (if is_true z then (p.instructions.before + at) + 2 + 1 + 1 else p.instructions.before + (at + 6)) (operand.Place q ∷ below) memory s.trace) }
      jumped z = jump_false_jumps G ((p.instructions.before + at) + 2 + 1) line (operand.Place q ∷ below) z (p.instructions.before + (at + 6)) (omega (arith, room, inside)) (instr_at G (omega arith) (jump_false_has G ps p references line (at + 1 + 1 + 1) (at + 6) (bare line op.LOAD ∷ bare line op.RETURN ∷ instr op.FAIL (pos run_error.RESULT_UNDEFINED) 0 line ∷ []) inside stands.1.1.1)) memory s.trace

      by_value : ReadsResult layout G Here (standing ((p.instructions.before + at) + 4) (operand.Place q ∷ below) memory s.trace) 0 1 (unit_in G memory.frames) line ((p.instructions.before + at) + 4 + 1) (λ r. Inside untouched injection memory (OnTop (kind.Ordinal h) below r)) s (result_of a s)
          → Follows In G n (standing ((p.instructions.before + at) + 2) (operand.Place q ∷ operand.Place q ∷ below) memory s.trace) s (gives_result unit line a) (λ rs. Lands layout G Here ((p.instructions.before + at) + 5) (ResultsOnTop (kind.Ordinal h ∷ []) below rs)) d (λ rs. 1 + credit_of rs)
      by_value (Nothing none fails) =
          follows_found (λ t. meaning.Error (unresulting (type_at a t)) unit line) (result_of a) (λ r. give (r ∷ [])) (meaning.Error run_error.RESULT_UNDEFINED unit line) None ends none
          (follows_credit {d = 1 + (1 + (d - 2))} {e = λ rs. 1 + credit_of rs} (omega (arith, enough)) (λ rs. omega (arith, enough))
          (follows_waits (not_left-here memory.frames) (asked ∙ ap (λ o. record { weight = 0; to = Running 0 (standing ((p.instructions.before + at) + 2 + 1) (Word (bit (is_some o)) ∷ operand.Place q ∷ below) memory s.trace) }) none)
          (follows_waits (not_left-here memory.frames) (jumped (pos 0))
          (follows_stop (not_left-here memory.frames)
          (fail_fails G (p.instructions.before + (at + 6)) line (operand.Place q ∷ below) run_error.RESULT_UNDEFINED refl (instr_at G (omega arith) stands.1.1.1.1.1.1.0) memory s.trace ∙ ap (λ u. record { weight = 0; to = Stopped (Error run_error.RESULT_UNDEFINED u line) s.trace }) home)
          (omega (arith, enough))))))
      by_value (Result_of r some weight weighs does) =
          let reached = does.post in
          let top = reached.operands_are in
          let light : weight_of r ≡ 0 = ap weight_of top.is_number in
          let none : weight ≡ 0 = omega (arith, weighs, light) in
          follows_found (λ t. meaning.Error (unresulting (type_at a t)) unit line) (result_of a) (λ r. give (r ∷ [])) (meaning.Error run_error.RESULT_UNDEFINED unit line) (Some r) ends some
          (follows_credit {d = 1 + (1 + (suc weight + (d - 3)))} {e = λ rs. 1 + credit_of rs} (omega (arith, enough, none)) (λ rs. omega (arith, enough, none))
          (follows_waits (not_left-here memory.frames) (asked ∙ ap (λ o. record { weight = 0; to = Running 0 (standing ((p.instructions.before + at) + 2 + 1) (Word (bit (is_some o)) ∷ operand.Place q ∷ below) memory s.trace) }) some)
          (follows_waits (not_left-here memory.frames) (jumped (pos 1) ∙ ap (λ k. record { weight = 0; to = Running 0 (standing k (operand.Place q ∷ below) memory s.trace) }) {x = (p.instructions.before + at) + 2 + 1 + 1} {y = (p.instructions.before + at) + 4} (omega arith))
          (follows_waits (not_left-here memory.frames) does.does
          (follows_give (r ∷ []) (omega (arith, enough, light)) (record {
            injection = does.injection;
            memory = does.memory;
            operands = does.operands;
            is = ap (λ k. standing k does.operands does.memory s.trace) {x = (p.instructions.before + at) + 4 + 1} {y = (p.instructions.before + at) + 5} (omega arith);
            matches = does.matches;
            here = does.here;
            post = value_on_top (kind.Ordinal h) below r does.injection does.memory does.operands top;
          }))))))

  -- the end of a function: the place of the variable, whether that has a value, and the value
  ordinal_moves : (v : UnitVariable) → slice_get (variables_up declared 0) number ≡ Some v → HasOwnType declared v (type.Ordinal low high)
      → (injection : Injection) (memory : MachineMemory) (below : List Operand) (d : ℕ) → 16 ≤ d → unit_in G memory.frames ≡ unit
      → Fragment layout G Here n (point injection memory (p.instructions.before + at) below) (result_at unit line number) ((p.instructions.before + at) + 5) (λ rs. ResultsOnTop (kind.Ordinal h ∷ []) below rs) d (λ rs. 1 + credit_of rs)
  ordinal_moves v is_declared has_type injection memory below d enough home =
      fragment_bind {middle = (p.instructions.before + at) + 1} {P = λ a. Inside untouched injection memory (PlaceOnTop (type.Ordinal low high) below a)} {e = λ a. d - 1}
      (λ a. steady_using (meaning.Error run_error.DISPOSED unit line) a.allocation (steady_bind (steady_fetch_or (λ s. meaning.Error (unresulting (type_at a s)) unit line) (result_of a)) (λ r. steady_give (r ∷ []))))
      (fragment_fetched (own_variable 0 number) (λ s matches here.
      subst (λ u. Reads layout G Here (standing (p.instructions.before + at) below memory s.trace) 1 u line ((p.instructions.before + at) + 1) (λ a. Inside untouched injection memory (PlaceOnTop (type.Ordinal low high) below a)) s (own_variable 0 number s)) home
      (own_reads declared layout G (p.instructions.before + at) line below number v (type.Ordinal low high) stands.0 has_type injection memory s matches ((knows injection s memory here).own number v is_declared) here)) (omega (arith, enough)))
      (λ a longer after pushed i.
      let top = i.operands_are in
      let at_home : unit_in G after.frames ≡ unit = unit_in-same G i.routine ∙ home in (
        still_routine i.routine,
        subst (λ st. Fragment layout G Here n (point longer after ((p.instructions.before + at) + 1) st) (using (meaning.Error run_error.DISPOSED unit line) a.allocation (gives_result unit line a)) ((p.instructions.before + at) + 5) (λ rs. ResultsOnTop (kind.Ordinal h ∷ []) below rs) (d - 1) (λ rs. 1 + credit_of rs)) (sym top.is)
            (fragment_waits {d1 = d - 2} (λ s matches. dup_place G ((p.instructions.before + at) + 1) line below top.place (instr_at G (omega arith) stands.1.0) after s.trace) (omega (arith, enough))
            (fragment_from {place = (p.instructions.before + at) + 2} (omega arith)
            (fragment_using {n = n} a.allocation
            (λ s matches ended. subst (λ u. FailsWith G (standing ((p.instructions.before + at) + 2) (operand.Place top.place ∷ operand.Place top.place ∷ below) after s.trace) 0 11 u line s) at_home (defined_fails layout G ((p.instructions.before + at) + 2) line (operand.Place top.place ∷ below) low high a top.place (instr_at G (omega arith) stands.1.1.0) longer after top.spot top.described s matches ended))
            (omega (arith, enough))
            (λ s matches here living. given_follows longer after below a top.place top.spot top.described (d - 2) (omega (arith, enough)) at_home s matches here living)))),
      ))

-- the end of a function, whose result is in a variable of a type of the host
pub result_moves : {declared : Declarations} {layout : Layout} {G : Image} {Here : Facts} (untouched : Slots) (knows : KnowsNames declared Here) (ps : List Placement) (p : Placement) (references : List Reference) (n : ℕ) (unit : List ℕ) (room : p.instructions.before + p.instructions.own ≤ length G.instructions)
    (number line at : ℕ) (h : Host) (t : TypeValue) → IsTypeOf h t → CodeStands G ps p references at (result_code line number at) → at + 6 < p.instructions.own
    → (v : UnitVariable) → slice_get (variables_up declared 0) number ≡ Some v → HasOwnType declared v t
    → (injection : Injection) (memory : MachineMemory) (below : List Operand) (d : ℕ) → 16 ≤ d → unit_in G memory.frames ≡ unit
    → Fragment layout G Here n (point injection memory (p.instructions.before + at) below) (result_at unit line number) (p.instructions.before + at + 5) (λ rs. ResultsOnTop (kind.Ordinal h ∷ []) below rs) d (λ rs. 1 + credit_of rs)
result_moves untouched knows ps p references n unit room number line at h type.Text of_host stands inside v is_declared has_type injection memory below d enough home = absurd of_host
result_moves untouched knows ps p references n unit room number line at h (type.Array low high of) of_host stands inside v is_declared has_type injection memory below d enough home = absurd of_host
result_moves untouched knows ps p references n unit room number line at h (type.Set low high) of_host stands inside v is_declared has_type injection memory below d enough home = absurd of_host
result_moves untouched knows ps p references n unit room number line at h (type.Initial of start) of_host stands inside v is_declared has_type injection memory below d enough home = absurd of_host
result_moves untouched knows ps p references n unit room number line at h (type.Record ts) of_host stands inside v is_declared has_type injection memory below d enough home = absurd of_host
result_moves untouched knows ps p references n unit room number line at h (type.Ordinal low high) of_host stands inside v is_declared has_type injection memory below d enough home =
    ordinal_moves untouched knows ps p references n unit room number line at h low high of_host stands inside v is_declared has_type injection memory below d enough home

-- The end of a function, whose result is in a variable of an array or record type. The credit for what is left is there, which the
-- making of the variable gave.
pub structure_moves : {declared : Declarations} {layout : Layout} {G : Image} {Here : Facts} (untouched : Slots) (knows : KnowsNames declared Here) (ps : List Placement) (p : Placement) (references : List Reference) (n : ℕ) (unit : List ℕ)
    (number line at : ℕ) (t : TypeValue) → IsStructured t → CodeStands G ps p references at (structure_code line number)
    → (v : UnitVariable) → slice_get (variables_up declared 0) number ≡ Some v → HasOwnType declared v t
    → (injection : Injection) (memory : MachineMemory) (below : List Operand) (d : ℕ) → 16 ≤ d → unit_in G memory.frames ≡ unit
    → Fragment layout G Here n (point injection memory (p.instructions.before + at) below) (result_at unit line number) (p.instructions.before + at + 2) (λ rs. ResultsOnTop (kind.Structured t ∷ []) below rs) (d + 3 * size_of t) (λ rs. 1 + credit_of rs)
structure_moves {declared = declared} {layout = layout} {G = G} {Here = Here} untouched knows ps p references n unit number line at t structured stands v is_declared has_type injection memory below d enough home =
    fragment_bind {middle = (p.instructions.before + at) + 1} {P = λ a. Inside untouched injection memory (PlaceOnTop t below a)} {e = λ a. d - 1 + 3 * size_of t}
    (λ a. steady_using (meaning.Error run_error.DISPOSED unit line) a.allocation (steady_bind (steady_fetch_or (λ s. meaning.Error (unresulting (type_at a s)) unit line) (result_of a)) (λ r. steady_give (r ∷ []))))
    (fragment_fetched (own_variable 0 number) (λ s matches here.
    subst (λ u. Reads layout G Here (standing (p.instructions.before + at) below memory s.trace) 1 u line ((p.instructions.before + at) + 1) (λ a. Inside untouched injection memory (PlaceOnTop t below a)) s (own_variable 0 number s)) home
    (own_reads declared layout G (p.instructions.before + at) line below number v t stands.0 has_type injection memory s matches ((knows injection s memory here).own number v is_declared) here)) (omega (arith, enough)))
    (λ a longer after pushed i.
    let top = i.operands_are in
    let at_home : unit_in G after.frames ≡ unit = unit_in-same G i.routine ∙ home in (
      still_routine i.routine,
      subst (λ st. Fragment layout G Here n (point longer after ((p.instructions.before + at) + 1) st) (using (meaning.Error run_error.DISPOSED unit line) a.allocation (gives_result unit line a)) (p.instructions.before + at + 2) (λ rs. ResultsOnTop (kind.Structured t ∷ []) below rs) (d - 1 + 3 * size_of t) (λ rs. 1 + credit_of rs)) (sym top.is)
          (fragment_using {n = n} a.allocation
          (λ s matches ended. subst (λ u. FailsWith G (standing ((p.instructions.before + at) + 1) (operand.Place top.place ∷ below) after s.trace) 0 11 u line s) at_home (load_fails layout G ((p.instructions.before + at) + 1) line below (kind.Structured t) t a top.place (refl, structured) (instr_at G (omega arith) stands.1.0) longer after top.spot top.described s matches ended))
          (omega (arith, enough))
          (λ s matches here living. gives longer after a top.place top.spot top.described s matches here living)),
    ))
  where
    gives : (longer : Injection) (after : MachineMemory) (a : Component) (q : PlaceOf) → IsSpot longer after.types a q → IsLike after.types q.type_number t
        → (s : meaning.State) → Matches layout G longer s after → Here longer s after → has_ended a.allocation s ≡ false
        → Follows (λ k. IsNotLeft after.frames k.frames) G n (standing ((p.instructions.before + at) + 1) (operand.Place q ∷ below) after s.trace) s (gives_result unit line a) (λ rs. Lands layout G Here (p.instructions.before + at + 2) (ResultsOnTop (kind.Structured t ∷ []) below rs)) (d - 1 + 3 * size_of t) (λ rs. 1 + credit_of rs)
    gives longer after a q spot described s matches here living =
        let x = structure_found layout G ((p.instructions.before + at) + 1) line below {untouched = untouched} {Here = Here} t a q structured (instr_at G (omega arith) stands.1.0) longer after spot described s matches here living in
        let does = x.2 in
        let reached = does.post in
        let top = reached.operands_are in
        follows_found (λ u. meaning.Error (unresulting (type_at a u)) unit line) (result_of a) (λ r. give (r ∷ [])) (meaning.Error (unresulting (type_at a s)) unit line) (Some (result.Structure t x.0)) refl x.1
        (follows_credit {d = suc (size_of t) + (d - 2 + 2 * size_of t)} {e = λ rs. 1 + credit_of rs} (omega (arith, enough)) (λ rs. omega (arith, enough))
        (follows_waits (not_left-here after.frames) does.does
        (follows_give (result.Structure t x.0 ∷ []) (omega (arith, enough)) (record {
          injection = does.injection;
          memory = does.memory;
          operands = does.operands;
          is = ap (λ k. standing k does.operands does.memory s.trace) {x = (p.instructions.before + at) + 1 + 1} {y = p.instructions.before + at + 2} (omega arith);
          matches = does.matches;
          here = does.here;
          post = value_on_top (kind.Structured t) below (result.Structure t x.0) does.injection does.memory does.operands top;
        }))))

-- The end of a function, whose result is in a variable of a set type.
pub set_moves : {declared : Declarations} {layout : Layout} {G : Image} {Here : Facts} (untouched : Slots) (knows : KnowsNames declared Here) (ps : List Placement) (p : Placement) (references : List Reference) (n : ℕ) (unit : List ℕ)
    (number line at : ℕ) (h : Host) (low high : ℤ) → IsSetOf h (type.Set low high) → CodeStands G ps p references at (structure_code line number)
    → (v : UnitVariable) → slice_get (variables_up declared 0) number ≡ Some v → HasOwnType declared v (type.Set low high)
    → (injection : Injection) (memory : MachineMemory) (below : List Operand) (d : ℕ) → 16 ≤ d → unit_in G memory.frames ≡ unit
    → Fragment layout G Here n (point injection memory (p.instructions.before + at) below) (result_at unit line number) (p.instructions.before + at + 2) (λ rs. ResultsOnTop (kind.Set h ∷ []) below rs) d (λ rs. 1 + credit_of rs)
set_moves {declared = declared} {layout = layout} {G = G} {Here = Here} untouched knows ps p references n unit number line at h low high of_host stands v is_declared has_type injection memory below d enough home =
    fragment_bind {middle = (p.instructions.before + at) + 1} {P = λ a. Inside untouched injection memory (PlaceOnTop t below a)} {e = λ a. d - 1}
    (λ a. steady_using (meaning.Error run_error.DISPOSED unit line) a.allocation (steady_bind (steady_fetch_or (λ s. meaning.Error (unresulting (type_at a s)) unit line) (result_of a)) (λ r. steady_give (r ∷ []))))
    (fragment_fetched (own_variable 0 number) (λ s matches here.
    subst (λ u. Reads layout G Here (standing (p.instructions.before + at) below memory s.trace) 1 u line ((p.instructions.before + at) + 1) (λ a. Inside untouched injection memory (PlaceOnTop t below a)) s (own_variable 0 number s)) home
    (own_reads declared layout G (p.instructions.before + at) line below number v t stands.0 has_type injection memory s matches ((knows injection s memory here).own number v is_declared) here)) (omega (arith, enough)))
    (λ a longer after pushed i.
    let top = i.operands_are in
    let at_home : unit_in G after.frames ≡ unit = unit_in-same G i.routine ∙ home in (
      still_routine i.routine,
      subst (λ st. Fragment layout G Here n (point longer after ((p.instructions.before + at) + 1) st) (using (meaning.Error run_error.DISPOSED unit line) a.allocation (gives_result unit line a)) (p.instructions.before + at + 2) (λ rs. ResultsOnTop (kind.Set h ∷ []) below rs) (d - 1) (λ rs. 1 + credit_of rs)) (sym top.is)
          (fragment_using {n = n} a.allocation
          (λ s matches ended. subst (λ u. FailsWith G (standing ((p.instructions.before + at) + 1) (operand.Place top.place ∷ below) after s.trace) 0 11 u line s) at_home (load_fails layout G ((p.instructions.before + at) + 1) line below (kind.Set h) t a top.place of_host (instr_at G (omega arith) stands.1.0) longer after top.spot top.described s matches ended))
          (omega (arith, enough))
          (λ s matches here living.
          gives longer after a s
          (ends_so unit line (type_at a s) t (variable_type layout G ((p.instructions.before + at) + 1) line below t a top.place longer after top.spot top.described s matches living))
          (subst (λ u. Reading longer after a top.place s u) at_home (load_reads layout G ((p.instructions.before + at) + 1) line below {untouched = untouched} (kind.Set h) t a top.place of_host (instr_at G (omega arith) stands.1.0) longer after top.spot top.described s matches here living)))),
    ))
  where
    t : TypeValue
    t = type.Set low high

    -- what `Load` does there
    Reading : Injection → MachineMemory → Component → PlaceOf → meaning.State → List ℕ → Type 0
    Reading longer after a q s u = ReadsResult layout G Here (standing ((p.instructions.before + at) + 1) (operand.Place q ∷ below) after s.trace) 0 1 u line ((p.instructions.before + at) + 1 + 1) (λ r. Inside untouched longer after (OnTop (kind.Set h) below r)) s (result_of a s)

    gives : (longer : Injection) (after : MachineMemory) (a : Component) {q : PlaceOf} (s : meaning.State)
        → meaning.Error (unresulting (type_at a s)) unit line ≡ meaning.Error run_error.UNDEFINED_VALUE unit line → Reading longer after a q s unit
        → Follows (λ k. IsNotLeft after.frames k.frames) G n (standing ((p.instructions.before + at) + 1) (operand.Place q ∷ below) after s.trace) s (gives_result unit line a) (λ rs. Lands layout G Here (p.instructions.before + at + 2) (ResultsOnTop (kind.Set h ∷ []) below rs)) (d - 1) (λ rs. 1 + credit_of rs)
    gives longer after a s ends (Nothing none fails) =
        follows_found (λ u. meaning.Error (unresulting (type_at a u)) unit line) (result_of a) (λ r. give (r ∷ [])) (meaning.Error run_error.UNDEFINED_VALUE unit line) None ends none
        (follows_stop (not_left-here after.frames) fails.fails (omega (arith, enough)))
    gives longer after a s ends (Result_of r some weight weighs does) =
        let reached = does.post in
        let top = reached.operands_are in
        let light : weight_of r ≡ 0 = ap weight_of top.is_members in
        let none : weight ≡ 0 = omega (arith, weighs, light) in
        follows_found (λ u. meaning.Error (unresulting (type_at a u)) unit line) (result_of a) (λ r. give (r ∷ [])) (meaning.Error run_error.UNDEFINED_VALUE unit line) (Some r) ends some
        (follows_credit {d = suc weight + (d - 2)} {e = λ rs. 1 + credit_of rs} (omega (arith, enough, none)) (λ rs. omega (arith, enough, none))
        (follows_waits (not_left-here after.frames) does.does
        (follows_give (r ∷ []) (omega (arith, enough, light)) (record {
          injection = does.injection;
          memory = does.memory;
          operands = does.operands;
          is = ap (λ k. standing k does.operands does.memory s.trace) {x = (p.instructions.before + at) + 1 + 1} {y = p.instructions.before + at + 2} (omega arith);
          matches = does.matches;
          here = does.here;
          post = value_on_top (kind.Set h) below r does.injection does.memory does.operands top;
        }))))
