-- The machine follows assignments, `halt` and the statements that have no code.
use Rattle.std.proofs.Common.{◌≡◌, ℕ, suc, ◌+◌, ◌<◌, ◌≤◌, List, [], ◌∷◌, ◌++◌, length, length-append, refl, sym, ap, ◌∙◌, subst, arith}
use Rattle.ep_gen_code.specs.Credit.{least_credit}
use Rattle.ep_gen_code.specs.Instructions.{bare}
use Rattle.ep_gen_expr.specs.ExprCode.{IsPlaceCode, IsExprCode}
use Rattle.ep_gen_unit.specs.StmtCode.{IsAssignCode}
use Rattle.ep_gen_expr.proofs.public.PlaceTypes.{IsKindPlace, kind_place}
use Rattle.ep_gen_unit.proofs.Parts.{Moves, ExpressionsFollow, PlacesFollow, code_stands-parts}
use Rattle.ep_simulation.specs.Follows.{point, Facts, Lasts, Fragment, Inside, Bare, OnTop}
use Rattle.ep_simulation.specs.Layouts.{Layout}
use Rattle.ep_simulation.specs.Matching.{Slots, MachineMemory, Injection, IsLike, IsSpot, at as standing}
use Rattle.ep_object.specs.Operands.{Operand}
use Rattle.ep_object.specs.Operands as operand
use Rattle.ep_object.specs.Placing.{Placement, CodeStands}
use Rattle.ep_simulation.specs.Scene.{Scene}
use Rattle.ep_simulation.specs.Promises.{IsValueOf}
use Rattle.ep_object.specs.Runs.{unit_in}
use Rattle.ep_object.specs.declared.code.Image.{Image}
use Rattle.ep_object.specs.declared.code.Instr.{Instr}
use Rattle.ep_object.specs.declared.code.Reference.{Reference}
use Rattle.ep_object.specs.declared.state.Place.{Place as PlaceOf}
use Rattle.ep_simulation.proofs.public.rows.ChangeRows.{MayTake, value_does, value_ended, value_fails}
use Rattle.ep_simulation.proofs.public.following.Choices.{follows_checked-weighed, fragment_using}
use Rattle.ep_simulation.proofs.public.following.Fragments.{FailsWith, fragment_give, fragment_stop, fragment_to, fragment_less, fragment_credit, fragment_bind_place, inside_bind}
use Rattle.ep_simulation.proofs.public.matching.Awaiting.{value_on_top}
use Rattle.ep_simulation.proofs.public.matching.MoreMemory.{unit_in-same, is_spot-grown, describes-grown, inside_here}
use Rattle.ep_simulation.proofs.public.rows.Rows.{outcome_at}
use Rattle.ep_meaning.specs.Steady.{IsSteadyHandler}
use Rattle.ep_meaning.specs.Calls.{Handler}
use Rattle.ep_meaning.proofs.public.Steady.{steady_bind, steady_eval, steady_assign}
use Rattle.ep_meaning.specs.Meaning.{exec, assign, assigns}
use Rattle.ep_meaning.specs.Results.{misfit, suits, value_of, weight_of}
use Rattle.ep_values.specs.Printing.{Result}
use Rattle.ep_meaning.specs.Steps.{Component, assigned, type_at}
use Rattle.ep_typed.specs.Trees.{Place, Expr, Empty, Halt}
use Rattle.ep_meaning.specs.Valid.{Declarations, IsExpr, IsOfKind, IsPlaceWhere, IsTypeOfKind, ValueKind}
use Rattle.ep_values.specs.TypeValues.{TypeValue}
use Rattle.ep_object.specs.declared.op.TheConstants as op

module _ {layout : Layout} {G : Image} {untouched : Slots} {Here : Facts} (lasts : Lasts untouched Here) (ps : List Placement) (p : Placement) (texts : List (List ℕ)) (references : List Reference) (call : Handler) (steady_call : IsSteadyHandler call) (n : ℕ) (unit : List ℕ) where
  -- nothing is done
  pub empty_moves : (at : ℕ) → Moves layout G untouched Here ps p texts references call n unit at (at + 0) (exec call n unit Empty)
  empty_moves at injection memory below d enough home = fragment_to (omega arith) (fragment_give (omega arith) (inside_here refl))

  -- `halt`
  pub halt_moves : (line at to : ℕ) → CodeStands G ps p references at (bare line op.HALT ∷ []) → Moves layout G untouched Here ps p texts references call n unit at to (exec call n unit (Halt line))
  halt_moves line at to stands injection memory below d enough home =
      fragment_stop {weight = 0} (λ s matches. outcome_at G (bare line op.HALT) (p.instructions.before + at) below memory s.trace stands.0) (omega arith)

  -- `Store`, where the variable's place and the value are on top
  pub store_moves : (k : ValueKind) (t : TypeValue) (r : Result) (o : Operand) (a : Component) (q : PlaceOf) → MayTake k t → (line at : ℕ) → CodeStands G ps p references at (bare line op.STORE ∷ []) → (injection : Injection) (memory : MachineMemory) → IsValueOf injection memory k r o → (below : List Operand) (d : ℕ) → least_credit ≤ d → unit_in G memory.frames ≡ unit → IsSpot injection memory.types a q → IsLike memory.types q.type_number t
      → Fragment layout G Here n (point injection memory (p.instructions.before + at) (o ∷ operand.Place q ∷ below)) (assign call n unit line a r) (p.instructions.before + at + 1) (λ b. Inside untouched injection memory (Bare below b)) (d + weight_of r) (λ b. d)
  store_moves k t r o a q takes line at stands injection memory value below d enough home spot described =
      fragment_less {n = suc n} (omega arith) (fragment_using {n = suc n} {e = λ b. d} a.allocation
      (λ s matches ended. subst (λ u. FailsWith G (standing (p.instructions.before + at) (o ∷ operand.Place q ∷ below) memory s.trace) (weight_of r) 11 u line s) home (value_ended layout G (p.instructions.before + at) line below k t r o a q takes stands.0 injection memory value spot described s matches ended))
      (omega (arith, enough))
      (λ s matches here living. follows_checked-weighed {weight = weight_of r} {e = λ b. d} (point injection memory (p.instructions.before + at) (o ∷ operand.Place q ∷ below)) (λ s. suits (type_at a s) r) (assigned a (value_of r)) s
      (λ is. value_does layout G (p.instructions.before + at) line below k t r o a q takes stands.0 injection memory value spot described s matches living lasts here is)
      (λ is. subst (λ u. FailsWith G (standing (p.instructions.before + at) (o ∷ operand.Place q ∷ below) memory s.trace) (weight_of r) (misfit r) u line s) home (value_fails layout G (p.instructions.before + at) line below k t r o a q takes stands.0 injection memory value spot described s matches living is))
      (omega (arith, enough)) (omega arith)))

  module _ {declared : Declarations} (scene : Scene declared layout G ps p texts) (expressions : ExpressionsFollow declared layout G untouched Here ps p texts references call n unit) (places : PlacesFollow declared layout G untouched Here ps p texts references call n unit) where
    -- an assignment to a variable of a kind, of a value of a kind that it may take
    assign_to : (line at : ℕ) (q : Place) (to k : ValueKind) (v : IsKindPlace declared q to) → MayTake k v.type_value → (x : Expr) (pcode xcode : List Instr) → IsExpr declared k x → IsPlaceCode texts references line at q pcode → IsExprCode texts references line (at + length pcode) x xcode → at + length pcode + length xcode < p.instructions.own
        → CodeStands G ps p references at pcode → CodeStands G ps p references (at + length pcode) xcode → CodeStands G ps p references (at + length pcode + length xcode) (bare line op.STORE ∷ []) → Moves layout G untouched Here ps p texts references call n unit at (at + length pcode + length xcode + 1) (assigns call n unit line q x)
    assign_to line at q to k v takes x pcode xcode valid place_code expr_code inside at_place at_expr at_store injection memory below d enough home =
        fragment_bind_place {type = v.type_value} {e = λ a. d + 8} (λ a. steady_bind (steady_eval call steady_call n unit line x) (λ r. steady_assign call steady_call n unit line a r)) (places q v.valid v.type_value v.has_type line at pcode place_code at_place (omega (arith, inside)) injection memory below d (omega arith) home) (λ a place_here longer after grown routine spot described.
        inside_bind {First = OnTop k (operand.Place place_here ∷ below)} {e = λ r. d + 8 + 8 + weight_of r} (λ r. steady_assign call steady_call n unit line a r) (expressions k x valid line (at + length pcode) xcode expr_code at_expr inside longer after (operand.Place place_here ∷ below) (d + 8) (omega arith) (unit_in-same G routine ∙ home)) (λ r last final pushed grown2 routine2 top.
        let value = value_on_top k (operand.Place place_here ∷ below) r last final pushed top in
        subst (λ st. Fragment layout G Here n (point last final (p.instructions.before + (at + length pcode + length xcode)) st) (assign call n unit line a r) (p.instructions.before + (at + length pcode + length xcode + 1)) (λ b. Inside untouched last final (Bare below b)) (d + 8 + 8 + weight_of r) (λ b. d)) (sym value.2)
        (fragment_to {to = p.instructions.before + (at + length pcode + length xcode) + 1} (omega arith) (fragment_credit {d = d + 8 + 8 + weight_of r} {e = λ b. d + 8 + 8} (omega arith) (λ b. omega arith) (
        store_moves k v.type_value r value.0 a place_here takes line (at + length pcode + length xcode) at_store last final value.1 below (d + 8 + 8) (omega (arith, enough)) (unit_in-same G routine2 ∙ (unit_in-same G routine ∙ home)) (is_spot-grown grown2 spot)
        (describes-grown place_here.type_number v.type_value grown2 described))))))

    -- wherever the code of an assignment stands
    pub assigned_moves : (line at : ℕ) (q : Place) (to k : ValueKind) → ((t : TypeValue) → IsTypeOfKind to t → MayTake k t) → (x : Expr) (is : List Instr) → IsPlaceWhere declared (IsOfKind to) q → IsExpr declared k x → IsAssignCode texts references line at q x is → at + length is < p.instructions.own → CodeStands G ps p references at is
        → Moves layout G untouched Here ps p texts references call n unit at (at + length is) (assigns call n unit line q x)
    assigned_moves line at q to k takes x is is_place valid code inside stands =
        let pcode : List Instr = code.0 in
        let xcode : List Instr = code.1 in
        let v = kind_place declared scene.types_valid scene.own_types_valid to q is_place in
        let first = code_stands-parts G ps p references at pcode (xcode ++ bare line op.STORE ∷ []) (subst (λ w. CodeStands G ps p references at w) code.4 stands) in
        let second = code_stands-parts G ps p references (at + length pcode) xcode (bare line op.STORE ∷ []) first.1 in
        let ends : at + length pcode + length xcode + 1 ≡ at + length is = omega (arith, ap length code.4, length-append pcode (xcode ++ bare line op.STORE ∷ []), length-append xcode (bare line op.STORE ∷ [])) in
        λ injection memory below d enough home. fragment_to (ap (λ w. p.instructions.before + w) ends)
        (assign_to line at q to k v (takes v.type_value v.of_kind) x pcode xcode valid code.2 code.3 (omega (arith, ends, inside)) first.0 second.0 second.1 injection memory below d enough home)
