-- The machine follows calls, where the routines keep their promises.
use Rattle.std.proofs.Common.{◌≡◌, ℕ, pos, suc, ◌+◌, ◌*◌, ◌≤◌, ◌<◌, List, [], ◌∷◌, ◌++◌, Option, None, Some, length, slice_get, refl, sym, ap, ◌∙◌, subst, arith, length-append}
use Rattle.std.proofs.lemmas.Option.{same_Some}
use Rattle.ep_gen_code.specs.Instructions.{instr, reference}
use Rattle.ep_gen_code.specs.Credit.{least_credit}
use Rattle.ep_gen_expr.proofs.public.Answering.{IsFollowed}
use Rattle.ep_gen_expr.proofs.Arguments.{AreArgumentsFollowed}
use Rattle.ep_gen_code.proofs.public.Placed.{code_back, jump_has}
use Rattle.ep_simulation.proofs.public.following.Fragments.{fragment_to, fragment_credit, fragment_less, fragment_one, fragment_paid, fragment_give, inside_bind}
use Rattle.ep_simulation.proofs.public.following.Promising.{call_follows}
use Rattle.ep_simulation.proofs.public.matching.Awaiting.{on_top}
use Rattle.ep_meaning.proofs.public.ValueKinds.{kinds_are_one}
use Rattle.ep_simulation.proofs.public.matching.MoreMemory.{grown_trans, inside_here, same_routine-trans, unit_in-same}
use Rattle.ep_simulation.proofs.public.matching.Names.{callable}
use Rattle.ep_simulation.proofs.public.rows.Rows.{jump_jumps}
use Rattle.ep_simulation.specs.Activations.{KnowsNames}
use Rattle.ep_simulation.specs.Follows.{Facts, Lasts, Fragment, SameRoutine, Inside, Operands, OnTop, point}
use Rattle.ep_simulation.specs.Layouts.{Layout}
use Rattle.ep_simulation.specs.Matching.{MachineMemory, Injection, Slots, AreAmong, Grown, kept_slots}
use Rattle.ep_object.specs.Operands.{Operand}
use Rattle.ep_object.specs.Placing.{Placement, CodeStands}
use Rattle.ep_simulation.specs.Promises.{AreArguments, AreResults, CallsAt, ResultsOnTop, RoutineKeeps, credit_of}
use Rattle.ep_object.specs.Runs.{unit_in}
use Rattle.ep_object.specs.declared.code.Image.{Image}
use Rattle.ep_object.specs.declared.code.Instr.{Instr}
use Rattle.ep_object.specs.declared.code.Reference.{Reference}
use Rattle.ep_object.specs.declared.op.TheConstants as op
use Rattle.ep_meaning.proofs.public.Steady.{steady_bind, steady_cut, steady_spend, steady_give}
use Rattle.ep_meaning.specs.Steady.{Steady, IsSteadyHandler}
use Rattle.ep_meaning.specs.Calls.{Argument, Handler}
use Rattle.ep_meaning.specs.Meaning.{arguments, one_result}
use Rattle.ep_meaning.specs.Results.{weight_of}
use Rattle.ep_values.specs.Printing.{Result}
use Rattle.ep_meaning.specs.Steps.{Computation, bind, give, spend}
use Rattle.ep_typed.specs.Trees.{Callee, Function, Actuals}
use Rattle.ep_meaning.specs.Valid.{Declarations, IsOfKind, ValueKind, IsDeclaredUp, IsFunction}
use Rattle.ep_typed.specs.Viewed.{denoter_of}
use Rattle.ep_typed.specs.declared.interface.RoutineEntry.{RoutineEntry}
use Rattle.ep_typed.specs.declared.interface.RoutineResult.{RoutineResult}
use Rattle.ep_typed.specs.declared.unit.UnitType.{UnitType}

-- ---- what a function gives

-- the results of a function are one value of its kind
one_kind : (types : List UnitType) (kind : ValueKind) (o : Option RoutineResult) (r : RoutineResult) (ks : List ValueKind) → o ≡ Some r → IsOfKind kind types (denoter_of r.denoter) → AreResults types o ks → ks ≡ kind ∷ []
one_kind types kind None r ks is has are = cc
one_kind types kind (Some q) r [] is has are = absurd are
one_kind types kind (Some q) r (k ∷ l ∷ ks) is has are = absurd are
one_kind types kind (Some q) r (k ∷ []) is has are =
    ap (λ x. x ∷ []) (kinds_are_one types (denoter_of r.denoter) k kind (subst (λ x. IsOfKind k types (denoter_of x.denoter)) (same_Some q r is) are) has)

-- one value of a kind that lies on the operands below
record GivesValue (k : ValueKind) (below operands : List Operand) (rs : List Result) (injection : Injection) (memory : MachineMemory) : Type 0 where
  result : Result
  gives : rs ≡ result ∷ []
  top : OnTop k below result injection memory operands

-- what lies there as the results of a function
gives_value : (k : ValueKind) (below operands : List Operand) (rs : List Result) (injection : Injection) (memory : MachineMemory) → ResultsOnTop (k ∷ []) below rs injection memory operands → GivesValue k below operands rs injection memory
gives_value k below operands [] injection memory top = absurd top
gives_value k below operands (r ∷ s ∷ rs) injection memory (o, value, more) = absurd more
gives_value k below operands (r ∷ []) injection memory (o, value, is) =
    record { result = r; gives = refl; top = on_top k below r o injection memory operands value is }

-- no event is taken back by what a function gives
steady_one : (call : Handler) (g : ℕ) (unit : List ℕ) (rs : List Result) → Steady (one_result call g unit rs)
steady_one call g unit [] = steady_cut
steady_one call g unit (r ∷ []) = steady_spend (suc (weight_of r)) (steady_give r)
steady_one call g unit (r ∷ s ∷ rs) = steady_cut

module _ {layout : Layout} {G : Image} {untouched : Slots} {Here : Facts} (ps : List Placement) (p : Placement) (references : List Reference)
    (room : p.instructions.before + p.instructions.own ≤ length G.instructions) where
  -- The jump behind a call leads to the next place, and has the tick for the step that is spent when the call is done.
  pub call_ends : {A : Type 0} {Then : A → Operands} {e : A → ℕ} (n : ℕ) (a : A) (line at next : ℕ) → CodeStands G ps p references at (instr op.JUMP (pos next) 0 line ∷ []) → next < p.instructions.own
      → (injection : Injection) (memory : MachineMemory) (operands : List Operand) (d : ℕ) → e a ≤ d + 63 → Then a injection memory operands
      → Fragment layout G Here n (point injection memory (p.instructions.before + at) operands) (spend 1 (give a)) (p.instructions.before + next) (λ b. Inside untouched injection memory (Then b)) d e
  call_ends {e = e} n a line at next stands inside injection memory operands d enough top =
      fragment_less {n = suc n} (omega arith) (fragment_one {d1 = e a}
      (λ s matches. jump_jumps G (p.instructions.before + at) line operands (p.instructions.before + next) (omega (arith, room, inside)) (jump_has G ps p references line at next [] inside stands) memory s.trace) enough (fragment_give (omega arith) (inside_here top)))

  -- The same behind a function, whose result has a weight.
  result_ends : {Then : Result → Operands} (n : ℕ) (r : Result) (line at next : ℕ) → CodeStands G ps p references at (instr op.JUMP (pos next) 0 line ∷ []) → next < p.instructions.own
      → (injection : Injection) (memory : MachineMemory) (operands : List Operand) (d : ℕ) → Then r injection memory operands
      → Fragment layout G Here n (point injection memory (p.instructions.before + at) operands) (spend (suc (weight_of r)) (give r)) (p.instructions.before + next) (λ b. Inside untouched injection memory (Then b)) (d + 2 * weight_of r) (λ b. d + 8 + weight_of b)
  result_ends n r line at next stands inside injection memory operands d top =
      fragment_less {n = suc n} (omega arith) (fragment_paid {d1 = d + 63 + weight_of r} {weight = 0} {w = weight_of r}
      (λ s matches. jump_jumps G (p.instructions.before + at) line operands (p.instructions.before + next) (omega (arith, room, inside)) (jump_has G ps p references line at next [] inside stands) memory s.trace) (omega arith) (omega arith) (omega arith) (fragment_give (omega arith) (inside_here top)))

  module _ {declared : Declarations} (knows : KnowsNames declared Here) (lasts : Lasts untouched Here) (among : AreAmong untouched (kept_slots layout G)) (call : Handler) (steady_call : IsSteadyHandler call) (g : ℕ) (unit : List ℕ) (n : ℕ) where
    -- the call, where the arguments are on the operands, and what comes after it
    call_passes : {B : Type 0} {Then : B → Operands} {e : B → ℕ} {to : ℕ} {rest : List Result → Computation B} (line at : ℕ) (callee : Callee) (k : ℕ) (r : RoutineEntry) (keeps : RoutineKeeps layout G ps call n declared.types (declared.around callee.unit callee.number) callee.unit callee.number r)
        → IsDeclaredUp declared callee callee.levels → slice_get references k ≡ Some (reference callee.unit callee.number)
        → (is : List Instr) → CodeStands G ps p references at (instr op.CALL (pos k) callee.levels line ∷ is)
        → (injection : Injection) (memory : MachineMemory) (below operands : List Operand) (xs : List Argument) → AreArguments injection memory keeps.formals xs below operands
        → (d : ℕ) → unit_in G memory.frames ≡ unit → ((rs : List Result) → Steady (rest rs))
        → ((rs : List Result) (longer : Injection) (after : MachineMemory) (pushed : List Operand) → Grown untouched injection memory longer after → SameRoutine untouched memory.frames after.frames → ResultsOnTop keeps.results below rs longer after pushed → Fragment layout G Here n (point longer after (p.instructions.before + (at + 1)) pushed) (rest rs) to (λ b. Inside untouched longer after (Then b)) (d + credit_of rs) e)
        → Fragment layout G Here n (point injection memory (p.instructions.before + at) operands) (bind (call.routine unit line callee xs) rest) to (λ b. Inside untouched injection memory (Then b)) d e
    call_passes line at callee k r keeps is_declared named is stands injection memory below operands xs are d home steady behind =
        let place : ℕ = p.instructions.before + at in
        let calls : CallsAt G place keeps.routine callee.levels line =
        record { instruction = instr op.CALL (pos keeps.routine) callee.levels line; stands = stands.0 ∙ ap (λ i. Some i) (rw named (keeps.placed (instr op.CALL (pos k) callee.levels line))); is_call = refl; names = refl; parent = refl; at_line = refl } in
        let called : Fragment layout G Here n (point injection memory place operands) (call.routine unit line callee xs) (place + 1) (λ rs. Inside untouched injection memory (ResultsOnTop keeps.results below rs)) 0 credit_of =
        subst (λ u. Fragment layout G Here n (point injection memory place operands) (call.routine u line callee xs) (place + 1) (λ rs. Inside untouched injection memory (ResultsOnTop keeps.results below rs)) 0 credit_of) home
        (call_follows keeps.promise lasts among place callee.levels line calls injection memory (λ s held. callable (knows injection s memory held) callee callee.levels is_declared) below operands xs are) in
        inside_bind {e = λ rs. d + credit_of rs} steady (fragment_to {to2 = p.instructions.before + (at + 1)} (omega arith) (fragment_credit {d = 0} {e = credit_of} (omega arith) (λ rs. omega arith) called)) behind

    -- the actual parameters, the call, and what comes after it
    pub passed_then : {B : Type 0} {Then : B → Operands} {e : B → ℕ} {to : ℕ} (line at : ℕ) (callee : Callee) (k : ℕ) (given : Actuals) (xs : List Instr) (r : RoutineEntry) (keeps : RoutineKeeps layout G ps call n declared.types (declared.around callee.unit callee.number) callee.unit callee.number r)
        → AreArgumentsFollowed layout G untouched Here p call g unit n keeps.formals given line at xs → IsDeclaredUp declared callee callee.levels → slice_get references k ≡ Some (reference callee.unit callee.number)
        → (is : List Instr) → CodeStands G ps p references at (xs ++ instr op.CALL (pos k) callee.levels line ∷ is)
        → (injection : Injection) (memory : MachineMemory) (below : List Operand) (d : ℕ) → least_credit ≤ d → unit_in G memory.frames ≡ unit
        → (rest : List Result → Computation B) → ((rs : List Result) → Steady (rest rs))
        → ((rs : List Result) (longer : Injection) (after : MachineMemory) (pushed : List Operand) → Grown untouched injection memory longer after → SameRoutine untouched memory.frames after.frames → ResultsOnTop keeps.results below rs longer after pushed → Fragment layout G Here n (point longer after (p.instructions.before + (at + length xs + 1)) pushed) (rest rs) to (λ b. Inside untouched longer after (Then b)) (d + credit_of rs) e)
        → Fragment layout G Here n (point injection memory (p.instructions.before + at) below) (bind (arguments call g unit line given) (λ vs. bind (call.routine unit line callee vs) rest)) to (λ b. Inside untouched injection memory (Then b)) d e
    passed_then line at callee k given xs r keeps follows is_declared named is stands injection memory below d enough home rest steady behind =
        inside_bind {First = λ values last final operands. AreArguments last final keeps.formals values below operands} {e = λ values. d} (λ values. steady_bind (steady_call.routine unit line callee values) steady)
        (follows injection memory below d enough home)
        (λ values longer after operands grown routine are.
        call_passes line (at + length xs) callee k r keeps is_declared named is (code_back G ps p references at xs (instr op.CALL (pos k) callee.levels line ∷ is) stands) longer after below operands values are d (unit_in-same G routine ∙ home) steady
        (λ rs last final pushed grown2 routine2 top. behind rs last final pushed (grown_trans grown grown2) (same_routine-trans routine routine2) top))

    -- a function designator
    pub function_follows : (kind : ValueKind) (line at : ℕ) (callee : Callee) (k : ℕ) (given : Actuals) (xs : List Instr) (r : RoutineEntry) (keeps : RoutineKeeps layout G ps call n declared.types (declared.around callee.unit callee.number) callee.unit callee.number r) → IsFunction declared.types kind r
        → AreArgumentsFollowed layout G untouched Here p call g unit n keeps.formals given line at xs → IsDeclaredUp declared callee callee.levels → slice_get references k ≡ Some (reference callee.unit callee.number)
        → CodeStands G ps p references at (xs ++ instr op.CALL (pos k) callee.levels line ∷ instr op.JUMP (pos (at + length xs + 2)) 0 line ∷ []) → at + length xs + 2 < p.instructions.own
        → IsFollowed layout G untouched Here p call g unit n kind (Function callee given) line at (xs ++ instr op.CALL (pos k) callee.levels line ∷ instr op.JUMP (pos (at + length xs + 2)) 0 line ∷ [])
    function_follows kind line at callee k given xs r keeps function follows is_declared named stands inside injection memory below d enough home =
        let jump : Instr = instr op.JUMP (pos (at + length xs + 2)) 0 line in
        let behind : CodeStands G ps p references (at + length xs) (instr op.CALL (pos k) callee.levels line ∷ jump ∷ []) = code_back G ps p references at xs (instr op.CALL (pos k) callee.levels line ∷ jump ∷ []) stands in
        let kinds : keeps.results ≡ kind ∷ [] = one_kind declared.types kind r.result function.result keeps.results function.has_result function.has_kind keeps.given in
        fragment_to {to = p.instructions.before + (at + length xs + 2)} (omega (arith, length-append xs (instr op.CALL (pos k) callee.levels line ∷ jump ∷ [])))
        (passed_then {Then = OnTop kind below} {e = λ a. d + 8 + weight_of a} line at callee k given xs r keeps follows is_declared named (jump ∷ []) stands injection memory below d enough home (one_result call g unit) (steady_one call g unit)
        (λ rs longer after pushed grown routine top.
        let value : GivesValue kind below pushed rs longer after = gives_value kind below pushed rs longer after (subst (λ ks. ResultsOnTop ks below rs longer after pushed) kinds top) in
        let one : List Result = value.result ∷ [] in
        subst (λ x. Fragment layout G Here n (point longer after (p.instructions.before + (at + length xs + 1)) pushed) (one_result call g unit x) (p.instructions.before + (at + length xs + 2)) (λ a. Inside untouched longer after (OnTop kind below a)) (d + credit_of x) (λ a. d + 8 + weight_of a)) (sym value.gives)
        (fragment_credit {d = d + 2 * weight_of value.result} (omega arith) (λ a. omega arith) (result_ends n value.result line (at + length xs + 1) (at + length xs + 2) behind.1 inside longer after pushed d value.top))))
