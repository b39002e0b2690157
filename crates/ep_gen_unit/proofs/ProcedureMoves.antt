-- The machine follows procedure statements, where the routines keep their promises.
use Rattle.std.proofs.Common.{◌≡◌, ℕ, pos, ◌+◌, ◌<◌, ◌≤◌, List, [], ◌∷◌, ◌++◌, Option, None, Some, length, slice_get, refl, arith}
use Rattle.ep_gen_expr.specs.ExprCode.{AreActualsCode}
use Rattle.ep_gen_code.specs.Instructions.{instr, reference}
use Rattle.ep_gen_expr.proofs.public.Calls.{call_ends}
use Rattle.ep_gen_code.proofs.public.Placed.{code_back}
use Rattle.ep_gen_unit.proofs.Parts.{Moves, CallsFollow}
use Rattle.ep_simulation.proofs.public.following.Kept.{routine_kept}
use Rattle.ep_simulation.specs.Follows.{Facts}
use Rattle.ep_simulation.specs.Layouts.{Layout}
use Rattle.ep_simulation.specs.Matching.{MachineMemory, Injection, Slots}
use Rattle.ep_object.specs.Operands.{Operand}
use Rattle.ep_object.specs.Placing.{Placement, CodeStands}
use Rattle.ep_simulation.specs.Promises.{AreResults, CallsAreKept, ResultsOnTop}
use Rattle.ep_object.specs.declared.code.Image.{Image}
use Rattle.ep_object.specs.declared.code.Instr.{Instr}
use Rattle.ep_object.specs.declared.code.Reference.{Reference}
use Rattle.ep_object.specs.declared.op.TheConstants as op
use Rattle.ep_meaning.proofs.public.Steady.{steady_spend, steady_give}
use Rattle.ep_meaning.specs.Calls.{Handler}
use Rattle.ep_meaning.specs.Meaning.{exec}
use Rattle.ep_values.specs.Printing.{Result}
use Rattle.ep_meaning.specs.Steps.{give, spend}
use Rattle.ep_typed.specs.Trees.{Callee, Actuals, Procedure}
use Rattle.ep_meaning.specs.Valid.{Declarations, ValueKind, IsStmt}
use Rattle.ep_typed.specs.declared.interface.RoutineResult.{RoutineResult}
use Rattle.ep_typed.specs.declared.unit.UnitType.{UnitType}

-- a procedure gives nothing
no_kinds : (types : List UnitType) (result : Option RoutineResult) (ks : List ValueKind) → result ≡ None → AreResults types result ks → ks ≡ []
no_kinds types None [] e h = refl
no_kinds types None (k ∷ ks) e h = absurd h
no_kinds types (Some r) ks e h = cc

-- so nothing is on top of the operands below
no_results : (below operands : List Operand) (ks : List ValueKind) (rs : List Result) (injection : Injection) (memory : MachineMemory)
    → ks ≡ [] → ResultsOnTop ks below rs injection memory operands → operands ≡ below
no_results below operands [] [] injection memory e h = h
no_results below operands [] (r ∷ rs) injection memory e h = absurd h
no_results below operands (k ∷ ks) rs injection memory e h = cc

module _ {declared : Declarations} {layout : Layout} {G : Image} {untouched : Slots} {Here : Facts}
    (ps : List Placement) (p : Placement) (texts : List (List ℕ)) (references : List Reference) (call : Handler) (n : ℕ) (unit : List ℕ)
    (room : p.instructions.before + p.instructions.own ≤ length G.instructions) where
  -- the actual parameters, the call, and the jump behind it
  pub procedure_moves : (calls : CallsFollow declared layout G untouched Here ps p texts references call n unit) (kept : CallsAreKept declared layout G ps call n)
      → (line at : ℕ) (callee : Callee) (k : ℕ) (given : Actuals) (xs : List Instr) → IsStmt declared (Procedure line callee given)
      → AreActualsCode texts references line at given xs → slice_get references k ≡ Some (reference callee.unit callee.number)
      → CodeStands G ps p references at (xs ++ instr op.CALL (pos k) callee.levels line ∷ instr op.JUMP (pos (at + length xs + 2)) 0 line ∷ []) → at + length xs + 2 < p.instructions.own
      → Moves layout G untouched Here ps p texts references call n unit at (at + length xs + 2) (exec call n unit (Procedure line callee given))
  procedure_moves calls kept line at callee k given xs valid codes named stands inside injection memory below d enough home =
      let called = valid.1 in
      let keeps = routine_kept kept callee.unit callee.number valid.0 called.there in
      let none : keeps.results ≡ [] = no_kinds declared.types (valid.0).result keeps.results valid.2 keeps.given in
      let behind : CodeStands G ps p references (at + length xs) (instr op.CALL (pos k) callee.levels line ∷ instr op.JUMP (pos (at + length xs + 2)) 0 line ∷ []) = code_back G ps p references at xs (instr op.CALL (pos k) callee.levels line ∷ instr op.JUMP (pos (at + length xs + 2)) 0 line ∷ []) stands in
      calls line at (p.instructions.before + (at + length xs + 2)) callee k given xs valid.0 keeps valid.3 codes called.declared_up named stands inside injection memory below d (omega (arith, enough)) home
      (λ rs. spend 1 (give tt)) (λ rs. steady_spend 1 (steady_give tt))
      (λ rs longer after pushed grown routine results.
      call_ends ps p references room n tt line (at + length xs + 1) (at + length xs + 2) behind.1 inside longer after pushed d (omega arith) (no_results below pushed keeps.results rs longer after none results))
