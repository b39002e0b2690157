-- The machine follows the actual parameters of a call, and leaves on the operands what the formal ones take.
use Rattle.std.proofs.Common.{◌≡◌, ℕ, ◌+◌, ◌≤◌, List, [], ◌∷◌, ◌++◌, length, refl, sym, ap, ◌∙◌, subst, arith, length-append}
use Rattle.std.proofs.lemmas.Option.{same_Some}
use Rattle.ep_gen_code.specs.Credit.{least_credit}
use Rattle.ep_gen_expr.proofs.public.Answering.{IsFollowed, IsPlaceFollowed}
use Rattle.ep_simulation.proofs.public.following.Fragments.{fragment_to, fragment_give, inside_bind, fragment_bind_place}
use Rattle.ep_simulation.proofs.public.matching.MoreMemory.{unit_in-same, is_spot-grown, describes-grown, inside_here}
use Rattle.ep_simulation.specs.Follows.{Facts, Fragment, Inside, OnTop, Operands, point}
use Rattle.ep_simulation.proofs.public.matching.Awaiting.{value-grown, value_on_top}
use Rattle.ep_meaning.proofs.public.ValueKinds.{kinds_are_one}
use Rattle.ep_typed.specs.Viewed.{denoter_of}
use Rattle.ep_simulation.specs.Layouts.{Layout}
use Rattle.ep_simulation.specs.Matching.{MachineMemory, Injection, Slots, Grown}
use Rattle.ep_object.specs.Operands.{Operand}
use Rattle.ep_object.specs.Operands as operand
use Rattle.ep_object.specs.Placing.{Placement}
use Rattle.ep_simulation.specs.Promises.{Passing, ByValue, ByReference, IsPassed, IsArgument, AreArguments}
use Rattle.ep_object.specs.Runs.{unit_in}
use Rattle.ep_object.specs.declared.code.Image.{Image}
use Rattle.ep_object.specs.declared.code.Instr.{Instr}
use Rattle.ep_meaning.proofs.public.Steady.{steady_bind, steady_give, steady_arguments}
use Rattle.ep_meaning.specs.Steady.{IsSteadyHandler}
use Rattle.ep_meaning.specs.Calls.{Argument, Value, Variable, Handler}
use Rattle.ep_meaning.specs.Meaning.{argument, arguments}
use Rattle.ep_meaning.specs.Results.{weight_of}
use Rattle.ep_meaning.specs.Steps.{give, bind}
use Rattle.ep_typed.specs.Trees.{Place, Expr, Actual, Evaluated, Accessed, Actuals, no_actual, next_actual}
use Rattle.ep_meaning.specs.Valid.{Declarations, ValueKind, IsExpr, IsVariableOf, IsGiven}
use Rattle.ep_typed.specs.declared.interface.Formal.{Formal}
use Rattle.ep_typed.specs.declared.interface.FormalMode.{FormalMode}
use Rattle.ep_typed.specs.declared.interface.FormalMode.TheVariants as mode
use Rattle.ep_typed.specs.declared.unit.UnitType.{UnitType}
use Rattle.ep_values.specs.TypeValues.{TypeValue}

-- an argument that lies on the operands goes on being one while memory grows
argument_later : {untouched : Slots} {injection longer : Injection} {memory after : MachineMemory} (k : Passing) (x : Argument) (o : Operand)
    → Grown untouched injection memory longer after → IsArgument injection memory k x o → IsArgument longer after k x o
argument_later (ByValue k) (Value r) o g h = value-grown k r o g h
argument_later (ByValue k) (Variable m) o g h = absurd h
argument_later (ByReference t) (Value r) o g h = absurd h
argument_later (ByReference t) (Variable m) o g h = (h.0, h.1, is_spot-grown g h.2, describes-grown (h.0).type_number t g h.3)

-- an argument lies on the operands below
abbrev pub ArgumentOnTop : Passing → List Operand → Argument → Operands
ArgumentOnTop k below x injection memory operands = (o : Operand) × IsArgument injection memory k x o × (operands ≡ o ∷ below)

-- an actual parameter gives what is passed so
abbrev pub Fits : Declarations → Passing → Actual → Type 0
Fits declared (ByValue k) (Evaluated x) = IsExpr declared k x
Fits declared (ByReference t) (Accessed q) = IsVariableOf declared t q
Fits declared k a = ⊥

-- What is given for a formal parameter fits how that takes it.
pub fits : (declared : Declarations) (types : List UnitType) (m : FormalMode) (f : Formal) (k : Passing) (a : Actual) → IsPassed types m f k → IsGiven declared types m f a → Fits declared k a
fits declared types mode.Value f (ByReference t) a p g = absurd p
fits declared types mode.Value f (ByValue k) (Accessed q) p g = absurd g
fits declared types mode.Value f (ByValue k) (Evaluated x) p g = subst (λ l. IsExpr declared l x) (kinds_are_one types (denoter_of f.denoter) g.0 k g.1 p) g.2
fits declared types mode.ProtectedValue f (ByReference t) a p g = absurd p
fits declared types mode.ProtectedValue f (ByValue k) (Accessed q) p g = absurd g
fits declared types mode.ProtectedValue f (ByValue k) (Evaluated x) p g = subst (λ l. IsExpr declared l x) (kinds_are_one types (denoter_of f.denoter) g.0 k g.1 p) g.2
fits declared types mode.Variable f (ByValue k) a p g = absurd p
fits declared types mode.Variable f (ByReference t) (Evaluated x) p g = absurd g
fits declared types mode.Variable f (ByReference t) (Accessed q) p g = subst (λ u. IsVariableOf declared u q) (same_Some g.0 t (sym g.1 ∙ p)) g.2
fits declared types mode.ProtectedVariable f (ByValue k) a p g = absurd p
fits declared types mode.ProtectedVariable f (ByReference t) (Evaluated x) p g = absurd g
fits declared types mode.ProtectedVariable f (ByReference t) (Accessed q) p g = subst (λ u. IsVariableOf declared u q) (same_Some g.0 t (sym g.1 ∙ p)) g.2

module _ (layout : Layout) (G : Image) (untouched : Slots) (Here : Facts) (p : Placement) (call : Handler) (g : ℕ) (unit : List ℕ) (n : ℕ) where
  -- From each memory of a routine of the unit, the machine follows the actual parameter through this code, which begins at
  -- this place of the object, and leaves on the operands below what is passed so.
  abbrev pub IsArgumentFollowed : Passing → Actual → ℕ → ℕ → List Instr → Type 0
  IsArgumentFollowed k a line at is =
      (injection : Injection) (memory : MachineMemory) (below : List Operand) (d : ℕ) → least_credit ≤ d → unit_in G memory.frames ≡ unit
      → Fragment layout G Here n (point injection memory (p.instructions.before + at) below) (argument call g unit line a) (p.instructions.before + (at + length is)) (λ x. Inside untouched injection memory (ArgumentOnTop k below x)) d (λ x. d + 8)

  -- the same of actual parameters in order, one for each formal one
  abbrev pub AreArgumentsFollowed : List Passing → Actuals → ℕ → ℕ → List Instr → Type 0
  AreArgumentsFollowed formals given line at is =
      (injection : Injection) (memory : MachineMemory) (below : List Operand) (d : ℕ) → least_credit ≤ d → unit_in G memory.frames ≡ unit
      → Fragment layout G Here n (point injection memory (p.instructions.before + at) below) (arguments call g unit line given) (p.instructions.before + (at + length is)) (λ xs. Inside untouched injection memory (λ last final operands. AreArguments last final formals xs below operands)) d (λ xs. d)

module _ {layout : Layout} {G : Image} {untouched : Slots} {Here : Facts} (p : Placement) (call : Handler) (steady_call : IsSteadyHandler call) (g : ℕ) (unit : List ℕ) (n : ℕ) where
  -- a value
  pub value_follows : (k : ValueKind) (x : Expr) (line at : ℕ) (is : List Instr) → IsFollowed layout G untouched Here p call g unit n k x line at is
      → IsArgumentFollowed layout G untouched Here p call g unit n (ByValue k) (Evaluated x) line at is
  value_follows k x line at is follows injection memory below d enough home =
      inside_bind {First = OnTop k below} {e = λ r. d + 8 + weight_of r} (λ r. steady_give (Value r)) (follows injection memory below d enough home) (λ r longer after pushed grown routine top.
      let value = value_on_top k below r longer after pushed top in
      fragment_give (omega arith) (inside_here (value.0, value.1, value.2)))

  -- a variable
  pub accessed_follows : (t : TypeValue) (q : Place) (line at : ℕ) (is : List Instr)
      → IsPlaceFollowed layout G untouched Here p call g unit n t q line at is
      → IsArgumentFollowed layout G untouched Here p call g unit n (ByReference t) (Accessed q) line at is
  accessed_follows t q line at is follows injection memory below d enough home =
      fragment_bind_place {type = t} {e = λ m. d + 8} (λ m. steady_give (Variable m)) (follows injection memory below d enough home) (λ m place longer after grown routine spot described.
      fragment_give (omega arith) (inside_here (operand.Place place, (place, refl, spot, described), refl)))

  -- no actual parameter
  pub none_follows : (line at : ℕ) (is : List Instr) → is ≡ [] → AreArgumentsFollowed layout G untouched Here p call g unit n [] no_actual line at is
  none_follows line at is none injection memory below d enough home =
      fragment_to {to = p.instructions.before + at} (omega (arith, ap length none)) (fragment_give (omega arith) (inside_here refl))

  -- one before others: the machine leaves what the formal ones take on the operands below
  pub next_follows : (k : Passing) (formals : List Passing) (a : Actual) (given : Actuals) (line at : ℕ) (xs ys is : List Instr) → is ≡ xs ++ ys
      → IsArgumentFollowed layout G untouched Here p call g unit n k a line at xs → AreArgumentsFollowed layout G untouched Here p call g unit n formals given line (at + length xs) ys
      → AreArgumentsFollowed layout G untouched Here p call g unit n (k ∷ formals) (next_actual a given) line at is
  next_follows k formals a given line at xs ys is parts first others injection memory below d enough home =
      let ends : at + length xs + length ys ≡ at + length is = omega (arith, ap length parts, length-append xs ys) in
      fragment_to (ap (λ m. p.instructions.before + m) ends)
      (inside_bind {First = ArgumentOnTop k below} {e = λ x. d + 8} (λ x. steady_bind (steady_arguments call steady_call g unit line given) (λ values. steady_give (x ∷ values)))
      (first injection memory below d enough home)
      (λ x longer after pushed grown routine top.
      subst (λ st. Fragment layout G Here n (point longer after (p.instructions.before + (at + length xs)) st) (bind (arguments call g unit line given) (λ values. give (x ∷ values))) (p.instructions.before + (at + length xs + length ys)) (λ values. Inside untouched longer after (λ last final operands. AreArguments last final (k ∷ formals) values below operands)) (d + 8) (λ values. d)) (sym top.2)
      (inside_bind {First = λ values last final operands. AreArguments last final formals values (top.0 ∷ below) operands} {e = λ values. d + 8} (λ values. steady_give (x ∷ values))
      (others longer after (top.0 ∷ below) (d + 8) (omega (arith, enough)) (unit_in-same G routine ∙ home))
      (λ values last final all grown2 routine2 are. fragment_give (omega arith) (inside_here (top.0, argument_later k x top.0 grown2 top.1, are))))))
