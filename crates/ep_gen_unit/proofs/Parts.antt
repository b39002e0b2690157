-- What the proofs about statements share: where parts of code stand, and what is known of expressions.
use Rattle.std.proofs.Common.{◌≡◌, ℕ, ℤ, pos, ◌+◌, ◌<◌, ◌≤◌, List, [], ◌∷◌, ◌++◌, Some, length, slice_get, refl}
use Rattle.ep_gen_code.specs.Credit.{least_credit}
use Rattle.ep_gen_expr.specs.Following.{HasPlaceType, IsValidPlace}
use Rattle.ep_gen_expr.specs.ExprCode.{IsPlaceCode, IsExprCode, AreActualsCode}
use Rattle.ep_gen_code.specs.Instructions.{instr, reference}
use Rattle.ep_gen_code.proofs.public.Placed.{code_front, code_back}
use Rattle.ep_simulation.specs.Follows.{point, Facts, Fragment, Inside, Bare, OnTop, PlaceOnTop, SameRoutine}
use Rattle.ep_simulation.specs.Layouts.{Layout}
use Rattle.ep_simulation.specs.Matching.{Slots, MachineMemory, Injection, Grown}
use Rattle.ep_object.specs.Operands.{Operand}
use Rattle.ep_object.specs.Placing.{Placement, CodeStands}
use Rattle.ep_simulation.specs.Promises.{ResultsOnTop, RoutineKeeps}
use Rattle.ep_object.specs.Runs.{unit_in}
use Rattle.ep_object.specs.declared.code.Image.{Image}
use Rattle.ep_object.specs.declared.code.Instr.{Instr}
use Rattle.ep_object.specs.declared.code.Reference.{Reference}
use Rattle.ep_object.specs.declared.op.TheConstants as op
use Rattle.ep_meaning.specs.Steady.{Steady}
use Rattle.ep_values.specs.Printing.{Result}
use Rattle.ep_meaning.specs.Calls.{Handler}
use Rattle.ep_meaning.specs.Meaning.{place, eval, arguments}
use Rattle.ep_meaning.specs.Results.{weight_of}
use Rattle.ep_meaning.specs.Steps.{Computation, bind}
use Rattle.ep_typed.specs.Trees.{Callee, Place, Expr, Actuals}
use Rattle.ep_meaning.specs.Valid.{IsDeclaredUp, Declarations, ValueKind, IsExpr, IsTypeOf, AreGiven}
use Rattle.ep_typed.specs.Hosts.{Host}
use Rattle.ep_typed.specs.declared.interface.RoutineEntry.{RoutineEntry}
use Rattle.ep_values.specs.TypeValues.{TypeValue}
use Rattle.ep_values.specs.TypeValues as type

-- two parts of code stand one after the other
pub code_stands-parts : (G : Image) (ps : List Placement) (p : Placement) (references : List Reference) (at : ℕ) (xs ys : List Instr) → CodeStands G ps p references at (xs ++ ys) → CodeStands G ps p references at xs × CodeStands G ps p references (at + length xs) ys
code_stands-parts G ps p references at xs ys h = (code_front G ps p references at xs ys h, code_back G ps p references at xs ys h)

-- a type of a host is an ordinal one
pub ordinal_of_host : (h : Host) (t : TypeValue) → IsTypeOf h t → (low high : ℤ) × (t ≡ type.Ordinal low high)
ordinal_of_host h (type.Ordinal low high) k = (low, high, refl)
ordinal_of_host h type.Text k = absurd k
ordinal_of_host h (type.Array low high of) k = absurd k
ordinal_of_host h (type.Record ts) k = absurd k
ordinal_of_host h (type.Set low high) k = absurd k
ordinal_of_host h (type.Initial of start) k = absurd k

-- the credit that is there before each statement
abbrev pub statement_credit : ℕ
statement_credit = least_credit + 8

module _ (layout : Layout) (G : Image) (untouched : Slots) (Here : Facts) (ps : List Placement) (p : Placement) (texts : List (List ℕ)) (references : List Reference) (call : Handler) (n : ℕ) (unit : List ℕ) where
  -- from a place of the object to another one, the machine follows the computation and leaves the operands as they were
  abbrev pub Moves : ℕ → ℕ → Computation (Unit {0}) → Type 0
  Moves at to c =
      (injection : Injection) (memory : MachineMemory) (below : List Operand) (d : ℕ) → statement_credit ≤ d → unit_in G memory.frames ≡ unit
      → Fragment layout G Here n (point injection memory (p.instructions.before + at) below) c (p.instructions.before + to) (λ a. Inside untouched injection memory (Bare below a)) d (λ a. d)

  -- the same, where more credit is left than there was
  abbrev pub Writes : ℕ → ℕ → Computation (Unit {0}) → Type 0
  Writes at to c =
      (injection : Injection) (memory : MachineMemory) (below : List Operand) (d : ℕ) → statement_credit ≤ d → unit_in G memory.frames ≡ unit
      → Fragment layout G Here n (point injection memory (p.instructions.before + at) below) c (p.instructions.before + to) (λ a. Inside untouched injection memory (Bare below a)) d (λ a. 1 + d)

module _ (declared : Declarations) (layout : Layout) (G : Image) (untouched : Slots) (Here : Facts) (ps : List Placement) (p : Placement) (texts : List (List ℕ)) (references : List Reference) (call : Handler) (n : ℕ) (unit : List ℕ) where
  -- the machine follows expressions
  abbrev pub ExpressionsFollow : Type 0
  ExpressionsFollow =
      (kind : ValueKind) (x : Expr) → IsExpr declared kind x → (line at : ℕ) (code : List Instr) → IsExprCode texts references line at x code → CodeStands G ps p references at code → at + length code < p.instructions.own
      → (injection : Injection) (memory : MachineMemory) (below : List Operand) (d : ℕ) → least_credit ≤ d → unit_in G memory.frames ≡ unit
      → Fragment layout G Here n (point injection memory (p.instructions.before + at) below) (eval call n unit line x) (p.instructions.before + (at + length code)) (λ r. Inside untouched injection memory (OnTop kind below r)) d (λ r. d + 8 + weight_of r)

  -- the machine follows places
  abbrev pub PlacesFollow : Type 0
  PlacesFollow =
      (q : Place) → IsValidPlace declared q → (t : TypeValue) → HasPlaceType declared q t → (line at : ℕ) (code : List Instr) → IsPlaceCode texts references line at q code → CodeStands G ps p references at code → at + length code < p.instructions.own
      → (injection : Injection) (memory : MachineMemory) (below : List Operand) (d : ℕ) → least_credit ≤ d → unit_in G memory.frames ≡ unit
      → Fragment layout G Here n (point injection memory (p.instructions.before + at) below) (place call n unit line q) (p.instructions.before + (at + length code)) (λ a. Inside untouched injection memory (PlaceOnTop t below a)) d (λ a. d + 8)

  -- the machine follows a call of a routine with its actual parameters, and what a statement does behind it
  abbrev pub CallsFollow : Type 0
  CallsFollow =
      (line at to : ℕ) (callee : Callee) (k : ℕ) (given : Actuals) (xs : List Instr) (r : RoutineEntry) (keeps : RoutineKeeps layout G ps call n declared.types (declared.around callee.unit callee.number) callee.unit callee.number r)
      → AreGiven declared declared.types r.formals given → AreActualsCode texts references line at given xs → IsDeclaredUp declared callee callee.levels → slice_get references k ≡ Some (reference callee.unit callee.number)
      → CodeStands G ps p references at (xs ++ instr op.CALL (pos k) callee.levels line ∷ instr op.JUMP (pos (at + length xs + 2)) 0 line ∷ []) → at + length xs + 2 < p.instructions.own
      → (injection : Injection) (memory : MachineMemory) (below : List Operand) (d : ℕ) → least_credit ≤ d → unit_in G memory.frames ≡ unit
      → (rest : List Result → Computation (Unit {0})) → ((rs : List Result) → Steady (rest rs))
      → ((rs : List Result) (longer : Injection) (after : MachineMemory) (pushed : List Operand) → Grown untouched injection memory longer after → SameRoutine untouched memory.frames after.frames → ResultsOnTop keeps.results below rs longer after pushed
      → Fragment layout G Here n (point longer after (p.instructions.before + (at + length xs + 1)) pushed) (rest rs) to (λ b. Inside untouched longer after (Bare below b)) d (λ b. d))
      → Fragment layout G Here n (point injection memory (p.instructions.before + at) below) (bind (arguments call n unit line given) (λ vs. bind (call.routine unit line callee vs) rest)) to (λ b. Inside untouched injection memory (Bare below b)) d (λ b. d)
