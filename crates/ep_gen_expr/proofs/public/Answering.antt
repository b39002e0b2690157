-- The machine follows an operation, by the instruction that gives its answer.
use Rattle.std.proofs.Common.{◌≡◌, ℕ, ℤ, suc, ◌+◌, ◌≤◌, IsTrue, List, length, refl, ap, ◌∙◌, arith}
use Rattle.ep_simulation.specs.Follows.{point, Facts, Fragment, OnTop, PlaceOnTop, Inside}
use Rattle.ep_simulation.specs.Layouts.{Layout}
use Rattle.ep_simulation.specs.Matching.{Slots, MachineMemory, Injection}
use Rattle.ep_object.specs.Runs.{unit_in}
use Rattle.ep_object.specs.Operands.{Operand}
use Rattle.ep_object.specs.Placing.{Placement}
use Rattle.ep_object.specs.declared.code.Image.{Image}
use Rattle.ep_object.specs.declared.code.Instr.{Instr}
use Rattle.ep_simulation.proofs.public.following.Choices.{going_of, fragment_answer}
use Rattle.ep_simulation.proofs.public.following.Fragments.{fragment_less}
use Rattle.ep_simulation.proofs.public.matching.MoreMemory.{inside_here}
use Rattle.ep_simulation.proofs.public.rows.Rows.{RowAnswers}
use Rattle.ep_meaning.specs.Calls.{Handler}
use Rattle.ep_gen_code.specs.Credit.{least_credit}
use Rattle.ep_meaning.specs.Meaning.{answered, eval, place}
use Rattle.ep_meaning.specs.Results.{weight_of}
use Rattle.ep_typed.specs.Trees.{Place, Expr}
use Rattle.ep_values.specs.Operations.{Answer, Number}
use Rattle.ep_values.specs.Printing.{Result}
use Rattle.ep_values.specs.Printing as result
use Rattle.ep_meaning.specs.Steps.{Computation, give, bind, spend}
use Rattle.ep_meaning.specs.Valid.{ValueKind, Ordinal}
use Rattle.ep_typed.specs.Hosts.{Host, is_of_host}
use Rattle.ep_values.specs.TypeValues.{TypeValue}

-- The machine follows a computation of a result from one place of the code to another, where the result is on top of
-- the operands; the credit is so many before, and after it so many and the weight of the result.
abbrev pub Evaluates : Layout → Image → Slots → Facts → ℕ → Injection → MachineMemory → ℕ → List Operand
    → Computation Result → ℕ → ValueKind → List Operand → ℕ → ℕ → Type 0
Evaluates layout G untouched Here n injection memory from operands c to kind below before after =
    Fragment layout G Here n (point injection memory from operands) c to (λ r. Inside untouched injection memory (OnTop kind below r)) before (λ r. after + weight_of r)

-- From each memory of a routine of the unit, the machine follows the expression through this code, which begins at this
-- place of the object, with a credit that rises by 8.
abbrev pub IsFollowed : Layout → Image → Slots → Facts → Placement → Handler → ℕ → List ℕ → ℕ → ValueKind → Expr → ℕ → ℕ → List Instr → Type 0
IsFollowed layout G untouched Here p call g unit n kind x line at code =
    (injection : Injection) (memory : MachineMemory) (below : List Operand) (d : ℕ) → least_credit ≤ d → unit_in G memory.frames ≡ unit → Evaluates layout G untouched Here n injection memory (p.instructions.before + at) below (eval call g unit line x) (p.instructions.before + (at + length code)) kind below d (d + 8)

-- From each memory of a routine of the unit, the machine follows the place through this code, which begins at this place of
-- the object, and leaves it on top, of this type value, with a credit that rises by 8.
abbrev pub IsPlaceFollowed : Layout → Image → Slots → Facts → Placement → Handler → ℕ → List ℕ → ℕ → TypeValue → Place → ℕ → ℕ → List Instr → Type 0
IsPlaceFollowed layout G untouched Here p call g unit n t q line at code =
    (injection : Injection) (memory : MachineMemory) (below : List Operand) (d : ℕ) → least_credit ≤ d → unit_in G memory.frames ≡ unit
    → Fragment layout G Here n (point injection memory (p.instructions.before + at) below) (place call g unit line q) (p.instructions.before + (at + length code)) (λ a. Inside untouched injection memory (PlaceOnTop t below a)) d (λ a. d + 8)

-- the computation that gives an answer, with the step of the form
abbrev pub answering : Handler → ℕ → List ℕ → ℕ → Answer → Computation Result
answering call g unit line a = bind (answered call g unit line a) (λ z. spend 1 (give (result.Number z)))

module _ {layout : Layout} {G : Image} {untouched : Slots} {Here : Facts} (call : Handler) (g : ℕ) (unit : List ℕ) (line : ℕ) where
  -- an instruction that gives the answer, where the routine is one of the unit
  pub answer_follows : (n place : ℕ) (operands below : List Operand) (a : Answer)
      → RowAnswers G place line operands below a → (host : Host)
      → ((z : ℤ) → a ≡ Number z → IsTrue (is_of_host host z))
      → (injection : Injection) (memory : MachineMemory) (d e : ℕ) → unit_in G memory.frames ≡ unit → 1 ≤ d
      → e ≤ d + 63
      → Evaluates layout G untouched Here n injection memory place operands (answering call g unit line a) (place + 1) (Ordinal host) below d e
  answer_follows n place operands below a row host of_host injection memory d e unit_is le le2 =
      fragment_less {n = suc n} (omega arith) (fragment_answer {n = n} call g unit line below a (λ z. result.Number z) (λ s matches. row memory s.trace ∙ ap (λ u. record { weight = 0; to = going_of (place + 1) below memory u line s.trace a }) unit_is) (λ z is. inside_here (record { number = z; is_number = refl; of_host = of_host z is; is = refl })) le (λ z. omega (arith, le2)))
