-- The machine follows an instruction that spends of the credit.
use Rattle.std.proofs.Common.{ℕ, ◌+◌, ◌≤◌, List}
use Rattle.ep_simulation.specs.Follows.{point, Facts, Fragment, After}
use Rattle.ep_simulation.specs.Layouts.{Layout}
use Rattle.ep_simulation.specs.Matching.{MachineMemory, Injection}
use Rattle.ep_object.specs.Operands.{Operand}
use Rattle.ep_object.specs.declared.code.Image.{Image}
use Rattle.ep_simulation.proofs.public.following.Fragments.{fragment_waits}
use Rattle.ep_simulation.proofs.public.rows.Rows.{RowPushes}
use Rattle.ep_meaning.specs.Steps.{Computation}

-- an instruction of one tick that changes the operands alone, and spends of the credit
pub row_waits : {A : Type 0} {layout : Layout} {G : Image} {Here : Facts} {c : Computation A} {n place to d d1 : ℕ} {injection : Injection} {memory : MachineMemory} {operands operands1 : List Operand} {P : A → After} {e : A → ℕ}
    → RowPushes G place operands 0 operands1 → 1 + d1 ≤ d
    → Fragment layout G Here n (point injection memory (place + 1) operands1) c to P d1 e
    → Fragment layout G Here n (point injection memory place operands) c to P d e
row_waits {memory = memory} row le h = fragment_waits (λ s matches. row memory s.trace) le h
