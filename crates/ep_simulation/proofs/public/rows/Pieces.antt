-- One piece of text is written.
use Rattle.std.proofs.Common.{◌≡◌, ℕ, pos, suc, ◌+◌, ◌≤◌, List, ◌∷◌, length, Some, slice_get, arith}
use Rattle.ep_simulation.specs.Follows.{point, Facts, Lasts, Fragment, Bare, Inside}
use Rattle.ep_simulation.specs.Layouts.{Layout}
use Rattle.ep_simulation.specs.Matching.{MachineMemory, Injection, Slots}
use Rattle.ep_object.specs.Operands.{Operand, Word, Text}
use Rattle.ep_object.specs.Operands as operand
use Rattle.ep_object.specs.State.{output_place}
use Rattle.ep_object.specs.declared.code.Image.{Image}
use Rattle.ep_simulation.proofs.public.rows.ChangeRows.{put_does}
use Rattle.ep_simulation.proofs.public.following.Fragments.{fragment_less, fragment_paid, fragment_change}
use Rattle.ep_simulation.proofs.public.rows.Rows.{instr, RowPushes}
use Rattle.ep_meaning.specs.Calls.{Handler}
use Rattle.ep_meaning.specs.Meaning.{write_piece}
use Rattle.ep_values.specs.Printing.{piece_events}
use Rattle.ep_meaning.specs.Steps.{bind, Computation}
use Rattle.ep_meaning.specs.Steps as meaning
use Rattle.ep_object.specs.declared.op.TheConstants as op

-- one piece, which an instruction makes of what is on top and another one writes
pub piece_form : {untouched : Slots} {layout : Layout} {G : Image} {Here : Facts} {n : ℕ} {injection : Injection} {memory : MachineMemory} {start line : ℕ} {operands below : List Operand} (call : Handler) (d e g popped : ℕ) (unit bytes : List ℕ)
    → Lasts untouched Here
    → RowPushes G start operands (popped + length bytes) (Text bytes ∷ operand.Place output_place ∷ below)
    → slice_get G.instructions (start + 1) ≡ Some (instr op.PUT (pos 0) 0 line) → popped + e ≤ d + 40
    → Fragment layout G Here n (point injection memory start operands) (write_piece call g unit bytes) (start + 1 + 1) (λ a. Inside untouched injection memory (Bare below a)) d (λ a. e)
piece_form {untouched = untouched} {layout = layout} {G = G} {n = n} {injection = injection} {memory = memory} {start = start} {line = line} {below = below} call d e g popped unit bytes lasts row has le =
    fragment_less {n = suc n} (omega arith) (fragment_paid {d1 = suc (length bytes) + e} {weight = popped + length bytes} {w = length bytes} (λ s matches. row memory s.trace) (omega arith) (omega arith) (omega arith)
    (fragment_change {P = λ a. Inside untouched injection memory (Bare below a)} (meaning.with_events (piece_events bytes)) (λ s matches here. put_does layout G (start + 1) line below bytes has lasts injection memory s matches here) (omega arith)))
