-- The machine follows `write` and `writeln`.
use Rattle.std.proofs.Common.{◌≡◌, ℕ, ℤ, pos, negsuc, suc, ◌+◌, ◌-◌, ◌<◌, ◌≤◌, Bool, true, false, List, [], ◌∷◌, ◌++◌, length, length-append, Some, slice_get, refl, sym, ap, ◌∙◌, subst, arith, zero-add}
use Rattle.std.specs.Prelude.{unsigned_abs}
use Rattle.ep_gen_code.specs.Credit.{least_credit}
use Rattle.ep_gen_code.specs.Instructions.{bare}
use Rattle.ep_gen_expr.specs.ExprCode.{IsExprCode}
use Rattle.ep_gen_unit.specs.StmtCode.{plain_code, before_width, wide_code, line_end_code, IsItemCode, AreItemsCode}
use Rattle.ep_gen_unit.proofs.Parts.{statement_credit, ExpressionsFollow, Moves, Writes, code_stands-parts}
use Rattle.ep_simulation.specs.Follows.{point, Facts, Lasts, Fragment, Inside, Bare}
use Rattle.ep_simulation.specs.Layouts.{Layout}
use Rattle.ep_simulation.specs.Matching.{Slots, MachineMemory, Injection, at as at_place}
use Rattle.ep_object.specs.Operands.{Operand, Word, Text}
use Rattle.ep_object.specs.Operands as operand
use Rattle.ep_object.specs.Placing.{Placement, CodeStands}
use Rattle.ep_object.specs.State.{Running, Stopped, Error, output_place}
use Rattle.ep_object.specs.Runs.{unit_in}
use Rattle.ep_object.specs.declared.code.Image.{Image}
use Rattle.ep_object.specs.declared.code.Instr.{Instr}
use Rattle.ep_object.specs.declared.code.Reference.{Reference}
use Rattle.ep_simulation.proofs.public.rows.ChangeRows.{put_does}
use Rattle.ep_simulation.proofs.public.rows.Pieces.{piece_form}
use Rattle.ep_simulation.proofs.public.following.Fragments.{fragment_to, fragment_from, fragment_less, fragment_credit, fragment_waits, fragment_effect, fragment_stop, fragment_move, fragment_give, fragment_bind_bare, fragment_bind_number, fragment_bind_text}
use Rattle.ep_simulation.proofs.public.matching.MoreMemory.{unit_in-same, inside_here}
use Rattle.ep_simulation.proofs.public.rows.PlaceRows.{output_pushes}
use Rattle.ep_simulation.proofs.public.rows.Rows.{RowPushes, push_pushes}
use Rattle.ep_simulation.proofs.public.rows.TextRows.{RowFails, chars_pushes, form_integer, form_boolean, form_wide_integer, form_wide_boolean, form_wide_text, form_negative_integer, form_negative_boolean, form_negative_text}
use Rattle.ep_meaning.specs.Steady.{IsSteadyHandler}
use Rattle.ep_meaning.specs.Calls.{Handler}
use Rattle.ep_meaning.proofs.public.Steady.{steady_give, steady_spend, steady_write_items, steady_bind, steady_eval, steady_write_piece, steady_write_wide}
use Rattle.ep_meaning.specs.Meaning.{eval, write_piece, write_wide, write_item, write_items, exec}
use Rattle.ep_meaning.specs.Results.{weight_of}
use Rattle.ep_values.specs.Printing.{Result, Number, Bytes, number_of, line_end, plain_text, wide_text, piece_events}
use Rattle.ep_meaning.specs.Steps.{Computation, bind}
use Rattle.ep_meaning.specs.Steps as meaning
use Rattle.ep_typed.specs.Trees.{Expr, Item, Plain, Wide, Write}
use Rattle.ep_meaning.specs.Valid as kind
use Rattle.ep_meaning.specs.Valid.{Declarations, IsExpr, IsItem, AreItems, WritesSomething}
use Rattle.ep_typed.specs.Hosts.{is_of_host}
use Rattle.ep_values.specs.declared.operations.Print.{Print}
use Rattle.ep_values.specs.declared.operations.Print.TheVariants as print
use Rattle.ep_typed.specs.Hosts as host
use Rattle.ep_object.specs.declared.op.TheConstants as op

-- the operands while an item is written: `output` below them
abbrev pub over_output : List Operand → List Operand
over_output below = operand.Place output_place ∷ below

-- a row that pops nothing of weight
popping_nothing : (G : Image) (place : ℕ) (operands pushed : List Operand) (n : ℕ) → RowPushes G place operands n pushed → RowPushes G place operands (0 + n) pushed
popping_nothing G place operands pushed n row = λ memory trace. row memory trace ∙ ap (λ w. record { weight = w; to = Running 0 (at_place (place + 1) pushed memory trace) }) (sym (zero-add n))

module _ {layout : Layout} {G : Image} {untouched : Slots} {Here : Facts} (lasts : Lasts untouched Here) (ps : List Placement) (p : Placement) (texts : List (List ℕ)) (references : List Reference) (call : Handler) (steady_call : IsSteadyHandler call) (n : ℕ) (unit : List ℕ) where
  -- `Put` of a text that is on top already
  put_moves : (line at d e : ℕ) (bytes : List ℕ) → CodeStands G ps p references at (bare line op.PUT ∷ []) → (injection : Injection) (memory : MachineMemory) (below : List Operand) → e ≤ d + 40 → Fragment layout G Here n (point injection memory (p.instructions.before + at) (Text bytes ∷ over_output below)) (write_piece call n unit bytes) (p.instructions.before + at + 1) (λ a. Inside untouched injection memory (Bare below a)) d (λ a. e)
  put_moves line at d e bytes stands injection memory below le =
      fragment_less {n = suc n} (omega arith) (fragment_effect {weight = length bytes} {P = λ a. Inside untouched injection memory (Bare below a)} (length bytes) (meaning.with_events (piece_events bytes)) (λ s matches here. put_does layout G (p.instructions.before + at) line below bytes stands.0 lasts injection memory s matches here) (omega arith) (omega arith) (omega arith))

  -- an instruction that makes the text, and then `Put`
  made_and_put : (line at popped d e : ℕ) (bytes : List ℕ) → CodeStands G ps p references (at + 1) (bare line op.PUT ∷ []) → (injection : Injection) (memory : MachineMemory) (operands below : List Operand) → RowPushes G (p.instructions.before + at) operands (popped + length bytes) (Text bytes ∷ over_output below) → popped + e ≤ d + 40
      → Fragment layout G Here n (point injection memory (p.instructions.before + at) operands) (write_piece call n unit bytes) (p.instructions.before + (at + 2)) (λ a. Inside untouched injection memory (Bare below a)) d (λ a. e)
  made_and_put line at popped d e bytes stands injection memory operands below row le =
      let here : p.instructions.before + (at + 1) ≡ p.instructions.before + at + 1 = omega arith in
      fragment_to {to = p.instructions.before + at + 1 + 1} (omega arith) (piece_form {line = line} call d e n popped unit bytes lasts row (subst (λ k. slice_get G.instructions k ≡ Some (bare line op.PUT)) here stands.0) le)

  module _ {declared : Declarations} (expressions : ExpressionsFollow declared layout G untouched Here ps p texts references call n unit) where
    -- after `output`: the value, as long as it needs to be
    plain_value : (print : Print) (line at d : ℕ) (x : Expr) (xs : List Instr) → IsItem declared (Plain print x) → IsExprCode texts references line at x xs → at + length xs < p.instructions.own → CodeStands G ps p references at xs → CodeStands G ps p references (at + length xs) (plain_code line print ++ bare line op.PUT ∷ []) → (injection : Injection) (memory : MachineMemory) (below : List Operand) → least_credit ≤ d → unit_in G memory.frames ≡ unit
        → Fragment layout G Here n (point injection memory (p.instructions.before + at) (over_output below)) (write_item call n unit line (Plain print x)) (p.instructions.before + (at + length xs + length (plain_code line print ++ bare line op.PUT ∷ []))) (λ a. Inside untouched injection memory (Bare below a)) d (λ a. 2 + d)
    plain_value print.Integer line at d x xs valid code inside at_value at_print injection memory below enough home =
        fragment_bind_number {host = host.Integer} {e = λ r. d + 8 + weight_of r} (λ r. steady_write_piece call steady_call n unit (plain_text print.Integer r)) (expressions (kind.Ordinal host.Integer) x valid line at xs code at_value inside injection memory (over_output below) d enough home) (λ z longer after of_host grown routine.
        made_and_put line (at + length xs) 0 (d + 8 + 0) (2 + d) (plain_text print.Integer (Number z)) (at_print.1) longer after (Word z ∷ over_output below) below (popping_nothing G (p.instructions.before + (at + length xs)) (Word z ∷ over_output below) (Text (plain_text print.Integer (Number z)) ∷ over_output below) (length (plain_text print.Integer (Number z))) (form_integer G (p.instructions.before + (at + length xs)) line (over_output below) z at_print.0)) (omega arith))
    plain_value print.Char line at d x xs valid code inside at_value at_print injection memory below enough home =
        fragment_bind_number {host = host.Char} {e = λ r. d + 8 + weight_of r} (λ r. steady_write_piece call steady_call n unit (plain_text print.Char r)) (expressions (kind.Ordinal host.Char) x valid line at xs code at_value inside injection memory (over_output below) d enough home) (λ z longer after of_host grown routine.
        made_and_put line (at + length xs) 0 (d + 8 + 0) (2 + d) (plain_text print.Char (Number z)) (at_print.1) longer after (Word z ∷ over_output below) below (chars_pushes G (p.instructions.before + (at + length xs)) line (over_output below) z of_host at_print.0) (omega arith))
    plain_value print.Boolean line at d x xs valid code inside at_value at_print injection memory below enough home =
        fragment_bind_number {host = host.Boolean} {e = λ r. d + 8 + weight_of r} (λ r. steady_write_piece call steady_call n unit (plain_text print.Boolean r)) (expressions (kind.Ordinal host.Boolean) x valid line at xs code at_value inside injection memory (over_output below) d enough home) (λ z longer after of_host grown routine.
        made_and_put line (at + length xs) 0 (d + 8 + 0) (2 + d) (plain_text print.Boolean (Number z)) (at_print.1) longer after (Word z ∷ over_output below) below (popping_nothing G (p.instructions.before + (at + length xs)) (Word z ∷ over_output below) (Text (plain_text print.Boolean (Number z)) ∷ over_output below) (length (plain_text print.Boolean (Number z))) (form_boolean G (p.instructions.before + (at + length xs)) line (over_output below) z of_host at_print.0)) (omega arith))
    plain_value print.Text line at d x xs valid code inside at_value at_print injection memory below enough home =
        fragment_bind_text {e = λ r. d + 8 + weight_of r} (λ r. steady_write_piece call steady_call n unit (plain_text print.Text r)) (expressions kind.Bytes x valid line at xs code at_value inside injection memory (over_output below) d enough home) (λ bytes longer after grown routine.
        fragment_to {to = p.instructions.before + (at + length xs) + 1} (omega arith) (put_moves line (at + length xs) (d + 8 + length bytes) (2 + d) bytes at_print longer after below (omega arith)))

    -- The value is on top as the instruction for the width takes it: the width, and then the piece or error 21.
    after_value : (print : Print) (r : Result) (shown : Operand) (popped line at d : ℕ) (w : Expr) (ws : List Instr) → IsExpr declared (kind.Ordinal host.Integer) w → IsExprCode texts references line at w ws → at + length ws < p.instructions.own → CodeStands G ps p references at ws → CodeStands G ps p references (at + length ws) (wide_code line print ∷ bare line op.PUT ∷ [])
        → (below : List Operand) → ((width : ℕ) → RowPushes G (p.instructions.before + (at + length ws)) (Word (pos width) ∷ shown ∷ over_output below) (popped + length (wide_text print width r)) (Text (wide_text print width r) ∷ over_output below)) → ((k : ℕ) → RowFails G (p.instructions.before + (at + length ws)) line (Word (negsuc k) ∷ shown ∷ over_output below) popped 21)
        → (injection : Injection) (memory : MachineMemory) (e : ℕ) → least_credit ≤ d → popped + e ≤ d + 40 → popped ≤ d → unit_in G memory.frames ≡ unit
        → Fragment layout G Here n (point injection memory (p.instructions.before + at) (shown ∷ over_output below)) (bind (eval call n unit line w) (λ width. write_wide call n unit line print r (number_of width))) (p.instructions.before + (at + length ws + 2)) (λ a. Inside untouched injection memory (Bare below a)) d (λ a. e)
    after_value print r shown popped line at d w ws valid code inside at_width at_print below pushes fails injection memory e enough le little home =
        fragment_bind_number {host = host.Integer} {e = λ r. d + 8 + weight_of r} (λ width. steady_write_wide call steady_call n unit line print r (number_of width)) (expressions (kind.Ordinal host.Integer) w valid line at ws code at_width inside injection memory (shown ∷ over_output below) d enough home) (λ z longer after of_host grown routine. piece z longer after (unit_in-same G routine ∙ home))
      where
        piece : (z : ℤ) (longer : Injection) (after : MachineMemory) → unit_in G after.frames ≡ unit → Fragment layout G Here n (point longer after (p.instructions.before + (at + length ws)) (Word z ∷ shown ∷ over_output below)) (write_wide call n unit line print r z) (p.instructions.before + (at + length ws + 2)) (λ a. Inside untouched longer after (Bare below a)) (d + 8 + 0) (λ a. e)
        piece (pos width) longer after told = made_and_put line (at + length ws) popped (d + 8 + 0) e (wide_text print width r) at_print.1 longer after (Word (pos width) ∷ shown ∷ over_output below) below (pushes width) (omega arith)
        piece (negsuc k) longer after told = fragment_stop {weight = popped} (λ s matches. fails k after s.trace ∙ ap (λ u. record { weight = popped; to = Stopped (Error 21 u line) s.trace }) told) (omega arith)

    -- after `output`: the value in so many places
    wide_value : (print : Print) (line at d : ℕ) (x w : Expr) (xs ws : List Instr) → IsItem declared (Wide print x w) → IsExprCode texts references line at x xs → IsExprCode texts references line (at + length xs + length (before_width line print)) w ws → at + length xs < p.instructions.own → at + length xs + length (before_width line print) + length ws < p.instructions.own → CodeStands G ps p references at xs → CodeStands G ps p references (at + length xs) (before_width line print) → CodeStands G ps p references (at + length xs + length (before_width line print)) ws → CodeStands G ps p references (at + length xs + length (before_width line print) + length ws) (wide_code line print ∷ bare line op.PUT ∷ [])
        → (injection : Injection) (memory : MachineMemory) (below : List Operand) → least_credit ≤ d → unit_in G memory.frames ≡ unit
        → Fragment layout G Here n (point injection memory (p.instructions.before + at) (over_output below)) (write_item call n unit line (Wide print x w)) (p.instructions.before + (at + length xs + length (before_width line print) + length ws + 2)) (λ a. Inside untouched injection memory (Bare below a)) d (λ a. 2 + d)
    wide_value print.Integer line at d x w xs ws valid code wcode inside winside at_value at_before at_width at_print injection memory below enough home =
        fragment_bind_number {host = host.Integer} {e = λ r. d + 8 + weight_of r} (λ r. steady_bind (steady_eval call steady_call n unit line w) (λ width. steady_write_wide call steady_call n unit line print.Integer r (number_of width))) (expressions (kind.Ordinal host.Integer) x valid.0 line at xs code at_value inside injection memory (over_output below) d enough home) (λ z longer after of_host grown routine.
        fragment_from {place = p.instructions.before + (at + length xs + 0)} (omega arith) (after_value print.Integer (Number z) (Word z) 0 line (at + length xs + 0) (d + 8 + 0) w ws valid.1 wcode winside at_width at_print below
        (λ width. popping_nothing G (p.instructions.before + (at + length xs + 0 + length ws)) (Word (pos width) ∷ Word z ∷ over_output below) (Text (wide_text print.Integer width (Number z)) ∷ over_output below) (length (wide_text print.Integer width (Number z))) (form_wide_integer G (p.instructions.before + (at + length xs + 0 + length ws)) line (over_output below) z width at_print.0))
        (λ k. form_negative_integer G (p.instructions.before + (at + length xs + 0 + length ws)) line (over_output below) z k at_print.0) longer after (2 + d) (omega arith) (omega arith) (omega arith) (unit_in-same G routine ∙ home)))
    wide_value print.Boolean line at d x w xs ws valid code wcode inside winside at_value at_before at_width at_print injection memory below enough home =
        fragment_bind_number {host = host.Boolean} {e = λ r. d + 8 + weight_of r} (λ r. steady_bind (steady_eval call steady_call n unit line w) (λ width. steady_write_wide call steady_call n unit line print.Boolean r (number_of width))) (expressions (kind.Ordinal host.Boolean) x valid.0 line at xs code at_value inside injection memory (over_output below) d enough home) (λ z longer after of_host grown routine.
        fragment_from {place = p.instructions.before + (at + length xs + 0)} (omega arith) (after_value print.Boolean (Number z) (Word z) 0 line (at + length xs + 0) (d + 8 + 0) w ws valid.1 wcode winside at_width at_print below
        (λ width. popping_nothing G (p.instructions.before + (at + length xs + 0 + length ws)) (Word (pos width) ∷ Word z ∷ over_output below) (Text (wide_text print.Boolean width (Number z)) ∷ over_output below) (length (wide_text print.Boolean width (Number z))) (form_wide_boolean G (p.instructions.before + (at + length xs + 0 + length ws)) line (over_output below) z width of_host at_print.0))
        (λ k. form_negative_boolean G (p.instructions.before + (at + length xs + 0 + length ws)) line (over_output below) z k of_host at_print.0) longer after (2 + d) (omega arith) (omega arith) (omega arith) (unit_in-same G routine ∙ home)))
    wide_value print.Char line at d x w xs ws valid code wcode inside winside at_value at_before at_width at_print injection memory below enough home =
        fragment_bind_number {host = host.Char} {e = λ r. d + 8 + weight_of r} (λ r. steady_bind (steady_eval call steady_call n unit line w) (λ width. steady_write_wide call steady_call n unit line print.Char r (number_of width))) (expressions (kind.Ordinal host.Char) x valid.0 line at xs code at_value inside injection memory (over_output below) d enough home) (λ z longer after of_host grown routine.
        fragment_waits {place1 = p.instructions.before + (at + length xs) + 1} {d1 = d + 6} (λ s matches. chars_pushes G (p.instructions.before + (at + length xs)) line (over_output below) z of_host at_before.0 after s.trace) (omega arith)
        (fragment_from {place = p.instructions.before + (at + length xs + 1)} (omega arith) (after_value print.Char (Number z) (Text (unsigned_abs z ∷ [])) 1 line (at + length xs + 1) (d + 6) w ws valid.1 wcode winside at_width at_print below
        (λ width. form_wide_text G (p.instructions.before + (at + length xs + 1 + length ws)) line (over_output below) (unsigned_abs z ∷ []) width at_print.0)
        (λ k. form_negative_text G (p.instructions.before + (at + length xs + 1 + length ws)) line (over_output below) (unsigned_abs z ∷ []) k at_print.0) longer after (2 + d) (omega arith) (omega arith) (omega arith) (unit_in-same G routine ∙ home))))
    wide_value print.Text line at d x w xs ws valid code wcode inside winside at_value at_before at_width at_print injection memory below enough home =
        fragment_bind_text {e = λ r. d + 8 + weight_of r} (λ r. steady_bind (steady_eval call steady_call n unit line w) (λ width. steady_write_wide call steady_call n unit line print.Text r (number_of width))) (expressions kind.Bytes x valid.0 line at xs code at_value inside injection memory (over_output below) d enough home) (λ bytes longer after grown routine.
        fragment_from {place = p.instructions.before + (at + length xs + 0)} (omega arith) (after_value print.Text (Bytes bytes) (Text bytes) (length bytes) line (at + length xs + 0) (d + 8 + length bytes) w ws valid.1 wcode winside at_width at_print below
        (λ width. form_wide_text G (p.instructions.before + (at + length xs + 0 + length ws)) line (over_output below) bytes width at_print.0)
        (λ k. form_negative_text G (p.instructions.before + (at + length xs + 0 + length ws)) line (over_output below) bytes k at_print.0) longer after (2 + d) (omega arith) (omega arith) (omega arith) (unit_in-same G routine ∙ home)))

    -- an item, with `output` before it
    pub item_writes : (line at : ℕ) (i : Item) (is : List Instr) → IsItem declared i → IsItemCode texts references line at i is → at + length is < p.instructions.own → CodeStands G ps p references at is → Writes layout G untouched Here ps p texts references call n unit at (at + length is) (write_item call n unit line i)
    item_writes line at (Plain print x) is valid h inside stands injection memory below d enough home =
        let all = subst (λ k. CodeStands G ps p references at k) h.2 stands in
        let parts = code_stands-parts G ps p references (at + 1) h.0 (plain_code line print ++ bare line op.PUT ∷ []) all.1 in
        let ends : at + 1 + length h.0 + length (plain_code line print ++ bare line op.PUT ∷ []) ≡ at + length is = omega (arith, ap length h.2, length-append h.0 (plain_code line print ++ bare line op.PUT ∷ [])) in
        fragment_waits {place1 = p.instructions.before + at + 1} {d1 = d - 1} (λ s matches. output_pushes layout G (p.instructions.before + at) line below all.0 memory s.trace) (omega arith)
        (fragment_from {place = p.instructions.before + (at + 1)} (omega arith) (fragment_to (ap (λ k. p.instructions.before + k) ends) (fragment_credit {d = d - 1} {e = λ a. 2 + (d - 1)} (omega arith) (λ a. omega arith)
        (plain_value print line (at + 1) (d - 1) x h.0 valid h.1 (omega (arith, ends, inside)) parts.0 parts.1 injection memory below (omega arith) home))))
    item_writes line at (Wide print x w) is valid h inside stands injection memory below d enough home =
        let rest : List Instr = h.1 ++ wide_code line print ∷ bare line op.PUT ∷ [] in
        let all = subst (λ k. CodeStands G ps p references at k) h.4 stands in
        let first = code_stands-parts G ps p references (at + 1) h.0 (before_width line print ++ rest) all.1 in
        let second = code_stands-parts G ps p references (at + 1 + length h.0) (before_width line print) rest first.1 in
        let third = code_stands-parts G ps p references (at + 1 + length h.0 + length (before_width line print)) h.1 (wide_code line print ∷ bare line op.PUT ∷ []) second.1 in
        let ends : at + 1 + length h.0 + length (before_width line print) + length h.1 + 2 ≡ at + length is = omega (arith, ap length h.4, length-append h.0 (before_width line print ++ rest), length-append (before_width line print) rest, length-append h.1 (wide_code line print ∷ bare line op.PUT ∷ [])) in
        fragment_waits {place1 = p.instructions.before + at + 1} {d1 = d - 1} (λ s matches. output_pushes layout G (p.instructions.before + at) line below all.0 memory s.trace) (omega arith)
        (fragment_from {place = p.instructions.before + (at + 1)} (omega arith) (fragment_to (ap (λ k. p.instructions.before + k) ends) (fragment_credit {d = d - 1} {e = λ a. 2 + (d - 1)} (omega arith) (λ a. omega arith)
        (wide_value print line (at + 1) (d - 1) x w h.0 h.1 valid h.2 h.3 (omega (arith, ends, inside)) (omega (arith, ends, inside)) first.0 second.0 third.0 third.1 injection memory below (omega arith) home))))

  -- the line end
  pub line_end_writes : (line at : ℕ) → CodeStands G ps p references at (line_end_code line) → Writes layout G untouched Here ps p texts references call n unit at (at + 4) (write_piece call n unit (line_end ∷ []))
  line_end_writes line at stands injection memory below d enough home =
      fragment_waits {place1 = p.instructions.before + at + 1} {d1 = d - 1} (λ s matches. output_pushes layout G (p.instructions.before + at) line below stands.0 memory s.trace) (omega arith)
      (fragment_from {place = p.instructions.before + (at + 1)} (omega arith) (fragment_waits {place1 = p.instructions.before + (at + 1) + 1} {d1 = d - 2} (λ s matches. push_pushes G (p.instructions.before + (at + 1)) line (over_output below) (pos line_end) stands.1.0 memory s.trace) (omega arith)
      (fragment_from {place = p.instructions.before + (at + 1 + 1)} (omega arith) (fragment_to {to = p.instructions.before + (at + 1 + 1 + 2)} (omega arith)
      (made_and_put line (at + 1 + 1) 0 (d - 2) (1 + d) (line_end ∷ []) stands.1.1.1 injection memory (Word (pos line_end) ∷ over_output below) below (chars_pushes G (p.instructions.before + (at + 1 + 1)) line (over_output below) (pos line_end) refl stands.1.1.0) (omega arith))))))

  module _ {declared : Declarations} (expressions : ExpressionsFollow declared layout G untouched Here ps p texts references call n unit) where
    -- items and the line end, and then the step of the statement
    items_move : (line at : ℕ) (items : List Item) (ends_line : Bool) (is : List Instr) → AreItems declared items → AreItemsCode texts references line at items ends_line is → at + length is < p.instructions.own → CodeStands G ps p references at is → (injection : Injection) (memory : MachineMemory) (below : List Operand) (e : ℕ) → statement_credit ≤ e → unit_in G memory.frames ≡ unit
        → Fragment layout G Here n (point injection memory (p.instructions.before + at) below) (write_items call n unit line items ends_line) (p.instructions.before + (at + length is)) (λ a. Inside untouched injection memory (Bare below a)) (1 + e) (λ a. e)
    items_move line at [] false is valid h inside stands injection memory below e enough home =
        fragment_to {to = p.instructions.before + at} (omega (arith, ap length h)) (fragment_less {n = suc n} (omega arith) (fragment_move {d1 = e} (omega arith) (fragment_give (omega arith) (inside_here refl))))
    items_move line at [] true is valid h inside stands injection memory below e enough home =
        fragment_to {to = p.instructions.before + (at + 4)} (omega (arith, ap length h)) (fragment_bind_bare {e = λ a. 1 + (1 + e)} (λ a. steady_spend 1 (steady_give tt)) (line_end_writes line at (subst (λ k. CodeStands G ps p references at k) h stands) injection memory below (1 + e) (omega arith) home) (λ a longer after grown routine.
        fragment_less {n = suc n} (omega arith) (fragment_move {d1 = e} (omega arith) (fragment_give (omega arith) (inside_here refl)))))
    items_move line at (i ∷ items) ends_line is valid h inside stands injection memory below e enough home =
        let parts = code_stands-parts G ps p references at h.0 h.1 (subst (λ k. CodeStands G ps p references at k) h.4 stands) in
        let ends : at + length h.0 + length h.1 ≡ at + length is = omega (arith, ap length h.4, length-append h.0 h.1) in
        fragment_to (ap (λ k. p.instructions.before + k) ends) (fragment_bind_bare {e = λ a. 1 + e} (λ a. steady_write_items call steady_call n unit line items ends_line) (fragment_credit {d = 1 + e} {e = λ a. 1 + (1 + e)} (omega arith) (λ a. omega arith) (item_writes expressions line at i h.0 valid.0 h.2 (omega (arith, ends, inside)) parts.0 injection memory below (1 + e) (omega arith) home)) (λ a longer after grown routine.
        items_move line (at + length h.0) items ends_line h.1 valid.1 h.3 (omega (arith, ends, inside)) parts.1 longer after below e enough (unit_in-same G routine ∙ home)))

    -- `write` and `writeln`
    pub write_moves : (line at : ℕ) (items : List Item) (ends_line : Bool) (is : List Instr) → AreItems declared items → WritesSomething declared items ends_line → AreItemsCode texts references line at items ends_line is → at + length is < p.instructions.own → CodeStands G ps p references at is → Moves layout G untouched Here ps p texts references call n unit at (at + length is) (exec call n unit (Write line items ends_line))
    write_moves line at [] false is valid something h inside stands = absurd something
    write_moves line at [] true is valid something h inside stands = λ injection memory below d enough home.
        fragment_to {to = p.instructions.before + (at + 4)} (omega (arith, ap length h)) (fragment_bind_bare {e = λ a. 1 + d} (λ a. steady_spend 1 (steady_give tt)) (line_end_writes line at (subst (λ k. CodeStands G ps p references at k) h stands) injection memory below d enough home) (λ a longer after grown routine.
        fragment_less {n = suc n} (omega arith) (fragment_move {d1 = d} (omega arith) (fragment_give (omega arith) (inside_here refl)))))
    write_moves line at (i ∷ items) ends_line is valid something h inside stands = λ injection memory below d enough home.
        let parts = code_stands-parts G ps p references at h.0 h.1 (subst (λ k. CodeStands G ps p references at k) h.4 stands) in
        let ends : at + length h.0 + length h.1 ≡ at + length is = omega (arith, ap length h.4, length-append h.0 h.1) in
        fragment_to (ap (λ k. p.instructions.before + k) ends) (fragment_bind_bare {e = λ a. 1 + d} (λ a. steady_write_items call steady_call n unit line items ends_line) (item_writes expressions line at i h.0 valid.0 h.2 (omega (arith, ends, inside)) parts.0 injection memory below d enough home) (λ a longer after grown routine.
        items_move line (at + length h.0) items ends_line h.1 valid.1 h.3 (omega (arith, ends, inside)) parts.1 longer after below d enough (unit_in-same G routine ∙ home)))
