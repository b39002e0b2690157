-- The machine follows variants of values.
use Rattle.std.proofs.Common.{◌≡◌, ℕ, ℤ, pos, suc, ◌+◌, ◌*◌, ◌≤◌, ◌<◌, List, ◌∷◌, ◌++◌, length, length-append, Option, Some, None, slice_get, refl, sym, ap, ◌∙◌, subst, arith}
use Rattle.std.specs.Prelude.{if◌then◌else◌, is_some}
use Rattle.ep_simulation.specs.Follows.{point, Facts, Follows, Inside, IsNotLeft, IsStructure, Lands, OnTop}
use Rattle.ep_simulation.specs.Layouts.{Layout}
use Rattle.ep_simulation.specs.Matching.{MachineMemory, Injection, Matches, Slots, at as standing}
use Rattle.ep_object.specs.Operands.{Operand, Word}
use Rattle.ep_object.specs.Operands as operand
use Rattle.ep_object.specs.Placing.{Placement, CodeStands}
use Rattle.ep_object.specs.Runs.{outcome, unit_in}
use Rattle.ep_object.specs.State.{State, Running, Stopped, Error}
use Rattle.ep_object.specs.WordRows.{bit}
use Rattle.ep_object.specs.declared.code.Image.{Image}
use Rattle.ep_object.specs.declared.code.Instr.{Instr}
use Rattle.ep_object.specs.declared.code.Reference.{Reference}
use Rattle.ep_simulation.proofs.public.following.Bind.{follows_credit, follows_from, follows_less, follows_waits, follows_stop}
use Rattle.ep_simulation.proofs.public.following.Choices.{ReadsResult, Nothing, Result_of, follows_read}
use Rattle.ep_simulation.proofs.public.following.Fragments.{fragment_bind_number, fragment_credit, fragment_from, fragment_less, fragment_paid, fragment_to, inside_bind}
use Rattle.ep_simulation.proofs.public.matching.Awaiting.{value-grown}
use Rattle.ep_simulation.proofs.public.matching.MoreMemory.{not_left-here, unit_in-same}
use Rattle.ep_simulation.proofs.public.rows.PartRows.{defined_part, field_part}
use Rattle.ep_simulation.proofs.public.rows.Rows.{fail_fails, jump_false_jumps}
use Rattle.ep_simulation.proofs.public.rows.TextRows.{dup_value}
use Rattle.ep_meaning.specs.Calls.{Handler}
use Rattle.ep_typed.specs.Hosts.{Host}
use Rattle.ep_meaning.specs.Meaning.{active_part, chosen_part, part, selects, tag_read}
use Rattle.ep_values.specs.Operations.{is_true}
use Rattle.ep_values.specs.Printing.{Result, number_of}
use Rattle.ep_meaning.specs.Results.{part_of, weight_of}
use Rattle.ep_meaning.specs.Steady.{IsSteadyHandler}
use Rattle.ep_meaning.specs.Steps.{Computation, bind, give, spend, stop}
use Rattle.ep_typed.specs.Selections.{variant_number}
use Rattle.ep_meaning.specs.Steps as meaning
use Rattle.ep_typed.specs.Trees.{Expr, VariantValue}
use Rattle.ep_values.specs.TypeValues as type
use Rattle.ep_values.specs.TypeValues.{ComponentTypes, TypeValue, type_among}
use Rattle.ep_meaning.specs.Valid.{IsTypeOf, Ordinal, Structured, tag_type}
use Rattle.ep_values.specs.declared.run_error.TheConstants as run_error
use Rattle.ep_typed.specs.declared.tree.Selection.{Selection}
use Rattle.ep_meaning.proofs.public.Steady.{steady_active_part, steady_bind, steady_selecting_part, steady_tag_read}
use Rattle.ep_gen_code.specs.Instructions.{bare, instr}
use Rattle.ep_gen_expr.specs.ExprCode.{bad_place, selecting_code, variant_part_code}
use Rattle.ep_gen_code.proofs.public.Placed.{instr_at, jump_false_has}
use Rattle.ep_gen_expr.proofs.public.Answering.{Evaluates, IsFollowed}
use Rattle.ep_gen_expr.proofs.Selecting.{fail_at, field_at, selecting_follows, within}
use Rattle.ep_gen_expr.proofs.public.Stays.{selecting_length, variant_part_length}
use Rattle.ep_gen_expr.proofs.ValueParts.{field_taken}
use Rattle.ep_gen_expr.proofs.public.VariantMoves.{follows_found}
use Rattle.ep_object.specs.declared.op.TheConstants as op

-- where there is a result, it does not matter which error there would be
read_of : {layout : Layout} {G : Image} {Here : Facts} {k : State} {besides number other line to : ℕ} {unit : List ℕ} {Post : Result → Injection → MachineMemory → List Operand → Type 0} {s : meaning.State} {o : Option Result} (x : Result)
    → ReadsResult layout G Here k besides number unit line to Post s o → o ≡ Some x → ReadsResult layout G Here k besides other unit line to Post s o
read_of x (Nothing is fails) e = let none : None ≡ Some x = sym is ∙ e in cc
read_of x (Result_of r is weight weighs does) e = Result_of r is weight weighs does

module _ (layout : Layout) (G : Image) (untouched : Slots) (Here : Facts) (ps : List Placement) (p : Placement) (references : List Reference) (call : Handler) (steady_call : IsSteadyHandler call) (g : ℕ) (unit : List ℕ) (room : p.instructions.before + p.instructions.own ≤ length G.instructions) (n line number : ℕ)
    (s : Selection) (ts inner : ComponentTypes) (low high : ℤ) (has_tag : type_among ts s.tag ≡ Some (tag_type low high)) (has_variant : type_among ts (variant_number s number) ≡ Some (type.Record inner)) (h : Host) (of_host : IsTypeOf h (type.Ordinal low high)) where
  module _ (at : ℕ) (stands : CodeStands G ps p references at (variant_part_code line at s number)) (inside : at + length (variant_part_code line at s number) < p.instructions.own) where
    -- the code behind the value of the tag
    behind_tag : CodeStands G ps p references (at + 6) (selecting_code line (at + 6) s number)
    behind_tag =
        subst (λ k. CodeStands G ps p references k (selecting_code line (at + 6) s number))
        {x = at + 1 + 1 + 1 + 1 + 1 + 1} {y = at + 6} (omega arith) stands.1.1.1.1.1.1

    inside_tests : at + 6 + length (selecting_code line (at + 6) s number) < p.instructions.own
    inside_tests = omega (arith, inside, variant_part_length line at s number, selecting_length line (at + 6) s number)

    within_tests : bad_place (at + 6) s + 3 < p.instructions.own
    within_tests = within G ps p references line (at + 6) number s behind_tag inside_tests

    abbrev place : ℕ
    place = p.instructions.before + at

    abbrev bad : ℕ
    bad = p.instructions.before + bad_place (at + 6) s

    -- a value is there twice
    twice : (t : TypeValue) (r : Result) (o : Operand) (below : List Operand) (from : ℕ) (injection : Injection) (memory : MachineMemory) → IsStructure t r injection memory o → slice_get G.instructions from ≡ Some (bare line op.DUP) → (trace : _)
        → outcome G (standing from (o ∷ below) memory trace) ≡ record { weight = 3 * weight_of r; to = Running 0 (standing (from + 1) (o ∷ o ∷ below) memory trace) }
    twice t r o below from injection memory v has trace =
        let many : length v.words ≡ weight_of r = v.sized ∙ sym (ap weight_of v.is_structure) in
        let value : Operand = operand.Value v.type_number v.words in
        ap (λ x. outcome G (standing from (x ∷ below) memory trace)) v.is
        ∙ (dup_value G from line below v.type_number v.words has memory trace
        ∙ (ap (λ k. record { weight = 3 * k; to = Running 0 (standing (from + 1) (value ∷ value ∷ below) memory trace) }) many
        ∙ ap (λ x. record { weight = 3 * weight_of r; to = Running 0 (standing (from + 1) (x ∷ x ∷ below) memory trace) }) (sym v.is)))

    module _ (below : List Operand) (injection : Injection) (memory : MachineMemory) (home : unit_in G memory.frames ≡ unit) where
      -- the value of the tag, with its record on top
      module _ (t : Result) (o : Operand) (v : IsStructure (tag_type low high) t injection memory o) (d : ℕ) where
        one : weight_of t ≡ 1
        one = ap weight_of v.is_structure

        asked : (x : Option Result) → part_of t 0 ≡ x → (trace : _)
            → outcome G (standing (place + 2 + 1) (o ∷ o ∷ below) memory trace) ≡ record { weight = 0; to = Running 0 (standing (place + 2 + 1 + 1) (Word (bit (is_some x)) ∷ o ∷ below) memory trace) }
        asked x is trace =
            defined_part layout G (place + 2 + 1) line (o ∷ below) injection memory low high t o v (instr_at G (omega arith) stands.1.1.1.0) trace
            ∙ ap (λ y. record { weight = 0; to = Running 0 (standing (place + 2 + 1 + 1) (Word (bit (is_some y)) ∷ o ∷ below) memory trace) }) is

        jumped : (z : ℤ) (trace : _) → outcome G (standing (place + 4) (Word z ∷ o ∷ below) memory trace) ≡ record { weight = 0; to = Running 0 (standing (if is_true z then place + 4 + 1 else bad) (o ∷ below) memory trace) }
        jumped z trace =
            jump_false_jumps G (place + 4) line (o ∷ below) z bad (omega (arith, room, within_tests))
            (instr_at G (omega arith) (jump_false_has G ps p references line (at + 1 + 1 + 1 + 1) (bad_place (at + 6) s) (instr op.FIELD (pos 0) 0 line ∷ selecting_code line (at + 6) s number) (omega (arith, within_tests)) stands.1.1.1.1)) memory trace

        abbrev In : State → Type 0
        In k = IsNotLeft memory.frames k.frames

        -- up to where it is known whether the tag has a value
        reached : {x : Computation Result} {e : Result → ℕ} (w : ℤ) (st : meaning.State)
            → outcome G (standing (place + 2 + 1) (o ∷ o ∷ below) memory st.trace) ≡ record { weight = 0; to = Running 0 (standing (place + 2 + 1 + 1) (Word w ∷ o ∷ below) memory st.trace) }
            → Follows In G n (standing (if is_true w then place + 4 + 1 else bad) (o ∷ below) memory st.trace) st x (λ r. Lands layout G Here (place + 6) (Inside untouched injection memory (OnTop (Ordinal h) below r))) (d + 8) e
            → Follows In G n (standing (place + 2) (o ∷ below) memory st.trace) st x (λ r. Lands layout G Here (place + 6) (Inside untouched injection memory (OnTop (Ordinal h) below r))) (d + 16) e
        reached {e = e} w st tells follows =
            follows_credit {d = suc (3 * weight_of t) + (1 + (1 + (d + 8)))} {e = e} (omega (arith, one)) (λ r. omega (arith, one))
            (follows_waits (not_left-here memory.frames) (twice (tag_type low high) t o below (place + 2) injection memory v (instr_at G (omega arith) stands.1.1.0) st.trace)
            (follows_waits (not_left-here memory.frames) tells
            (follows_from (ap (λ k. standing k (Word w ∷ o ∷ below) memory st.trace) {x = place + 2 + 1 + 1} {y = place + 4} (omega arith))
            (follows_waits (not_left-here memory.frames) (jumped w st.trace) follows))))

        told : (st : meaning.State) → Matches layout G injection st memory → Here injection st memory → (x : Option Result) → part_of t 0 ≡ x
            → Follows In G n (standing (place + 2) (o ∷ below) memory st.trace) st (tag_read call g unit line t) (λ r. Lands layout G Here (place + 6) (Inside untouched injection memory (OnTop (Ordinal h) below r))) (d + 16) (λ r. d + weight_of r)
        told st matches here None none =
            follows_found (λ y. meaning.Error run_error.INACTIVE_VARIANT unit line) (λ y. part_of t 0) (λ z. spend (suc (weight_of z)) (give z)) (meaning.Error run_error.INACTIVE_VARIANT unit line) None refl none
            (reached (pos 0) st (asked None none st.trace)
            (follows_stop (not_left-here memory.frames) (fail_fails G bad line (o ∷ below) run_error.INACTIVE_VARIANT refl (fail_at G ps p references line (at + 6) number s behind_tag inside_tests) memory st.trace ∙ ap (λ u. record { weight = 0; to = Stopped (Error run_error.INACTIVE_VARIANT u line) st.trace }) home) (omega arith)))
        told st matches here (Some x) some =
            let reads = field_part layout G (place + 4 + 1) line below injection memory (type.next_component (type.Ordinal low high) type.no_component) t o v 0 (type.Ordinal low high) refl (Ordinal h) of_host (instr_at G (omega arith) stands.1.1.1.1.1.0) st matches here in
            let reads_here = subst (λ u. ReadsResult layout G Here (standing (place + 4 + 1) (o ∷ below) memory st.trace) (weight_of t) run_error.UNDEFINED_VALUE u line (place + 4 + 1 + 1) (λ r. Inside untouched injection memory (OnTop (Ordinal h) below r)) st (part_of t 0)) home reads in
            let to_end = subst (λ k. ReadsResult layout G Here (standing (place + 4 + 1) (o ∷ below) memory st.trace) (weight_of t) run_error.UNDEFINED_VALUE unit line k (λ r. Inside untouched injection memory (OnTop (Ordinal h) below r)) st (part_of t 0)) {x = place + 4 + 1 + 1} {y = place + 6} (omega arith) reads_here in
            reached (pos 1) st (asked (Some x) some st.trace)
            (follows_less {n = suc n} (omega arith) (follows_read {d = d + 8} {e = λ r. d + weight_of r} (point injection memory (place + 4 + 1) (o ∷ below)) (λ y. part_of t 0) st (read_of {other = run_error.INACTIVE_VARIANT} x to_end some) (omega (arith, one)) (λ r. omega (arith, one))))

        tag_follows : Evaluates layout G untouched Here n injection memory (place + 2) (o ∷ below) (tag_read call g unit line t) (place + 6) (Ordinal h) below (d + 16) d
        tag_follows = record { by = λ st matches here. told st matches here (part_of t 0) refl }

    -- The variant, with the value of the record on top: that again, the record of its tag, the value of the tag, and the tests of
    -- the labels.
    active_part_follows : (below : List Operand) (r : Result) (o : Operand) (injection : Injection) (memory : MachineMemory) → IsStructure (type.Record ts) r injection memory o → unit_in G memory.frames ≡ unit → (d : ℕ)
        → Evaluates layout G untouched Here n injection memory place (o ∷ below) (active_part call g unit line r s number) (p.instructions.before + (bad_place (at + 6) s + 3)) (Structured (type.Record inner)) below (d + 8 + weight_of r) (d + 8)
    active_part_follows below r o injection memory v home d =
        let end : ℕ = p.instructions.before + (bad_place (at + 6) s + 3) in
        let rest : Result → Computation Result = λ z. selects call g unit s (number_of z) (chosen_part call g unit line r s number) (stop (meaning.Error run_error.INACTIVE_VARIANT unit line)) in
        fragment_less {n = suc n} (omega arith)
        (fragment_paid {place1 = place + 1} {d1 = d + 32 + weight_of r + 8 + weight_of r} {weight = 3 * weight_of r} {w = weight_of r} {operands1 = o ∷ o ∷ below} (λ st matches. twice (type.Record ts) r o below place injection memory v stands.0 st.trace) (omega arith) (omega arith) (omega arith)
        (inside_bind {First = OnTop (Structured (tag_type low high)) (o ∷ below)} {e = λ t. d + 32 + weight_of r + 8 + weight_of t} (λ t. steady_bind (steady_tag_read call steady_call g unit line t) (steady_selecting_part call steady_call g unit line r s number))
        (field_taken ps p references call steady_call g unit line n (place + 1) (o ∷ below) (Structured (tag_type low high)) ts r o s.tag (tag_type low high) has_tag (refl, tt) (instr_at G (omega arith) stands.1.0) injection memory v (d + 32 + weight_of r) home)
        (λ t longer after pushed grown routine top.
        subst (λ st. Evaluates layout G untouched Here n longer after (place + 1 + 1) st (bind (tag_read call g unit line t) rest) end (Structured (type.Record inner)) below (d + 32 + weight_of r + 8 + weight_of t) (d + 8)) (sym top.is)
        (fragment_from {place = place + 2} (omega arith)
        (fragment_credit {d = d + 24 + weight_of r + 16} {e = λ x. d + 8 + weight_of x} (omega arith) (λ x. omega arith)
        (fragment_bind_number {host = h} {e = λ z. d + 24 + weight_of r + weight_of z} (steady_selecting_part call steady_call g unit line r s number)
        (tag_follows (o ∷ below) longer after (unit_in-same G routine ∙ home) t top.operand top.holds (d + 24 + weight_of r))
        (λ z v2 m2 of_z grown2 routine2.
        let home2 : unit_in G m2.frames ≡ unit = unit_in-same G routine2 ∙ (unit_in-same G routine ∙ home) in
        let there = value-grown (Structured (type.Record ts)) r o grown2 (value-grown (Structured (type.Record ts)) r o grown v) in
        fragment_from {place = p.instructions.before + (at + 6)} (omega arith)
        (fragment_credit {d = d + 8 + weight_of r + 8} {e = λ x. d + 8 + weight_of x} (omega arith) (λ x. omega arith)
        (selecting_follows G ps p references line (at + 6) number s behind_tag inside_tests call g unit room n v2 m2 (o ∷ below) home2 {d = d + 8 + weight_of r} {e = λ x. d + 8 + weight_of x} (part call g unit line r (variant_number s number))
        (fragment_to (omega arith) (field_taken ps p references call steady_call g unit line n (p.instructions.before + (bad_place (at + 6) s + 2)) below (Structured (type.Record inner)) ts r o (variant_number s number) (type.Record inner) has_variant (refl, tt) (field_at G ps p references line (at + 6) number s behind_tag inside_tests) v2 m2 there d home2))
        z)))))))))

  -- the variant of a record that a function gives, by the record and the tests of the labels
  pub variant_value_follows : (x : Expr) (at : ℕ) (xs : List Instr)
      → IsFollowed layout G untouched Here p call g unit n (Structured (type.Record ts)) x line at xs
      → CodeStands G ps p references (at + length xs) (variant_part_code line (at + length xs) s number)
      → at + length xs + length (variant_part_code line (at + length xs) s number) < p.instructions.own
      → IsFollowed layout G untouched Here p call g unit n (Structured (type.Record inner)) (VariantValue x s number) line at (xs ++ variant_part_code line (at + length xs) s number)
  variant_value_follows x at xs follows stands inside injection memory below d le unit_is =
      let middle : ℕ = p.instructions.before + (at + length xs) in
      let end : ℕ = p.instructions.before + (at + length (xs ++ variant_part_code line (at + length xs) s number)) in
      inside_bind {First = OnTop (Structured (type.Record ts)) below} {e = λ a. d + 8 + weight_of a} (λ a. steady_active_part call steady_call g unit line a s number) (follows injection memory below d le unit_is) (λ a longer after pushed grown routine top.
      subst (λ st. Evaluates layout G untouched Here n longer after middle st (active_part call g unit line a s number) end (Structured (type.Record inner)) below (d + 8 + weight_of a) (d + 8)) (sym top.is)
      (fragment_to (omega (arith, length-append xs (variant_part_code line (at + length xs) s number), variant_part_length line (at + length xs) s number)) (active_part_follows (at + length xs) stands inside below a top.operand longer after top.holds (unit_in-same G routine ∙ unit_is) d)))
