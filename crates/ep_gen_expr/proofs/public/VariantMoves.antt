-- The machine follows variants of records.
use Rattle.std.proofs.Common.{◌≡◌, ℕ, ℤ, pos, suc, ◌+◌, ◌-◌, ◌≤◌, ◌<◌, false, List, ◌∷◌, length, Option, Some, None, slice_get, refl, sym, ap, ◌∙◌, subst, arith}
use Rattle.std.specs.Prelude.{if◌then◌else◌, is_some}
use Rattle.ep_simulation.specs.Follows.{point, Facts, Follows, Fragment, Inside, IsNotLeft, Lands, PlaceOnTop}
use Rattle.ep_simulation.specs.Layouts.{Layout}
use Rattle.ep_simulation.specs.Matching.{MachineMemory, Injection, IsLike, IsSpot, Matches, Slots, at as standing}
use Rattle.ep_object.specs.Operands.{Operand, Word}
use Rattle.ep_object.specs.Operands as operand
use Rattle.ep_object.specs.Placing.{Placement, CodeStands}
use Rattle.ep_object.specs.Runs.{outcome, unit_in}
use Rattle.ep_object.specs.State.{State, Running, Stopped, Error}
use Rattle.ep_object.specs.WordRows.{bit}
use Rattle.ep_object.specs.declared.code.Image.{Image}
use Rattle.ep_object.specs.declared.code.Reference.{Reference}
use Rattle.ep_object.specs.declared.state.Place.{Place as PlaceOf}
use Rattle.ep_simulation.proofs.public.following.Bind.{Met, follows_credit, follows_from, follows_waits, follows_stop, follows_paid, follows_give}
use Rattle.ep_simulation.proofs.public.following.Choices.{fragment_using}
use Rattle.ep_simulation.proofs.public.following.Fragments.{FailsWith, landed, fragment_less, fragment_to, fragment_credit}
use Rattle.ep_simulation.proofs.public.matching.MoreMemory.{not_left-here}
use Rattle.ep_simulation.proofs.public.rows.FieldRow.{IsAmong, LeadsTo, among_there, field_does, field_fails, field_leads_to}
use Rattle.ep_simulation.proofs.public.rows.PlaceRows.{defined_tells, load_leads}
use Rattle.ep_simulation.proofs.public.rows.Rows.{fail_fails, jump_false_jumps}
use Rattle.ep_simulation.proofs.public.rows.TextRows.{dup_place}
use Rattle.ep_meaning.specs.Calls.{Handler}
use Rattle.ep_meaning.specs.Meaning.{active, chosen, selected, selects}
use Rattle.ep_values.specs.Operations.{is_true}
use Rattle.ep_values.specs.Printing.{Result, number_of}
use Rattle.ep_meaning.specs.Results.{result_of}
use Rattle.ep_meaning.specs.Steps.{Component, Computation, bind, component, fetch, fetch_or, found, has_ended, stop, tag_of}
use Rattle.ep_typed.specs.Selections.{variant_number}
use Rattle.ep_meaning.specs.Steps as meaning
use Rattle.ep_values.specs.TypeValues.{ComponentTypes, TypeValue, type_among}
use Rattle.ep_values.specs.TypeValues as type
use Rattle.ep_meaning.specs.Valid.{tag_type}
use Rattle.ep_values.specs.declared.run_error.TheConstants as run_error
use Rattle.ep_typed.specs.declared.tree.Selection.{Selection}
use Rattle.ep_gen_code.specs.Instructions.{bare, instr}
use Rattle.ep_gen_expr.specs.ExprCode.{bad_place, selecting_code, variant_code}
use Rattle.ep_gen_code.proofs.public.Waiting.{row_waits}
use Rattle.ep_gen_code.proofs.public.Placed.{instr_at, jump_false_has}
use Rattle.ep_gen_expr.proofs.Selecting.{fail_at, field_at, selecting_follows, within}
use Rattle.ep_gen_expr.proofs.public.Stays.{selecting_length, variant_length}
use Rattle.ep_object.specs.declared.op.TheConstants as op

-- what is read of a state, by what it is there, and with which end
pub follows_found : {A B : Type 0} {Within : State → Type 0} {G : Image} {n : ℕ} {k : State} {s : meaning.State} {Post : B → meaning.State → State → Type 0} {d : ℕ} {e : B → ℕ} (x : meaning.State → meaning.End) (h : meaning.State → Option A) (f : A → Computation B) (end : meaning.End) (o : Option A)
    → x s ≡ end → h s ≡ o → Follows Within G n k s (bind (found end o) f) Post d e → Follows Within G n k s (bind (fetch_or x h) f) Post d e
follows_found {Within = Within} {G = G} {k = k} {s = s} {Post = Post} {d = d} {e = e} x h f end o ends is z =
    record { by = λ m l. subst (λ y. Met Within G k m Post d e (bind (found y (h s)) f m s)) (sym ends) (subst (λ y. Met Within G k m Post d e (bind (found end y) f m s)) (sym is) (z.by m l)) }

module _ (layout : Layout) (G : Image) (untouched : Slots) (Here : Facts) (ps : List Placement) (p : Placement) (references : List Reference) (call : Handler) (g : ℕ) (unit : List ℕ) (room : p.instructions.before + p.instructions.own ≤ length G.instructions)
    (line at number : ℕ) (s : Selection) (ts : ComponentTypes) (t : TypeValue) (low high : ℤ) (has_tag : type_among ts s.tag ≡ Some (tag_type low high)) (has_variant : type_among ts (variant_number s number) ≡ Some t)
    (stands : CodeStands G ps p references at (variant_code line at s number)) (inside : at + length (variant_code line at s number) < p.instructions.own) where
  -- the code behind the value of the tag
  behind_tag : CodeStands G ps p references (at + 7) (selecting_code line (at + 7) s number)
  behind_tag =
      subst (λ k. CodeStands G ps p references k (selecting_code line (at + 7) s number))
      {x = at + 1 + 1 + 1 + 1 + 1 + 1 + 1} {y = at + 7} (omega arith) stands.1.1.1.1.1.1.1

  inside_tests : at + 7 + length (selecting_code line (at + 7) s number) < p.instructions.own
  inside_tests = omega (arith, inside, variant_length line at s number, selecting_length line (at + 7) s number)

  within_tests : bad_place (at + 7) s + 3 < p.instructions.own
  within_tests = within G ps p references line (at + 7) number s behind_tag inside_tests

  module _ (n : ℕ) (injection : Injection) (memory : MachineMemory) (below : List Operand) (c : Component) (b : PlaceOf) (spot : IsSpot injection memory.types c b) (described : IsLike memory.types b.type_number (type.Record ts)) (home : unit_in G memory.frames ≡ unit) where
    -- the variant, where it is selected
    variant_taken : (d : ℕ) → 1 ≤ d
        → Fragment layout G Here n (point injection memory (p.instructions.before + (bad_place (at + 7) s + 2)) (operand.Place b ∷ below)) (selected call g unit line c (variant_number s number)) (p.instructions.before + (bad_place (at + 7) s + 3)) (λ a. Inside untouched injection memory (PlaceOnTop t below a)) d (λ a. d + 16)
    variant_taken d enough =
        let place : ℕ = p.instructions.before + (bad_place (at + 7) s + 2) in
        let among : IsAmong 0 ts (variant_number s number) t = among_there 0 ts (variant_number s number) t has_variant in
        let has : slice_get G.instructions place ≡ Some (instr op.FIELD (pos (variant_number s number)) 0 line) = field_at G ps p references line (at + 7) number s behind_tag inside_tests in
        fragment_less {n = suc n} (omega arith) (fragment_to {to = place + 1} (omega arith) (fragment_using {n = suc n} {d = d} {e = λ a. d + 16} c.allocation
        (λ st matches ended. subst (λ u. FailsWith G (standing place (operand.Place b ∷ below) memory st.trace) 0 run_error.DISPOSED u line st) home (field_fails layout G place line below ts (variant_number s number) t c b has injection memory spot described among st matches ended)) (omega (arith, enough))
        (λ st matches here living.
        let does = field_does layout G place line below ts (variant_number s number) t c b has injection memory spot described among {untouched = untouched} {Here = Here} st matches here living in
        follows_paid {v = 0} {w = 0} {d1 = d + 16} (not_left-here memory.frames) refl does.does (omega arith) (omega arith) (omega arith) (follows_give (component c (variant_number s number)) (omega arith) (landed does)))))

    -- from the value of the tag on
    value_follows : (z : ℤ) (d : ℕ) → 16 ≤ d
        → Fragment layout G Here n (point injection memory (p.instructions.before + (at + 7)) (Word z ∷ operand.Place b ∷ below)) (selects call g unit s z (chosen call g unit line c s number) (stop (meaning.Error run_error.INACTIVE_VARIANT unit line))) (p.instructions.before + (bad_place (at + 7) s + 3)) (λ a. Inside untouched injection memory (PlaceOnTop t below a)) d (λ a. d + 7)
    value_follows z d enough =
        fragment_credit {d = d - 8 + 8} {e = λ a. d - 8 + 16} (omega (arith, enough)) (λ a. omega (arith, enough))
        (selecting_follows G ps p references line (at + 7) number s behind_tag inside_tests call g unit room n injection memory (operand.Place b ∷ below) home {e = λ a. d - 8 + 16} (selected call g unit line c (variant_number s number)) (variant_taken (d - 8) (omega (arith, enough))) z)

    -- The variant, where the record is on top: its tag, the value of that, and the tests of the labels.
    pub active_follows : (d : ℕ) → 32 ≤ d
        → Fragment layout G Here n (point injection memory (p.instructions.before + at) (operand.Place b ∷ below)) (active call g unit line c s number) (p.instructions.before + (bad_place (at + 7) s + 3)) (λ a. Inside untouched injection memory (PlaceOnTop t below a)) (d + 8) (λ a. d + 8)
    active_follows d enough =
        row_waits {d1 = d + 7} (dup_place G place line below b stands.0) (omega arith)
        (fragment_using {e = λ a. d + 8} c.allocation
        (λ st matches ended. subst (λ u. FailsWith G (standing (place + 1) (operand.Place b ∷ operand.Place b ∷ below) memory st.trace) 0 run_error.DISPOSED u line st) home (field_fails layout G (place + 1) line (operand.Place b ∷ below) ts s.tag (tag_type low high) c b at_record injection memory spot described among st matches ended)) (omega arith)
        (λ st matches here living. lives st matches here living (result_of (tag_of c s) st) refl))
      where
        place : ℕ
        place = p.instructions.before + at

        among : IsAmong 0 ts s.tag (tag_type low high)
        among = among_there 0 ts s.tag (tag_type low high) has_tag

        at_record : slice_get G.instructions (place + 1) ≡ Some (instr op.FIELD (pos s.tag) 0 line)
        at_record = instr_at G (omega arith) stands.1.0

        -- the record of the tag, and the tag
        first : LeadsTo layout G (place + 1) (operand.Place b ∷ below) s.tag (tag_type low high) c b injection memory
        first = field_leads_to layout G (place + 1) line (operand.Place b ∷ below) ts s.tag (tag_type low high) c b at_record injection memory spot described among

        second : LeadsTo layout G (place + 1 + 1) (operand.Place b ∷ below) 0 (type.Ordinal low high) (component c s.tag) first.its_place injection memory
        second =
            field_leads_to layout G (place + 1 + 1) line (operand.Place b ∷ below) (type.next_component (type.Ordinal low high) type.no_component) 0 (type.Ordinal low high) (component c s.tag) first.its_place (instr_at G (omega arith) stands.1.1.0) injection memory first.spot first.described
            (among_there 0 (type.next_component (type.Ordinal low high) type.no_component) 0 (type.Ordinal low high) refl)

        In : State → Type 0
        In k = IsNotLeft memory.frames k.frames

        bad : ℕ
        bad = p.instructions.before + bad_place (at + 7) s

        jumped : (st : meaning.State) (z : ℤ) → outcome G (standing (place + 5) (Word z ∷ operand.Place second.its_place ∷ operand.Place b ∷ below) memory st.trace) ≡ record { weight = 0; to = Running 0 (standing (if is_true z then place + 5 + 1 else bad) (operand.Place second.its_place ∷ operand.Place b ∷ below) memory st.trace) }
        jumped st z =
            jump_false_jumps G (place + 5) line (operand.Place second.its_place ∷ operand.Place b ∷ below) z bad (omega (arith, room, within_tests)) (instr_at G (omega arith) (jump_false_has G ps p references line (at + 1 + 1 + 1 + 1 + 1) (bad_place (at + 7) s) (bare line op.LOAD ∷ selecting_code line (at + 7) s number) (omega (arith, within_tests)) stands.1.1.1.1.1)) memory st.trace

        lives : (st : meaning.State) → Matches layout G injection st memory → Here injection st memory → has_ended c.allocation st ≡ false → (o : Option Result) → result_of (tag_of c s) st ≡ o
            → Follows In G n (standing (place + 1) (operand.Place b ∷ operand.Place b ∷ below) memory st.trace) st (bind (fetch (meaning.Error run_error.INACTIVE_VARIANT unit line) (result_of (tag_of c s))) (λ r. selects call g unit s (number_of r) (chosen call g unit line c s number) (stop (meaning.Error run_error.INACTIVE_VARIANT unit line)))) (λ a. Lands layout G Here (p.instructions.before + (bad_place (at + 7) s + 3)) (Inside untouched injection memory (PlaceOnTop t below a))) (d + 7) (λ a. d + 8)
        lives st matches here living o is = told o is
          where
            -- whether the tag has a value
            asked : outcome G (standing (place + 4) (operand.Place second.its_place ∷ operand.Place second.its_place ∷ operand.Place b ∷ below) memory st.trace) ≡ record { weight = 0; to = Running 0 (standing (place + 4 + 1) (Word (bit (is_some (result_of (tag_of c s) st))) ∷ operand.Place second.its_place ∷ operand.Place b ∷ below) memory st.trace) }
            asked = defined_tells layout G (place + 4) line (operand.Place second.its_place ∷ operand.Place b ∷ below) low high (tag_of c s) second.its_place (instr_at G (omega arith) stands.1.1.1.1.0) injection memory second.spot second.described st matches living

            -- up to that
            reached : {x : Computation Component} {e : Component → ℕ} (w : ℤ) → outcome G (standing (place + 4) (operand.Place second.its_place ∷ operand.Place second.its_place ∷ operand.Place b ∷ below) memory st.trace) ≡ record { weight = 0; to = Running 0 (standing (place + 4 + 1) (Word w ∷ operand.Place second.its_place ∷ operand.Place b ∷ below) memory st.trace) }
                → Follows In G n (standing (if is_true w then place + 5 + 1 else bad) (operand.Place second.its_place ∷ operand.Place b ∷ below) memory st.trace) st x (λ a. Lands layout G Here (p.instructions.before + (bad_place (at + 7) s + 3)) (Inside untouched injection memory (PlaceOnTop t below a))) (d + 2) e
                → Follows In G n (standing (place + 1) (operand.Place b ∷ operand.Place b ∷ below) memory st.trace) st x (λ a. Lands layout G Here (p.instructions.before + (bad_place (at + 7) s + 3)) (Inside untouched injection memory (PlaceOnTop t below a))) (d + 7) e
            reached {e = e} w tells h =
                follows_credit {d = 1 + (1 + (1 + (1 + (1 + (d + 2)))))} {e = e} (omega arith) (λ a. omega arith)
                (follows_waits (not_left-here memory.frames) (first.leads st matches living)
                (follows_waits (not_left-here memory.frames) (second.leads st matches living)
                (follows_waits (not_left-here memory.frames) (dup_place G (place + 1 + 1 + 1) line (operand.Place b ∷ below) second.its_place (instr_at G (omega arith) stands.1.1.1.0) memory st.trace)
                (follows_from (ap (λ k. standing k (operand.Place second.its_place ∷ operand.Place second.its_place ∷ operand.Place b ∷ below) memory st.trace) {x = place + 1 + 1 + 1 + 1} {y = place + 4} (omega arith))
                (follows_waits (not_left-here memory.frames) tells
                (follows_from (ap (λ k. standing k (Word w ∷ operand.Place second.its_place ∷ operand.Place b ∷ below) memory st.trace) {x = place + 4 + 1} {y = place + 5} (omega arith))
                (follows_waits (not_left-here memory.frames) (jumped st w) h)))))))

            told : (o : Option Result) → result_of (tag_of c s) st ≡ o
                → Follows In G n (standing (place + 1) (operand.Place b ∷ operand.Place b ∷ below) memory st.trace) st (bind (fetch (meaning.Error run_error.INACTIVE_VARIANT unit line) (result_of (tag_of c s))) (λ r. selects call g unit s (number_of r) (chosen call g unit line c s number) (stop (meaning.Error run_error.INACTIVE_VARIANT unit line)))) (λ a. Lands layout G Here (p.instructions.before + (bad_place (at + 7) s + 3)) (Inside untouched injection memory (PlaceOnTop t below a))) (d + 7) (λ a. d + 8)
            told None none =
                follows_found (λ t. meaning.Error run_error.INACTIVE_VARIANT unit line) (result_of (tag_of c s)) (λ r. selects call g unit s (number_of r) (chosen call g unit line c s number) (stop (meaning.Error run_error.INACTIVE_VARIANT unit line))) (meaning.Error run_error.INACTIVE_VARIANT unit line) None refl none
                (reached (pos 0) (asked ∙ ap (λ o. record { weight = 0; to = Running 0 (standing (place + 4 + 1) (Word (bit (is_some o)) ∷ operand.Place second.its_place ∷ operand.Place b ∷ below) memory st.trace) }) none)
                (follows_stop (not_left-here memory.frames) (fail_fails G bad line (operand.Place second.its_place ∷ operand.Place b ∷ below) run_error.INACTIVE_VARIANT refl (fail_at G ps p references line (at + 7) number s behind_tag inside_tests) memory st.trace ∙ ap (λ u. record { weight = 0; to = Stopped (Error run_error.INACTIVE_VARIANT u line) st.trace }) home) (omega arith)))
            told (Some r) some =
                let loads = load_leads layout G (place + 5 + 1) line (operand.Place b ∷ below) low high (tag_of c s) second.its_place (instr_at G (omega arith) stands.1.1.1.1.1.1.0) injection memory second.spot second.described st matches living r some in
                let rest = value_follows loads.0 (d + 1) (omega (arith, enough)) in
                let behind : Follows In G n (standing (p.instructions.before + (at + 7)) (Word loads.0 ∷ operand.Place b ∷ below) memory st.trace) st (selects call g unit s (number_of r) (chosen call g unit line c s number) (stop (meaning.Error run_error.INACTIVE_VARIANT unit line))) (λ a. Lands layout G Here (p.instructions.before + (bad_place (at + 7) s + 3)) (Inside untouched injection memory (PlaceOnTop t below a))) (d + 1) (λ a. d + 1 + 7) =
                subst (λ w. Follows In G n (standing (p.instructions.before + (at + 7)) (Word loads.0 ∷ operand.Place b ∷ below) memory st.trace) st (selects call g unit s w (chosen call g unit line c s number) (stop (meaning.Error run_error.INACTIVE_VARIANT unit line))) (λ a. Lands layout G Here (p.instructions.before + (bad_place (at + 7) s + 3)) (Inside untouched injection memory (PlaceOnTop t below a))) (d + 1) (λ a. d + 1 + 7)) (sym (ap number_of loads.1)) (rest.by st matches here)
                in
                follows_found (λ t. meaning.Error run_error.INACTIVE_VARIANT unit line) (result_of (tag_of c s)) (λ r. selects call g unit s (number_of r) (chosen call g unit line c s number) (stop (meaning.Error run_error.INACTIVE_VARIANT unit line))) (meaning.Error run_error.INACTIVE_VARIANT unit line) (Some r) refl some
                (reached (pos 1) (asked ∙ ap (λ o. record { weight = 0; to = Running 0 (standing (place + 4 + 1) (Word (bit (is_some o)) ∷ operand.Place second.its_place ∷ operand.Place b ∷ below) memory st.trace) }) some)
                (follows_credit {d = 1 + (d + 1)} {e = λ a. d + 1 + 7} (omega arith) (λ a. omega arith)
                (follows_waits (not_left-here memory.frames) loads.2
                (follows_from (ap (λ k. standing k (Word loads.0 ∷ operand.Place b ∷ below) memory st.trace) {x = place + 5 + 1 + 1} {y = p.instructions.before + (at + 7)} (omega arith)) behind))))
