-- The machine follows a component of a structured value that is given what another one has.
use Rattle.std.proofs.Common.{◌≡◌, ℕ, pos, ◌+◌, ◌-◌, ◌≤◌, List, [], ◌∷◌, ◌++◌, length, length-append, Some, refl, sym, ap, ◌∙◌, subst, arith}
use Rattle.ep_gen_code.specs.Credit.{least_credit}
use Rattle.ep_gen_code.specs.Instructions.{bare, instr}
use Rattle.ep_gen_code.specs.Referring.{IsSwapReferred}
use Rattle.ep_gen_code.specs.declared.references.TheConstants as routine
use Rattle.ep_gen_code.proofs.public.Placed.{code_back, code_front}
use Rattle.ep_gen_expr.specs.ExprCode.{reach_code, same_code, steps_code}
use Rattle.ep_gen_expr.proofs.Components.{loaded_follows, reached_follows}
use Rattle.ep_gen_expr.proofs.public.StructuredValues.{IsElementFollowed, store_given}
use Rattle.ep_simulation.specs.Follows.{After, Bare, Facts, Fragment, Inside, Lasts, OnTop, PlaceOnTop, point}
use Rattle.ep_simulation.specs.Layouts.{Layout}
use Rattle.ep_simulation.specs.Matching.{Injection, IsLike, IsSpot, MachineMemory, Slots}
use Rattle.ep_object.specs.Operands.{Operand}
use Rattle.ep_object.specs.Operands as operand
use Rattle.ep_object.specs.Placing.{CodeStands, Placement}
use Rattle.ep_simulation.specs.Promises.{CallsAt, SwapStands}
use Rattle.ep_object.specs.Runs.{unit_in}
use Rattle.ep_object.specs.declared.code.Image.{Image}
use Rattle.ep_object.specs.declared.code.Instr.{Instr}
use Rattle.ep_object.specs.declared.code.Reference.{Reference}
use Rattle.ep_object.specs.declared.op.TheConstants as op
use Rattle.ep_object.specs.declared.state.Place.{Place as PlaceOf}
use Rattle.ep_simulation.proofs.public.following.Bind.{follows_counted}
use Rattle.ep_simulation.proofs.public.following.Fragments.{fragment_credit, fragment_from, fragment_to, fragment_waits, inside_bind}
use Rattle.ep_simulation.proofs.public.following.Swapping.{swap_follows, swap_ticks}
use Rattle.ep_simulation.proofs.public.matching.Awaiting.{value_on_top}
use Rattle.ep_simulation.proofs.public.matching.MoreMemory.{describes-grown, grown_refl, is_spot-grown, same_routine-refl, unit_in-same}
use Rattle.ep_simulation.proofs.public.rows.ChangeRows.{may_take}
use Rattle.ep_simulation.proofs.public.rows.NamelessRows.{matches_depth}
use Rattle.ep_simulation.proofs.public.rows.Rows.{outcome_at}
use Rattle.ep_meaning.proofs.public.Steady.{grows_depth, steady_bind, steady_change, steady_given, steady_reached, steady_read}
use Rattle.ep_meaning.specs.Calls.{Handler}
use Rattle.ep_meaning.specs.Meaning.{given, reached, read}
use Rattle.ep_meaning.specs.Nameless.{with_depth}
use Rattle.ep_meaning.specs.Results.{weight_of}
use Rattle.ep_meaning.specs.Steady.{IsSteadyHandler, Steady}
use Rattle.ep_meaning.specs.Steps.{Component, Computation, bind, change}
use Rattle.ep_typed.specs.Trees.{SameField}
use Rattle.ep_values.specs.TypeValues.{ComponentTypes, TypeValue}
use Rattle.ep_values.specs.TypeValues as type
use Rattle.ep_meaning.specs.Valid.{Declarations, IsTypeOfKind, ValueKind, LeadToKind}

module _ (declared : Declarations) (layout : Layout) (G : Image) (untouched : Slots) (Here : Facts) (lasts : Lasts untouched Here) (ps : List Placement) (p : Placement) (references : List Reference) (call : Handler) (steady_call : IsSteadyHandler call) (g : ℕ) (unit : List ℕ) (line n : ℕ)
    (swap : SwapStands G ps unit declared.first_private) (swap_referred : IsSwapReferred declared unit references) where
  -- Two operands change places, for which the depth counts.
  pub swapped_follows : {A : Type 0} {c : Computation A} {to : ℕ} {P : A → After} {e : A → ℕ} (place : ℕ) → CallsAt G place swap.routine 0 line → (injection : Injection) (memory : MachineMemory) (x y : Operand) (below : List Operand) (d : ℕ) → Steady c
      → Fragment layout G Here n (point injection memory (place + 1) (x ∷ y ∷ below)) c to P d e
      → Fragment layout G Here n (point injection memory place (y ∷ x ∷ below)) (bind (change with_depth) (λ _. c)) to P (swap_ticks x y + d) e
  swapped_follows place calls injection memory x y below d steady then =
      record {
        by = λ s matches here.
            let deep = lasts.by injection injection s (with_depth s) memory memory (record { grown = grown_refl injection memory; routine = same_routine-refl memory.frames; own = λ j. refl; calls = refl }) here in
            follows_counted with_depth (swap_follows G swap.routine swap.is place line calls x y below memory s.trace s refl steady (omega (arith, matches.depth)) (λ l stays. stays) (then.by (with_depth s) (matches_depth matches) deep));
      }

  -- `Load` and `Store`, where the places of the two components are on top
  copied_follows : (at : ℕ) (k : ValueKind) (source goal : TypeValue) → IsTypeOfKind k source → IsTypeOfKind k goal → CodeStands G ps p references at (bare line op.LOAD ∷ bare line op.STORE ∷ [])
      → (injection : Injection) (memory : MachineMemory) (below : List Operand) (a b : Component) (q r : PlaceOf) (d : ℕ) → least_credit ≤ d + 8 → 1 ≤ d → unit_in G memory.frames ≡ unit
      → IsSpot injection memory.types a q → IsLike memory.types q.type_number source → IsSpot injection memory.types b r → IsLike memory.types r.type_number goal
      → Fragment layout G Here n (point injection memory (p.instructions.before + at) (operand.Place q ∷ operand.Place r ∷ below)) (bind (read call g unit line a) (given call g unit line b)) (p.instructions.before + (at + 1 + 1)) (λ u. Inside untouched injection memory (Bare below u)) d (λ u. d + 8)
  copied_follows at k source goal of_source of_goal stands injection memory below a b q r d enough some home spot_a described_a spot_b described_b =
      inside_bind {First = OnTop k (operand.Place r ∷ below)} {e = λ x. d + 8 + weight_of x} (λ x. steady_given call steady_call g unit line b x)
      (loaded_follows call g unit line n (p.instructions.before + at) k source of_source stands.0 injection memory (operand.Place r ∷ below) a q d some home spot_a described_a)
      (λ x longer after pushed grown routine top.
      let v = value_on_top k (operand.Place r ∷ below) x longer after pushed top in
      subst (λ st. Fragment layout G Here n (point longer after (p.instructions.before + at + 1) st) (given call g unit line b x) (p.instructions.before + (at + 1 + 1)) (λ u. Inside untouched longer after (Bare below u)) (d + 8 + weight_of x) (λ u. d + 8)) (sym v.2)
      (fragment_from {place = p.instructions.before + (at + 1)} (omega arith) (fragment_to (omega arith)
      (store_given layout G untouched Here lasts ps p references call steady_call g unit line n k goal x v.0 b r (may_take k goal of_goal) (at + 1) stands.1 longer after v.1 below (d + 8) enough (unit_in-same G routine ∙ home) (is_spot-grown grown spot_b) (describes-grown r.type_number goal grown described_b)))))

  module _ (ts : ComponentTypes) (from to : List ℕ) (k : ValueKind) (source : LeadToKind ts from k) (goal : LeadToKind ts to k) (at : ℕ) (stands : CodeStands G ps p references at (same_code line from to)) where
    abbrev last : List Instr
    last = bare line op.LOAD ∷ bare line op.STORE ∷ []

    abbrev behind : List Instr
    behind = instr op.CALL (pos routine.SWAP) 0 line ∷ (steps_code line from ++ last)

    -- where the routine is called, and where the value is loaded
    abbrev middle : ℕ
    middle = at + 1 + 1 + length (steps_code line to)

    abbrev load : ℕ
    load = middle + 1 + length (steps_code line from)

    abbrev end : ℕ
    end = p.instructions.before + (load + 1 + 1)

    tail : CodeStands G ps p references middle behind
    tail = code_back G ps p references (at + 1 + 1) (steps_code line to) behind stands.1.1

    calls : CallsAt G (p.instructions.before + middle) swap.routine 0 line
    calls =
        record { instruction = instr op.CALL (pos swap.routine) 0 line; stands = tail.0 ∙ ap (λ i. Some i) (rw swap_referred (swap.placed (instr op.CALL (pos routine.SWAP) 0 line))); is_call = refl; names = refl; parent = refl; at_line = refl }

    -- with the place of the component that is given on top of that of the record
    from_goal : (injection : Injection) (memory : MachineMemory) (rest : List Operand) (a b : Component) (q r : PlaceOf) (d : ℕ) → least_credit ≤ d → unit_in G memory.frames ≡ unit
        → IsSpot injection memory.types a q → IsLike memory.types q.type_number (type.Record ts) → IsSpot injection memory.types b r → IsLike memory.types r.type_number goal.0
        → Fragment layout G Here n (point injection memory (p.instructions.before + middle) (operand.Place r ∷ operand.Place q ∷ rest)) (bind (change with_depth) (λ _. bind (reached call g unit line a from) (λ c. bind (read call g unit line c) (given call g unit line b)))) end (λ u. Inside untouched injection memory (Bare rest u)) d (λ u. d + 4)
    from_goal injection memory rest a b q r d enough home spot described spot_b described_b =
        fragment_credit {d = swap_ticks (operand.Place q) (operand.Place r) + (d - 4)} {e = λ u. d - 4 + 8} (omega (arith, enough)) (λ u. omega (arith, enough))
        (swapped_follows (p.instructions.before + middle) calls injection memory (operand.Place q) (operand.Place r) rest (d - 4)
        (steady_bind (steady_reached call steady_call g unit line a from) (λ c. steady_bind (steady_read call steady_call g unit line c) (λ x. steady_given call steady_call g unit line b x)))
        (fragment_from {place = p.instructions.before + (middle + 1)} (omega arith)
        (inside_bind {First = PlaceOnTop source.0 (operand.Place r ∷ rest)} {e = λ c. d - 4} (λ c. steady_bind (steady_read call steady_call g unit line c) (λ x. steady_given call steady_call g unit line b x))
        (reached_follows ps p references call steady_call g unit line n ts from source.0 source.1 (middle + 1) (code_front G ps p references (middle + 1) (steps_code line from) last tail.1) injection memory (operand.Place r ∷ rest) a q (d - 4) (omega (arith, enough)) home spot described)
        (λ c longer after pushed grown routine top.
        subst (λ st. Fragment layout G Here n (point longer after (p.instructions.before + load) st) (bind (read call g unit line c) (given call g unit line b)) end (λ u. Inside untouched longer after (Bare rest u)) (d - 4) (λ u. d - 4 + 8)) (sym top.is)
        (copied_follows load k source.0 goal.0 source.2 goal.2 (code_back G ps p references (middle + 1) (steps_code line from) last tail.1) longer after rest c b top.place r (d - 4) (omega (arith, enough)) (omega (arith, enough)) (unit_in-same G routine ∙ home) top.spot top.described (is_spot-grown grown spot_b) (describes-grown r.type_number goal.0 grown described_b))))))

    -- All of it.
    pub same_field_follows : IsElementFollowed layout G untouched Here lasts ps p references call steady_call g unit line n (type.Record ts) (SameField from to) at (same_code line from to)
    same_field_follows injection memory rest a q d enough home spot described =
        fragment_to {to = end} (omega (arith, length-append (reach_code line to) behind, length-append (steps_code line from) last))
        (fragment_waits {d1 = d - 1} (λ s matches. outcome_at G (bare line op.DUP) (p.instructions.before + at) (operand.Place q ∷ rest) memory s.trace stands.0) (omega (arith, enough))
        (fragment_from {place = p.instructions.before + (at + 1)} (omega arith)
        (fragment_waits {d1 = d - 2} (λ s matches. outcome_at G (bare line op.DUP) (p.instructions.before + (at + 1)) (operand.Place q ∷ operand.Place q ∷ rest) memory s.trace stands.1.0) (omega (arith, enough))
        (fragment_from {place = p.instructions.before + (at + 1 + 1)} (omega arith)
        (inside_bind {First = PlaceOnTop goal.0 (operand.Place q ∷ operand.Place q ∷ rest)} {e = λ c. d - 2} (λ c. steady_bind (steady_change grows_depth) (λ _. steady_bind (steady_reached call steady_call g unit line a from) (λ x. steady_bind (steady_read call steady_call g unit line x) (λ r. steady_given call steady_call g unit line c r))))
        (reached_follows ps p references call steady_call g unit line n ts to goal.0 goal.1 (at + 1 + 1) (code_front G ps p references (at + 1 + 1) (steps_code line to) behind stands.1.1) injection memory (operand.Place q ∷ operand.Place q ∷ rest) a q (d - 2) (omega (arith, enough)) home spot described)
        (λ c longer after pushed grown routine top.
        subst (λ st. Fragment layout G Here n (point longer after (p.instructions.before + middle) st) (bind (change with_depth) (λ _. bind (reached call g unit line a from) (λ x. bind (read call g unit line x) (given call g unit line c)))) end (λ u. Inside untouched longer after (Bare (operand.Place q ∷ rest) u)) (d - 2) (λ u. d)) (sym top.is)
        (fragment_credit {d = d - 2} {e = λ u. d - 2 + 4} (omega arith) (λ u. omega (arith, enough))
        (from_goal longer after (operand.Place q ∷ rest) a c q top.place (d - 2) (omega (arith, enough)) (unit_in-same G routine ∙ home) (is_spot-grown grown spot) (describes-grown q.type_number (type.Record ts) grown described) top.spot top.described))))))))
