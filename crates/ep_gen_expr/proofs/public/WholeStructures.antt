-- The machine follows structured values: their type is elaborated, a variable of it without a name is made, is given its
-- components, and is taken.
use Rattle.std.proofs.Common.{◌≡◌, ℕ, pos, ◌+◌, ◌*◌, ◌-◌, ◌≤◌, ◌<◌, List, [], ◌∷◌, ◌++◌, length, length-append, Some, slice_get, refl, sym, ap, ◌∙◌, subst, arith}
use Rattle.std.proofs.lemmas.Option.{slice_get_within}
use Rattle.ep_gen_code.specs.Credit.{least_credit}
use Rattle.ep_gen_code.specs.Instructions.{bare, instr}
use Rattle.ep_gen_code.specs.Referring.{AreReferred, IsSwapReferred, type_reference}
use Rattle.ep_gen_code.specs.declared.references.TheConstants as routine
use Rattle.ep_gen_code.proofs.public.Placed.{code_back}
use Rattle.ep_gen_expr.specs.ExprCode.{begin_code, end_code}
use Rattle.ep_gen_expr.proofs.public.Answering.{Evaluates, IsFollowed}
use Rattle.ep_gen_expr.proofs.Nameless.{begins_follows, end_ticks, taken_follows}
use Rattle.ep_gen_expr.proofs.public.StructuredValues.{AreElementsFollowed}
use Rattle.ep_simulation.proofs.public.following.Kept.{IsHome, swap_kept, type_kept}
use Rattle.ep_simulation.specs.Follows.{Bare, Facts, Fragment, Inside, Lasts, OnTop, TypeOnTop, point}
use Rattle.ep_simulation.specs.Layouts.{Layout}
use Rattle.ep_simulation.specs.Matching.{AreAmong, Injection, IsLike, IsOf, IsSpot, MachineMemory, Slots, kept_slots}
use Rattle.ep_object.specs.Operands.{Operand, Word}
use Rattle.ep_object.specs.Operands as operand
use Rattle.ep_object.specs.Placing.{CodeStands, Placement}
use Rattle.ep_object.specs.Pointers.{whole as place_of_whole}
use Rattle.ep_simulation.specs.Promises.{CallsAreKept, CallsAt, SwapStands, TypeKeeps, type_credit}
use Rattle.ep_object.specs.Runs.{unit_in}
use Rattle.ep_object.specs.declared.code.Image.{Image}
use Rattle.ep_object.specs.declared.code.Instr.{Instr}
use Rattle.ep_object.specs.declared.code.Reference.{Reference}
use Rattle.ep_object.specs.declared.op.TheConstants as op
use Rattle.ep_object.specs.declared.state.Place.{Place as PlaceOf}
use Rattle.ep_simulation.proofs.public.following.Fragments.{fragment_credit, fragment_from, fragment_to, fragment_waits, inside_bind}
use Rattle.ep_simulation.proofs.public.following.Promising.{type_follows}
use Rattle.ep_simulation.proofs.public.matching.MoreMemory.{describes-grown, is_spot-grown, unit_in-same}
use Rattle.ep_simulation.proofs.public.rows.NamelessRows.{NamelessOnTop, deref_pushes}
use Rattle.ep_simulation.proofs.public.rows.Rows.{outcome_at}
use Rattle.ep_meaning.proofs.public.Bares.{bare_size, bare_twice, value_bare}
use Rattle.ep_meaning.proofs.public.Steady.{steady_begins_nameless, steady_bind, steady_gives_all, steady_taken}
use Rattle.ep_meaning.proofs.public.Typed.{typed_value}
use Rattle.ep_meaning.specs.Calls.{Handler}
use Rattle.ep_meaning.specs.Meaning.{eval, gives_all, taken}
use Rattle.ep_meaning.specs.Nameless.{begins_nameless}
use Rattle.ep_values.specs.Printing.{Result}
use Rattle.ep_meaning.specs.Results.{weight_of}
use Rattle.ep_meaning.specs.Steady.{IsSteadyHandler, Steady}
use Rattle.ep_meaning.specs.Steps.{Computation, bind, whole}
use Rattle.ep_values.specs.TypeValues.{size_of}
use Rattle.ep_typed.specs.Trees.{Elements, Named, Structured}
use Rattle.ep_values.specs.TypeValues.{TypeValue, bare_of}
use Rattle.ep_meaning.specs.Valid.{Declarations, IsStructured, IsTyped, IsTypeValue, named}
use Rattle.ep_meaning.specs.Valid as kind
use Rattle.ep_typed.specs.declared.unit.UnitType.{UnitType}

-- a name that has a type value is one of the list of types
pub named_within : (types : List UnitType) (number : ℕ) (t : TypeValue) → IsTyped types (Named number []) t → number < length types
named_within types number t (named index x is inner) = slice_get_within types number x is

module _ (declared : Declarations) (layout : Layout) (G : Image) (untouched : Slots) (Here : Facts) (lasts : Lasts untouched Here) (among : AreAmong untouched (kept_slots layout G)) (ps : List Placement) (p : Placement) (references : List Reference) (call : Handler) (steady_call : IsSteadyHandler call) (n : ℕ) (kept : CallsAreKept declared layout G ps call n) (g : ℕ) (unit : List ℕ) (line : ℕ) (types : List UnitType) (at_home : IsHome declared unit types) (referred : AreReferred declared unit types references) (swap_referred : IsSwapReferred declared unit references) where
  -- with a variable without a name, what is evaluated then
  abbrev filled : Elements → ℕ → Computation Result
  filled es m = bind (gives_all call g unit line (whole m) es) (λ _. taken call g unit line m)

  steady_filled : (es : Elements) (m : ℕ) → Steady (filled es m)
  steady_filled es m = steady_bind (steady_gives_all call steady_call g unit line (whole m) es) (λ _. steady_taken call steady_call g unit line m)

  module _ (number : ℕ) (t : TypeValue) (typed : IsTyped types (Named number []) t) (structured : IsStructured (bare_of t)) (es : Elements) (at : ℕ) (xs : List Instr)
      (follows : AreElementsFollowed layout G untouched Here lasts ps p references call steady_call g unit line n (bare_of t) es (at + 4) xs)
      (stands : CodeStands G ps p references at (begin_code line number ++ (xs ++ end_code line))) where
    within : number < length types
    within = named_within types number t typed

    keeps : TypeKeeps layout G ps call n declared.first_private unit number t
    keeps = type_kept kept unit types at_home number t typed

    swap : SwapStands G ps unit declared.first_private
    swap = swap_kept kept unit types at_home (omega (arith, within))

    abbrev place : ℕ
    place = p.instructions.before + at

    -- where the components have been given
    abbrev middle : ℕ
    middle = p.instructions.before + (at + 4 + length xs)

    calls : CallsAt G place keeps.routine 0 line
    calls = record { instruction = instr op.CALL (pos keeps.routine) 0 line; stands = stands.0 ∙ ap (λ i. Some i) (rw (referred number within) (keeps.placed (instr op.CALL (pos (type_reference number)) 0 line))); is_call = refl; names = refl; parent = refl; at_line = refl }

    tail : CodeStands G ps p references (at + 4 + length xs) (end_code line)
    tail = code_back G ps p references (at + 4) xs (end_code line) (subst (λ i. CodeStands G ps p references i (xs ++ end_code line)) {x = at + 1 + 1 + 1 + 1} {y = at + 4} (omega arith) stands.1.1.1.1)

    swaps : CallsAt G (middle + 1) swap.routine 0 line
    swaps =
        let there : p.instructions.before + (at + 4 + length xs + 1) ≡ middle + 1 = omega arith in
        record { instruction = instr op.CALL (pos swap.routine) 0 line; stands = sym (ap (λ i. slice_get G.instructions i) there) ∙ (tail.1.0 ∙ ap (λ i. Some i) (rw swap_referred (swap.placed (instr op.CALL (pos routine.SWAP) 0 line)))); is_call = refl; names = refl; parent = refl; at_line = refl }

    disposes : slice_get G.instructions (middle + 1 + 1) ≡ Some (bare line op.DISPOSE)
    disposes = subst (λ i. slice_get G.instructions i ≡ Some (bare line op.DISPOSE)) {x = p.instructions.before + (at + 4 + length xs + 1 + 1)} {y = middle + 1 + 1} (omega arith) tail.1.1.0

    new_stands : slice_get G.instructions (place + 1) ≡ Some (bare line op.NEW)
    new_stands = subst (λ i. slice_get G.instructions i ≡ Some (bare line op.NEW)) {x = p.instructions.before + (at + 1)} {y = place + 1} (omega arith) stands.1.0

    dup_stands : slice_get G.instructions (place + 1 + 1) ≡ Some (bare line op.DUP)
    dup_stands = subst (λ i. slice_get G.instructions i ≡ Some (bare line op.DUP)) {x = p.instructions.before + (at + 1 + 1)} {y = place + 1 + 1} (omega arith) stands.1.1.0

    deref_stands : slice_get G.instructions (place + 1 + 1 + 1) ≡ Some (bare line op.DEREF)
    deref_stands = subst (λ i. slice_get G.instructions i ≡ Some (bare line op.DEREF)) {x = p.instructions.before + (at + 1 + 1 + 1)} {y = place + 1 + 1 + 1} (omega arith) stands.1.1.1.0

    -- The components are given, and the value is taken, where the number of a variable of the type, but for initial states, is on top.
    -- Some of the steps for its words are left over.
    filled_follows : (spare : ℕ) → spare ≤ 40 * size_of (bare_of t) → (a : TypeValue) → bare_of a ≡ bare_of t → (injection : Injection) (memory : MachineMemory) (below : List Operand) (d : ℕ) → least_credit ≤ d → unit_in G memory.frames ≡ unit
        → (m : ℕ) (pushed : List Operand) → NamelessOnTop a below m injection memory pushed
        → Fragment layout G Here n (point injection memory (place + 1 + 1) pushed) (filled es m) (middle + 1 + 1 + 1) (λ r. Inside untouched injection memory (OnTop (kind.Structured (bare_of t)) below r)) (d + 63 + 62 * size_of a) (λ r. d + 8 + spare + weight_of r)
    filled_follows spare left a same injection memory below d enough home m pushed top =
        let u : TypeValue = bare_of t in
        let sizes : size_of u ≡ size_of a = ap size_of (sym same) ∙ bare_size a in
        let credit : ℕ = d + 63 + 62 * size_of a in
        let number_on : Operand = Word (pos top.segment) in
        let q : PlaceOf = place_of_whole top.segment top.content in
        let like : IsLike memory.types q.type_number u = (a, same, top.described) in
        let spot : IsSpot injection memory.types (whole m) q = record { is_in = top.is_in; root = u; is_of = subst (IsOf injection m) same top.is_of; type_value = u; leads = refl; described = like } in
        subst (λ st. Fragment layout G Here n (point injection memory (place + 1 + 1) st) (filled es m) (middle + 1 + 1 + 1) (λ r. Inside untouched injection memory (OnTop (kind.Structured u) below r)) credit (λ r. d + 8 + spare + weight_of r)) (sym top.is)
        (fragment_waits {d1 = credit - 1} (λ s matches. outcome_at G (bare line op.DUP) (place + 1 + 1) (number_on ∷ below) memory s.trace dup_stands) (omega arith)
        (fragment_waits {d1 = credit - 2} (λ s matches. deref_pushes G (place + 1 + 1 + 1) line (number_on ∷ below) top.segment top.content deref_stands top.above memory s.trace top.lives) (omega arith)
        (fragment_from {place = p.instructions.before + (at + 4)} (omega arith)
        (inside_bind {First = Bare (operand.Place q ∷ number_on ∷ below)} {e = λ _. credit - 2} (λ _. steady_taken call steady_call g unit line m) (follows injection memory (number_on ∷ below) (whole m) q (credit - 2) (omega (arith, enough)) home spot like)
        (λ _ v3 m3 pushed3 grown3 routine3 is3.
        subst (λ st. Fragment layout G Here n (point v3 m3 middle st) (taken call g unit line m) (middle + 1 + 1 + 1) (λ r. Inside untouched v3 m3 (OnTop (kind.Structured u) below r)) (credit - 2) (λ r. d + 8 + spare + weight_of r)) (sym is3)
        (fragment_credit {d = end_ticks u + (d + 8 + spare)} {e = λ r. d + 8 + spare + weight_of r} (omega (arith, sizes, left)) (λ r. omega arith)
        (taken_follows layout G untouched Here lasts line call g unit swap.routine swap.is middle m u structured tail.0 swaps disposes v3 m3 below q (unit_in-same G routine3 ∙ home) (is_spot-grown grown3 spot) (describes-grown q.type_number u grown3 like) top.numbered top.above n (d + 8 + spare))))))))

    -- All of it, with so much credit besides.
    pub structured_spares : (spare : ℕ) → spare ≤ 40 * size_of (bare_of t) → (injection : Injection) (memory : MachineMemory) (below : List Operand) (d : ℕ) → least_credit ≤ d → unit_in G memory.frames ≡ unit
        → Evaluates layout G untouched Here n injection memory place below (eval call g unit line (Structured number es)) (p.instructions.before + (at + length (begin_code line number ++ (xs ++ end_code line)))) (kind.Structured (bare_of t)) below d (d + 8 + spare)
    structured_spares spare left injection memory below d enough home =
        fragment_to {to = middle + 1 + 1 + 1} (omega (arith, length-append xs (end_code line)))
        (inside_bind {First = TypeOnTop t below} {e = λ a. d} (λ a. steady_bind (steady_begins_nameless a) (steady_filled es))
        (fragment_credit {d = 0} {e = λ a. type_credit} (omega arith) (λ a. omega arith) (type_follows lasts among place injection memory below (λ s. keeps.promise place line calls injection s memory below home)))
        (λ a v1 m1 pushed1 grown1 routine1 top.
        let same : bare_of a ≡ bare_of t = sym (bare_twice a) ∙ ap bare_of top.type_is in
        let valid : IsTypeValue a = value_bare a (subst IsTypeValue (sym top.type_is) (typed_value types (Named number []) t typed)) in
        subst (λ st. Fragment layout G Here n (point v1 m1 (place + 1) st) (bind (begins_nameless a) (filled es)) (middle + 1 + 1 + 1) (λ r. Inside untouched v1 m1 (OnTop (kind.Structured (bare_of t)) below r)) d (λ r. d + 8 + spare + weight_of r)) (sym top.is)
        (inside_bind {First = NamelessOnTop a below} {e = λ m. d + 63 + 62 * size_of a} (steady_filled es) (begins_follows layout G untouched Here lasts line n (place + 1) a top.number new_stands v1 m1 below d (omega (arith, enough)) top.described valid top.starts)
        (λ m v2 m2 pushed2 grown2 routine2 newest. filled_follows spare left a same v2 m2 below d enough (unit_in-same G routine2 ∙ (unit_in-same G routine1 ∙ home)) m pushed2 newest))))

    -- All of it.
    pub structured_follows : IsFollowed layout G untouched Here p call g unit n (kind.Structured (bare_of t)) (Structured number es) line at (begin_code line number ++ (xs ++ end_code line))
    structured_follows injection memory below d enough home =
        fragment_credit {d = d} {e = λ r. d + 8 + 0 + weight_of r} (omega arith) (λ r. omega arith) (structured_spares 0 (omega arith) injection memory below d enough home)
