-- The machine follows indexes of an array that are worked out, and what the components at them are given.
use Rattle.std.proofs.Common.{◌≡◌, ℕ, ℤ, pos, negsuc, suc, ◌+◌, ◌-◌, ◌*◌, ◌≤◌, ◌<◌, Bool, true, false, leb, ltb, IsTrue, List, [], ◌∷◌, ◌++◌, length, length-append, Option, Some, None, slice_get, refl, sym, ap, ◌∙◌, subst, arith}
use Rattle.std.proofs.lemmas.Bool.Decides.{nat_tests}
use Rattle.std.proofs.lemmas.Option.{same_Some}
use Rattle.std.specs.Prelude.{if◌then◌else◌, int_le}
use Rattle.ep_gen_code.specs.Instructions.{bare, instr}
use Rattle.ep_gen_code.specs.Referring.{AreArraysReferred, IsSwapReferred}
use Rattle.ep_gen_code.specs.declared.references.TheConstants as routine
use Rattle.ep_gen_code.proofs.public.Placed.{code_back, code_front, instr_at, jump_false_has, jump_has}
use Rattle.ep_gen_expr.proofs.public.Answering.{IsFollowed}
use Rattle.ep_gen_expr.proofs.public.FilledRanges.{Stored, first_given, holds_grown}
use Rattle.ep_gen_expr.proofs.public.SameFields.{swapped_follows}
use Rattle.ep_gen_expr.proofs.public.StructuredValues.{IsElementFollowed, element_credit}
use Rattle.ep_gen_expr.proofs.public.Stays.{spreads_length}
use Rattle.ep_gen_expr.specs.ExprCode.{drops_code, given_code, spread_code, spreads_code, tested_code}
use Rattle.ep_simulation.specs.Follows.{After, Bare, Facts, Follows, Fragment, Inside, IsNotLeft, Lands, Lasts, OnTop, PlaceOnTop, point}
use Rattle.ep_simulation.specs.Layouts.{Layout}
use Rattle.ep_simulation.specs.Matching.{Injection, IsLike, IsSpot, Matches, MachineMemory, Slots, at as standing}
use Rattle.ep_object.specs.Operands.{Operand, Word, weight}
use Rattle.ep_object.specs.Operands as operand
use Rattle.ep_object.specs.Placing.{CodeStands, Placement}
use Rattle.ep_simulation.specs.Promises.{ArrayRoutinesStand, CallsAt, FillStands, IsValueOf, SwapStands}
use Rattle.ep_object.specs.Runs.{outcome, unit_in}
use Rattle.ep_object.specs.State.{Running}
use Rattle.ep_object.specs.declared.code.Image.{Image}
use Rattle.ep_object.specs.declared.code.Instr.{Instr}
use Rattle.ep_object.specs.declared.code.Reference.{Reference}
use Rattle.ep_object.specs.declared.op.TheConstants as op
use Rattle.ep_object.specs.declared.state.Place.{Place as PlaceOf}
use Rattle.ep_simulation.proofs.public.following.Bind.{follows_bind, follows_counted, follows_credit, follows_from, follows_give, follows_post, follows_waits, follows_wider}
use Rattle.ep_simulation.proofs.public.following.Choices.{Finds, Misses, Reads, follows_fetched, fragment_branch, fragment_using}
use Rattle.ep_simulation.proofs.public.following.Filling.{FilledAt, among_every, fills_follow, gives_back}
use Rattle.ep_simulation.proofs.public.following.Fragments.{FailsWith, fragment_bind_number, fragment_credit, fragment_from, fragment_give, fragment_less, fragment_one, fragment_paid, fragment_to, fragment_waits, inside_bind}
use Rattle.ep_simulation.proofs.public.following.Promising.{grown_fewer, same_routine-fewer}
use Rattle.ep_simulation.proofs.public.following.Ranging.{range_follows, range_ticks}
use Rattle.ep_simulation.proofs.public.following.Spreading.{spread_follows, spread_ticks}
use Rattle.ep_simulation.proofs.public.following.Swapping.{swap_ticks}
use Rattle.ep_simulation.proofs.public.matching.Awaiting.{on_top, value-grown, value_on_top, value_weight}
use Rattle.ep_simulation.proofs.public.matching.MoreMemory.{describes-grown, grown_refl, inside_here, inside_later, is_spot-grown, not_left-here, not_left-later, same_routine-refl, still_routine, unit_in-same}
use Rattle.ep_simulation.proofs.public.matching.Indexes.{integer_between, range_inside}
use Rattle.ep_simulation.proofs.public.rows.IndexRow.{index_fails, index_reads, number_is}
use Rattle.ep_simulation.proofs.public.rows.NamelessRows.{matches_depth}
use Rattle.ep_simulation.proofs.public.rows.Rows.{jump_false_jumps, jump_jumps, outcome_at}
use Rattle.ep_meaning.proofs.public.Steady.{steady_bind, steady_change, steady_eval, steady_fills_all, steady_give, steady_given, steady_given_at, steady_given_each, steady_given_from, steady_located, steady_ranging, steady_spend, grows_depth}
use Rattle.ep_values.specs.Bounds.{below, component_at, count_of, gap, one_more}
use Rattle.ep_meaning.specs.Calls.{Handler}
use Rattle.ep_values.specs.Events.{Trace}
use Rattle.ep_typed.specs.Hosts.{Host}
use Rattle.ep_meaning.specs.Meaning.{eval, given, given_at, given_each, indexes, located, ranging}
use Rattle.ep_meaning.specs.Nameless.{fills_all, with_depth}
use Rattle.ep_typed.specs.Nodes.{designators_count}
use Rattle.ep_values.specs.Operations.{is_integer, ordinal_of}
use Rattle.ep_values.specs.Printing.{Result, number_of}
use Rattle.ep_meaning.specs.Results.{suits, value_of, weight_of}
use Rattle.ep_meaning.specs.Steady.{IsSteadyHandler, Steady}
use Rattle.ep_meaning.specs.Steps.{Component, Computation, bind, change, component, component_number, give, has_ended, spend, type_at, value_at}
use Rattle.ep_meaning.specs.Steps as meaning
use Rattle.ep_typed.specs.Trees.{AtIndexes, Designator, Designators, Expr, Range, Single, next_member, no_member}
use Rattle.ep_values.specs.TypeValues.{TypeValue}
use Rattle.ep_values.specs.TypeValues as type
use Rattle.ep_meaning.specs.Valid.{Declarations, IsTypeOfKind, ValueKind, Ordinal}
use Rattle.ep_values.specs.declared.run_error.TheConstants as run_error
use Rattle.ep_typed.specs.declared.tree.CaseRange.{CaseRange}
use Rattle.std.proofs.lemmas.Option.{cond_some}

-- what is so far above a bound is not below it
gap_order : (low z : ℤ) (i : ℕ) → gap low z ≡ Some i → int_le low z ≡ true
gap_order (pos a) (pos b) i h = let x = cond_some (leb a b) (b - a) i h in x.0
gap_order (pos a) (negsuc b) i h = cc
gap_order (negsuc a) (pos b) i h = refl
gap_order (negsuc a) (negsuc b) i h = let x = cond_some (leb b a) (a - b) i h in x.0

-- and not above what is further
gap_nearest : (low z high : ℤ) (i m : ℕ) → gap low z ≡ Some i → gap low high ≡ Some m → i ≤ m → int_le z high ≡ true
gap_nearest (pos a) (pos b) (pos c) i m h k le =
    let x = cond_some (leb a b) (b - a) i h in
    let y = cond_some (leb a c) (c - a) m k in
    grind (arith, nat_tests, x.0, x.1, y.0, y.1, le)
gap_nearest (pos a) (pos b) (negsuc c) i m h k le = cc
gap_nearest (pos a) (negsuc b) high i m h k le = cc
gap_nearest (negsuc a) (pos b) (pos c) i m h k le =
    let x : suc a + b ≡ i = same_Some (suc a + b) i h in
    let y : suc a + c ≡ m = same_Some (suc a + c) m k in
    grind (arith, nat_tests, x, y, le)
gap_nearest (negsuc a) (pos b) (negsuc c) i m h k le =
    let x : suc a + b ≡ i = same_Some (suc a + b) i h in
    let y = cond_some (leb c a) (a - c) m k in
    absurd (omega (arith, x, y.1, le))
gap_nearest (negsuc a) (negsuc b) (pos c) i m h k le = refl
gap_nearest (negsuc a) (negsuc b) (negsuc c) i m h k le =
    let x = cond_some (leb b a) (a - b) i h in
    let y = cond_some (leb c a) (a - c) m k in
    grind (arith, nat_tests, x.0, x.1, y.0, y.1, le)

-- an index lies in the bounds where the array has its component
index_within : (low high z : ℤ) (k : ℕ) → component_at low high z ≡ Some k → IsTrue (int_le low z) × IsTrue (int_le z high)
index_within low high z k h = by_gap (gap low z) refl h
  where
    by_count : (i : ℕ) (o : Option ℕ) → gap low z ≡ Some i → gap low high ≡ o → i < one_more o → IsTrue (int_le z high)
    by_count i None near far less = absurd (omega (arith, less))
    by_count i (Some m) near far less = gap_nearest low z high i m near far (omega (arith, less))

    by_gap : (o : Option ℕ) → gap low z ≡ o → below (count_of low high) o ≡ Some k → IsTrue (int_le low z) × IsTrue (int_le z high)
    by_gap None near there = cc
    by_gap (Some i) near there =
        let x = cond_some (ltb i (count_of low high)) i k there in
        let less : i < count_of low high = grind (arith, nat_tests, x.0) in
        (gap_order low z i near, by_count i (gap low high) near refl less)

module _ (layout : Layout) (G : Image) (untouched : Slots) (Here : Facts) (p : Placement) (call : Handler) (g : ℕ) (unit : List ℕ) (line n : ℕ) (low high : ℤ) (of : TypeValue) where
  -- The indexes of a range are below the place of the array, which has both.
  pub record RangeBelow (q : PlaceOf) (rest : List Operand) (range : CaseRange) (injection : Injection) (memory : MachineMemory) (operands : List Operand) : Type 0 where
    pub first : ℕ
    pub at_first : component_at low high range.low ≡ Some first
    pub last : ℕ
    pub at_last : component_at low high range.high ≡ Some last
    pub is : operands ≡ operand.Place q ∷ Word range.high ∷ Word range.low ∷ rest

  -- From each memory of a routine of the unit, with the place of a variable of the array type on top, the machine follows the indexes
  -- of a range through this code, and leaves them below the place.
  abbrev pub IsRangeFollowed : Designator → ℕ → List Instr → Type 0
  IsRangeFollowed r at code =
      (injection : Injection) (memory : MachineMemory) (rest : List Operand) (a : Component) (q : PlaceOf) (d : ℕ) → element_credit ≤ d → unit_in G memory.frames ≡ unit
      → IsSpot injection memory.types a q → IsLike memory.types q.type_number (type.Array low high of)
      → Fragment layout G Here n (point injection memory (p.instructions.before + at) (operand.Place q ∷ rest)) (indexes call g unit line a r) (p.instructions.before + (at + length code)) (λ range. Inside untouched injection memory (RangeBelow q rest range)) d (λ range. d)

  -- so with those of ranges, in order
  abbrev pub AreRangesFollowed : Designators → ℕ → List Instr → Type 0
  AreRangesFollowed no_member at code = code ≡ []
  AreRangesFollowed (next_member r more) at code = (xs ys : List Instr) × IsRangeFollowed r at xs × AreRangesFollowed more (at + length xs) ys × (code ≡ xs ++ ys)

module _ (declared : Declarations) (layout : Layout) (G : Image) (untouched : Slots) (Here : Facts) (lasts : Lasts untouched Here) (ps : List Placement) (p : Placement) (references : List Reference) (call : Handler) (steady_call : IsSteadyHandler call) (g : ℕ) (unit : List ℕ) (line n : ℕ)
    (room : p.instructions.before + p.instructions.own ≤ length G.instructions)
    (swap : SwapStands G ps unit declared.first_private) (swap_referred : IsSwapReferred declared unit references)
    (arrays : ArrayRoutinesStand G ps unit declared.first_private) (arrays_referred : AreArraysReferred declared unit references)
    (low high : ℤ) (small : IsTrue (is_integer low)) (large : IsTrue (is_integer high)) (of : TypeValue) (k : ValueKind) (of_kind : IsTypeOfKind k of) where
  abbrev pub array : TypeValue
  array = type.Array low high of

  -- ---- one index

  -- `Index` has found the component with an index, whose place is on top
  record Located (z : ℤ) (below : List Operand) (a c : Component) (injection : Injection) (memory : MachineMemory) (operands : List Operand) : Type 0 where
    number : ℕ
    at_number : component_at low high z ≡ Some number
    is_component : c ≡ component a number
    top : PlaceOnTop of below c injection memory operands

  located_follows : (place : ℕ) → slice_get G.instructions place ≡ Some (bare line op.INDEX) → (z : ℤ) (injection : Injection) (memory : MachineMemory) (below : List Operand) (a : Component) (q : PlaceOf) (d d1 : ℕ) → 1 + d1 ≤ d → unit_in G memory.frames ≡ unit
      → IsSpot injection memory.types a q → IsLike memory.types q.type_number array
      → Fragment layout G Here n (point injection memory place (Word z ∷ operand.Place q ∷ below)) (located call g unit line a z) (place + 1) (λ c. Inside untouched injection memory (Located z below a c)) d (λ c. d1)
  located_follows place has z injection memory below a q d d1 enough home spot described =
      fragment_using {e = λ c. d1} a.allocation
      (λ s matches ended. subst (λ u. FailsWith G (standing place (Word z ∷ operand.Place q ∷ below) memory s.trace) 0 run_error.DISPOSED u line s) home (index_fails layout G place line below low high of z a q has injection memory spot described s matches ended)) (omega (arith, enough))
      (λ s matches known living. follows_fetched {d1 = d1} (point injection memory place (Word z ∷ operand.Place q ∷ below)) (λ t. component_number (type_at a t) z) (λ i. component a i) s
      (subst (λ u. Reads layout G Here (standing place (Word z ∷ operand.Place q ∷ below) memory s.trace) run_error.INDEX u line (place + 1) (λ i. Inside untouched injection memory (Located z below a (component a i))) s (component_number (type_at a s) z)) home
      (finds s (component_number (type_at a s) z) (number_is layout G place line below low high of z a q has injection memory spot described s matches living) (index_reads layout G place line below low high of z a q has injection memory spot described s matches living known)))
      (omega (arith, enough)))
    where
      finds : (s : meaning.State) (o : Option ℕ) → o ≡ component_at low high z
          → Reads layout G Here (standing place (Word z ∷ operand.Place q ∷ below) memory s.trace) run_error.INDEX (unit_in G memory.frames) line (place + 1) (λ i. Inside untouched injection memory (PlaceOnTop of below (component a i))) s o
          → Reads layout G Here (standing place (Word z ∷ operand.Place q ∷ below) memory s.trace) run_error.INDEX (unit_in G memory.frames) line (place + 1) (λ i. Inside untouched injection memory (Located z below a (component a i))) s o
      finds s o same (Misses is fails) = Misses is fails
      finds s o same (Finds i is x) =
          let post = x.post in
          Finds i is (record {
            injection = x.injection;
            memory = x.memory;
            operands = x.operands;
            does = x.does;
            matches = x.matches;
            here = x.here;
            post = record { grown = post.grown; routine = post.routine; operands_are = record { number = i; at_number = sym same ∙ is; is_component = refl; top = post.operands_are } };
          })

  -- ---- the indexes of a range

  -- the call that leaves what tests them
  ranged_follows : {A : Type 0} {c : Computation A} {to : ℕ} {P : A → After} {e : A → ℕ} (place : ℕ) → (let r = arrays.range in CallsAt G place r.routine 0 line) → (injection : Injection) (memory : MachineMemory) (q : PlaceOf) (from upto : ℤ) (below : List Operand) (d : ℕ) → Steady c
      → Fragment layout G Here n (point injection memory (place + 1) (Word from ∷ operand.Place q ∷ Word upto ∷ operand.Place q ∷ operand.Place q ∷ Word upto ∷ Word from ∷ below)) c to P d e
      → Fragment layout G Here n (point injection memory place (Word upto ∷ Word from ∷ operand.Place q ∷ below)) (bind (change with_depth) (λ _. c)) to P (range_ticks + d) e
  ranged_follows place calls injection memory q from upto below d steady next =
      record {
        by = λ s matches here.
            let deep = lasts.by injection injection s (with_depth s) memory memory (record { grown = grown_refl injection memory; routine = same_routine-refl memory.frames; own = λ j. refl; calls = refl }) here in
            let r = arrays.range in
            follows_counted with_depth (range_follows G r.routine r.is place line calls q from upto below memory s.trace s refl steady (omega (arith, matches.depth)) (λ l stays. stays) (next.by (with_depth s) (matches_depth matches) deep));
      }

  module _ (at : ℕ) (stands : CodeStands G ps p references at (tested_code line)) where
    abbrev to_call : ℕ
    to_call = p.instructions.before + at

    range_called : (let r = arrays.range in CallsAt G to_call r.routine 0 line)
    range_called =
        let r = arrays.range in
        record { instruction = instr op.CALL (pos r.routine) 0 line; stands = stands.0 ∙ ap (λ i. Some i) (rw arrays_referred.range (r.placed (instr op.CALL (pos routine.RANGE) 0 line))); is_call = refl; names = refl; parent = refl; at_line = refl }

    first_test : slice_get G.instructions (to_call + 1) ≡ Some (bare line op.INDEX)
    first_test = instr_at G (omega arith) stands.1.0

    first_drop : slice_get G.instructions (to_call + 1 + 1) ≡ Some (bare line op.DROP)
    first_drop = instr_at G (omega arith) stands.1.1.0

    second_test : slice_get G.instructions (to_call + 1 + 1 + 1) ≡ Some (bare line op.INDEX)
    second_test = instr_at G (omega arith) stands.1.1.1.0

    second_drop : slice_get G.instructions (to_call + 1 + 1 + 1 + 1) ≡ Some (bare line op.DROP)
    second_drop = instr_at G (omega arith) stands.1.1.1.1.0

    -- Both indexes are tested.
    ranging_follows : (injection : Injection) (memory : MachineMemory) (rest : List Operand) (a : Component) (q : PlaceOf) (from upto : ℤ) (d : ℕ) → 16 ≤ d → unit_in G memory.frames ≡ unit
        → IsSpot injection memory.types a q → IsLike memory.types q.type_number array
        → Fragment layout G Here n (point injection memory to_call (Word upto ∷ Word from ∷ operand.Place q ∷ rest)) (ranging call g unit line a from upto) (p.instructions.before + (at + 5)) (λ range. Inside untouched injection memory (RangeBelow layout G untouched Here p call g unit line n low high of q rest range)) d (λ range. d + 40)
    ranging_follows injection memory rest a q from upto d enough home spot described =
        fragment_credit {d = range_ticks + (d - range_ticks)} {e = λ range. d + 40} (omega (arith, enough)) (λ range. omega (arith, enough))
        (ranged_follows to_call range_called injection memory q from upto rest (d - range_ticks)
        (steady_bind (steady_located call steady_call g unit line a from) (λ _. steady_bind (steady_located call steady_call g unit line a upto) (λ _. steady_spend 1 (steady_give range))))
        (inside_bind {First = Located from (Word upto ∷ operand.Place q ∷ operand.Place q ∷ Word upto ∷ Word from ∷ rest) a} {e = λ c. d - 12}
        (λ _. steady_bind (steady_located call steady_call g unit line a upto) (λ _. steady_spend 1 (steady_give range)))
        (located_follows (to_call + 1) first_test from injection memory (Word upto ∷ operand.Place q ∷ operand.Place q ∷ Word upto ∷ Word from ∷ rest) a q (d - range_ticks) (d - 12) (omega (arith, enough)) home spot described)
        (λ c v1 m1 pushed1 grown1 routine1 one.
        let top1 = one.top in
        subst (λ st. Fragment layout G Here n (point v1 m1 (to_call + 1 + 1) st) (bind (located call g unit line a upto) (λ _. spend 1 (give range))) (p.instructions.before + (at + 5)) (λ r. Inside untouched v1 m1 (RangeBelow layout G untouched Here p call g unit line n low high of q rest r)) (d - 12) (λ r. d + 40)) (sym top1.is)
        (fragment_waits {d1 = d - 13} (λ s matches. outcome_at G (bare line op.DROP) (to_call + 1 + 1) (operand.Place top1.place ∷ Word upto ∷ operand.Place q ∷ operand.Place q ∷ Word upto ∷ Word from ∷ rest) m1 s.trace first_drop) (omega (arith, enough))
        (inside_bind {First = Located upto (operand.Place q ∷ Word upto ∷ Word from ∷ rest) a} {e = λ c. d - 14} (λ _. steady_spend 1 (steady_give range))
        (located_follows (to_call + 1 + 1 + 1) second_test upto v1 m1 (operand.Place q ∷ Word upto ∷ Word from ∷ rest) a q (d - 13) (d - 14) (omega (arith, enough)) (unit_in-same G routine1 ∙ home) (is_spot-grown grown1 spot) (describes-grown q.type_number array grown1 described))
        (λ b v2 m2 pushed2 grown2 routine2 two.
        let top2 = two.top in
        subst (λ st. Fragment layout G Here n (point v2 m2 (to_call + 1 + 1 + 1 + 1) st) (spend 1 (give range)) (p.instructions.before + (at + 5)) (λ r. Inside untouched v2 m2 (RangeBelow layout G untouched Here p call g unit line n low high of q rest r)) (d - 14) (λ r. d + 40)) (sym top2.is)
        (fragment_to {to = to_call + 1 + 1 + 1 + 1 + 1} (omega arith)
        (fragment_less {n = suc n} (omega arith)
        (fragment_one {d1 = d + 40} (λ s matches. outcome_at G (bare line op.DROP) (to_call + 1 + 1 + 1 + 1) (operand.Place top2.place ∷ operand.Place q ∷ Word upto ∷ Word from ∷ rest) m2 s.trace second_drop) (omega (arith, enough))
        (fragment_give (omega arith) (inside_here (record { first = one.number; at_first = one.at_number; last = two.number; at_last = two.at_number; is = refl }))))))))))))
      where
        range : CaseRange
        range = record { low = from; high = upto }

  -- an index alone, which is both the first and the last one
  pub single_follows : (h : Host) (x : Expr) (at : ℕ) (xs : List Instr) → IsFollowed layout G untouched Here p call g unit n (Ordinal h) x line at xs → CodeStands G ps p references at (xs ++ bare line op.DUP ∷ tested_code line)
      → IsRangeFollowed layout G untouched Here p call g unit line n low high of (Single x) at (xs ++ bare line op.DUP ∷ tested_code line)
  single_follows h x at xs follows stands injection memory rest a q d enough home spot described =
      let behind = code_back G ps p references at xs (bare line op.DUP ∷ tested_code line) stands in
      let place : ℕ = p.instructions.before + (at + length xs) in
      fragment_to {to = p.instructions.before + (at + length xs + 1 + 5)} (omega (arith, length-append xs (bare line op.DUP ∷ tested_code line)))
      (fragment_bind_number {host = h} {e = λ r. d + 8 + weight_of r} (λ z. steady_ranging call steady_call g unit line a (number_of z) (number_of z))
      (follows injection memory (operand.Place q ∷ rest) d (omega (arith, enough)) home) (λ z v1 m1 of_z grown1 routine1.
      fragment_waits {d1 = d + 7} (λ s matches. outcome_at G (bare line op.DUP) place (Word z ∷ operand.Place q ∷ rest) m1 s.trace behind.0) (omega arith)
      (fragment_from {place = p.instructions.before + (at + length xs + 1)} (omega arith)
      (fragment_credit {d = d + 7} {e = λ r. d + 7 + 40} (omega arith) (λ r. omega arith)
      (ranging_follows (at + length xs + 1) behind.1 v1 m1 rest a q z z (d + 7) (omega (arith, enough)) (unit_in-same G routine1 ∙ home) (is_spot-grown grown1 spot) (describes-grown q.type_number array grown1 described))))))

  -- the first and the last one
  pub pair_follows : (h : Host) (x y : Expr) (at : ℕ) (xs ys : List Instr) → IsFollowed layout G untouched Here p call g unit n (Ordinal h) x line at xs → IsFollowed layout G untouched Here p call g unit n (Ordinal h) y line (at + length xs) ys
      → CodeStands G ps p references at (xs ++ (ys ++ tested_code line))
      → IsRangeFollowed layout G untouched Here p call g unit line n low high of (Range x y) at (xs ++ (ys ++ tested_code line))
  pair_follows h x y at xs ys first second stands injection memory rest a q d enough home spot described =
      let behind = code_back G ps p references (at + length xs) ys (tested_code line) (code_back G ps p references at xs (ys ++ tested_code line) stands) in
      fragment_to {to = p.instructions.before + (at + length xs + length ys + 5)} (omega (arith, length-append xs (ys ++ tested_code line), length-append ys (tested_code line)))
      (fragment_bind_number {host = h} {e = λ r. d + 8 + weight_of r} (λ b. steady_bind (steady_eval call steady_call g unit line y) (λ c. steady_ranging call steady_call g unit line a (number_of b) (number_of c)))
      (first injection memory (operand.Place q ∷ rest) d (omega (arith, enough)) home) (λ z v1 m1 of_z grown1 routine1.
      fragment_credit {d = d + 8} {e = λ r. d} (omega arith) (λ r. omega arith)
      (fragment_bind_number {host = h} {e = λ r. d + 8 + 8 + weight_of r} (λ c. steady_ranging call steady_call g unit line a z (number_of c))
      (second v1 m1 (Word z ∷ operand.Place q ∷ rest) (d + 8) (omega (arith, enough)) (unit_in-same G routine1 ∙ home)) (λ w v2 m2 of_w grown2 routine2.
      fragment_credit {d = d + 16} {e = λ r. d + 16 + 40} (omega arith) (λ r. omega arith)
      (ranging_follows (at + length xs + length ys) behind v2 m2 rest a q z w (d + 16) (omega (arith, enough)) (unit_in-same G routine2 ∙ (unit_in-same G routine1 ∙ home)) (is_spot-grown grown2 (is_spot-grown grown1 spot)) (describes-grown q.type_number array grown2 (describes-grown q.type_number array grown1 described)))))))

  -- ---- a value for the components with the indexes of a range

  -- the call that leaves what they are given by
  spreading_follows : {A : Type 0} {c : Computation A} {to : ℕ} {P : A → After} {e : A → ℕ} (place : ℕ) → (let r = arrays.spread in CallsAt G place r.routine 0 line) → (injection : Injection) (memory : MachineMemory) (q : PlaceOf) (from upto : ℤ) (o : Operand) (below : List Operand) (d : ℕ) → Steady c
      → Fragment layout G Here n (point injection memory (place + 1) (Word (ordinal_of (int_le from upto)) ∷ Word from ∷ operand.Place q ∷ o ∷ Word upto ∷ Word from ∷ Word from ∷ operand.Place q ∷ o ∷ operand.Place q ∷ below)) c to P d e
      → Fragment layout G Here n (point injection memory place (o ∷ o ∷ operand.Place q ∷ Word upto ∷ Word from ∷ below)) (bind (change with_depth) (λ _. c)) to P (spread_ticks (weight o) + d) e
  spreading_follows place calls injection memory q from upto o below d steady next =
      record {
        by = λ s matches here.
            let deep = lasts.by injection injection s (with_depth s) memory memory (record { grown = grown_refl injection memory; routine = same_routine-refl memory.frames; own = λ j. refl; calls = refl }) here in
            let r = arrays.spread in
            follows_counted with_depth (spread_follows G r.routine r.is place line calls from upto q o below memory s.trace s refl steady (omega (arith, matches.depth)) (λ l stays. stays) (next.by (with_depth s) (matches_depth matches) deep));
      }

  module _ (at : ℕ) (inside : at + 15 < p.instructions.own) (stands : CodeStands G ps p references at (spread_code line at)) (from upto : ℤ) (f l : ℕ) (at_first : component_at low high from ≡ Some f) (at_last : component_at low high upto ≡ Some l) where
    abbrev place : ℕ
    place = p.instructions.before + at

    -- where the first component is found, and where the instructions behind the last component are
    abbrev to_find : ℕ
    to_find = place + 1 + 1 + 1

    abbrev skipped : ℕ
    skipped = to_find + 1 + 1 + 1 + 1 + 1

    abbrev end : ℕ
    end = p.instructions.before + (at + 15)

    abbrev range : CaseRange
    range = record { low = from; high = upto }

    doubles : slice_get G.instructions place ≡ Some (bare line op.DUP)
    doubles = stands.0

    spread_called : (let r = arrays.spread in CallsAt G (place + 1) r.routine 0 line)
    spread_called =
        let r = arrays.spread in
        record { instruction = instr op.CALL (pos r.routine) 0 line; stands = instr_at G (omega arith) stands.1.0 ∙ ap (λ i. Some i) (rw arrays_referred.spread (r.placed (instr op.CALL (pos routine.SPREAD) 0 line))); is_call = refl; names = refl; parent = refl; at_line = refl }

    tests : slice_get G.instructions (place + 1 + 1) ≡ Some (instr op.JUMP_FALSE (pos (p.instructions.before + (at + 8))) 0 line)
    tests = instr_at G (omega arith) (jump_false_has G ps p references line (at + 1 + 1) (at + 8) (given_code line ++ instr op.JUMP (pos (at + 15)) 0 line ∷ drops_code line 7) (omega (arith, inside)) stands.1.1)

    finds_it : slice_get G.instructions to_find ≡ Some (bare line op.INDEX)
    finds_it = instr_at G (omega arith) stands.1.1.1.0

    swap_called : CallsAt G (to_find + 1) swap.routine 0 line
    swap_called =
        record { instruction = instr op.CALL (pos swap.routine) 0 line; stands = instr_at G (omega arith) stands.1.1.1.1.0 ∙ ap (λ i. Some i) (rw swap_referred (swap.placed (instr op.CALL (pos routine.SWAP) 0 line))); is_call = refl; names = refl; parent = refl; at_line = refl }

    stores : slice_get G.instructions (to_find + 1 + 1) ≡ Some (bare line op.STORE)
    stores = instr_at G (omega arith) stands.1.1.1.1.1.0

    fill_called : (let r = arrays.fill in CallsAt G (to_find + 1 + 1 + 1) r.routine 0 line)
    fill_called =
        let r = arrays.fill in
        record { instruction = instr op.CALL (pos r.routine) 0 line; stands = instr_at G (omega arith) stands.1.1.1.1.1.1.0 ∙ ap (λ i. Some i) (rw arrays_referred.fill (r.placed (instr op.CALL (pos routine.FILL) 0 line))); is_call = refl; names = refl; parent = refl; at_line = refl }

    leads_out : slice_get G.instructions (to_find + 1 + 1 + 1 + 1) ≡ Some (instr op.JUMP (pos end) 0 line)
    leads_out = instr_at G (omega arith) (jump_has G ps p references line (at + 1 + 1 + 1 + 1 + 1 + 1 + 1) (at + 15) (drops_code line 7) inside stands.1.1.1.1.1.1.1)

    drops : CodeStands G ps p references (at + 1 + 1 + 1 + 1 + 1 + 1 + 1 + 1) (drops_code line 7)
    drops = stands.1.1.1.1.1.1.1.1

    first_within : IsTrue (int_le low from) × IsTrue (int_le from high)
    first_within = index_within low high from f at_first

    last_within : IsTrue (int_le low upto) × IsTrue (int_le upto high)
    last_within = index_within low high upto l at_last

    module _ (ordered : int_le from upto ≡ true) (r : Result) (o : Operand) (a : Component) (q : PlaceOf) (rest : List Operand) where
      -- the array and the value, which stay
      abbrev kept : List Operand
      kept = o ∷ operand.Place q ∷ rest

      abbrev row : List Operand
      row = Word upto ∷ Word from ∷ Word from ∷ operand.Place q ∷ kept

      -- The components have what the first one has.
      filled_follows : (injection : Injection) (memory : MachineMemory) → IsValueOf injection memory k r o → IsSpot injection memory.types a q → IsLike memory.types q.type_number array
          → suits (Some of) r ≡ true → (s : meaning.State) → Matches layout G injection s memory → Here injection s memory → has_ended a.allocation s ≡ false → value_at (component a f) s ≡ value_of r → (d : ℕ) → 1 ≤ d
          → Follows (λ l. IsNotLeft memory.frames l.frames) G n (standing (to_find + 1 + 1 + 1) row memory s.trace) s (fills_all a r (range ∷ [])) (λ u. Lands layout G Here end (Inside untouched injection memory (Bare kept u))) d (λ u. d)
      filled_follows injection memory value spot described suited s matches here living has d enough =
          follows_bind {P = λ u. FilledAt layout G a f (value_of r) injection s memory (to_find + 1 + 1 + 1 + 1) kept} {e = λ u. 20 + (d - 1)} (λ u. steady_give tt)
          (follows_credit {d = 1 + (d - 1)} {e = λ u. 20 + (d - 1)} (omega (arith, enough)) (λ u. omega (arith, enough))
          (fills_follow layout G fill.routine fill.is (to_find + 1 + 1 + 1) line fill_called low high of k of_kind a q from from upto f at_first r suited (gives_back k of of_kind injection memory r o value) injection memory o value spot described kept s matches living has n (d - 1) between.0 between.1 between.2 between.3 between.4
          (integer_between low high from small large first_within.0 first_within.1) (integer_between low high upto small large last_within.0 last_within.1)))
          (λ u t l filled_at.
          let filled = filled_at.filled in
          let since = filled.since in
          let grown = grown_fewer {fewer = untouched} among_every since.grown in
          let routine = same_routine-fewer {fewer = untouched} among_every since.routine in
          follows_from filled_at.is
          (follows_credit {d = 1 + (18 + d)} {e = λ w. d} (omega (arith, enough)) (λ w. omega (arith, enough))
          (follows_waits (not_left-later (still_routine routine) (not_left-here (let m = filled_at.after in m.frames))) (jump_jumps G (to_find + 1 + 1 + 1 + 1) line kept end inside_image leads_out filled_at.after t.trace)
          (follows_give tt (omega arith) (record { injection = filled_at.longer; memory = filled_at.after; operands = kept; is = refl; matches = filled.matches; here = holds_grown lasts since here; post = record { grown = grown; routine = routine; operands_are = refl } })))))
        where
          fill : FillStands G ps unit declared.first_private
          fill = arrays.fill

          between : (b left : ℕ) × (gap low from ≡ Some b) × (gap from upto ≡ Some left) × (b + left < count_of low high)
          between = range_inside low high from upto first_within.0 ordered last_within.1

          inside_image : end < length G.instructions
          inside_image = omega (arith, inside, room)

      -- The first one is given the value, and then all of them have it.
      stored_follows : (injection : Injection) (memory : MachineMemory) (t : PlaceOf) → IsValueOf injection memory k r o → unit_in G memory.frames ≡ unit
          → IsSpot injection memory.types a q → IsLike memory.types q.type_number array → IsSpot injection memory.types (component a f) t → IsLike memory.types t.type_number of → (d : ℕ) → 1 ≤ d
          → Fragment layout G Here n (point injection memory (to_find + 1 + 1) (o ∷ operand.Place t ∷ row)) (bind (given call g unit line (component a f) r) (λ _. fills_all a r (range ∷ []))) end (λ u. Inside untouched injection memory (Bare kept u)) (d + 1 + weight_of r) (λ u. d)
      stored_follows injection memory t value home spot described spot_t described_t d enough =
          record {
            by = λ s matches here.
                follows_bind {P = λ u. Stored declared layout G untouched Here lasts ps p references call steady_call g unit line n arrays.fill arrays_referred.fill low high small large of k of_kind injection memory a f r row (to_find + 1 + 1 + 1)} {e = λ u. d} (λ u. steady_fills_all a r (range ∷ []))
                (first_given declared layout G untouched Here lasts ps p references call steady_call g unit line n arrays.fill arrays_referred.fill low high small large of k of_kind a f t row r o (to_find + 1 + 1) stores injection memory value home spot_t described_t s matches here d)
                (λ u t2 l stored.
                let lands = stored.lands in
                let post = lands.post in
                follows_from lands.is
                (subst (λ st. Follows (λ m. IsNotLeft memory.frames m.frames) G n (standing (to_find + 1 + 1 + 1) st lands.memory t2.trace) t2 (fills_all a r (range ∷ [])) (λ w. Lands layout G Here end (Inside untouched injection memory (Bare kept w))) d (λ w. d)) (sym post.operands_are)
                (follows_wider (λ m stays. not_left-later (still_routine post.routine) stays)
                (follows_post (λ w t3 l3 final. record { injection = final.injection; memory = final.memory; operands = final.operands; is = final.is; matches = final.matches; here = final.here; post = inside_later post.grown post.routine final.post })
                (filled_follows lands.injection lands.memory (value-grown k r o post.grown value) (is_spot-grown post.grown spot) (describes-grown q.type_number array post.grown described) stored.suited t2 lands.matches lands.here stored.living stored.has d enough)))));
          }

      -- where there are some
      some_follow : (injection : Injection) (memory : MachineMemory) → IsValueOf injection memory k r o → unit_in G memory.frames ≡ unit
          → IsSpot injection memory.types a q → IsLike memory.types q.type_number array → (d : ℕ) → 8 + 3 * weight_of r ≤ d
          → Fragment layout G Here n (point injection memory to_find (Word from ∷ operand.Place q ∷ o ∷ row)) (bind (located call g unit line a from) (λ c. bind (change with_depth) (λ _. bind (given call g unit line c r) (λ _. fills_all a r (range ∷ []))))) end (λ u. Inside untouched injection memory (Bare kept u)) d (λ u. d - (7 + 3 * weight_of r))
      some_follow injection memory value home spot described d enough =
          inside_bind {First = Located from (o ∷ row) a} {e = λ c. d - 1} (λ c. steady_bind (steady_change grows_depth) (λ _. steady_bind (steady_given call steady_call g unit line c r) (λ _. steady_fills_all a r (range ∷ []))))
          (located_follows to_find finds_it from injection memory (o ∷ row) a q d (d - 1) (omega (arith, enough)) home spot described)
          (λ c v1 m1 pushed grown routine one.
          let top = one.top in
          let same : c ≡ component a f = one.is_component ∙ ap (component a) (same_Some one.number f (sym one.at_number ∙ at_first)) in
          let spot_t : IsSpot v1 m1.types (component a f) top.place = subst (λ b. IsSpot v1 m1.types b top.place) same top.spot in
          subst (λ b. Fragment layout G Here n (point v1 m1 (to_find + 1) pushed) (bind (change with_depth) (λ _. bind (given call g unit line b r) (λ _. fills_all a r (range ∷ [])))) end (λ u. Inside untouched v1 m1 (Bare kept u)) (d - 1) (λ u. d - (7 + 3 * weight_of r))) (sym same)
          (subst (λ st. Fragment layout G Here n (point v1 m1 (to_find + 1) st) (bind (change with_depth) (λ _. bind (given call g unit line (component a f) r) (λ _. fills_all a r (range ∷ [])))) end (λ u. Inside untouched v1 m1 (Bare kept u)) (d - 1) (λ u. d - (7 + 3 * weight_of r))) (sym top.is)
          (fragment_credit {d = swap_ticks o (operand.Place top.place) + (d - (7 + 3 * weight_of r) + 1 + weight_of r)} {e = λ u. d - (7 + 3 * weight_of r)} (omega (arith, enough, value_weight injection memory k r o value)) (λ u. omega (arith, enough, value_weight injection memory k r o value))
          (swapped_follows declared layout G untouched Here lasts ps p references call steady_call g unit line n swap swap_referred (to_find + 1) swap_called v1 m1 o (operand.Place top.place) row (d - (7 + 3 * weight_of r) + 1 + weight_of r)
          (steady_bind (steady_given call steady_call g unit line (component a f) r) (λ _. steady_fills_all a r (range ∷ [])))
          (stored_follows v1 m1 top.place (value-grown k r o grown value) (unit_in-same G routine ∙ home) (is_spot-grown grown spot) (describes-grown q.type_number array grown described) spot_t top.described (d - (7 + 3 * weight_of r)) (omega (arith, enough)))))))

    -- where there are none
    none_follow : (o : Operand) (q : PlaceOf) (rest : List Operand) (injection : Injection) (memory : MachineMemory) (d : ℕ) → 7 + weight o ≤ d
        → Fragment layout G Here n (point injection memory skipped (Word from ∷ operand.Place q ∷ o ∷ Word upto ∷ Word from ∷ Word from ∷ operand.Place q ∷ o ∷ operand.Place q ∷ rest)) (give tt) end (λ u. Inside untouched injection memory (Bare (o ∷ operand.Place q ∷ rest) u)) d (λ u. d - (7 + weight o))
    none_follow o q rest injection memory d enough =
        fragment_to {to = skipped + 1 + 1 + 1 + 1 + 1 + 1 + 1} (omega arith)
        (fragment_waits {d1 = d - 1} (λ s matches. outcome_at G (bare line op.DROP) skipped (Word from ∷ operand.Place q ∷ o ∷ Word upto ∷ Word from ∷ Word from ∷ operand.Place q ∷ o ∷ operand.Place q ∷ rest) memory s.trace (instr_at G (omega arith) drops.0)) (omega (arith, enough))
        (fragment_waits {d1 = d - 2} (λ s matches. outcome_at G (bare line op.DROP) (skipped + 1) (operand.Place q ∷ o ∷ Word upto ∷ Word from ∷ Word from ∷ operand.Place q ∷ o ∷ operand.Place q ∷ rest) memory s.trace (instr_at G (omega arith) drops.1.0)) (omega (arith, enough))
        (fragment_waits {d1 = d - (3 + weight o)} (λ s matches. outcome_at G (bare line op.DROP) (skipped + 1 + 1) (o ∷ Word upto ∷ Word from ∷ Word from ∷ operand.Place q ∷ o ∷ operand.Place q ∷ rest) memory s.trace (instr_at G (omega arith) drops.1.1.0)) (omega (arith, enough))
        (fragment_waits {d1 = d - (4 + weight o)} (λ s matches. outcome_at G (bare line op.DROP) (skipped + 1 + 1 + 1) (Word upto ∷ Word from ∷ Word from ∷ operand.Place q ∷ o ∷ operand.Place q ∷ rest) memory s.trace (instr_at G (omega arith) drops.1.1.1.0)) (omega (arith, enough))
        (fragment_waits {d1 = d - (5 + weight o)} (λ s matches. outcome_at G (bare line op.DROP) (skipped + 1 + 1 + 1 + 1) (Word from ∷ Word from ∷ operand.Place q ∷ o ∷ operand.Place q ∷ rest) memory s.trace (instr_at G (omega arith) drops.1.1.1.1.0)) (omega (arith, enough))
        (fragment_waits {d1 = d - (6 + weight o)} (λ s matches. outcome_at G (bare line op.DROP) (skipped + 1 + 1 + 1 + 1 + 1) (Word from ∷ operand.Place q ∷ o ∷ operand.Place q ∷ rest) memory s.trace (instr_at G (omega arith) drops.1.1.1.1.1.0)) (omega (arith, enough))
        (fragment_waits {d1 = d - (7 + weight o)} (λ s matches. outcome_at G (bare line op.DROP) (skipped + 1 + 1 + 1 + 1 + 1 + 1) (operand.Place q ∷ o ∷ operand.Place q ∷ rest) memory s.trace (instr_at G (omega arith) drops.1.1.1.1.1.1.0)) (omega (arith, enough))
        (fragment_give (omega arith) (inside_here refl)))))))))

    -- The components with the indexes of the range are given the value.
    given_each_follows : (r : Result) (o : Operand) (a : Component) (q : PlaceOf) (rest : List Operand) (injection : Injection) (memory : MachineMemory) → IsValueOf injection memory k r o → unit_in G memory.frames ≡ unit
        → IsSpot injection memory.types a q → IsLike memory.types q.type_number array → (d : ℕ)
        → Fragment layout G Here n (point injection memory place (o ∷ operand.Place q ∷ Word upto ∷ Word from ∷ rest)) (given_each call g unit line a range r) end (λ u. Inside untouched injection memory (Bare (o ∷ operand.Place q ∷ rest) u)) (d + weight_of r) (λ u. d + weight_of r)
    given_each_follows r o a q rest injection memory value home spot described d =
        let heavy = value_weight injection memory k r o value in
        fragment_less {n = suc n} (omega arith)
        (fragment_paid {d1 = d + 63 + 60 * weight_of r} (λ s matches. outcome_at G (bare line op.DUP) place (o ∷ operand.Place q ∷ Word upto ∷ Word from ∷ rest) memory s.trace doubles)
        (omega (arith, heavy)) (omega (arith, heavy)) (omega (arith, heavy))
        (fragment_credit {d = spread_ticks (weight o) + (1 + (d + 46 + 56 * weight_of r))} {e = λ u. d + weight_of r} (omega (arith, heavy)) (λ u. omega (arith, heavy))
        (spreading_follows (place + 1) spread_called injection memory q from upto o rest (1 + (d + 46 + 56 * weight_of r)) (steady_given_from call steady_call g unit line a range r)
        (fragment_branch {then_place = to_find} {else_place = skipped} {d1 = d + 46 + 56 * weight_of r} (int_le from upto)
        (λ s matches. leads (int_le from upto) memory s.trace) (omega arith)
        (λ ordered. fragment_credit {d = d + 46 + 56 * weight_of r} {e = λ u. d + 46 + 56 * weight_of r - (7 + 3 * weight_of r)} (omega arith) (λ u. omega arith)
        (some_follow ordered r o a q rest injection memory value home spot described (d + 46 + 56 * weight_of r) (omega arith)))
        (λ unordered. fragment_credit {d = d + 46 + 56 * weight_of r} {e = λ u. d + 46 + 56 * weight_of r - (7 + weight o)} (omega arith) (λ u. omega (arith, heavy))
        (none_follow o q rest injection memory (d + 46 + 56 * weight_of r) (omega (arith, heavy))))))))
      where
        leads : (b : Bool) (m : MachineMemory) (trace : Trace)
            → outcome G (standing (place + 1 + 1) (Word (ordinal_of b) ∷ Word from ∷ operand.Place q ∷ o ∷ Word upto ∷ Word from ∷ Word from ∷ operand.Place q ∷ o ∷ operand.Place q ∷ rest) m trace)
            ≡ record { weight = 0; to = Running 0 (standing (if b then to_find else skipped) (Word from ∷ operand.Place q ∷ o ∷ Word upto ∷ Word from ∷ Word from ∷ operand.Place q ∷ o ∷ operand.Place q ∷ rest) m trace) }
        leads true m trace = jump_false_jumps G (place + 1 + 1) line (Word from ∷ operand.Place q ∷ o ∷ Word upto ∷ Word from ∷ Word from ∷ operand.Place q ∷ o ∷ operand.Place q ∷ rest) (ordinal_of true) (p.instructions.before + (at + 8)) (omega (arith, inside, room)) tests m trace
        leads false m trace =
            jump_false_jumps G (place + 1 + 1) line (Word from ∷ operand.Place q ∷ o ∷ Word upto ∷ Word from ∷ Word from ∷ operand.Place q ∷ o ∷ operand.Place q ∷ rest) (ordinal_of false) (p.instructions.before + (at + 8)) (omega (arith, inside, room)) tests m trace
            ∙ ap (λ there. record { weight = 0; to = Running 0 (standing there (Word from ∷ operand.Place q ∷ o ∷ Word upto ∷ Word from ∷ Word from ∷ operand.Place q ∷ o ∷ operand.Place q ∷ rest) m trace) }) {x = p.instructions.before + (at + 8)} {y = skipped} (omega arith)

  -- ---- all of it

  -- From each memory of a routine of the unit, with the place of a variable of the array type on top, the machine follows the indexes,
  -- the value and what the components are given through this code to an end, and leaves the value on top.
  abbrev pub AreGivenFollowed : Designators → Computation Result → ℕ → ℕ → Type 0
  AreGivenFollowed ds value at end =
      (injection : Injection) (memory : MachineMemory) (rest : List Operand) (a : Component) (q : PlaceOf) (d : ℕ) → element_credit ≤ d → unit_in G memory.frames ≡ unit
      → IsSpot injection memory.types a q → IsLike memory.types q.type_number array
      → Fragment layout G Here n (point injection memory (p.instructions.before + at) (operand.Place q ∷ rest)) (given_at call g unit line a ds value) (p.instructions.before + end) (λ r. Inside untouched injection memory (OnTop k (operand.Place q ∷ rest) r)) d (λ r. d + 1 + weight_of r)

  -- the value alone
  pub value_alone : (x : Expr) (at : ℕ) (xs : List Instr) → IsFollowed layout G untouched Here p call g unit n k x line at xs → AreGivenFollowed no_member (eval call g unit line x) at (at + length xs)
  value_alone x at xs follows injection memory rest a q d enough home spot described =
      fragment_credit {d = d} {e = λ r. d + 8 + weight_of r} (omega arith) (λ r. omega arith) (follows injection memory (operand.Place q ∷ rest) d (omega (arith, enough)) home)

  -- behind the indexes of a range
  pub next_given : (r : Designator) (ds : Designators) (value : Computation Result) → Steady value → (at middle : ℕ) (xs : List Instr) → IsRangeFollowed layout G untouched Here p call g unit line n low high of r at xs → AreGivenFollowed ds value (at + length xs) middle
      → middle + 15 < p.instructions.own → CodeStands G ps p references middle (spread_code line middle)
      → AreGivenFollowed (next_member r ds) value at (middle + 15)
  next_given r ds value steady at middle xs first others inside stands injection memory rest a q d enough home spot described =
      inside_bind {First = RangeBelow layout G untouched Here p call g unit line n low high of q rest} {e = λ range. d} (λ range. steady_bind (steady_given_at call steady_call g unit line a ds steady) (λ x. steady_bind (steady_given_each call steady_call g unit line a range x) (λ _. steady_give x)))
      (first injection memory rest a q d enough home spot described)
      (λ range v1 m1 pushed1 grown1 routine1 both.
      subst (λ st. Fragment layout G Here n (point v1 m1 (p.instructions.before + (at + length xs)) st) (bind (given_at call g unit line a ds value) (λ x. bind (given_each call g unit line a range x) (λ _. give x))) (p.instructions.before + (middle + 15)) (λ x. Inside untouched v1 m1 (OnTop k (operand.Place q ∷ rest) x)) d (λ x. d + 1 + weight_of x)) (sym both.is)
      (inside_bind {First = OnTop k (operand.Place q ∷ Word range.high ∷ Word range.low ∷ rest)} {e = λ x. d + 1 + weight_of x} (λ x. steady_bind (steady_given_each call steady_call g unit line a range x) (λ _. steady_give x))
      (others v1 m1 (Word range.high ∷ Word range.low ∷ rest) a q d enough (unit_in-same G routine1 ∙ home) (is_spot-grown grown1 spot) (describes-grown q.type_number array grown1 described))
      (λ x v2 m2 pushed2 grown2 routine2 top.
      let v = value_on_top k (operand.Place q ∷ Word range.high ∷ Word range.low ∷ rest) x v2 m2 pushed2 top in
      subst (λ st. Fragment layout G Here n (point v2 m2 (p.instructions.before + middle) st) (bind (given_each call g unit line a range x) (λ _. give x)) (p.instructions.before + (middle + 15)) (λ y. Inside untouched v2 m2 (OnTop k (operand.Place q ∷ rest) y)) (d + 1 + weight_of x) (λ y. d + 1 + weight_of y)) (sym v.2)
      (inside_bind {First = Bare (v.0 ∷ operand.Place q ∷ rest)} {e = λ u. d + 1 + weight_of x} (λ u. steady_give x)
      (given_each_follows middle inside stands range.low range.high both.first both.last both.at_first both.at_last x v.0 a q rest v2 m2 v.1 (unit_in-same G routine2 ∙ (unit_in-same G routine1 ∙ home)) (is_spot-grown grown2 (is_spot-grown grown1 spot)) (describes-grown q.type_number array grown2 (describes-grown q.type_number array grown1 described)) (d + 1))
      (λ u v3 m3 pushed3 grown3 routine3 is.
      fragment_give (omega arith) (inside_here (on_top k (operand.Place q ∷ rest) x v.0 v3 m3 pushed3 (value-grown k x v.0 grown3 v.1) is)))))))

  -- behind those of all ranges
  pub all_given : (ds : Designators) (value : Computation Result) → Steady value → (at middle : ℕ) (xs : List Instr) → AreRangesFollowed layout G untouched Here p call g unit line n low high of ds at xs → AreGivenFollowed no_member value (at + length xs) middle
      → CodeStands G ps p references middle (spreads_code line middle (designators_count ds)) → middle + 15 * designators_count ds < p.instructions.own
      → AreGivenFollowed ds value at (middle + 15 * designators_count ds)
  all_given no_member value steady at middle xs none alone stands inside =
      subst (λ m. AreGivenFollowed no_member value at m) {x = middle} {y = middle + 15 * 0} (omega arith)
      (subst (λ m. AreGivenFollowed no_member value m middle) {x = at + length xs} {y = at} (omega (arith, ap length none)) alone)
  all_given (next_member r ds) value steady at middle xs (ys, zs, first, others, parts) alone stands inside =
      let count : ℕ = designators_count ds in
      let there : at + length xs ≡ at + length ys + length zs = omega (arith, ap length parts, length-append ys zs) in
      subst (λ m. AreGivenFollowed (next_member r ds) value at m) {x = middle + 15 * count + 15} {y = middle + 15 * suc count} (omega arith)
      (next_given r ds value steady at (middle + 15 * count) ys first
      (all_given ds value steady (at + length ys) middle zs others (subst (λ m. AreGivenFollowed no_member value m middle) there alone) (code_front G ps p references middle (spreads_code line middle count) (spread_code line (middle + 15 * count)) stands) (omega (arith, inside)))
      (omega (arith, inside))
      (subst (λ m. CodeStands G ps p references m (spread_code line (middle + 15 * count))) {x = middle + length (spreads_code line middle count)} {y = middle + 15 * count} (omega (arith, spreads_length line middle count)) (code_back G ps p references middle (spreads_code line middle count) (spread_code line (middle + 15 * count)) stands)))

  -- the value goes
  pub at_indexes_follow : (ds : Designators) (x : Expr) (at middle : ℕ) (code : List Instr) → AreGivenFollowed ds (eval call g unit line x) at middle → slice_get G.instructions (p.instructions.before + middle) ≡ Some (bare line op.DROP) → middle + 1 ≡ at + length code
      → IsElementFollowed layout G untouched Here lasts ps p references call steady_call g unit line n array (AtIndexes ds x) at code
  at_indexes_follow ds x at middle code follows drops ends injection memory rest a q d enough home spot described =
      fragment_to {to = p.instructions.before + middle + 1} (omega (arith, ends))
      (inside_bind {First = OnTop k (operand.Place q ∷ rest)} {e = λ r. d + 1 + weight_of r} (λ r. steady_give tt)
      (follows injection memory rest a q d enough home spot described)
      (λ r v1 m1 pushed grown routine top.
      let v = value_on_top k (operand.Place q ∷ rest) r v1 m1 pushed top in
      subst (λ st. Fragment layout G Here n (point v1 m1 (p.instructions.before + middle) st) (give tt) (p.instructions.before + middle + 1) (λ u. Inside untouched v1 m1 (Bare (operand.Place q ∷ rest) u)) (d + 1 + weight_of r) (λ u. d)) (sym v.2)
      (fragment_waits {d1 = d} (λ s matches. outcome_at G (bare line op.DROP) (p.instructions.before + middle) (v.0 ∷ operand.Place q ∷ rest) m1 s.trace drops) (omega (arith, enough, value_weight v1 m1 k r v.0 v.1))
      (fragment_give (omega arith) (inside_here refl)))))
