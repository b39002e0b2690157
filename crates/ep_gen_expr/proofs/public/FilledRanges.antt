-- The machine follows components of an array that are all given one value.
use Rattle.std.proofs.Common.{◌≡◌, ℕ, ℤ, pos, suc, ◌+◌, ◌-◌, ◌≤◌, ◌<◌, true, false, IsTrue, List, [], ◌∷◌, ◌++◌, length, length-append, Some, slice_get, refl, sym, ap, ◌∙◌, subst, arith}
use Rattle.std.proofs.lemmas.List.Elements.{All-head, All-tail}
use Rattle.std.specs.Prelude.{All}
use Rattle.ep_gen_code.specs.Instructions.{bare, instr, push}
use Rattle.ep_gen_code.specs.Referring.{IsFillReferred}
use Rattle.ep_gen_code.specs.declared.references.TheConstants as routine
use Rattle.ep_gen_code.proofs.public.Placed.{code_back, code_front}
use Rattle.ep_gen_expr.proofs.public.Answering.{IsFollowed}
use Rattle.ep_gen_expr.proofs.public.StructuredValues.{IsElementFollowed}
use Rattle.ep_gen_expr.specs.ExprCode.{first_code, range_code, ranges_code}
use Rattle.ep_simulation.specs.Follows.{Bare, Facts, Follows, Fragment, HasGrown, Inside, IsNotLeft, Lands, Lasts, OnTop, PlaceOnTop, point}
use Rattle.ep_simulation.specs.Layouts.{Layout}
use Rattle.ep_simulation.specs.Matching.{Injection, IsLike, IsSpot, Matches, MachineMemory, Slots, at as standing, every_slot}
use Rattle.ep_object.specs.Operands.{Operand, Word}
use Rattle.ep_object.specs.Operands as operand
use Rattle.ep_object.specs.Placing.{CodeStands, Placement}
use Rattle.ep_simulation.specs.Promises.{CallsAt, FillStands, IsValueOf}
use Rattle.ep_object.specs.Runs.{unit_in}
use Rattle.ep_object.specs.State.{State}
use Rattle.ep_object.specs.declared.code.Image.{Image}
use Rattle.ep_object.specs.declared.code.Instr.{Instr}
use Rattle.ep_object.specs.declared.code.Reference.{Reference}
use Rattle.ep_object.specs.declared.op.TheConstants as op
use Rattle.ep_object.specs.declared.state.Place.{Place as PlaceOf}
use Rattle.ep_simulation.proofs.public.following.Bind.{follows_bind, follows_changed, follows_credit, follows_from, follows_give, follows_less, follows_paid, follows_post, follows_stop, follows_waits, follows_wider}
use Rattle.ep_simulation.proofs.public.following.Choices.{Finds, follows_fetched, follows_tested, fragment_using}
use Rattle.ep_simulation.proofs.public.following.Filling.{FilledAt, among_every, fills_follow, gives_back}
use Rattle.ep_simulation.proofs.public.following.Fragments.{FailsWith, fragment_credit, fragment_from, fragment_to, fragment_waits, inside_bind, landed}
use Rattle.ep_simulation.proofs.public.following.Promising.{grown_fewer, same_routine-fewer}
use Rattle.ep_simulation.proofs.public.matching.Assigned.{ended_keeps, value_got}
use Rattle.ep_simulation.proofs.public.matching.Awaiting.{value-grown, value_on_top}
use Rattle.ep_simulation.proofs.public.matching.BareValues.{suits_bare}
use Rattle.ep_simulation.proofs.public.matching.MoreMemory.{describes-grown, inside_here, inside_later, is_spot-grown, not_left-here, not_left-later, still_routine, unit_in-same}
use Rattle.ep_simulation.proofs.public.matching.Indexes.{component_far, integer_between, range_inside}
use Rattle.ep_simulation.proofs.public.matching.Standing.{int_le-trans, place_stands}
use Rattle.ep_simulation.proofs.public.rows.ChangeRows.{may_take, value_does, value_ended, value_fails, variable_type}
use Rattle.ep_simulation.proofs.public.rows.IndexRow.{array, component_place, component_spot, index_fails, index_leads, is_within_count, number_is}
use Rattle.ep_simulation.proofs.public.rows.Rows.{outcome_at, push_pushes}
use Rattle.ep_meaning.proofs.public.Steady.{steady_bind, steady_eval, steady_fills_all, steady_given}
use Rattle.ep_values.specs.Bounds.{component_at, count_of, gap}
use Rattle.ep_meaning.specs.Calls.{Handler}
use Rattle.ep_meaning.specs.Meaning.{eval, given, located}
use Rattle.ep_meaning.specs.Nameless.{fills_all}
use Rattle.ep_values.specs.Operations.{is_integer}
use Rattle.ep_values.specs.Printing.{Result}
use Rattle.ep_meaning.specs.Results.{given_by, misfit, suits, value_of, weight_of}
use Rattle.ep_meaning.specs.Steady.{IsSteadyHandler}
use Rattle.ep_meaning.specs.Steps.{Component, assigned, bind, component, component_number, has_ended, type_at, value_at}
use Rattle.ep_meaning.specs.Steps as meaning
use Rattle.ep_typed.specs.Trees.{AtRanges, Expr}
use Rattle.ep_values.specs.TypeValues.{TypeValue}
use Rattle.ep_values.specs.TypeValues as type
use Rattle.ep_meaning.specs.Valid.{Declarations, IsRangeWithin, IsTypeOfKind, ValueKind}
use Rattle.ep_values.specs.declared.run_error.TheConstants as run_error
use Rattle.ep_typed.specs.declared.tree.CaseRange.{CaseRange}

-- facts that last where memory grows with some slots untouched hold where it has grown with all of them untouched
pub holds_grown : {untouched : Slots} {Here : Facts} {injection longer : Injection} {s t : meaning.State} {memory after : MachineMemory} → Lasts untouched Here
    → HasGrown every_slot injection s memory longer t after → Here injection s memory → Here longer t after
holds_grown {injection = injection} {longer = longer} {s = s} {t = t} {memory = memory} {after = after} lasts since here =
    lasts.by injection longer s t memory after (record { grown = grown_fewer among_every since.grown; routine = same_routine-fewer among_every since.routine; own = since.own; calls = since.calls }) here

module _ (declared : Declarations) (layout : Layout) (G : Image) (untouched : Slots) (Here : Facts) (lasts : Lasts untouched Here) (ps : List Placement) (p : Placement) (references : List Reference) (call : Handler) (steady_call : IsSteadyHandler call) (g : ℕ) (unit : List ℕ) (line n : ℕ)
    (fill : FillStands G ps unit declared.first_private) (fill_referred : IsFillReferred declared unit references)
    (low high : ℤ) (small : IsTrue (is_integer low)) (large : IsTrue (is_integer high)) (of : TypeValue) (k : ValueKind) (of_kind : IsTypeOfKind k of) where
  -- The components with the indexes of ranges get the value of the one with an index that has it.
  ranges_follow : (from : ℤ) (f : ℕ) → component_at low high from ≡ Some f → (a : Component) (q : PlaceOf) (rest : List Operand) (r : Result) → suits (Some of) r ≡ true → given_by (Some of) (value_of r) ≡ Some r
      → (at : ℕ) (ranges : List CaseRange) → All (IsRangeWithin low high) ranges → CodeStands G ps p references at (ranges_code line from ranges)
      → (injection : Injection) (memory : MachineMemory) (o : Operand) → IsValueOf injection memory k r o → IsSpot injection memory.types a q → IsLike memory.types q.type_number (type.Array low high of)
      → (s : meaning.State) → Matches layout G injection s memory → Here injection s memory → has_ended a.allocation s ≡ false → value_at (component a f) s ≡ value_of r → (d : ℕ) → 5 ≤ d
      → Follows (λ l. IsNotLeft memory.frames l.frames) G n (standing (p.instructions.before + at) (operand.Place q ∷ rest) memory s.trace) s (fills_all a r ranges) (λ u. Lands layout G Here (p.instructions.before + (at + length (ranges_code line from ranges))) (Inside untouched injection memory (Bare (operand.Place q ∷ rest) u))) d (λ u. d)
  ranges_follow from f at_from a q rest r suited gives at [] valid stands injection memory o value spot described s matches here living has d enough =
      follows_give tt (omega arith) (record { injection = injection; memory = memory; operands = operand.Place q ∷ rest; is = ap (λ m. standing m (operand.Place q ∷ rest) memory s.trace) {x = p.instructions.before + at} {y = p.instructions.before + (at + 0)} (omega arith); matches = matches; here = here; post = inside_here refl })
  ranges_follow from f at_from a q rest r suited gives at (x ∷ more) valid stands injection memory o value spot described s matches here living has d enough =
      follows_bind {P = λ u. FilledAt layout G a f (value_of r) injection s memory (to_call + 1) (operand.Place q ∷ rest)} {e = λ u. 20 + (d - 5)} (λ u. steady_fills_all a r more)
      (follows_credit {d = 1 + (1 + (1 + (1 + (1 + (d - 5)))))} {e = λ u. 20 + (d - 5)} (omega (arith, enough)) (λ u. omega (arith, enough))
      (follows_waits (not_left-here memory.frames) (outcome_at G (bare line op.DUP) to_double (operand.Place q ∷ rest) memory s.trace front.0)
      (follows_waits (not_left-here memory.frames) (push_pushes G (to_double + 1) line (operand.Place q ∷ operand.Place q ∷ rest) from first_push memory s.trace)
      (follows_waits (not_left-here memory.frames) (push_pushes G (to_double + 1 + 1) line (Word from ∷ operand.Place q ∷ operand.Place q ∷ rest) x.low second_push memory s.trace)
      (follows_waits (not_left-here memory.frames) (push_pushes G (to_double + 1 + 1 + 1) line (Word x.low ∷ Word from ∷ operand.Place q ∷ operand.Place q ∷ rest) x.high third_push memory s.trace)
      (fills_follow layout G fill.routine fill.is to_call line calls low high of k of_kind a q from x.low x.high f at_from r suited gives injection memory o value spot described (operand.Place q ∷ rest) s matches living has n (d - 5) inside.0 inside.1 inside.2 inside.3 inside.4 first_fits last_fits))))))
      (λ u t l filled_at.
      let filled = filled_at.filled in
      let since = filled.since in
      let grown = grown_fewer {fewer = untouched} among_every since.grown in
      let routine = same_routine-fewer {fewer = untouched} among_every since.routine in
      follows_from filled_at.is (follows_wider (λ m stays. not_left-later (still_routine routine) stays)
      (follows_post (λ w t2 l2 lands. record { injection = lands.injection; memory = lands.memory; operands = lands.operands; is = lands.is ∙ ap (λ m. standing m lands.operands lands.memory t2.trace) ends; matches = lands.matches; here = lands.here; post = inside_later grown routine lands.post })
      (follows_credit {d = d} {e = λ w. d} (omega (arith, enough)) (λ w. omega (arith, enough))
      (follows_from (ap (λ m. standing m (operand.Place q ∷ rest) filled_at.after t.trace) {x = to_call + 1} {y = p.instructions.before + (at + 5)} (omega arith))
      (ranges_follow from f at_from a q rest r suited gives (at + 5) more (All-tail (IsRangeWithin low high) x more valid) back filled_at.longer filled_at.after o (value-grown k r o grown value) (is_spot-grown grown spot) (describes-grown q.type_number (type.Array low high of) grown described) t filled.matches (holds_grown lasts since here) filled.living filled.has d enough))))))
    where
      to_double : ℕ
      to_double = p.instructions.before + at

      to_call : ℕ
      to_call = to_double + 1 + 1 + 1 + 1

      here_code : CodeStands G ps p references at (range_code line from x)
      here_code = code_front G ps p references at (range_code line from x) (ranges_code line from more) stands

      front : CodeStands G ps p references at (range_code line from x)
      front = here_code

      back : CodeStands G ps p references (at + 5) (ranges_code line from more)
      back = code_back G ps p references at (range_code line from x) (ranges_code line from more) stands

      first_push : slice_get G.instructions (to_double + 1) ≡ Some (push line from)
      first_push = subst (λ m. slice_get G.instructions m ≡ Some (push line from)) {x = p.instructions.before + (at + 1)} {y = to_double + 1} (omega arith) front.1.0

      second_push : slice_get G.instructions (to_double + 1 + 1) ≡ Some (push line x.low)
      second_push = subst (λ m. slice_get G.instructions m ≡ Some (push line x.low)) {x = p.instructions.before + (at + 1 + 1)} {y = to_double + 1 + 1} (omega arith) front.1.1.0

      third_push : slice_get G.instructions (to_double + 1 + 1 + 1) ≡ Some (push line x.high)
      third_push = subst (λ m. slice_get G.instructions m ≡ Some (push line x.high)) {x = p.instructions.before + (at + 1 + 1 + 1)} {y = to_double + 1 + 1 + 1} (omega arith) front.1.1.1.0

      calls : CallsAt G to_call fill.routine 0 line
      calls =
          let there : p.instructions.before + (at + 1 + 1 + 1 + 1) ≡ to_call = omega arith in
          record { instruction = instr op.CALL (pos fill.routine) 0 line; stands = sym (ap (λ i. slice_get G.instructions i) there) ∙ (front.1.1.1.1.0 ∙ ap (λ i. Some i) (rw fill_referred (fill.placed (instr op.CALL (pos routine.FILL) 0 line)))); is_call = refl; names = refl; parent = refl; at_line = refl }

      within : IsRangeWithin low high x
      within = All-head (IsRangeWithin low high) x more valid

      inside : (b left : ℕ) × (gap low x.low ≡ Some b) × (gap x.low x.high ≡ Some left) × (b + left < count_of low high)
      inside = range_inside low high x.low x.high within.0 within.1 within.2

      first_fits : IsTrue (is_integer x.low)
      first_fits = integer_between low high x.low small large within.0 (int_le-trans x.low x.high high within.1 within.2)

      last_fits : IsTrue (is_integer x.high)
      last_fits = integer_between low high x.high small large (int_le-trans low x.low x.high within.0 within.1) within.2

      ends : p.instructions.before + (at + 5 + length (ranges_code line from more)) ≡ p.instructions.before + (at + length (ranges_code line from (x ∷ more)))
      ends = omega (arith, length-append (range_code line from x) (ranges_code line from more))

  -- ---- the first component

  -- the place of the component with the first index is on top
  abbrev IsFirst : Component → ℕ → List Operand → Component → Injection → MachineMemory → List Operand → Type 0
  IsFirst a f below c injection memory operands = PlaceOnTop of below c injection memory operands × (c ≡ component a f)

  -- what `Store` leads to
  pub record Stored (injection : Injection) (memory : MachineMemory) (a : Component) (f : ℕ) (r : Result) (below : List Operand) (place : ℕ) (t : meaning.State) (l : State) : Type 0 where
    pub lands : Lands layout G Here place (Inside untouched injection memory (Bare below tt)) t l
    pub living : has_ended a.allocation t ≡ false
    pub has : value_at (component a f) t ≡ value_of r
    pub suited : suits (Some of) r ≡ true

  -- it is given the value, which suits it then
  pub first_given : (a : Component) (f : ℕ) (q : PlaceOf) (below : List Operand) (r : Result) (o : Operand) (place : ℕ) → slice_get G.instructions place ≡ Some (bare line op.STORE)
      → (injection : Injection) (memory : MachineMemory) → IsValueOf injection memory k r o → unit_in G memory.frames ≡ unit → IsSpot injection memory.types (component a f) q → IsLike memory.types q.type_number of
      → (s : meaning.State) → Matches layout G injection s memory → Here injection s memory → (d : ℕ)
      → Follows (λ l. IsNotLeft memory.frames l.frames) G n (standing place (o ∷ operand.Place q ∷ below) memory s.trace) s (given call g unit line (component a f) r) (λ u. Stored injection memory a f r below (place + 1)) (d + 1 + weight_of r) (λ u. d)
  first_given a f q below r o place has injection memory value home spot described s matches here d =
      follows_tested (has_ended a.allocation)
      (λ ended. let x = subst (λ u. FailsWith G (standing place (o ∷ operand.Place q ∷ below) memory s.trace) (weight_of r) run_error.DISPOSED u line s) home (value_ended layout G place line below k of r o (component a f) q (may_take k of of_kind) has injection memory value spot described s matches ended) in follows_stop (not_left-here memory.frames) x.fails (omega arith))
      (λ living. follows_tested (λ t. suits (type_at (component a f) t) r)
      (λ fits.
      let z = value_does layout G place line below k of r o (component a f) q (may_take k of of_kind) has injection memory value spot described s matches living lasts here fits in
      follows_less {n = suc n} (omega arith) (follows_paid {v = weight_of r} {w = weight_of r} {d1 = d} (not_left-here memory.frames) refl z.does (omega arith) (omega arith) (omega arith)
      (follows_changed (assigned (component a f) (value_of r)) (omega arith) (stored s living fits matches (landed z)))))
      (λ fits. let x = subst (λ u. FailsWith G (standing place (o ∷ operand.Place q ∷ below) memory s.trace) (weight_of r) (misfit r) u line s) home (value_fails layout G place line below k of r o (component a f) q (may_take k of of_kind) has injection memory value spot described s matches living fits) in follows_stop (not_left-here memory.frames) x.fails (omega arith)))
    where
      stored : (s : meaning.State) → has_ended a.allocation s ≡ false → suits (type_at (component a f) s) r ≡ true → Matches layout G injection s memory → {l : State}
          → Lands layout G Here (place + 1) (Inside untouched injection memory (Bare below tt)) (assigned (component a f) (value_of r) s) l
          → Stored injection memory a f r below (place + 1) (assigned (component a f) (value_of r) s) l
      stored s living fits matches lands =
          let x = place_stands matches spot living in
          record {
            lands = lands;
            living = ended_keeps (component a f) (value_of r) s a.allocation ∙ living;
            has = value_got (component a f) (value_of r) s x.allocation x.is;
            suited = sym (ap (λ t. suits t r) (variable_type layout G place line below of (component a f) q injection memory spot described s matches living)) ∙ (suits_bare (type_at (component a f) s) r ∙ fits);
          }

  module _ (x : CaseRange) (more : List CaseRange) (valid : All (IsRangeWithin low high) (x ∷ more)) (y : Expr) (at : ℕ) (xs : List Instr) (follows : IsFollowed layout G untouched Here p call g unit n k y line (at + length (first_code line (x ∷ more))) xs)
      (stands : CodeStands G ps p references at (first_code line (x ∷ more) ++ (xs ++ bare line op.STORE ∷ ranges_code line x.low (x ∷ more)))) where
    abbrev ranges : List CaseRange
    ranges = x ∷ more

    abbrev fills : List Instr
    fills = ranges_code line x.low ranges

    abbrev place : ℕ
    place = p.instructions.before + at

    abbrev to_store : ℕ
    to_store = at + 3 + length xs

    abbrev end : ℕ
    end = p.instructions.before + (to_store + 1 + length fills)

    behind : CodeStands G ps p references to_store (bare line op.STORE ∷ fills)
    behind = code_back G ps p references (at + 3) xs (bare line op.STORE ∷ fills) (code_back G ps p references at (first_code line ranges) (xs ++ bare line op.STORE ∷ fills) stands)

    pushes : slice_get G.instructions (place + 1) ≡ Some (push line x.low)
    pushes = subst (λ m. slice_get G.instructions m ≡ Some (push line x.low)) {x = p.instructions.before + (at + 1)} {y = place + 1} (omega arith) stands.1.0

    indexes : slice_get G.instructions (place + 1 + 1) ≡ Some (bare line op.INDEX)
    indexes = subst (λ m. slice_get G.instructions m ≡ Some (bare line op.INDEX)) {x = p.instructions.before + (at + 1 + 1)} {y = place + 1 + 1} (omega arith) stands.1.1.0

    first : (b left : ℕ) × (gap low x.low ≡ Some b) × (gap x.low x.high ≡ Some left) × (b + left < count_of low high)
    first = let within = All-head (IsRangeWithin low high) x more valid in range_inside low high x.low x.high within.0 within.1 within.2

    -- the number of the component with the first index
    abbrev f : ℕ
    f = first.0

    at_first : component_at low high x.low ≡ Some f
    at_first = component_far low high x.low f first.2 (omega (arith, first.4))

    -- From `Store` on.
    stored_follows : (injection : Injection) (memory : MachineMemory) (rest : List Operand) (a : Component) (q r : PlaceOf) (v : Result) (o : Operand) → IsValueOf injection memory k v o → unit_in G memory.frames ≡ unit
        → IsSpot injection memory.types a q → IsLike memory.types q.type_number (type.Array low high of) → IsSpot injection memory.types (component a f) r → IsLike memory.types r.type_number of → (d : ℕ) → 5 ≤ d
        → Fragment layout G Here n (point injection memory (p.instructions.before + to_store) (o ∷ operand.Place r ∷ operand.Place q ∷ rest)) (bind (given call g unit line (component a f) v) (λ _. fills_all a v ranges)) end (λ u. Inside untouched injection memory (Bare (operand.Place q ∷ rest) u)) (d + 1 + weight_of v) (λ u. d)
    stored_follows injection memory rest a q r v o value home spot described spot_r described_r d enough =
        record {
          by = λ s matches here.
              follows_bind {P = λ u. Stored injection memory a f v (operand.Place q ∷ rest) (p.instructions.before + to_store + 1)} {e = λ u. d} (λ u. steady_fills_all a v ranges)
              (first_given a f r (operand.Place q ∷ rest) v o (p.instructions.before + to_store) behind.0 injection memory value home spot_r described_r s matches here d)
              (λ u t l stored.
              let lands = stored.lands in
              let post = lands.post in
              follows_from lands.is
              (subst (λ st. Follows (λ m. IsNotLeft memory.frames m.frames) G n (standing (p.instructions.before + to_store + 1) st lands.memory t.trace) t (fills_all a v ranges) (λ w. Lands layout G Here end (Inside untouched injection memory (Bare (operand.Place q ∷ rest) w))) d (λ w. d)) (sym post.operands_are)
              (follows_wider (λ m stays. not_left-later (still_routine post.routine) stays)
              (follows_post (λ w t2 l2 final. record { injection = final.injection; memory = final.memory; operands = final.operands; is = final.is; matches = final.matches; here = final.here; post = inside_later post.grown post.routine final.post })
              (follows_from (ap (λ m. standing m (operand.Place q ∷ rest) lands.memory t.trace) {x = p.instructions.before + to_store + 1} {y = p.instructions.before + (to_store + 1)} (omega arith))
              (ranges_follow x.low f at_first a q rest v stored.suited (gives_back k of of_kind injection memory v o value) (to_store + 1) ranges valid behind.1 lands.injection lands.memory o (value-grown k v o post.grown value) (is_spot-grown post.grown spot) (describes-grown q.type_number (type.Array low high of) post.grown described) t lands.matches lands.here stored.living stored.has d enough))))));
        }

    -- The component with the first index.
    first_located_follows : (injection : Injection) (memory : MachineMemory) (rest : List Operand) (a : Component) (q : PlaceOf) (d d1 : ℕ) → 1 + d1 ≤ d → unit_in G memory.frames ≡ unit → IsSpot injection memory.types a q → IsLike memory.types q.type_number (type.Array low high of)
        → Fragment layout G Here n (point injection memory (place + 1 + 1) (Word x.low ∷ operand.Place q ∷ operand.Place q ∷ rest)) (located call g unit line a x.low) (place + 1 + 1 + 1) (λ c. Inside untouched injection memory (IsFirst a f (operand.Place q ∷ rest) c)) d (λ c. d1)
    first_located_follows injection memory rest a q d d1 enough home spot described =
        fragment_using {e = λ c. d1} a.allocation
        (λ s matches ended. subst (λ u. FailsWith G (standing (place + 1 + 1) (Word x.low ∷ operand.Place q ∷ operand.Place q ∷ rest) memory s.trace) 0 run_error.DISPOSED u line s) home (index_fails layout G (place + 1 + 1) line (operand.Place q ∷ rest) low high of x.low a q indexes injection memory spot described s matches ended)) (omega (arith, enough))
        (λ s matches known living.
        follows_fetched {d1 = d1} (point injection memory (place + 1 + 1) (Word x.low ∷ operand.Place q ∷ operand.Place q ∷ rest)) (λ t. component_number (type_at a t) x.low) (λ i. component a i) s
        (Finds f (number_is layout G (place + 1 + 1) line (operand.Place q ∷ rest) low high of x.low a q indexes injection memory spot described s matches living ∙ at_first) (record {
          injection = injection;
          memory = memory;
          operands = operand.Place (component_place layout G (place + 1 + 1) line (operand.Place q ∷ rest) low high of x.low a q indexes injection memory spot described f) ∷ operand.Place q ∷ rest;
          does = index_leads layout G (place + 1 + 1) line (operand.Place q ∷ rest) low high of x.low a q indexes injection memory spot described s matches living f at_first;
          matches = matches;
          here = known;
          post = inside_here (
            record {
              place = component_place layout G (place + 1 + 1) line (operand.Place q ∷ rest) low high of x.low a q indexes injection memory spot described f;
              is = refl;
              spot = component_spot layout G (place + 1 + 1) line (operand.Place q ∷ rest) low high of x.low a q indexes injection memory spot described f (is_within_count (count_of low high) (gap low x.low) f at_first);
              described = (let e = array layout G (place + 1 + 1) line (operand.Place q ∷ rest) low high of x.low a q indexes injection memory spot described in e.like);
            },
            refl,
          );
        })) (omega (arith, enough)))

    -- All of it.
    pub at_ranges_follow : IsElementFollowed layout G untouched Here lasts ps p references call steady_call g unit line n (type.Array low high of) (AtRanges ranges y) at (first_code line ranges ++ (xs ++ bare line op.STORE ∷ fills))
    at_ranges_follow injection memory rest a q d enough home spot described =
        fragment_to {to = end} (omega (arith, length-append (first_code line ranges) (xs ++ bare line op.STORE ∷ fills), length-append xs (bare line op.STORE ∷ fills)))
        (fragment_waits {d1 = d - 1} (λ s matches. outcome_at G (bare line op.DUP) place (operand.Place q ∷ rest) memory s.trace stands.0) (omega (arith, enough))
        (fragment_waits {d1 = d - 2} (λ s matches. push_pushes G (place + 1) line (operand.Place q ∷ operand.Place q ∷ rest) x.low pushes memory s.trace) (omega (arith, enough))
        (inside_bind {First = IsFirst a f (operand.Place q ∷ rest)} {e = λ c. d - 3} (λ c. steady_bind (steady_eval call steady_call g unit line y) (λ v. steady_bind (steady_given call steady_call g unit line c v) (λ _. steady_fills_all a v ranges)))
        (first_located_follows injection memory rest a q (d - 2) (d - 3) (omega (arith, enough)) home spot described)
        (λ c v1 m1 pushed1 grown1 routine1 top.
        let its : PlaceOnTop of (operand.Place q ∷ rest) (component a f) v1 m1 pushed1 = subst (λ b. PlaceOnTop of (operand.Place q ∷ rest) b v1 m1 pushed1) top.1 top.0 in
        let home1 : unit_in G m1.frames ≡ unit = unit_in-same G routine1 ∙ home in
        subst (λ b. Fragment layout G Here n (point v1 m1 (place + 1 + 1 + 1) pushed1) (bind (eval call g unit line y) (λ v. bind (given call g unit line b v) (λ _. fills_all a v ranges))) end (λ u. Inside untouched v1 m1 (Bare (operand.Place q ∷ rest) u)) (d - 3) (λ u. d)) (sym top.1)
        (subst (λ st. Fragment layout G Here n (point v1 m1 (place + 1 + 1 + 1) st) (bind (eval call g unit line y) (λ v. bind (given call g unit line (component a f) v) (λ _. fills_all a v ranges))) end (λ u. Inside untouched v1 m1 (Bare (operand.Place q ∷ rest) u)) (d - 3) (λ u. d)) (sym its.is)
        (fragment_from {place = p.instructions.before + (at + 3)} (omega arith)
        (inside_bind {First = OnTop k (operand.Place its.place ∷ operand.Place q ∷ rest)} {e = λ v. d - 3 + 8 + weight_of v} (λ v. steady_bind (steady_given call steady_call g unit line (component a f) v) (λ _. steady_fills_all a v ranges))
        (follows v1 m1 (operand.Place its.place ∷ operand.Place q ∷ rest) (d - 3) (omega (arith, enough)) home1)
        (λ v v2 m2 pushed2 grown2 routine2 on_top.
        let z = value_on_top k (operand.Place its.place ∷ operand.Place q ∷ rest) v v2 m2 pushed2 on_top in
        subst (λ st. Fragment layout G Here n (point v2 m2 (p.instructions.before + to_store) st) (bind (given call g unit line (component a f) v) (λ _. fills_all a v ranges)) end (λ u. Inside untouched v2 m2 (Bare (operand.Place q ∷ rest) u)) (d - 3 + 8 + weight_of v) (λ u. d)) (sym z.2)
        (fragment_credit {d = d + 1 + weight_of v} {e = λ u. d} (omega (arith, enough)) (λ u. omega (arith, enough))
        (stored_follows v2 m2 rest a q its.place v z.0 z.1 (unit_in-same G routine2 ∙ home1) (is_spot-grown grown2 (is_spot-grown grown1 spot)) (describes-grown q.type_number (type.Array low high of) grown2 (describes-grown q.type_number (type.Array low high of) grown1 described)) (is_spot-grown grown2 its.spot) (describes-grown its.place.type_number of grown2 its.described) d (omega (arith, enough))))))))))))
