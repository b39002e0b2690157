-- The machine follows `for`.
use Rattle.std.proofs.Common.{◌≡◌, ℕ, ℤ, pos, zero, suc, ◌+◌, ◌-◌, ◌≤◌, ◌<◌, Bool, true, false, not, List, [], ◌∷◌, ◌++◌, length, length-append, refl, sym, ap, ◌∙◌, subst, arith}
use Rattle.std.specs.Prelude.{if◌then◌else◌}
use Rattle.ep_gen_code.specs.Instructions.{instr, bare}
use Rattle.ep_gen_expr.specs.ExprCode.{two_code, IsExprCode}
use Rattle.ep_gen_expr.proofs.public.PlaceTypes.{kind_place}
use Rattle.ep_gen_code.proofs.public.Placed.{jump_has, jump_false_has}
use Rattle.ep_gen_unit.proofs.Parts.{code_stands-parts, Moves, ExpressionsFollow, PlacesFollow, statement_credit, ordinal_of_host}
use Rattle.ep_simulation.specs.Follows.{point, Facts, Lasts, Fragment, Follows, Lands, Inside, Bare, IsNotLeft}
use Rattle.ep_simulation.specs.Layouts.{Layout}
use Rattle.ep_simulation.specs.Matching.{Slots, MachineMemory, Injection, IsLike, IsSpot, at as standing}
use Rattle.ep_object.specs.Operands.{Operand, Word}
use Rattle.ep_object.specs.Operands as operand
use Rattle.ep_object.specs.Placing.{Placement, CodeStands}
use Rattle.ep_object.specs.Runs.{outcome, unit_in}
use Rattle.ep_simulation.specs.Scene.{Scene}
use Rattle.ep_object.specs.State.{Running}
use Rattle.ep_object.specs.declared.code.Image.{Image}
use Rattle.ep_object.specs.declared.code.Instr.{Instr}
use Rattle.ep_object.specs.declared.code.Reference.{Reference}
use Rattle.ep_object.specs.declared.state.Place.{Place as PlaceOf}
use Rattle.ep_gen_unit.specs.StmtCode.{IsAssignCode, AreBoundsCode, IsFirstCode, IsTestCode, IsUndefineCode, for_code}
use Rattle.ep_gen_unit.proofs.Simple.{assigned_moves}
use Rattle.ep_simulation.proofs.public.rows.ChangeRows.{ordinal_takes}
use Rattle.ep_gen_unit.proofs.StmtStays.{for_length}
use Rattle.ep_values.specs.declared.run_error.TheConstants as run_error
use Rattle.ep_values.specs.Events.{Trace}
use Rattle.ep_simulation.proofs.public.following.Bind.{follows_paid, follows_changed}
use Rattle.ep_simulation.proofs.public.following.Choices.{fragment_branch, fragment_branch_one, fragment_using}
use Rattle.ep_simulation.proofs.public.following.Fragments.{Does, FailsWith, landed, fragment_cut, fragment_give, fragment_to, fragment_from, fragment_less, fragment_credit, fragment_waits, fragment_move, fragment_bind_number, fragment_bind_bare, fragment_bind_place}
use Rattle.ep_simulation.proofs.public.matching.MoreMemory.{unit_in-same, inside_here, not_left-here}
use Rattle.ep_simulation.proofs.public.rows.ChangeRows.{undefine_does, undefine_fails_ended}
use Rattle.ep_simulation.proofs.public.rows.Rows.{jump_jumps, jump_false_jumps, unequal_answers}
use Rattle.ep_simulation.proofs.public.rows.TextRows.{drop_drops, dup_pushes}
use Rattle.ep_meaning.specs.Controls.{in_order, next_value}
use Rattle.ep_meaning.specs.Steady.{Steady, IsSteadyHandler}
use Rattle.ep_meaning.specs.Calls.{Handler}
use Rattle.ep_meaning.proofs.public.Steady.{steady_bind, steady_spend, steady_give, steady_if, steady_using, steady_eval, steady_exec, steady_assigns, steady_undefined, steady_undefines, steady_turns_to, steady_counts}
use Rattle.ep_meaning.specs.Meaning.{eval, exec, assigns, undefines, turns_to, counts}
use Rattle.ep_meaning.specs.Results.{weight_of}
use Rattle.ep_values.specs.Operations.{is_same, is_true, ordinal_of}
use Rattle.ep_values.specs.Printing.{number_of}
use Rattle.ep_meaning.specs.Steps.{Component, Computation, assigned, bind, change, give, spend, using, has_ended}
use Rattle.ep_values.specs.Values.{Undefined}
use Rattle.ep_meaning.specs.Steps as meaning
use Rattle.ep_typed.specs.Trees.{Entire, entire, Expr, Read, Two, Control, Stmt, For}
use Rattle.ep_meaning.specs.Valid as kind
use Rattle.ep_meaning.specs.Valid.{Declarations, IsControl, IsExpr, IsPlace}
use Rattle.ep_typed.specs.Hosts as host
use Rattle.ep_typed.specs.Hosts.{Host}
use Rattle.ep_values.specs.declared.operations.Binary.TheVariants as binary
use Rattle.ep_values.specs.TypeValues as type
use Rattle.ep_object.specs.declared.op.TheConstants as op

-- ---- what a control is made of is valid

pub in_order_valid : (declared : Declarations) (h : Host) (c : Control) → IsControl declared h c → IsExpr declared (kind.Ordinal host.Boolean) (in_order c)
in_order_valid declared h c control = go c.falls
  where
    go : (b : Bool) → IsExpr declared (kind.Ordinal host.Boolean) (Two (if b then binary.AtLeast else binary.AtMost) (Read (entire c.initial)) (Read (entire c.last)))
    go true = (kind.Ordinal host.Integer, kind.Ordinal host.Integer, ((host.Integer, refl, refl), refl), control.initial, control.last)
    go false = (kind.Ordinal host.Integer, kind.Ordinal host.Integer, ((host.Integer, refl, refl), refl), control.initial, control.last)

pub next_value_valid : (declared : Declarations) (h : Host) (c : Control) → IsControl declared h c → IsExpr declared (kind.Ordinal h) (next_value c)
next_value_valid declared h c control = (h, refl, control.low, control.high, control.variable, (host.Integer, refl, refl))

-- ---- where the parts stand

module _ (G : Image) (ps : List Placement) (p : Placement) (texts : List (List ℕ)) (references : List Reference) (line at : ℕ) (c : Control) (x y : Expr) (bounds first body test next ends : List Instr) where
  -- the places of the parts
  abbrev pub first_at : ℕ
  first_at = at + length bounds + 1

  abbrev pub body_at : ℕ
  body_at = at + length bounds + 1 + length first

  abbrev pub test_at : ℕ
  test_at = body_at + length body

  abbrev pub next_at : ℕ
  next_at = test_at + length test + 1

  abbrev pub back_at : ℕ
  back_at = next_at + length next

  -- each part of the code stands in the image
  pub record ForStands : Type 0 where
    pub is_bounds : AreBoundsCode texts references line at c x y bounds
    pub is_first : IsFirstCode texts references line first_at c first
    pub is_test : IsTestCode texts references line test_at c test
    pub is_next : IsAssignCode texts references line next_at (entire c.variable) (next_value c) next
    pub is_end : IsUndefineCode texts references line (back_at + 1 + 1) c.variable ends
    pub bounds_stand : CodeStands G ps p references at bounds
    pub skips : CodeStands G ps p references (at + length bounds) (instr op.JUMP_FALSE (pos (back_at + 1 + 1)) 0 line ∷ [])
    pub first_stands : CodeStands G ps p references first_at first
    pub body_stands : CodeStands G ps p references body_at body
    pub test_stands : CodeStands G ps p references test_at test
    pub leaves : CodeStands G ps p references (test_at + length test) (instr op.JUMP_FALSE (pos (back_at + 1)) 0 line ∷ [])
    pub next_stands : CodeStands G ps p references next_at next
    pub back : CodeStands G ps p references back_at (instr op.JUMP (pos body_at) 0 line ∷ [])
    pub drop : CodeStands G ps p references (back_at + 1) (bare line op.DROP ∷ [])
    pub ends_stand : CodeStands G ps p references (back_at + 1 + 1) ends
    pub room : back_at + 1 + 1 + length ends < p.instructions.own
    pub total : at + length (for_code line at bounds first body test next ends) ≡ back_at + 1 + 1 + length ends

  pub for_stands : AreBoundsCode texts references line at c x y bounds → IsFirstCode texts references line first_at c first → IsTestCode texts references line test_at c test → IsAssignCode texts references line next_at (entire c.variable) (next_value c) next → IsUndefineCode texts references line (back_at + 1 + 1) c.variable ends
      → CodeStands G ps p references at (for_code line at bounds first body test next ends) → at + length (for_code line at bounds first body test next ends) < p.instructions.own → ForStands
  for_stands is_bounds is_first is_test is_next is_end stands inside =
      let tail : List Instr = instr op.JUMP (pos body_at) 0 line ∷ bare line op.DROP ∷ ends in
      let turn : List Instr = test ++ instr op.JUMP_FALSE (pos (back_at + 1)) 0 line ∷ (next ++ tail) in
      let one = code_stands-parts G ps p references at bounds (instr op.JUMP_FALSE (pos (back_at + 1 + 1)) 0 line ∷ (first ++ (body ++ turn))) stands in
      let two = code_stands-parts G ps p references first_at first (body ++ turn) one.1.1 in
      let three = code_stands-parts G ps p references body_at body turn two.1 in
      let four = code_stands-parts G ps p references test_at test (instr op.JUMP_FALSE (pos (back_at + 1)) 0 line ∷ (next ++ tail)) three.1 in
      let five = code_stands-parts G ps p references next_at next tail four.1.1 in
      let total : at + length (for_code line at bounds first body test next ends) ≡ back_at + 1 + 1 + length ends = omega (arith, for_length line at bounds first body test next ends) in
      record {
        is_bounds = is_bounds;
        is_first = is_first;
        is_test = is_test;
        is_next = is_next;
        is_end = is_end;
        bounds_stand = one.0;
        skips = (one.1.0, tt);
        first_stands = two.0;
        body_stands = three.0;
        test_stands = four.0;
        leaves = (four.1.0, tt);
        next_stands = five.0;
        back = (five.1.0, tt);
        drop = (five.1.1.0, tt);
        ends_stand = five.1.1.1;
        room = omega (arith, total, inside);
        total = total;
      }

-- where a jump goes that is taken for the last value
jump_where : (b : Bool) (x y : ℕ) → (if is_true (ordinal_of (not b)) then x else y) ≡ (if b then y else x)
jump_where true x y = refl
jump_where false x y = refl

module _ {declared : Declarations} {layout : Layout} {G : Image} {untouched : Slots} {Here : Facts} (lasts : Lasts untouched Here) (ps : List Placement) (p : Placement) (texts : List (List ℕ)) (references : List Reference) (call : Handler) (steady_call : IsSteadyHandler call) (n : ℕ) (unit : List ℕ) (room : p.instructions.before + p.instructions.own ≤ length G.instructions)
    (scene : Scene declared layout G ps p texts) (expressions : ExpressionsFollow declared layout G untouched Here ps p texts references call n unit) (places : PlacesFollow declared layout G untouched Here ps p texts references call n unit) where
  -- ---- the end

  -- the instruction that makes a variable undefined
  pub undefine_moves : (low high : ℤ) (a : Component) (q : PlaceOf) (line at : ℕ) → CodeStands G ps p references at (bare line op.UNDEFINE ∷ []) → (injection : Injection) (memory : MachineMemory) (below : List Operand) (d : ℕ) → 2 ≤ d → unit_in G memory.frames ≡ unit → IsSpot injection memory.types a q → IsLike memory.types q.type_number (type.Ordinal low high)
      → Fragment layout G Here n (point injection memory (p.instructions.before + at) (operand.Place q ∷ below)) (using (meaning.Error run_error.DISPOSED unit line) a.allocation (spend 1 (change (assigned a Undefined)))) (p.instructions.before + at + 1) (λ b. Inside untouched injection memory (Bare below b)) d (λ b. d)
  undefine_moves low high a q line at stands injection memory below d enough home spot described =
      fragment_less {n = suc n} (omega arith) (fragment_using {n = suc n} {e = λ b. d} a.allocation
      (λ s matches ended. subst (λ u. FailsWith G (standing (p.instructions.before + at) (operand.Place q ∷ below) memory s.trace) 1 11 u line s) home (undefine_fails_ended layout G (p.instructions.before + at) line below low high a q stands.0 injection memory spot described s matches ended))
      (omega (arith, enough))
      (λ s matches here living. lives s (undefine_does layout G (p.instructions.before + at) line below low high a q stands.0 injection memory spot described s matches living lasts here)))
    where
      lives : (s : meaning.State) → Does layout G Here (standing (p.instructions.before + at) (operand.Place q ∷ below) memory s.trace) 1 (p.instructions.before + at + 1) (Inside untouched injection memory (Bare below tt)) (assigned a Undefined s)
          → Follows (λ k. IsNotLeft memory.frames k.frames) G (suc n) (standing (p.instructions.before + at) (operand.Place q ∷ below) memory s.trace) s (spend 1 (change (assigned a Undefined))) (λ b. Lands layout G Here (p.instructions.before + at + 1) (Inside untouched injection memory (Bare below b))) d (λ b. d)
      lives s does = follows_paid {v = 1} {w = 0} {d1 = d} (not_left-here memory.frames) refl does.does (omega arith) (omega arith) (omega arith) (follows_changed {n = n} (assigned a Undefined) {P = λ b. Lands layout G Here (p.instructions.before + at + 1) (Inside untouched injection memory (Bare below b))} {d = d} {e = λ b. d} (omega arith) (landed does))

  -- the control variable becomes undefined, and the statement spends its step
  pub end_moves : (line at : ℕ) (q : Entire) (h : Host) (is : List Instr) → IsPlace declared h (entire q) → IsUndefineCode texts references line at q is → CodeStands G ps p references at is → at + length is < p.instructions.own
      → Moves layout G untouched Here ps p texts references call n unit at (at + length is) (bind (undefines call n unit line (entire q)) (λ b. spend 1 (give tt)))
  end_moves line at q h is is_place code stands inside injection memory below d enough home =
      let v = kind_place declared scene.types_valid scene.own_types_valid (kind.Ordinal h) (entire q) is_place in
      let t = ordinal_of_host h v.type_value v.of_kind in
      let parts = code_stands-parts G ps p references at code.0 (bare line op.UNDEFINE ∷ []) (subst (λ w. CodeStands G ps p references at w) code.2 stands) in
      let ends : p.instructions.before + (at + length code.0) + 1 ≡ p.instructions.before + (at + length is) = omega (arith, ap length code.2, length-append code.0 (bare line op.UNDEFINE ∷ [])) in
      fragment_bind_bare {e = λ b. d + 8} (λ b. steady_spend 1 (steady_give tt))
      (fragment_bind_place {type = v.type_value} {e = λ a. d + 8} (λ a. steady_using (meaning.Error run_error.DISPOSED unit line) a.allocation (steady_undefined call steady_call n unit a)) (places (entire q) v.valid v.type_value v.has_type line at code.0 code.1 parts.0 (omega (arith, ends, inside)) injection memory below d (omega arith) home) (λ a place_here longer after grown routine spot described.
      fragment_to ends (undefine_moves t.0 t.1 a place_here line (at + length code.0) parts.1 longer after below (d + 8) (omega (arith, enough)) (unit_in-same G routine ∙ home) spot (subst (λ w. IsLike after.types place_here.type_number w) t.2 described))))
      (λ b last final grown routine. fragment_less {n = suc n} (omega arith) (fragment_move {d1 = d} (omega arith) (fragment_give (omega arith) (inside_here refl))))

  -- ---- the turns

  -- where the parts of the code of the turns stand, with the final value on the operands
  pub record TurnsStand (line body_at test_at back_at : ℕ) (c : Control) : Type 0 where
    pub read : List Instr
    pub is_read : IsExprCode texts references line (test_at + 1) (Read (entire c.variable)) read
    pub dup : CodeStands G ps p references test_at (bare line op.DUP ∷ [])
    pub reads : CodeStands G ps p references (test_at + 1) read
    pub compares : CodeStands G ps p references (test_at + 1 + length read) (two_code line binary.Unequal ∷ [])
    pub leaves : CodeStands G ps p references (test_at + 1 + length read + 1) (instr op.JUMP_FALSE (pos (back_at + 1)) 0 line ∷ [])
    pub back : CodeStands G ps p references back_at (instr op.JUMP (pos body_at) 0 line ∷ [])
    pub drop : CodeStands G ps p references (back_at + 1) (bare line op.DROP ∷ [])
    pub before : body_at ≤ back_at
    pub order : test_at + 1 + length read + 1 ≤ back_at
    pub inside : back_at + 1 < p.instructions.own

  module _ (line body_at test_at back_at : ℕ) (c : Control) (h : Host) (s : Stmt) (control : IsControl declared h c) (x : TurnsStand line body_at test_at back_at c)
      (body : Moves layout G untouched Here ps p texts references call n unit body_at test_at (exec call n unit s))
      (next : Moves layout G untouched Here ps p texts references call n unit (test_at + 1 + length x.read + 2) back_at (assigns call n unit line (entire c.variable) (next_value c))) where
    steady_next : (k : ℕ) (z : ℤ) → Steady (bind (assigns call n unit line (entire c.variable) (next_value c)) (λ b. turns_to call n unit k line c z (exec call n unit s)))
    steady_next k z = steady_bind (steady_assigns call steady_call n unit line (entire c.variable) (next_value c)) (λ b. steady_turns_to call steady_call n unit k line c z (steady_exec call steady_call n unit s))

    steady_tested : (k : ℕ) (z w : ℤ) → Steady (spend 1 (if is_same z w then give tt else bind (assigns call n unit line (entire c.variable) (next_value c)) (λ b. turns_to call n unit k line c z (exec call n unit s))))
    steady_tested k z w = steady_spend 1 (steady_if (is_same z w) (steady_give tt) (steady_next k z))

    pub turns_follow : (z : ℤ) (k : ℕ) → k ≤ n → (injection : Injection) (memory : MachineMemory) (below : List Operand) (d : ℕ) → statement_credit ≤ d → unit_in G memory.frames ≡ unit
        → Fragment layout G Here k (point injection memory (p.instructions.before + body_at) (Word z ∷ below)) (turns_to call n unit k line c z (exec call n unit s)) (p.instructions.before + (back_at + 2)) (λ b. Inside untouched injection memory (Bare below b)) d (λ b. d)
    turns_follow z zero le injection memory below d enough home = fragment_cut
    turns_follow z (suc k) le injection memory below d enough home =
        fragment_bind_bare {e = λ b. d} (λ b. steady_bind (steady_eval call steady_call n unit line (Read (entire c.variable))) (λ r. steady_tested k z (number_of r)))
        (fragment_less le (body injection memory (Word z ∷ below) d enough home)) (λ b v1 m1 grown1 routine1.
        fragment_waits {d1 = d - 1} (λ s1 matches. dup_pushes G (p.instructions.before + test_at) line below z x.dup.0 m1 s1.trace) (omega (arith, enough))
        (fragment_from {place = p.instructions.before + (test_at + 1)} (omega arith)
        (fragment_bind_number {host = h} {e = λ r. d - 1 + 8 + weight_of r} (λ r. steady_tested k z (number_of r))
        (fragment_less le (expressions (kind.Ordinal h) (Read (entire c.variable)) control.variable line (test_at + 1) x.read x.is_read x.reads (omega (arith, x.order, x.inside)) v1 m1 (Word z ∷ Word z ∷ below) (d - 1) (omega (arith, enough)) (unit_in-same G routine1 ∙ home))) (λ w v2 m2 of_host grown2 routine2.
        fragment_waits {d1 = d + 6} (λ s1 matches. unequal_answers G (p.instructions.before + (test_at + 1 + length x.read)) line (Word z ∷ below) z w x.compares.0 m2 s1.trace) (omega (arith, enough))
        (fragment_from {place = p.instructions.before + (test_at + 1 + length x.read + 1)} (omega arith)
        (fragment_branch_one {then_place = p.instructions.before + (back_at + 1)} {else_place = p.instructions.before + (test_at + 1 + length x.read + 2)} {d1 = d + 8} (is_same z w)
        (λ s1 matches. tests z w below m2 s1.trace) (omega (arith, enough))
        (λ is. fragment_waits {d1 = d} (λ s1 matches. drop_drops G (p.instructions.before + (back_at + 1)) line below (Word z) x.drop.0 m2 s1.trace) (omega arith) (fragment_to (omega arith) (fragment_give (omega arith) (inside_here refl))))
        (λ is. fragment_bind_bare {e = λ b. d + 8} (λ b. steady_turns_to call steady_call n unit k line c z (steady_exec call steady_call n unit s))
        (fragment_less (omega (arith, le)) (next v2 m2 (Word z ∷ below) (d + 8) (omega (arith, enough)) (unit_in-same G routine2 ∙ (unit_in-same G routine1 ∙ home)))) (λ b v3 m3 grown3 routine3.
        fragment_waits {d1 = d} (λ s1 matches. jump_jumps G (p.instructions.before + back_at) line (Word z ∷ below) (p.instructions.before + body_at) (omega (arith, room, x.before, x.inside)) (jump_has G ps p references line back_at body_at [] (omega (arith, x.before, x.inside)) x.back) m3 s1.trace) (omega arith)
        (turns_follow z k (omega (arith, le)) v3 m3 below d enough (unit_in-same G routine3 ∙ (unit_in-same G routine2 ∙ (unit_in-same G routine1 ∙ home))))))))))))
      where
        -- the jump that is taken where the value is the last one
        tests : (z w : ℤ) (below : List Operand) (memory : MachineMemory) (trace : Trace) → outcome G (standing (p.instructions.before + (test_at + 1 + length x.read + 1)) (Word (ordinal_of (not (is_same z w))) ∷ Word z ∷ below) memory trace)
            ≡ record { weight = 0; to = Running 0 (standing (if is_same z w then p.instructions.before + (back_at + 1) else p.instructions.before + (test_at + 1 + length x.read + 2)) (Word z ∷ below) memory trace) }
        tests z w below memory trace =
            let here : ℕ = p.instructions.before + (test_at + 1 + length x.read + 1) in
            let next_at : ℕ = p.instructions.before + (test_at + 1 + length x.read + 2) in
            let same : here + 1 ≡ next_at = omega arith in
            jump_false_jumps G here line (Word z ∷ below) (ordinal_of (not (is_same z w))) (p.instructions.before + (back_at + 1)) (omega (arith, room, x.inside)) (jump_false_has G ps p references line (test_at + 1 + length x.read + 1) (back_at + 1) [] x.inside x.leaves) memory trace
            ∙ ap (λ k. record { weight = 0; to = Running 0 (standing k (Word z ∷ below) memory trace) }) (jump_where (is_same z w) (here + 1) (p.instructions.before + (back_at + 1)) ∙ ap (λ k. if is_same z w then p.instructions.before + (back_at + 1) else k) same)

  -- ---- the whole

  module _ (line at : ℕ) (c : Control) (x y : Expr) (s : Stmt) (bounds first body test next ends : List Instr) (h : Host) (control : IsControl declared h c) (valid_initial : IsExpr declared (kind.Ordinal h) x) (valid_last : IsExpr declared (kind.Ordinal h) y)
      (parts : ForStands G ps p texts references line at c x y bounds first body test next ends)
      (body_moves : Moves layout G untouched Here ps p texts references call n unit (body_at G ps p texts references line at c x y bounds first body test next ends) (test_at G ps p texts references line at c x y bounds first body test next ends) (exec call n unit s)) where
    abbrev f_at : ℕ
    f_at = at + length bounds + 1

    abbrev b_at : ℕ
    b_at = f_at + length first

    abbrev t_at : ℕ
    t_at = b_at + length body

    abbrev n_at : ℕ
    n_at = t_at + length test + 1

    abbrev k_at : ℕ
    k_at = n_at + length next

    abbrev whole : ℕ
    whole = k_at + 1 + 1

    steady_body : Steady (exec call n unit s)
    steady_body = steady_exec call steady_call n unit s

    abbrev turns_stand : TurnsStand line b_at t_at k_at c
    turns_stand =
        let code = parts.is_test in
        let all = subst (λ w. CodeStands G ps p references t_at w) code.2 parts.test_stands in
        let split = code_stands-parts G ps p references (t_at + 1) code.0 (two_code line binary.Unequal ∷ []) all.1 in
        let long : t_at + length test ≡ t_at + 1 + length code.0 + 1 = omega (arith, ap length code.2, length-append code.0 (two_code line binary.Unequal ∷ [])) in
        record {
          read = code.0;
          is_read = code.1;
          dup = (all.0, tt);
          reads = split.0;
          compares = split.1;
          leaves = subst (λ w. CodeStands G ps p references w (instr op.JUMP_FALSE (pos (k_at + 1)) 0 line ∷ [])) long parts.leaves;
          back = parts.back;
          drop = parts.drop;
          before = omega arith;
          order = omega (arith, long);
          inside = omega (arith, parts.room);
        }

    next_moves : Moves layout G untouched Here ps p texts references call n unit (t_at + 1 + length turns_stand.read + 2) k_at (assigns call n unit line (entire c.variable) (next_value c))
    next_moves =
        let code = parts.is_test in
        let long : n_at ≡ t_at + 1 + length code.0 + 2 = omega (arith, ap length code.2, length-append code.0 (two_code line binary.Unequal ∷ [])) in
        subst (λ w. Moves layout G untouched Here ps p texts references call n unit w k_at (assigns call n unit line (entire c.variable) (next_value c))) long
        (assigned_moves lasts ps p texts references call steady_call n unit scene expressions places line n_at (entire c.variable) (kind.Ordinal h) (kind.Ordinal h) (ordinal_takes h h) (next_value c) next control.variable (next_value_valid declared h c control) parts.is_next (omega (arith, parts.room)) parts.next_stands)

    steady_turns : (w : ℤ) → Steady (turns_to call n unit n line c w (exec call n unit s))
    steady_turns w = steady_turns_to call steady_call n unit n line c w steady_body

    -- the turns, and what comes before them
    counts_moves : (injection : Injection) (memory : MachineMemory) (below : List Operand) (d : ℕ) → statement_credit ≤ d → unit_in G memory.frames ≡ unit
        → Fragment layout G Here n (point injection memory (p.instructions.before + f_at) below) (counts call n unit line c (exec call n unit s)) (p.instructions.before + whole) (λ b. Inside untouched injection memory (Bare below b)) (d + 7) (λ b. d)
    counts_moves injection memory below d enough home =
        let code = parts.is_first in
        let all = subst (λ w. CodeStands G ps p references f_at w) code.6 parts.first_stands in
        let one = code_stands-parts G ps p references f_at code.0 (code.1 ++ code.2) all in
        let two = code_stands-parts G ps p references (f_at + length code.0) code.1 code.2 one.1 in
        let long : length first ≡ length code.0 + length code.1 + length code.2 = omega (arith, ap length code.6, length-append code.0 (code.1 ++ code.2), length-append code.1 code.2) in
        let tries = assigned_moves lasts ps p texts references call steady_call n unit scene expressions places line (f_at + length code.0) (entire c.variable) (kind.Ordinal h) (kind.Ordinal host.Integer) (ordinal_takes h host.Integer) (Read (entire c.last)) code.1 control.variable control.last code.4 (omega (arith, long, parts.room)) two.0 in
        let starts = assigned_moves lasts ps p texts references call steady_call n unit scene expressions places line (f_at + length code.0 + length code.1) (entire c.variable) (kind.Ordinal h) (kind.Ordinal host.Integer) (ordinal_takes h host.Integer) (Read (entire c.initial)) code.2 control.variable control.initial code.5 (omega (arith, long, parts.room)) two.1 in
        fragment_bind_number {host = host.Integer} {e = λ r. d + 7 + 8 + weight_of r} (λ r. steady_bind (steady_assigns call steady_call n unit line (entire c.variable) (Read (entire c.last))) (λ b. steady_bind (steady_assigns call steady_call n unit line (entire c.variable) (Read (entire c.initial))) (λ b. steady_turns (number_of r))))
        (expressions (kind.Ordinal host.Integer) (Read (entire c.last)) control.last line f_at code.0 code.3 one.0 (omega (arith, long, parts.room)) injection memory below (d + 7) (omega (arith, enough)) home) (λ w v1 m1 of_host grown1 routine1.
        fragment_bind_bare {e = λ b. d + 7 + 8 + 0} (λ b. steady_bind (steady_assigns call steady_call n unit line (entire c.variable) (Read (entire c.initial))) (λ b. steady_turns w))
        (tries v1 m1 (Word w ∷ below) (d + 7 + 8 + 0) (omega (arith, enough)) (unit_in-same G routine1 ∙ home)) (λ b v2 m2 grown2 routine2.
        fragment_bind_bare {e = λ b. d + 7 + 8 + 0} (λ b. steady_turns w)
        (fragment_to {to = p.instructions.before + (f_at + length code.0 + length code.1 + length code.2)} (omega (arith, long)) (starts v2 m2 (Word w ∷ below) (d + 7 + 8 + 0) (omega (arith, enough)) (unit_in-same G routine2 ∙ (unit_in-same G routine1 ∙ home)))) (λ b v3 m3 grown3 routine3.
        fragment_credit {d = d} {e = λ b. d} (omega arith) (λ b. omega arith) (fragment_to (omega arith)
        (turns_follow line b_at t_at k_at c h s control turns_stand body_moves next_moves w n (omega arith) v3 m3 below d enough (unit_in-same G routine3 ∙ (unit_in-same G routine2 ∙ (unit_in-same G routine1 ∙ home))))))))

    steady_counted : Steady (counts call n unit line c (exec call n unit s))
    steady_counted = steady_counts call steady_call n unit line c steady_body

    abbrev choice : Computation (Unit {0})
    choice = bind (eval call n unit line (in_order c)) (λ r. if is_true (number_of r) then counts call n unit line c (exec call n unit s) else give tt)

    steady_choice : Steady choice
    steady_choice = steady_bind (steady_eval call steady_call n unit line (in_order c)) (λ r. steady_if (is_true (number_of r)) steady_counted (steady_give tt))

    steady_end : Steady {A = Unit {0}} (bind (undefines call n unit line (entire c.variable)) (λ b. spend 1 (give tt)))
    steady_end = steady_bind (steady_undefines call steady_call n unit line (entire c.variable)) (λ b. steady_spend 1 (steady_give tt))

    -- whether there is a turn, and the turns where there is one
    choice_moves : (tests : List Instr) (at_test : ℕ) → IsExprCode texts references line at_test (in_order c) tests → CodeStands G ps p references at_test tests → at_test + length tests ≡ at + length bounds → Moves layout G untouched Here ps p texts references call n unit at_test whole choice
    choice_moves tests at_test code stands ends_at injection memory below d enough home =
        let skip_at : ℕ = p.instructions.before + (at + length bounds) in
        fragment_bind_number {host = host.Boolean} {e = λ r. d + 8 + weight_of r} (λ r. steady_if (is_true (number_of r)) steady_counted (steady_give tt))
        (fragment_to (ap (λ w. p.instructions.before + w) ends_at) (expressions (kind.Ordinal host.Boolean) (in_order c) (in_order_valid declared h c control) line at_test tests code stands (omega (arith, ends_at, parts.room)) injection memory below d (omega (arith, enough)) home)) (λ z v1 m1 of_host grown1 routine1.
        fragment_branch {then_place = skip_at + 1} {else_place = p.instructions.before + whole} {d1 = d + 7} (is_true z)
        (λ s1 matches. jump_false_jumps G skip_at line below z (p.instructions.before + whole) (omega (arith, room, parts.room)) (jump_false_has G ps p references line (at + length bounds) whole [] (omega (arith, parts.room)) parts.skips) m1 s1.trace) (omega arith)
        (λ is. fragment_from {place = p.instructions.before + f_at} (omega arith) (counts_moves v1 m1 below d enough (unit_in-same G routine1 ∙ home)))
        (λ is. fragment_give (omega arith) (inside_here refl)))

    pub for_parts : Moves layout G untouched Here ps p texts references call n unit at (at + length (for_code line at bounds first body test next ends)) (exec call n unit (For line c x y s))
    for_parts injection memory below d enough home =
        let code = parts.is_bounds in
        let all = subst (λ w. CodeStands G ps p references at w) code.6 parts.bounds_stand in
        let one = code_stands-parts G ps p references at code.0 (code.1 ++ code.2) all in
        let two = code_stands-parts G ps p references (at + length code.0) code.1 code.2 one.1 in
        let long : length bounds ≡ length code.0 + length code.1 + length code.2 = omega (arith, ap length code.6, length-append code.0 (code.1 ++ code.2), length-append code.1 code.2) in
        let initials = assigned_moves lasts ps p texts references call steady_call n unit scene expressions places line at (entire c.initial) (kind.Ordinal host.Integer) (kind.Ordinal h) (ordinal_takes host.Integer h) x code.0 control.initial valid_initial code.3 (omega (arith, long, parts.room)) one.0 in
        let finals = assigned_moves lasts ps p texts references call steady_call n unit scene expressions places line (at + length code.0) (entire c.last) (kind.Ordinal host.Integer) (kind.Ordinal h) (ordinal_takes host.Integer h) y code.1 control.last valid_last code.4 (omega (arith, long, parts.room)) two.0 in
        fragment_to (ap (λ w. p.instructions.before + w) (sym parts.total))
        (fragment_bind_bare {e = λ b. d} (λ b. steady_bind (steady_assigns call steady_call n unit line (entire c.last) y) (λ b. steady_bind steady_choice (λ b. steady_end))) (initials injection memory below d enough home) (λ b v1 m1 grown1 routine1.
        fragment_bind_bare {e = λ b. d} (λ b. steady_bind steady_choice (λ b. steady_end)) (finals v1 m1 below d enough (unit_in-same G routine1 ∙ home)) (λ b v2 m2 grown2 routine2.
        fragment_bind_bare {e = λ b. d} (λ b. steady_end) (choice_moves code.2 (at + length code.0 + length code.1) code.5 two.1 (omega (arith, long)) v2 m2 below d enough (unit_in-same G routine2 ∙ (unit_in-same G routine1 ∙ home))) (λ b v3 m3 grown3 routine3.
        end_moves line whole c.variable h ends control.variable parts.is_end parts.ends_stand parts.room v3 m3 below d enough (unit_in-same G routine3 ∙ (unit_in-same G routine2 ∙ (unit_in-same G routine1 ∙ home)))))))
