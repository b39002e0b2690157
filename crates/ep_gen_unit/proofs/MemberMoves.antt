-- The machine follows `for` over members.
use Rattle.std.proofs.Common.{◌≡◌, ℕ, pos, ◌+◌, ◌≤◌, ◌<◌, IsTrue, List, [], ◌∷◌, ◌++◌, length, length-append, refl, sym, ap, ◌∙◌, subst, arith}
use Rattle.std.proofs.lemmas.Bool.Decides.{nat_tests}
use Rattle.ep_gen_code.specs.Instructions.{instr, bare, push}
use Rattle.ep_gen_expr.specs.ExprCode.{IsExprCode}
use Rattle.ep_gen_expr.proofs.public.PlaceTypes.{kind_place}
use Rattle.ep_gen_code.proofs.public.Placed.{jump_has, jump_false_has}
use Rattle.ep_gen_unit.specs.StmtCode.{IsAssignCode, IsLeastCode, IsKeptCode, IsUndefineCode, for_in_code}
use Rattle.ep_gen_unit.proofs.ForMoves.{undefine_moves}
use Rattle.ep_gen_unit.proofs.Parts.{code_stands-parts, Moves, ExpressionsFollow, PlacesFollow, ordinal_of_host}
use Rattle.ep_gen_unit.proofs.Simple.{assigned_moves, store_moves}
use Rattle.ep_gen_unit.proofs.StmtStays.{for_in_length}
use Rattle.ep_simulation.specs.Follows.{point, Facts, Lasts, Fragment, Inside, Bare, OnTop}
use Rattle.ep_simulation.specs.Layouts.{Layout}
use Rattle.ep_simulation.specs.Matching.{Slots, IsLike}
use Rattle.ep_object.specs.Operands.{Operand, Word, Set}
use Rattle.ep_object.specs.Operands as operand
use Rattle.ep_object.specs.Placing.{Placement, CodeStands}
use Rattle.ep_simulation.specs.Scene.{Scene}
use Rattle.ep_object.specs.declared.code.Image.{Image}
use Rattle.ep_object.specs.declared.code.Instr.{Instr}
use Rattle.ep_object.specs.declared.code.Reference.{Reference}
use Rattle.ep_object.specs.declared.op.TheConstants as op
use Rattle.ep_simulation.proofs.public.following.Choices.{fragment_turns}
use Rattle.ep_simulation.proofs.public.following.Fragments.{fragment_bind_bare, fragment_bind_place, fragment_credit, fragment_from, fragment_to, fragment_waits, inside_bind}
use Rattle.ep_simulation.proofs.public.matching.Awaiting.{value_on_top}
use Rattle.ep_simulation.proofs.public.matching.MoreMemory.{describes-grown, grown_refl, is_spot-grown, same_routine-refl, unit_in-same}
use Rattle.ep_simulation.proofs.public.rows.ChangeRows.{may_take, ordinal_takes, set_takes}
use Rattle.ep_simulation.proofs.public.rows.Rows.{jump_jumps, jump_false_jumps, push_pushes}
use Rattle.ep_simulation.proofs.public.rows.SetRows.{least_pushes}
use Rattle.ep_meaning.proofs.public.Steady.{steady_assign, steady_bind, steady_eval, steady_exec, steady_member_turn, steady_place, steady_turns, steady_undefined, steady_undefines, steady_using}
use Rattle.ep_meaning.specs.Calls.{Handler}
use Rattle.ep_meaning.specs.Controls.{has_more, others}
use Rattle.ep_typed.specs.Hosts as host
use Rattle.ep_typed.specs.Hosts.{Host, is_of_host}
use Rattle.ep_meaning.specs.Meaning.{assign, eval, exec, member_turn, takes_least, turns, undefines}
use Rattle.ep_values.specs.Printing as result
use Rattle.ep_values.specs.Printing.{members_of}
use Rattle.ep_meaning.specs.Results.{weight_of}
use Rattle.ep_values.specs.Sets.{least_member}
use Rattle.ep_meaning.specs.Steady.{Steady, IsSteadyHandler}
use Rattle.ep_meaning.specs.Steps as meaning
use Rattle.ep_meaning.specs.Steps.{bind}
use Rattle.ep_typed.specs.Trees.{Entire, entire, Expr, Read, MemberControl, Stmt, ForIn}
use Rattle.ep_meaning.specs.Valid as kind
use Rattle.ep_meaning.specs.Valid.{Declarations, IsExpr, IsMemberControl, IsPlace}
use Rattle.ep_values.specs.declared.run_error.TheConstants as run_error

-- ---- what a control is made of is valid

pub has_more_valid : (declared : Declarations) (h : Host) (c : MemberControl) → IsMemberControl declared h c → IsExpr declared (kind.Ordinal host.Boolean) (has_more c)
has_more_valid declared h c control = (kind.Set host.Integer, kind.Set host.Integer, ((host.Integer, refl, refl), refl), control.rest, (host.Integer, refl, tt))

pub others_valid : (declared : Declarations) (h : Host) (c : MemberControl) → IsMemberControl declared h c → IsExpr declared (kind.Set host.Integer) (others c)
others_valid declared h c control =
    (kind.Set host.Integer, kind.Set host.Integer, (host.Integer, refl, refl, refl), control.rest, (host.Integer, refl, ((kind.Ordinal h, ((h, refl, control.numbered), refl), control.variable), tt)))

-- a host of which the least member is a value
least_host : (ms : List ℕ) → (h : Host) × IsTrue (is_of_host h (least_member ms))
least_host [] = (host.Integer, refl)
least_host (m ∷ ms) = (host.Enumeration m, grind (arith, nat_tests))

-- ---- where the parts stand

module _ (G : Image) (ps : List Placement) (p : Placement) (texts : List (List ℕ)) (references : List Reference) (line at : ℕ) (c : MemberControl) (x : Expr) (sets test first kept body ends : List Instr) where
  -- the places of the parts
  abbrev pub more_at : ℕ
  more_at = at + length sets

  abbrev pub out_at : ℕ
  out_at = more_at + length test

  abbrev pub first_at : ℕ
  first_at = at + length sets + length test + 1

  abbrev pub kept_at : ℕ
  kept_at = at + length sets + length test + 1 + length first

  abbrev pub body_at : ℕ
  body_at = at + length sets + length test + 1 + length first + length kept

  abbrev pub store_at : ℕ
  store_at = body_at + length body

  abbrev pub done_at : ℕ
  done_at = store_at + 1 + 1

  -- each part of the code stands in the image
  pub record MembersStand : Type 0 where
    pub is_set : IsAssignCode texts references line at (entire c.rest) x sets
    pub is_more : IsExprCode texts references line more_at (has_more c) test
    pub is_first : IsLeastCode texts references line first_at c first
    pub is_kept : IsKeptCode texts references line kept_at c kept
    pub is_end : IsUndefineCode texts references line done_at c.variable ends
    pub set_stands : CodeStands G ps p references at sets
    pub more_stands : CodeStands G ps p references more_at test
    pub leaves : CodeStands G ps p references out_at (instr op.JUMP_FALSE (pos done_at) 0 line ∷ [])
    pub first_stands : CodeStands G ps p references first_at first
    pub kept_stands : CodeStands G ps p references kept_at kept
    pub body_stands : CodeStands G ps p references body_at body
    pub stores : CodeStands G ps p references store_at (bare line op.STORE ∷ [])
    pub back : CodeStands G ps p references (store_at + 1) (instr op.JUMP (pos more_at) 0 line ∷ [])
    pub ends_stand : CodeStands G ps p references done_at ends
    pub room : done_at + length ends < p.instructions.own
    pub total : at + length (for_in_code line at sets test first kept body ends) ≡ done_at + length ends

  pub members_stand : IsAssignCode texts references line at (entire c.rest) x sets → IsExprCode texts references line more_at (has_more c) test → IsLeastCode texts references line first_at c first → IsKeptCode texts references line kept_at c kept → IsUndefineCode texts references line done_at c.variable ends
      → CodeStands G ps p references at (for_in_code line at sets test first kept body ends) → at + length (for_in_code line at sets test first kept body ends) < p.instructions.own → MembersStand
  members_stand is_set is_more is_first is_kept is_end stands inside =
      let out : Instr = instr op.JUMP_FALSE (pos done_at) 0 line in
      let go_back : Instr = instr op.JUMP (pos more_at) 0 line in
      let stored : List Instr = body ++ bare line op.STORE ∷ [] in
      let turn : List Instr = first ++ (kept ++ stored) in
      let loop : List Instr = test ++ out ∷ (turn ++ go_back ∷ []) in
      let one = code_stands-parts G ps p references at sets (loop ++ ends) stands in
      let two = code_stands-parts G ps p references more_at loop ends one.1 in
      let three = code_stands-parts G ps p references more_at test (out ∷ (turn ++ go_back ∷ [])) two.0 in
      let four = code_stands-parts G ps p references first_at turn (go_back ∷ []) three.1.1 in
      let five = code_stands-parts G ps p references first_at first (kept ++ stored) four.0 in
      let six = code_stands-parts G ps p references kept_at kept stored five.1 in
      let seven = code_stands-parts G ps p references body_at body (bare line op.STORE ∷ []) six.1 in
      let total : at + length (for_in_code line at sets test first kept body ends) ≡ done_at + length ends = omega (arith, for_in_length line at sets test first kept body ends) in
      let turn_end : first_at + length turn ≡ store_at + 1 = omega (arith, length-append first (kept ++ stored), length-append kept stored, length-append body (bare line op.STORE ∷ [])) in
      let loop_end : more_at + length loop ≡ done_at = omega (arith, turn_end, length-append test (out ∷ (turn ++ go_back ∷ [])), length-append turn (go_back ∷ [])) in
      record {
        is_set = is_set;
        is_more = is_more;
        is_first = is_first;
        is_kept = is_kept;
        is_end = is_end;
        set_stands = one.0;
        more_stands = three.0;
        leaves = (three.1.0, tt);
        first_stands = five.0;
        kept_stands = six.0;
        body_stands = seven.0;
        stores = seven.1;
        back = subst (λ k. CodeStands G ps p references k (go_back ∷ [])) turn_end four.1;
        ends_stand = subst (λ k. CodeStands G ps p references k ends) loop_end two.1;
        room = omega (arith, total, inside);
        total = total;
      }

module _ {declared : Declarations} {layout : Layout} {G : Image} {untouched : Slots} {Here : Facts} (lasts : Lasts untouched Here) (ps : List Placement) (p : Placement) (texts : List (List ℕ)) (references : List Reference) (call : Handler) (steady_call : IsSteadyHandler call) (n : ℕ) (unit : List ℕ) (room : p.instructions.before + p.instructions.own ≤ length G.instructions)
    (scene : Scene declared layout G ps p texts) (expressions : ExpressionsFollow declared layout G untouched Here ps p texts references call n unit) (places : PlacesFollow declared layout G untouched Here ps p texts references call n unit) where
  -- the variable becomes undefined
  undefined_moves : (line at : ℕ) (q : Entire) (h : Host) (is : List Instr) → IsPlace declared h (entire q) → IsUndefineCode texts references line at q is → CodeStands G ps p references at is → at + length is < p.instructions.own
      → Moves layout G untouched Here ps p texts references call n unit at (at + length is) (undefines call n unit line (entire q))
  undefined_moves line at q h is is_place code stands inside injection memory below d enough home =
      let v = kind_place declared scene.types_valid scene.own_types_valid (kind.Ordinal h) (entire q) is_place in
      let t = ordinal_of_host h v.type_value v.of_kind in
      let parts = code_stands-parts G ps p references at code.0 (bare line op.UNDEFINE ∷ []) (subst (λ w. CodeStands G ps p references at w) code.2 stands) in
      let ends : p.instructions.before + (at + length code.0) + 1 ≡ p.instructions.before + (at + length is) = omega (arith, ap length code.2, length-append code.0 (bare line op.UNDEFINE ∷ [])) in
      fragment_bind_place {type = v.type_value} {e = λ a. d + 8} (λ a. steady_using (meaning.Error run_error.DISPOSED unit line) a.allocation (steady_undefined call steady_call n unit a)) (places (entire q) v.valid v.type_value v.has_type line at code.0 code.1 parts.0 (omega (arith, ends, inside)) injection memory below d (omega arith) home) (λ a place_here longer after grown routine spot described.
      fragment_to ends (fragment_credit {d = d + 8} {e = λ b. d + 8} (omega arith) (λ b. omega arith) (undefine_moves lasts ps p texts references call steady_call n unit room scene expressions places t.0 t.1 a place_here line (at + length code.0) parts.1 longer after below (d + 8) (omega (arith, enough)) (unit_in-same G routine ∙ home) spot (subst (λ w. IsLike after.types place_here.type_number w) t.2 described))))

  -- the control variable gets the least member
  least_moves : (line at : ℕ) (c : MemberControl) (h : Host) (is : List Instr) → IsMemberControl declared h c → IsLeastCode texts references line at c is → CodeStands G ps p references at is → at + length is < p.instructions.own
      → Moves layout G untouched Here ps p texts references call n unit at (at + length is) (takes_least call n unit line c)
  least_moves line at c h is control code stands inside injection memory below d enough home =
      let vs : List Instr = code.0 in
      let rs : List Instr = code.1 in
      let v = kind_place declared scene.types_valid scene.own_types_valid (kind.Ordinal h) (entire c.variable) control.variable in
      let one = code_stands-parts G ps p references at vs (push line (pos 0) ∷ (rs ++ bare line op.NEXT ∷ bare line op.STORE ∷ [])) (subst (λ w. CodeStands G ps p references at w) code.4 stands) in
      let two = code_stands-parts G ps p references (at + length vs + 1) rs (bare line op.NEXT ∷ bare line op.STORE ∷ []) one.1.1 in
      let next_at : ℕ = at + length vs + 1 + length rs in
      let ends : next_at + 2 ≡ at + length is = omega (arith, ap length code.4, length-append vs (push line (pos 0) ∷ (rs ++ bare line op.NEXT ∷ bare line op.STORE ∷ [])), length-append rs (bare line op.NEXT ∷ bare line op.STORE ∷ [])) in
      fragment_bind_place {type = v.type_value} {e = λ a. d + 8} (λ a. steady_bind (steady_eval call steady_call n unit line (Read (entire c.rest))) (λ r. steady_assign call steady_call n unit line a (result.Number (least_member (members_of r))))) (places (entire c.variable) v.valid v.type_value v.has_type line at vs code.2 one.0 (omega (arith, ends, inside)) injection memory below d (omega arith) home) (λ a place_here longer after grown routine spot described.
      fragment_waits {d1 = d + 7} (λ s matches. push_pushes G (p.instructions.before + (at + length vs)) line (operand.Place place_here ∷ below) (pos 0) one.1.0 after s.trace) (omega arith)
      (fragment_from {place = p.instructions.before + (at + length vs + 1)} (omega arith)
      (inside_bind {First = OnTop (kind.Set host.Integer) (Word (pos 0) ∷ operand.Place place_here ∷ below)} {e = λ r. d + 7 + 8 + weight_of r} (λ r. steady_assign call steady_call n unit line a (result.Number (least_member (members_of r))))
      (expressions (kind.Set host.Integer) (Read (entire c.rest)) control.rest line (at + length vs + 1) rs code.3 two.0 (omega (arith, ends, inside)) longer after (Word (pos 0) ∷ operand.Place place_here ∷ below) (d + 7) (omega (arith, enough)) (unit_in-same G routine ∙ home)) (λ r last final pushed grown2 routine2 top.
      let ms : List ℕ = top.members in
      let i = least_host ms in
      let stores = store_moves lasts ps p texts references call steady_call n unit (kind.Ordinal i.0) v.type_value (result.Number (least_member ms)) (Word (least_member ms)) a place_here (ordinal_takes h i.0 v.type_value v.of_kind) line (next_at + 1) two.1.1 last final (least_member ms, refl, i.1, refl) below (d + 8) (omega (arith, enough)) (unit_in-same G routine2 ∙ (unit_in-same G routine ∙ home)) (is_spot-grown grown2 spot) (describes-grown place_here.type_number v.type_value grown2 described) in
      let taken : Fragment layout G Here n (point last final (p.instructions.before + next_at) (Set ms ∷ Word (pos 0) ∷ operand.Place place_here ∷ below)) (assign call n unit line a (result.Number (least_member ms))) (p.instructions.before + (at + length is)) (λ b. Inside untouched last final (Bare below b)) (d + 7 + 8) (λ b. d) =
      fragment_waits {d1 = d + 8} (λ s matches. least_pushes G (p.instructions.before + next_at) line (operand.Place place_here ∷ below) ms two.1.0 final s.trace) (omega arith)
      (fragment_from {place = p.instructions.before + (next_at + 1)} (omega arith) (fragment_to {to = p.instructions.before + (next_at + 1) + 1} (omega (arith, ends)) (fragment_credit {d = d + 8 + 0} {e = λ b. d + 8} (omega arith) (λ b. omega arith) stores))) in
      subst (λ st. Fragment layout G Here n (point last final (p.instructions.before + next_at) st) (assign call n unit line a (result.Number (least_member (members_of r)))) (p.instructions.before + (at + length is)) (λ b. Inside untouched last final (Bare below b)) (d + 7 + 8 + weight_of r) (λ b. d)) (sym top.is)
      (subst (λ w. Fragment layout G Here n (point last final (p.instructions.before + next_at) (Set ms ∷ Word (pos 0) ∷ operand.Place place_here ∷ below)) (assign call n unit line a (result.Number (least_member (members_of w)))) (p.instructions.before + (at + length is)) (λ b. Inside untouched last final (Bare below b)) (d + 7 + 8 + weight_of w) (λ b. d)) (sym top.is_members)
      (fragment_credit {d = d + 7 + 8} {e = λ b. d} (omega arith) (λ b. omega arith) taken))))))

  module _ (line at : ℕ) (c : MemberControl) (x : Expr) (s : Stmt) (sets test first kept body ends : List Instr) (h : Host) (control : IsMemberControl declared h c) (valid : IsExpr declared (kind.Set h) x)
      (parts : MembersStand G ps p texts references line at c x sets test first kept body ends)
      (body_moves : Moves layout G untouched Here ps p texts references call n unit (body_at G ps p texts references line at c x sets test first kept body ends) (store_at G ps p texts references line at c x sets test first kept body ends) (exec call n unit s)) where
    abbrev m_at : ℕ
    m_at = at + length sets

    abbrev f_at : ℕ
    f_at = at + length sets + length test + 1

    abbrev k_at : ℕ
    k_at = f_at + length first

    abbrev b_at : ℕ
    b_at = k_at + length kept

    abbrev s_at : ℕ
    s_at = b_at + length body

    abbrev done : ℕ
    done = s_at + 1 + 1

    steady_turn : Steady (member_turn call n unit line c (exec call n unit s))
    steady_turn = steady_member_turn call steady_call n unit line c (steady_exec call steady_call n unit s)

    -- a turn, up to the jump back
    turn_moves : Moves layout G untouched Here ps p texts references call n unit f_at (s_at + 1) (member_turn call n unit line c (exec call n unit s))
    turn_moves injection memory below d enough home =
        let code = parts.is_kept in
        let vs : List Instr = code.0 in
        let xs : List Instr = code.1 in
        let two = code_stands-parts G ps p references k_at vs xs (subst (λ w. CodeStands G ps p references k_at w) code.4 parts.kept_stands) in
        let long : k_at + length vs + length xs ≡ b_at = omega (arith, ap length code.4, length-append vs xs) in
        let v = kind_place declared scene.types_valid scene.own_types_valid (kind.Set host.Integer) (entire c.rest) control.rest in
        fragment_bind_bare {e = λ b. d} (λ b. steady_bind (steady_place call steady_call n unit line (entire c.rest)) (λ a. steady_bind (steady_eval call steady_call n unit line (others c)) (λ r. steady_bind (steady_exec call steady_call n unit s) (λ b. steady_assign call steady_call n unit line a r))))
        (least_moves line f_at c h first control parts.is_first parts.first_stands (omega (arith, parts.room)) injection memory below d enough home) (λ b v1 m1 grown1 routine1.
        fragment_bind_place {type = v.type_value} {e = λ a. d + 8} (λ a. steady_bind (steady_eval call steady_call n unit line (others c)) (λ r. steady_bind (steady_exec call steady_call n unit s) (λ b. steady_assign call steady_call n unit line a r)))
        (places (entire c.rest) v.valid v.type_value v.has_type line k_at vs code.2 two.0 (omega (arith, long, parts.room)) v1 m1 below d (omega arith) (unit_in-same G routine1 ∙ home)) (λ a place_here v2 m2 grown2 routine2 spot described.
        inside_bind {First = OnTop (kind.Set host.Integer) (operand.Place place_here ∷ below)} {e = λ r. d + 8 + 8 + weight_of r} (λ r. steady_bind (steady_exec call steady_call n unit s) (λ b. steady_assign call steady_call n unit line a r))
        (expressions (kind.Set host.Integer) (others c) (others_valid declared h c control) line (k_at + length vs) xs code.3 two.1 (omega (arith, long, parts.room)) v2 m2 (operand.Place place_here ∷ below) (d + 8) (omega (arith, enough)) (unit_in-same G routine2 ∙ (unit_in-same G routine1 ∙ home))) (λ r v3 m3 pushed grown3 routine3 top.
        let value = value_on_top (kind.Set host.Integer) (operand.Place place_here ∷ below) r v3 m3 pushed top in
        let home3 = unit_in-same G routine3 ∙ (unit_in-same G routine2 ∙ (unit_in-same G routine1 ∙ home)) in
        subst (λ st. Fragment layout G Here n (point v3 m3 (p.instructions.before + (k_at + length vs + length xs)) st) (bind (exec call n unit s) (λ b. assign call n unit line a r)) (p.instructions.before + (s_at + 1)) (λ b. Inside untouched v3 m3 (Bare below b)) (d + 8 + 8 + weight_of r) (λ b. d)) (sym value.2)
        (fragment_from {place = p.instructions.before + b_at} (ap (λ w. p.instructions.before + w) long)
        (fragment_bind_bare {e = λ b. d + 8 + 8 + weight_of r} (λ b. steady_assign call steady_call n unit line a r)
        (body_moves v3 m3 (value.0 ∷ operand.Place place_here ∷ below) (d + 8 + 8 + weight_of r) (omega (arith, enough)) home3) (λ b v4 m4 grown4 routine4.
        fragment_to {to = p.instructions.before + s_at + 1} (omega arith) (fragment_credit {d = d + 8 + 8 + weight_of r} {e = λ b. d + 8 + 8} (omega arith) (λ b. omega arith) (
        store_moves lasts ps p texts references call steady_call n unit (kind.Set host.Integer) v.type_value r value.0 a place_here (may_take (kind.Set host.Integer) v.type_value v.of_kind) line s_at parts.stores v4 m4 value.1 below (d + 8 + 8) (omega (arith, enough)) (unit_in-same G routine4 ∙ home3)
        (is_spot-grown grown4 (is_spot-grown grown3 spot)) (describes-grown place_here.type_number v.type_value grown4 (describes-grown place_here.type_number v.type_value grown3 described))))))))))

    -- the turns
    turns_follow : Moves layout G untouched Here ps p texts references call n unit m_at done (turns call n unit n (eval call n unit line (has_more c)) (member_turn call n unit line c (exec call n unit s)))
    turns_follow injection memory below d enough home =
        fragment_turns {place = p.instructions.before + m_at} {test_end = p.instructions.before + (m_at + length test)} {body_place = p.instructions.before + (m_at + length test) + 1} {body_end = p.instructions.before + (s_at + 1)} {to = p.instructions.before + done} call n unit d (steady_eval call steady_call n unit line (has_more c)) steady_turn injection memory
        (λ longer after grown routine. fragment_credit {d = d} {e = λ r. d + 8 + weight_of r} (omega arith) (λ r. omega arith) (expressions (kind.Ordinal host.Boolean) (has_more c) (has_more_valid declared h c control) line m_at test parts.is_more parts.more_stands (omega (arith, parts.room)) longer after below d (omega arith) (unit_in-same G routine ∙ home)))
        (λ z after trace routine. jump_false_jumps G (p.instructions.before + (m_at + length test)) line below z (p.instructions.before + done) (omega (arith, room, parts.room)) (jump_false_has G ps p references line (m_at + length test) done [] (omega (arith, parts.room)) parts.leaves) after trace)
        (λ longer after grown routine. fragment_from {place = p.instructions.before + f_at} (omega arith) (turn_moves longer after below (d + 1) (omega arith) (unit_in-same G routine ∙ home)))
        (λ after trace routine. jump_jumps G (p.instructions.before + (s_at + 1)) line below (p.instructions.before + m_at) (omega (arith, room, parts.room)) (jump_has G ps p references line (s_at + 1) m_at [] (omega (arith, parts.room)) parts.back) after trace)
        n (omega arith) injection memory (grown_refl injection memory) (same_routine-refl memory.frames)

    -- all of it
    pub members_parts : Moves layout G untouched Here ps p texts references call n unit at (at + length (for_in_code line at sets test first kept body ends)) (exec call n unit (ForIn line c x s))
    members_parts injection memory below d enough home =
        let set_is = assigned_moves lasts ps p texts references call steady_call n unit scene expressions places line at (entire c.rest) (kind.Set host.Integer) (kind.Set h) (set_takes host.Integer h) x sets control.rest valid parts.is_set (omega (arith, parts.room)) parts.set_stands in
        let end_is = undefined_moves line done c.variable h ends control.variable parts.is_end parts.ends_stand parts.room in
        fragment_to (ap (λ w. p.instructions.before + w) (sym parts.total))
        (fragment_bind_bare {e = λ b. d} (λ b. steady_bind (steady_turns call n n unit (steady_eval call steady_call n unit line (has_more c)) steady_turn) (λ b. steady_undefines call steady_call n unit line (entire c.variable)))
        (set_is injection memory below d enough home) (λ b v1 m1 grown1 routine1.
        fragment_bind_bare {e = λ b. d} (λ b. steady_undefines call steady_call n unit line (entire c.variable))
        (turns_follow v1 m1 below d enough (unit_in-same G routine1 ∙ home)) (λ b v2 m2 grown2 routine2.
        end_is v2 m2 below d enough (unit_in-same G routine2 ∙ (unit_in-same G routine1 ∙ home)))))
