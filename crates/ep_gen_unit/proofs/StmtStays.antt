-- Code of statements stays code when the tables grow, and is short.
use Rattle.std.proofs.Common.{◌≡◌, ℕ, ℤ, pos, ◌+◌, ◌*◌, ◌≤◌, Bool, true, false, List, [], ◌∷◌, ◌++◌, length, refl, ap, arith, length-append}
use Rattle.ep_outside.specs.Known.{IsPrefix}
use Rattle.ep_object.specs.declared.code.Instr.{Instr}
use Rattle.ep_object.specs.declared.code.Reference.{Reference}
use Rattle.ep_meaning.specs.Controls.{has_more, in_order, next_value, others}
use Rattle.ep_typed.specs.Trees.{One, SetOf, Single, no_member, next_member, Entire, OfUnit, OfRoutine, entire, Place, Function, Item, Plain, Wide, Stmt, Stmts, Empty, Compound, Assign, AssignTag, Tagging, If, While, Repeat, Control, For, MemberControl, ForIn, With, Read, Expr, Procedure, Halt, Write, none, next, Case, Arms, no_arm, next_arm, Other, no_other, otherwise_do, WithRecord}
use Rattle.ep_values.specs.declared.operations.Print.{Print}
use Rattle.ep_values.specs.declared.operations.Print.TheVariants as print
use Rattle.std.specs.Prelude.{if◌then◌else◌}
use Rattle.ep_gen_code.specs.Instructions.{bare, instr, push}
use Rattle.ep_gen_expr.specs.ExprCode.{one_code, set_code, step_code, tests_code, two_code, IsPlaceCode, IsExprCode}
use Rattle.ep_values.specs.declared.operations.Binary.TheVariants as binary
use Rattle.ep_values.specs.declared.operations.Unary.TheVariants as unary
use Rattle.ep_values.specs.declared.operations.SetOperation.TheVariants as set_operation
use Rattle.ep_gen_expr.proofs.public.Stays.{place_code_stays, expr_code_stays, place_code_short, expr_code_short, tests_length}
use Rattle.ep_gen_unit.specs.StmtCode.{for_code, for_in_code, IsLeastCode, IsKeptCode, IsAssignCode, AreBoundsCode, IsFirstCode, IsTestCode, IsUndefineCode, IsBindCode, AreBindsCode, IsItemCode, AreItemsCode, IsStmtCode, AreStmtsCode, AreArmsCode, IsOtherCode, plain_code, before_width, wide_code}
use Rattle.ep_gen_unit.specs.TagCode.{IsTriedCode, IsChangeCode, IsTakenCode, none_now, number_code, number_length, selected_code, selected_length, variants_code}
use Rattle.ep_gen_unit.proofs.TagLengths.{number_code_length, selected_code_length, selections_short, variants_short}
use Rattle.ep_values.specs.declared.run_error.TheConstants as run_error
use Rattle.ep_typed.specs.declared.tree.Selection.{Selection}
use Rattle.ep_typed.specs.Nodes.{place_nodes, expr_nodes, item_nodes, items_nodes, stmt_nodes, stmts_nodes, arms_nodes, other_nodes}
use Rattle.ep_typed.specs.Selections.{labels_nodes}
use Rattle.ep_object.specs.declared.op.TheConstants as op

module _ (ts us : List (List ℕ)) (rs ss : List Reference) (a : IsPrefix ts us) (b : IsPrefix rs ss) where
  pub item_code_stays : (line at : ℕ) (i : Item) (is : List Instr) → IsItemCode ts rs line at i is → IsItemCode us ss line at i is
  item_code_stays line at (Plain print x) is h = (h.0, expr_code_stays ts us rs ss line a b (at + 1) x h.0 h.1, h.2)
  item_code_stays line at (Wide print x w) is h = (h.0, h.1, expr_code_stays ts us rs ss line a b (at + 1) x h.0 h.2, expr_code_stays ts us rs ss line a b (at + 1 + length h.0 + length (before_width line print)) w h.1 h.3, h.4)

  pub items_code_stays : (line at : ℕ) (items : List Item) (ends_line : Bool) (is : List Instr) → AreItemsCode ts rs line at items ends_line is → AreItemsCode us ss line at items ends_line is
  items_code_stays line at [] false is h = h
  items_code_stays line at [] true is h = h
  items_code_stays line at (i ∷ items) ends_line is h = (h.0, h.1, item_code_stays line at i h.0 h.2, items_code_stays line (at + length h.0) items ends_line h.1 h.3, h.4)

  assign_code_stays : (line at : ℕ) (p : Place) (x : Expr) (is : List Instr) → IsAssignCode ts rs line at p x is → IsAssignCode us ss line at p x is
  assign_code_stays line at p x is h = (h.0, h.1, place_code_stays ts us rs ss line a b at p h.0 h.2, expr_code_stays ts us rs ss line a b (at + length h.0) x h.1 h.3, h.4)

  -- the parts of a `for`
  pub bounds_code_stays : (line at : ℕ) (c : Control) (x y : Expr) (is : List Instr) → AreBoundsCode ts rs line at c x y is → AreBoundsCode us ss line at c x y is
  bounds_code_stays line at c x y is h =
      (h.0, h.1, h.2, assign_code_stays line at (entire c.initial) x h.0 h.3, assign_code_stays line (at + length h.0) (entire c.last) y h.1 h.4, expr_code_stays ts us rs ss line a b (at + length h.0 + length h.1) (in_order c) h.2 h.5, h.6)

  pub first_code_stays : (line at : ℕ) (c : Control) (is : List Instr) → IsFirstCode ts rs line at c is → IsFirstCode us ss line at c is
  first_code_stays line at c is h =
      (h.0, h.1, h.2, expr_code_stays ts us rs ss line a b at (Read (entire c.last)) h.0 h.3, assign_code_stays line (at + length h.0) (entire c.variable) (Read (entire c.last)) h.1 h.4, assign_code_stays line (at + length h.0 + length h.1) (entire c.variable) (Read (entire c.initial)) h.2 h.5, h.6)

  pub test_code_stays : (line at : ℕ) (c : Control) (is : List Instr) → IsTestCode ts rs line at c is → IsTestCode us ss line at c is
  test_code_stays line at c is h = (h.0, expr_code_stays ts us rs ss line a b (at + 1) (Read (entire c.variable)) h.0 h.1, h.2)

  -- the parts of a `for` over members
  pub least_code_stays : (line at : ℕ) (c : MemberControl) (is : List Instr) → IsLeastCode ts rs line at c is → IsLeastCode us ss line at c is
  least_code_stays line at c is h = (h.0, h.1, place_code_stays ts us rs ss line a b at (entire c.variable) h.0 h.2, expr_code_stays ts us rs ss line a b (at + length h.0 + 1) (Read (entire c.rest)) h.1 h.3, h.4)

  pub kept_code_stays : (line at : ℕ) (c : MemberControl) (is : List Instr) → IsKeptCode ts rs line at c is → IsKeptCode us ss line at c is
  kept_code_stays line at c is h = (h.0, h.1, place_code_stays ts us rs ss line a b at (entire c.rest) h.0 h.2, expr_code_stays ts us rs ss line a b (at + length h.0) (others c) h.1 h.3, h.4)

  -- the parts of an assignment to a tag
  pub tried_code_stays : (line at : ℕ) (c : Tagging) (s : Selection) (is : List Instr) → IsTriedCode ts rs line at c s is → IsTriedCode us ss line at c s is
  tried_code_stays line at c s is h = (h.0, expr_code_stays ts us rs ss line a b (at + 3) (Read (entire c.value)) h.0 h.1, h.2)

  pub change_code_stays : (line at : ℕ) (c : Tagging) (s : Selection) (is : List Instr) → IsChangeCode ts rs line at c s is → IsChangeCode us ss line at c s is
  change_code_stays line at c s is h = (h.0, expr_code_stays ts us rs ss line a b at (Read (entire c.value)) h.0 h.1, h.2)

  pub taken_code_stays : (line at : ℕ) (c : Tagging) (s : Selection) (is : List Instr) → IsTakenCode ts rs line at c s is → IsTakenCode us ss line at c s is
  taken_code_stays line at c s is h = (h.0, expr_code_stays ts us rs ss line a b (at + 2) (Read (entire c.value)) h.0 h.1, h.2)

  -- the beginning of a `with`
  pub bind_code_stays : (line at : ℕ) (v : Entire) (p : Place) (is : List Instr) → IsBindCode ts rs line at v p is → IsBindCode us ss line at v p is
  bind_code_stays line at v p is h = (h.0, place_code_stays ts us rs ss line a b at p h.0 h.1, h.2)

  pub binds_code_stays : (line at : ℕ) (ws : List WithRecord) (is : List Instr) → AreBindsCode ts rs line at ws is → AreBindsCode us ss line at ws is
  binds_code_stays line at [] is h = h
  binds_code_stays line at (w ∷ ws) is h = (h.0, h.1, bind_code_stays line at w.variable w.place h.0 h.2, binds_code_stays line (at + length h.0) ws h.1 h.3, h.4)

  mutual
    pub stmt_code_stays : (at : ℕ) (s : Stmt) (is : List Instr) → IsStmtCode ts rs at s is → IsStmtCode us ss at s is
    stmt_code_stays at Empty is h = h
    stmt_code_stays at (Compound statements) is h = stmts_code_stays at statements is h
    stmt_code_stays at (Assign line p x) is h = assign_code_stays line at p x is h
    stmt_code_stays at (AssignTag line c p s x) is h = (
      h.0,
      h.1,
      h.2,
      h.3,
      h.4,
      place_code_stays ts us rs ss line a b at p h.0 h.5,
      assign_code_stays line (at + length h.0) (entire c.value) x h.1 h.6,
      tried_code_stays line (at + length h.0 + length h.1) c s h.2 h.7,
      change_code_stays line (at + length h.0 + length h.1 + length h.2 + selected_length s) c s h.3 h.8,
      taken_code_stays line (at + length h.0 + length h.1 + length h.2 + selected_length s + length h.3) c s h.4 h.9,
      h.10,
    )
    stmt_code_stays at (If line x s t) is h =
        (h.0, h.1, h.2, expr_code_stays ts us rs ss line a b at x h.0 h.3, stmt_code_stays (at + length h.0 + 1) s h.1 h.4, stmt_code_stays (at + length h.0 + 1 + length h.1 + 1) t h.2 h.5, h.6)
    stmt_code_stays at (While line x s) is h = (h.0, h.1, expr_code_stays ts us rs ss line a b at x h.0 h.2, stmt_code_stays (at + length h.0 + 1) s h.1 h.3, h.4)
    stmt_code_stays at (Repeat line statements x) is h = (h.0, h.1, stmts_code_stays at statements h.0 h.2, expr_code_stays ts us rs ss line a b (at + length h.0) x h.1 h.3, h.4)
    stmt_code_stays at (For line c x y s) is h = (
      h.0,
      h.1,
      h.2,
      h.3,
      h.4,
      h.5,
      bounds_code_stays line at c x y h.0 h.6,
      first_code_stays line (at + length h.0 + 1) c h.1 h.7,
      stmt_code_stays (at + length h.0 + 1 + length h.1) s h.2 h.8,
      test_code_stays line (at + length h.0 + 1 + length h.1 + length h.2) c h.3 h.9,
      assign_code_stays line (at + length h.0 + 1 + length h.1 + length h.2 + length h.3 + 1) (entire c.variable) (next_value c) h.4 h.10,
      (h.11.0, place_code_stays ts us rs ss line a b (at + length h.0 + 1 + length h.1 + length h.2 + length h.3 + 1 + length h.4 + 1 + 1) (entire c.variable) h.11.0 h.11.1, h.11.2),
      h.12,
    )
    stmt_code_stays at (ForIn line c x s) is h = (
      h.0,
      h.1,
      h.2,
      h.3,
      h.4,
      h.5,
      assign_code_stays line at (entire c.rest) x h.0 h.6,
      expr_code_stays ts us rs ss line a b (at + length h.0) (has_more c) h.1 h.7,
      least_code_stays line (at + length h.0 + length h.1 + 1) c h.2 h.8,
      kept_code_stays line (at + length h.0 + length h.1 + 1 + length h.2) c h.3 h.9,
      stmt_code_stays (at + length h.0 + length h.1 + 1 + length h.2 + length h.3) s h.4 h.10,
      (h.11.0, place_code_stays ts us rs ss line a b (at + length h.0 + length h.1 + 1 + length h.2 + length h.3 + length h.4 + 1 + 1) (entire c.variable) h.11.0 h.11.1, h.11.2),
      h.12,
    )
    stmt_code_stays at (With line v of p s) is h = (h.0, h.1, bind_code_stays line at v p h.0 h.2, stmt_code_stays (at + length h.0) s h.1 h.3, h.4)
    stmt_code_stays at (Procedure line callee given) is h = expr_code_stays ts us rs ss line a b at (Function callee given) is h
    stmt_code_stays at (Case line x arms o) is h =
        (h.0, h.1, h.2, expr_code_stays ts us rs ss line a b at x h.0 h.3, arms_code_stays line (at + length h.0 + 1) (at + length h.0 + 2) arms h.1 h.4, other_code_stays line (at + length h.0 + 2 + length h.1) o h.2 h.5, h.6)
    stmt_code_stays at (Halt line) is h = h
    stmt_code_stays at (Write line items ends_line) is h = items_code_stays line at items ends_line is h

    pub stmts_code_stays : (at : ℕ) (statements : Stmts) (is : List Instr) → AreStmtsCode ts rs at statements is → AreStmtsCode us ss at statements is
    stmts_code_stays at none is h = h
    stmts_code_stays at (next s rest) is h = (h.0, h.1, stmt_code_stays at s h.0 h.2, stmts_code_stays (at + length h.0) rest h.1 h.3, h.4)

    pub arms_code_stays : (line leave at : ℕ) (arms : Arms) (is : List Instr) → AreArmsCode ts rs line leave at arms is → AreArmsCode us ss line leave at arms is
    arms_code_stays line leave at no_arm is h = h
    arms_code_stays line leave at (next_arm ranges s arms) is h =
        (h.0, h.1, stmt_code_stays (at + 6 * length ranges + 2) s h.0 h.2, arms_code_stays line leave (at + 6 * length ranges + 2 + length h.0 + 1) arms h.1 h.3, h.4)

    pub other_code_stays : (line at : ℕ) (o : Other) (is : List Instr) → IsOtherCode ts rs line at o is → IsOtherCode us ss line at o is
    other_code_stays line at no_other is h = h
    other_code_stays line at (otherwise_do statements) is h = (h.0, stmts_code_stays (at + 1) statements h.0 h.1, h.2)

plain_short : (line : ℕ) (print : Print) → length (plain_code line print) ≤ 1
plain_short line print.Integer = omega arith
plain_short line print.Char = omega arith
plain_short line print.Boolean = omega arith
plain_short line print.Text = omega arith

before_short : (line : ℕ) (print : Print) → length (before_width line print) ≤ 1
before_short line print.Integer = omega arith
before_short line print.Char = omega arith
before_short line print.Boolean = omega arith
before_short line print.Text = omega arith

if_short : (xs ys zs : List Instr) (i j : Instr) (is : List Instr) → is ≡ xs ++ i ∷ (ys ++ j ∷ zs) → (k m n : ℕ) → length xs + 8 ≤ 32 * k → length ys + 8 ≤ 32 * m → length zs + 8 ≤ 32 * n → length is + 8 ≤ 32 * (1 + k + m + n)
if_short xs ys zs i j is e k m n p q r = omega (arith, ap length e, length-append xs (i ∷ (ys ++ j ∷ zs)), length-append ys (j ∷ zs), p, q, r)

while_short : (xs ys : List Instr) (i j : Instr) (is : List Instr) → is ≡ xs ++ i ∷ (ys ++ j ∷ []) → (k m : ℕ) → length xs + 8 ≤ 32 * k → length ys + 8 ≤ 32 * m → length is + 8 ≤ 32 * (1 + k + m)
while_short xs ys i j is e k m p q = omega (arith, ap length e, length-append xs (i ∷ (ys ++ j ∷ [])), length-append ys (j ∷ []), p, q)

with_short : (ps xs ys : List Instr) (i : Instr) (is : List Instr) → xs ≡ ps ++ i ∷ [] → is ≡ xs ++ ys → (k m : ℕ) → length ps ≤ 32 * k → length ys + 8 ≤ 32 * m → length is + 8 ≤ 32 * (1 + k + m)
with_short ps xs ys i is d e k m p q = omega (arith, ap length d, length-append ps (i ∷ []), ap length e, length-append xs ys, p, q)

repeat_short : (ys xs : List Instr) (i : Instr) (is : List Instr) → is ≡ ys ++ (xs ++ i ∷ []) → (k m : ℕ) → length ys ≤ 32 * k → length xs + 8 ≤ 32 * m → length is + 8 ≤ 32 * (1 + k + m)
repeat_short ys xs i is e k m p q = omega (arith, ap length e, length-append ys (xs ++ i ∷ []), length-append xs (i ∷ []), p, q)

case_short : (xs ys zs : List Instr) (i j : Instr) (is : List Instr) → is ≡ xs ++ i ∷ j ∷ (ys ++ zs) → (k m n : ℕ) → length xs + 8 ≤ 32 * k → length ys ≤ 32 * m → length zs ≤ 32 * n + 1 → length is + 8 ≤ 32 * (1 + k + m + n)
case_short xs ys zs i j is e k m n p q r = omega (arith, ap length e, length-append xs (i ∷ j ∷ (ys ++ zs)), length-append ys zs, p, q, r)

-- how many instructions a `for` has, by its parts
pub for_length : (line at : ℕ) (bounds first body test step ends : List Instr) → length (for_code line at bounds first body test step ends) ≡ length bounds + 1 + length first + length body + length test + 1 + length step + 2 + length ends
for_length line at bounds first body test step ends =
    let body_at = at + length bounds + 1 + length first in
    let done = body_at + length body + length test + 1 + length step + 1 in
    let tail : List Instr = instr op.JUMP (pos body_at) 0 line ∷ bare line op.DROP ∷ ends in
    let turn : List Instr = test ++ instr op.JUMP_FALSE (pos done) 0 line ∷ (step ++ tail) in
    omega (
      arith,
      length-append bounds (instr op.JUMP_FALSE (pos (done + 1)) 0 line ∷ (first ++ (body ++ turn))),
      length-append first (body ++ turn),
      length-append body turn,
      length-append test (instr op.JUMP_FALSE (pos done) 0 line ∷ (step ++ tail)),
      length-append step tail,
    )

-- how many instructions a `for` over members has, by its parts
pub for_in_length : (line at : ℕ) (sets test first kept body ends : List Instr) → length (for_in_code line at sets test first kept body ends) ≡ length sets + length test + 1 + length first + length kept + length body + 2 + length ends
for_in_length line at sets test first kept body ends =
    let out : Instr = instr op.JUMP_FALSE (pos (at + length sets + length test + 1 + length first + length kept + length body + 1 + 1)) 0 line in
    let back : Instr = instr op.JUMP (pos (at + length sets)) 0 line in
    let stored : List Instr = body ++ bare line op.STORE ∷ [] in
    let turn : List Instr = first ++ (kept ++ stored) in
    let loop : List Instr = test ++ out ∷ (turn ++ back ∷ []) in
    omega (
      arith,
      length-append sets (loop ++ ends),
      length-append loop ends,
      length-append test (out ∷ (turn ++ back ∷ [])),
      length-append turn (back ∷ []),
      length-append first (kept ++ stored),
      length-append kept stored,
      length-append body (bare line op.STORE ∷ []),
    )

step_length : (line : ℕ) (down : Bool) (low high : ℤ) → length (step_code line down low high) ≤ 4
step_length line false low high = omega arith
step_length line true low high = omega arith

arms_short : (xs ss rest : List Instr) (i j l : Instr) (is : List Instr) → is ≡ xs ++ i ∷ j ∷ (ss ++ l ∷ rest) → (c k m : ℕ) → length xs ≡ 6 * c → length ss + 8 ≤ 32 * k → length rest ≤ 32 * m → length is ≤ 32 * (3 * c + k + m)
arms_short xs ss rest i j l is e c k m p q r = omega (arith, ap length e, length-append xs (i ∷ j ∷ (ss ++ l ∷ rest)), length-append ss (l ∷ rest), p, q, r)

entire_one : (v : Entire) → place_nodes (entire v) ≡ 1
entire_one (OfUnit unit number) = refl
entire_one (OfRoutine levels number) = refl

module _ (ts : List (List ℕ)) (rs : List Reference) where
  item_code_short : (line at : ℕ) (i : Item) (is : List Instr) → IsItemCode ts rs line at i is → length is ≤ 32 * item_nodes i
  item_code_short line at (Plain print x) is h =
      omega (arith, ap length h.2, length-append h.0 (plain_code line print ++ bare line op.PUT ∷ []), length-append (plain_code line print) (bare line op.PUT ∷ []), plain_short line print, expr_code_short ts rs line (at + 1) x h.0 h.1)
  item_code_short line at (Wide print x w) is h =
      omega (
        arith,
        ap length h.4,
        length-append h.0 (before_width line print ++ (h.1 ++ wide_code line print ∷ bare line op.PUT ∷ [])),
        length-append (before_width line print) (h.1 ++ wide_code line print ∷ bare line op.PUT ∷ []),
        length-append h.1 (wide_code line print ∷ bare line op.PUT ∷ []),
        before_short line print,
        expr_code_short ts rs line (at + 1) x h.0 h.2,
        expr_code_short ts rs line (at + 1 + length h.0 + length (before_width line print)) w h.1 h.3,
      )

  items_code_short : (line at : ℕ) (items : List Item) (ends_line : Bool) (is : List Instr) → AreItemsCode ts rs line at items ends_line is → length is ≤ 32 * items_nodes items + 4
  items_code_short line at [] false is h = omega (arith, ap length h)
  items_code_short line at [] true is h = omega (arith, ap length h)
  items_code_short line at (i ∷ items) ends_line is h = omega (arith, ap length h.4, length-append h.0 h.1, item_code_short line at i h.0 h.2, items_code_short line (at + length h.0) items ends_line h.1 h.3)

  -- ---- a `for`

  entire_length : (line at : ℕ) (v : Entire) (is : List Instr) → IsPlaceCode ts rs line at (entire v) is → length is ≡ 1
  entire_length line at (OfUnit unit number) is h = ap length h.2
  entire_length line at (OfRoutine levels number) is h = ap length h

  read_short : (line at : ℕ) (v : Entire) (is : List Instr) → IsExprCode ts rs line at (Read (entire v)) is → length is ≤ 2
  read_short line at v is h = omega (arith, ap length h.2, length-append h.0 (bare line op.LOAD ∷ []), entire_length line at v h.0 h.1)

  assign_short : (line at : ℕ) (v : Entire) (x : Expr) (is : List Instr) → IsAssignCode ts rs line at (entire v) x is → length is + 6 ≤ 32 * expr_nodes x
  assign_short line at v x is h =
      omega (arith, ap length h.4, length-append h.0 (h.1 ++ bare line op.STORE ∷ []), length-append h.1 (bare line op.STORE ∷ []), entire_length line at v h.0 h.2, expr_code_short ts rs line (at + length h.0) x h.1 h.3)

  assign_read_short : (line at : ℕ) (v w : Entire) (is : List Instr) → IsAssignCode ts rs line at (entire v) (Read (entire w)) is → length is ≤ 4
  assign_read_short line at v w is h =
      omega (arith, ap length h.4, length-append h.0 (h.1 ++ bare line op.STORE ∷ []), length-append h.1 (bare line op.STORE ∷ []), entire_length line at v h.0 h.2, read_short line (at + length h.0) w h.1 h.3)

  next_short : (line at : ℕ) (c : Control) (is : List Instr) → IsAssignCode ts rs line at (entire c.variable) (next_value c) is → length is ≤ 9
  next_short line at c is h =
      let xs : List Instr = h.1 in
      let e = h.3 in
      omega (
        arith,
        ap length h.4,
        length-append h.0 (xs ++ bare line op.STORE ∷ []),
        length-append xs (bare line op.STORE ∷ []),
        entire_length line at c.variable h.0 h.2,
        ap length e.4,
        length-append e.0 (e.1 ++ step_code line c.falls c.low c.high),
        length-append e.1 (step_code line c.falls c.low c.high),
        read_short line (at + length h.0) c.variable e.0 e.2,
        ap length e.3,
        step_length line c.falls c.low c.high,
      )

  bounds_short : (line at : ℕ) (c : Control) (x y : Expr) (is : List Instr) → AreBoundsCode ts rs line at c x y is → length is + 7 ≤ 32 * (expr_nodes x + expr_nodes y)
  bounds_short line at c x y is h =
      let e = h.5 in
      omega (
        arith,
        ap length h.6,
        length-append h.0 (h.1 ++ h.2),
        length-append h.1 h.2,
        assign_short line at c.initial x h.0 h.3,
        assign_short line (at + length h.0) c.last y h.1 h.4,
        ap length e.4,
        length-append e.0 (e.1 ++ two_code line (if c.falls then binary.AtLeast else binary.AtMost) ∷ []),
        length-append e.1 (two_code line (if c.falls then binary.AtLeast else binary.AtMost) ∷ []),
        read_short line (at + length h.0 + length h.1) c.initial e.0 e.2,
        read_short line (at + length h.0 + length h.1 + length e.0) c.last e.1 e.3,
      )

  first_short : (line at : ℕ) (c : Control) (is : List Instr) → IsFirstCode ts rs line at c is → length is ≤ 10
  first_short line at c is h =
      omega (arith, ap length h.6, length-append h.0 (h.1 ++ h.2), length-append h.1 h.2, read_short line at c.last h.0 h.3, assign_read_short line (at + length h.0) c.variable c.last h.1 h.4, assign_read_short line (at + length h.0 + length h.1) c.variable c.initial h.2 h.5)

  test_short : (line at : ℕ) (c : Control) (is : List Instr) → IsTestCode ts rs line at c is → length is ≤ 4
  test_short line at c is h = omega (arith, ap length h.2, length-append h.0 (two_code line binary.Unequal ∷ []), read_short line (at + 1) c.variable h.0 h.1)

  undefine_short : (line at : ℕ) (v : Entire) (is : List Instr) → IsUndefineCode ts rs line at v is → length is ≤ 2
  undefine_short line at v is h = omega (arith, ap length h.2, length-append h.0 (bare line op.UNDEFINE ∷ []), entire_length line at v h.0 h.1)

  -- ---- an assignment to a tag

  tried_short : (line at : ℕ) (c : Tagging) (s : Selection) (is : List Instr) → IsTriedCode ts rs line at c s is → length is ≤ 9
  tried_short line at c s is h =
      omega (arith, ap length h.2, length-append h.0 (push line c.low ∷ push line c.high ∷ instr op.CHECK (pos run_error.OUTSIDE_TYPE) 0 line ∷ bare line op.DROP ∷ []), read_short line (at + 3) c.value h.0 h.1)

  change_short : (line at : ℕ) (c : Tagging) (s : Selection) (is : List Instr) → IsChangeCode ts rs line at c s is → length is ≤ number_length s + labels_nodes s.labels + 7
  change_short line at c s is h =
      let skip : Instr = instr op.JUMP_FALSE (pos (at + length h.0 + number_length s + 2 + length (variants_code line s))) 0 line in
      let number : List Instr = number_code line (at + length h.0) s none_now in
      omega (
        arith,
        ap length h.2,
        length-append h.0 (number ++ two_code line binary.Unequal ∷ skip ∷ variants_code line s),
        length-append number (two_code line binary.Unequal ∷ skip ∷ variants_code line s),
        number_code_length line (at + length h.0) s none_now,
        variants_short line s,
        read_short line at c.value h.0 h.1,
      )

  taken_short : (line at : ℕ) (c : Tagging) (s : Selection) (is : List Instr) → IsTakenCode ts rs line at c s is → length is ≤ 5
  taken_short line at c s is h = omega (arith, ap length h.2, length-append h.0 (bare line op.STORE ∷ []), read_short line (at + 2) c.value h.0 h.1)

  -- ---- a `for` over members

  more_short : (line at : ℕ) (c : MemberControl) (is : List Instr) → IsExprCode ts rs line at (has_more c) is → length is ≤ 4
  more_short line at c is h =
      omega (arith, ap length h.4, length-append h.0 (h.1 ++ set_code line set_operation.Unequal ∷ []), length-append h.1 (set_code line set_operation.Unequal ∷ []), read_short line at c.rest h.0 h.2, ap length h.3.2, ap length h.3.1)

  least_short : (line at : ℕ) (c : MemberControl) (is : List Instr) → IsLeastCode ts rs line at c is → length is ≤ 6
  least_short line at c is h =
      omega (arith, ap length h.4, length-append h.0 (push line (pos 0) ∷ (h.1 ++ bare line op.NEXT ∷ bare line op.STORE ∷ [])), length-append h.1 (bare line op.NEXT ∷ bare line op.STORE ∷ []), entire_length line at c.variable h.0 h.2, read_short line (at + length h.0 + 1) c.rest h.1 h.3)

  -- the code of the control variable's value, added to the empty set
  single_short : (line at : ℕ) (c : MemberControl) (is : List Instr) → IsExprCode ts rs line at (SetOf (next_member (Single (One unary.Same (Read (entire c.variable)))) no_member)) is → length is ≤ 6
  single_short line at c is h =
      let d = h.1 in
      let one = d.2 in
      let number = one.1 in
      omega (
        arith,
        ap length h.2,
        ap length d.4,
        length-append d.0 d.1,
        ap length d.3,
        ap length one.2,
        length-append one.0 (bare line op.SET_ADD ∷ []),
        ap length number.2,
        length-append number.0 (one_code line unary.Same),
        read_short line (at + 1) c.variable number.0 number.1,
      )

  kept_short : (line at : ℕ) (c : MemberControl) (is : List Instr) → IsKeptCode ts rs line at c is → length is ≤ 10
  kept_short line at c is h =
      let x = h.3 in
      omega (
        arith,
        ap length h.4,
        length-append h.0 h.1,
        entire_length line at c.rest h.0 h.2,
        ap length x.4,
        length-append x.0 (x.1 ++ set_code line set_operation.Difference ∷ []),
        length-append x.1 (set_code line set_operation.Difference ∷ []),
        read_short line (at + length h.0) c.rest x.0 x.2,
        single_short line (at + length h.0 + length x.0) c x.1 x.3,
      )

  -- The code of a statement, with some room for what the form around it adds.
  mutual
    stmt_code_room : (at : ℕ) (s : Stmt) (is : List Instr) → IsStmtCode ts rs at s is → length is + 8 ≤ 32 * stmt_nodes s
    stmt_code_room at Empty is h = omega (arith, ap length h)
    stmt_code_room at (Compound statements) is h = omega (arith, stmts_code_short at statements is h)
    stmt_code_room at (Assign line p x) is h =
        omega (arith, ap length h.4, length-append h.0 (h.1 ++ bare line op.STORE ∷ []), length-append h.1 (bare line op.STORE ∷ []), place_code_short ts rs line at p h.0 h.2, expr_code_short ts rs line (at + length h.0) x h.1 h.3)
    stmt_code_room at (AssignTag line c p s x) is h =
        let choice : List Instr = selected_code line (at + length h.0 + length h.1 + length h.2) s in
        omega (
          arith,
          ap length h.10,
          length-append h.0 (h.1 ++ (h.2 ++ (choice ++ (h.3 ++ h.4)))),
          length-append h.1 (h.2 ++ (choice ++ (h.3 ++ h.4))),
          length-append h.2 (choice ++ (h.3 ++ h.4)),
          length-append choice (h.3 ++ h.4),
          length-append h.3 h.4,
          place_code_short ts rs line at p h.0 h.5,
          assign_short line (at + length h.0) c.value x h.1 h.6,
          tried_short line (at + length h.0 + length h.1) c s h.2 h.7,
          selected_code_length line (at + length h.0 + length h.1 + length h.2) s,
          change_short line (at + length h.0 + length h.1 + length h.2 + selected_length s) c s h.3 h.8,
          taken_short line (at + length h.0 + length h.1 + length h.2 + selected_length s + length h.3) c s h.4 h.9,
          selections_short s.labels,
        )
    stmt_code_room at (If line x s t) is h =
        if_short h.0 h.1 h.2 _ _ is h.6 (expr_nodes x) (stmt_nodes s) (stmt_nodes t)
        (expr_code_short ts rs line at x h.0 h.3) (stmt_code_room (at + length h.0 + 1) s h.1 h.4) (stmt_code_room (at + length h.0 + 1 + length h.1 + 1) t h.2 h.5)
    stmt_code_room at (While line x s) is h =
        while_short h.0 h.1 _ _ is h.4 (expr_nodes x) (stmt_nodes s) (expr_code_short ts rs line at x h.0 h.2) (stmt_code_room (at + length h.0 + 1) s h.1 h.3)
    stmt_code_room at (Repeat line statements x) is h =
        repeat_short h.0 h.1 _ is h.4 (stmts_nodes statements) (expr_nodes x) (stmts_code_short at statements h.0 h.2) (expr_code_short ts rs line (at + length h.0) x h.1 h.3)
    stmt_code_room at (For line c x y s) is h =
        omega (
          arith,
          ap length h.12,
          for_length line at h.0 h.1 h.2 h.3 h.4 h.5,
          bounds_short line at c x y h.0 h.6,
          first_short line (at + length h.0 + 1) c h.1 h.7,
          stmt_code_room (at + length h.0 + 1 + length h.1) s h.2 h.8,
          test_short line (at + length h.0 + 1 + length h.1 + length h.2) c h.3 h.9,
          next_short line (at + length h.0 + 1 + length h.1 + length h.2 + length h.3 + 1) c h.4 h.10,
          undefine_short line (at + length h.0 + 1 + length h.1 + length h.2 + length h.3 + 1 + length h.4 + 1 + 1) c.variable h.5 h.11,
          entire_one c.variable,
        )
    stmt_code_room at (ForIn line c x s) is h =
        omega (
          arith,
          ap length h.12,
          for_in_length line at h.0 h.1 h.2 h.3 h.4 h.5,
          assign_short line at c.rest x h.0 h.6,
          more_short line (at + length h.0) c h.1 h.7,
          least_short line (at + length h.0 + length h.1 + 1) c h.2 h.8,
          kept_short line (at + length h.0 + length h.1 + 1 + length h.2) c h.3 h.9,
          stmt_code_room (at + length h.0 + length h.1 + 1 + length h.2 + length h.3) s h.4 h.10,
          undefine_short line (at + length h.0 + length h.1 + 1 + length h.2 + length h.3 + length h.4 + 1 + 1) c.variable h.5 h.11,
          entire_one c.variable,
        )
    stmt_code_room at (With line v of p s) is h =
        with_short h.2.0 h.0 h.1 _ is h.2.2 h.4 (place_nodes p) (stmt_nodes s) (place_code_short ts rs line at p h.2.0 h.2.1) (stmt_code_room (at + length h.0) s h.1 h.3)
    stmt_code_room at (Procedure line callee given) is h = expr_code_short ts rs line at (Function callee given) is h
    stmt_code_room at (Case line x arms o) is h =
        case_short h.0 h.1 h.2 _ _ is h.6 (expr_nodes x) (arms_nodes arms) (other_nodes o)
        (expr_code_short ts rs line at x h.0 h.3) (arms_code_short line (at + length h.0 + 1) (at + length h.0 + 2) arms h.1 h.4) (other_code_short line (at + length h.0 + 2 + length h.1) o h.2 h.5)
    stmt_code_room at (Halt line) is h = omega (arith, ap length h)
    stmt_code_room at (Write line items ends_line) is h = omega (arith, items_code_short line at items ends_line is h)

    pub stmts_code_short : (at : ℕ) (ss : Stmts) (is : List Instr) → AreStmtsCode ts rs at ss is → length is ≤ 32 * stmts_nodes ss
    stmts_code_short at none is h = omega (arith, ap length h)
    stmts_code_short at (next s rest) is h = omega (arith, ap length h.4, length-append h.0 h.1, stmt_code_room at s h.0 h.2, stmts_code_short (at + length h.0) rest h.1 h.3)

    arms_code_short : (line leave at : ℕ) (arms : Arms) (is : List Instr) → AreArmsCode ts rs line leave at arms is → length is ≤ 32 * arms_nodes arms
    arms_code_short line leave at no_arm is h = omega (arith, ap length h)
    arms_code_short line leave at (next_arm ranges s arms) is h =
        arms_short (tests_code line (at + 6 * length ranges + 1) at ranges) h.0 h.1 _ _ _ is h.4 (length ranges) (stmt_nodes s) (arms_nodes arms)
        (tests_length line (at + 6 * length ranges + 1) at ranges) (stmt_code_room (at + 6 * length ranges + 2) s h.0 h.2) (arms_code_short line leave (at + 6 * length ranges + 2 + length h.0 + 1) arms h.1 h.3)

    other_code_short : (line at : ℕ) (o : Other) (is : List Instr) → IsOtherCode ts rs line at o is → length is ≤ 32 * other_nodes o + 1
    other_code_short line at no_other is h = omega (arith, ap length h)
    other_code_short line at (otherwise_do statements) is h = omega (arith, ap length h.2, stmts_code_short (at + 1) statements h.0 h.1)

  pub stmt_code_short : (at : ℕ) (s : Stmt) (is : List Instr) → IsStmtCode ts rs at s is → length is ≤ 32 * stmt_nodes s
  stmt_code_short at s is h = omega (arith, stmt_code_room at s is h)
