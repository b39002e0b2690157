-- Which auxiliary variables the typed statements of a block need is what the text of the block says.
use Rattle.std.proofs.Common.{◌≡◌, ℕ, Bool, true, false, ◌||◌, List, [], ◌∷◌, map, Option, Some, None, refl, sym, ap, ◌∙◌, subst}
use Rattle.std.specs.Prelude.{is_some}
use Rattle.std.specs.Option.{option_or}
use Rattle.ep_tree.specs.declared.expression.Access.{Access, out-Access}
use Rattle.ep_tree.specs.declared.expression.ComponentValue.{ComponentValue}
use Rattle.ep_tree.specs.declared.expression.Expression.{Expression}
use Rattle.ep_tree.specs.declared.statement.Arm.{Arm, map-Arm, roll-Arm}
use Rattle.ep_tree.specs.declared.statement.Compound.{Compound, map-Compound, roll-Compound}
use Rattle.ep_tree.specs.declared.statement.Otherwise.{Otherwise, map-Otherwise, roll-Otherwise}
use Rattle.ep_tree.specs.declared.statement.Statement.{Statement, map-Statement, roll-Statement}
use Rattle.ep_tree.specs.declared.statement.Statement.TheFolds.{fold-roll-Arm, fold-roll-Compound, fold-roll-Otherwise, fold-roll-Statement, ind-Compound}
use Rattle.ep_tree.specs.declared.statement.Statement.TheOpen.{Statement-F, Arm-F, Compound-F, Otherwise-F}
use Rattle.ep_typed.specs.Auxiliaries.{first_for, first_for_arms, first_for_in, first_for_in_arms, first_for_in_of, first_for_in_other, first_for_of, first_for_other, with_variables, with_variables_in}
use Rattle.ep_typed.specs.Trees as tree
use Rattle.ep_typed.specs.Trees.{Arms, Control, Entire, Expr, MemberControl, Other, Stmt, Stmts, WithRecord, with_form}
use Rattle.ep_typed.specs.declared.tree.CaseRange.{CaseRange}
use Rattle.ep_scope.specs.Scopes.{Region}
use Rattle.ep_scope.specs.declared.kind.Host.{Host}
use Rattle.ep_rules.specs.Judgements.{Judged, Accepts, Breaks, both}
use Rattle.ep_expr_laws.proofs.public.Passing.{IfForm}
use Rattle.ep_stmt_rules.specs.Auxiliaries.{arm_has, compound_has, has_for, has_for_in, in_arm, in_compound, in_otherwise, in_statement, is_bounded, is_over_members, otherwise_has, statement_has}
use Rattle.ep_stmt_rules.specs.Cases.{CaseSelector, own_ranges}
use Rattle.ep_stmt_rules.specs.Statements.{ArmJudged, Context, Counted, Judgement, Passes, Waits, Fails, Under, after, arm_judged, arm_row, arms_in_order, at_arm, at_compound, at_item, at_otherwise, at_statement, call_arguments, case_judged, compound_judged, compound_under, condition_judged, control_judged, expr_item, falls_by, for_in_judged, for_judged, formed, if_judged, in_order, otherwise_judged, statement_judged, stmt_item, stmt_threat, target_judged, value_judged, unless_threatening, assigned, Opened, behind, inside, none_opened, records_opened, with_judged}
use Rattle.ep_stmt_rules.specs.Tags as tags
use Rattle.ep_threats.specs.Threats.{any_true}
use Rattle.ep_stmt_rules.specs.declared.auxiliaries.ForForm.{ForForm}
use Rattle.ep_stmt_rules.specs.declared.auxiliaries.ForForm.TheVariants as form
use Rattle.ep_stmt_laws.proofs.judged.Alike.{Alike, opened_alike, same_tag}
use Rattle.ep_stmt_laws.proofs.judged.Assigned.{AssignsTag, assignment_assigns}
use Rattle.ep_stmt_rules.proofs.public.judged.Fits.{Any, Fits, fits_weaker}
use Rattle.ep_stmt_laws.proofs.judged.Simple.{IsSimple, called_simple}
use Rattle.ep_stmt_laws.proofs.valid.Passing.{FitsRow, after_fits, behind_fits, formed_fits, item_fits, unthreatening_fits}

row_any : {A : Type 0} (j : Judgement A) → FitsRow Any j
row_any (Passes a) = tt
row_any (Waits line) = tt
row_any (Fails line rules) = tt

-- ---- the line of the first `for` of a form

abbrev first : ForForm → Stmt → Option ℕ
first form.Bounds s = first_for s
first form.Members s = first_for_in s

abbrev first_of : ForForm → Stmts → Option ℕ
first_of form.Bounds ss = first_for_of ss
first_of form.Members ss = first_for_in_of ss

abbrev first_arms : ForForm → Arms → Option ℕ
first_arms form.Bounds arms = first_for_arms arms
first_arms form.Members arms = first_for_in_arms arms

abbrev first_other : ForForm → Other → Option ℕ
first_other form.Bounds o = first_for_other o
first_other form.Members o = first_for_in_other o

or_some : (a b : Option ℕ) (x y : Bool) → is_some a ≡ x → is_some b ≡ y → is_some (option_or a b) ≡ (x || y)
or_some None b x y p q = q ∙ ap (λ z. z || y) p
or_some (Some line) b x y p q = ap (λ z. z || y) p

-- what the text says of one of a form: a `for` with bounds shares its auxiliary variables with assignments to tags
abbrev told : ForForm → Bool → Bool → Bool
told form.Bounds has assigns = has || assigns
told form.Members has assigns = has

told_none : (asked : ForForm) → told asked false false ≡ false
told_none form.Bounds = refl
told_none form.Members = refl

told_both : (asked : ForForm) (h k t u : Bool) → told asked (h || k) (t || u) ≡ (told asked h t || told asked k u)
told_both form.Bounds true k t u = refl
told_both form.Bounds false true true u = refl
told_both form.Bounds false true false u = refl
told_both form.Bounds false false t u = refl
told_both form.Members h k t u = refl

told_for : (asked : ForForm) (h t : Bool) → told asked (is_bounded asked || h) t ≡ (is_bounded asked || told asked h t)
told_for form.Bounds h t = refl
told_for form.Members h t = refl

told_for_in : (asked : ForForm) (h t : Bool) → told asked (is_over_members asked || h) t ≡ (is_over_members asked || told asked h t)
told_for_in form.Bounds h t = refl
told_for_in form.Members h t = refl

-- there is one, or there is none
abbrev Has : ForForm → Bool → Stmt → Type 0
Has asked b s = is_some (first asked s) ≡ b

abbrev HasOf : ForForm → Bool → Stmts → Type 0
HasOf asked b ss = is_some (first_of asked ss) ≡ b

abbrev HasArms : ForForm → Bool → Arms → Type 0
HasArms asked b arms = is_some (first_arms asked arms) ≡ b

abbrev HasOther : ForForm → Bool → Other → Type 0
HasOther asked b o = is_some (first_other asked o) ≡ b

-- ---- typed statements by their parts

empty_has : (asked : ForForm) → Has asked false tree.Empty
empty_has form.Bounds = refl
empty_has form.Members = refl

none_has : (asked : ForForm) → HasOf asked false tree.none
none_has form.Bounds = refl
none_has form.Members = refl

no_arm_has : (asked : ForForm) → HasArms asked false tree.no_arm
no_arm_has form.Bounds = refl
no_arm_has form.Members = refl

no_other_has : (asked : ForForm) → HasOther asked false tree.no_other
no_other_has form.Bounds = refl
no_other_has form.Members = refl

simple_has : (asked : ForForm) (s : Stmt) → IsSimple s → Has asked false s
simple_has form.Bounds (tree.Assign line place x) h = refl
simple_has form.Bounds (tree.Procedure line callee given) h = refl
simple_has form.Bounds (tree.Halt line) h = refl
simple_has form.Bounds (tree.Write line items ends_line) h = refl
simple_has form.Members (tree.Assign line place x) h = refl
simple_has form.Members (tree.Procedure line callee given) h = refl
simple_has form.Members (tree.Halt line) h = refl
simple_has form.Members (tree.Write line items ends_line) h = refl
simple_has asked tree.Empty h = absurd h
simple_has asked (tree.Compound ss) h = absurd h
simple_has asked (tree.AssignTag line c place s x) h = absurd h
simple_has asked (tree.If line x a b) h = absurd h
simple_has asked (tree.While line x s) h = absurd h
simple_has asked (tree.Repeat line ss x) h = absurd h
simple_has asked (tree.For line control x y s) h = absurd h
simple_has asked (tree.ForIn line control x s) h = absurd h
simple_has asked (tree.With line variable of place s) h = absurd h
simple_has asked (tree.Case line x arms other) h = absurd h

assigned_has : (asked : ForForm) (b d : Bool) (s : Stmt) → AssignsTag b s → b ≡ d → Has asked (told asked false d) s
assigned_has form.Bounds b d s p e = p.0 ∙ e
assigned_has form.Members b d s p e = p.1

compound_form_has : (asked : ForForm) (b : Bool) (ss : Stmts) → HasOf asked b ss → Has asked b (tree.Compound ss)
compound_form_has form.Bounds b ss h = h
compound_form_has form.Members b ss h = h

if_has : (asked : ForForm) (line : ℕ) (e : Expr) (s t : Stmt) (x y : Bool) → Has asked x s → Has asked y t → Has asked (x || y) (tree.If line e s t)
if_has form.Bounds line e s t x y p q = or_some (first_for s) (first_for t) x y p q
if_has form.Members line e s t x y p q = or_some (first_for_in s) (first_for_in t) x y p q

while_has : (asked : ForForm) (line : ℕ) (e : Expr) (s : Stmt) (x : Bool) → Has asked x s → Has asked x (tree.While line e s)
while_has form.Bounds line e s x p = p
while_has form.Members line e s x p = p

repeat_has : (asked : ForForm) (line : ℕ) (e : Expr) (ss : Stmts) (x : Bool) → HasOf asked x ss → Has asked x (tree.Repeat line ss e)
repeat_has form.Bounds line e ss x p = p
repeat_has form.Members line e ss x p = p

for_has : (asked : ForForm) (line : ℕ) (k : Control) (a b : Expr) (s : Stmt) (x : Bool) → Has asked x s → Has asked (is_bounded asked || x) (tree.For line k a b s)
for_has form.Bounds line k a b s x p = refl
for_has form.Members line k a b s x p = p

for_in_has : (asked : ForForm) (line : ℕ) (k : MemberControl) (e : Expr) (s : Stmt) (x : Bool) → Has asked x s → Has asked (is_over_members asked || x) (tree.ForIn line k e s)
for_in_has form.Bounds line k e s x p = p
for_in_has form.Members line k e s x p = refl

next_has : (asked : ForForm) (s : Stmt) (ss : Stmts) (x y : Bool) → Has asked x s → HasOf asked y ss → HasOf asked (x || y) (tree.next s ss)
next_has form.Bounds s ss x y p q = or_some (first_for s) (first_for_of ss) x y p q
next_has form.Members s ss x y p q = or_some (first_for_in s) (first_for_in_of ss) x y p q

next_arm_has : (asked : ForForm) (ranges : List CaseRange) (s : Stmt) (arms : Arms) (x y : Bool) → Has asked x s → HasArms asked y arms → HasArms asked (x || y) (tree.next_arm ranges s arms)
next_arm_has form.Bounds ranges s arms x y p q = or_some (first_for s) (first_for_arms arms) x y p q
next_arm_has form.Members ranges s arms x y p q = or_some (first_for_in s) (first_for_in_arms arms) x y p q

otherwise_form_has : (asked : ForForm) (ss : Stmts) (x : Bool) → HasOf asked x ss → HasOther asked x (tree.otherwise_do ss)
otherwise_form_has form.Bounds ss x p = p
otherwise_form_has form.Members ss x p = p

case_has : (asked : ForForm) (line : ℕ) (e : Expr) (arms : Arms) (o : Other) (x y : Bool) → HasArms asked x arms → HasOther asked y o → Has asked (x || y) (tree.Case line e arms o)
case_has form.Bounds line e arms o x y p q = or_some (first_for_arms arms) (first_for_other o) x y p q
case_has form.Members line e arms o x y p q = or_some (first_for_in_arms arms) (first_for_in_other o) x y p q

nested_has : (asked : ForForm) (line : ℕ) (hs : List WithRecord) (s : Stmt) (x : Bool) → Has asked x s → Has asked x (with_form line hs s)
nested_has asked line [] s x p = p
nested_has form.Bounds line (h ∷ hs) s x p = nested_has form.Bounds line hs s x p
nested_has form.Members line (h ∷ hs) s x p = nested_has form.Members line hs s x p

-- ---- what the rules judge

module _ (asked : ForForm) where
  -- of scopes that are alike but for what stands for open records
  abbrev Row : Context → List Region → Bool → Judgement Stmt → Type 0
  Row c scopes b = FitsRow (λ s. Alike scopes c.scopes → Has asked b s)

  abbrev Rows : Context → List Region → Bool → Judgement Stmts → Type 0
  Rows c scopes b = FitsRow (λ ss. Alike scopes c.scopes → HasOf asked b ss)

  -- one of neither form, where the text says so
  none_told : (P : Bool → Type 0) → P false → P (told asked false false)
  none_told P h = subst P (sym (told_none asked)) h

  module _ (c : Context) (scopes : List Region) (controls : List Entire) where
    simple_row : (line : ℕ) (j : Judged (Option Stmt)) → Fits (IfForm IsSimple) j → Row c scopes (told asked false false) (stmt_item c controls line j)
    simple_row line j h = item_fits HasNone line (unless_threatening (stmt_threat c.callees) controls j) (unthreatening_fits HasNone (stmt_threat c.callees) controls j (fits_weaker (IfForm IsSimple) (IfForm HasNone) j weaker h))
      where
        HasNone : Stmt → Type 0
        HasNone s = Alike scopes c.scopes → Has asked (told asked false false) s

        weaker : (o : Option Stmt) → IfForm IsSimple o → IfForm HasNone o
        weaker None p = tt
        weaker (Some s) p = λ alike. none_told (λ b. Has asked b s) (simple_has asked s p)

    assigned_row : (line : ℕ) (a : Access) (v : ComponentValue) → Row c scopes (told asked false (tags.is_tag scopes a)) (stmt_item c controls line (both (assigned c.locals line) (target_judged c a) (value_judged c a v)))
    assigned_row line a v =
        let j : Judged (Option Stmt) = both (assigned c.locals line) (target_judged c a) (value_judged c a v) in
        item_fits HasTag line (unless_threatening (stmt_threat c.callees) controls j)
        (unthreatening_fits HasTag (stmt_threat c.callees) controls j (fits_weaker (IfForm (AssignsTag (tags.is_tag c.scopes a))) (IfForm HasTag) j weaker (assignment_assigns c line a v)))
      where
        HasTag : Stmt → Type 0
        HasTag s = Alike scopes c.scopes → Has asked (told asked false (tags.is_tag scopes a)) s

        weaker : (o : Option Stmt) → IfForm (AssignsTag (tags.is_tag c.scopes a)) o → IfForm HasTag o
        weaker None p = tt
        weaker (Some s) p = λ alike. assigned_has asked (tags.is_tag c.scopes a) (tags.is_tag scopes a) s p (sym (same_tag scopes c.scopes alike a))

    if_row : (line : ℕ) (x : Judgement Expr) (y : Judgement Stmt) (z : Context → Judgement Stmt) (h k t u : Bool) → Row c scopes (told asked h t) y → ((d : Context) → Row d scopes (told asked k u) (z d))
        → Row c scopes (told asked (h || k) (t || u)) (if_judged line x y (z (behind with_variables c y)))
    if_row line x y z h k t u f g =
        let p : Bool = told asked h t in
        let q : Bool = told asked k u in
        subst (λ b. Row c scopes b (if_judged line x y (z (behind with_variables c y)))) (sym (told_both asked h k t u))
        (after_fits Any (λ (b : Stmt × Stmt). Alike scopes c.scopes → Has asked p b.0 × Has asked q b.1) (λ s. Alike scopes c.scopes → Has asked (p || q) s) _ x (after (λ a b. (a, b)) y (z (behind with_variables c y))) (row_any x)
        (behind_fits (λ s. Alike scopes c.scopes → Has asked p s) (λ d s. Alike scopes d.scopes → Has asked q s) (λ (b : Stmt × Stmt). Alike scopes c.scopes → Has asked p b.0 × Has asked q b.1) (λ a b. (a, b)) with_variables c y z f g (λ a b m n. λ alike. (m alike, n alike)))
        (λ e b m n. λ alike. if_has asked line e b.0 b.1 p q (n alike).0 (n alike).1))

    for_row_has : (line : ℕ) (j : Judged Counted) (falls : Bool) (start end : Expression) (body : Under Stmt) (h t : Bool) → ((inner : List Entire) → Row c scopes (told asked h t) (body c inner))
        → Row c scopes (told asked (is_bounded asked || h) t) (for_judged c controls line j falls start end body)
    for_row_has line (Breaks rules) falls start end body h t f = tt
    for_row_has line (Accepts k) falls start end body h t f =
        let x : Bool = told asked h t in
        subst (λ b. Row c scopes b (for_judged c controls line (Accepts k) falls start end body)) (sym (told_for asked h t))
        (after_fits Any (λ s. Alike scopes c.scopes → Has asked x s) (λ s. Alike scopes c.scopes → Has asked (is_bounded asked || x) s) _ _ (body c (k.variable ∷ controls)) (row_any _) (f (k.variable ∷ controls))
        (λ head s p q. λ alike. for_has asked line head.control head.initial head.last s x (q alike)))

    for_in_row_has : (line : ℕ) (j : Judged Counted) (set : Expression) (body : Under Stmt) (h t : Bool) → ((inner : List Entire) → Row c scopes (told asked h t) (body c inner)) → Row c scopes (told asked (is_over_members asked || h) t) (for_in_judged c controls line j set body)
    for_in_row_has line (Breaks rules) set body h t f = tt
    for_in_row_has line (Accepts k) set body h t f =
        let x : Bool = told asked h t in
        subst (λ b. Row c scopes b (for_in_judged c controls line (Accepts k) set body)) (sym (told_for_in asked h t))
        (after_fits Any (λ s. Alike scopes c.scopes → Has asked x s) (λ s. Alike scopes c.scopes → Has asked (is_over_members asked || x) s) _ _ (body c (k.variable ∷ controls)) (row_any _) (f (k.variable ∷ controls))
        (λ head s p q. λ alike. for_in_has asked line head.control head.set s x (q alike)))

  -- what the text says of a statement and of others, in view of scopes
  abbrev statement_told : Statement → List Region → Bool
  statement_told s scopes = told asked (statement_has asked s) (tags.statement_assigns s scopes)

  abbrev statements_told : List Statement → List Region → Bool
  statements_told ss scopes = told asked (any_true (map (statement_has asked) ss)) (tags.any_assigns (map tags.statement_assigns ss) scopes)

  abbrev arms_told : List Arm → List Region → Bool
  arms_told all scopes = told asked (any_true (map (arm_has asked) all)) (tags.any_assigns (map tags.arm_assigns all) scopes)

  abbrev otherwise_told : Otherwise → List Region → Bool
  otherwise_told o scopes = told asked (otherwise_has asked o) (tags.otherwise_assigns o scopes)

  -- inside of any `for` statements
  abbrev IsStatement : Statement → Type 0
  IsStatement s = (c : Context) (scopes : List Region) (controls : List Entire) → Row c scopes (statement_told s scopes) (statement_judged s c controls)

  abbrev IsCompound : Compound → Type 0
  IsCompound s = (c : Context) (scopes : List Region) (controls : List Entire) → Rows c scopes (told asked (compound_has asked s) (tags.compound_assigns s scopes)) (compound_under s c controls)

  abbrev IsArm : Arm → Type 0
  IsArm a = (c : Context) (scopes : List Region) (controls : List Entire) → Row c scopes (told asked (arm_has asked a) (tags.arm_assigns a scopes)) ((arm_judged a).1 c controls)

  abbrev IsOtherwise : Otherwise → Type 0
  IsOtherwise o = (c : Context) (scopes : List Region) (controls : List Entire) → Rows c scopes (otherwise_told o scopes) (otherwise_judged o c controls)

  abbrev ItsStatement : Type 0
  ItsStatement = (s : Statement) × IsStatement s

  abbrev ItsArm : Type 0
  ItsArm = (a : Arm) × IsArm a

  abbrev ItsCompound : Type 0
  ItsCompound = (s : Compound) × IsCompound s

  abbrev ItsOtherwise : Type 0
  ItsOtherwise = (o : Otherwise) × IsOtherwise o

  -- layers of such statements, without what holds of them
  abbrev statement_layer : Statement-F ItsStatement ItsArm ItsCompound ItsOtherwise → Statement-F Statement Arm Compound Otherwise
  statement_layer = map-Statement ItsStatement ItsArm ItsCompound ItsOtherwise Statement Arm Compound Otherwise (λ s. s.0) (λ a. a.0) (λ s. s.0) (λ o. o.0)

  abbrev compound_layer : Compound-F ItsStatement ItsArm ItsCompound ItsOtherwise → Compound-F Statement Arm Compound Otherwise
  compound_layer = map-Compound ItsStatement ItsArm ItsCompound ItsOtherwise Statement Arm Compound Otherwise (λ s. s.0) (λ a. a.0) (λ s. s.0) (λ o. o.0)

  abbrev arm_layer : Arm-F ItsStatement ItsArm ItsCompound ItsOtherwise → Arm-F Statement Arm Compound Otherwise
  arm_layer = map-Arm ItsStatement ItsArm ItsCompound ItsOtherwise Statement Arm Compound Otherwise (λ s. s.0) (λ a. a.0) (λ s. s.0) (λ o. o.0)

  abbrev otherwise_layer : Otherwise-F ItsStatement ItsArm ItsCompound ItsOtherwise → Otherwise-F Statement Arm Compound Otherwise
  otherwise_layer = map-Otherwise ItsStatement ItsArm ItsCompound ItsOtherwise Statement Arm Compound Otherwise (λ s. s.0) (λ a. a.0) (λ s. s.0) (λ o. o.0)

  -- what the text says of a layer
  abbrev layer_has : Statement-F Statement Arm Compound Otherwise → Bool
  layer_has x = in_statement asked (map-Statement Statement Arm Compound Otherwise Bool Bool Bool Bool (statement_has asked) (arm_has asked) (compound_has asked) (otherwise_has asked) x)

  abbrev layer_assigns : Statement-F Statement Arm Compound Otherwise → tags.Assigning
  layer_assigns x = tags.in_statement (map-Statement Statement Arm Compound Otherwise tags.Assigning tags.Assigning tags.Assigning tags.Assigning tags.statement_assigns tags.arm_assigns tags.compound_assigns tags.otherwise_assigns x)

  -- a layer that is rolled up
  rolled : (x : Statement-F Statement Arm Compound Otherwise)
      → ((c : Context) (scopes : List Region) (controls : List Entire) → Row c scopes (told asked (layer_has x) (layer_assigns x scopes)) (at_statement (map-Statement Statement Arm Compound Otherwise (Under Stmt) ArmJudged (Under Stmts) (Under Stmts) statement_judged arm_judged compound_under otherwise_judged x) c controls))
      → IsStatement (roll-Statement x)
  rolled x h c scopes controls =
      subst (λ b. Row c scopes (told asked b (tags.statement_assigns (roll-Statement x) scopes)) (statement_judged (roll-Statement x) c controls)) (sym (fold-roll-Statement Bool Bool Bool Bool (in_statement asked) (in_arm asked) (in_compound asked) (in_otherwise asked) x))
      (subst (λ (g : tags.Assigning). Row c scopes (told asked (layer_has x) (g scopes)) (statement_judged (roll-Statement x) c controls)) (sym (fold-roll-Statement tags.Assigning tags.Assigning tags.Assigning tags.Assigning tags.in_statement tags.in_arm tags.in_compound tags.in_otherwise x))
      (subst (λ (judge : Under Stmt). Row c scopes (told asked (layer_has x) (layer_assigns x scopes)) (judge c controls)) (sym (fold-roll-Statement (Under Stmt) ArmJudged (Under Stmts) (Under Stmts) at_statement at_arm at_compound at_otherwise x)) (h c scopes controls)))

  rolled_arm : (x : Arm-F Statement Arm Compound Otherwise) → IsStatement x.body → IsArm (roll-Arm x)
  rolled_arm x h c scopes controls =
      subst (λ b. Row c scopes (told asked b (tags.arm_assigns (roll-Arm x) scopes)) ((arm_judged (roll-Arm x)).1 c controls)) (sym (fold-roll-Arm Bool Bool Bool Bool (in_statement asked) (in_arm asked) (in_compound asked) (in_otherwise asked) x))
      (subst (λ (g : tags.Assigning). Row c scopes (told asked (statement_has asked x.body) (g scopes)) ((arm_judged (roll-Arm x)).1 c controls)) (sym (fold-roll-Arm tags.Assigning tags.Assigning tags.Assigning tags.Assigning tags.in_statement tags.in_arm tags.in_compound tags.in_otherwise x))
      (subst (λ (a : ArmJudged). Row c scopes (statement_told x.body scopes) (a.1 c controls)) (sym (fold-roll-Arm (Under Stmt) ArmJudged (Under Stmts) (Under Stmts) at_statement at_arm at_compound at_otherwise x)) (h c scopes controls)))

  abbrev AreJudged : List Statement → Type 0
  AreJudged ss = (c : Context) (scopes : List Region) (controls : List Entire) → Rows c scopes (statements_told ss scopes) (in_order (map statement_judged ss) c controls)

  rolled_compound : (x : Compound-F Statement Arm Compound Otherwise) → AreJudged x.statements → IsCompound (roll-Compound x)
  rolled_compound x h c scopes controls =
      subst (λ b. Rows c scopes (told asked b (tags.compound_assigns (roll-Compound x) scopes)) (compound_under (roll-Compound x) c controls)) (sym (fold-roll-Compound Bool Bool Bool Bool (in_statement asked) (in_arm asked) (in_compound asked) (in_otherwise asked) x))
      (subst (λ (g : tags.Assigning). Rows c scopes (told asked (any_true (map (statement_has asked) x.statements)) (g scopes)) (compound_under (roll-Compound x) c controls)) (sym (fold-roll-Compound tags.Assigning tags.Assigning tags.Assigning tags.Assigning tags.in_statement tags.in_arm tags.in_compound tags.in_otherwise x))
      (subst (λ (judge : Under Stmts). Rows c scopes (statements_told x.statements scopes) (judge c controls)) (sym (fold-roll-Compound (Under Stmt) ArmJudged (Under Stmts) (Under Stmts) at_statement at_arm at_compound at_otherwise x)) (h c scopes controls)))

  rolled_otherwise : (x : Otherwise-F Statement Arm Compound Otherwise) → AreJudged x.statements → IsOtherwise (roll-Otherwise x)
  rolled_otherwise x h c scopes controls =
      subst (λ b. Rows c scopes (told asked b (tags.otherwise_assigns (roll-Otherwise x) scopes)) (otherwise_judged (roll-Otherwise x) c controls)) (sym (fold-roll-Otherwise Bool Bool Bool Bool (in_statement asked) (in_arm asked) (in_compound asked) (in_otherwise asked) x))
      (subst (λ (g : tags.Assigning). Rows c scopes (told asked (any_true (map (statement_has asked) x.statements)) (g scopes)) (otherwise_judged (roll-Otherwise x) c controls)) (sym (fold-roll-Otherwise tags.Assigning tags.Assigning tags.Assigning tags.Assigning tags.in_statement tags.in_arm tags.in_compound tags.in_otherwise x))
      (subst (λ (judge : Under Stmts). Rows c scopes (statements_told x.statements scopes) (judge c controls)) (sym (fold-roll-Otherwise (Under Stmt) ArmJudged (Under Stmts) (Under Stmts) at_statement at_arm at_compound at_otherwise x)) (h c scopes controls)))

  -- statements in order
  rows_have : (ss : List ItsStatement) → AreJudged (map (λ s. s.0) ss)
  rows_have [] c scopes controls = λ alike. none_told (λ b. HasOf asked b tree.none) (none_has asked)
  rows_have (s ∷ ss) c scopes controls =
      let others : List Statement = map (λ t. t.0) ss in
      let own : Bool = statement_told s.0 scopes in
      let more : Bool = statements_told others scopes in
      subst (λ b. Rows c scopes b (in_order (map statement_judged (s.0 ∷ others)) c controls)) (sym (told_both asked (statement_has asked s.0) (any_true (map (statement_has asked) others)) (tags.statement_assigns s.0 scopes) (tags.any_assigns (map tags.statement_assigns others) scopes)))
      (behind_fits (λ x. Alike scopes c.scopes → Has asked own x) (λ d xs. Alike scopes d.scopes → HasOf asked more xs) (λ xs. Alike scopes c.scopes → HasOf asked (own || more) xs) tree.next with_variables c (statement_judged s.0 c controls) (λ d. in_order (map statement_judged others) d controls)
      (s.1 c scopes controls) (λ d. rows_have ss d scopes controls) (λ x xs p q. λ alike. next_has asked x xs own more (p alike) (q alike)))

  -- ---- `case`

  arms_have : (line : ℕ) (h : Host) (controls : List Entire) (scopes : List Region) (all : List ItsArm) (c : Context)
      → FitsRow (λ xs. Alike scopes c.scopes → HasArms asked (arms_told (map (λ a. a.0) all) scopes) xs) (arms_in_order line h (map arm_judged (map (λ a. a.0) all)) c controls)
  arms_have line h controls scopes [] c = λ alike. none_told (λ b. HasArms asked b tree.no_arm) (no_arm_has asked)
  arms_have line h controls scopes (a ∷ all) c =
      let others : List Arm = map (λ b. b.0) all in
      let own : Bool = told asked (arm_has asked a.0) (tags.arm_assigns a.0 scopes) in
      let more : Bool = arms_told others scopes in
      subst (λ b. FitsRow (λ xs. Alike scopes c.scopes → HasArms asked b xs) (arms_in_order line h (map arm_judged (a.0 ∷ others)) c controls))
      (sym (told_both asked (arm_has asked a.0) (any_true (map (arm_has asked) others)) (tags.arm_assigns a.0 scopes) (tags.any_assigns (map tags.arm_assigns others) scopes)))
      (behind_fits (λ (x : tree.Arm). Alike scopes c.scopes → Has asked own x.1) (λ d xs. Alike scopes d.scopes → HasArms asked more xs) (λ xs. Alike scopes c.scopes → HasArms asked (own || more) xs) (λ x xs. tree.next_arm x.0 x.1 xs) (λ (x : tree.Arm). with_variables x.1) c (arm_row line h (arm_judged a.0) c controls)
      (λ d. arms_in_order line h (map arm_judged others) d controls)
      (after_fits Any (λ s. Alike scopes c.scopes → Has asked own s) (λ (x : tree.Arm). Alike scopes c.scopes → Has asked own x.1) (λ ranges s. (ranges, s)) (at_item line (own_ranges c.scopes h (arm_judged a.0).0)) ((arm_judged a.0).1 c controls) (row_any _) (a.1 c scopes controls) (λ ranges s p q. q))
      (λ d. arms_have line h controls scopes all d) (λ x xs p q. λ alike. next_arm_has asked x.0 x.1 xs own more (p alike) (q alike)))

  case_row_has : (c : Context) (scopes : List Region) (controls : List Entire) (line : ℕ) (j : Judged CaseSelector) (all : List ItsArm) (other : Context → Judgement Other) (k u : Bool) → ((d : Context) → FitsRow (λ o. Alike scopes d.scopes → HasOther asked (told asked k u) o) (other d))
      → Row c scopes (told asked (any_true (map (arm_has asked) (map (λ a. a.0) all)) || k) (tags.any_assigns (map tags.arm_assigns (map (λ a. a.0) all)) scopes || u))
      (case_judged line (λ x. expr_item c controls (Accepts x)) j (λ h. arms_in_order line h (map arm_judged (map (λ a. a.0) all)) c controls) (λ arms. other (behind with_variables_in c arms)))
  case_row_has c scopes controls line (Breaks rules) all other k u h = tt
  case_row_has c scopes controls line (Accepts s) all other k u h =
      let own : Bool = arms_told (map (λ a. a.0) all) scopes in
      let y : Bool = told asked k u in
      let arms : Judgement Arms = arms_in_order line s.host (map arm_judged (map (λ a. a.0) all)) c controls in
      subst (λ b. Row c scopes b (case_judged line (λ x. expr_item c controls (Accepts x)) (Accepts s) (λ h. arms_in_order line h (map arm_judged (map (λ a. a.0) all)) c controls) (λ arms. other (behind with_variables_in c arms))))
      (sym (told_both asked (any_true (map (arm_has asked) (map (λ a. a.0) all))) k (tags.any_assigns (map tags.arm_assigns (map (λ a. a.0) all)) scopes) u))
      (after_fits Any (λ (x : Arms × Other). Alike scopes c.scopes → HasArms asked own x.0 × HasOther asked y x.1) (λ t. Alike scopes c.scopes → Has asked (own || y) t) _ _ (after (λ a b. (a, b)) arms (other (behind with_variables_in c arms))) (row_any _)
      (behind_fits (λ xs. Alike scopes c.scopes → HasArms asked own xs) (λ d o. Alike scopes d.scopes → HasOther asked y o) (λ (x : Arms × Other). Alike scopes c.scopes → HasArms asked own x.0 × HasOther asked y x.1) (λ a b. (a, b)) with_variables_in c arms other (arms_have line s.host controls scopes all c) h (λ a b p q. λ alike. (p alike, q alike)))
      (λ e x p q. λ alike. case_has asked line e x.0 x.1 own y (q alike).0 (q alike).1))

  -- ---- `with`

  with_row_has : (c : Context) (scopes : List Region) (controls : List Entire) (line : ℕ) (accesses : List Access) (body : Statement) → IsStatement body
      → Row c scopes (statement_told body (tags.records_within scopes accesses scopes)) (with_judged c controls line (records_opened c accesses (none_opened c)) (statement_judged body))
  with_row_has c scopes controls line accesses body h = go (records_opened c accesses (none_opened c)) (λ alike. opened_alike c scopes alike accesses)
    where
      inner : List Region
      inner = tags.records_within scopes accesses scopes

      x : Bool
      x = statement_told body inner

      go : (j : Judged Opened) → (Alike scopes c.scopes → Fits (λ o. Alike inner o.scopes) j) → Row c scopes x (with_judged c controls line j (statement_judged body))
      go (Breaks rules) f = tt
      go (Accepts o) f =
          after_fits Any (λ s. Alike inner o.scopes → Has asked x s) (λ s. Alike scopes c.scopes → Has asked x s) (with_form line) _ (statement_judged body (inside c o) controls) (row_any _) (h (inside c o) inner controls) (λ hs s p q. λ alike. nested_has asked line hs s x (q (f alike)))

  -- an empty statement, and no `otherwise` part
  nothing_has : (d : Context) (scopes : List Region) → Row d scopes (told asked false false) (Passes tree.Empty)
  nothing_has d scopes alike = none_told (λ b. Has asked b tree.Empty) (empty_has asked)

  no_other : (d : Context) (scopes : List Region) → Alike scopes d.scopes → HasOther asked (told asked false false) tree.no_other
  no_other d scopes alike = none_told (λ b. HasOther asked b tree.no_other) (no_other_has asked)

  -- each statement, by those in it
  statement_step : (y : Statement-F ItsStatement ItsArm ItsCompound ItsOtherwise) → IsStatement (roll-Statement (statement_layer y))
  statement_step (Statement-F.Empty line) = rolled (Statement-F.Empty line) (λ c scopes controls. nothing_has c scopes)
  statement_step (Statement-F.Assignment line access v) = rolled (Statement-F.Assignment line access v) (λ c scopes controls. assigned_row c scopes controls line access v)
  statement_step (Statement-F.Call line access) = rolled (Statement-F.Call line access) (λ c scopes controls. simple_row c scopes controls line _ (called_simple c line (out-Access access).name (call_arguments (out-Access access).selectors)))
  statement_step (Statement-F.Compound s) =
      rolled (Statement-F.Compound s.0)
      (λ c scopes controls. let own : Bool = told asked (compound_has asked s.0) (tags.compound_assigns s.0 scopes) in
      formed_fits (λ ss. Alike scopes c.scopes → HasOf asked own ss) (λ t. Alike scopes c.scopes → Has asked own t) tree.Compound (compound_under s.0 c controls) (s.1 c scopes controls) (λ ss p. λ alike. compound_form_has asked own ss (p alike)))
  statement_step (Statement-F.If line e then_part None) =
      rolled (statement_layer (Statement-F.If line e then_part None))
      (λ c scopes controls. if_row c scopes controls line (condition_judged c controls line e) (statement_judged then_part.0 c controls) (λ d. Passes tree.Empty) (statement_has asked then_part.0) false (tags.statement_assigns then_part.0 scopes) false (then_part.1 c scopes controls) (λ d. nothing_has d scopes))
  statement_step (Statement-F.If line e then_part (Some other)) =
      rolled (statement_layer (Statement-F.If line e then_part (Some other)))
      (λ c scopes controls. if_row c scopes controls line (condition_judged c controls line e) (statement_judged then_part.0 c controls) (λ d. statement_judged other.0 d controls) (statement_has asked then_part.0) (statement_has asked other.0) (tags.statement_assigns then_part.0 scopes) (tags.statement_assigns other.0 scopes)
      (then_part.1 c scopes controls) (λ d. other.1 d scopes controls))
  statement_step (Statement-F.While line e body) =
      rolled (Statement-F.While line e body.0)
      (λ c scopes controls. let own : Bool = statement_told body.0 scopes in
      after_fits Any (λ s. Alike scopes c.scopes → Has asked own s) (λ s. Alike scopes c.scopes → Has asked own s) (tree.While line) (condition_judged c controls line e) (statement_judged body.0 c controls) (row_any _) (body.1 c scopes controls) (λ x s p q. λ alike. while_has asked line x s own (q alike)))
  statement_step (Statement-F.Case line e arms None) =
      rolled (statement_layer (Statement-F.Case line e arms None)) (λ c scopes controls. case_row_has c scopes controls line _ arms (λ d. Passes tree.no_other) false false (λ d. no_other d scopes))
  statement_step (Statement-F.Case line e arms (Some o)) =
      rolled (statement_layer (Statement-F.Case line e arms (Some o)))
      (λ c scopes controls. let own : Bool = otherwise_told o.0 scopes in
      case_row_has c scopes controls line _ arms (λ d. formed tree.otherwise_do (otherwise_judged o.0 d controls)) (otherwise_has asked o.0) (tags.otherwise_assigns o.0 scopes)
      (λ d. formed_fits (λ ss. Alike scopes d.scopes → HasOf asked own ss) (λ t. Alike scopes d.scopes → HasOther asked own t) tree.otherwise_do (otherwise_judged o.0 d controls) (o.1 d scopes controls) (λ ss p. λ alike. otherwise_form_has asked ss own (p alike))))
  statement_step (Statement-F.Repeat line statements e) =
      rolled (statement_layer (Statement-F.Repeat line statements e))
      (λ c scopes controls. let own : Bool = statements_told (map (λ s. s.0) statements) scopes in
      after_fits Any (λ ss. Alike scopes c.scopes → HasOf asked own ss) (λ t. Alike scopes c.scopes → Has asked own t) (λ x body. tree.Repeat line body x) (condition_judged c controls line e) (in_order (map statement_judged (map (λ s. s.0) statements)) c controls) (row_any _) (rows_have statements c scopes controls)
      (λ x ss p q. λ alike. repeat_has asked line x ss own (q alike)))
  statement_step (Statement-F.For line variable start toward end body) =
      rolled (statement_layer (Statement-F.For line variable start toward end body))
      (λ c scopes controls. for_row_has c scopes controls line (control_judged c variable) (falls_by toward) start end (statement_judged body.0) (statement_has asked body.0) (tags.statement_assigns body.0 scopes) (body.1 c scopes))
  statement_step (Statement-F.ForIn line variable set body) =
      rolled (statement_layer (Statement-F.ForIn line variable set body))
      (λ c scopes controls. for_in_row_has c scopes controls line (control_judged c variable) set (statement_judged body.0) (statement_has asked body.0) (tags.statement_assigns body.0 scopes) (body.1 c scopes))
  statement_step (Statement-F.With line accesses body) = rolled (statement_layer (Statement-F.With line accesses body)) (λ c scopes controls. with_row_has c scopes controls line accesses body.0 body.1)

  compound_step : (s : Compound) → IsCompound s
  compound_step =
      ind-Compound IsStatement IsArm IsCompound IsOtherwise
      (λ x y e. subst (λ z. IsStatement (roll-Statement z)) e (statement_step y))
      (λ x y e. subst (λ z. IsArm (roll-Arm z)) e (rolled_arm (arm_layer y) y.body.1))
      (λ x y e. subst (λ z. IsCompound (roll-Compound z)) e (rolled_compound (compound_layer y) (rows_have y.statements)))
      (λ x y e. subst (λ z. IsOtherwise (roll-Otherwise z)) e (rolled_otherwise (otherwise_layer y) (rows_have y.statements)))

-- the typed statements of a block have a first `for` with bounds, or assignment to a tag, exactly where the text has one
pub bounded_there : (context : Context) (c : Compound) (ss : Stmts) → compound_judged context c ≡ Passes ss → is_some (first_for_of ss) ≡ (has_for c || tags.assigns_tag context.scopes c)
bounded_there context c ss is =
    let had = subst (FitsRow (λ xs. Alike context.scopes context.scopes → HasOf form.Bounds (has_for c || tags.assigns_tag context.scopes c) xs)) is (compound_step form.Bounds c context context.scopes []) in
    had refl

-- and so one over members
pub members_there : (context : Context) (c : Compound) (ss : Stmts) → compound_judged context c ≡ Passes ss → is_some (first_for_in_of ss) ≡ has_for_in c
members_there context c ss is =
    let had = subst (FitsRow (λ xs. Alike context.scopes context.scopes → HasOf form.Members (has_for_in c) xs)) is (compound_step form.Members c context context.scopes []) in
    had refl
