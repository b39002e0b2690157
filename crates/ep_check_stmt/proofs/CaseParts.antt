-- A `case` statement and its parts.
use Rattle.std.proofs.Common.{◌≡◌, ℕ, ◌+◌, ◌<◌, ◌≤◌, List, [], ◌∷◌, ◌++◌, map, drop, length, get_or, Option, Some, None, refl, sym, ap, ◌∙◌, subst}
use Rattle.std.proofs.lemmas.List.{drop_all}
use Rattle.std.specs.Option.{option_or}
use Rattle.ep_built.specs.Built.{Found, Placed, arm_unbuilt, expression_unbuilt, first_in, label_unbuilt, statement_unbuilt}
use Rattle.ep_built.specs.Built as built
use Rattle.ep_tree.specs.declared.expression.Expression.{Expression}
use Rattle.ep_tree.specs.declared.expression.Label.{Label}
use Rattle.ep_tree.specs.declared.statement.Arm.{Arm, out-Arm}
use Rattle.ep_tree.specs.declared.statement.Otherwise.{Otherwise, out-Otherwise}
use Rattle.ep_tree.specs.declared.statement.Statement.{fold-roll-Statement}
use Rattle.ep_tree.specs.declared.statement.Statement.TheFolds.{fold_out-Arm, fold_out-Otherwise}
use Rattle.ep_tree.specs.declared.statement.Statement.TheOpen.{Statement-F}
use Rattle.ep_tree.specs.declared.statement.Statement.TheVariants as statement
use Rattle.ep_typed.specs.Auxiliaries.{with_variables}
use Rattle.ep_typed.specs.Trees as tree
use Rattle.ep_typed.specs.Trees.{Entire, Expr, Stmt, Stmts, Arms, Other, next_arm, no_arm, arms}
use Rattle.ep_typed.specs.Viewed.{arm_of}
use Rattle.ep_typed.specs.declared.tree.CaseArm.{CaseArm}
use Rattle.ep_rules.specs.Judgements.{Judged, Accepts, Breaks}
use Rattle.ep_rules.specs.declared.forms.Refusal.{Refusal}
use Rattle.ep_rules.specs.declared.forms.Refusal.TheVariants.{Rule, NoMemory}
use Rattle.ep_stmt_rules.specs.Answers.{Refuses, RefusesRow, labels_of}
use Rattle.ep_scope.specs.declared.kind.Host.{Host}
use Rattle.ep_stmt_rules.specs.Cases.{CaseSelector, selector_judged}
use Rattle.ep_stmt_rules.specs.Outcomes.{refused_at}
use Rattle.ep_stmt_rules.specs.Statements.{ArmJudged, Context, Under, Judgement, expr_item, Passes, Waits, Fails, after, arm_judged, arm_row, arms_in_order, at_arm, at_compound, behind, at_otherwise, at_statement, case_judged, in_order, other_judged, otherwise_judged, statement_judged}
use Rattle.ep_stmt_rules.specs.declared.outcome.CheckRefusal.{CheckRefusal}
use Rattle.ep_stmt_rules.specs.declared.outcome.CheckRefusal.TheVariants as refusal
use Rattle.ep_stmt_rules.proofs.public.judged.Rounds.{first_built, next_item, rest_of}
use Rattle.ep_check_stmt.proofs.Rows.{first_falls, own_line}

-- ---- arms in order

-- these arms before those
abbrev pub joined : List tree.Arm → Arms → Arms
joined [] more = more
joined (a ∷ found) more = next_arm a.0 a.1 (joined found more)

joined_more : (found : List tree.Arm) (a : tree.Arm) (more : Arms) → joined found (next_arm a.0 a.1 more) ≡ joined (found ++ a ∷ []) more
joined_more [] a more = refl
joined_more (b ∷ found) a more = ap (next_arm b.0 b.1) (joined_more found a more)

joined_all : (found : List tree.Arm) → joined found no_arm ≡ arms found
joined_all [] = refl
joined_all (a ∷ found) = ap (next_arm a.0 a.1) (joined_all found)

-- the arms so far, of which the first that is not built begins on this line, and those that come
abbrev pub arms_together : List tree.Arm → Option ℕ → Judgement Arms → Judgement Arms
arms_together found waits (Fails line rules) = Fails line rules
arms_together found None (Passes more) = Passes (joined found more)
arms_together found None (Waits line) = Waits line
arms_together found (Some line) (Passes more) = Waits line
arms_together found (Some line) (Waits other) = Waits line

abbrev before : tree.Arm → Arms → Arms
before x more = next_arm x.0 x.1 more

one_passes : (found : List tree.Arm) (waits : Option ℕ) (a : tree.Arm) (rest : Judgement Arms) → arms_together found waits (after before (Passes a) rest) ≡ arms_together (found ++ a ∷ []) waits rest
one_passes found None a (Passes more) = ap Passes (joined_more found a more)
one_passes found (Some line) a (Passes more) = refl
one_passes found None a (Waits line) = refl
one_passes found (Some first) a (Waits line) = refl
one_passes found waits a (Fails line rules) = refl

one_waits : (found : List tree.Arm) (waits : Option ℕ) (line : ℕ) (rest : Judgement Arms) → arms_together found waits (after before (Waits line) rest) ≡ arms_together found (option_or waits (Some line)) rest
one_waits found None line (Passes more) = refl
one_waits found (Some first) line (Passes more) = refl
one_waits found None line (Waits other) = refl
one_waits found (Some first) line (Waits other) = refl
one_waits found None line (Fails other rules) = refl
one_waits found (Some first) line (Fails other rules) = refl

refused_through : (r : CheckRefusal) (found : List tree.Arm) (waits : Option ℕ) (j : Judgement Arms) → RefusesRow r j → RefusesRow r (arms_together found waits j)
refused_through refusal.NoMemory found waits j h = tt
refused_through (refusal.NotBuilt line) found waits j h = h
refused_through (refusal.Broken b) found waits (Passes more) h = cc
refused_through (refusal.Broken b) found waits (Waits line) h = cc
refused_through (refusal.Broken b) found waits (Fails line rules) h = h

module _ {X : Type 0} (view : X → ArmJudged) (line : ℕ) (host : Host) (controls : List Entire) (all : List X) (n : ℕ) (x : X) (h : n < length all) (is : x ≡ get_or all n x) where
  abbrev rest : Context → Judgement Arms
  rest c = arms_in_order line host (map view (drop (n + 1) all)) c controls

  abbrev one : Context → Judgement tree.Arm
  one c = arm_row line host (view x) c controls

  at_next : (c : Context) → arms_in_order line host (map view (drop n all)) c controls ≡ after before (one c) (rest (behind (λ (a : tree.Arm). with_variables a.1) c (one c)))
  at_next c = ap (λ xs. arms_in_order line host (map view xs) c controls) (next_item all n x h is)

  -- the turn of a loop, with an arm that is built
  pub more_arms : (c : Context) (found : List tree.Arm) (waits : Option ℕ) (a : tree.Arm) (j : Judgement Arms) → one c ≡ Passes a → arms_together found waits (arms_in_order line host (map view (drop n all)) c controls) ≡ j
      → arms_together (found ++ a ∷ []) waits (rest (record c { withs = c.withs + length (with_variables a.1) })) ≡ j
  more_arms c found waits a j e same =
      sym (one_passes found waits a (rest (record c { withs = c.withs + length (with_variables a.1) })))
      ∙ (sym (ap (arms_together found waits) (at_next c ∙ ap (λ k. after before k (rest (behind (λ (b : tree.Arm). with_variables b.1) c k))) e)) ∙ same)

  -- with one that is not
  pub less_arms : (c : Context) (found : List tree.Arm) (waits : Option ℕ) (at : ℕ) (j : Judgement Arms) → one c ≡ Waits at → arms_together found waits (arms_in_order line host (map view (drop n all)) c controls) ≡ j
      → arms_together found (option_or waits (Some at)) (rest c) ≡ j
  less_arms c found waits at j e same =
      sym (one_waits found waits at (rest c)) ∙ (sym (ap (arms_together found waits) (at_next c ∙ ap (λ k. after before k (rest (behind (λ (b : tree.Arm). with_variables b.1) c k))) e)) ∙ same)

  -- the arm is refused
  pub arm_falls : (c : Context) (r : CheckRefusal) (found : List tree.Arm) (waits : Option ℕ) (j : Judgement Arms) → arms_together found waits (arms_in_order line host (map view (drop n all)) c controls) ≡ j → RefusesRow r (one c) → RefusesRow r j
  arm_falls c r found waits j same f =
      subst (RefusesRow r) same
      (refused_through r found waits (arms_in_order line host (map view (drop n all)) c controls)
      (subst (RefusesRow r) (sym (at_next c)) (first_falls before r (one c) (rest (behind (λ (a : tree.Arm). with_variables a.1) c (one c))) f)))

-- one arm more at the end
pub arms_more : (found : List CaseArm) (a : CaseArm) → map arm_of (found ++ a ∷ []) ≡ map arm_of found ++ arm_of a ∷ []
arms_more [] a = refl
arms_more (b ∷ found) a = ap (λ xs. arm_of b ∷ xs) (arms_more found a)

-- the end of a loop in which all were built
pub all_arms : {X : Type 0} (view : X → ArmJudged) (line : ℕ) (host : Host) (c : Context) (controls : List Entire) (all : List X) (n : ℕ) (found : List tree.Arm) (waits : Option ℕ) (j : Judgement Arms) → length all ≤ n → waits ≡ None
    → arms_together found waits (arms_in_order line host (map view (drop n all)) c controls) ≡ j → j ≡ Passes (arms found)
all_arms view line host c controls all n found waits j h none_waits same =
    sym same ∙ (ap (λ xs. arms_together found waits (arms_in_order line host (map view xs) c controls)) (drop_all n all h) ∙ (ap (λ w. arms_together found w (Passes no_arm)) none_waits ∙ ap Passes (joined_all found)))

-- ---- the equations of the nodes

-- an arm is judged by its parts
pub arm_is : (a : Arm) → arm_judged a ≡ (labels_of a, statement_judged (out-Arm a).body)
arm_is a = fold_out-Arm (Under Stmt) ArmJudged (Under Stmts) (Under Stmts) at_statement at_arm at_compound at_otherwise a

arms_labels : (all : List Arm) → map (λ (a : ArmJudged). a.0) (map arm_judged all) ≡ map labels_of all
arms_labels [] = refl
arms_labels (a ∷ all) = ap (λ (p : ArmJudged). p.0 ∷ map (λ (b : ArmJudged). b.0) (map arm_judged all)) (arm_is a) ∙ ap (λ ls. labels_of a ∷ ls) (arms_labels all)

-- the statements behind `otherwise` are judged one after another
otherwise_is : (o : Otherwise) → otherwise_judged o ≡ in_order (map statement_judged (out-Otherwise o).statements)
otherwise_is o = fold_out-Otherwise (Under Stmt) ArmJudged (Under Stmts) (Under Stmts) at_statement at_arm at_compound at_otherwise o

-- what the `otherwise` part is judged to be
abbrev pub rest_judged : Option Otherwise → Option (Under Stmts)
rest_judged None = None
rest_judged (Some o) = Some (in_order (map statement_judged (out-Otherwise o).statements))

module _ (context : Context) (line : ℕ) (e : Expression) (all : List Arm) (controls : List Entire) where
  -- by the labels of the arms, and the `otherwise` part
  abbrev by_labels : List (List Label) → Option (Under Stmts) → Judgement Stmt
  by_labels labels other =
      case_judged line (λ x. expr_item context controls (Accepts x)) (selector_judged context.scopes e labels) (λ h. arms_in_order line h (map arm_judged all) context controls) (other_judged other context controls)

  -- a `case` statement is judged by its parts
  pub case_is : (other : Option Otherwise) → statement_judged (statement.Case line e all other) context controls ≡ by_labels (map labels_of all) (rest_judged other)
  case_is None =
      ap (λ s. statement_judged s context controls) (sym (statement.rolls-Case line e all None))
      ∙ ap (λ (judge : Under Stmt). judge context controls) (fold-roll-Statement (Under Stmt) ArmJudged (Under Stmts) (Under Stmts) at_statement at_arm at_compound at_otherwise (Statement-F.Case line e all None))
      ∙ ap (λ labels. by_labels labels None) (arms_labels all)
  case_is (Some o) =
      ap (λ s. statement_judged s context controls) (sym (statement.rolls-Case line e all (Some o)))
      ∙ ap (λ (judge : Under Stmt). judge context controls) (fold-roll-Statement (Under Stmt) ArmJudged (Under Stmts) (Under Stmts) at_statement at_arm at_compound at_otherwise (Statement-F.Case line e all (Some o)))
      ∙ ap (λ labels. by_labels labels (Some (otherwise_judged o))) (arms_labels all)
      ∙ ap (λ j. by_labels (map labels_of all) (Some j)) (otherwise_is o)

-- the refusal of the selector is that of the statement
pub selector_falls : (line : ℕ) (form : Option Expr → Judged (Option Expr)) (j : Judged CaseSelector) (rows : Host → Judgement Arms) (other : Judgement Arms → Judgement Other) (e : Refusal) → Refuses e j → RefusesRow (refused_at line e) (case_judged line form j rows other)
selector_falls line form j rows other NoMemory r = tt
selector_falls line form (Accepts s) rows other (Rule rule) r = cc
selector_falls line form (Breaks rules) rows other (Rule rule) r = own_line line rules rule r

-- ---- what is built

-- the first line in a `case` statement that is built
abbrev rest_unbuilt : Option Otherwise → Found
rest_unbuilt None = None
rest_unbuilt (Some o) = first_in (map statement_unbuilt (out-Otherwise o).statements)

case_unbuilt : (line : ℕ) (e : Expression) (all : List Arm) (other : Option Otherwise) → statement_unbuilt (statement.Case line e all other) ≡ option_or (expression_unbuilt e) (option_or (first_in (map arm_unbuilt all)) (rest_unbuilt other))
case_unbuilt line e all None =
    ap statement_unbuilt (sym (statement.rolls-Case line e all None))
    ∙ fold-roll-Statement Found Found Placed Found built.at_statement built.at_arm built.at_compound built.at_otherwise (Statement-F.Case line e all None)
case_unbuilt line e all (Some o) =
    ap statement_unbuilt (sym (statement.rolls-Case line e all (Some o)))
    ∙ fold-roll-Statement Found Found Placed Found built.at_statement built.at_arm built.at_compound built.at_otherwise (Statement-F.Case line e all (Some o))
    ∙ ap (λ x. option_or (expression_unbuilt e) (option_or (first_in (map arm_unbuilt all)) x)) (fold_out-Otherwise Found Found Placed Found built.at_statement built.at_arm built.at_compound built.at_otherwise o)

module _ (line : ℕ) (e : Expression) (all : List Arm) (other : Option Otherwise) (h : statement_unbuilt (statement.Case line e all other) ≡ None) where
  both_built : option_or (expression_unbuilt e) (option_or (first_in (map arm_unbuilt all)) (rest_unbuilt other)) ≡ None
  both_built = sym (case_unbuilt line e all other) ∙ h

  pub selector_built : expression_unbuilt e ≡ None
  selector_built = first_built (expression_unbuilt e) (option_or (first_in (map arm_unbuilt all)) (rest_unbuilt other)) both_built

  more_built : option_or (first_in (map arm_unbuilt all)) (rest_unbuilt other) ≡ None
  more_built = rest_of (expression_unbuilt e) (option_or (first_in (map arm_unbuilt all)) (rest_unbuilt other)) both_built

  pub arms_built : first_in (map arm_unbuilt all) ≡ None
  arms_built = first_built (first_in (map arm_unbuilt all)) (rest_unbuilt other) more_built

  pub rest_built : rest_unbuilt other ≡ None
  rest_built = rest_of (first_in (map arm_unbuilt all)) (rest_unbuilt other) more_built

-- an arm by its parts
arm_unbuilt_is : (a : Arm) → arm_unbuilt a ≡ option_or (first_in (map label_unbuilt (labels_of a))) (statement_unbuilt (out-Arm a).body)
arm_unbuilt_is a = fold_out-Arm Found Found Placed Found built.at_statement built.at_arm built.at_compound built.at_otherwise a

module _ (a : Arm) (h : arm_unbuilt a ≡ None) where
  pub labels_built : first_in (map label_unbuilt (labels_of a)) ≡ None
  labels_built = first_built (first_in (map label_unbuilt (labels_of a))) (statement_unbuilt (out-Arm a).body) (sym (arm_unbuilt_is a) ∙ h)

  pub body_built : statement_unbuilt (out-Arm a).body ≡ None
  body_built = rest_of (first_in (map label_unbuilt (labels_of a))) (statement_unbuilt (out-Arm a).body) (sym (arm_unbuilt_is a) ∙ h)
