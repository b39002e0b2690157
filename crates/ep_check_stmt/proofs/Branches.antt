-- Statements in statements.
use Rattle.std.proofs.Common.{◌≡◌, ℕ, List, map, Option, Some, None, ap, sym, ◌∙◌}
use Rattle.std.specs.Option.{option_map, option_or}
use Rattle.ep_built.specs.Built.{Found, Placed, expression_unbuilt, first_if, statement_unbuilt}
use Rattle.ep_built.specs.Built as built
use Rattle.ep_tree.specs.declared.expression.Access.{Access, out-Access}
use Rattle.ep_tree.specs.declared.expression.Expression.{Expression}
use Rattle.ep_tree.specs.declared.operator.Direction.{Direction}
use Rattle.ep_tree.specs.declared.statement.Statement.{Statement, fold-roll-Statement}
use Rattle.ep_tree.specs.declared.statement.Statement.TheOpen.{Statement-F}
use Rattle.ep_tree.specs.declared.statement.Statement.TheVariants as statement
use Rattle.ep_typed.specs.Trees as tree
use Rattle.ep_typed.specs.Trees.{Entire, Stmt, Stmts}
use Rattle.ep_rules.specs.Judgements.{Judged, Accepts, Breaks}
use Rattle.ep_rules.specs.declared.forms.Refusal.{Refusal}
use Rattle.ep_rules.specs.declared.forms.Refusal.TheVariants.{Rule, NoMemory}
use Rattle.ep_stmt_rules.specs.Answers.{Refuses, RefusesRow}
use Rattle.ep_stmt_rules.specs.Outcomes.{refused_at}
use Rattle.ep_stmt_rules.specs.Statements.{ArmJudged, Context, Opened, Under, after, at_arm, at_compound, at_otherwise, at_statement, call_arguments, condition_judged, control_judged, else_judged, falls_by, for_in_judged, for_judged, if_judged, in_order, name_called, none_opened, records_opened, repeat_judged, statement_judged, stmt_item, with_judged}
use Rattle.ep_stmt_rules.proofs.public.judged.Rounds.{first_built, rest_of}
use Rattle.ep_check_stmt.proofs.Rows.{own_line}

-- a call is judged by its name and its arguments
pub call_is : (context : Context) (line : ℕ) (access : Access) (controls : List Entire)
    → statement_judged (statement.Call line access) context controls ≡ stmt_item context controls line (name_called context line (out-Access access).name (call_arguments (out-Access access).selectors))
call_is context line access controls =
    ap (λ s. statement_judged s context controls) (sym (statement.rolls-Call line access))
    ∙ ap (λ (judge : Under Stmt). judge context controls) (fold-roll-Statement (Under Stmt) ArmJudged (Under Stmts) (Under Stmts) at_statement at_arm at_compound at_otherwise (Statement-F.Call line access))

-- a `while` statement is judged by its parts
pub while_is : (context : Context) (line : ℕ) (e : Expression) (body : Statement) (controls : List Entire)
    → statement_judged (statement.While line e body) context controls ≡ after (tree.While line) (condition_judged context controls line e) (statement_judged body context controls)
while_is context line e body controls =
    ap (λ s. statement_judged s context controls) (sym (statement.rolls-While line e body))
    ∙ ap (λ (judge : Under Stmt). judge context controls) (fold-roll-Statement (Under Stmt) ArmJudged (Under Stmts) (Under Stmts) at_statement at_arm at_compound at_otherwise (Statement-F.While line e body))

-- and a `repeat` statement
pub repeat_is : (context : Context) (line : ℕ) (all : List Statement) (e : Expression) (controls : List Entire)
    → statement_judged (statement.Repeat line all e) context controls ≡ repeat_judged line (condition_judged context controls line e) (in_order (map statement_judged all) context controls)
repeat_is context line all e controls =
    ap (λ s. statement_judged s context controls) (sym (statement.rolls-Repeat line all e))
    ∙ ap (λ (judge : Under Stmt). judge context controls) (fold-roll-Statement (Under Stmt) ArmJudged (Under Stmts) (Under Stmts) at_statement at_arm at_compound at_otherwise (Statement-F.Repeat line all e))

-- and a `for` statement, by its control variable
pub for_is : (context : Context) (line : ℕ) (variable : List ℕ) (start : Expression) (toward : Direction) (end : Expression) (body : Statement) (controls : List Entire)
    → statement_judged (statement.For line variable start toward end body) context controls ≡ for_judged context controls line (control_judged context variable) (falls_by toward) start end (statement_judged body)
for_is context line variable start toward end body controls =
    ap (λ s. statement_judged s context controls) (sym (statement.rolls-For line variable start toward end body))
    ∙ ap (λ (judge : Under Stmt). judge context controls) (fold-roll-Statement (Under Stmt) ArmJudged (Under Stmts) (Under Stmts) at_statement at_arm at_compound at_otherwise (Statement-F.For line variable start toward end body))

-- and one over members
pub for_in_is : (context : Context) (line : ℕ) (variable : List ℕ) (set : Expression) (body : Statement) (controls : List Entire)
    → statement_judged (statement.ForIn line variable set body) context controls ≡ for_in_judged context controls line (control_judged context variable) set (statement_judged body)
for_in_is context line variable set body controls =
    ap (λ s. statement_judged s context controls) (sym (statement.rolls-ForIn line variable set body))
    ∙ ap (λ (judge : Under Stmt). judge context controls) (fold-roll-Statement (Under Stmt) ArmJudged (Under Stmts) (Under Stmts) at_statement at_arm at_compound at_otherwise (Statement-F.ForIn line variable set body))

-- a `with` statement is judged by its records
pub with_is : (context : Context) (line : ℕ) (accesses : List Access) (body : Statement) (controls : List Entire)
    → statement_judged (statement.With line accesses body) context controls ≡ with_judged context controls line (records_opened context accesses (none_opened context)) (statement_judged body)
with_is context line accesses body controls =
    ap (λ s. statement_judged s context controls) (sym (statement.rolls-With line accesses body))
    ∙ ap (λ (judge : Under Stmt). judge context controls) (fold-roll-Statement (Under Stmt) ArmJudged (Under Stmts) (Under Stmts) at_statement at_arm at_compound at_otherwise (Statement-F.With line accesses body))

-- the refusal of its records is that of the statement
pub opened_falls : (context : Context) (controls : List Entire) (line : ℕ) (j : Judged Opened) (body : Under Stmt) (e : Refusal) → Refuses e j → RefusesRow (refused_at line e) (with_judged context controls line j body)
opened_falls context controls line j body NoMemory r = tt
opened_falls context controls line (Accepts o) body (Rule rule) r = cc
opened_falls context controls line (Breaks rules) body (Rule rule) r = own_line line rules rule r

if_unbuilt : (line : ℕ) (e : Expression) (then : Statement) (other : Option Statement)
    → statement_unbuilt (statement.If line e then other) ≡ option_or (expression_unbuilt e) (option_or (statement_unbuilt then) (first_if (option_map statement_unbuilt other)))
if_unbuilt line e then None =
    ap statement_unbuilt (sym (statement.rolls-If line e then None))
    ∙ fold-roll-Statement Found Found Placed Found built.at_statement built.at_arm built.at_compound built.at_otherwise (Statement-F.If line e then None)
if_unbuilt line e then (Some other) =
    ap statement_unbuilt (sym (statement.rolls-If line e then (Some other)))
    ∙ fold-roll-Statement Found Found Placed Found built.at_statement built.at_arm built.at_compound built.at_otherwise (Statement-F.If line e then (Some other))

branches_built : (line : ℕ) (e : Expression) (then : Statement) (other : Option Statement) → statement_unbuilt (statement.If line e then other) ≡ None
    → option_or (statement_unbuilt then) (first_if (option_map statement_unbuilt other)) ≡ None
branches_built line e then other h =
    rest_of (expression_unbuilt e) (option_or (statement_unbuilt then) (first_if (option_map statement_unbuilt other))) (sym (if_unbuilt line e then other) ∙ h)

-- the branches of an `if` statement that is built
pub then_built : (line : ℕ) (e : Expression) (then : Statement) (other : Option Statement) → statement_unbuilt (statement.If line e then other) ≡ None → statement_unbuilt then ≡ None
then_built line e then other h = first_built (statement_unbuilt then) (first_if (option_map statement_unbuilt other)) (branches_built line e then other h)

pub other_built : (line : ℕ) (e : Expression) (then other : Statement) → statement_unbuilt (statement.If line e then (Some other)) ≡ None → statement_unbuilt other ≡ None
other_built line e then other h = rest_of (statement_unbuilt then) (statement_unbuilt other) (branches_built line e then (Some other) h)

-- what the `else` part is judged to be
abbrev pub else_rest : Option Statement → Option (Under Stmt)
else_rest None = None
else_rest (Some other) = Some (statement_judged other)

-- an `if` statement is judged by its parts
pub if_is : (context : Context) (line : ℕ) (e : Expression) (then : Statement) (other : Option Statement) (controls : List Entire)
    → statement_judged (statement.If line e then other) context controls
    ≡ if_judged line (condition_judged context controls line e) (statement_judged then context controls) (else_judged (else_rest other) context controls (statement_judged then context controls))
if_is context line e then None controls =
    ap (λ s. statement_judged s context controls) (sym (statement.rolls-If line e then None))
    ∙ ap (λ (judge : Under Stmt). judge context controls) (fold-roll-Statement (Under Stmt) ArmJudged (Under Stmts) (Under Stmts) at_statement at_arm at_compound at_otherwise (Statement-F.If line e then None))
if_is context line e then (Some other) controls =
    ap (λ s. statement_judged s context controls) (sym (statement.rolls-If line e then (Some other)))
    ∙ ap (λ (judge : Under Stmt). judge context controls) (fold-roll-Statement (Under Stmt) ArmJudged (Under Stmts) (Under Stmts) at_statement at_arm at_compound at_otherwise (Statement-F.If line e then (Some other)))
