-- The nesting of the nodes of statements and routines by that of their parts: an equation for each node.
use Rattle.std.proofs.Common.{◌≡◌, ℕ, suc, max, List, Option, Some, None, sym, ap, ◌∙◌}
use Rattle.ep_tree.specs.declared.statement.Statement.TheFolds.{fold-roll-Statement, fold-roll-Arm, fold-roll-Compound, fold-roll-Otherwise}
use Rattle.ep_tree.specs.declared.routine.BlockPart.TheFolds.{fold-roll-BlockPart, fold-roll-RoutineBody, fold-roll-Routine}
use Rattle.ep_tree.specs.declared.operator.Direction.{Direction}
use Rattle.ep_tree.specs.declared.expression.Access.{Access}
use Rattle.ep_tree.specs.declared.expression.Expression.{Expression}
use Rattle.ep_tree.specs.declared.expression.Label.{Label}
use Rattle.ep_tree.specs.declared.expression.ComponentValue.{ComponentValue}
use Rattle.ep_tree.specs.declared.statement.Statement.{Statement}
use Rattle.ep_tree.specs.declared.statement.Statement.TheVariants as statement_is
use Rattle.ep_tree.specs.declared.statement.Arm.{Arm}
use Rattle.ep_tree.specs.declared.statement.Compound.{Compound}
use Rattle.ep_tree.specs.declared.statement.Otherwise.{Otherwise}
use Rattle.ep_tree.specs.declared.declaration.Constants.{Constants}
use Rattle.ep_tree.specs.declared.declaration.Types.{Types}
use Rattle.ep_tree.specs.declared.declaration.Variables.{Variables}
use Rattle.ep_tree.specs.declared.routine.BlockPart.{BlockPart}
use Rattle.ep_tree.specs.declared.routine.BlockPart.TheVariants as part_is
use Rattle.ep_tree.specs.declared.routine.Routine.{Routine}
use Rattle.ep_tree.specs.declared.routine.RoutineBody.{RoutineBody}
use Rattle.ep_tree.specs.declared.routine.RoutineBody.TheVariants as body_is
use Rattle.ep_tree.specs.declared.routine.RoutineStart.{RoutineStart}
use Rattle.ep_tree.specs.Nodes.{compound_node, arm_node, otherwise_node, routine_node}
use Rattle.ep_tree.specs.Nesting.{component_value_nesting, expression_nesting, access_nesting, label_nesting, statement_nesting, arm_nesting, compound_nesting, otherwise_nesting, constants_nesting, types_nesting, variables_nesting, part_nesting, routine_nesting, routine_body_nesting}
use Rattle.ep_levels.proofs.Measures.{there, most}

-- ---- statements

pub compound_is : (at : ℕ) (ss : List Statement) → compound_nesting (compound_node at ss) ≡ most statement_nesting ss
compound_is at ss = simp fold-roll-Compound

pub arm_is : (at : ℕ) (ls : List Label) (s : Statement) → arm_nesting (arm_node at ls s) ≡ max (most label_nesting ls) (statement_nesting s)
arm_is at ls s = simp fold-roll-Arm

pub otherwise_is : (at : ℕ) (ss : List Statement) → otherwise_nesting (otherwise_node at ss) ≡ most statement_nesting ss
otherwise_is at ss = simp fold-roll-Otherwise

pub empty_is : (at : ℕ) → statement_nesting (statement_is.Empty at) ≡ 1
empty_is at = ap statement_nesting (sym (statement_is.rolls-Empty at)) ∙ simp fold-roll-Statement

pub assignment_is : (at : ℕ) (a : Access) (v : ComponentValue) → statement_nesting (statement_is.Assignment at a v) ≡ suc (max (access_nesting a) (component_value_nesting v))
assignment_is at a v = ap statement_nesting (sym (statement_is.rolls-Assignment at a v)) ∙ simp fold-roll-Statement

pub call_is : (at : ℕ) (a : Access) → statement_nesting (statement_is.Call at a) ≡ suc (access_nesting a)
call_is at a = ap statement_nesting (sym (statement_is.rolls-Call at a)) ∙ simp fold-roll-Statement

pub compound_statement_is : (c : Compound) → statement_nesting (statement_is.Compound c) ≡ suc (compound_nesting c)
compound_statement_is c = ap statement_nesting (sym (statement_is.rolls-Compound c)) ∙ simp fold-roll-Statement

pub if_is : (at : ℕ) (e : Expression) (s : Statement) (o : Option Statement) → statement_nesting (statement_is.If at e s o) ≡ suc (max (expression_nesting e) (max (statement_nesting s) (there statement_nesting o)))
if_is at e s None = ap statement_nesting (sym (statement_is.rolls-If at e s None)) ∙ simp fold-roll-Statement
if_is at e s (Some t) = ap statement_nesting (sym (statement_is.rolls-If at e s (Some t))) ∙ simp fold-roll-Statement

pub case_statement_is : (at : ℕ) (e : Expression) (arms : List Arm) (o : Option Otherwise) → statement_nesting (statement_is.Case at e arms o) ≡ suc (max (expression_nesting e) (max (most arm_nesting arms) (there otherwise_nesting o)))
case_statement_is at e arms None = ap statement_nesting (sym (statement_is.rolls-Case at e arms None)) ∙ simp fold-roll-Statement
case_statement_is at e arms (Some o) = ap statement_nesting (sym (statement_is.rolls-Case at e arms (Some o))) ∙ simp fold-roll-Statement

pub while_is : (at : ℕ) (e : Expression) (s : Statement) → statement_nesting (statement_is.While at e s) ≡ suc (max (expression_nesting e) (statement_nesting s))
while_is at e s = ap statement_nesting (sym (statement_is.rolls-While at e s)) ∙ simp fold-roll-Statement

pub repeat_is : (at : ℕ) (ss : List Statement) (e : Expression) → statement_nesting (statement_is.Repeat at ss e) ≡ suc (max (most statement_nesting ss) (expression_nesting e))
repeat_is at ss e = ap statement_nesting (sym (statement_is.rolls-Repeat at ss e)) ∙ simp fold-roll-Statement

pub for_is : (at : ℕ) (n : List ℕ) (a : Expression) (d : Direction) (b : Expression) (s : Statement) → statement_nesting (statement_is.For at n a d b s) ≡ suc (max (expression_nesting a) (max (expression_nesting b) (statement_nesting s)))
for_is at n a d b s = ap statement_nesting (sym (statement_is.rolls-For at n a d b s)) ∙ simp fold-roll-Statement

pub for_in_is : (at : ℕ) (n : List ℕ) (e : Expression) (s : Statement) → statement_nesting (statement_is.ForIn at n e s) ≡ suc (max (expression_nesting e) (statement_nesting s))
for_in_is at n e s = ap statement_nesting (sym (statement_is.rolls-ForIn at n e s)) ∙ simp fold-roll-Statement

pub with_is : (at : ℕ) (xs : List Access) (s : Statement) → statement_nesting (statement_is.With at xs s) ≡ suc (max (most access_nesting xs) (statement_nesting s))
with_is at xs s = ap statement_nesting (sym (statement_is.rolls-With at xs s)) ∙ simp fold-roll-Statement

-- ---- routines

pub constants_part_is : (c : Constants) → part_nesting (part_is.Constants c) ≡ constants_nesting c
constants_part_is c = ap part_nesting (sym (part_is.rolls-Constants c)) ∙ simp fold-roll-BlockPart

pub types_part_is : (t : Types) → part_nesting (part_is.Types t) ≡ types_nesting t
types_part_is t = ap part_nesting (sym (part_is.rolls-Types t)) ∙ simp fold-roll-BlockPart

pub variables_part_is : (v : Variables) → part_nesting (part_is.Variables v) ≡ variables_nesting v
variables_part_is v = ap part_nesting (sym (part_is.rolls-Variables v)) ∙ simp fold-roll-BlockPart

pub routine_part_is : (r : Routine) → part_nesting (part_is.Routine r) ≡ routine_nesting r
routine_part_is r = ap part_nesting (sym (part_is.rolls-Routine r)) ∙ simp fold-roll-BlockPart

pub forward_is : (at : ℕ) → routine_body_nesting (body_is.Forward at) ≡ 0
forward_is at = ap routine_body_nesting (sym (body_is.rolls-Forward at)) ∙ simp fold-roll-RoutineBody

pub block_body_is : (at : ℕ) (ps : List BlockPart) (c : Compound) → routine_body_nesting (body_is.Block at ps c) ≡ max (most part_nesting ps) (compound_nesting c)
block_body_is at ps c = ap routine_body_nesting (sym (body_is.rolls-Block at ps c)) ∙ simp fold-roll-RoutineBody

pub routine_is : (at : ℕ) (s : RoutineStart) (b : RoutineBody) → routine_nesting (routine_node at s b) ≡ suc (routine_body_nesting b)
routine_is at s b = simp fold-roll-Routine
