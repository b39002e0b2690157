-- The parts of an assignment, a call, a `while`, a `for` statement of either form and a `with` statement that is built.
use Rattle.std.proofs.Common.{◌≡◌, ℕ, Bool, true, false, List, None, map, ap, refl, sym, ◌∙◌}
use Rattle.std.specs.Option.{option_or}
use Rattle.ep_built.specs.Built.{Found, Placed, access_unbuilt, at_node, built_call, built_statement, call_unbuilt, component_value_unbuilt, expression_unbuilt, first_in, statement_unbuilt}
use Rattle.ep_built.specs.Built as built
use Rattle.ep_tree.specs.declared.expression.Access.{Access}
use Rattle.ep_tree.specs.declared.expression.ComponentValue.{ComponentValue}
use Rattle.ep_tree.specs.declared.expression.Expression.{Expression}
use Rattle.ep_tree.specs.declared.operator.Direction.{Direction}
use Rattle.ep_tree.specs.declared.statement.Statement.{Statement, fold-roll-Statement}
use Rattle.ep_tree.specs.declared.statement.Statement.TheOpen.{Statement-F}
use Rattle.ep_tree.specs.declared.statement.Statement.TheVariants as statement
use Rattle.ep_stmt_rules.proofs.public.judged.Rounds.{first_built, rest_of}

-- a node that is built has what stands in it built
inside_built : (is_built : Bool) (line : ℕ) (inner : Found) → at_node is_built line inner ≡ None → inner ≡ None
inside_built true line inner h = h
inside_built false line inner h = cc

built_inside : (is_built : Bool) (line : ℕ) (inner : Found) → at_node is_built line inner ≡ None → is_built ≡ true
built_inside true line inner h = refl
built_inside false line inner h = cc

-- an assignment
module _ (line : ℕ) (access : Access) (value : ComponentValue) (h : statement_unbuilt (statement.Assignment line access value) ≡ None) where
  abbrev target_layer : Statement-F Found Found Placed Found
  target_layer = Statement-F.Assignment line access value

  both_built : option_or (access_unbuilt access) (component_value_unbuilt value) ≡ None
  both_built =
      inside_built (built_statement target_layer) line (option_or (access_unbuilt access) (component_value_unbuilt value))
      (sym (ap statement_unbuilt (sym (statement.rolls-Assignment line access value)) ∙ fold-roll-Statement Found Found Placed Found built.at_statement built.at_arm built.at_compound built.at_otherwise (Statement-F.Assignment line access value)) ∙ h)

  pub target_built : access_unbuilt access ≡ None
  target_built = first_built (access_unbuilt access) (component_value_unbuilt value) both_built

  pub value_built : component_value_unbuilt value ≡ None
  value_built = rest_of (access_unbuilt access) (component_value_unbuilt value) both_built

-- a call
module _ (line : ℕ) (access : Access) (h : statement_unbuilt (statement.Call line access) ≡ None) where
  call_is_built : at_node (built_call access) line (call_unbuilt access) ≡ None
  call_is_built = sym (ap statement_unbuilt (sym (statement.rolls-Call line access)) ∙ fold-roll-Statement Found Found Placed Found built.at_statement built.at_arm built.at_compound built.at_otherwise (Statement-F.Call line access)) ∙ h

  pub call_built : built_call access ≡ true
  call_built = built_inside (built_call access) line (call_unbuilt access) call_is_built

  pub selectors_built : call_unbuilt access ≡ None
  selectors_built = inside_built (built_call access) line (call_unbuilt access) call_is_built

-- a `while` statement
module _ (line : ℕ) (e : Expression) (body : Statement) (h : statement_unbuilt (statement.While line e body) ≡ None) where
  abbrev while_layer : Statement-F Found Found Placed Found
  while_layer = Statement-F.While line e (statement_unbuilt body)

  while_built : option_or (expression_unbuilt e) (statement_unbuilt body) ≡ None
  while_built =
      inside_built (built_statement while_layer) line (option_or (expression_unbuilt e) (statement_unbuilt body))
      (sym (ap statement_unbuilt (sym (statement.rolls-While line e body)) ∙ fold-roll-Statement Found Found Placed Found built.at_statement built.at_arm built.at_compound built.at_otherwise (Statement-F.While line e body)) ∙ h)

  pub body_built : statement_unbuilt body ≡ None
  body_built = rest_of (expression_unbuilt e) (statement_unbuilt body) while_built

-- a `for` statement
module _ (line : ℕ) (name : List ℕ) (start : Expression) (toward : Direction) (end : Expression) (body : Statement) where
  abbrev inside : Found
  inside = option_or (expression_unbuilt start) (option_or (expression_unbuilt end) (statement_unbuilt body))

  abbrev layer : Statement-F Found Found Placed Found
  layer = Statement-F.For line name start toward end (statement_unbuilt body)

  for_unbuilt : statement_unbuilt (statement.For line name start toward end body) ≡ at_node (built_statement layer) line inside
  for_unbuilt =
      ap statement_unbuilt (sym (statement.rolls-For line name start toward end body))
      ∙ fold-roll-Statement Found Found Placed Found built.at_statement built.at_arm built.at_compound built.at_otherwise (Statement-F.For line name start toward end body)

  module _ (h : statement_unbuilt (statement.For line name start toward end body) ≡ None) where
    all_built : inside ≡ None
    all_built = inside_built (built_statement layer) line inside (sym for_unbuilt ∙ h)

    pub start_built : expression_unbuilt start ≡ None
    start_built = first_built (expression_unbuilt start) (option_or (expression_unbuilt end) (statement_unbuilt body)) all_built

    pub end_built : expression_unbuilt end ≡ None
    end_built = first_built (expression_unbuilt end) (statement_unbuilt body) (rest_of (expression_unbuilt start) (option_or (expression_unbuilt end) (statement_unbuilt body)) all_built)

    pub inner_built : statement_unbuilt body ≡ None
    inner_built = rest_of (expression_unbuilt end) (statement_unbuilt body) (rest_of (expression_unbuilt start) (option_or (expression_unbuilt end) (statement_unbuilt body)) all_built)

-- a `for` statement over members
module _ (line : ℕ) (name : List ℕ) (set : Expression) (body : Statement) (h : statement_unbuilt (statement.ForIn line name set body) ≡ None) where
  abbrev members_layer : Statement-F Found Found Placed Found
  members_layer = Statement-F.ForIn line name set (statement_unbuilt body)

  members_built : option_or (expression_unbuilt set) (statement_unbuilt body) ≡ None
  members_built =
      inside_built (built_statement members_layer) line (option_or (expression_unbuilt set) (statement_unbuilt body))
      (sym (ap statement_unbuilt (sym (statement.rolls-ForIn line name set body)) ∙ fold-roll-Statement Found Found Placed Found built.at_statement built.at_arm built.at_compound built.at_otherwise (Statement-F.ForIn line name set body)) ∙ h)

  pub set_built : expression_unbuilt set ≡ None
  set_built = first_built (expression_unbuilt set) (statement_unbuilt body) members_built

  pub turn_built : statement_unbuilt body ≡ None
  turn_built = rest_of (expression_unbuilt set) (statement_unbuilt body) members_built

-- a `with` statement
module _ (line : ℕ) (accesses : List Access) (body : Statement) (h : statement_unbuilt (statement.With line accesses body) ≡ None) where
  abbrev with_layer : Statement-F Found Found Placed Found
  with_layer = Statement-F.With line accesses (statement_unbuilt body)

  with_built : option_or (first_in (map access_unbuilt accesses)) (statement_unbuilt body) ≡ None
  with_built =
      inside_built (built_statement with_layer) line (option_or (first_in (map access_unbuilt accesses)) (statement_unbuilt body))
      (sym (ap statement_unbuilt (sym (statement.rolls-With line accesses body)) ∙ fold-roll-Statement Found Found Placed Found built.at_statement built.at_arm built.at_compound built.at_otherwise (Statement-F.With line accesses body)) ∙ h)

  pub records_built : first_in (map access_unbuilt accesses) ≡ None
  records_built = first_built (first_in (map access_unbuilt accesses)) (statement_unbuilt body) with_built

  pub opened_built : statement_unbuilt body ≡ None
  opened_built = rest_of (first_in (map access_unbuilt accesses)) (statement_unbuilt body) with_built
