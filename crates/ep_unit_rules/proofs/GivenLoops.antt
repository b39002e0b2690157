-- What gives a variable a value in a `for` with bounds, by its head and by its statement (specs/Giving.antt).
use Rattle.std.proofs.Common.{◌≡◌, ◌∙◌, ℕ, Bool, true, false, List, sym, ap}
use Rattle.std.specs.Prelude.{◌||◌}
use Rattle.ep_tree.specs.declared.expression.Expression.{Expression}
use Rattle.ep_tree.specs.declared.operator.Direction.{Direction}
use Rattle.ep_tree.specs.declared.statement.Statement.{Statement}
use Rattle.ep_tree.specs.declared.statement.Statement.TheFolds.{fold-roll-Statement}
use Rattle.ep_tree.specs.declared.statement.Statement.TheOpen as layer
use Rattle.ep_tree.specs.declared.statement.Statement.TheVariants as statement
use Rattle.ep_unit_rules.specs.Giving.{bounds_give, in_arm, in_compound, in_otherwise, in_statement, statement_gives}

module _ (name : List ℕ) (line : ℕ) (variable : List ℕ) (start : Expression) (direction : Direction) (end : Expression) (body : Statement) where
  for_is : statement_gives name (statement.For line variable start direction end body) ≡ (bounds_give name variable start end || statement_gives name body)
  for_is =
      ap (statement_gives name) (sym (statement.rolls-For line variable start direction end body))
      ∙ fold-roll-Statement Bool Bool Bool Bool (in_statement name) (in_arm name) (in_compound name) (in_otherwise name) (layer.For line variable start direction end body)

  module _ (s : Statement) (r : Bool) (is : s ≡ statement.For line variable start direction end body) where
    pub for_by_bounds : r ≡ bounds_give name variable start end → true ≡ bounds_give name variable start end → r ≡ statement_gives name s
    for_by_bounds given holds =
        given ∙ (sym holds ∙ sym (ap (statement_gives name) is ∙ (for_is ∙ ap (λ b. b || statement_gives name body) (sym holds))))

    pub for_by_body : false ≡ bounds_give name variable start end → r ≡ statement_gives name body → r ≡ statement_gives name s
    for_by_body fails given =
        given ∙ sym (ap (statement_gives name) is ∙ (for_is ∙ ap (λ b. b || statement_gives name body) (sym fails)))
