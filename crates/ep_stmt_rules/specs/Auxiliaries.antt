-- Which auxiliary variables the statements of a block need, by the text (ISO 10206, 6.9.3.9.2 and 6.9.3.9.3).
use Rattle.std.specs.Prelude.{Bool, true, false, ◌||◌}
use Rattle.ep_tree.specs.Folds as fold
use Rattle.ep_tree.specs.declared.statement.Statement.TheOpen.{Statement-F}
use Rattle.ep_tree.specs.declared.statement.Statement.{Statement}
use Rattle.ep_tree.specs.declared.statement.Arm.{Arm}
use Rattle.ep_tree.specs.declared.statement.Compound.{Compound}
use Rattle.ep_tree.specs.declared.statement.Otherwise.{Otherwise}
use Rattle.ep_threats.specs.Threats.{any_true, true_if}
use Rattle.ep_stmt_rules.specs.declared.auxiliaries.ForForm.{ForForm}
use Rattle.ep_stmt_rules.specs.declared.auxiliaries.ForForm.TheVariants as form

-- whether a `for` is one with bounds, where those are asked for
abbrev pub is_bounded : ForForm → Bool
is_bounded form.Bounds = true
is_bounded form.Members = false

-- whether it is one over members, where those are
abbrev pub is_over_members : ForForm → Bool
is_over_members form.Bounds = false
is_over_members form.Members = true

-- a `for` of the form
module _ (asked : ForForm) where
  -- whether there is one in a statement, however deep
  abbrev pub in_statement : fold.StatementOf (fold.statements_as Bool) → Bool
  in_statement (Statement-F.Empty line) = false
  in_statement (Statement-F.Assignment line access value) = false
  in_statement (Statement-F.Call line access) = false
  in_statement (Statement-F.Compound compound) = compound
  in_statement (Statement-F.If line condition then other) = then || true_if other
  in_statement (Statement-F.Case line selector arms other) = any_true arms || true_if other
  in_statement (Statement-F.While line condition body) = body
  in_statement (Statement-F.Repeat line statements condition) = any_true statements
  in_statement (Statement-F.For line variable start direction end body) = is_bounded asked || body
  in_statement (Statement-F.ForIn line variable members body) = is_over_members asked || body
  in_statement (Statement-F.With line accesses body) = body

  abbrev pub in_arm : fold.ArmOf (fold.statements_as Bool) → Bool
  in_arm a = a.body

  abbrev pub in_compound : fold.CompoundOf (fold.statements_as Bool) → Bool
  in_compound c = any_true c.statements

  abbrev pub in_otherwise : fold.OtherwiseOf (fold.statements_as Bool) → Bool
  in_otherwise o = any_true o.statements

  -- these rules together
  abbrev pub in_statements : fold.StatementRules (fold.statements_as Bool)
  in_statements =
      record {
        statement = in_statement;
        arm = in_arm;
        compound = in_compound;
        otherwise = in_otherwise;
      }

  abbrev pub statement_has : Statement → Bool
  statement_has = fold.of_statement in_statements

  abbrev pub arm_has : Arm → Bool
  arm_has = fold.of_arm in_statements

  abbrev pub otherwise_has : Otherwise → Bool
  otherwise_has = fold.of_otherwise in_statements

  -- whether there is one in a statement part
  abbrev pub compound_has : Compound → Bool
  compound_has = fold.of_compound in_statements

-- whether a statement part has a `for` with bounds
abbrev pub has_for : Compound → Bool
has_for = compound_has form.Bounds

-- whether it has one over members
abbrev pub has_for_in : Compound → Bool
has_for_in = compound_has form.Members
