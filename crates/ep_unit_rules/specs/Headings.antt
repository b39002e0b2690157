-- Names of routines by their headings, and the variables with which their blocks begin (ISO 10206, 6.7.1 and 6.7.2).
use Rattle.std.specs.Prelude.{ℕ, List, [], ◌∷◌, length}
use Rattle.std.specs.Prelude.{Option}
use Rattle.ep_tree.specs.declared.declaration.RoutineHeading.{RoutineHeading}
use Rattle.ep_tree.specs.declared.declaration.RoutineHeading.TheVariants as heading
use Rattle.ep_tree.specs.declared.routine.RoutineStart.{RoutineStart}
use Rattle.ep_tree.specs.declared.routine.RoutineStart.TheVariants as start
use Rattle.ep_scope.specs.declared.parameter.FormalParameter.{FormalParameter}
use Rattle.ep_unit_rules.specs.declared.own.Enclosing.{Enclosing}
use Rattle.ep_unit_rules.specs.declared.own.OwnVariables.{OwnVariables}
use Rattle.ep_unit_rules.specs.Functions.{own_result}
use Rattle.ep_unit_rules.specs.declared.functions.HeadingResult.{HeadingResult}

abbrev pub heading_name : RoutineHeading → List ℕ
heading_name (heading.Procedure at name sections) = name
heading_name (heading.Function at name sections own of) = name

-- its name
abbrev pub start_name : RoutineStart → List ℕ
start_name (start.Heading h) = heading_name h
start_name (start.Function at name) = name

-- The variables with which the block of the routine of this number begins, in the blocks of these: its formal
-- parameters are the first ones, and its result comes next.
abbrev pub own_variables : ℕ → List FormalParameter → Option HeadingResult → List Enclosing → OwnVariables
own_variables number ps r around =
    record {
      parameters = ps;
      result = own_result number (length ps) r;
      variables = [];
      enclosing = record { number = number; result = own_result number (length ps) r } ∷ around;
    }
