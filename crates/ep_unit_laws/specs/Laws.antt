-- The law of typed units: what the static rules accept is valid.
use Rattle.std.specs.Prelude.{◌≤◌, [], length, ⊤}
use Rattle.ep_tree.specs.declared.component.Component.{Component}
use Rattle.ep_values.specs.Operations.{maxint}
use Rattle.ep_meaning.specs.Units.{IsValid}
use Rattle.ep_typed.specs.declared.unit.Unit.{Unit as TypedUnit}
use Rattle.ep_check_unit.specs.Units.{IsTyped}
use Rattle.ep_check_unit.specs.declared.component.Checked.{Checked}
use Rattle.ep_check_unit.specs.declared.component.Checked.TheVariants as checked

-- The typed unit of a component is valid, where it has no more constants than there are integers to number them: an
-- enumeration with more would have ordinal numbers that are no integers.
abbrev pub UnitsAreValid : Type 0
UnitsAreValid = (c : Component) (u : TypedUnit) → IsTyped c u → length u.constants ≤ maxint → IsValid [] u

-- the typed unit, where there is one, is valid
abbrev pub HasValidUnit : Checked → Type 0
HasValidUnit (checked.Heading i) = ⊤
HasValidUnit (checked.Block u) = IsValid [] u
HasValidUnit (checked.Both i u) = IsValid [] u
