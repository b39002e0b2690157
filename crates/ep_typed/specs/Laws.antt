-- The laws of meanings and of denoters.
use Rattle.std.specs.Prelude.{◌≡◌, ◌+◌, List, Some}
use Rattle.ep_typed.specs.Denoters.{IsInstance, type_of}
use Rattle.ep_typed.specs.Trees.{Denoter}
use Rattle.ep_typed.specs.declared.unit.UnitType.{UnitType}
use Rattle.ep_values.specs.TypeValues.{TypeValue}

-- what is found for a denoter is its type value
abbrev pub TypesAreInstances : Type 0
TypesAreInstances =
    (types : List UnitType) (d : Denoter) (v : TypeValue) → type_of types d ≡ Some v → IsInstance types d v

-- a denoter has at most one type value
abbrev pub InstancesAreOne : Type 0
InstancesAreOne =
    (types : List UnitType) (d : Denoter) (v w : TypeValue) → IsInstance types d v → IsInstance types d w → v ≡ w
