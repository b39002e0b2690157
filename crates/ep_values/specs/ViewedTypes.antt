-- The plain data of declared type values.
use Rattle.std.specs.Prelude.{Bool, false, true, List, [], ◌∷◌, map}
use Rattle.ep_values.specs.TypeValues as type
use Rattle.ep_values.specs.TypeValues.{ComponentTypes, Starts}
use Rattle.ep_values.specs.declared.type_value.Start.{Start}
use Rattle.ep_values.specs.declared.type_value.Start.TheOpen as start
use Rattle.ep_values.specs.declared.type_value.Start.TheOpen.{Start-F}
use Rattle.ep_values.specs.declared.type_value.Start.TheFolds.{fold-Start}
use Rattle.ep_values.specs.declared.type_value.TypeValue.{TypeValue}
use Rattle.ep_values.specs.declared.type_value.TypeValue.TheOpen as written
use Rattle.ep_values.specs.declared.type_value.TypeValue.TheOpen.{TypeValue-F}
use Rattle.ep_values.specs.declared.type_value.TypeValue.TheFolds.{fold-TypeValue}

-- the initial states of components, from a list of them
abbrev pub starts : List type.Start → Starts
starts [] = type.no_start
starts (s ∷ ss) = type.next_start s (starts ss)

-- an initial state, whose parts are seen already
abbrev pub start_step : Start-F type.Start → type.Start
start_step (start.Undefined size) = type.undefined_start size
start_step (start.Simple number) = type.simple_start number
start_step (start.Set members) = type.set_start members
start_step (start.Parts parts) = type.parts_start (starts parts)

-- what a declared initial state is seen as
abbrev pub start_of : Start → type.Start
start_of = fold-Start type.Start start_step

-- the types of components, from a list of them
abbrev pub component_types : List type.TypeValue → ComponentTypes
component_types [] = type.no_component
component_types (t ∷ ts) = type.next_component t (component_types ts)

-- a type, whose parts are seen already
abbrev pub type_step : TypeValue-F type.TypeValue → type.TypeValue
type_step (written.Ordinal low high) = type.Ordinal low high
type_step written.Text = type.Text
type_step (written.Array low high of) = type.Array low high of
type_step (written.Record components) = type.Record (component_types components)
type_step (written.Set low high) = type.Set low high
type_step (written.Initial of start) = type.Initial of (start_of start)

-- what a declared type value is seen as
abbrev pub type_value_of : TypeValue → type.TypeValue
type_value_of = fold-TypeValue type.TypeValue type_step

-- what those of components are seen as, in order
abbrev pub type_values_of : List TypeValue → ComponentTypes
type_values_of ts = component_types (map type_value_of ts)

-- whether a type is another one with an initial state
abbrev pub is_initial : type.TypeValue → Bool
is_initial (type.Ordinal low high) = false
is_initial type.Text = false
is_initial (type.Array low high of) = false
is_initial (type.Record ts) = false
is_initial (type.Set low high) = false
is_initial (type.Initial of start) = true
