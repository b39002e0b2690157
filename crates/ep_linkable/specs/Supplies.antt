-- Which units supply which: one supplies another where it exports an interface that the other imports.
use Rattle.std.specs.Prelude.{ℕ, Bool, List, map}
use Rattle.std.specs.List.{filter, list_any}
use Rattle.std.specs.Str.{bytes_eq}
use Rattle.ep_order.specs.Systems.{NamedUnit}
use Rattle.ep_linkable.specs.declared.unit.LinkUnit.{LinkUnit}
use Rattle.ep_linkable.specs.Units.{exports_of}

-- the first unit exports an interface of this name
abbrev pub has_export : LinkUnit → List ℕ → Bool
has_export exporter interface = list_any (bytes_eq interface) (exports_of exporter)

-- the first unit supplies the second
abbrev pub supplies : LinkUnit → LinkUnit → Bool
supplies exporter importer = list_any (λ import'. has_export exporter import'.interface.now) importer.imports

-- the names of the units of a list that supply this one
abbrev pub suppliers_of : List LinkUnit → LinkUnit → List (List ℕ)
suppliers_of units importer = map (λ unit. unit.name.now) (filter (λ unit. supplies unit importer) units)

-- a unit with the names of its suppliers
abbrev pub named : List LinkUnit → LinkUnit → NamedUnit
named units unit =
    record { name = unit.name.now; is_program = unit.is_program; suppliers = suppliers_of units unit }

-- the system of these units
abbrev pub system : List LinkUnit → List NamedUnit
system units = map (named units) units
