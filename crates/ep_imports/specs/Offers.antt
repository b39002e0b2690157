-- The interfaces that are given, and what exports them (ISO 10206, 6.11.2 and 6.11.4).
use Rattle.std.specs.Prelude.{ℕ, ◌+◌, List, [], ◌∷◌, ◌++◌, map, codes, false, Option, Some, None, if◌then◌else◌}
use Rattle.std.specs.Str.{bytes_eq}
use Rattle.ep_interface.specs.declared.interface.Constituent.{Constituent}
use Rattle.ep_interface.specs.declared.interface.ConstituentKind.TheVariants as kind
use Rattle.ep_interface.specs.declared.interface.ExportEntry.{ExportEntry}
use Rattle.ep_interface.specs.declared.interface.Interface.{Interface}
use Rattle.ep_imports.specs.declared.brought.Exporter.{Exporter}
use Rattle.ep_imports.specs.declared.brought.Exporter.TheVariants.{Heading, Required}
use Rattle.ep_imports.specs.declared.brought.RequiredInterface.{RequiredInterface}
use Rattle.ep_imports.specs.declared.brought.RequiredInterface.TheVariants.{StandardInput, StandardOutput}

-- an interface with what exports it
pub record Offered : Type 0 where
  pub exporter : Exporter
  pub constituents : List Constituent

-- what a heading exports under a name; a heading that exports it twice is refused itself
abbrev pub export_of : List ExportEntry → List ℕ → Option ExportEntry
export_of [] name = None
export_of (e ∷ es) name = if bytes_eq name e.interface then Some e else export_of es name

-- the interface as the heading at a place exports it
abbrev pub offered_by : ℕ → Option ExportEntry → List Offered
offered_by place None = []
offered_by place (Some e) = record { exporter = Heading place; constituents = e.constituents } ∷ []

-- as those headings export it that have these exports, where the first one of them stands at this place
abbrev pub offered_from : ℕ → List (List ExportEntry) → List ℕ → List Offered
offered_from place [] name = []
offered_from place (es ∷ rows) name = offered_by place (export_of es name) ++ offered_from (place + 1) rows name

-- the file of a required interface (ISO 10206, 6.11.4)
abbrev pub file_of : RequiredInterface → List ℕ
file_of StandardInput = codes "input"
file_of StandardOutput = codes "output"

-- whose one constituent is the variable of that name
abbrev pub offered_always : RequiredInterface → Offered
offered_always r = record {
  exporter = Required r;
  constituents = record { name = file_of r; kind = kind.Variable; index = 0; protected = false } ∷ [];
}

-- the required interface of a name
abbrev pub required_of : List ℕ → Option Offered
required_of name =
    if bytes_eq name (codes "standardinput") then Some (offered_always StandardInput)
    else if bytes_eq name (codes "standardoutput") then Some (offered_always StandardOutput)
    else None

abbrev pub as_list : Option Offered → List Offered
as_list None = []
as_list (Some offered) = offered ∷ []

-- all that export the interface of a name: the required one, and each given heading that does
abbrev pub offered : List Interface → List ℕ → List Offered
offered given name = as_list (required_of name) ++ offered_from 0 (map (λ i. i.exports) given) name

-- the one of a list that has exactly one
abbrev pub sole : List Offered → Option Offered
sole [] = None
sole (o ∷ []) = Some o
sole (o ∷ p ∷ more) = None
