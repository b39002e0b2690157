-- Tables by which interfaces are found.
use Rattle.std.specs.Prelude.{◌≡◌, ℕ, Bool, true, false, ◌==◌, List, [], ◌∷◌, Option, Some, None}
use Rattle.std.specs.List.{list_any}
use Rattle.std.specs.Str.{bytes_eq}
use Rattle.ep_interface.specs.declared.interface.ExportEntry.{ExportEntry}
use Rattle.ep_imports.specs.Found.{found}
use Rattle.ep_imports.specs.Offers.{Offered, offered_from}
use Rattle.ep_imports.specs.declared.brought.Exporter.{Exporter}
use Rattle.ep_imports.specs.declared.brought.Exporter.TheVariants.{Heading, Required}

-- the first of a list
abbrev pub front_of : List Offered → Option Offered
front_of [] = None
front_of (o ∷ os) = Some o

-- whether it has two
abbrev pub has_two : List Offered → Bool
has_two [] = false
has_two (o ∷ []) = false
has_two (o ∷ p ∷ more) = true

-- whether the heading at this place exports it
abbrev pub is_heading : Exporter → ℕ → Bool
is_heading (Heading other) place = other == place
is_heading (Required r) place = false

-- a table has the first that exports an interface under its name, and the names of those that two headings export
pub record IsTable (offers : List (List ℕ × Offered)) (doubled : List (List ℕ))
    (rows : List (List ExportEntry)) : Type 0 where
  pub firsts : (name : List ℕ) → found offers name ≡ front_of (offered_from 0 rows name)
  pub doubles : (name : List ℕ) → list_any (bytes_eq name) doubled ≡ has_two (offered_from 0 rows name)
