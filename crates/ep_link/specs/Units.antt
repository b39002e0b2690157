-- The units of an image by name.
use Rattle.std.specs.Prelude.{ℕ, List, Option, Some, None, cond}
use Rattle.std.specs.Ordering.{nat_cmp}
use Rattle.std.specs.Cmp.Lexicographic.{slice_cmp}
use Rattle.std.specs.BTreeMap.{get_by}
use Rattle.std.specs.Str.{bytes_eq}
use Rattle.ep_link.specs.declared.placement.Placement.{Placement}
use Rattle.ep_link.specs.declared.units.Units.{Units}

-- the placement of the unit of a name
abbrev pub unit_named : Units → List ℕ → Option Placement
unit_named units name = get_by (λ key. slice_cmp nat_cmp name key.items) units.placements

abbrev pub if_none : Option Placement → Option Placement → Option Placement
if_none None p = p
if_none (Some found) p = Some found

-- what is found for a name, with the placement of one more unit, which counts where none of its name is there yet
abbrev pub with_first : (List ℕ → Option Placement) → List ℕ → Placement → List ℕ → Option Placement
with_first found name p other = if_none (found other) (cond (bytes_eq name other) (Some p) None)
