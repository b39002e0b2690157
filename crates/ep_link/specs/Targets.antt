-- What references become in the image.
use Rattle.std.specs.Prelude.{ℕ, ℤ, pos, negsuc, List, Option, Some, None, slice_get, unwrap_or}
use Rattle.ep_object.specs.Placing.{missing, moved}
use Rattle.ep_object.specs.declared.code.Reference.{Reference}
use Rattle.ep_link.specs.Placements.{unit_slot}
use Rattle.ep_link.specs.Units.{unit_named}
use Rattle.ep_link.specs.declared.placement.Placement.{Placement}
use Rattle.ep_link.specs.declared.target.Target.{Target}
use Rattle.ep_link.specs.declared.units.Units.{Units}

abbrev pub nothing : Target
nothing = record { routine = missing; unit = missing; slot = missing }

-- what a number in a unit becomes
abbrev pub target_of : Option Placement → ℕ → Target
target_of None n = nothing
target_of (Some p) n = record { routine = moved p.routines n; unit = p.unit; slot = unit_slot p n }

-- what a reference becomes
abbrev pub target_in : Units → Reference → Target
target_in units r = target_of (unit_named units r.unit) r.number

-- what the reference becomes that a field names
abbrev pub target_at : List Target → ℤ → Target
target_at targets (pos n) = unwrap_or (slice_get targets n) nothing
target_at targets (negsuc n) = nothing
