-- Set types by their base types: which values may be members, and how the sets of all of them are denoted.
use Rattle.std.specs.Prelude.{nat_le, pos, Bool, true, false, ◌&&◌}
use Rattle.std.specs.Prelude.{Option, Some, if◌then◌else◌}
use Rattle.ep_values.specs.Sets.{is_ordinal, last_member}
use Rattle.ep_values.specs.TypeValues as type
use Rattle.ep_values.specs.TypeValues.{TypeValue}
use Rattle.ep_typed.specs.declared.denoter.Bound.TheVariants.{Constant as Fixed}
use Rattle.ep_typed.specs.declared.denoter.Denoter.{Denoter}
use Rattle.ep_typed.specs.declared.denoter.Denoter.TheVariants as denoter
use Rattle.ep_scope.specs.declared.kind.Host.{Host}
use Rattle.ep_scope.specs.declared.kind.Host.TheVariants as host
use Rattle.ep_unit_rules.specs.Types.{host_denoter}

-- whether all values of a host may be members of sets
abbrev pub are_all_members : Host → Bool
are_all_members host.Integer = false
are_all_members host.Char = true
are_all_members host.Boolean = true
are_all_members (host.Enumeration e) = nat_le e.last last_member

-- the denoter of the values of a host that may be members
abbrev pub members_denoter : Host → Denoter
members_denoter h =
    if are_all_members h then host_denoter h
    else denoter.Subrange (host_denoter h) (Fixed (pos 0)) (Fixed (pos last_member))

-- the denoter of sets of them
abbrev pub set_denoter : Host → Denoter
set_denoter h = denoter.Set (members_denoter h)

-- whether the values of a type may be members of sets: all of them have ordinal numbers of 0 to 255 (own)
abbrev pub are_members : Option TypeValue → Bool
are_members (Some (type.Ordinal low high)) = is_ordinal low && is_ordinal high
are_members _ = false
