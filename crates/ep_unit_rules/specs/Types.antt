-- What the static rules say of types, by their parts that are accepted: how they are denoted, how large they are, and
-- which kinds they have.
use Rattle.std.specs.Prelude.{ℕ, nat_le, ◌+◌, ℤ, pos, suc, int_le, Bool, true, ◌&&◌}
use Rattle.std.specs.Prelude.{[], ◌∷◌, if◌then◌else◌}
use Rattle.ep_typed.specs.declared.denoter.Bound.TheVariants.{Constant as Fixed}
use Rattle.ep_typed.specs.declared.denoter.Denoter.{Denoter}
use Rattle.ep_typed.specs.declared.denoter.Denoter.TheVariants as denoter
use Rattle.ep_typed.specs.declared.denoter.RequiredType.{RequiredType}
use Rattle.ep_typed.specs.declared.denoter.RequiredType.TheVariants as simple
use Rattle.ep_typed.specs.declared.value.Value.{Value}
use Rattle.ep_typed.specs.declared.value.Value.TheVariants as value
use Rattle.ep_scope.specs.Kinds.{same_host}
use Rattle.ep_scope.specs.declared.kind.Host.{Host}
use Rattle.ep_scope.specs.declared.kind.Host.TheVariants as host
use Rattle.ep_scope.specs.declared.kind.Kind.{Kind}
use Rattle.ep_scope.specs.declared.kind.Kind.TheVariants as kind
use Rattle.ep_scope.specs.declared.parameter.TypeName.{TypeName}
use Rattle.ep_scope.specs.declared.parameter.TypeName.TheVariants as type_name
use Rattle.ep_scope.specs.declared.parameter.WrittenType.{WrittenType}
use Rattle.ep_scope.specs.declared.rule.TheConstants as rule
use Rattle.ep_rules.specs.Judgements.{Judged, Accepts, Breaks}
use Rattle.ep_check_expr.specs.declared.constants.ConstantForm.{ConstantForm}
use Rattle.ep_unit_rules.specs.declared.types.TheConstants as limit

-- the denoter of the type that is a host: a required type, or the enumeration's entry in the list of types
abbrev pub host_denoter : Host → Denoter
host_denoter host.Integer = denoter.Required simple.Integer
host_denoter host.Char = denoter.Required simple.Char
host_denoter host.Boolean = denoter.Required simple.Boolean
host_denoter (host.Enumeration e) = denoter.Named e.number []

-- a type as a denoter
abbrev pub type_denoter : TypeName → Denoter
type_denoter (type_name.Required r) = denoter.Required r
type_denoter (type_name.Entry number) = denoter.Named number []

-- the host of a required type (ISO 10206, 6.4.2.2)
abbrev pub required_host : RequiredType → Host
required_host simple.Integer = host.Integer
required_host simple.Char = host.Char
required_host simple.Boolean = host.Boolean

-- The nodes of a type are its denoters and bounds, with the names in it replaced by what they name (own). They are
-- counted
-- up to one more than a type may have.
abbrev pub counted : ℕ → ℕ → ℕ
counted n m = if nat_le (n + m) limit.TYPE_NODES then n + m else suc limit.TYPE_NODES

-- those of a subrange: itself, its host and its bounds
abbrev pub subrange_nodes : ℕ
subrange_nodes = 4

-- The type name that a denoter is. What is denoted otherwise has no name, and would be the type itself.
abbrev pub name_in : TypeName → Denoter → TypeName
name_in of (denoter.Required r) = type_name.Required r
name_in of (denoter.Named number bounds) = type_name.Entry number
name_in of _ = of

-- a type by the name that is written for it
abbrev pub written_by : TypeName → Denoter → WrittenType
written_by of d = record { name = name_in of d; is = of }

-- the number of a value
abbrev pub number_in : Value → ℤ
number_in (value.Word z) = z
number_in (value.Text bytes) = pos 0
number_in (value.Set members) = pos 0
number_in (value.Structured of es) = pos 0

-- the denoter of a subrange of a host
abbrev pub subrange_denoter : Host → ConstantForm → ConstantForm → Denoter
subrange_denoter h low high =
    denoter.Subrange (host_denoter h) (Fixed (number_in low.value)) (Fixed (number_in high.value))

-- the host of two values (ISO 10206, 6.4.2.4)
abbrev pub common_host : Kind → Kind → Judged Host
common_host (kind.Ordinal h) (kind.Ordinal g) = if same_host h g then Accepts h else Breaks (rule.HOSTS ∷ [])
common_host _ _ = Breaks (rule.HOSTS ∷ [])

-- the bounds are in order; of one that is not built it is not known yet
abbrev pub are_ordered : ConstantForm → ConstantForm → Bool
are_ordered low high = if low.built && high.built then int_le (number_in low.value) (number_in high.value) else true

abbrev pub ordered : ConstantForm → ConstantForm → Judged (Unit {0})
ordered low high = if are_ordered low high then Accepts tt else Breaks (rule.EMPTY_RANGE ∷ [])

-- an index type is ordinal (ISO 10206, 6.4.3.2), and so is a base type (ISO 10206, 6.4.3.5)
abbrev pub index_host : Kind → Judged Host
index_host (kind.Ordinal h) = Accepts h
index_host _ = Breaks (rule.ORDINAL ∷ [])
