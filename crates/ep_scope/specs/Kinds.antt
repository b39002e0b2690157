-- The hosts of ordinal types.
use Rattle.std.specs.Prelude.{Bool, true, false, ◌==◌, ◌&&◌}
use Rattle.ep_scope.specs.declared.kind.Enumeration.{Enumeration}
use Rattle.ep_scope.specs.declared.kind.Host.{Host}
use Rattle.ep_scope.specs.declared.kind.Host.TheVariants as host

-- an enumeration is the same where it is the same type of the unit, which has the same last constant
abbrev pub same_enumeration : Enumeration → Enumeration → Bool
same_enumeration x y = x.number == y.number && x.last == y.last

-- the same type (ISO 10206, 6.4.2)
abbrev pub same_host : Host → Host → Bool
same_host host.Integer host.Integer = true
same_host host.Char host.Char = true
same_host host.Boolean host.Boolean = true
same_host (host.Enumeration x) (host.Enumeration y) = same_enumeration x y
same_host _ _ = false
