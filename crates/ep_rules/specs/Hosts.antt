-- The hosts of typed trees.
use Rattle.ep_scope.specs.declared.kind.Host.{Host}
use Rattle.ep_scope.specs.declared.kind.Host.TheVariants as host
use Rattle.ep_typed.specs.Hosts as typed

-- a host, with its values alone
abbrev pub typed_host : Host → typed.Host
typed_host host.Integer = typed.Integer
typed_host host.Char = typed.Char
typed_host host.Boolean = typed.Boolean
typed_host (host.Enumeration e) = typed.Enumeration e.last
