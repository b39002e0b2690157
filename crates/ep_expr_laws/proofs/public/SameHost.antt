-- A host that is the same as another one.
use Rattle.std.proofs.Common.{◌≡◌, true, refl, ap, arith}
use Rattle.std.proofs.lemmas.Bool.Decides.{nat_tests}
use Rattle.ep_typed.specs.Hosts as typed
use Rattle.ep_scope.specs.Kinds.{same_host}
use Rattle.ep_scope.specs.declared.kind.Enumeration.{Enumeration}
use Rattle.ep_scope.specs.declared.kind.Host.{Host}
use Rattle.ep_scope.specs.declared.kind.Host.TheVariants as host
use Rattle.ep_rules.specs.Hosts.{typed_host}

last_same : (e g : Enumeration) → same_host (host.Enumeration e) (host.Enumeration g) ≡ true → g.last ≡ e.last
last_same e g s = grind (arith, nat_tests)

-- the same host has the same values
pub host_same : (h g : Host) → same_host h g ≡ true → typed_host g ≡ typed_host h
host_same host.Integer host.Integer e = refl
host_same host.Char host.Char e = refl
host_same host.Boolean host.Boolean e = refl
host_same (host.Enumeration e) (host.Enumeration g) s = ap typed.Enumeration (last_same e g s)
host_same host.Integer host.Char e = cc
host_same host.Integer host.Boolean e = cc
host_same host.Integer (host.Enumeration g) e = cc
host_same host.Char host.Integer e = cc
host_same host.Char host.Boolean e = cc
host_same host.Char (host.Enumeration g) e = cc
host_same host.Boolean host.Integer e = cc
host_same host.Boolean host.Char e = cc
host_same host.Boolean (host.Enumeration g) e = cc
host_same (host.Enumeration f) host.Integer e = cc
host_same (host.Enumeration f) host.Char e = cc
host_same (host.Enumeration f) host.Boolean e = cc
