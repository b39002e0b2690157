-- Which constants may be initial states of a type (ISO 10206, 6.6).
use Rattle.std.specs.Prelude.{nat_eq, Bool, true, false}
use Rattle.ep_scope.specs.Kinds.{same_host}
use Rattle.ep_scope.specs.declared.kind.Kind.{Kind}
use Rattle.ep_scope.specs.declared.kind.Kind.TheVariants as kind

-- whether a constant of the one kind may be the initial state of a type of the other: a value of its host, a set over
-- it, of which the empty set is one over each host, or an array or a record of that type
abbrev pub may_begin : Kind → Kind → Bool
may_begin (kind.Ordinal g) (kind.Ordinal h) = same_host h g
may_begin (kind.Structured m) (kind.Structured n) = nat_eq m n
may_begin (kind.Set g) (kind.Set h) = same_host h g
may_begin kind.EmptySet (kind.Set h) = true
may_begin _ _ = false
