-- Entries of the list of constants, by the kinds and values of the constants.
use Rattle.std.specs.Prelude.{ℕ, ◌+◌, List}
use Rattle.std.specs.Prelude.{[], ◌∷◌, ◌++◌, Option, Some, None}
use Rattle.ep_typed.specs.declared.denoter.Denoter.{Denoter}
use Rattle.ep_typed.specs.declared.denoter.Denoter.TheVariants as denoter
use Rattle.ep_typed.specs.declared.interface.ConstantEntry.{ConstantEntry}
use Rattle.ep_typed.specs.declared.value.Value.{Value}
use Rattle.ep_typed.specs.declared.value.Value.TheVariants as value
use Rattle.ep_scope.specs.declared.kind.Host.TheVariants as host
use Rattle.ep_scope.specs.declared.kind.Kind.{Kind}
use Rattle.ep_scope.specs.declared.kind.Kind.TheVariants as kind
use Rattle.ep_unit_rules.specs.Types.{host_denoter}
use Rattle.ep_unit_rules.specs.Sets.{set_denoter}

-- the denoter of the type of an array or a record
abbrev pub structured_denoter : Value → Option Denoter
structured_denoter (value.Structured of es) = Some (denoter.Named of [])
structured_denoter _ = None

-- The denoter of a constant in the list of constants: its host, a set of all values of its host that may be members,
-- or the array or record type that the value is of. The empty set is one of integers there, and no text stands in the
-- list so far (own).
abbrev pub entry_denoter : Kind → Value → Option Denoter
entry_denoter (kind.Ordinal h) v = Some (host_denoter h)
entry_denoter (kind.Set h) v = Some (set_denoter h)
entry_denoter kind.EmptySet v = Some (set_denoter host.Integer)
entry_denoter (kind.Structured n) v = structured_denoter v
entry_denoter kind.Text v = None
entry_denoter kind.File v = None

-- constants with one more, where it has a denoter
abbrev pub with_entry : List ℕ → Option Denoter → Value → List ConstantEntry → List ConstantEntry
with_entry name None v all = all
with_entry name (Some d) v all = all ++ record { name = name; denoter = d; value = v } ∷ []
