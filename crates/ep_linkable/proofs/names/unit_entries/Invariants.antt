use Rattle.std.proofs.Common.{◌≡◌, ◌++◌, drop}
use Rattle.ep_linkable.specs.Exporters.{unit_entries}
use Rattle.ep_linkable.specs.Registers.{seen}
use Rattle.ep_linkable.proofs.names.unit_entries.Given as goal

abbrev pub invariant-loop-place : goal.invariant-loop-place
invariant-loop-place l = seen l.entries ++ unit_entries l.place (drop l.place l.units) ≡ unit_entries 0 l.units
