use Rattle.std.proofs.Common.{◌≡◌, ◌++◌, map, take}
use Rattle.ep_linkable.specs.Exporters.{entry_at}
use Rattle.ep_linkable.specs.Registers.{seen}
use Rattle.ep_linkable.proofs.names.append_exports.Given as goal

abbrev pub invariant-loop-name : goal.invariant-loop-name
invariant-loop-name l =
    seen l.entries ≡ seen l.initial.entries ++ map (entry_at l.place) (take l.name-index l.exports)
