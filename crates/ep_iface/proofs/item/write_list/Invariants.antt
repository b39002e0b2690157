use Rattle.std.proofs.Common.{◌≡◌, ◌++◌, length, take}
use Rattle.std.specs.List.{flat_map}
use Rattle.ep_fields.specs.Fields.{number}
use Rattle.ep_iface.proofs.item.write_list.Given as goal

abbrev pub invariant-loop-item : goal.invariant-loop-item
invariant-loop-item g l =
    l.writer ≡ l.fn.writer ++ (number (length l.items) ++ flat_map g.T.Item.spelling (take l.item-index l.items))
