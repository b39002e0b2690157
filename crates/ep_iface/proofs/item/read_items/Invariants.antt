use Rattle.std.proofs.Common.{◌≡◌, ◌-◌}
use Rattle.ep_iface.specs.Formats.{items_at}
use Rattle.ep_iface.proofs.Items.{with_front}
use Rattle.ep_iface.proofs.item.read_items.Given as goal

abbrev pub invariant-loop : goal.invariant-loop
invariant-loop g l =
    with_front l.items (items_at g.T.Item.reading (l.count - l.counter) l.reader)
    ≡ items_at g.T.Item.reading l.count l.initial.reader
