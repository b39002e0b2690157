use Rattle.ep_linkable.proofs.supply.suppliers_of.Goals as goal

pub unreachable-requires : goal.unreachable-requires
unreachable-requires c =
    let found = c.requires c.loop-import.import-index c.import-item.result c.loop-import-test.true in
    cc (found.1, c.in-None.ensures, c.import-item.is)
