use Rattle.std.proofs.lemmas.Result.{err_from_is_err_and}
use Rattle.ep_iface.specs.Formats.{items_at}
use Rattle.ep_iface.proofs.Items.{ends, goes_on, is_done}
use Rattle.ep_iface.proofs.item.read_items.Goals as goal

pub returns-in_err-read : goal.returns-in_err-read
returns-in_err-read g c =
    let p = err_from_is_err_and c.from_residual.result c.from_residual.ensures.1 in
    rw (p.1, p.2) (ends c.in_err-read.field-0.0 g.T.Item.reading c.loop.items c.args.count c.loop.counter c.loop.reader c.read.new.reader (items_at g.T.Item.reading c.args.count c.args.reader.now) c.loop-test.true c.in_err-read.ensures c.loop.invariant)

pub loop-preserved : goal.loop-preserved
loop-preserved g c =
    rw c.in_ok-push.ensures.ok
    (goes_on g.T.Item.reading c.loop.items c.args.count c.loop.counter c.loop.reader c.read.new.reader c.in_ok-read.field-0 (items_at g.T.Item.reading c.args.count c.args.reader.now) c.loop-test.true c.in_ok-read.ensures c.loop.invariant)

pub returns : goal.returns
returns g c =
    is_done g.T.Item.reading c.loop.items c.args.count c.loop.counter c.loop.reader (items_at g.T.Item.reading c.args.count c.args.reader.now) c.loop-test.false c.loop.invariant
