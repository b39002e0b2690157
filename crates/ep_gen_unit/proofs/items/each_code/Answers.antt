use Rattle.ep_typed.specs.Viewed.{item_of}
use Rattle.ep_gen_unit.proofs.ItemForms.{items_more}
use Rattle.ep_gen_unit.proofs.items.each_code.Goals as goal

pub loop-item-preserved : goal.loop-item-preserved
loop-item-preserved c = items_more item_of c.args.items.now c.loop-item.item-index c.item-item.result c.loop-item-test.true c.item-item.is c.loop-item.invariant c.in_ok-item_code.ensures
