use Rattle.ep_linkable.proofs.linkable.link_order.Goals as goal

pub returns-clause-order : goal.returns-clause-order
returns-clause-order c = record {
  none = c.in_ok-small_enough.ensures.none;
  within = c.in_ok-order.ensures.within;
  order = c.in_ok-order.ensures.order;
}
