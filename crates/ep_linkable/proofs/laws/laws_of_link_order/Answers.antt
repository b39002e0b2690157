use Rattle.ep_linkable.proofs.Alike.{refusals_are_one, refused_have_no_order, orders_are_one}
use Rattle.ep_linkable.proofs.Alike.{lists_refuse_alike, lists_are_linked_alike, lists_pass_alike}
use Rattle.ep_linkable.proofs.laws.laws_of_link_order.Goals as goal

pub returns-clause-refusals : goal.returns-clause-refusals
returns-clause-refusals c = refusals_are_one

pub returns-clause-refused : goal.returns-clause-refused
returns-clause-refused c = refused_have_no_order

pub returns-clause-orders : goal.returns-clause-orders
returns-clause-orders c = orders_are_one

pub returns-clause-lists_refused : goal.returns-clause-lists_refused
returns-clause-lists_refused c = lists_refuse_alike

pub returns-clause-lists_linked : goal.returns-clause-lists_linked
returns-clause-lists_linked c = lists_are_linked_alike

pub returns-clause-lists_passed : goal.returns-clause-lists_passed
returns-clause-lists_passed c = lists_pass_alike
