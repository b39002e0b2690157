use Rattle.ep_stmt_rules.proofs.loops.head.Goals as goal

pub returns : goal.returns
returns c = c.for_head.ensures _ _ c.bound-initial.ensures c.bound-last.ensures
