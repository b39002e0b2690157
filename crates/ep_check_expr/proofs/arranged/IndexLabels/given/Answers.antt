use Rattle.ep_check_expr.proofs.arranged.IndexLabels.given.Goals as goal

pub returns-in-One : goal.returns-in-One
returns-in-One c = rw c.in-One.is c.with_index.ensures

pub returns-in-Many : goal.returns-in-Many
returns-in-Many c = rw c.in-Many.is c.with_ranges.ensures
