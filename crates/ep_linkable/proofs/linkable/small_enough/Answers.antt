use Rattle.ep_linkable.proofs.Cases.{none_large, too_large}
use Rattle.ep_linkable.proofs.linkable.small_enough.Goals as goal

pub returns-then-size-gt-MAX_LINK-clause-large : goal.returns-then-size-gt-MAX_LINK-clause-large
returns-then-size-gt-MAX_LINK-clause-large c =
    too_large c.args.units.now c.total_size-size.result c.total_size-size.ensures c.if-size-gt-MAX_LINK.true c.requires

pub returns-clause-none : goal.returns-clause-none
returns-clause-none c =
    none_large c.args.units.now c.total_size-size.result c.total_size-size.ensures c.if-size-gt-MAX_LINK.false
    c.requires
