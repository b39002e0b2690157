use Rattle.std.proofs.Common.{subst}
use Rattle.std.specs.Option.{option_copied}
use Rattle.ep_linkable.specs.Registers.{IsTwice, seen}
use Rattle.ep_linkable.proofs.Entries.{units_few, units_refused}
use Rattle.ep_linkable.proofs.Faults.{none_twice}
use Rattle.ep_linkable.proofs.names.names_apart.Goals as goal

pub returns-in-None-clause-apart : goal.returns-in-None-clause-apart
returns-in-None-clause-apart c =
    units_few c.args.units.now c.in_ok-entries.entries c.in_ok-register.register.twice c.in_ok-entries.ensures
    (subst (λ es. IsTwice (seen es) (option_copied c.in_ok-register.register.twice)) c.items.ensures
    c.in_ok-register.ensures.twice)
    c.in-None.is

pub returns-in-None-clause-none : goal.returns-in-None-clause-none
returns-in-None-clause-none c =
    none_twice c.args.units.now
    (units_few c.args.units.now c.in_ok-entries.entries c.in_ok-register.register.twice c.in_ok-entries.ensures
    (subst (λ es. IsTwice (seen es) (option_copied c.in_ok-register.register.twice)) c.items.ensures
    c.in_ok-register.ensures.twice)
    c.in-None.is)
    c.requires.none

pub returns-clause-twice : goal.returns-clause-twice
returns-clause-twice c =
    units_refused c.args.units.now c.in_ok-entries.entries c.in_ok-register.register.twice c.in-Some.name _
    c.in_ok-entries.ensures
    (subst (λ es. IsTwice (seen es) (option_copied c.in_ok-register.register.twice)) c.items.ensures
    c.in_ok-register.ensures.twice)
    c.in-Some.is c.in_ok-copy-in-Some.ensures c.requires.none
