use Rattle.std.proofs.Common.{◌≡◌, ℕ, List, subst}
use Rattle.std.specs.Option.{option_copied}
use Rattle.ep_linkable.specs.Registers.{IsTwice, place_in, place_under, seen}
use Rattle.ep_linkable.proofs.Entries.{exports_few, exports_refused}
use Rattle.ep_linkable.proofs.Faults.{none_exported}
use Rattle.ep_linkable.proofs.names.exporters_of.Goals as goal

pub returns-in-None-clause-exporters : goal.returns-in-None-clause-exporters
returns-in-None-clause-exporters c =
    exports_few c.args.units.now c.in_ok-entries.entries c.in_ok-register.register c.in_ok-entries.ensures
    (subst (λ es. (name : List ℕ) → place_under c.in_ok-register.register name ≡ place_in (seen es) name)
    c.items.ensures c.in_ok-register.ensures.places)
    (subst (λ es. IsTwice (seen es) (option_copied c.in_ok-register.register.twice)) c.items.ensures
    c.in_ok-register.ensures.twice)
    c.in-None.is

pub returns-in-None-clause-none : goal.returns-in-None-clause-none
returns-in-None-clause-none c =
    none_exported c.args.units.now
    (exports_few c.args.units.now c.in_ok-entries.entries c.in_ok-register.register c.in_ok-entries.ensures
    (subst (λ es. (name : List ℕ) → place_under c.in_ok-register.register name ≡ place_in (seen es) name)
    c.items.ensures c.in_ok-register.ensures.places)
    (subst (λ es. IsTwice (seen es) (option_copied c.in_ok-register.register.twice)) c.items.ensures
    c.in_ok-register.ensures.twice)
    c.in-None.is).once
    c.requires.none

pub returns-clause-twice : goal.returns-clause-twice
returns-clause-twice c =
    exports_refused c.args.units.now c.in_ok-entries.entries c.in_ok-register.register.twice c.in-Some.name _
    c.in_ok-entries.ensures
    (subst (λ es. IsTwice (seen es) (option_copied c.in_ok-register.register.twice)) c.items.ensures
    c.in_ok-register.ensures.twice)
    c.in-Some.is c.in_ok-copy-in-Some.ensures c.requires.none
