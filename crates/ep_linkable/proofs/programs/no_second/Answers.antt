use Rattle.std.proofs.Common.{◌≡◌}
use Rattle.ep_linkable.specs.Units.{name_at}
use Rattle.ep_linkable.proofs.OneProgram.{one_program_is, none_programs, two_programs}
use Rattle.ep_linkable.proofs.Faults.{name_there}
use Rattle.ep_linkable.proofs.programs.no_second.Goals as goal

pub returns-in-None-clause-one : goal.returns-in-None-clause-one
returns-in-None-clause-one c = one_program_is c.args.units.now c.args.first c.requires c.in-None.ensures

pub returns-in-None-clause-none : goal.returns-in-None-clause-none
returns-in-None-clause-none c =
    none_programs c.args.units.now (one_program_is c.args.units.now c.args.first c.requires c.in-None.ensures)

pub returns-in_ok-next-in-Some-clause-other : goal.returns-in_ok-next-in-Some-clause-other
returns-in_ok-next-in-Some-clause-other c =
    let units = c.args.units.now in
    let first = name_there units c.args.first c.index-units-first.result c.requires.0 in
    let second = name_there units c.in-Some.second c.index-units-second.result c.in-Some.ensures.0 in
    let least : c.in_ok-least-in-Some.least ≡ name_at units c.args.first =
    cc (first, c.in_ok-least-in-Some.ensures, c.index-units-first.is) in
    let next : c.in_ok-next-in-Some.next ≡ name_at units c.in-Some.second =
    cc (second, c.in_ok-next-in-Some.ensures, c.index-units-second.is) in
    two_programs units c.args.first c.in-Some.second c.in_ok-least-in-Some.least c.in_ok-next-in-Some.next c.requires
    c.in-Some.ensures
    least next
