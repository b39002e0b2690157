use Rattle.std.proofs.Common.{◌≡◌, length, subst, arith}
use Rattle.ep_linkable.specs.Faults.{IsOtherProgram}
use Rattle.ep_linkable.specs.Least.{IsLeastAt}
use Rattle.ep_linkable.specs.Units.{name_at}
use Rattle.ep_linkable.proofs.programs.least_program.Goals as goal

pub returns : goal.returns
returns c =
    let end : c.loop-place.place ≡ length c.args.units.now = omega arith in
    subst
    (λ n. IsLeastAt (IsOtherProgram c.args.units.now c.args.but) (name_at c.args.units.now) n c.loop-place.least)
    end
    c.loop-place.invariant
