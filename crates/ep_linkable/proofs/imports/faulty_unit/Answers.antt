use Rattle.std.proofs.Common.{◌≡◌, length, subst, arith}
use Rattle.ep_linkable.specs.Faults.{IsFaultyUnit}
use Rattle.ep_linkable.specs.Least.{IsLeastAt}
use Rattle.ep_linkable.specs.Units.{name_at}
use Rattle.ep_linkable.proofs.imports.faulty_unit.Goals as goal

pub returns : goal.returns
returns c =
    let end : c.loop-place.place ≡ length c.args.units.now = omega arith in
    subst
    (λ n. IsLeastAt (IsFaultyUnit c.args.units.now c.args.fault) (name_at c.args.units.now) n c.loop-place.least)
    end
    c.loop-place.invariant
