use Rattle.std.proofs.Common.{◌≡◌, length, subst, arith}
use Rattle.ep_linkable.specs.Faults.{IsFaulty, interface_at}
use Rattle.ep_linkable.specs.Least.{IsLeastAt}
use Rattle.ep_linkable.proofs.imports.faulty_import.Goals as goal

pub returns : goal.returns
returns c =
    let imports = c.args.imports.now in
    let end : c.loop-number.number ≡ length c.args.imports.now = omega arith in
    subst
    (λ n. IsLeastAt (IsFaulty c.args.units.now c.args.fault imports) (interface_at imports) n c.loop-number.least) end
    c.loop-number.invariant
