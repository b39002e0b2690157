use Rattle.std.proofs.Common.{subst, sym}
use Rattle.ep_linkable.specs.Faults.{HasFault}
use Rattle.ep_linkable.proofs.imports.has_fault.Goals as goal

pub returns-in-Missing : goal.returns-in-Missing
returns-in-Missing c =
    let fault = c.in-Missing.is in (
      λ t. subst (λ f. HasFault c.args.units.now f c.args.import.now) (sym fault) (c.is_missing.ensures.0 t),
      λ h. c.is_missing.ensures.1 (subst (λ f. HasFault c.args.units.now f c.args.import.now) fault h),
    )
