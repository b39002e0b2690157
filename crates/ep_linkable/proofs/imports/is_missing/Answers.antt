use Rattle.std.proofs.Common.{◌≡◌, false, true, refl, sym}
use Rattle.ep_linkable.proofs.Faults.{missing, not_missing}
use Rattle.ep_linkable.proofs.imports.is_missing.Goals as goal

pub returns-in-None : goal.returns-in-None
returns-in-None c = (
  λ _. missing c.args._units.now c.args.exporters.now c.requires.exporters c.args.import.now (sym c.in-None.ensures),
  λ _. refl,
)

pub returns-in-Some : goal.returns-in-Some
returns-in-Some c = (
  λ e. let no : false ≡ true = e in cc,
  λ h.
      let fails = not_missing c.args._units.now c.args.exporters.now c.requires.exporters c.args.import.now _
      (sym c.in-Some.ensures) in
      absurd (fails h),
)
