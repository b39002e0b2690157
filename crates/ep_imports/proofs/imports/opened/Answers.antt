use Rattle.std.proofs.Common.{inr, subst}
use Rattle.std.proofs.lemmas.List.{take_all}
use Rattle.ep_imports.specs.Parts.{AreUnderway}
use Rattle.ep_imports.proofs.Sequencing.{refused_here, underway_begin, underway_more}
use Rattle.ep_imports.proofs.imports.opened.Goals as goal

pub loop-place-init : goal.loop-place-init
loop-place-init c = underway_begin c.args.given.now c.new-imports.result c.new-spelled.result c.new-imports.ensures c.new-spelled.ensures

pub loop-place-preserved : goal.loop-place-preserved
loop-place-preserved c =
    underway_more c.args.specs.now c.loop-place.place c.index-specs-place.result c.args.given.now c.loop-place.imports c.open_next.new.imports c.in-Ok.ensures.0 c.loop-place.spelled c.open_next.new.spelled
    c.loop-place-test.true c.index-specs-place.is c.loop-place.invariant c.in-Ok.ensures.2 c.in-Ok.ensures.1 c.in-Ok.ensures.3

pub returns-in-Err : goal.returns-in-Err
returns-in-Err c =
    inr (refused_here c.args.specs.now c.loop-place.place c.index-specs-place.result c.args.given.now c.loop-place.imports c.in-Err.refusal c.loop-place.spelled
    c.loop-place-test.true c.index-specs-place.is c.loop-place.invariant c.in-Err.ensures)

pub returns : goal.returns
returns c = (subst (λ ss. AreUnderway ss c.args.given.now c.loop-place.imports c.loop-place.spelled) (take_all c.loop-place.place c.args.specs.now c.loop-place-test.false) c.loop-place.invariant).opened
