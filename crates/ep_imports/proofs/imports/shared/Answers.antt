use Rattle.std.proofs.Common.{◌≡◌, true, false, Some, ◌∙◌}
use Rattle.std.proofs.lemmas.Result.{IfOk-weaker}
use Rattle.ep_imports.specs.Sequences.{first_shared}
use Rattle.ep_imports.proofs.Sequencing.{shared_step}
use Rattle.ep_imports.proofs.imports.shared.Goals as goal

pub loop-one-preserved : goal.loop-one-preserved
loop-one-preserved c =
    rw c.if-there.false at
    (shared_step c.args.spelled.now c.args.interface.now c.args.qualified c.args.brought.now c.loop-one.one-index c.one-item.result c.in_ok-there.there
    c.loop-one-test.true c.one-item.is c.in_ok-there.ensures c.loop-one.invariant)

pub returns-then-there : goal.returns-then-there
returns-then-there c =
    let found : Some c.one-item.result.here ≡ first_shared c.args.spelled.now c.args.interface.now c.args.qualified c.args.brought.now =
    rw c.if-there.true at
    (shared_step c.args.spelled.now c.args.interface.now c.args.qualified c.args.brought.now c.loop-one.one-index c.one-item.result c.in_ok-there.there
    c.loop-one-test.true c.one-item.is c.in_ok-there.ensures c.loop-one.invariant) in
    IfOk-weaker c.named.result (λ o. o ≡ Some c.one-item.result.here)
    (λ o. o ≡ first_shared c.args.spelled.now c.args.interface.now c.args.qualified c.args.brought.now) (λ o e. e ∙ found) c.named.ensures
