use Rattle.std.proofs.Common.{ap, ◌∙◌}
use Rattle.std.proofs.lemmas.List.{take_all}
use Rattle.ep_imports.specs.Brought.{denoted_as}
use Rattle.ep_imports.proofs.Listing.{named_more}
use Rattle.ep_imports.proofs.offer.by_names.Goals as goal

pub loop-constituent-preserved : goal.loop-constituent-preserved
loop-constituent-preserved c =
    named_more c.args.constituents.now c.loop-constituent.constituent-index c.constituent-item.result c.loop-constituent.denoted c.add_first.new.self c.bytes.result.now c.denoted_of.result
    c.loop-constituent-test.true c.constituent-item.is c.bytes.ensures.bytes c.denoted_of.ensures c.loop-constituent.invariant c.in_ok-add_first.ensures

pub returns : goal.returns
returns c = λ name. c.loop-constituent.invariant name ∙ ap (λ cs. denoted_as cs name) (take_all c.loop-constituent.constituent-index c.args.constituents.now c.loop-constituent-test.false)
