use Rattle.std.proofs.Common.{ap, ◌∙◌}
use Rattle.std.proofs.lemmas.List.{take_all}
use Rattle.ep_imports.specs.Brought.{is_listed}
use Rattle.ep_imports.proofs.Listing.{listed_names_more}
use Rattle.ep_imports.proofs.import.names_listed.Goals as goal

pub loop-pair-preserved : goal.loop-pair-preserved
loop-pair-preserved c =
    listed_names_more c.args.pairs.now c.loop-pair.pair-index c.pair-item.result c.loop-pair.names c.add.new.self c.bytes.result.now
    c.loop-pair-test.true c.pair-item.is c.bytes.ensures.bytes c.loop-pair.invariant c.in_ok-add.ensures

pub returns : goal.returns
returns c = λ name. c.loop-pair.invariant name ∙ ap (λ ps. is_listed ps name) (take_all c.loop-pair.pair-index c.args.pairs.now c.loop-pair-test.false)
