use Rattle.std.proofs.Common.{◌∙◌}
use Rattle.ep_check_unit.specs.Answers.{named_in, written_in}
use Rattle.ep_check_unit.specs.Blocks.{block_of}
use Rattle.ep_check_unit.proofs.Indexes.{next_below}
use Rattle.ep_check_unit.proofs.block.Block.arrays_below.Goals as goal

pub loop-place-preserved : goal.loop-place-preserved
loop-place-preserved c =
    next_below c.args.line c.args.indexes.now c.loop-place.place _ c.loop-place-test.true c.loop-place.auto.place
    (named_in (block_of c.loop-place.self) c.loop-place.below) (written_in (block_of c.array_over.new.self) c.in_ok-written.written) (named_in (block_of c.settle.new.self) c.in_ok-below.below)
    c.in_ok-written.ensures c.in_ok-below.ensures
    ∙ c.loop-place.invariant
