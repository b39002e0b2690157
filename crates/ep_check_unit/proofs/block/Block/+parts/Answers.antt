use Rattle.std.proofs.Common.{map}
use Rattle.ep_check_unit.specs.Answers.{AnswersStanding, headed_in}
use Rattle.ep_check_unit.specs.Blocks.{block_of}
use Rattle.ep_check_unit.specs.Routines.{part_judged}
use Rattle.ep_check_unit.proofs.Bodies.{heading_passed, heading_refused}
use Rattle.ep_check_unit.proofs.block.Block.+parts.Goals as goal

pub declare_block-returns-in-Err-enter_heading : goal.declare_block-returns-in-Err-enter_heading
declare_block-returns-in-Err-enter_heading t c =
    rw c.refused_at-in-Err-enter_heading.ensures
    (heading_refused c.args.line c.args.name.now (map part_judged c.args.parts.now) c.args.body.now (headed_in (block_of c.args.self.now) c.args.heading) c.open.new.self c.in-Ok.own c.replace-before.new.dest c.in-Err-enter_heading.refusal
    c.in_ok-open.ensures.opened c.replace-before.ensures.after (rw c.items.ensures at c.in-Ok.ensures) c.in-Err-enter_heading.ensures)

pub declare_block-returns : goal.declare_block-returns
declare_block-returns t c =
    heading_passed c.args.line c.args.name.now (map part_judged c.args.parts.now) c.args.body.now (headed_in (block_of c.args.self.now) c.args.heading) c.open.new.self c.in-Ok.own c.replace-before.new.dest (block_of c.enter_heading.new.self)
    (λ s. AnswersStanding c.declare_inside.result (block_of c.declare_inside.new.self) s) c.in_ok-open.ensures.opened c.replace-before.ensures.after (rw c.items.ensures at c.in-Ok.ensures) c.in_default.ensures
    (rw (c.result_name.ensures, c.replace-before.ensures.value) at c.declare_inside.ensures)
