use Rattle.std.proofs.Common.{pos, rules}
use Rattle.ep_object.specs.WordRows.{push_row}
use Rattle.ep_rows.proofs.Meeting.{met_left}
use Rattle.ep_rows.proofs.types.intern.Goals as goal
use Rattle.ep_rows.specs.Steps.{IsStep}

pub returns-in-Ok-clause-done : goal.returns-in-Ok-clause-done
returns-in-Ok-clause-done c =
    let a = c.args in
    let pushed : IsStep (push_row (pos c.in-Ok.number) a.stack.now) c.push_word.result c.push_word.new.stack = search rules in
    met_left a.entry a.types.now _ a.memory.now c.meet.new.memory c.in-Ok.number a.stack.now _ c.push_word.result c.in-Ok.ensures.met pushed
