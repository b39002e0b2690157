use Rattle.std.proofs.Common.{◌≡◌, suc, ◌-◌, false, arith}
use Rattle.ep_grammar.specs.Descriptions.{routines}
use Rattle.ep_grammar.specs.Declarations.{block_body, part, parts, routine, routine_body, routine_part}
use Rattle.ep_marker.proofs.Forms.{alone}
use Rattle.ep_marker.proofs.Walks.{firsts, gives, indented, levels, lines, seconds, started, no-level, withins, ◌▸◌, ◌▹◌}
use Rattle.ep_marker.proofs.RowWalks.{begins, goes-on, has-none, is-over, item}
use Rattle.ep_marker.proofs.declarations.+routine.Goals as goal

pub inner_routine-returns-then-room-eq0 : goal.inner_routine-returns-then-room-eq0
inner_routine-returns-then-room-eq0 t c = no-level false routines c.if-room-eq0.true c.halt.ensures

pub inner_routine-returns : goal.inner_routine-returns
inner_routine-returns t c =
    let q : c.args.room ≡ suc (c.args.room - 1) = omega arith in
    withins false routines q c.routine.ensures

pub routine_part-returns : goal.routine_part-returns
unfolding routine_part
routine_part-returns t c = levels c.open.ensures (gives ▸ c.inner_routine.ensures)

pub part-returns-then-sees_word : goal.part-returns-then-sees_word
unfolding part
part-returns-then-sees_word t c = firsts (alone c.if-sees_word.ensures) (gives ▸ c.constants.ensures)

pub part-returns-then-sees_word-2 : goal.part-returns-then-sees_word-2
unfolding part
part-returns-then-sees_word-2 t c = seconds (alone c.if-sees_word.ensures) (firsts (alone c.if-sees_word-2.ensures) (gives ▸ c.types.ensures))

pub part-returns-then-sees_word-3 : goal.part-returns-then-sees_word-3
unfolding part
part-returns-then-sees_word-3 t c = seconds (alone c.if-sees_word.ensures) (seconds (alone c.if-sees_word-2.ensures) (firsts (alone c.if-sees_word-3.ensures) (gives ▸ c.variables.ensures)))

pub part-returns : goal.part-returns
unfolding part
part-returns t c = seconds (alone c.if-sees_word.ensures) (seconds (alone c.if-sees_word-2.ensures) (seconds (alone c.if-sees_word-3.ensures) c.routine_part.ensures))

pub parts-loop-turn-init : goal.parts-loop-turn-init
unfolding parts
parts-loop-turn-init t c = begins gives c.left-turn-end.ensures

pub parts-returns-then-not-begins_part : goal.parts-returns-then-not-begins_part
parts-returns-then-not-begins_part t c = has-none c.loop-turn.invariant c.if-not-begins_part.ensures

pub parts-loop-turn-preserved : goal.parts-loop-turn-preserved
parts-loop-turn-preserved t c = goes-on c.loop-turn.invariant c.loop-turn-test.true c.if-not-begins_part.ensures (item (started c.len-first.ensures c.part.ensures c.start.ensures))

pub parts-returns : goal.parts-returns
parts-returns t c = is-over c.loop-turn.invariant c.loop-turn-test.false

pub block_body-returns : goal.block_body-returns
unfolding block_body
block_body-returns t c = levels c.open.ensures (gives ▸ lines ▸ indented c.parts.ensures ▸ c.compound.ensures)

pub routine_body-returns-then-sees_forward : goal.routine_body-returns-then-sees_forward
unfolding routine_body
routine_body-returns-then-sees_forward t c = firsts (alone c.if-sees_forward.ensures) c.forward_body.ensures

pub routine_body-returns : goal.routine_body-returns
unfolding routine_body
routine_body-returns t c = seconds (alone c.if-sees_forward.ensures) c.block_body.ensures

pub routine-returns : goal.routine-returns
unfolding routine
routine-returns t c = gives ▸ lines ▸ c.routine_start.ensures ▹ (c.symbol.ensures _) ▸ c.routine_body.ensures ▹ (c.symbol-2.ensures _)
