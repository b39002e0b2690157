use Rattle.std.proofs.Common.{ap, ◌∙◌, Ok}
use Rattle.ep_reader.proofs.Calls.{called_reads, item_not_there, item_refused, item_there, row_begins, step_err, step_ok}
use Rattle.ep_reader.proofs.public.Levels.{handed}
use Rattle.ep_reader.proofs.public.Turning.{row_ends, row_goes_on, row_is_over, row_refused}
use Rattle.ep_reader.proofs.rows.many.Goals as goal

pub loop-turn-init : goal.loop-turn-init
loop-turn-init g c cs p h = row_begins _ c.left-turn-end.ensures

pub returns-in_err-next : goal.returns-in_err-next
returns-in_err-next g c cs p h =
    handed _ _ _ c.in_err-next.field-0.0 c.from_residual.ensures.1 (λ n.
    let refused = item_refused cs p _ (called_reads h c.in_err-next.ensures n) in
    row_refused (c.loop-turn.invariant cs p h) c.loop-turn-test.true refused.0 (step_err p _ refused.1))

pub returns-in_default : goal.returns-in_default
returns-in_default g c cs p h =
    let none = item_not_there cs p c.loop-turn.reader (called_reads h c.in_ok-next.ensures ∙ ap (λ w. Ok (w, c.item.new.arg2)) c.in_default.is) in
    row_ends (c.loop-turn.invariant cs p h) none.0 ∙ ap (λ w. Ok (c.loop-turn.found, w)) none.1

pub loop-turn-preserved : goal.loop-turn-preserved
loop-turn-preserved g c cs p h =
    let there = item_there cs p c.loop-turn.reader (called_reads h c.in_ok-next.ensures ∙ ap (λ w. Ok (w, c.item.new.arg2)) c.in-Some.is) in
    row_goes_on _ (c.loop-turn.invariant cs p h) c.loop-turn-test.true there.0 (step_ok p _ there.1) c.in_ok-push.ensures.ok

pub returns : goal.returns
returns g c cs p h = row_is_over (c.loop-turn.invariant cs p h) c.loop-turn-test.false
