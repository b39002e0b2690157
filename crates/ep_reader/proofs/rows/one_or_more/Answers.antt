use Rattle.std.proofs.Common.{sym}
use Rattle.ep_grammar.specs.Expressions.{of_name}
use Rattle.ep_reader.specs.Rows.{item_by}
use Rattle.ep_reader.proofs.Calls.{called_reads, first_found, first_refused, step_err, step_ok}
use Rattle.ep_reader.proofs.public.Levels.{handed}
use Rattle.ep_reader.proofs.public.Turning.{row_ends, row_goes_on, row_is_over, row_refused}
use Rattle.ep_reader.proofs.rows.one_or_more.Goals as goal

pub returns-in_err-first : goal.returns-in_err-first
returns-in_err-first g c p h =
    handed _ _ _ c.in_err-first.field-0.0 c.from_residual-in_err-first.ensures.1 (λ n.
    first_refused of_name (item_by p) p _ (called_reads h c.in_err-first.ensures n))

pub loop-turn-init : goal.loop-turn-init
loop-turn-init g c p h =
    first_found of_name (item_by p) p _ (called_reads h c.in_ok-first.ensures) c.in_ok-found.ensures c.in_ok-push.ensures.ok c.left-turn-end.ensures

pub returns-then-not-sees_name : goal.returns-then-not-sees_name
returns-then-not-sees_name g c p h = row_ends (c.loop-turn.invariant p h) (sym c.if-not-sees_name.ensures)

pub returns-in_err-next : goal.returns-in_err-next
returns-in_err-next g c p h =
    handed _ _ _ c.in_err-next.field-0.0 c.from_residual-in_err-next.ensures.1 (λ n.
    row_refused (c.loop-turn.invariant p h) c.loop-turn-test.true (sym c.if-not-sees_name.ensures) (step_err p _ (called_reads h c.in_err-next.ensures n)))

pub loop-turn-preserved : goal.loop-turn-preserved
loop-turn-preserved g c p h =
    row_goes_on _ (c.loop-turn.invariant p h) c.loop-turn-test.true (sym c.if-not-sees_name.ensures) (step_ok p _ (called_reads h c.in_ok-next.ensures)) c.in_ok-push-2.ensures.ok

pub returns : goal.returns
returns g c p h = row_is_over (c.loop-turn.invariant p h) c.loop-turn-test.false
