use Rattle.std.proofs.Common.{ap, ◌∙◌, Ok}
use Rattle.ep_token.specs.declared.symbol.TheConstants as symbols
use Rattle.ep_reader.proofs.Calls.{at_symbol, called_reads, closed_end, closed_err, closed_ok, row_begins}
use Rattle.ep_reader.proofs.public.Levels.{handed}
use Rattle.ep_reader.proofs.public.Turning.{row_ends, row_goes_on, row_is_ended, row_is_over, row_refused}
use Rattle.ep_reader.proofs.rows.closed.Goals as goal

pub loop-turn-init : goal.loop-turn-init
loop-turn-init g c cs p h = row_begins _ c.left-turn-end.ensures

pub returns-then-not-sees_symbol : goal.returns-then-not-sees_symbol
returns-then-not-sees_symbol g c cs p h = row_ends (c.loop-turn.invariant cs p h) (at_symbol symbols.SEMICOLON c.loop-turn.reader c.if-not-sees_symbol.ensures)

pub returns-in_err-next : goal.returns-in_err-next
returns-in_err-next g c cs p h =
    handed _ _ _ c.in_err-next.field-0.0 c.from_residual-in_err-next.ensures.1 (λ n.
    row_refused (c.loop-turn.invariant cs p h) c.loop-turn-test.true (at_symbol symbols.SEMICOLON c.loop-turn.reader c.if-not-sees_symbol.ensures) (closed_err cs p c.loop-turn.reader c.in_ok-symbol.ensures (called_reads h c.in_err-next.ensures n)))

pub returns-in_default : goal.returns-in_default
returns-in_default g c cs p h =
    row_is_ended (tt {0}) (c.loop-turn.invariant cs p h) c.loop-turn-test.true (at_symbol symbols.SEMICOLON c.loop-turn.reader c.if-not-sees_symbol.ensures)
    (closed_end cs p c.loop-turn.reader c.in_ok-symbol.ensures (called_reads h c.in_ok-next.ensures ∙ ap (λ w. Ok (w, c.item.new.arg2)) c.in_default.is))

pub loop-turn-preserved : goal.loop-turn-preserved
loop-turn-preserved g c cs p h =
    row_goes_on _ (c.loop-turn.invariant cs p h) c.loop-turn-test.true (at_symbol symbols.SEMICOLON c.loop-turn.reader c.if-not-sees_symbol.ensures)
    (closed_ok cs p c.loop-turn.reader c.in_ok-symbol.ensures (called_reads h c.in_ok-next.ensures ∙ ap (λ w. Ok (w, c.item.new.arg2)) c.in-Some.is)) c.in_ok-push.ensures.ok

pub returns : goal.returns
returns g c cs p h = row_is_over (c.loop-turn.invariant cs p h) c.loop-turn-test.false
