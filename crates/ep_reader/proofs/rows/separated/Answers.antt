use Rattle.std.proofs.Common.{[], ◌∷◌}
use Rattle.ep_grammar.specs.Classes.{Symbol}
use Rattle.ep_reader.specs.Rows.{item_after_by}
use Rattle.ep_reader.proofs.Calls.{after_err, after_ok, at_symbol, called_reads, first_found, first_refused}
use Rattle.ep_reader.proofs.public.Levels.{handed}
use Rattle.ep_reader.proofs.public.Turning.{row_ends, row_goes_on, row_is_over, row_refused}
use Rattle.ep_reader.proofs.rows.separated.Goals as goal

pub returns-in_err-first : goal.returns-in_err-first
returns-in_err-first g c p h =
    handed _ _ _ c.in_err-first.field-0.0 c.from_residual-in_err-first.ensures.1 (λ n.
    first_refused (Symbol c.args.symbol ∷ []) (item_after_by c.args.symbol p) p _ (called_reads h c.in_err-first.ensures n))

pub loop-turn-init : goal.loop-turn-init
loop-turn-init g c p h =
    first_found (Symbol c.args.symbol ∷ []) (item_after_by c.args.symbol p) p _ (called_reads h c.in_ok-first.ensures) c.in_ok-found.ensures c.in_ok-push.ensures.ok c.left-turn-end.ensures

pub returns-then-not-sees_symbol : goal.returns-then-not-sees_symbol
returns-then-not-sees_symbol g c p h = row_ends (c.loop-turn.invariant p h) (at_symbol c.args.symbol c.loop-turn.reader c.if-not-sees_symbol.ensures)

pub returns-in_err-next : goal.returns-in_err-next
returns-in_err-next g c p h = handed _ _ _ c.in_err-next.field-0.0 c.from_residual-in_err-next.ensures.1 (λ n. row_refused (c.loop-turn.invariant p h) c.loop-turn-test.true (at_symbol c.args.symbol c.loop-turn.reader c.if-not-sees_symbol.ensures) (after_err c.args.symbol p c.loop-turn.reader c.in_ok-symbol.ensures (called_reads h c.in_err-next.ensures n)))

pub loop-turn-preserved : goal.loop-turn-preserved
loop-turn-preserved g c p h = (row_goes_on _ (c.loop-turn.invariant p h) c.loop-turn-test.true (at_symbol c.args.symbol c.loop-turn.reader c.if-not-sees_symbol.ensures) (after_ok c.args.symbol p c.loop-turn.reader c.in_ok-symbol.ensures (called_reads h c.in_ok-next.ensures)) c.in_ok-push-2.ensures.ok)

pub returns : goal.returns
returns g c p h = row_is_over (c.loop-turn.invariant p h) c.loop-turn-test.false
