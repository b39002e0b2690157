-- One token, separating byte or comment more.
use Rattle.std.proofs.Common.{[], ◌∷◌, ◌++◌, sym, ap, subst, ◌∙◌, arith}
use Rattle.ep_pieces.specs.declared.piece.Piece.{Piece}
use Rattle.ep_pieces.proofs.Rows.{Split, split-start, token-step, blank-here, blank-step}
use Rattle.ep_pieces.proofs.source.pieces_of.Goals as goal

pub loop-place-init : goal.loop-place-init
loop-place-init c = subst (λ l. Split c.args.source.now c.args.tokens.now l 0 0) (sym c.new-found.ensures.items) (split-start c.args.source.now c.args.tokens.now c.requires)

pub slice_bounds-token_piece-count : goal.slice_bounds-token_piece-count
slice_bounds-token_piece-count c =
    let step = token-step _ _ _ _ _ _ c.loop-place.invariant c.loop-place-test.true (sym c.if-starts_at.ensures) c.index-tokens-taken.is in
    omega (arith, step.after, step.within)

pub slice_bounds-token_piece-start : goal.slice_bounds-token_piece-start
slice_bounds-token_piece-start c =
    let step = token-step _ _ _ _ _ _ c.loop-place.invariant c.loop-place-test.true (sym c.if-starts_at.ensures) c.index-tokens-taken.is in
    omega (arith, step.after, step.within)

pub slice_bounds-token_piece-end : goal.slice_bounds-token_piece-end
slice_bounds-token_piece-end c =
    let step = token-step _ _ _ _ _ _ c.loop-place.invariant c.loop-place-test.true (sym c.if-starts_at.ensures) c.index-tokens-taken.is in
    step.within

pub loop-place-smaller-then-starts_at : goal.loop-place-smaller-then-starts_at
loop-place-smaller-then-starts_at c =
    let step = token-step _ _ _ _ _ _ c.loop-place.invariant c.loop-place-test.true (sym c.if-starts_at.ensures) c.index-tokens-taken.is in
    omega (arith, step.after, step.within)

pub loop-place-preserved-then-starts_at : goal.loop-place-preserved-then-starts_at
loop-place-preserved-then-starts_at c =
    let step = token-step _ _ _ _ _ _ c.loop-place.invariant c.loop-place-test.true (sym c.if-starts_at.ensures) c.index-tokens-taken.is in
    step.step _ (c.in_ok-push.ensures.items ∙ ap (λ (p : Piece). c.loop-place.found.items ++ p ∷ []) c.in_ok-piece.ensures)

pub blank_len-len-requires-clause-blank : goal.blank_len-len-requires-clause-blank
blank_len-len-requires-clause-blank c = blank-here _ _ _ _ _ c.loop-place.invariant c.loop-place-test.true (sym c.if-starts_at.ensures)

pub loop-place-preserved : goal.loop-place-preserved
loop-place-preserved c = blank-step _ _ _ _ _ _ _ c.loop-place.invariant c.loop-place-test.true (sym c.if-starts_at.ensures) c.blank_len-len.ensures c.in_ok-push_comment.ensures
