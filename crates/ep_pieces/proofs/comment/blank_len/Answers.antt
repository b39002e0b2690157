-- A separating byte, or a comment to its end.
use Rattle.std.proofs.Common.{◌≤◌, ◌+◌, length, None, false, sym, ap, subst, ◌∙◌}
use Rattle.ep_token.specs.Tokens.{IsTaken}
use Rattle.ep_token.specs.Reading.{comment_end}
use Rattle.ep_pieces.proofs.Rows.{rest_of, blank-one, blank-opener, blank-end, blank-open}
use Rattle.ep_pieces.proofs.comment.blank_len.Goals as goal

pub returns-then-not-begins_mark : goal.returns-then-not-begins_mark
returns-then-not-begins_mark c = blank-one _ c.requires.blank (sym c.if-not-begins_mark.ensures)

pub slice_bounds-comment_end-count : goal.slice_bounds-comment_end-count
slice_bounds-comment_end-count c =
    subst (λ k. k ≤ length c.args.bytes.now) (sym c.opener_len-opener.ensures) (blank-opener _ c.requires.blank (sym c.if-not-begins_mark.ensures))

pub slice_bounds-comment_end-start : goal.slice_bounds-comment_end-start
slice_bounds-comment_end-start c =
    subst (λ k. k ≤ length c.args.bytes.now) (sym c.opener_len-opener.ensures) (blank-opener _ c.requires.blank (sym c.if-not-begins_mark.ensures))

pub unreachable-requires : goal.unreachable-requires
unreachable-requires c =
    blank-open c.args.bytes.now c.requires.blank (sym c.if-not-begins_mark.ensures)
    (ap (λ k. comment_end false 0 (rest_of c.args.bytes.now k)) (sym c.opener_len-opener.ensures) ∙ sym c.comment_end.ensures.end ∙ c.in-None.is)

pub returns : goal.returns
returns c =
    subst (λ k. IsTaken c.args.bytes.now (k + c.in-Some.end) None) (sym c.opener_len-opener.ensures)
    (blank-end c.args.bytes.now c.in-Some.end c.requires.blank (sym c.if-not-begins_mark.ensures)
    (ap (λ k. comment_end false 0 (rest_of c.args.bytes.now k)) (sym c.opener_len-opener.ensures) ∙ sym c.comment_end.ensures.end ∙ c.in-Some.is))
