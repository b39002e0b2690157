-- A separating byte is no piece.
use Rattle.std.proofs.Common.{◌++◌, sym, ap, ◌∙◌, arith, append-nil}
use Rattle.std.specs.Option.{option_to_list}
use Rattle.ep_pieces.proofs.Rows.{spelled-separator}
use Rattle.ep_pieces.proofs.source.push_comment.Goals as goal

pub returns-else-text-gt1 : goal.returns-else-text-gt1
returns-else-text-gt1 c =
    sym (append-nil c.args.found.now.items)
    ∙ ap (λ o. c.args.found.now.items ++ option_to_list o) (sym (spelled-separator c.args.text.now c.requires (omega (arith, c.if-text-gt1.false))))
