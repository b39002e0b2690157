use Rattle.std.proofs.Common.{◌≤◌, length, sym, ap, ◌∙◌, arith}
use Rattle.ep_token.specs.declared.token.Token.{Token}
use Rattle.ep_parse.specs.Refusals.{last_line}
use Rattle.ep_parse.proofs.Texts.{last_is, line_at_end}
use Rattle.ep_parse.proofs.text.line.Goals as goal

pub returns-in-len1-up : goal.returns-in-len1-up
returns-in-len1-up c =
    let none : length c.args.reader.now ≤ 0 = omega arith in
    ap (λ (t : Token). t.line) c.last-item.is ∙ sym (last_is 1 c.args.tokens.now c.last-item.result c.in-len1-up.len_at_least) ∙ sym (line_at_end (last_line 1 c.args.tokens.now) c.args.reader.now none)
