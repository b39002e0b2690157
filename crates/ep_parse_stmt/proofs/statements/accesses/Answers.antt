use Rattle.std.proofs.Common.{of_calls}
use Rattle.ep_grammar.specs.Expressions.{access}
use Rattle.ep_grammar.specs.Reading.{read}
use Rattle.ep_grammar.specs.Rules.{inside_at}
use Rattle.ep_grammar.specs.Statements.{accesses}
use Rattle.ep_parse_stmt.proofs.statements.accesses.Goals as goal

pub returns : goal.returns
unfolding accesses
returns c = c.separated.ensures (read (inside_at c.args.room) access) (λ i j r called. search of_calls)
