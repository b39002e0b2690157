use Rattle.std.proofs.Common.{of_calls}
use Rattle.ep_grammar.specs.Expressions.{name}
use Rattle.ep_grammar.specs.Reading.{read}
use Rattle.ep_grammar.specs.Rules.{inside_at}
use Rattle.ep_grammar.specs.Types.{names}
use Rattle.ep_parse_type.proofs.denoters.names.Goals as goal

pub returns : goal.returns
unfolding names
returns c = c.separated.ensures (read (inside_at c.args.room) name) (λ i j r called. search of_calls)
