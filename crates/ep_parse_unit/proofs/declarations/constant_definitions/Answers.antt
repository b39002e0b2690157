use Rattle.std.proofs.Common.{of_calls}
use Rattle.ep_grammar.specs.Declarations.{constant_definition, constant_definitions}
use Rattle.ep_grammar.specs.Reading.{read}
use Rattle.ep_grammar.specs.Rules.{inside_at}
use Rattle.ep_parse_unit.proofs.declarations.constant_definitions.Goals as goal

pub returns : goal.returns
unfolding constant_definitions
returns c = c.one_or_more.ensures (read (inside_at c.args.room) constant_definition) (λ i j r called. search of_calls)
