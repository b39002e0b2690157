use Rattle.std.proofs.Common.{of_calls}
use Rattle.ep_grammar.specs.Declarations.{type_definition, type_definitions}
use Rattle.ep_grammar.specs.Reading.{read}
use Rattle.ep_grammar.specs.Rules.{inside_at}
use Rattle.ep_parse_unit.proofs.declarations.type_definitions.Goals as goal

pub returns : goal.returns
unfolding type_definitions
returns c = c.one_or_more.ensures (read (inside_at c.args.room) type_definition) (λ i j r called. search of_calls)
