use Rattle.std.proofs.Common.{of_calls}
use Rattle.ep_grammar.specs.Declarations.{variable_declaration, variable_declarations}
use Rattle.ep_grammar.specs.Reading.{read}
use Rattle.ep_grammar.specs.Rules.{inside_at}
use Rattle.ep_parse_unit.proofs.declarations.variable_declarations.Goals as goal

pub returns : goal.returns
unfolding variable_declarations
returns c = c.one_or_more.ensures (read (inside_at c.args.room) variable_declaration) (λ i j r called. search of_calls)
