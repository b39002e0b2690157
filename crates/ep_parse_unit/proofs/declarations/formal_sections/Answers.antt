use Rattle.std.proofs.Common.{of_calls}
use Rattle.ep_grammar.specs.Declarations.{formal_section, formal_sections}
use Rattle.ep_grammar.specs.Reading.{read}
use Rattle.ep_grammar.specs.Rules.{inside_at}
use Rattle.ep_parse_unit.proofs.declarations.formal_sections.Goals as goal

pub returns : goal.returns
unfolding formal_sections
returns c = c.separated.ensures (read (inside_at c.args.room) formal_section) (λ i j r called. search of_calls)
