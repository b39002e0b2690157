use Rattle.std.proofs.Common.{of_calls}
use Rattle.ep_grammar.specs.Units.{import_specification, import_specifications}
use Rattle.ep_grammar.specs.Reading.{read}
use Rattle.ep_grammar.specs.Rules.{inside_at}
use Rattle.ep_parse_unit.proofs.units.import_specifications.Goals as goal

pub returns : goal.returns
unfolding import_specifications
returns c = c.one_or_more.ensures (read (inside_at c.args.room) import_specification) (λ i j r called. search of_calls)
