use Rattle.std.proofs.Common.{of_calls}
use Rattle.ep_grammar.specs.Units.{export_part, export_parts}
use Rattle.ep_grammar.specs.Reading.{read}
use Rattle.ep_grammar.specs.Rules.{inside_at}
use Rattle.ep_parse_unit.proofs.units.export_parts.Goals as goal

pub returns : goal.returns
unfolding export_parts
returns c = c.one_or_more.ensures (read (inside_at c.args.room) export_part) (λ i j r called. search of_calls)
