use Rattle.std.proofs.Common.{of_calls}
use Rattle.ep_grammar.specs.Units.{export_item, export_items}
use Rattle.ep_grammar.specs.Reading.{read}
use Rattle.ep_grammar.specs.Rules.{inside_at}
use Rattle.ep_parse_unit.proofs.units.export_items.Goals as goal

pub returns : goal.returns
unfolding export_items
returns c = c.separated.ensures (read (inside_at c.args.room) export_item) (λ i j r called. search of_calls)
