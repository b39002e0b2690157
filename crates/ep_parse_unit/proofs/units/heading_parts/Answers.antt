use Rattle.std.proofs.Common.{of_calls, subst}
use Rattle.ep_grammar.specs.Declarations.{of_parts}
use Rattle.ep_grammar.specs.Units.{heading_part, heading_parts}
use Rattle.ep_grammar.specs.Reading.{Reads, read}
use Rattle.ep_grammar.specs.Rules.{inside_at}
use Rattle.ep_reader.specs.Rows.{many_by}
use Rattle.ep_parse_unit.proofs.units.heading_parts.Goals as goal

pub returns : goal.returns
unfolding heading_parts
returns c =
    subst (λ w. Reads (many_by of_parts (read (inside_at c.args.room) heading_part) w c.args.reader.now) c.many.result c.many.new.reader) c.new-none.ensures
    (c.many.ensures of_parts (read (inside_at c.args.room) heading_part) (λ i j r called. search of_calls))
