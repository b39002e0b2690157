use Rattle.std.proofs.Common.{◌≡◌, ◌-◌}
use Rattle.ep_grammar.specs.Descriptions.{item}
use Rattle.ep_grammar.specs.Reading.{read, turns}
use Rattle.ep_grammar.specs.Rules.{inside_at}
use Rattle.ep_grammar.specs.Units.{component, components, of_component}
use Rattle.ep_parse_unit.proofs.units.all_components.Given as goal

abbrev pub invariant-loop-turn : goal.invariant-loop-turn
invariant-loop-turn l = read (inside_at l.room) components l.fn.reader ≡ turns of_component (read (inside_at l.room) (item component)) (tt {0}) (l._turn-end - l._turn) l.found.items l.reader
