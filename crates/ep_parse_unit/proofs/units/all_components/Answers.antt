use Rattle.std.proofs.Common.{rules, arith}
use Rattle.std.proofs.lemmas.Grind.{common_steps}
use Rattle.ep_grammar.specs.Descriptions.{item}
use Rattle.ep_grammar.specs.Reading.{read, turns, steps}
use Rattle.ep_grammar.specs.Rules.{inside_at}
use Rattle.ep_reader.proofs.public.Turning.{one_more, no_more}
use Rattle.ep_grammar.specs.Units.{component, of_component}
use Rattle.ep_parse_unit.proofs.units.all_components.Goals as goal

pub returns-then-not-begins_component : goal.returns-then-not-begins_component
unfolding steps
returns-then-not-begins_component c =
    let e = one_more (λ n. turns of_component (read (inside_at c.args.room) (item component)) (tt {0}) n c.loop-turn.found.items c.loop-turn.reader) _ c.loop-turn._turn c.loop-turn-test.true c.loop-turn.invariant in
    first_of (search rules, grind (arith, common_steps))

pub returns-in_err-component-2 : goal.returns-in_err-component-2
unfolding steps
returns-in_err-component-2 c =
    let e = one_more (λ n. turns of_component (read (inside_at c.args.room) (item component)) (tt {0}) n c.loop-turn.found.items c.loop-turn.reader) _ c.loop-turn._turn c.loop-turn-test.true c.loop-turn.invariant in
    first_of (search rules, grind (arith, common_steps))

pub loop-turn-preserved : goal.loop-turn-preserved
unfolding steps
loop-turn-preserved c =
    let e = one_more (λ n. turns of_component (read (inside_at c.args.room) (item component)) (tt {0}) n c.loop-turn.found.items c.loop-turn.reader) _ c.loop-turn._turn c.loop-turn-test.true c.loop-turn.invariant in
    first_of (search rules, grind (arith, common_steps))

pub returns : goal.returns
unfolding steps
returns c =
    let e = no_more (λ n. turns of_component (read (inside_at c.args.room) (item component)) (tt {0}) n c.loop-turn.found.items c.loop-turn.reader) _ c.loop-turn._turn c.loop-turn-test.false c.loop-turn.invariant in
    first_of (search rules, grind (arith, common_steps))
