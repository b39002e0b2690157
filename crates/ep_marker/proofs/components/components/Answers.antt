use Rattle.ep_grammar.specs.Units.{components}
use Rattle.ep_marker.proofs.Walks.{gives, ◌▸◌}
use Rattle.ep_marker.proofs.RowWalks.{begins, goes-on, has-none, is-over, item}
use Rattle.ep_marker.proofs.components.components.Goals as goal

pub loop-turn-init : goal.loop-turn-init
unfolding components
loop-turn-init c = begins (gives ▸ c.component.ensures) c.left-turn-end.ensures

pub returns-then-not-begins_component : goal.returns-then-not-begins_component
returns-then-not-begins_component c = has-none c.loop-turn.invariant c.if-not-begins_component.ensures

pub loop-turn-preserved : goal.loop-turn-preserved
loop-turn-preserved c = goes-on c.loop-turn.invariant c.loop-turn-test.true c.if-not-begins_component.ensures (item c.component-in-loop-turn.ensures)

pub returns : goal.returns
returns c = is-over c.loop-turn.invariant c.loop-turn-test.false
