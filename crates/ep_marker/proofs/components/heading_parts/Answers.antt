use Rattle.ep_grammar.specs.Units.{heading_parts}
use Rattle.ep_marker.proofs.Walks.{gives, started}
use Rattle.ep_marker.proofs.RowWalks.{begins, goes-on, has-none, is-over, item}
use Rattle.ep_marker.proofs.components.heading_parts.Goals as goal

pub loop-turn-init : goal.loop-turn-init
unfolding heading_parts
loop-turn-init c = begins gives c.left-turn-end.ensures

pub returns-then-not-begins_part : goal.returns-then-not-begins_part
returns-then-not-begins_part c = has-none c.loop-turn.invariant c.if-not-begins_part.ensures

pub loop-turn-preserved : goal.loop-turn-preserved
loop-turn-preserved c = goes-on c.loop-turn.invariant c.loop-turn-test.true c.if-not-begins_part.ensures (item (started c.len-first.ensures c.heading_part.ensures c.start.ensures))

pub returns : goal.returns
returns c = is-over c.loop-turn.invariant c.loop-turn-test.false
