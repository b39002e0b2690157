use Rattle.ep_grammar.specs.Units.{import_specifications}
use Rattle.ep_marker.proofs.Walks.{gives, started, ◌▸◌}
use Rattle.ep_marker.proofs.RowWalks.{begins, goes-on, has-none, is-over, item}
use Rattle.ep_marker.proofs.components.import_specifications.Goals as goal

pub loop-turn-init : goal.loop-turn-init
unfolding import_specifications
loop-turn-init c = begins (gives ▸ c.import_specification.ensures) c.left-turn-end.ensures

pub returns-then-not-sees_name : goal.returns-then-not-sees_name
returns-then-not-sees_name c = has-none c.loop-turn.invariant c.if-not-sees_name.ensures

pub loop-turn-preserved : goal.loop-turn-preserved
loop-turn-preserved c = goes-on c.loop-turn.invariant c.loop-turn-test.true c.if-not-sees_name.ensures (item (started c.len-first.ensures c.import_specification-in-loop-turn.ensures c.start.ensures))

pub returns : goal.returns
returns c = is-over c.loop-turn.invariant c.loop-turn-test.false
