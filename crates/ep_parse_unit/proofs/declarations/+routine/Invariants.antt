use Rattle.std.proofs.Common.{◌+◌, ◌*◌}
use Rattle.ep_parse_unit.proofs.declarations.+routine.Given as goal

abbrev pub decreases-block_body : goal.decreases-block_body
decreases-block_body l = 100 * l.room + 40

abbrev pub decreases-inner_routine : goal.decreases-inner_routine
decreases-inner_routine l = 100 * l.room + 0

abbrev pub decreases-part : goal.decreases-part
decreases-part l = 100 * l.room + 20

abbrev pub decreases-parts : goal.decreases-parts
decreases-parts l = 100 * l.room + 30

abbrev pub decreases-routine : goal.decreases-routine
decreases-routine l = 100 * l.room + 60

abbrev pub decreases-routine_body : goal.decreases-routine_body
decreases-routine_body l = 100 * l.room + 50

abbrev pub decreases-routine_part : goal.decreases-routine_part
decreases-routine_part l = 100 * l.room + 10

abbrev pub decreases-parts-many : goal.decreases-parts-many
decreases-parts-many l = 100 * l.room + 25
