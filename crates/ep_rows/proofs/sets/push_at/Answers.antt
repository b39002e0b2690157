use Rattle.std.proofs.Common.{◌∷◌, rules}
use Rattle.ep_frames.specs.Members.{set_of}
use Rattle.ep_object.specs.Operands.{Place, Set}
use Rattle.ep_object.specs.Places.{load_row}
use Rattle.ep_rows.proofs.WordRows.{value_pushed}
use Rattle.ep_rows.proofs.sets.push_at.Goals as goal

pub returns-in-Some : goal.returns-in-Some
returns-in-Some c =
    value_pushed c.push_set.result (λ st. load_row c.args.types.now c.args.memory.now.segments (Place c.args.p ∷ st)) c.args.stack.now c.push_set.new.self (Set (set_of c.in-Some.set)) c.in-Some.ensures (search rules)
