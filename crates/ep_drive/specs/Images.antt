-- The parts of an object that stands alone in an image.
use Rattle.std.specs.Prelude.{List, [], ◌∷◌}
use Rattle.ep_object.specs.Placing.{Placement, first_placement, placed}
use Rattle.ep_object.specs.declared.code.Instr.{Instr}
use Rattle.ep_object.specs.declared.code.Object.{Object}

-- its placement is the only one
abbrev pub placements_in : Object → List Placement
placements_in o = first_placement o ∷ []

-- an instruction as it stands in the image
abbrev pub placed_in : Object → Instr → Instr
placed_in o i = placed (placements_in o) (first_placement o) o.references i
