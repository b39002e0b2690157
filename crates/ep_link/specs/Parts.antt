-- The parts that one object gives an image, by its placement and the units that its references name.
use Rattle.std.specs.Prelude.{[], ◌∷◌, map}
use Rattle.ep_object.specs.Placing.{moved, placed_type}
use Rattle.ep_object.specs.declared.code.CodeRoutine.{CodeRoutine}
use Rattle.ep_object.specs.declared.code.Image.{Image}
use Rattle.ep_object.specs.declared.code.ImageRoutine.{ImageRoutine}
use Rattle.ep_object.specs.declared.code.ImageUnit.{ImageUnit}
use Rattle.ep_object.specs.declared.code.Object.{Object}
use Rattle.ep_link.specs.Instrs.{placed_instr}
use Rattle.ep_link.specs.Targets.{target_in}
use Rattle.ep_link.specs.declared.placement.Placement.{Placement}
use Rattle.ep_link.specs.declared.units.Units.{Units}

abbrev pub placed_unit : Placement → Object → ImageUnit
placed_unit p o =
    record { name = o.name; slots = o.unit_slots; start = moved p.routines o.start; stop = moved p.routines o.stop }

abbrev pub placed_routine : Placement → CodeRoutine → ImageRoutine
placed_routine p r =
    record { entry = moved p.instructions r.entry; unit = p.unit; arguments = r.arguments; slots = r.slots }

abbrev pub object_part : Units → Placement → Object → Image
object_part units p o =
    record {
      units = placed_unit p o ∷ [];
      routines = map (placed_routine p) o.routines;
      texts = o.texts;
      constant_types = map (placed_type p.constant_types) o.constant_types;
      instructions = map (placed_instr p (map (target_in units) o.references)) o.instructions;
    }
