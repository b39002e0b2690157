-- The placement of an object, by what stands in the image before it.
use Rattle.std.specs.Prelude.{ℕ, ◌+◌, cond, ltb, length}
use Rattle.ep_object.specs.Placing.{Placement, missing}
use Rattle.ep_object.specs.declared.code.Object.{Object}
use Rattle.ep_link.specs.declared.placement.Bases.{Bases}
use Rattle.ep_link.specs.declared.placement.Placement.{Placement as Nameless}

-- nothing stands before the first object
abbrev pub first_bases : Bases
first_bases = record { unit = 0; routines = 0; texts = 0; constant_types = 0; instructions = 0 }

-- the placement of an object with these parts before its own
abbrev pub placement_at : Bases → Object → Placement
placement_at b o =
    record {
      unit = b.unit;
      name = o.name;
      slots = o.unit_slots;
      routines = record { before = b.routines; own = length o.routines };
      texts = record { before = b.texts; own = length o.texts };
      constant_types = record { before = b.constant_types; own = length o.constant_types };
      instructions = record { before = b.instructions; own = length o.instructions };
    }

-- a placement without the name of its unit
abbrev pub nameless : Placement → Nameless
nameless p =
    record {
      unit = p.unit;
      slots = p.slots;
      routines = p.routines;
      texts = p.texts;
      constant_types = p.constant_types;
      instructions = p.instructions;
    }

-- what stands before the object that follows
abbrev pub bases_after : Nameless → Bases
bases_after p =
    record {
      unit = p.unit + 1;
      routines = p.routines.before + p.routines.own;
      texts = p.texts.before + p.texts.own;
      constant_types = p.constant_types.before + p.constant_types.own;
      instructions = p.instructions.before + p.instructions.own;
    }

-- a slot of a unit
abbrev pub unit_slot : Nameless → ℕ → ℕ
unit_slot p n = cond (ltb n p.slots) n missing
