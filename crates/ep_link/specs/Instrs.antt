-- The instructions of an object whose references have these targets, as they stand in the image.
use Rattle.std.specs.Prelude.{ℤ, pos, negsuc, zero, suc, List, Option, Some, None}
use Rattle.ep_object.specs.Placing.{Span, moved_field}
use Rattle.ep_object.specs.Table.{Op, op_of, Text, Jump, JumpFalse, Call, Unit, TConst}
use Rattle.ep_object.specs.declared.code.Instr.{Instr}
use Rattle.ep_link.specs.Targets.{target_at}
use Rattle.ep_link.specs.declared.placement.Placement.{Placement}
use Rattle.ep_link.specs.declared.target.Target.{Target}

abbrev pub moved_instr : Span → Instr → Instr
moved_instr span i = record i { a = moved_field span i.a }

abbrev pub call_of : Target → Instr → Instr
call_of t i = record i { a = pos t.routine }

abbrev pub slot_of : Target → Instr → Instr
slot_of t i = record i { a = pos t.unit; b = t.slot }

-- `Unit` with -1 names a standard file and stays as it is
abbrev pub slot_or_file : List Target → ℤ → Instr → Instr
slot_or_file targets (negsuc zero) i = i
slot_or_file targets (negsuc (suc n)) i = slot_of (target_at targets (negsuc (suc n))) i
slot_or_file targets (pos n) i = slot_of (target_at targets (pos n)) i

abbrev pub placed_op : Placement → List Target → Option Op → Instr → Instr
placed_op p targets (Some Text) i = moved_instr p.texts i
placed_op p targets (Some Jump) i = moved_instr p.instructions i
placed_op p targets (Some JumpFalse) i = moved_instr p.instructions i
placed_op p targets (Some TConst) i = moved_instr p.constant_types i
placed_op p targets (Some Call) i = call_of (target_at targets i.a) i
placed_op p targets (Some Unit) i = slot_or_file targets i.a i
placed_op p targets (Some _) i = i
placed_op p targets None i = i

abbrev pub placed_instr : Placement → List Target → Instr → Instr
placed_instr p targets i = placed_op p targets (op_of i.op) i
