use Rattle.std.proofs.Common.{map}
use Rattle.ep_gen_code.proofs.public.Growing.{on_ok}
use Rattle.ep_gen_type.proofs.TypeForms.{by_field, by_ranges, by_structure, parts_more}
use Rattle.ep_typed.specs.Trees.{elements}
use Rattle.ep_typed.specs.Viewed.{element_of, expr_of}
use Rattle.ep_gen_type.proofs.types.+starts.Goals as goal

pub structured_start_code-returns : goal.structured_start_code-returns
structured_start_code-returns t c = on_ok c.end_structured.result (by_structure c.args.code.now c.args.number (elements (map element_of c.args.parts.now)) c.in_ok-begin_structured.ensures c.in_ok-start_parts_code.ensures) c.end_structured.ensures

pub ranges_start_code-returns : goal.ranges_start_code-returns
ranges_start_code-returns t c = on_ok c.fill_ranges.result (by_ranges c.args.code.now c.args.ranges.now (expr_of c.args.value.now) c.in_ok-reach_first.ensures c.in_ok-constant_code.ensures c.in_ok-emit.ensures) c.fill_ranges.ensures

pub field_start_code-returns : goal.field_start_code-returns
field_start_code-returns t c = on_ok c.emit.result (by_field c.args.code.now c.args.steps.now (expr_of c.args.value.now) c.in_ok-reach_field.ensures c.in_ok-constant_code.ensures) c.emit.ensures

pub start_parts_code-loop-part-preserved : goal.start_parts_code-loop-part-preserved
start_parts_code-loop-part-preserved t c =
    parts_more c.args.code.now element_of c.args.parts.now c.loop-part.part-index c.part-item.result c.loop-part-test.true c.part-item.is c.loop-part.invariant c.in_ok-start_part_code.ensures
