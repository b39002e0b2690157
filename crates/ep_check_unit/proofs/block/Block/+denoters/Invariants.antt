use Rattle.std.proofs.Common.{◌≡◌, None, [], map, drop}
use Rattle.ep_built.specs.Built.{field_section_unbuilt, first_in, plain_unbuilt, variant_unbuilt}
use Rattle.ep_unit_rules.specs.Answers.{index_of}
use Rattle.ep_check_unit.specs.Answers.{fields_in, gathered_in, indexes_written}
use Rattle.ep_check_unit.specs.Blocks.{block_of}
use Rattle.ep_check_unit.specs.Declarations.{none_gathered, plain_part, section_part, sections_written, variant_judged, variants_written}
use Rattle.ep_check_unit.proofs.Indexes.{behind}
use Rattle.ep_check_unit.proofs.block.Block.+denoters.Given as goal

abbrev pub invariant-index_types-loop-plain : goal.invariant-index_types-loop-plain
invariant-index_types-loop-plain l = record {
  built : first_in (map plain_unbuilt (drop l.plain-index l.plains)) ≡ None;
  same : behind (map index_of l.all) (indexes_written l.line (map plain_part (drop l.plain-index l.plains)) (block_of l.self)) ≡ indexes_written l.line (map plain_part l.plains) (block_of l.initial.self);
}

abbrev pub invariant-sections-loop-section : goal.invariant-sections-loop-section
invariant-sections-loop-section l = record {
  built : first_in (map field_section_unbuilt (drop l.section-index l.sections)) ≡ None;
  same : sections_written l.line (map section_part (drop l.section-index l.sections)) (fields_in (block_of l.self) l.all) ≡ sections_written l.line (map section_part l.sections) (fields_in (block_of l.initial.self) []);
}

abbrev pub invariant-variants-loop-variant : goal.invariant-variants-loop-variant
invariant-variants-loop-variant l = record {
  built : first_in (map variant_unbuilt (drop l.variant-index l.variants)) ≡ None;
  same : variants_written l.line l.values (map variant_judged (drop l.variant-index l.variants)) (gathered_in (block_of l.self) l.gathered) ≡ variants_written l.line l.values (map variant_judged l.variants) (none_gathered (block_of l.initial.self));
}
