use Rattle.std.proofs.Common.{◌≡◌, min, max, drop, map}
use Rattle.ep_tree.specs.Nesting.{most_of, field_section_nesting, plain_nesting, variant_nesting}
use Rattle.ep_tree.proofs.levels.types.+levels.Given as goal

abbrev pub invariant-plains-loop-p : goal.invariant-plains-loop-p
invariant-plains-loop-p l = max l.most (min (most_of (map plain_nesting (drop l.p-index l.all))) 4294967295) ≡ min (most_of (map plain_nesting l.all)) 4294967295

abbrev pub invariant-sections-loop-section : goal.invariant-sections-loop-section
invariant-sections-loop-section l = max l.most (min (most_of (map field_section_nesting (drop l.section-index l.all))) 4294967295) ≡ min (most_of (map field_section_nesting l.all)) 4294967295

abbrev pub invariant-variants-loop-v : goal.invariant-variants-loop-v
invariant-variants-loop-v l = max l.most (min (most_of (map variant_nesting (drop l.v-index l.all))) 4294967295) ≡ min (most_of (map variant_nesting l.all)) 4294967295
