use Rattle.std.proofs.Common.{◌≡◌, drop, map}
use Rattle.ep_built.specs.Built.{field_section_unbuilt, first_in, plain_unbuilt, variant_unbuilt}
use Rattle.ep_built.proofs.built.types.+lines.Given as goal

abbrev pub invariant-plains-loop-p : goal.invariant-plains-loop-p
invariant-plains-loop-p l = first_in (map plain_unbuilt (drop l.p-index l.all)) ≡ first_in (map plain_unbuilt l.all)

abbrev pub invariant-sections-loop-section : goal.invariant-sections-loop-section
invariant-sections-loop-section l = first_in (map field_section_unbuilt (drop l.section-index l.all)) ≡ first_in (map field_section_unbuilt l.all)

abbrev pub invariant-variants-loop-v : goal.invariant-variants-loop-v
invariant-variants-loop-v l = first_in (map variant_unbuilt (drop l.v-index l.all)) ≡ first_in (map variant_unbuilt l.all)
