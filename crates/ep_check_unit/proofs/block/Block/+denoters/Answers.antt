use Rattle.std.proofs.Common.{◌≡◌, Some, map, sym, ap, ◌∙◌}
use Rattle.std.specs.Option.{option_map}
use Rattle.std.proofs.lemmas.Result.{err_from_is_err_and}
use Rattle.ep_built.specs.Built.{field_section_unbuilt, plain_unbuilt}
use Rattle.ep_stmt_rules.proofs.public.judged.Rounds.{rest_built}
use Rattle.ep_rules.specs.Judgements.{Accepts, when_accepted}
use Rattle.ep_unit_rules.specs.Answers.{tag_in}
use Rattle.ep_check_unit.specs.Answers.{fields_in, gathered_in, labelled_in, listed_in, named_in, written_in}
use Rattle.ep_check_unit.specs.Blocks.{block_of}
use Rattle.ep_check_unit.specs.Declarations.{completing_added, completing_written, core_part, fields_judged, variant_judged, variants_written}
use Rattle.ep_check_unit.proofs.FieldSections.{names_refused, next_section}
use Rattle.ep_check_unit.proofs.Indexes.{array_accepted, component_refused, index_refused, next_index, other_settled, unnamed, without_index}
use Rattle.ep_check_unit.proofs.VariantParts.{part_taken, variant_taken}
use Rattle.ep_check_unit.proofs.block.Block.+denoters.Goals as goal

pub index_types-loop-plain-preserved : goal.index_types-loop-plain-preserved
index_types-loop-plain-preserved t c = record {
  built = rest_built plain_unbuilt c.args.plains.now c.loop-plain.plain-index c.plain-item.result c.loop-plain-test.true c.plain-item.is c.loop-plain.invariant.built;
  same =
      next_index c.args.line c.args.plains.now c.loop-plain.plain-index c.plain-item.result c.loop-plain-test.true c.plain-item.is
      c.loop-plain.all c.push.new.self c.in_ok-index.index c.in_ok-values.values (block_of c.loop-plain.self) (block_of c.settled_plain.new.self) _ c.in_ok-push.ensures.ok c.in_ok-index.ensures c.in_ok-values.ensures c.loop-plain.invariant.same;
}

pub settled_core-returns : goal.settled_core-returns
settled_core-returns t c =
    rw (other_settled (core_part c.args.core.now) c.args.line (block_of c.args.self.now) (written_in (block_of c.written_type.new.self) c.in_ok-written.written) (unnamed c.args.core.now c.in_default.not-Named) c.in_ok-written.ensures) c.settle.ensures

pub structure-returns-in_err-made-in-Array : goal.structure-returns-in_err-made-in-Array
structure-returns-in_err-made-in-Array t c =
    let p = err_from_is_err_and c.from_residual.result c.from_residual.ensures.1 in
    rw (p.1, p.2)
    (index_refused c.args.line c.args.structure.now c.in-Array.field-0 c.in-Array.indexes c.in-Array.component (block_of c.args.self.now) c.in-Array.is c.in_err-made-in-Array.field-0.0 (rw c.items.ensures at c.in_err-made-in-Array.ensures))

pub structure-returns-in_default : goal.structure-returns-in_default
structure-returns-in_default t c =
    rw (without_index c.args.line c.args.structure.now c.in-Array.field-0 c.in-Array.indexes c.in-Array.component (block_of c.args.self.now) c.in-Array.is c.in_ok-made-in-Array.made (block_of c.index_types.new.self) (rw c.items.ensures at c.in_ok-made-in-Array.ensures) (rw c.items-in-Array.ensures at c.in_default.ensures.cases))
    (rw c.get.ensures at c.written_plain.ensures)

pub structure-returns-in_err-of-in-Array : goal.structure-returns-in_err-of-in-Array
structure-returns-in_err-of-in-Array t c =
    let p = err_from_is_err_and c.from_residual-in_err-of-in-Array.result c.from_residual-in_err-of-in-Array.ensures.1 in
    rw (p.1, p.2)
    (component_refused c.args.line c.args.structure.now c.in-Array.field-0 c.in-Array.indexes c.in-Array.component (block_of c.args.self.now) c.in-Array.is c.in_ok-made-in-Array.made (block_of c.index_types.new.self) (rw c.items.ensures at c.in_ok-made-in-Array.ensures)
    c.in-Some.first.now c.in-Some.others.now (rw c.items-in-Array.ensures at c.in-Some.ensures.cases).0 c.in_err-of-in-Array.field-0.0 (rw c.get-in-Array.ensures at c.in_err-of-in-Array.ensures))

pub structure-returns-in_ok-below-in-Array : goal.structure-returns-in_ok-below-in-Array
structure-returns-in_ok-below-in-Array t c =
    rw (array_accepted c.args.line c.args.structure.now c.in-Array.field-0 c.in-Array.indexes c.in-Array.component (block_of c.args.self.now) c.in-Array.is c.in_ok-made-in-Array.made (block_of c.index_types.new.self) (rw c.items.ensures at c.in_ok-made-in-Array.ensures)
    c.in-Some.first.now c.in-Some.others.now (rw c.items-in-Array.ensures at c.in-Some.ensures.cases).0 c.in_ok-below-in-Array.below (named_in (block_of c.settled_plain.new.self) c.in_ok-of-in-Array.of) (block_of c.arrays_below.new.self) (rw c.get-in-Array.ensures at c.in_ok-of-in-Array.ensures) c.in_ok-below-in-Array.ensures)
    c.array_over.ensures

pub sections-returns-in_err-all : goal.sections-returns-in_err-all
sections-returns-in_err-all t c =
    let p = err_from_is_err_and c.from_residual-in_err-all.result c.from_residual-in_err-all.ensures.1 in
    rw (p.1, p.2, ← c.loop-section.invariant.same)
    (names_refused c.args.line c.args.sections.now c.loop-section.section-index c.section-item.result c.loop-section-test.true c.section-item.is (block_of c.loop-section.self) c.loop-section.all c.in_ok-of.of (block_of c.settled_denoter.new.self) c.in_ok-of.ensures c.in_err-all.field-0.0 (rw c.items.ensures at c.in_err-all.ensures))

pub sections-loop-section-preserved : goal.sections-loop-section-preserved
sections-loop-section-preserved t c = record {
  built = rest_built field_section_unbuilt c.args.sections.now c.loop-section.section-index c.section-item.result c.loop-section-test.true c.section-item.is c.loop-section.invariant.built;
  same = next_section c.args.line c.args.sections.now c.loop-section.section-index c.section-item.result c.loop-section-test.true c.section-item.is (block_of c.loop-section.self) c.loop-section.all c.in_ok-of.of (block_of c.settled_denoter.new.self) c.in_ok-of.ensures c.in_ok-all.all (rw c.items.ensures at c.in_ok-all.ensures) ∙ c.loop-section.invariant.same;
}

pub completing-returns : goal.completing-returns
completing-returns t c =
    let there : c.args.other.now ≡ Some c.get.result.now = cc in
    let before = gathered_in (block_of c.args.self.now) c.args.before in
    ap (λ o. completing_written c.args.line (option_map fields_judged o) before) there
    ∙ (ap (when_accepted (λ l. Accepts (completing_added l before))) c.in_ok-listing.ensures
    ∙ sym (ap Accepts (c.in_ok-complete.ensures (block_of c.fields.new.self))))

pub variant-returns : goal.variant-returns
variant-returns t c =
    variant_taken c.args.line c.args.values c.args.variant.now (gathered_in (block_of c.args.self.now) c.args.before) (labelled_in (block_of c.variant_labels.new.self) c.in_ok-ranges.ranges c.variant_labels.new.found) (listed_in (block_of c.fields.new.self) c.in_ok-listing.listing)
    (rw c.items-labels.ensures at c.in_ok-ranges.ensures) c.in_ok-listing.ensures
    ∙ sym (ap Accepts (c.in_ok-add.ensures (block_of c.fields.new.self)))

pub variant_part-returns : goal.variant_part-returns
variant_part-returns t c =
    rw (part_taken c.args.line c.args.part.now (fields_in (block_of c.args.self.now) c.args.own.now) (tag_in c.in_ok-tag.tag) (gathered_in (block_of c.variants.new.self) c.in_ok-gathered.gathered) (gathered_in (block_of c.completing.new.self) c.in_ok-gathered-2.gathered) (gathered_in (block_of c.completing.new.self) c.in_ok-gathered-3.gathered)
    c.in_ok-tag.ensures (rw c.items.ensures at c.in_ok-gathered.ensures) c.in_ok-gathered-2.ensures (c.in_ok-gathered-3.ensures (block_of c.completing.new.self)))
    (c.variant_list.ensures (block_of c.completing.new.self) (block_of c.args.self.now))

pub variants-loop-variant-init : goal.variants-loop-variant-init
variants-loop-variant-init t c = record {
  built = c.requires;
  same = ap (variants_written c.args.line c.args.values (map variant_judged c.args.variants.now)) (c.new-gathered.ensures (block_of c.args.self.now));
}
