use Rattle.std.proofs.Common.{of_calls, refl, rules, arith}
use Rattle.std.proofs.lemmas.Grind.{common_steps}
use Rattle.ep_grammar.specs.Types.{field_section, inner_plains, other_fields, sections, structured, variant, variant_part, variants}
use Rattle.ep_reader.proofs.public.Levels.{handed, opened, unopened}
use Rattle.ep_reader.proofs.public.Shaped.{one_of}
use Rattle.ep_grammar.specs.Descriptions.{plains}
use Rattle.ep_grammar.specs.Expressions.{of_expression}
use Rattle.ep_grammar.specs.Reading.{read, read_inside}
use Rattle.ep_grammar.specs.Rules.{inside_at}
use Rattle.ep_reader.proofs.public.Begun.{closed_behind}
use Rattle.ep_reader.proofs.public.RowLoops.{turns_over, after_none, ended_begun, end_more, end_refused, end_reached}
use Rattle.ep_parse_type.proofs.denoters.+types.Goals as goal

pub inner_plains-returns : goal.inner_plains-returns
unfolding inner_plains
inner_plains-returns t c = c.separated.ensures (read_inside (inside_at c.args.room) plains) (λ i j r called. search of_calls)

pub variants-returns : goal.variants-returns
unfolding variants
variants-returns t c =
    closed_behind (inside_at c.args.room) of_expression variant c.args.reader.now c.in_ok-variant.ensures c.in_ok-found.ensures c.in_ok-push.ensures.ok c.closed.result c.closed.new.reader
    (c.closed.ensures of_expression (read (inside_at c.args.room) variant) (λ i j r called. search of_calls))

pub sections-loop-turn-init : goal.sections-loop-turn-init
unfolding sections
sections-loop-turn-init t c = ended_begun field_section _ c.in_ok-field_section.ensures c.in_ok-found.ensures c.in_ok-push.ensures.ok c.left-turn-end.ensures

pub sections-returns-then-not-sees_symbol : goal.sections-returns-then-not-sees_symbol
sections-returns-then-not-sees_symbol t c = after_none c.loop-turn.invariant c.loop-turn-test.true c.if-not-sees_symbol.ensures

pub sections-returns-then-not-sees_name : goal.sections-returns-then-not-sees_name
sections-returns-then-not-sees_name t c = end_reached c.loop-turn.invariant c.loop-turn-test.true c.if-not-sees_symbol.ensures c.in_ok-symbol.ensures c.if-not-sees_name.ensures

pub sections-returns-in_err-field_section-2 : goal.sections-returns-in_err-field_section-2
sections-returns-in_err-field_section-2 t c =
    let refused = end_refused c.loop-turn.invariant c.loop-turn-test.true c.if-not-sees_symbol.ensures c.in_ok-symbol.ensures c.if-not-sees_name.ensures c.in_err-field_section-2.ensures in
    first_of (search rules, grind (arith, common_steps))

pub sections-loop-turn-preserved : goal.sections-loop-turn-preserved
sections-loop-turn-preserved t c = end_more c.loop-turn.invariant c.loop-turn-test.true c.if-not-sees_symbol.ensures c.in_ok-symbol.ensures c.if-not-sees_name.ensures c.in_ok-field_section-2.ensures c.in_ok-push-2.ensures.ok

pub sections-returns : goal.sections-returns
sections-returns t c = turns_over c.loop-turn.invariant c.loop-turn-test.false

pub field_section-returns-in_err-_inner : goal.field_section-returns-in_err-_inner
unfolding field_section
field_section-returns-in_err-_inner t c = handed _ _ _ c.in_err-_inner.field-0.0 c.from_residual.ensures.1 (λ n. unopened _ _ _ c.in_err-_inner.ensures.inner c.sees_name.ensures)

pub field_section-returns-in_err-names : goal.field_section-returns-in_err-names
unfolding field_section
field_section-returns-in_err-names t c = handed _ _ _ c.in_err-names.field-0.0 c.from_residual-in_err-names.ensures.1 (λ n. opened _ _ _ c.in_ok-_inner.ensures.inner (rw (c.in_err-names.ensures n) refl))

pub field_section-returns-in_err-symbol : goal.field_section-returns-in_err-symbol
unfolding field_section
field_section-returns-in_err-symbol t c = handed _ _ _ c.in_err-symbol.field-0.0 c.from_residual-in_err-symbol.ensures.1 (λ n. opened _ _ _ c.in_ok-_inner.ensures.inner (rw (c.in_ok-names.ensures, c.in_err-symbol.ensures n) refl))

pub field_section-returns-in_err-of : goal.field_section-returns-in_err-of
unfolding field_section
field_section-returns-in_err-of t c = handed _ _ _ c.in_err-of.field-0.0 c.from_residual-in_err-of.ensures.1 (λ n. opened _ _ _ c.in_ok-_inner.ensures.inner (rw (c.in_ok-names.ensures, c.in_ok-symbol.ensures, c.in_err-of.ensures n) refl))

pub field_section-returns : goal.field_section-returns
unfolding field_section
field_section-returns t c = opened _ _ _ c.in_ok-_inner.ensures.inner (rw (c.line-line.ensures, c.in_ok-names.ensures, c.in_ok-symbol.ensures, c.in_ok-of.ensures) refl)

pub structured-returns-in_err-_inner : goal.structured-returns-in_err-_inner
unfolding structured
structured-returns-in_err-_inner t c = handed _ _ _ c.in_err-_inner.field-0.0 c.from_residual.ensures.1 (λ n. unopened _ _ _ c.in_err-_inner.ensures.inner c.begins_structure.ensures)

pub structured-returns-in_err-structure : goal.structured-returns-in_err-structure
unfolding structured
structured-returns-in_err-structure t c = handed _ _ _ c.in_err-structure.field-0.0 c.from_residual-in_err-structure.ensures.1 (λ n. opened _ _ _ c.in_ok-_inner.ensures.inner (rw (c.takes_word-packed.ensures, c.in_err-structure.ensures n) refl))

pub structured-returns : goal.structured-returns
unfolding structured
structured-returns t c = opened _ _ _ c.in_ok-_inner.ensures.inner (rw (c.line-line.ensures, c.takes_word-packed.ensures, c.in_ok-structure.ensures) refl)

pub variant-returns-in_err-_inner : goal.variant-returns-in_err-_inner
unfolding variant
variant-returns-in_err-_inner t c = handed _ _ _ c.in_err-_inner.field-0.0 c.from_residual.ensures.1 (λ n. unopened _ _ _ c.in_err-_inner.ensures.inner c.begins_expression.ensures)

pub variant-returns-in_err-labels : goal.variant-returns-in_err-labels
unfolding variant
variant-returns-in_err-labels t c = handed _ _ _ c.in_err-labels.field-0.0 c.from_residual-in_err-labels.ensures.1 (λ n. opened _ _ _ c.in_ok-_inner.ensures.inner (rw (c.in_err-labels.ensures n) refl))

pub variant-returns-in_err-symbol : goal.variant-returns-in_err-symbol
unfolding variant
variant-returns-in_err-symbol t c = handed _ _ _ c.in_err-symbol.field-0.0 c.from_residual-in_err-symbol.ensures.1 (λ n. opened _ _ _ c.in_ok-_inner.ensures.inner (rw (c.in_ok-labels.ensures, c.in_err-symbol.ensures n) refl))

pub variant-returns-in_err-fields : goal.variant-returns-in_err-fields
unfolding variant
variant-returns-in_err-fields t c = handed _ _ _ c.in_err-fields.field-0.0 c.from_residual-in_err-fields.ensures.1 (λ n. opened _ _ _ c.in_ok-_inner.ensures.inner (rw (c.in_ok-labels.ensures, c.in_ok-symbol.ensures, c.in_err-fields.ensures n) refl))

pub variant-returns : goal.variant-returns
unfolding variant
variant-returns t c = opened _ _ _ c.in_ok-_inner.ensures.inner (rw (c.line-line.ensures, c.in_ok-labels.ensures, c.in_ok-symbol.ensures, c.in_ok-fields.ensures) refl)

pub other_fields-returns-in_err-_inner : goal.other_fields-returns-in_err-_inner
unfolding other_fields
other_fields-returns-in_err-_inner t c = handed _ _ _ c.in_err-_inner.field-0.0 c.from_residual.ensures.1 (λ n. unopened _ _ _ c.in_err-_inner.ensures.inner (one_of _ _ c.sees_word.ensures))

pub other_fields-returns-in_err-keyword : goal.other_fields-returns-in_err-keyword
unfolding other_fields
other_fields-returns-in_err-keyword t c = handed _ _ _ c.in_err-keyword.field-0.0 c.from_residual-in_err-keyword.ensures.1 (λ n. opened _ _ _ c.in_ok-_inner.ensures.inner (rw (c.in_err-keyword.ensures n) refl))

pub other_fields-returns-in_err-fields : goal.other_fields-returns-in_err-fields
unfolding other_fields
other_fields-returns-in_err-fields t c = handed _ _ _ c.in_err-fields.field-0.0 c.from_residual-in_err-fields.ensures.1 (λ n. opened _ _ _ c.in_ok-_inner.ensures.inner (rw (c.in_ok-keyword.ensures, c.in_err-fields.ensures n) refl))

pub other_fields-returns-then-not-sees_symbol : goal.other_fields-returns-then-not-sees_symbol
unfolding other_fields
other_fields-returns-then-not-sees_symbol t c = opened _ _ _ c.in_ok-_inner.ensures.inner (rw (c.in_ok-keyword.ensures, c.in_ok-fields.ensures, ← c.if-not-sees_symbol.ensures) refl)

pub other_fields-returns : goal.other_fields-returns
unfolding other_fields
other_fields-returns t c = opened _ _ _ c.in_ok-_inner.ensures.inner (rw (c.in_ok-keyword.ensures, c.in_ok-fields.ensures, ← c.if-not-sees_symbol.ensures, c.in_ok-symbol.ensures) refl)

pub variant_part-returns-in_err-_inner : goal.variant_part-returns-in_err-_inner
unfolding variant_part
variant_part-returns-in_err-_inner t c = handed _ _ _ c.in_err-_inner.field-0.0 c.from_residual.ensures.1 (λ n. unopened _ _ _ c.in_err-_inner.ensures.inner (one_of _ _ c.sees_word.ensures))

pub variant_part-returns-in_err-keyword : goal.variant_part-returns-in_err-keyword
unfolding variant_part
variant_part-returns-in_err-keyword t c = handed _ _ _ c.in_err-keyword.field-0.0 c.from_residual-in_err-keyword.ensures.1 (λ n. opened _ _ _ c.in_ok-_inner.ensures.inner (rw (c.in_err-keyword.ensures n) refl))

pub variant_part-returns-in_err-selector : goal.variant_part-returns-in_err-selector
unfolding variant_part
variant_part-returns-in_err-selector t c = handed _ _ _ c.in_err-selector.field-0.0 c.from_residual-in_err-selector.ensures.1 (λ n. opened _ _ _ c.in_ok-_inner.ensures.inner (rw (c.in_ok-keyword.ensures, c.in_err-selector.ensures n) refl))

pub variant_part-returns-in_err-keyword-2 : goal.variant_part-returns-in_err-keyword-2
unfolding variant_part
variant_part-returns-in_err-keyword-2 t c = handed _ _ _ c.in_err-keyword-2.field-0.0 c.from_residual-in_err-keyword-2.ensures.1 (λ n. opened _ _ _ c.in_ok-_inner.ensures.inner (rw (c.in_ok-keyword.ensures, c.in_ok-selector.ensures, c.in_err-keyword-2.ensures n) refl))

pub variant_part-returns-in_err-variants : goal.variant_part-returns-in_err-variants
unfolding variant_part
variant_part-returns-in_err-variants t c = handed _ _ _ c.in_err-variants.field-0.0 c.from_residual-in_err-variants.ensures.1 (λ n. opened _ _ _ c.in_ok-_inner.ensures.inner (rw (c.in_ok-keyword.ensures, c.in_ok-selector.ensures, c.in_ok-keyword-2.ensures, c.in_err-variants.ensures n) refl))

pub variant_part-returns-in_err-otherwise : goal.variant_part-returns-in_err-otherwise
unfolding variant_part
variant_part-returns-in_err-otherwise t c = handed _ _ _ c.in_err-otherwise.field-0.0 c.from_residual-in_err-otherwise.ensures.1 (λ n. opened _ _ _ c.in_ok-_inner.ensures.inner (rw (c.in_ok-keyword.ensures, c.in_ok-selector.ensures, c.in_ok-keyword-2.ensures, c.in_ok-variants.ensures, c.in_err-otherwise.ensures n) refl))

pub variant_part-returns : goal.variant_part-returns
unfolding variant_part
variant_part-returns t c = opened _ _ _ c.in_ok-_inner.ensures.inner (rw (c.line-line.ensures, c.in_ok-keyword.ensures, c.in_ok-selector.ensures, c.in_ok-keyword-2.ensures, c.in_ok-variants.ensures, c.in_ok-otherwise.ensures) refl)
