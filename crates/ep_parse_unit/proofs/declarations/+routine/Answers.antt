use Rattle.std.proofs.Common.{of_calls, refl, subst}
use Rattle.ep_grammar.specs.Declarations.{block_body, of_parts, part, parts, routine_part}
use Rattle.ep_grammar.specs.Reading.{Reads, read}
use Rattle.ep_grammar.specs.Rules.{inside_at}
use Rattle.ep_reader.specs.Rows.{many_by}
use Rattle.ep_reader.proofs.public.Levels.{handed, opened, unopened}
use Rattle.ep_parse_unit.proofs.declarations.+routine.Goals as goal

pub parts-returns : goal.parts-returns
unfolding parts
parts-returns t c =
    subst (λ w. Reads (many_by of_parts (read (inside_at c.args.room) part) w c.args.reader.now) c.many.result c.many.new.reader) c.new-none.ensures
    (c.many.ensures of_parts (read (inside_at c.args.room) part) (λ i j r called. search of_calls))

pub routine_part-returns-in_err-_inner : goal.routine_part-returns-in_err-_inner
unfolding routine_part
routine_part-returns-in_err-_inner t c = handed _ _ _ c.in_err-_inner.field-0.0 c.from_residual.ensures.1 (λ n. unopened _ _ _ c.in_err-_inner.ensures.inner c.begins_routine.ensures)

pub routine_part-returns-in_err-routine : goal.routine_part-returns-in_err-routine
unfolding routine_part
routine_part-returns-in_err-routine t c = handed _ _ _ c.in_err-routine.field-0.0 c.from_residual-in_err-routine.ensures.1 (λ n. opened _ _ _ c.in_ok-_inner.ensures.inner (rw (c.in_err-routine.ensures n) refl))

pub routine_part-returns : goal.routine_part-returns
unfolding routine_part
routine_part-returns t c = opened _ _ _ c.in_ok-_inner.ensures.inner (rw (c.in_ok-routine.ensures) refl)

pub block_body-returns-in_err-_inner : goal.block_body-returns-in_err-_inner
unfolding block_body
block_body-returns-in_err-_inner t c = handed _ _ _ c.in_err-_inner.field-0.0 c.from_residual.ensures.1 (λ n. unopened _ _ _ c.in_err-_inner.ensures.inner c.begins_block.ensures)

pub block_body-returns-in_err-parts : goal.block_body-returns-in_err-parts
unfolding block_body
block_body-returns-in_err-parts t c = handed _ _ _ c.in_err-parts.field-0.0 c.from_residual-in_err-parts.ensures.1 (λ n. opened _ _ _ c.in_ok-_inner.ensures.inner (rw (c.in_err-parts.ensures n) refl))

pub block_body-returns-in_err-body : goal.block_body-returns-in_err-body
unfolding block_body
block_body-returns-in_err-body t c = handed _ _ _ c.in_err-body.field-0.0 c.from_residual-in_err-body.ensures.1 (λ n. opened _ _ _ c.in_ok-_inner.ensures.inner (rw (c.in_ok-parts.ensures, c.in_err-body.ensures n) refl))

pub block_body-returns : goal.block_body-returns
unfolding block_body
block_body-returns t c = opened _ _ _ c.in_ok-_inner.ensures.inner (rw (c.line-line.ensures, c.in_ok-parts.ensures, c.in_ok-body.ensures) refl)
