use Rattle.std.proofs.Common.{refl}
use Rattle.ep_grammar.specs.Declarations.{variables}
use Rattle.ep_reader.proofs.public.Levels.{handed, opened, unopened}
use Rattle.ep_reader.proofs.public.Shaped.{one_of}
use Rattle.ep_parse_unit.proofs.declarations.variables.Goals as goal

pub returns-in_err-_inner : goal.returns-in_err-_inner
unfolding variables
returns-in_err-_inner c = handed _ _ _ c.in_err-_inner.field-0.0 c.from_residual.ensures.1 (λ n. unopened _ _ _ c.in_err-_inner.ensures.inner (one_of _ _ c.sees_word.ensures))

pub returns-in_err-keyword : goal.returns-in_err-keyword
unfolding variables
returns-in_err-keyword c = handed _ _ _ c.in_err-keyword.field-0.0 c.from_residual-in_err-keyword.ensures.1 (λ n. opened _ _ _ c.in_ok-_inner.ensures.inner (rw (c.in_err-keyword.ensures n) refl))

pub returns-in_err-declarations : goal.returns-in_err-declarations
unfolding variables
returns-in_err-declarations c = handed _ _ _ c.in_err-declarations.field-0.0 c.from_residual-in_err-declarations.ensures.1 (λ n. opened _ _ _ c.in_ok-_inner.ensures.inner (rw (c.in_ok-keyword.ensures, c.in_err-declarations.ensures n) refl))

pub returns : goal.returns
unfolding variables
returns c = opened _ _ _ c.in_ok-_inner.ensures.inner (rw (c.line-line.ensures, c.in_ok-keyword.ensures, c.in_ok-declarations.ensures) refl)
