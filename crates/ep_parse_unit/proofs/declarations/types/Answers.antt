use Rattle.std.proofs.Common.{refl}
use Rattle.ep_grammar.specs.Declarations.{types}
use Rattle.ep_reader.proofs.public.Levels.{handed, opened, unopened}
use Rattle.ep_reader.proofs.public.Shaped.{one_of}
use Rattle.ep_parse_unit.proofs.declarations.types.Goals as goal

pub returns-in_err-_inner : goal.returns-in_err-_inner
unfolding types
returns-in_err-_inner c = handed _ _ _ c.in_err-_inner.field-0.0 c.from_residual.ensures.1 (λ n. unopened _ _ _ c.in_err-_inner.ensures.inner (one_of _ _ c.sees_word.ensures))

pub returns-in_err-keyword : goal.returns-in_err-keyword
unfolding types
returns-in_err-keyword c = handed _ _ _ c.in_err-keyword.field-0.0 c.from_residual-in_err-keyword.ensures.1 (λ n. opened _ _ _ c.in_ok-_inner.ensures.inner (rw (c.in_err-keyword.ensures n) refl))

pub returns-in_err-definitions : goal.returns-in_err-definitions
unfolding types
returns-in_err-definitions c = handed _ _ _ c.in_err-definitions.field-0.0 c.from_residual-in_err-definitions.ensures.1 (λ n. opened _ _ _ c.in_ok-_inner.ensures.inner (rw (c.in_ok-keyword.ensures, c.in_err-definitions.ensures n) refl))

pub returns : goal.returns
unfolding types
returns c = opened _ _ _ c.in_ok-_inner.ensures.inner (rw (c.line-line.ensures, c.in_ok-keyword.ensures, c.in_ok-definitions.ensures) refl)
