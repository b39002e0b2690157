use Rattle.std.proofs.Common.{refl}
use Rattle.ep_grammar.specs.Declarations.{variable_declaration}
use Rattle.ep_reader.proofs.public.Levels.{handed, opened, unopened}
use Rattle.ep_parse_unit.proofs.declarations.variable_declaration.Goals as goal

pub returns-in_err-_inner : goal.returns-in_err-_inner
unfolding variable_declaration
returns-in_err-_inner c = handed _ _ _ c.in_err-_inner.field-0.0 c.from_residual.ensures.1 (λ n. unopened _ _ _ c.in_err-_inner.ensures.inner c.sees_name.ensures)

pub returns-in_err-names : goal.returns-in_err-names
unfolding variable_declaration
returns-in_err-names c = handed _ _ _ c.in_err-names.field-0.0 c.from_residual-in_err-names.ensures.1 (λ n. opened _ _ _ c.in_ok-_inner.ensures.inner (rw (c.in_err-names.ensures n) refl))

pub returns-in_err-symbol : goal.returns-in_err-symbol
unfolding variable_declaration
returns-in_err-symbol c = handed _ _ _ c.in_err-symbol.field-0.0 c.from_residual-in_err-symbol.ensures.1 (λ n. opened _ _ _ c.in_ok-_inner.ensures.inner (rw (c.in_ok-names.ensures, c.in_err-symbol.ensures n) refl))

pub returns-in_err-of : goal.returns-in_err-of
unfolding variable_declaration
returns-in_err-of c = handed _ _ _ c.in_err-of.field-0.0 c.from_residual-in_err-of.ensures.1 (λ n. opened _ _ _ c.in_ok-_inner.ensures.inner (rw (c.in_ok-names.ensures, c.in_ok-symbol.ensures, c.in_err-of.ensures n) refl))

pub returns-in_err-symbol-2 : goal.returns-in_err-symbol-2
unfolding variable_declaration
returns-in_err-symbol-2 c = handed _ _ _ c.in_err-symbol-2.field-0.0 c.from_residual-in_err-symbol-2.ensures.1 (λ n. opened _ _ _ c.in_ok-_inner.ensures.inner (rw (c.in_ok-names.ensures, c.in_ok-symbol.ensures, c.in_ok-of.ensures, c.in_err-symbol-2.ensures n) refl))

pub returns : goal.returns
unfolding variable_declaration
returns c = opened _ _ _ c.in_ok-_inner.ensures.inner (rw (c.line-line.ensures, c.in_ok-names.ensures, c.in_ok-symbol.ensures, c.in_ok-of.ensures, c.in_ok-symbol-2.ensures) refl)
