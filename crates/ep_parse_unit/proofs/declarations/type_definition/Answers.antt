use Rattle.std.proofs.Common.{refl}
use Rattle.ep_grammar.specs.Declarations.{type_definition}
use Rattle.ep_reader.proofs.public.Levels.{handed, opened, unopened}
use Rattle.ep_parse_unit.proofs.declarations.type_definition.Goals as goal

pub returns-in_err-_inner : goal.returns-in_err-_inner
unfolding type_definition
returns-in_err-_inner c = handed _ _ _ c.in_err-_inner.field-0.0 c.from_residual.ensures.1 (λ n. unopened _ _ _ c.in_err-_inner.ensures.inner c.sees_name.ensures)

pub returns-in_err-name : goal.returns-in_err-name
unfolding type_definition
returns-in_err-name c = handed _ _ _ c.in_err-name.field-0.0 c.from_residual-in_err-name.ensures.1 (λ n. opened _ _ _ c.in_ok-_inner.ensures.inner (rw (c.in_err-name.ensures n) refl))

pub returns-in_err-discriminants : goal.returns-in_err-discriminants
unfolding type_definition
returns-in_err-discriminants c = handed _ _ _ c.in_err-discriminants.field-0.0 c.from_residual-in_err-discriminants.ensures.1 (λ n. opened _ _ _ c.in_ok-_inner.ensures.inner (rw (c.in_ok-name.ensures, c.in_err-discriminants.ensures n) refl))

pub returns-in_err-symbol : goal.returns-in_err-symbol
unfolding type_definition
returns-in_err-symbol c = handed _ _ _ c.in_err-symbol.field-0.0 c.from_residual-in_err-symbol.ensures.1 (λ n. opened _ _ _ c.in_ok-_inner.ensures.inner (rw (c.in_ok-name.ensures, c.in_ok-discriminants.ensures, c.in_err-symbol.ensures n) refl))

pub returns-in_err-of : goal.returns-in_err-of
unfolding type_definition
returns-in_err-of c = handed _ _ _ c.in_err-of.field-0.0 c.from_residual-in_err-of.ensures.1 (λ n. opened _ _ _ c.in_ok-_inner.ensures.inner (rw (c.in_ok-name.ensures, c.in_ok-discriminants.ensures, c.in_ok-symbol.ensures, c.in_err-of.ensures n) refl))

pub returns-in_err-symbol-2 : goal.returns-in_err-symbol-2
unfolding type_definition
returns-in_err-symbol-2 c = handed _ _ _ c.in_err-symbol-2.field-0.0 c.from_residual-in_err-symbol-2.ensures.1 (λ n. opened _ _ _ c.in_ok-_inner.ensures.inner (rw (c.in_ok-name.ensures, c.in_ok-discriminants.ensures, c.in_ok-symbol.ensures, c.in_ok-of.ensures, c.in_err-symbol-2.ensures n) refl))

pub returns : goal.returns
unfolding type_definition
returns c = opened _ _ _ c.in_ok-_inner.ensures.inner (rw (c.line-line.ensures, c.in_ok-name.ensures, c.in_ok-discriminants.ensures, c.in_ok-symbol.ensures, c.in_ok-of.ensures, c.in_ok-symbol-2.ensures) refl)
