-- One piece more is read, within the text.
use Rattle.std.proofs.Common.{◌≡◌, ◌⊎◌, ◌+◌, ℕ, sym, subst, arith}
use Rattle.std.proofs.lemmas.Result.{err_from_is_err_and}
use Rattle.ep_token.specs.declared.refusal.TokenRefusal.{TokenRefusal}
use Rattle.ep_token.specs.declared.refusal.TokenRefusal.TheVariants.{NoMemory}
use Rattle.ep_token.specs.Tokens.{Stuck}
use Rattle.ep_token.proofs.public.TokenLaws.{Reached, piece-within, piece-slice, step-found, step-stuck}
use Rattle.ep_token.proofs.source.scan.Goals as goal

pub returns-in_err-len-clause-refused : goal.returns-in_err-len-clause-refused
returns-in_err-len-clause-refused c refusal is =
    let p = err_from_is_err_and c.from_residual.result c.from_residual.ensures.1 in
    let same : c.in_err-len.field-0.0 ≡ refusal = cc (p.1, p.2, is) in
    subst (λ (e : TokenRefusal). (e ≡ NoMemory) ⊎ ((at : ℕ) × Stuck c.args.source.now at e)) same (step-stuck _ _ _ _ _ c.loop-place.invariant c.loop-place-test.true c.in_err-len.ensures)

pub overflow_add-place : goal.overflow_add-place
overflow_add-place c = let within = piece-within _ _ _ _ _ c.loop-place-test.true c.in_ok-len.ensures in omega (arith, within.0, c.requires)

pub overflow_cast-place-in-loop-place : goal.overflow_cast-place-in-loop-place
overflow_cast-place-in-loop-place c = let within = piece-within _ _ _ _ _ c.loop-place-test.true c.in_ok-len.ensures in omega (arith, within.0, c.requires)

pub slice_bounds-line_ends-end : goal.slice_bounds-line_ends-end
slice_bounds-line_ends-end c = piece-slice _ _ _ _ _ c.loop-place-test.true c.in_ok-len.ensures

pub overflow_add-place-in-loop-place : goal.overflow_add-place-in-loop-place
overflow_add-place-in-loop-place c = let within = piece-within _ _ _ _ _ c.loop-place-test.true c.in_ok-len.ensures in omega (arith, within.0, c.requires)

pub loop-place-smaller : goal.loop-place-smaller
loop-place-smaller c = let within = piece-within _ _ _ _ _ c.loop-place-test.true c.in_ok-len.ensures in omega (arith, within.0, within.1)

pub loop-place-preserved : goal.loop-place-preserved
loop-place-preserved c =
    subst (λ k. Reached c.args.source.now c.push_token.new.found.items (c.loop-place.place + c.in_ok-len.len) (c.loop-place.line + k)) (sym c.line_ends-line.ensures)
    (step-found _ _ _ _ _ _ _ c.loop-place.invariant c.loop-place-test.true c.in_ok-len.ensures c.in_ok-push_token.ensures)
