-- What a text has by its tokens.
use Rattle.std.proofs.Common.{◌≡◌, inl, inr, Err, ap}
use Rattle.std.specs.Prelude.{IsErrOf}
use Rattle.ep_token.specs.declared.refusal.TokenRefusal.{TokenRefusal}
use Rattle.ep_token.specs.declared.refusal.TokenRefusal.TheVariants.{NoMemory}
use Rattle.ep_token.proofs.public.TokenLaws.{tokens-apart}
use Rattle.ep_pieces.proofs.Once.{pieces-one, tokens-of}
use Rattle.ep_pieces.proofs.source.pieces.Goals as goal

err_is : {T : Type 0} (e f : TokenRefusal) → IsErrOf {T = T} (Err e) f → e ≡ f
err_is e f h = cc

-- the same refusal of another answer
again : {T U : Type 0} (e f : TokenRefusal) → IsErrOf {T = T} (Err e) f → IsErrOf {T = U} (Err e) f
again e f h = ap Err (err_is e f h)

pub returns-in-Err-clause-accepted : goal.returns-in-Err-clause-accepted
returns-in-Err-clause-accepted c list p =
    let tokens = tokens-of c.args.source.now list p in
    c.in-Err.ensures.accepted tokens.0 tokens.1

pub returns-in-Err-clause-stuck : goal.returns-in-Err-clause-stuck
returns-in-Err-clause-stuck c place refusal s =
    elim (c.in-Err.ensures.stuck place refusal s) [
      | inl is ↦ inl (again c.in-Err.refusal refusal is)
      | inr is ↦ inr (again c.in-Err.refusal NoMemory is)
    ]

pub returns-in_ok-pieces_of-in-Ok-clause-only : goal.returns-in_ok-pieces_of-in-Ok-clause-only
returns-in_ok-pieces_of-in-Ok-clause-only c list p = pieces-one c.args.source.now list _ p c.in_ok-pieces_of-in-Ok.ensures

pub returns-in_ok-pieces_of-in-Ok-clause-stuck : goal.returns-in_ok-pieces_of-in-Ok-clause-stuck
returns-in_ok-pieces_of-in-Ok-clause-stuck c place refusal s = absurd (tokens-apart c.args.source.now _ place refusal c.in-Ok.ensures.found s)
