-- What the scan found is the one answer.
use Rattle.std.proofs.Common.{◌≡◌, ◌⊎◌, inl, inr, ℕ, List, length, Vec, Global, Result, Ok, Err, refl, ap}
use Rattle.std.specs.Prelude.{IfOk, IsErrOf, IsOkUnless}
use Rattle.ep_token.specs.declared.refusal.TokenRefusal.{TokenRefusal}
use Rattle.ep_token.specs.declared.refusal.TokenRefusal.TheVariants.{NoMemory}
use Rattle.ep_token.specs.declared.token.Token.{Token}
use Rattle.ep_token.specs.Tokens.{AreInOrder, Stuck, Tokens}
use Rattle.ep_token.proofs.public.TokenLaws.{tokens-one, tokens-apart, stuck-one, tokens-order}
use Rattle.ep_token.proofs.source.tokens.Goals as goal

abbrev Answer : Type 0
Answer = Result (Vec Token Global) TokenRefusal

abbrev IsRefused : List ℕ → TokenRefusal → Type 0
IsRefused source refusal = (refusal ≡ NoMemory) ⊎ ((place : ℕ) × Stuck source place refusal)

only : (source : List ℕ) (r : Answer) → IfOk r (λ v. Tokens source v.items) → IfOk r (λ v. (list : List Token) → Tokens source list → list ≡ v.items)
only source (Ok v) found = λ list tokens. tokens-one source list v.items tokens found
only source (Err e) found = tt

order : (source : List ℕ) (r : Answer) → IfOk r (λ v. Tokens source v.items) → IfOk r (λ v. AreInOrder 0 v.items (length source))
order source (Ok v) found = tokens-order source v.items found
order source (Err e) found = tt

memory : (source : List ℕ) (list : List Token) (e : TokenRefusal) → Tokens source list → IsRefused source e → e ≡ NoMemory
memory source list e tokens (inl is) = is
memory source list e tokens (inr stuck) = absurd (tokens-apart source list stuck.0 e tokens stuck.1)

accepted : (source : List ℕ) (r : Answer) (list : List Token) → Tokens source list → ((e : TokenRefusal) → IsErrOf r e → IsRefused source e) → IsOkUnless r NoMemory
accepted source (Ok v) list tokens refused = tt
accepted source (Err e) list tokens refused = memory source list e tokens (refused e refl)

same : (source : List ℕ) (place : ℕ) (refusal e : TokenRefusal) → Stuck source place refusal → IsRefused source e → (e ≡ refusal) ⊎ (e ≡ NoMemory)
same source place refusal e s (inl is) = inr is
same source place refusal e s (inr stuck) = inl (stuck-one source stuck.0 place e refusal stuck.1 s).1

err : (e f : TokenRefusal) → e ≡ f → IsErrOf {T = Vec Token Global} (Err e) f
err e f h = ap Err h

stuck : (source : List ℕ) (r : Answer) (place : ℕ) (refusal : TokenRefusal) → Stuck source place refusal → IfOk r (λ v. Tokens source v.items) → ((e : TokenRefusal) → IsErrOf r e → IsRefused source e) → IsErrOf r refusal ⊎ IsErrOf r NoMemory
stuck source (Ok v) place refusal s found refused = absurd (tokens-apart source v.items place refusal found s)
stuck source (Err e) place refusal s found refused =
    elim (same source place refusal e s (refused e refl)) [
      | inl is ↦ inl (err e refusal is)
      | inr is ↦ inr (err e NoMemory is)
    ]

pub returns-clause-only : goal.returns-clause-only
returns-clause-only c = only _ _ c.scan.ensures.found

pub returns-clause-order : goal.returns-clause-order
returns-clause-order c = order _ _ c.scan.ensures.found

pub returns-clause-accepted : goal.returns-clause-accepted
returns-clause-accepted c list tokens = accepted c.args.source.now c.scan.result list tokens c.scan.ensures.refused

pub returns-clause-stuck : goal.returns-clause-stuck
returns-clause-stuck c place refusal s = stuck c.args.source.now c.scan.result place refusal s c.scan.ensures.found c.scan.ensures.refused
