-- How an outcome comes about.
use Rattle.std.proofs.Common.{◌≡◌, List, Ok, Err, refl, ap}
use Rattle.ep_token.specs.declared.token.Token.{Token}
use Rattle.ep_grammar.specs.declared.stop.Stop.{Stop}
use Rattle.ep_grammar.specs.Reading.{ReadOutcome, Parser, and_then}

abbrev pub took : {A : Type 0} → A → List Token → ReadOutcome A
took x b = Ok (x, b)

abbrev pub stopped : {A : Type 0} → Stop → List Token → ReadOutcome A
stopped e b = Err (e, b)

pub never : {A : Type 0} {X : Type 0} {e : Stop} {x : A} {b c : List Token} → stopped e b ≡ took x c → X
never h = absurd (cc)

pub never_stops : {A : Type 0} {X : Type 0} {e : Stop} {x : A} {b c : List Token} → took x b ≡ stopped e c → X
never_stops h = absurd (cc)

pub bind_ok : {A B : Type 0} {e : B} {c : List Token} (o : ReadOutcome A) (f : A → Parser B) → and_then o f ≡ took e c → (x : A) × (b : List Token) × (o ≡ took x b) × (f x b ≡ took e c)
bind_ok (Ok p) f h = (p.0, p.1, refl, h)
bind_ok (Err e) f h = never h

pub same_took : {A : Type 0} {x e : A} {b c : List Token} → took x b ≡ took e c → (x ≡ e) × (b ≡ c)
same_took {A} {x} {e} {b} {c} h =
    let q : (x, b) ≡ (e, c) = cc in
    (ap (λ (w : A × List Token). w.0) q, ap (λ (w : A × List Token). w.1) q)
