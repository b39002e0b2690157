-- Outcomes that follow one another.
use Rattle.std.proofs.Common.{◌≡◌, Bool, true, false, if◌then◌else◌, List, Ok, Err, refl, sym, ap}
use Rattle.ep_token.specs.declared.token.Token.{Token}
use Rattle.ep_grammar.specs.declared.stop.Stop.{Stop}
use Rattle.ep_grammar.specs.Reading.{ReadOutcome, Parser, and_then, applied}

-- by a test that holds, or does not
pub chosen : {X : Type 0} {b : Bool} (o p : ReadOutcome X) → b ≡ true → (if b then o else p) ≡ o
chosen o p h = rw h refl

pub passed : {X : Type 0} {b : Bool} (o p : ReadOutcome X) → b ≡ false → (if b then o else p) ≡ p
passed o p h = rw h refl

-- one class alone
pub one_class : (b v : Bool) → v ≡ b → (if b then true else false) ≡ v
one_class b v h = rw (← h) (elim v as (λ w. (if w then true else false) ≡ w) [ true ↦ refl | false ↦ refl ])

-- one outcome after another, in either order of the brackets
pub assoc : {A B C : Type 0} (o : ReadOutcome A) (f : A → Parser B) (g : B → Parser C) → and_then (and_then o f) g ≡ and_then o (λ x i. and_then (f x i) g)
assoc (Ok p) f g = refl
assoc (Err e) f g = refl

pub applied_ok : {A B : Type 0} (g : A → B) (o : ReadOutcome A) (y : B) (j : List Token) → applied g o ≡ Ok (y, j) → (x : A) × (o ≡ Ok (x, j)) × (y ≡ g x)
applied_ok g (Ok p) y j h =
    let q : (g p.0, p.1) ≡ (y, j) = cc in
    (p.0, ap (λ (w : _ × List Token). Ok (p.0, w.1)) q, sym (ap (λ (w : _ × List Token). w.0) q))
applied_ok g (Err e) y j h = absurd (cc)

pub applied_err : {A B : Type 0} (g : A → B) (o : ReadOutcome A) (e : Stop) (j : List Token) → applied g o ≡ Err (e, j) → o ≡ Err (e, j)
applied_err g (Ok p) e j h = absurd (cc)
applied_err {A} g (Err e) f j h = let q : e ≡ (f, j) = cc in ap (λ w. (let o : ReadOutcome A = Err w in o)) q
