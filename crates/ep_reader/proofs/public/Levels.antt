-- What needs a level inside it, and an error that is handed on.
use Rattle.std.proofs.Common.{◌≡◌, ◌≢◌, Bool, List, Option, None, Some, Result, Ok, Err, sym, ap, refl, ◌∙◌}
use Rattle.std.specs.Result.{IsErrAnd}
use Rattle.ep_token.specs.declared.token.Token.{Token}
use Rattle.ep_grammar.specs.declared.stop.Stop.{Stop}
use Rattle.ep_grammar.specs.declared.stop.Stop.TheVariants.{NoMemory}
use Rattle.ep_grammar.specs.Classes.{Class, has, class_of}
use Rattle.ep_grammar.specs.Reading.{ReadOutcome, Parser, Inside, Reads, cause, within}

-- a level is left
pub opened : {X : Type 0} {here : Option Inside} {e : Inside} (cs : List Class) (p : Parser X) (i : List Token) {o : ReadOutcome X} → here ≡ Some e → p i ≡ o → within here cs p i ≡ o
opened {X} {here} {e} cs p i {o} h q = rw h q

-- no level is left
pub unopened : {X : Type 0} {here : Option Inside} {b : Bool} {q : Stop} (cs : List Class) (p : Parser X) (i : List Token) → (here ≡ None) × (q ≡ cause b) → b ≡ has cs (class_of i) → within here cs p i ≡ Err (q, i)
unopened {X} {here} {b} {q} cs p i h g =
    let same : q ≡ cause (has cs (class_of i)) = h.1 ∙ ap cause g in
    rw (h.0, same) refl

-- an error is handed on
pub handed : {A : Type 0} (o : ReadOutcome A) (r : Result A Stop) (new : List Token) (q : Stop) → IsErrAnd r (λ e. e ≡ q) → (q ≢ NoMemory → o ≡ Err (q, new)) → Reads o r new
handed o (Ok a) new q h f = absurd h
handed {A} o (Err e) new q h f = λ n. f (λ m. n (h ∙ m)) ∙ ap (λ w. (let x : ReadOutcome A = Err (w, new) in x)) (sym h)
