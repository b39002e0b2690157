-- What a parser of a description answers.
use Rattle.std.specs.Prelude.{◌≡◌, ◌≢◌, ℕ, zero, suc, Bool, true, false, if◌then◌else◌, List, [], ◌∷◌, ◌++◌, length}
use Rattle.std.specs.Prelude.{Option, Some, None, Result, Ok, Err}
use Rattle.ep_token.specs.declared.token.Token.{Token}
use Rattle.ep_grammar.specs.declared.stop.Stop.{Stop}
use Rattle.ep_grammar.specs.declared.stop.Stop.TheVariants as stop
use Rattle.ep_grammar.specs.Classes.{Class, Sort, carried, has, class_of, line_of, after_first, meaning}
use Rattle.ep_grammar.specs.Descriptions.{Nonterminal, Node, Step, More, Last, Syntax, give, token, line, inside}
use Rattle.ep_grammar.specs.Descriptions.{apply, either, switch, row, deeper, shaped}

-- what was read and the tokens that are left, or the cause and the tokens from the refused one on
abbrev pub ReadOutcome : Type 0 → Type 0
ReadOutcome A = Result (A × List Token) (Stop × List Token)

abbrev pub Parser : Type 0 → Type 0
Parser A = List Token → ReadOutcome A

abbrev pub and_then : {A B : Type 0} → ReadOutcome A → (A → Parser B) → ReadOutcome B
and_then (Ok p) f = f p.0 p.1
and_then (Err e) f = Err e

abbrev pub taken : {A : Type 0} → Option A → Parser A
taken None i = Err (stop.Syntax, i)
taken (Some x) i = Ok (x, after_first i)

-- what the next token means under a sort
abbrev pub peek : (s : Sort) → List Token → Option (carried s)
peek s [] = None
peek s (t ∷ ts) = meaning s t.kind

abbrev pub read_token : (s : Sort) → Parser (carried s)
read_token s i = taken (peek s i) i

abbrev pub go_on : {A B : Type 0} → (List A → Parser (List A × B)) → List A → Step A B → Parser (List A × B)
go_on more found (More x) = more (found ++ x ∷ [])
go_on more found (Last q) = λ i. Ok ((found, q), i)

-- The steps of a row, after the items that were found. The number bounds the turns, and each turn takes a token, so
-- the count of the tokens is enough.
unfoldable pub steps : {A B : Type 0} → List Class → Parser (Step A B) → B → ℕ → List A → Parser (List A × B)
steps cs step r zero found = λ i. Ok ((found, r), i)
steps cs step r (suc n) found =
    λ i. if has cs (class_of i) then and_then (step i) (go_on (steps cs step r n) found) else Ok ((found, r), i)

abbrev pub Inside : Type 0
Inside = (n : Nonterminal) → Parser (Node n)

abbrev pub read_inside : Option Inside → (n : Nonterminal) → Parser (Node n)
read_inside None n = λ i. Err (stop.Nested, i)
read_inside (Some e) n = e n

abbrev pub cause : Bool → Stop
cause true = stop.Nested
cause false = stop.Syntax

-- no level is left: a token that would open one is refused for that
abbrev pub within : {X : Type 0} → Option Inside → List Class → Parser X → Parser X
within None cs p = λ i. Err (cause (has cs (class_of i)), i)
within (Some e) cs p = p

-- goes on by a shape, or as if it had not
abbrev pub by_shape : {C X : Type 0} → Option C → Parser (C → X) → Parser X → Parser X
by_shape None p q = q
by_shape (Some c) p q = λ j. and_then (p j) (λ h k. Ok (h c, k))

abbrev pub refused : {X : Type 0} → Parser X
refused = λ j. Err (stop.Syntax, j)

-- by what may stand one level deeper, if something may
abbrev pub read : Option Inside → {X : Type 0} → Syntax X → Parser X
read e (give x) = λ i. Ok (x, i)
read e (token s) = read_token s
read e line = λ i. Ok (line_of i, i)
read e (inside n) = read_inside e n
read e (apply s t) = λ i. and_then (read e s i) (λ f j. and_then (read e t j) (λ x k. Ok (f x, k)))
read e (either cs s t) = λ i. if has cs (class_of i) then read e s i else read e t i
read e (switch cs s t) = λ i. if has cs (class_of i) then read e s i else read e t i
read e (row s cs t r) = λ i. and_then (read e s i) (λ found j. steps cs (read e t) r (length j) found j)
read e (deeper cs s) = within e cs (read e s)
read e (shaped s f cs t g u o) =
    λ i. and_then (read e s i) (λ y j.
    if has cs (class_of j)
    then by_shape (f y) (read e t) (by_shape (g y) (read e u) refused) j
    else by_shape (g y) (read e u) refused j)

-- what a function that parses ensures: the outcome, unless memory is wanting
abbrev pub Reads : {A : Type 0} → ReadOutcome A → Result A Stop → List Token → Type 0
Reads outcome (Ok a) new = outcome ≡ Ok (a, new)
Reads outcome (Err e) new = e ≢ stop.NoMemory → outcome ≡ Err (e, new)

-- the same outcome with another meaning
abbrev pub applied : {A B : Type 0} → (A → B) → ReadOutcome A → ReadOutcome B
applied g o = and_then o (λ x k. Ok (g x, k))

-- what a function that parses a list ensures, which adds it to another
abbrev pub ReadsOnto : {A : Type 0} → List A → ReadOutcome (List A) → Result (List A) Stop → List Token → Type 0
ReadsOnto before outcome (Ok all) new = (more : List _) × (outcome ≡ Ok (more, new)) × (all ≡ before ++ more)
ReadsOnto before outcome (Err e) new = e ≢ stop.NoMemory → outcome ≡ Err (e, new)

-- the items of a row, after those that were found
abbrev pub turns : {A B : Type 0} → List Class → Parser (Step A B) → B → ℕ → List A → Parser (List A)
turns cs step r n found = λ i. and_then (steps cs step r n found i) (λ p k. Ok (p.0, k))

-- the same for a list with what follows it, of which a node is made
abbrev pub ReadsInto :
    {A B X : Type 0} → (List A → B → X) → List A → ReadOutcome (List A × B) → Result X Stop → List Token → Type 0
ReadsInto node before outcome (Ok x) new =
    (more : List _ × _) × (outcome ≡ Ok (more, new)) × (x ≡ node (before ++ more.0) more.1)
ReadsInto node before outcome (Err e) new = e ≢ stop.NoMemory → outcome ≡ Err (e, new)
