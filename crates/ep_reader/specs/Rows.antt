-- Rows of items, by the parser that reads one item.
use Rattle.std.specs.Prelude.{◌≡◌, ℕ, List, [], ◌∷◌, length, Result, Ok, Option, Some, None, if◌then◌else◌}
use Rattle.std.specs.Borrow.{MutBor}
use Rattle.std.specs.Fn.{Shared}
use Rattle.ep_token.specs.declared.symbol.TheConstants as symbols
use Rattle.ep_token.specs.declared.token.Token.{Token}
use Rattle.ep_grammar.specs.declared.stop.Stop.{Stop}
use Rattle.ep_grammar.specs.Classes.{Class, Symbol, exactly, has, class_of}
use Rattle.ep_grammar.specs.Descriptions.{Step, More, Last}
use Rattle.ep_grammar.specs.Reading.{Parser, Reads, and_then, read_token, steps}

-- a call of f at a `&mut` to these tokens may give r, and leave those
pub record CalledAt
    {F R : Type 0} (g : Shared F (MutBor (List Token) × Unit {0}) (R × (MutBor (List Token) × Unit {0})))
    (f : F) (i : List Token) (r : R) (j : List Token) : Type 0 where
  pub shown : MutBor (List Token)
  pub shows : shown.now ≡ i
  pub left : MutBor (List Token)
  pub met : g.post f (shown, tt) (r, (left, tt))
  pub leaves : left.now ≡ j

-- each call of the closure reads what this parser does
abbrev pub ReadsBy : {F T : Type 0}
    → Shared F (MutBor (List Token) × Unit {0}) (Result T Stop × (MutBor (List Token) × Unit {0}))
    → F → Parser T → Type 0
ReadsBy {F} {T} g f p = (i j : List Token) (r : Result T Stop) → CalledAt g f i r j → Reads (p i) r j

-- the items of a row after those that were found
abbrev pub from_found : {A B : Type 0} → List Class → Parser (Step A B) → B → List A → Parser (List A)
from_found cs step r found = λ i. and_then (steps cs step r (length i) found i) (λ w k. Ok (w.0, k))

-- a step that is an item
abbrev pub item_by : {A : Type 0} → Parser A → Parser (Step A (Unit {0}))
item_by p = λ i. and_then (p i) (λ x k. Ok (More x, k))

-- a step that is an item after this symbol
abbrev pub item_after_by : {A : Type 0} → ℕ → Parser A → Parser (Step A (Unit {0}))
item_after_by {A} n p = λ i.
    and_then {A = A → Step A (Unit {0})}
    (and_then (read_token (exactly (Symbol n)) i) (λ u k. Ok ((λ x. More x), k)))
    (λ f j. and_then (p j) (λ x k. Ok (f x, k)))

-- an item where one begins, and nothing elsewhere
abbrev pub optional_by : {A : Type 0} → List Class → Parser A → Parser (Option A)
optional_by cs p = λ i. if has cs (class_of i) then and_then (p i) (λ x k. Ok (Some x, k)) else Ok (None, i)

-- a step that is an item after a semicolon, or a semicolon at the end
abbrev pub item_or_end_by : {A : Type 0} → List Class → Parser A → Parser (Step A (Unit {0}))
item_or_end_by {A} cs p = λ i.
    and_then {A = Step A (Unit {0}) → Step A (Unit {0})}
    (and_then (read_token (exactly (Symbol symbols.SEMICOLON)) i) (λ u k. Ok ((λ x. x), k)))
    (λ f j.
    and_then (if has cs (class_of j) then and_then (p j) (λ x k. Ok (More x, k)) else Ok (Last (tt {0}), j))
    (λ x k. Ok (f x, k)))

-- an item, and then steps, each where the next token is of one of these classes
abbrev pub row_by : {A : Type 0} → Parser A → List Class → Parser (Step A (Unit {0})) → Parser (List A)
row_by p cs step = λ i.
    and_then
    (and_then (and_then (p i) (λ x k. Ok (x ∷ [], k))) (λ found j. steps cs step (tt {0}) (length j) found j))
    (λ w k. Ok (w.0, k))

-- `item { item }`
abbrev pub some_by : {A : Type 0} → List Class → Parser A → Parser (List A)
some_by cs p = row_by p cs (item_by p)

-- `item { symbol item }`
abbrev pub separated_by : {A : Type 0} → ℕ → Parser A → Parser (List A)
separated_by n p = row_by p (Symbol n ∷ []) (item_after_by n p)

-- `{ item }`, after the items that were found
abbrev pub many_by : {A : Type 0} → List Class → Parser A → List A → Parser (List A)
many_by cs p = from_found cs (item_by p) (tt {0})

-- `{ ";" item } [ ";" ]`, after the items that were found
abbrev pub closed_by : {A : Type 0} → List Class → Parser A → List A → Parser (List A)
closed_by cs p = from_found (Symbol symbols.SEMICOLON ∷ []) (item_or_end_by cs p) (tt {0})
