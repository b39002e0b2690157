-- What stands in a text where its first token comes next, and is left out elsewhere.
use Rattle.std.specs.Prelude.{◌≡◌, ℕ, Bool, true, false, if◌then◌else◌, List, [], ◌∷◌, Option, MatchOption, Ok}
use Rattle.ep_token.specs.declared.token.Token.{Token}
use Rattle.ep_grammar.specs.Classes.{Sort, Word, exactly, carried, classes, has, class_of}
use Rattle.ep_grammar.specs.Reading.{Parser, and_then, read_token}

-- a function that reads an operator of this sort: `None` with the tokens as they were where none comes next, and else
-- what the sort reads of them
abbrev pub ReadsOperator : (s : Sort) → Option (carried s) → List Token → List Token → Type 0
ReadsOperator s result old new =
    MatchOption result ((has (classes s) (class_of old) ≡ false) × (new ≡ old))
    (λ found. (has (classes s) (class_of old) ≡ true) × (read_token s old ≡ Ok (found, new)))

-- whether this word symbol comes next, which is then passed over
abbrev pub flag_by : ℕ → Parser Bool
flag_by w = λ i.
    if has (Word w ∷ []) (class_of i) then and_then (read_token (exactly (Word w)) i) (λ x k. Ok (true, k))
    else Ok (false, i)
