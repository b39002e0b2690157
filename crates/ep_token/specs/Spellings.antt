-- Looking up a text in a list of spellings.
use Rattle.std.specs.Prelude.{ℕ, List, Option}
use Rattle.std.specs.List.{position_from}
use Rattle.std.specs.Str.{bytes_eq}

-- the first place of a text in a list of texts
abbrev pub place_of : List (List ℕ) → List ℕ → Option ℕ
place_of spellings text = position_from (λ spelling. bytes_eq spelling text) 0 spellings
